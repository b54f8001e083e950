use Rattle.std.proofs.Common.{◌∷◌, List, drop, refl, sym, ◌∙◌, ap}
use Rattle.floyd_cparse_tokens.specs.Tokens.{Sight}
use Rattle.floyd_cparse_tokens.specs.SeenClauses.{sight_at}
use Rattle.floyd_cparse_tokens.proofs.SightLemmas.{from_here, from_end}
use Rattle.floyd_cparse_tokens.proofs.sight.Reader.peek.Goals as goal

pub returns-in-Some-clause-ok : goal.returns-in-Some-clause-ok
returns-in-Some-clause-ok c =
    let here = sym c.self.view_is ∙ from_here c.self.inside.bytes.now c.self.inside.tokens.now c.self.inside.at c.in-Some.kind (sym c.kind.ensures ∙ c.in-Some.is) in
    here ∙ ap (λ (z : List Sight). sight_at c.self.inside.bytes.now c.self.inside.tokens.now c.self.inside.at ∷ drop 1 z) (sym here)

pub returns-in-None-clause-err : goal.returns-in-None-clause-err
returns-in-None-clause-err c = (sym c.self.view_is ∙ from_end c.self.inside.bytes.now c.self.inside.tokens.now c.self.inside.at (sym c.kind.ensures ∙ c.in-None.is), refl)
