use Rattle.std.proofs.Common.{◌≡◌, ℕ, List, Option, subst, sym, ap, ◌∙◌}
use Rattle.floyd_lex.specs.Token.{Token, tokens_in}
use Rattle.floyd_check_stub.specs.Forms.{ReadsAs, IsSpec, texts}
use Rattle.floyd_check_stub.specs.ReadingClauses.{spec_of}
use Rattle.floyd_check_stub.proofs.SpecForm.{spec_reads}
use Rattle.floyd_check_stub.proofs.specifications.read_spec.Goals as goal

pub returns : goal.returns
returns c =
    let ts = tokens_in c.args.bytes.now c.args.tokens.now in
    let is : c.number_of.result ≡ spec_of (texts ts) = c.number_of.ensures ∙ ap (λ (l : List Token). spec_of (texts l)) c.all_of.ensures in
    subst (λ (o : Option ℕ). ReadsAs (IsSpec ts) o) (sym is) (spec_reads ts)
