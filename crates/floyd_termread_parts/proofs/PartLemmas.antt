-- A share that is written.
use Rattle.std.proofs.Common.{◌≡◌, ℕ, Bool, false, List, Some, sym, subst}
use Rattle.floyd_lex.specs.declared.kinds.Punctuator.TheVariants as p
use Rattle.floyd_lex.specs.Token.{TokenList}
use Rattle.floyd_tree.specs.Plain.{Plain}
use Rattle.floyd_tree_sorts.specs.declared.sorts.Sort.{Z}
use Rattle.floyd_termread_scope.specs.Scopes.{Env}
use Rattle.floyd_termread_phrases.specs.Reads.{Answer, pure, ◌>>=◌, ◌>>◌}
use Rattle.floyd_termread_phrases.specs.Phrases as phrase
use Rattle.floyd_termread_marks.specs.Marks.{begins_type, chosen, is_next, mark}
use Rattle.floyd_termread_parts.specs.Objects.{share, sixteen}

pub share_second : (bytes : List ℕ) (list : TokenList) (depth : ℕ) (env : Env) (at : ℕ) → is_next bytes list begins_type at ≡ false
    → (a : Answer Plain) → (phrase.term bytes list depth env (Some Z) >>= λ t. mark bytes list depth p.Comma >> pure t) at a → share bytes list depth env at a
share_second bytes list depth env at e a d =
    subst (λ (b : Bool). chosen b (pure sixteen) (phrase.term bytes list depth env (Some Z) >>= λ t. mark bytes list depth p.Comma >> pure t) at a) (sym e) d
