-- Laws of LOCAL.
use Rattle.std.proofs.Common.{◌≡◌, ℕ, List, [], ◌∷◌, Some, refl, ap, bytes_eq, cond}
use Rattle.indexmap.specs.IndexMap.{insert_entry}
use Rattle.std.specs.Map.{lookup}
use Rattle.floyd_stub_assert.specs.declared.term.Term.{Term}
use Rattle.floyd_stub_assert.specs.LocalTerms.{Locals, term_of, with_local}

pub set_is : (ls : Locals) (x : List ℕ) (t : Term) → insert_entry bytes_eq ls x t ≡ with_local x t ls
set_is [] x t = refl
set_is (l ∷ ls) x t = ap (λ r. cond (bytes_eq x l.0) ((l.0, t) ∷ ls) (l ∷ r)) (set_is ls x t)

pub get_is : (ls : Locals) (x : List ℕ) → lookup (bytes_eq x) ls ≡ term_of x ls
get_is [] x = refl
get_is (l ∷ ls) x = ap (λ r. cond (bytes_eq x l.0) (Some l.1) r) (get_is ls x)
