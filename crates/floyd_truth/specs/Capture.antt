-- When a binder would capture a variable of a term that is put below it, and the name that it then gets.
use Rattle.std.specs.Prelude.{ℕ, zero, suc, ◌+◌, ◌^◌, Bool, false, not, ◌&&◌, ◌||◌, if◌then◌else◌, List, [], ◌∷◌, ◌++◌, Option, Some, None, bytes_eq, codes}
use Rattle.std.specs.Fmt.{decimal}
use Rattle.std.specs.List.{list_any}
use Rattle.std.specs.Map.{lookup}
use Rattle.floyd_tree_sorts.specs.declared.connectives.FormulaHead.{FormulaHead}
use Rattle.floyd_tree_sorts.specs.Heads.{binds}
use Rattle.floyd_tree.specs.Formulas.{PlainFormula, PlainFormulas, Says, NoFormula, MoreFormulas, formulas_mention}
use Rattle.floyd_tree.specs.Plain.{Plain, mentions}

-- what becomes of a variable: a term stands in its place, or it is bound and has this name now
pub data Becomes : Type 0 where
  Put : (term : Plain) → Becomes
  Called : (name : List ℕ) → Becomes

-- what becomes of variables; the first one of a name counts, so that a binder goes to the front
abbrev pub Changes : Type 0
Changes = List (List ℕ × Becomes)

-- whether x is free in what stands in a variable's place
abbrev pub brings : List ℕ → Option Becomes → Bool
brings x (Some (Put t)) = mentions x t
brings x become = false

-- Whether a binder of x would capture: some variable that is replaced is free in what the binder covers, and x is free
-- in its term. `covers` says of a name whether it is free there.
abbrev pub captures : Changes → (List ℕ → Bool) → List ℕ → Bool
captures changes covers x = list_any (λ (c : List ℕ × Becomes). brings x (lookup (bytes_eq c.0) changes) && (not (bytes_eq x c.0) && covers c.0)) changes

-- x'k
abbrev pub marked : List ℕ → ℕ → List ℕ
marked x k = x ++ codes "'" ++ decimal k

-- how many of these names are tried: more than there are nodes
unfoldable pub most_marks : ℕ
most_marks = 2 ^ 63

-- x'k with the least number from k on whose name is not taken
abbrev pub unmarked_from : (List ℕ → Bool) → List ℕ → ℕ → ℕ → List ℕ
unmarked_from taken x zero k = marked x k
unmarked_from taken x (suc tries) k = if taken (marked x k) then unmarked_from taken x tries (k + 1) else marked x k

-- whether the name is free in one of the new terms
abbrev pub in_new_terms : Changes → List ℕ → Bool
in_new_terms changes name = list_any (λ (c : List ℕ × Becomes). brings name (Some c.1)) changes

-- The name that a binder of x gets: x unless it would capture, else x'k with the least k from 1 that is free in no new
-- term and not taken, which means free or bound in what the binder covers or bound in the same list.
abbrev pub new_name : Changes → (List ℕ → Bool) → (List ℕ → Bool) → List ℕ → List ℕ
new_name changes covers taken x = if captures changes covers x then unmarked_from (λ name. in_new_terms changes name || taken name) x most_marks 1 else x

-- whether the name is bound somewhere in a formula
abbrev mutual
  pub bound_in : List ℕ → PlainFormula → Bool
  bound_in x (Says head terms kids) = binds x head || bound_in_some x kids

  pub bound_in_some : List ℕ → PlainFormulas → Bool
  bound_in_some x NoFormula = false
  bound_in_some x (MoreFormulas f fs) = bound_in x f || bound_in_some x fs

-- the new name of a binder over these formulas
abbrev pub renamed : Changes → PlainFormulas → List ℕ → List ℕ
renamed changes kids x = new_name changes (λ y. formulas_mention y kids) (λ name. formulas_mention name kids || bound_in_some name kids) x
