-- The sort of a well sorted term, by its head alone or by its row.
use Rattle.std.proofs.Common.{◌≡◌, Bool, true, false, List, [], ◌∷◌, Option, Some, None, is_some, refl, ap, sym, ◌∙◌}
use Rattle.std.specs.Prelude.{option_and_then, if◌then◌else◌, Ok}
use Rattle.floyd_tree_sorts.specs.declared.heads.Head.{Head}
use Rattle.floyd_tree_sorts.specs.declared.heads.Head.TheVariants.{Literal, Variable, Gv, Lv, Nil, Leaf, Signed, Unsigned, Default, Fun, Operator}
use Rattle.floyd_tree_sorts.specs.declared.sorts.Sort.{Sort, Z}
use Rattle.floyd_tree_sorts.specs.Table.{sort_at, when, alone, of_number}
use Rattle.floyd_text.specs.declared.place.Place.{Place}
use Rattle.floyd_tree.specs.declared.stop.MakeStop.TheVariants.{IllSorted, TooLarge}
use Rattle.floyd_tree.specs.Made.{fault_at, fits, unless}
use Rattle.floyd_tree.specs.Plain.{Plain, Plains, At}
use Rattle.floyd_tree.specs.WellSorted.{sort_of, sorts_of}
use Rattle.floyd_termread_wants.specs.declared.wants.Wanted.{Wanted}
use Rattle.floyd_termread_wants.specs.Judging.{refuse}
use Rattle.floyd_termread_wants.specs.Making.{taken, placed}
use Rattle.floyd_termread_wants.specs.Refusals.{ill_sorted, too_large}
use Rattle.floyd_termread_wants.specs.MakingClauses.{fixed_sort, operator_sort}
use Rattle.floyd_termread_wants.specs.Wants.{takes, takes_by, takes_sorted}

when_is : (test : Bool) (s : Sort) → is_some (when test s) ≡ true → when test s ≡ Some s
when_is true s h = refl
when_is false s h = cc

alone_is : (s : Sort) (sorts : List Sort) → is_some (alone s sorts) ≡ true → alone s sorts ≡ Some s
alone_is s [] h = refl
alone_is s (a ∷ more) h = cc

number_is : (sorts : List Sort) → is_some (of_number sorts) ≡ true → of_number sorts ≡ Some Z
number_is [] h = cc
number_is (a ∷ []) h = when_is _ Z h
number_is (a ∷ b ∷ more) h = cc

-- a head that takes the sorts gives the sort that it has by itself
fixed_at : (head : Head) (sorts : List Sort) (s : Sort) → fixed_sort head ≡ Some s → is_some (sort_at head sorts) ≡ true → sort_at head sorts ≡ Some s
fixed_at (Literal z) sorts s e h = alone_is _ sorts h ∙ e
fixed_at (Variable x t) sorts s e h = alone_is _ sorts h ∙ e
fixed_at (Gv x) sorts s e h = alone_is _ sorts h ∙ e
fixed_at (Lv x) sorts s e h = alone_is _ sorts h ∙ e
fixed_at (Nil t) sorts s e h = alone_is _ sorts h ∙ e
fixed_at (Leaf t) sorts s e h = alone_is _ sorts h ∙ e
fixed_at (Signed w) sorts s e h = number_is sorts h ∙ e
fixed_at (Unsigned w) sorts s e h = number_is sorts h ∙ e
fixed_at (Default shape t) sorts s e h = when_is _ t h ∙ e
fixed_at (Fun name arguments t) sorts s e h = when_is _ t h ∙ e
fixed_at (Operator op) sorts s e h = cc

fixed_in : (head : Head) (sorts : Option (List Sort)) (s : Sort) → fixed_sort head ≡ Some s → is_some (option_and_then (sort_at head) sorts) ≡ true
    → option_and_then (sort_at head) sorts ≡ Some s
fixed_in head None s e h = cc
fixed_in head (Some sorts) s e h = fixed_at head sorts s e h

pub takes_fixed : (wanted : Wanted) (head : Head) (kids : Plains) (s : Sort) → fixed_sort head ≡ Some s → is_some (sort_of (At head kids)) ≡ true
    → takes_sorted wanted head s ≡ takes wanted (At head kids)
takes_fixed wanted head kids s e h = sym (ap (takes_by wanted head) (fixed_in head (sorts_of kids) s e h))

row_in : (head : Head) (sorts : Option (List Sort)) → fixed_sort head ≡ None → operator_sort head sorts ≡ option_and_then (sort_at head) sorts
row_in (Operator op) None e = refl
row_in (Operator op) (Some sorts) e = refl
row_in head sorts e = cc

pub takes_row : (wanted : Wanted) (head : Head) (kids : Plains) → fixed_sort head ≡ None
    → takes_by wanted head (operator_sort head (sorts_of kids)) ≡ takes wanted (At head kids)
takes_row wanted head kids e = ap (takes_by wanted head) (row_in head (sorts_of kids) e)

-- a term that was made, in place of what it was made as
made_is : (sorted small : Bool) (t made : Plain) → unless (if sorted then (if small then None else Some TooLarge) else Some IllSorted) t ≡ Ok made → (made ≡ t) × (small ≡ true)
made_is true true t made e = (cc, refl)
made_is true false t made e = absurd cc
made_is false small t made e = absurd cc

pub made_taken : (wanted : Wanted) (place : Place) (t made : Plain) → unless (fault_at t) t ≡ Ok made → taken wanted place made ≡ placed wanted place t
made_taken wanted place t made e =
    let p = made_is (is_some (sort_of t)) (fits t) t made e in
    ap (taken wanted place) p.0
    ∙ sym (ap (λ (small : Bool). if takes wanted t then (if small then Ok t else refuse (too_large place)) else refuse (ill_sorted place)) p.1)
