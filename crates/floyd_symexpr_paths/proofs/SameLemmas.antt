-- Two types are one exactly where the test says so.
use Rattle.std.proofs.Common.{◌≡◌, IsTrue, ◌↔◌, Bool, true, false, refl, sym, ap, ◌∙◌}
use Rattle.std.proofs.lemmas.Bool.{eqb-true, eq-eqb}
use base.Stored.{Gv, gnil, gnum, gcons}
use Rattle.floyd_tree_sorts.proofs.SortLemmas.{both_true}
use Rattle.floyd_tree.specs.Types.{SizedType}
use Rattle.floyd_arith.specs.Same.{same_code}
use Rattle.floyd_symexpr_paths.specs.Same.{coded_types, same_type}

same_code_true : (a b : Gv) → same_code a b ≡ true → a ≡ b
same_code_true gnil gnil e = refl
same_code_true (gnum m) (gnum n) e = ap gnum (eqb-true m n e)
same_code_true (gcons a b) (gcons c d) e =
    let both = both_true (same_code a c) (same_code b d) e in
    ap (λ x. gcons x b) (same_code_true a c both.0) ∙ ap (gcons c) (same_code_true b d both.1)
same_code_true a b e = absurd cc

same_code_self : (a : Gv) → same_code a a ≡ true
same_code_self gnil = refl
same_code_self (gnum m) = eq-eqb m m refl
same_code_self (gcons a b) = rw (same_code_self a) (same_code_self b)

pub same_type_true : (t u : SizedType) → same_type t u ≡ true → t ≡ u
unfolding same_type
same_type_true t u e = coded_types.inj t u (same_code_true (coded_types.code t) (coded_types.code u) e)

pub same_type_self : (t : SizedType) → same_type t t ≡ true
unfolding same_type
same_type_self t = same_code_self (coded_types.code t)

not_same : (r : Bool) → (r ≡ true → ⊥) → r ≡ false
not_same true e = absurd (e refl)
not_same false e = refl

-- what the program finds is what the test says
pub same_type_test : (r : Bool) (t u : SizedType) → (IsTrue r ↔ (t ≡ u)) → same_type t u ≡ r
same_type_test true t u e = ap (λ x. same_type t x) (sym (e.0 refl)) ∙ same_type_self t
same_type_test false t u e = not_same (same_type t u) (λ same. let wrong : false ≡ true = e.1 (same_type_true t u same) in cc)
