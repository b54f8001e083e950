-- Two terms are the same tree exactly where the test says so.
use Rattle.std.proofs.Common.{◌≡◌, IsTrue, ◌↔◌, Bool, true, false, refl, sym, ap, ◌∙◌}
use Rattle.std.proofs.lemmas.Bool.{eqb-true, eq-eqb}
use base.Stored.{Gv, gnil, gnum, gcons}
use Rattle.floyd_tree_sorts.specs.contracts.heads.Head as h
use Rattle.floyd_tree_sorts.proofs.SortLemmas.{both_true}
use Rattle.floyd_tree.specs.Code.{plain_code}
use Rattle.floyd_tree.specs.Plain.{Plain}
use Rattle.floyd_arith.specs.Same.{same_code, same_term}

same_code_true : (a b : Gv) → same_code a b ≡ true → a ≡ b
same_code_true gnil gnil e = refl
same_code_true (gnum m) (gnum n) e = ap gnum (eqb-true m n e)
same_code_true (gcons a b) (gcons c d) e =
    let both = both_true (same_code a c) (same_code b d) e in
    ap (λ x. gcons x b) (same_code_true a c both.0) ∙ ap (gcons c) (same_code_true b d both.1)
same_code_true a b e = absurd cc

same_code_self : (a : Gv) → same_code a a ≡ true
same_code_self gnil = refl
same_code_self (gnum m) = eq-eqb m m refl
same_code_self (gcons a b) = rw (same_code_self a) (same_code_self b)

pub same_term_true : (a b : Plain) → same_term a b ≡ true → a ≡ b
unfolding same_term
same_term_true a b e = (plain_code h.the_row.coded).inj a b (same_code_true ((plain_code h.the_row.coded).code a) ((plain_code h.the_row.coded).code b) e)

pub same_term_self : (a : Plain) → same_term a a ≡ true
unfolding same_term
same_term_self a = same_code_self ((plain_code h.the_row.coded).code a)

not_same : (r : Bool) → (r ≡ true → ⊥) → r ≡ false
not_same true e = absurd (e refl)
not_same false e = refl

pub differ : (a b : Plain) → ¬ (a ≡ b) → same_term a b ≡ false
differ a b e = not_same (same_term a b) (λ same. e (same_term_true a b same))

-- what the program finds is what the test says
pub same_term_test : (r : Bool) (a b : Plain) → (IsTrue r ↔ (a ≡ b)) → same_term a b ≡ r
same_term_test true a b e = ap (λ x. same_term a x) (sym (e.0 refl)) ∙ same_term_self a
same_term_test false a b e = differ a b (λ same. let wrong : false ≡ true = e.1 same in cc)
