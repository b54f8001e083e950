-- Operators on literals keep their value as the literal of what they give.
use Rattle.std.proofs.Common.{◌≡◌, ℤ, false, List, [], ◌∷◌, Option, Some, refl, sym, ap, ◌∙◌, subst}
use Rattle.floyd_ctypes.specs.Structs.{Structs}
use Rattle.floyd_tree_sorts.specs.declared.heads.Head.{Head}
use Rattle.floyd_tree_sorts.specs.declared.heads.Head.TheVariants as h
use Rattle.floyd_tree_sorts.specs.declared.operators.Operator.{Operator}
use Rattle.floyd_tree_sorts.specs.declared.operators.Operator.TheVariants.{Quot, Rem, Band, Bor, Bxor, Bnot, Shl, Shr, Eqz, Ltz, Lez, Add, Sub, Mul}
use Rattle.floyd_tree_sorts.specs.declared.sorts.Sort.{Sort, Z}
use Rattle.floyd_tree_sorts.specs.Table.{sort_at}
use Rattle.floyd_tree.specs.Plain.{Plain, At, Done, More}
use Rattle.floyd_tree.specs.WellSorted.{sorts_of}
use Rattle.floyd_tree_values.specs.BuiltIns.{Env, applied, operator_value}
use Rattle.floyd_tree_values.specs.Data.{Number}
use Rattle.floyd_tree_values.specs.Defaults.{undefined}
use Rattle.floyd_tree_values.specs.Means.{Defs, Means, is_fun}
use Rattle.floyd_fieldpath.specs.Nested.{literal}
use Rattle.floyd_fieldpath.specs.Sums.{literal_in, two}
use Rattle.floyd_folding.specs.Folding.{number_of_one, number_of_two}
use Rattle.floyd_simplifying.proofs.Keeping.{Kept, applies_one, applies_two, literal_means, means_literal}
use Rattle.floyd_simplifying.proofs.Sorting.{literal_sort, number_is, one_sort, sort_is, two_sorts}

-- what an operator on numbers gives
record GivesTwo (operator : Operator) (x y z : ℤ) : Type 0 where
  pub sort : (s : Sort) → sort_at (h.Operator operator) (Z ∷ Z ∷ []) ≡ Some s → s ≡ Z
  pub value : (s : Sort) → operator_value operator s (Number x) (Number y) undefined ≡ Number z

z_is : (s : Sort) → Option.Some Z ≡ Option.Some s → s ≡ Z
z_is s e = sym (sort_is Z s e)

gives_two : (operator : Operator) (x y z : ℤ) → number_of_two operator x y ≡ Some z → GivesTwo operator x y z
gives_two Add x y z e = record { sort = z_is; value = λ s. ap Number (number_is _ z e) }
gives_two Sub x y z e = record { sort = z_is; value = λ s. ap Number (number_is _ z e) }
gives_two Mul x y z e = record { sort = z_is; value = λ s. ap Number (number_is _ z e) }
gives_two Quot x y z e = record { sort = z_is; value = λ s. ap Number (number_is _ z e) }
gives_two Rem x y z e = record { sort = z_is; value = λ s. ap Number (number_is _ z e) }
gives_two Band x y z e = record { sort = z_is; value = λ s. ap Number (number_is _ z e) }
gives_two Bor x y z e = record { sort = z_is; value = λ s. ap Number (number_is _ z e) }
gives_two Bxor x y z e = record { sort = z_is; value = λ s. ap Number (number_is _ z e) }
gives_two Shl x y z e = record { sort = z_is; value = λ s. ap Number (number_is _ z e) }
gives_two Shr x y z e = record { sort = z_is; value = λ s. ap Number (number_is _ z e) }
gives_two Eqz x y z e = record { sort = z_is; value = λ s. ap Number (number_is _ z e) }
gives_two Ltz x y z e = record { sort = z_is; value = λ s. ap Number (number_is _ z e) }
gives_two Lez x y z e = record { sort = z_is; value = λ s. ap Number (number_is _ z e) }
gives_two operator x y z e = absurd cc

record GivesOne (head : Head) (x z : ℤ) : Type 0 where
  pub plain : is_fun head ≡ false
  pub sort : (s : Sort) → sort_at head (Z ∷ []) ≡ Some s → s ≡ Z
  pub value : (structs : Structs) (env : Env) (s : Sort) → applied structs env head s (Number x ∷ []) ≡ Number z

gives_one : (head : Head) (x z : ℤ) → number_of_one head x ≡ Some z → GivesOne head x z
gives_one (h.Signed w) x z e = record { plain = refl; sort = z_is; value = λ structs env s. ap Number (number_is _ z e) }
gives_one (h.Unsigned w) x z e = record { plain = refl; sort = z_is; value = λ structs env s. ap Number (number_is _ z e) }
gives_one (h.Operator Bnot) x z e = record { plain = refl; sort = z_is; value = λ structs env s. ap Number (number_is _ z e) }
gives_one (h.Operator operator) x z e = absurd cc
gives_one head x z e = absurd cc

module _ (defs : Defs) (env : Env) where
  pub one_kept : (head : Head) (a : Plain) (x z : ℤ) (ss : List Sort) (s : Sort) → literal_in a ≡ Some x → number_of_one head x ≡ Some z → sorts_of (More a Done) ≡ Some ss → sort_at head ss ≡ Some s → Kept defs env s (At head (More a Done)) (literal z)
  one_kept head a x z ss s i k e f =
      let t = one_sort a ss e in
      let g = gives_one head x z k in
      let are : ss ≡ Z ∷ [] = t.2 ∙ ap (λ p. p ∷ []) (literal_sort a x t.0 i t.1) in
      let is : s ≡ Z = g.sort s (subst (λ rs. sort_at head rs ≡ Some s) are f) in
      record {
        sort = ap Some (sym is);
        means = λ d m.
            let p = applies_one defs env head a d g.plain m in
            subst (Means defs env (literal z)) (sym (p.is ∙ ap (λ u. applied defs.structs env head p.sort (u ∷ [])) (literal_means defs env a x p.datum i p.means) ∙ g.value defs.structs env p.sort)) (means_literal defs env z);
      }

  pub two_kept : (operator : Operator) (a b : Plain) (x y z : ℤ) (ss : List Sort) (s : Sort) → literal_in a ≡ Some x → literal_in b ≡ Some y → number_of_two operator x y ≡ Some z → sorts_of (More a (More b Done)) ≡ Some ss → sort_at (h.Operator operator) ss ≡ Some s → Kept defs env s (two operator a b) (literal z)
  two_kept operator a b x y z ss s i j k e f =
      let t = two_sorts a b ss e in
      let g = gives_two operator x y z k in
      let are : ss ≡ Z ∷ Z ∷ [] = t.4 ∙ ap (λ p. p ∷ t.1 ∷ []) (literal_sort a x t.0 i t.2) ∙ ap (λ q. Z ∷ q ∷ []) (literal_sort b y t.1 j t.3) in
      let is : s ≡ Z = g.sort s (subst (λ rs. sort_at (h.Operator operator) rs ≡ Some s) are f) in
      record {
        sort = ap Some (sym is);
        means = λ d m.
            let p = applies_two defs env operator a b d m in
            subst (Means defs env (literal z))
            (sym (p.is
            ∙ ap (λ u. operator_value operator p.sort u p.second undefined) (literal_means defs env a x p.first i p.left)
            ∙ ap (λ u. operator_value operator p.sort (Number x) u undefined) (literal_means defs env b y p.second j p.right)
            ∙ g.value p.sort)) (means_literal defs env z);
      }
