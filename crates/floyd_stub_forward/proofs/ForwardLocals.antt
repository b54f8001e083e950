-- LOCAL after a temporary is set, and terms of expressions.
use Rattle.std.proofs.Common.{◌≡◌, ℕ, ◌^◌, Bool, true, false, cond, [], ◌∷◌, Option, Some, None, Ok, Err, refl, sym, ◌∙◌, subst, ap, bytes_eq}
use Rattle.std.proofs.Math.Nat.{mod-eq_of_lt}
use Rattle.std.proofs.lemmas.Bool.{ltb-true}
use Rattle.std.proofs.lemmas.Slice.Eq.{bytes_eq-Decides}
use Rattle.std.specs.Prelude.{nat_lt}
use Rattle.floyd_int.specs.declared.kinds.Value.{Value}
use Rattle.floyd_int.specs.declared.kinds.Value.TheVariants.{Vundef, Vint as VintValue, Vlong, Vptr}
use Rattle.floyd_ctypes.specs.Structs.{Structs}
use Rattle.floyd_clight.specs.declared.syntax.Expr.{Expr, Const, Temp, Var, Deref', AddrOf', Unary', Binary', Cast', Field', SizeOf}
use Rattle.floyd_stub_machine.specs.Evaluation.{Ident, Temps, Look, with_temp, eval_by}
use Rattle.floyd_stub_assert.specs.declared.term.Term.{Term, Number, Vint}
use Rattle.floyd_stub_assert.specs.LocalTerms.{Locals, term_of, with_local}
use Rattle.floyd_stub_assert.specs.Data.{Env, Val, value}
use Rattle.floyd_stub_assert.specs.Assertions.{LocalsHold}
use Rattle.floyd_stub_assert.proofs.TermLaws.{value_vint}
use Rattle.floyd_stub_goal.specs.Sides.{wrong_goal, or_refused}
use Rattle.floyd_stub_forward.specs.Forward.{no_temp, evaluate}

same_name : (y z : Ident) → bytes_eq y z ≡ true → y ≡ z
same_name y z e = (bytes_eq-Decides y z).0 e

-- two tests of one name
abbrev TwoTests : Bool → Bool → Option Term → Option Term → Option Term → Type 0
TwoTests b c t s u = cond c s (cond b t u) ≡ cond b t (cond c s u)

two_tests : (b c : Bool) (t s u : Option Term) → (b ≡ true → c ≡ true → ⊥) → TwoTests b c t s u
two_tests true true t s u e = absurd (e refl refl)
two_tests true false t s u e = refl
two_tests false true t s u e = refl
two_tests false false t s u e = refl

same_test : (b : Bool) (t s u : Option Term) → cond b t u ≡ cond b t (cond b s u)
same_test true t s u = refl
same_test false t s u = refl

-- the names are the same
set_here : (z y : Ident) (t : Term) (l : Ident × Term) (ls : Locals) → y ≡ l.0 → term_of z ((l.0, t) ∷ ls) ≡ cond (bytes_eq z y) (Some t) (term_of z (l ∷ ls))
set_here z y t l ls e =
    subst (λ n. term_of z ((l.0, t) ∷ ls) ≡ cond (bytes_eq z n) (Some t) (term_of z (l ∷ ls))) (sym e)
    (same_test (bytes_eq z l.0) (Some t) (Some l.1) (term_of z ls))

-- the names are not
set_there : (z y : Ident) (t : Term) (l : Ident × Term) (ls : Locals) → bytes_eq y l.0 ≡ false → term_of z (with_local y t ls) ≡ cond (bytes_eq z y) (Some t) (term_of z ls) → term_of z (l ∷ with_local y t ls) ≡ cond (bytes_eq z y) (Some t) (term_of z (l ∷ ls))
set_there z y t l ls e f =
    ap (cond (bytes_eq z l.0) (Some l.1)) f
    ∙ two_tests (bytes_eq z y) (bytes_eq z l.0) (Some t) (Some l.1) (term_of z ls)
    (λ p q. let r : y ≡ l.0 = sym (same_name z y p) ∙ same_name z l.0 q in
    let s : bytes_eq y l.0 ≡ true = (bytes_eq-Decides y l.0).1 r in cc)

set_either : (z y : Ident) (t : Term) (l : Ident × Term) (ls : Locals) (b : Bool) → bytes_eq y l.0 ≡ b → term_of z (with_local y t ls) ≡ cond (bytes_eq z y) (Some t) (term_of z ls) → term_of z (cond b ((l.0, t) ∷ ls) (l ∷ with_local y t ls)) ≡ cond (bytes_eq z y) (Some t) (term_of z (l ∷ ls))
set_either z y t l ls true e f = set_here z y t l ls (same_name y l.0 e)
set_either z y t l ls false e f = set_there z y t l ls e f

-- what LOCAL says of z after y is set
term_of_set : (z y : Ident) (t : Term) (ls : Locals) → term_of z (with_local y t ls) ≡ cond (bytes_eq z y) (Some t) (term_of z ls)
term_of_set z y t [] = refl
term_of_set z y t (l ∷ ls) = set_either z y t l ls (bytes_eq y l.0) refl (term_of_set z y t ls)

set_value : (x : Env) (t s : Term) (v w : Value) (o : Option Term) (b : Bool) → value x t ≡ Val v → (o ≡ Some s → value x s ≡ Val w) → cond b (Some t) o ≡ Some s → value x s ≡ Val (cond b v w)
set_value x t s v w o true e f g = let p : t ≡ s = cc in subst (λ r. value x r ≡ Val v) p e
set_value x t s v w o false e f g = f g

-- LOCAL after a set
pub set_holds : (x : Env) (ls : Locals) (temps : Temps) (y : Ident) (t : Term) (v : Value) → LocalsHold x ls temps → value x t ≡ Val v → LocalsHold x (with_local y t ls) (with_temp y v temps)
set_holds x ls temps y t v h e =
    record { each = λ z s p. set_value x t s v (temps z) (term_of z ls) (bytes_eq z y) e (h.each z s) (sym (term_of_set z y t ls) ∙ p) }

-- an expression has a value, for which its term stands
pub record Evaluates (x : Env) (S : Structs) (look : Look) (temps : Temps) (e : Expr) (t : Term) : Type 0 where
  pub result : Value
  pub is : eval_by S look temps e ≡ Some result
  pub stands : value x t ≡ Val result

constant : (x : Env) (S : Structs) (look : Look) (temps : Temps) (e : Expr) (n : ℕ) (t : Term) (b : Bool) → eval_by S look temps e ≡ Some (VintValue n) → nat_lt n (2 ^ 32) ≡ b → cond b (Ok (Vint (Number n))) (Err wrong_goal) ≡ Ok t → Evaluates x S look temps e t
constant x S look temps e n t true i f g =
    let p : Vint (Number n) ≡ t = cc in
    record {
      result = VintValue n;
      is = i;
      stands = subst (λ s. value x s ≡ Val (VintValue n)) p (value_vint x (Number n) ∙ ap (λ k. Val (VintValue k)) (mod-eq_of_lt (ltb-true n (2 ^ 32) f)));
    }
constant x S look temps e n t false i f g = cc

found : (x : Env) (S : Structs) (look : Look) (temps : Temps) (e : Expr) (y : Ident) (t : Term) (o : Option Term) → eval_by S look temps e ≡ Some (temps y) → (o ≡ Some t → value x t ≡ Val (temps y)) → or_refused (no_temp y) o ≡ Ok t → Evaluates x S look temps e t
found x S look temps e y t None i f g = cc
found x S look temps e y t (Some s) i f g = let p : Some s ≡ Some t = cc in record { result = temps y; is = i; stands = f p }

pub evaluate_holds : (x : Env) (S : Structs) (look : Look) (ls : Locals) (temps : Temps) (e : Expr) (t : Term) → LocalsHold x ls temps → evaluate ls e ≡ Ok t → Evaluates x S look temps e t
evaluate_holds x S look ls temps (Const Vundef ty) t h e = cc
evaluate_holds x S look ls temps (Const (VintValue n) ty) t h e = constant x S look temps (Const (VintValue n) ty) n t (nat_lt n (2 ^ 32)) refl refl e
evaluate_holds x S look ls temps (Const (Vlong n) ty) t h e = cc
evaluate_holds x S look ls temps (Const (Vptr b o) ty) t h e = cc
evaluate_holds x S look ls temps (Temp y ty) t h e = found x S look temps (Temp y ty) y t (term_of y ls) refl (h.each y t) e
evaluate_holds x S look ls temps (Var b y ty) t h e = cc
evaluate_holds x S look ls temps (Deref' p d ty) t h e = cc
evaluate_holds x S look ls temps (AddrOf' p d ty) t h e = cc
evaluate_holds x S look ls temps (Unary' op p d ty) t h e = cc
evaluate_holds x S look ls temps (Binary' op p c q d ty) t h e = cc
evaluate_holds x S look ls temps (Cast' p d ty) t h e = cc
evaluate_holds x S look ls temps (Field' p d y ty) t h e = cc
evaluate_holds x S look ls temps (SizeOf of ty) t h e = cc
