-- Equations of two LOCALs.
use Rattle.std.proofs.Common.{◌≡◌, Bool, true, false, cond, List, [], ◌∷◌, Option, Some, None, Result, Ok, Err, refl, sym, ◌∙◌, subst, ap, bytes_eq}
use Rattle.std.proofs.lemmas.Slice.Eq.{bytes_eq-Decides}
use Rattle.floyd_text.specs.declared.refusal.No.{No}
use Rattle.floyd_stub_machine.specs.Evaluation.{Ident, Temps}
use Rattle.floyd_stub_assert.specs.declared.term.Term.{Term}
use Rattle.floyd_stub_assert.specs.declared.formula.Formula.{Formula, Equal}
use Rattle.floyd_stub_assert.specs.LocalTerms.{Locals, term_of}
use Rattle.floyd_stub_assert.specs.Data.{Env, Val, value}
use Rattle.floyd_stub_assert.specs.Truth.{Truth, AllTrue}
use Rattle.floyd_stub_assert.specs.Assertions.{LocalsHold}
use Rattle.floyd_stub_goal.specs.Sides.{or_refused, and_then}
use Rattle.floyd_stub_entail.specs.Cancel.{no_local, equation, and_more, equations}

same_name : (y z : Ident) → bytes_eq y z ≡ true → y ≡ z
same_name y z e = (bytes_eq-Decides y z).0 e

-- an equation of two LOCALs
equation_true : (x : Env) (temps : Temps) (y : Ident) (t : Term) (f : Formula) (o : Option Term) → ((s : Term) → o ≡ Some s → value x s ≡ Val (temps y)) → and_then (or_refused (no_local y) o) (λ s. Ok (Equal s t)) ≡ Ok f → Truth x f → value x t ≡ Val (temps y)
equation_true x temps y t f None h e p = cc
equation_true x temps y t f (Some s) h e p =
    let q : f ≡ Equal s t = cc in
    sym (subst (Truth x) q p) ∙ h s refl

-- the first of the equations, and the others
pub record Parts (r : Result Formula No) (rs : Result (List Formula) No) (fs : List Formula) : Type 0 where
  pub first : Formula
  pub others : List Formula
  pub is_first : r ≡ Ok first
  pub is_others : rs ≡ Ok others
  pub all : fs ≡ first ∷ others

parts_of : (r : Result Formula No) (rs : Result (List Formula) No) (fs : List Formula) → and_more r rs ≡ Ok fs → Parts r rs fs
parts_of (Err e) rs fs p = cc
parts_of (Ok f) (Err e) fs p = cc
parts_of (Ok f) (Ok gs) fs p = record { first = f; others = gs; is_first = refl; is_others = refl; all = cc }

either_value : (x : Env) (temps : Temps) (y z : Ident) (t s : Term) (o : Option Term) (b : Bool) → bytes_eq y z ≡ b → value x t ≡ Val (temps z) → (o ≡ Some s → value x s ≡ Val (temps y)) → cond b (Some t) o ≡ Some s → value x s ≡ Val (temps y)
either_value x temps y z t s o true e f g p =
    let q : t ≡ s = cc in
    let r : z ≡ y = sym (same_name y z e) in
    subst (λ u. value x u ≡ Val (temps y)) q (f ∙ ap (λ n. Val (temps n)) r)
either_value x temps y z t s o false e f g p = g p

equations_each : (x : Env) (temps : Temps) (source target : Locals) (fs : List Formula) → LocalsHold x source temps → equations source target ≡ Ok fs → AllTrue x fs → (y : Ident) (s : Term) → term_of y target ≡ Some s → value x s ≡ Val (temps y)
equations_each x temps source [] fs h e p y s q = cc
equations_each x temps source (l ∷ ls) fs h e p y s q =
    let r = parts_of (equation source l.0 l.1) (equations source ls) fs e in
    let a = subst (AllTrue x) r.all p in
    either_value x temps y l.0 l.1 s (term_of y ls) (bytes_eq y l.0) refl
    (equation_true x temps l.0 l.1 r.first (term_of l.0 source) (h.each l.0) r.is_first a.0)
    (equations_each x temps source ls r.others h r.is_others a.1 y s) q

-- where the source's LOCAL and the equations hold, the target's does
pub equations_hold : (x : Env) (temps : Temps) (source target : Locals) (fs : List Formula) → LocalsHold x source temps → equations source target ≡ Ok fs → AllTrue x fs → LocalsHold x target temps
equations_hold x temps source target fs h e p = record { each = equations_each x temps source target fs h e p }
