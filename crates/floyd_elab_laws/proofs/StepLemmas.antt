-- A run of sets and branches, as steps of the machine.
use Rattle.std.proofs.Common.{◌≡◌, Bool, true, false, [], ◌∷◌, Option, Some, None, if◌then◌else◌, is_some, refl, sym, ap, subst, true≢false}
use Rattle.std.specs.Prelude.{option_map, option_and_then}
use mathlib.Core.Former.{arity, this}
use Rattle.sqlite_items.specs.formers.items.Items.{the_former}
use Rattle.floyd_int.specs.declared.kinds.Value.{Value}
use Rattle.floyd_clight_memory.specs.Memory.{Mem}
use Rattle.floyd_clight.specs.declared.syntax.Expr.{Expr}
use Rattle.floyd_clight.specs.declared.syntax.Stmt.{Stmt, Skip, Set, Assign, Call, Seq', If', Loop', Break, Continue, Return, Switch', Row_of-Stmt, end_of-Stmt, more_of-Stmt}
use Rattle.floyd_clight_machine.specs.Evaluation.{Ident, Temps, with_temp, eval_by}
use Rattle.floyd_clight_machine.specs.Machine.{Program, Act, Kont, Kseq, Config, Run, Next, step, look, on_some, set_in, test}
use Rattle.floyd_elab_laws.specs.Running.{run, run_rows}
use Rattle.floyd_elab_laws.specs.Laws.{Comes, there, onward}

-- an activation with other temporaries
abbrev with_temps : Temps → Act → Act
with_temps u act = record act { temps = u }

option_of : Temps → Option Temps → Temps
option_of s None = s
option_of s (Some u) = u

same_some : (s u : Temps) → Some s ≡ Some u → s ≡ u
unfolding option_of
same_some s u h = ap (option_of s) h

impossible : {A : Type 0} (u : Temps) → None ≡ Some u → A
impossible u h = absurd (true≢false (sym (ap is_some h)))

then_comes : {P : Program} {m : Mem} {c d e : Config} → Comes P m c d → Comes P m d e → Comes P m c e
then_comes there g = g
then_comes (onward s h) g = onward s (then_comes h g)

skip_there : (P : Program) (m : Mem) (k : Kont) (act : Act) (s u : Temps) → Some s ≡ Some u → Comes P m (Run Skip k (with_temps s act)) (Run Skip k (with_temps u act))
skip_there P m k act s u h = subst (λ t. Comes P m (Run Skip k (with_temps s act)) (Run Skip k (with_temps t act))) (same_some s u h) there

set_comes : (P : Program) (m : Mem) (x : Ident) (y : Expr) (k : Kont) (act : Act) (u : Temps) (o : Option Value) → eval_by P.structs (look P act.blocks m) act.temps y ≡ o → option_map (λ v. with_temp x v act.temps) o ≡ Some u → Comes P m (Run (Set x y) k act) (Run Skip k (with_temps u act))
set_comes P m x y k act u None q h = impossible u h
set_comes P m x y k act u (Some v) q h =
    onward {d = Run Skip k (set_in (Some x) v act)} (ap (λ o. on_some o (λ v. Next (Run Skip k (set_in (Some x) v act)) m)) q) (skip_there P m k act (with_temp x v act.temps) u h)

abbrev branch : Expr → Stmt → Stmt → Stmt
branch y a b = If' y tt (more_of-Stmt a end_of-Stmt) tt (more_of-Stmt b end_of-Stmt)

branch_comes : (P : Program) (m : Mem) (y : Expr) (a b : Stmt) (k : Kont) (act : Act) (u : Temps) (o : Option Bool) → step P (Run (branch y a b) k act) m ≡ on_some o (λ t. Next (Run (if t then a else b) k act) m) → option_and_then (λ t. if t then run P.structs (look P act.blocks m) a act.temps else run P.structs (look P act.blocks m) b act.temps) o ≡ Some u →
    (run P.structs (look P act.blocks m) a act.temps ≡ Some u → Comes P m (Run a k act) (Run Skip k (with_temps u act))) → (run P.structs (look P act.blocks m) b act.temps ≡ Some u → Comes P m (Run b k act) (Run Skip k (with_temps u act))) → Comes P m (Run (branch y a b) k act) (Run Skip k (with_temps u act))
branch_comes P m y a b k act u None q h f g = impossible u h
branch_comes P m y a b k act u (Some true) q h f g = onward q (f h)
branch_comes P m y a b k act u (Some false) q h f g = onward q (g h)

-- the first of a sequence, and then the rest
row_comes : (P : Program) (m : Mem) (first rest : Stmt) (k : Kont) (act : Act) (u : Temps) (o : Option Temps) (next : Temps → Option Temps) → option_and_then next o ≡ Some u →
    ((w : Temps) → o ≡ Some w → Comes P m (Run first (Kseq rest ∷ k) act) (Run Skip (Kseq rest ∷ k) (with_temps w act))) → ((w : Temps) → next w ≡ Some u → Comes P m (Run rest k (with_temps w act)) (Run Skip k (with_temps u act))) →
    Comes P m (Run first (Kseq rest ∷ k) act) (Run Skip k (with_temps u act))
row_comes P m first rest k act u None next h f g = impossible u h
row_comes P m first rest k act u (Some w) next h f g = then_comes (f w refl) (onward {d = Run rest k (with_temps w act)} refl (g w h))

-- the machine runs the statement as is said
abbrev Comes_of : Program → Mem → Stmt → Type 0
Comes_of P m s = (k : Kont) (act : Act) (u : Temps) → run P.structs (look P act.blocks m) s act.temps ≡ Some u → Comes P m (Run s k act) (Run Skip k (with_temps u act))

-- and each of these
abbrev All_come : Program → Mem → {n : _} → Row_of-Stmt n → Type 0
All_come P m end_of-Stmt = Unit {0}
All_come P m (more_of-Stmt s rest) = Comes_of P m s × All_come P m rest

seq_comes : (P : Program) (m : Mem) (shape : (the_former (this {0})).Shape) (all : Row_of-Stmt (arity (the_former (this {0})) shape)) → All_come P m all → Comes_of P m (Seq' shape all)
seq_comes P m [] end_of-Stmt c k act u h = onward refl (skip_there P m k act act.temps u h)
seq_comes P m (v ∷ shape) (more_of-Stmt s rest) c k act u h =
    onward {d = Run s (Kseq (Seq' shape rest) ∷ k) act} refl
    (row_comes P m s (Seq' shape rest) k act u (run P.structs (look P act.blocks m) s act.temps) (run_rows P.structs (look P act.blocks m) rest) h (λ w q. c.0 (Kseq (Seq' shape rest) ∷ k) act w q) (λ w q. seq_comes P m shape rest c.1 k (with_temps w act) u q))

mutual
  pub run_comes : (P : Program) (m : Mem) (s : Stmt) (k : Kont) (act : Act) (u : Temps) → run P.structs (look P act.blocks m) s act.temps ≡ Some u → Comes P m (Run s k act) (Run Skip k (with_temps u act))
  run_comes P m Skip k act u h = skip_there P m k act act.temps u h
  run_comes P m (Set x y) k act u h = set_comes P m x y k act u (eval_by P.structs (look P act.blocks m) act.temps y) refl h
  run_comes P m (Seq' shape all) k act u h = seq_comes P m shape all (all_come P m all) k act u h
  run_comes P m (If' y p (more_of-Stmt a end_of-Stmt) q (more_of-Stmt b end_of-Stmt)) k act u h =
      branch_comes P m y a b k act u (test P m act y) refl h (λ g. run_comes P m a k act u g) (λ g. run_comes P m b k act u g)
  run_comes P m (Assign p y) k act u h = impossible u h
  run_comes P m (Call to f es) k act u h = impossible u h
  run_comes P m (Loop' p a q b) k act u h = impossible u h
  run_comes P m Break k act u h = impossible u h
  run_comes P m Continue k act u h = impossible u h
  run_comes P m (Return y) k act u h = impossible u h
  run_comes P m (Switch' y shape cases) k act u h = impossible u h

  all_come : (P : Program) (m : Mem) {n : _} (all : Row_of-Stmt n) → All_come P m all
  all_come P m end_of-Stmt = tt
  all_come P m (more_of-Stmt s rest) = ((λ k act u h. run_comes P m s k act u h), all_come P m rest)
