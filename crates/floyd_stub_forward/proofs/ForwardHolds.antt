-- A goal holds where the goals that `forward` makes of it hold.
use Rattle.std.proofs.Common.{◌≡◌, ℕ, true, List, [], ◌∷◌, Some, None, Ok, sym, ◌∙◌, subst, ap}
use Rattle.floyd_int.specs.declared.kinds.Value.{Value}
use Rattle.floyd_ctypes.specs.declared.ctype.CType.{CType}
use Rattle.floyd_ctypes.specs.Has.{has}
use Rattle.floyd_clight.specs.declared.syntax.Expr.{Expr}
use Rattle.floyd_clight.specs.declared.syntax.Stmt.{Stmt, Skip, Set, Assign, Call, Seq', If', Loop', Switch', Break, Continue, Return as ReturnStmt}
use Rattle.floyd_stub_machine.specs.Evaluation.{Ident}
use Rattle.floyd_stub_machine.specs.Machine.{Act, set_in}
use Rattle.floyd_stub_assert.specs.declared.term.Term.{Term}
use Rattle.floyd_stub_assert.specs.declared.formula.Formula.{Equal, Hasty}
use Rattle.floyd_stub_assert.specs.declared.assertion.Assertion.{Assertion}
use Rattle.floyd_stub_assert.specs.Heaplet.{Heaplet, seen}
use Rattle.floyd_stub_assert.specs.Data.{Datum, Val, Env, value}
use Rattle.floyd_stub_assert.specs.Truth.{IsOfType, AllTrue}
use Rattle.floyd_stub_goal.specs.declared.goal.Context.{Context}
use Rattle.floyd_stub_goal.specs.declared.goal.Exits.{Exits}
use Rattle.floyd_stub_goal.specs.declared.goal.Goal.{Goal}
use Rattle.floyd_stub_goal.specs.declared.goal.Goal.TheVariants.{Run}
use Rattle.floyd_stub_runs.specs.World.{World}
use Rattle.floyd_stub_runs.specs.Safe.{KeepsBelow, SafeAll, with_normal}
use Rattle.floyd_stub_runs.proofs.Steps.{set_safe, return_safe}
use Rattle.floyd_stub_goal.specs.GoalHolds.{Stands, Leaves, GoalHolds}
use Rattle.floyd_stub_goal.specs.Sides.{kept, conjunction, side_goals}
use Rattle.floyd_stub_goal.proofs.Truths.{kept_true, all_true_append, all_true_front}
use Rattle.floyd_stub_goal.proofs.SideLaws.{AllHold, all_hold_front, side_true, run_safe, steps_of, ok_is, refused}
use Rattle.floyd_stub_forward.specs.Forward.{evaluate, with_source_local, forward_set, forward_return, forward, forward_row}
use Rattle.floyd_stub_forward.proofs.ForwardLocals.{set_holds, evaluate_holds}

set_row : (W : World) (n : ℕ) (context : Context) (source : Assertion) (exits : Exits) (ss : List Stmt) (y : Ident) (e : Expr) (t : Term) → evaluate source.local e ≡ Ok t → AllHold W n (forward_set context source exits ss y t) → (x : Env) → AllTrue x context.hypotheses → KeepsBelow W n → (act : Act) (h : Heaplet) → Stands x exits.ret.result source act h → SafeAll W n (Set y e ∷ ss) (Leaves x exits) act h
set_row W n context source exits ss y e t i p x hs keeps act h s =
    let v = evaluate_holds x W.program.structs (seen h) source.local act.temps e t s.holds.local i in
    set_safe W n y e act h (with_normal (SafeAll W n ss (Leaves x exits)) (Leaves x exits)) (record {
      value = v.result;
      evaluates = v.is;
      after = run_safe W n context (with_source_local source y t) ss exits p.0 x hs keeps (set_in (Some y) v.result act) h (record {
        typed = s.typed;
        blocks = s.blocks;
        holds = record {
          prop = s.holds.prop;
          local = set_holds x source.local act.temps y t v.result s.holds.local v.stands;
          sep = s.holds.sep;
        };
      });
    })

typed_as : (t : CType) (d : Datum) (v : Value) → d ≡ Val v → IsOfType t d → has t v ≡ true
typed_as t d v e p = subst (IsOfType t) e p

return_row : (W : World) (n : ℕ) (context : Context) (source : Assertion) (exits : Exits) (ss : List Stmt) (e : Expr) (t : Term) → evaluate source.local e ≡ Ok t → AllHold W n (forward_return context source exits t) → (x : Env) → AllTrue x context.hypotheses → KeepsBelow W n → (act : Act) (h : Heaplet) → Stands x exits.ret.result source act h → SafeAll W n (ReturnStmt (Some e) ∷ ss) (Leaves x exits) act h
return_row W n context source exits ss e t i p x hs keeps act h s =
    let v = evaluate_holds x W.program.structs (seen h) source.local act.temps e t s.holds.local i in
    let q = all_hold_front W n (side_goals context (conjunction (kept (Hasty exits.ret.result t ∷ [])))) _ p in
    let sides = side_true W n context (Hasty exits.ret.result t ∷ []) q.0 x hs in
    let typed = typed_as exits.ret.result (value x t) v.result v.stands (kept_true x (Hasty exits.ret.result t ∷ []) sides).0 in
    let target = q.1.0 x (all_true_append x context.hypotheses (kept (Hasty exits.ret.result t ∷ [])) hs sides) act.temps h s.holds in
    let props = all_true_front x exits.ret.post.prop (Equal t exits.ret.value ∷ []) target.prop in
    return_safe W n e act h (with_normal (SafeAll W n ss (Leaves x exits)) (Leaves x exits)) (record {
      value = v.result;
      evaluates = v.is;
      returns = record {
        blocks = s.blocks;
        typed = ap (λ r. has r v.result) s.typed ∙ typed;
        after = record { typed = typed; prop = props.0; returned = sym props.1.0 ∙ v.stands; sep = target.sep };
      };
    })

abbrev RunIs : World → ℕ → Context → Assertion → Exits → List Stmt → Type 0
RunIs W n context source exits ss = (x : Env) → AllTrue x context.hypotheses → KeepsBelow W n → (act : Act) (h : Heaplet) → Stands x exits.ret.result source act h → SafeAll W n ss (Leaves x exits) act h

forward_holds : (W : World) (n : ℕ) (context : Context) (source : Assertion) (exits : Exits) (ss : List Stmt) (gs : List Goal) → forward context source exits ss ≡ Ok gs → AllHold W n gs → RunIs W n context source exits ss
forward_holds W n context source exits [] gs e p = cc
forward_holds W n context source exits (Skip ∷ ss) gs e p = cc
forward_holds W n context source exits (Set y d ∷ ss) gs e p =
    let r = steps_of (evaluate source.local d) (λ t. Ok (forward_set context source exits ss y t)) gs e in
    set_row W n context source exits ss y d r.first r.is (subst (AllHold W n) (sym (ok_is r.gives)) p)
forward_holds W n context source exits (Assign d c ∷ ss) gs e p = cc
forward_holds W n context source exits (Call to d ds ∷ ss) gs e p = cc
forward_holds W n context source exits (Seq' shape all ∷ ss) gs e p = cc
forward_holds W n context source exits (If' d i a j b ∷ ss) gs e p = cc
forward_holds W n context source exits (Loop' i a j b ∷ ss) gs e p = cc
forward_holds W n context source exits (Break ∷ ss) gs e p = cc
forward_holds W n context source exits (Continue ∷ ss) gs e p = cc
forward_holds W n context source exits (Switch' d shape cases ∷ ss) gs e p = cc
forward_holds W n context source exits (ReturnStmt None ∷ ss) gs e p = cc
forward_holds W n context source exits (ReturnStmt (Some d) ∷ ss) gs e p =
    let r = steps_of (evaluate source.local d) (λ t. Ok (forward_return context source exits t)) gs e in
    return_row W n context source exits ss d r.first r.is (subst (AllHold W n) (sym (ok_is r.gives)) p)

pub forward_row_holds : (W : World) (n : ℕ) (g : Goal) (gs : List Goal) → forward_row g ≡ Ok gs → AllHold W n gs → GoalHolds W n g
forward_row_holds W n (Run r) gs e p = forward_holds W n r.context r.source r.exits r.rest gs e p
forward_row_holds W n g gs e p = absurd (refused e)
