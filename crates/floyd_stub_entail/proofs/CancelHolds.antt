-- A goal holds where the goals that `cancel` makes of it hold.
use Rattle.std.proofs.Common.{◌≡◌, ℕ, Bool, true, false, cond, List, [], ◌∷◌, ◌++◌, Ok, Err, refl, sym, subst}
use Rattle.floyd_stub_machine.specs.Evaluation.{Temps}
use Rattle.floyd_stub_assert.specs.declared.formula.Formula.{Formula}
use Rattle.floyd_stub_assert.specs.declared.assertion.Sep.{Sep}
use Rattle.floyd_stub_assert.specs.declared.assertion.Sep.TheVariants.{TT}
use Rattle.floyd_stub_assert.specs.declared.assertion.Assertion.{Assertion}
use Rattle.floyd_stub_assert.specs.Heaplet.{Heaplet, empty}
use Rattle.floyd_stub_assert.specs.Data.{Env}
use Rattle.floyd_stub_assert.specs.Truth.{AllTrue}
use Rattle.floyd_stub_assert.specs.Assertions.{PartsHold, Holds}
use Rattle.floyd_stub_goal.specs.declared.goal.Context.{Context}
use Rattle.floyd_stub_goal.specs.declared.goal.Goal.{Goal}
use Rattle.floyd_stub_goal.specs.declared.goal.Goal.TheVariants.{Entail}
use Rattle.floyd_stub_runs.specs.World.{World}
use Rattle.floyd_stub_runs.proofs.HeapLaws.{right_empty}
use Rattle.floyd_stub_goal.specs.GoalHolds.{GoalHolds}
use Rattle.floyd_stub_goal.specs.Sides.{kept, conjunction, side_goals}
use Rattle.floyd_stub_goal.proofs.Truths.{kept_true, all_true_front}
use Rattle.floyd_stub_goal.proofs.SideLaws.{AllHold, side_true, steps_of, ok_is, refused}
use Rattle.floyd_stub_entail.specs.Cancel.{equations, has_left, part_left, cancel, cancel_row}
use Rattle.floyd_stub_entail.proofs.CancelLocals.{equations_hold}

no_parts : (ts : List Sep) → PartsHold ts empty
no_parts [] = refl
no_parts (TT ∷ ts) = (empty, empty, right_empty empty, tt, no_parts ts)

-- where nothing of the source is left, the target's memory is there
parts_hold : (source target : List Sep) (h : Heaplet) → has_left source target ≡ false → PartsHold source h → PartsHold target h
parts_hold [] [] h e p = p
parts_hold (s ∷ ss) [] h e p = cc
parts_hold ss (TT ∷ ts) h e p = (h, empty, right_empty h, tt, no_parts ts)

entail_holds : (W : World) (n : ℕ) (context : Context) (source target : Assertion) (es : List Formula) (gs : List Goal) (b : Bool) → equations source.local target.local ≡ Ok es → has_left source.sep target.sep ≡ b → cond b (Err part_left) (Ok (side_goals context (conjunction (kept (target.prop ++ es))))) ≡ Ok gs → AllHold W n gs → (x : Env) → AllTrue x context.hypotheses → (temps : Temps) (h : Heaplet) → Holds x source temps h → Holds x target temps h
entail_holds W n context source target es gs true i l e p x hs temps h s = cc
entail_holds W n context source target es gs false i l e p x hs temps h s =
    let sides = kept_true x (target.prop ++ es) (side_true W n context (target.prop ++ es) (subst (AllHold W n) (sym (ok_is e)) p) x hs) in
    let props = all_true_front x target.prop es sides in
    record {
      prop = props.0;
      local = equations_hold x temps source.local target.local es s.local i props.1;
      sep = parts_hold source.sep target.sep h l s.sep;
    }

cancel_holds : (W : World) (n : ℕ) (context : Context) (source target : Assertion) (gs : List Goal) → cancel context source target ≡ Ok gs → AllHold W n gs → (x : Env) → AllTrue x context.hypotheses → (temps : Temps) (h : Heaplet) → Holds x source temps h → Holds x target temps h
cancel_holds W n context source target gs e p =
    let r = steps_of (equations source.local target.local) (λ es. cond (has_left source.sep target.sep) (Err part_left) (Ok (side_goals context (conjunction (kept (target.prop ++ es)))))) gs e in
    entail_holds W n context source target r.first gs (has_left source.sep target.sep) r.is refl r.gives p

pub cancel_row_holds : (W : World) (n : ℕ) (g : Goal) (gs : List Goal) → cancel_row g ≡ Ok gs → AllHold W n gs → GoalHolds W n g
cancel_row_holds W n (Entail r) gs e p = cancel_holds W n r.context r.source r.target gs e p
cancel_row_holds W n g gs e p = absurd (refused e)
