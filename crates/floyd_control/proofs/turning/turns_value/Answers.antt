use Rattle.std.proofs.Common.{◌≡◌, ◌∙◌, List, Ok, subst}
use Rattle.floyd_text.specs.Gives.{RuleStops}
use Rattle.floyd_assert_trees.specs.declared.binder.Binder.{Binder}
use Rattle.floyd_assert_changes.specs.Apart.{set_apart}
use Rattle.floyd_assert_changes.specs.Changed.{has_name}
use Rattle.floyd_goal_parts.proofs.RowLemmas.{row_goes, row_stops}
use Rattle.floyd_control.specs.ForwardWhile.{TurnsFrom}
use Rattle.floyd_control.proofs.turning.turns_value.Goals as goal

pub returns-in-Ok : goal.returns-in-Ok
returns-in-Ok g c =
    let run = c.args.at.run.now in
    let a = c.args.invariant.now in
    record {
      exact = row_goes (set_apart (λ y. has_name y run.context.variables) a) c.in-Ok.a (TurnsFrom c.args.at.defs.now.structs run a c.args.test.now c.args.body) c.turns_from.result
          (subst (λ (vs : List Binder). set_apart (λ y. has_name y vs) a ≡ Ok c.in-Ok.a) (c.as_slice-variables.ensures ∙ c.get.ensures) c.in-Ok.ensures.exact) c.turns_from.ensures.exact;
    }

pub returns-in-Err : goal.returns-in-Err
returns-in-Err g c =
    let run = c.args.at.run.now in
    let a = c.args.invariant.now in
    record {
      exact = row_stops (set_apart (λ y. has_name y run.context.variables) a) (TurnsFrom c.args.at.defs.now.structs run a c.args.test.now c.args.body) c.in-Err.stop
          (subst (λ (vs : List Binder). RuleStops c.in-Err.stop (set_apart (λ y. has_name y vs) a)) (c.as_slice-variables.ensures ∙ c.get.ensures) c.in-Err.ensures.exact);
    }
