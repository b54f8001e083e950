use Rattle.std.proofs.Common.{pos, [], refl}
use Rattle.floyd_tree_values.specs.BuiltIns.{Env}
use Rattle.floyd_tree_values.specs.Data.{Number}
use Rattle.floyd_goal_meaning.specs.GoalHolds.{Given}
use Rattle.floyd_goal_meaning.specs.Laws.{AProgramHasIt, no_context, no_defs, no_program}
use Rattle.floyd_goal_meaning.specs.Programs.{setting}
use Rattle.floyd_goal_meaning.proofs.laws.false_does_not_hold.Goals as goal

has : AProgramHasIt
has = record {
  rules = tt;
  structs = refl;
  globals = λ x e. absurd cc;
  funs = λ x f e. absurd cc;
  preds = λ x p e. absurd cc;
  functions = λ f spec e. absurd cc;
  declared = λ f g spec name e n k. absurd cc;
  items = λ f g own item name e k n l. absurd cc;
}

abbrev nowhere : Env
nowhere = record { variables = λ x. Number (pos 0); global = λ x. 0; local = λ x. 0 }

given : Given (setting no_program [] (λ x. 0)) no_defs no_context nowhere
given = record { suits = record { each = λ x s e. absurd cc }; global = refl; hypotheses = tt; mark = tt }

pub returns-clause-has : goal.returns-clause-has
returns-clause-has c = has

pub returns-clause-fails : goal.returns-clause-fails
returns-clause-fails c = λ n h. h.in_each no_program [] (λ x. 0) has tt (λ name l e f. absurd cc) nowhere given
