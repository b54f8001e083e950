use Rattle.floyd_termread_scope.specs.Scopes.{env}
use Rattle.floyd_termread_wants.proofs.JudgedLists.{judges_as}
use Rattle.floyd_termread_formulas.proofs.FormulaLemmas.{as_bracket_step, no_step_prefixed, no_step_row}
use Rattle.floyd_termread_formulas.proofs.paths.step.Goals as goal

pub returns-in-Bracket : goal.returns-in-Bracket
returns-in-Bracket c = record {
  exact = judges_as _ _ _ _ (as_bracket_step (env c.args.scope.now c.args.bound.now) c.args.tree.now c.in-Bracket.opening _ c.in-Bracket.items c.as_slice.result.now c.in-Bracket.close c.in-Bracket.is c.as_slice.ensures) c.bracket_step.ensures.exact;
}

pub returns-in-Prefixed : goal.returns-in-Prefixed
returns-in-Prefixed c = record { exact = no_step_prefixed _ _ _ _ c.in-Prefixed.is }

pub returns-in-Row : goal.returns-in-Row
returns-in-Row c = record { exact = no_step_row _ _ _ _ _ c.in-Row.is }
