-- What a command is given stays well formed in the program.
use Rattle.std.proofs.Common.{Option, Some, None}
use Rattle.std.proofs.lemmas.List.Elements.{All-weaker}
use Rattle.floyd_tree.specs.Formulas.{PlainFormula}
use Rattle.floyd_assert_trees.specs.declared.items.Defs.{Defs}
use Rattle.floyd_assert_trees.specs.declared.spec.SpecTable.{SpecTable}
use Rattle.floyd_assert_trees.specs.Meanings.{value_defs}
use Rattle.floyd_goal_trees.specs.declared.args.Args.{Args}
use Rattle.floyd_goal_trees.specs.declared.context.Context.{Context}
use Rattle.floyd_goal_truth.specs.Scopes.{AllFit, scope_of}
use Rattle.floyd_goal_meaning.specs.declared.linked.Linked.{Linked}
use Rattle.floyd_goal_meaning.specs.Links.{Has}
use Rattle.floyd_goal_meaning.specs.Programs.{defs_of}
use Rattle.floyd_goal_laws.proofs.Growing.{all_fit_program, fits_program, term_fits_program}
use Rattle.floyd_pure_formulas.specs.Holds.{ArgsFit, FormulaFits, TermFits}

module _ (L : Linked) (defs : Defs) (specs : SpecTable) (has : Has L defs specs) (context : Context) where
  formula_stays : (o : Option PlainFormula) → FormulaFits (value_defs defs) context o → FormulaFits (defs_of L) context o
  formula_stays None h = tt
  formula_stays (Some f) h = fits_program L defs specs has (scope_of context) f h

  pub args_stay : (args : Args) → ArgsFit (value_defs defs) context args → ArgsFit (defs_of L) context args
  args_stay args h = record {
    terms = All-weaker (TermFits (value_defs defs) context) (TermFits (defs_of L) context) (λ t k. ((k.0.0, term_fits_program L defs specs has (scope_of context) k.0.0 t k.0.1), k.1)) args.terms h.terms;
    formula = formula_stays args.formula h.formula;
  }

  pub hypotheses_stay : AllFit (value_defs defs) context context.hypotheses → AllFit (defs_of L) context context.hypotheses
  hypotheses_stay h = all_fit_program L defs specs has (scope_of context) context.hypotheses h
