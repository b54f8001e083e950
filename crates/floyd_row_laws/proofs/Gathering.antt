-- How the laws of single rows give both laws with one premise.
use Rattle.std.proofs.Common.{◌≡◌, ℕ, ◌<◌, ◌^◌, List, [], ◌∷◌, Option, Some, None, Ok, All, arith}
use Rattle.std.specs.List.{AllByRecursion}
use Rattle.std.proofs.lemmas.List.Elements.{All-cons, All-nil}
use Rattle.floyd_tree.specs.Formulas.{PlainFormula}
use Rattle.floyd_tree.specs.Plain.{Plain}
use Rattle.floyd_assert_trees.specs.declared.items.Defs.{Defs}
use Rattle.floyd_assert_trees.specs.declared.spec.SpecTable.{SpecTable}
use Rattle.floyd_assert_trees.specs.Meanings.{value_defs}
use Rattle.floyd_goal_fits.proofs.Goals.{pure_fits}
use Rattle.floyd_goal_forms.specs.Goals.{IsWellFormed}
use Rattle.floyd_goal_meaning.specs.GoalHolds.{HoldsFor}
use Rattle.floyd_goal_trees.specs.Contexts.{context_of, scope_of}
use Rattle.floyd_goal_trees.specs.declared.args.Args.{Args}
use Rattle.floyd_goal_trees.specs.declared.context.Context.{Context}
use Rattle.floyd_goal_trees.specs.declared.goal.Entail as e
use Rattle.floyd_goal_trees.specs.declared.goal.Goal.{Goal}
use Rattle.floyd_goal_trees.specs.declared.goal.Goal.TheVariants as g
use Rattle.floyd_goal_trees.specs.declared.goal.Run as r
use Rattle.floyd_pure_formulas.specs.Holds.{ArgsFit, FormulaFits, TermFits}
use Rattle.floyd_pure_formulas.specs.Rows as p
use Rattle.floyd_pure_soundness.specs.Rows.{IsSound, IsSoundOnPure, IsSoundOnWellFormed}
use Rattle.floyd_pure_soundness.proofs.Divided.{formed_hypotheses}
use Rattle.floyd_entail_soundness.specs.Rows as w
use Rattle.floyd_rewriting_soundness.specs.Small.{IsSmallGoal, IsSoundOnSmall}
use Rattle.floyd_formed_pure.specs.Rows.{AreWellFormed, GivenFormula, GivenTerm, IsGiven, KeepsForms}
use Rattle.floyd_formed_destruct.specs.Rows.{KeepsFormsOfSmall}
use Rattle.floyd_formed_entail.specs.Rows.{KeepsFormsWhere}
use Rattle.floyd_row_laws.specs.Laws.{Asking, HasLaws, Meets, Nothing}

-- ---- what a command is given

module _ (defs : Defs) (specs : SpecTable) (context : Context) where
  terms_fit : (ts : List Plain) → AllByRecursion (GivenTerm defs (scope_of context)) ts → All (TermFits (value_defs defs) context) ts
  terms_fit [] h = All-nil (TermFits (value_defs defs) context)
  terms_fit (t ∷ ts) h = All-cons (TermFits (value_defs defs) context) t ts ((h.0.0.0, h.0.0.1.fits), h.0.1) (terms_fit ts h.1)

  formula_fit : (o : Option PlainFormula) → GivenFormula defs specs (scope_of context) o → FormulaFits (value_defs defs) context o
  formula_fit None h = tt
  formula_fit (Some f) h = h.fits

  args_fit : (args : Args) → IsGiven defs specs context args → ArgsFit (value_defs defs) context args
  args_fit args h = record { terms = terms_fit args.terms h.terms; formula = formula_fit args.formula h.formula }

-- ---- rows on goals of every kind

pub any_goal : (R : p.Row) → IsSound R → KeepsForms R → HasLaws Nothing (λ defs. R)
any_goal R sound forms = record {
  sound = λ defs specs n goal args goals m row h. sound defs specs n goal args goals (formed_hypotheses defs specs goal m.formed) (args_fit defs specs (context_of goal) args m.given) row h;
  forms = λ defs specs goal args goals m row. forms defs specs goal args goals m.formed m.given row;
}

pub formed_goal : (R : p.Row) → IsSoundOnWellFormed R → KeepsForms R → HasLaws Nothing (λ defs. R)
formed_goal R sound forms = record {
  sound = λ defs specs n goal args goals m row h. sound defs specs n goal args goals m.formed (args_fit defs specs (context_of goal) args m.given) row h;
  forms = λ defs specs goal args goals m row. forms defs specs goal args goals m.formed m.given row;
}

pub small_goal : (R : p.Row) → IsSoundOnSmall R → KeepsFormsOfSmall R → HasLaws Nothing (λ defs. R)
small_goal R sound forms = record {
  sound = λ defs specs n goal args goals m row h. sound defs specs n goal args goals m.formed m.small (args_fit defs specs (context_of goal) args m.given) row h;
  forms = λ defs specs goal args goals m row. forms defs specs goal args goals m.formed m.small m.given row;
}

-- ---- rows on Pure goals

-- other goals are refused
pub record IsPureRow (R : p.Row) : Type 0 where
  pub run : (run : r.Run) (args : Args) (goals : List Goal) → R (g.Run run) args (Ok goals) → ⊥
  pub entail : (entail : e.Entail) (args : Args) (goals : List Goal) → R (g.Entail entail) args (Ok goals) → ⊥

pure_sound : (R : p.Row) → IsSoundOnPure R → IsPureRow R → (defs : Defs) (specs : SpecTable) (n : ℕ) (goal : Goal) (args : Args) (goals : List Goal) → Meets Nothing defs specs goal args → R goal args (Ok goals) → AllByRecursion (HoldsFor defs specs n) goals → HoldsFor defs specs n goal
pure_sound R sound others defs specs n (g.Run run) args goals m row h = absurd (others.run run args goals row)
pure_sound R sound others defs specs n (g.Entail entail) args goals m row h = absurd (others.entail entail args goals row)
pure_sound R sound others defs specs n (g.Pure pure) args goals m row h = sound defs specs n pure args goals (pure_fits defs specs pure m.formed) (args_fit defs specs pure.context args m.given) row h

pub pure_goal : (R : p.Row) → IsSoundOnPure R → IsPureRow R → KeepsForms R → HasLaws Nothing (λ defs. R)
pure_goal R sound others forms = record {
  sound = λ defs specs n goal args goals m row h. pure_sound R sound others defs specs n goal args goals m row h;
  forms = λ defs specs goal args goals m row. forms defs specs goal args goals m.formed m.given row;
}

-- ---- rows on goals about memory

pub where_asked : (Asks : Asking) (R : w.Row) → w.IsSoundWhere Asks R → KeepsFormsWhere Asks R → HasLaws Asks (λ defs. R defs.structs)
where_asked Asks R sound forms = record {
  sound = λ defs specs n goal args goals m row h. sound defs specs n goal args goals m.formed m.asked row h;
  forms = λ defs specs goal args goals m row. forms defs specs goal args goals m.formed m.asked row;
}

-- fewer nodes than names are tried
few_nodes : (defs : Defs) (goal : Goal) (args : Args) → IsSmallGoal goal → w.HasFewNodes defs goal args
few_nodes defs (g.Run run) args h = omega (arith, h.0)
few_nodes defs (g.Entail entail) args h = omega (arith, h.0)
few_nodes defs (g.Pure pure) args h = tt

pub where_few : (R : w.Row) → w.IsSoundWhere w.HasFewNodes R → KeepsFormsWhere w.HasFewNodes R → HasLaws Nothing (λ defs. R defs.structs)
where_few R sound forms = record {
  sound = λ defs specs n goal args goals m row h. sound defs specs n goal args goals m.formed (few_nodes defs goal args m.small) row h;
  forms = λ defs specs goal args goals m row. forms defs specs goal args goals m.formed (few_nodes defs goal args m.small) row;
}
