-- Formulas that are well formed: well sorted, and each node of their terms is allowed.
use Rattle.std.specs.Prelude.{◌≡◌, true, ◌∷◌}
use Rattle.floyd_tree_sorts.specs.declared.connectives.FormulaHead.{FormulaHead}
use Rattle.floyd_tree_sorts.specs.declared.connectives.FormulaHead.TheVariants.{Forall, Exists}
use Rattle.floyd_tree.specs.Formulas.{PlainFormula, PlainFormulas, Says, NoFormula, MoreFormulas, well_sorted}
use Rattle.floyd_tree_values.specs.Means.{Defs}
use Rattle.floyd_tree_values.specs.Rules.{Scope, CallsOf, AllAllowed}

-- the variables below a head
abbrev pub scope_below : FormulaHead → Scope → Scope
scope_below (Forall x s) scope = (x, s) ∷ scope
scope_below (Exists x s) scope = (x, s) ∷ scope
scope_below head scope = scope

-- each node of the terms is allowed: its variable has its sort in the scope, its call is of a FUN
abbrev mutual
  pub IsAllowed : Defs → Scope → PlainFormula → Type 0
  IsAllowed defs scope (Says head terms kids) = AllAllowed defs.structs scope (CallsOf defs.funs) terms × AreAllowed defs (scope_below head scope) kids

  pub AreAllowed : Defs → Scope → PlainFormulas → Type 0
  AreAllowed defs scope NoFormula = Unit {0}
  AreAllowed defs scope (MoreFormulas f fs) = IsAllowed defs scope f × AreAllowed defs scope fs

pub record Fits (defs : Defs) (scope : Scope) (f : PlainFormula) : Type 0 where
  pub sorted : well_sorted f ≡ true
  pub allowed : IsAllowed defs scope f
