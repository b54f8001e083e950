-- Goals that are well formed over what a proof stands on.
use Rattle.std.specs.Prelude.{◌≡◌, ℕ, true, List, map, Option, Some, None, is_some, bytes_eq}
use Rattle.std.specs.List.{AllByRecursion}
use Rattle.std.specs.Map.{lookup}
use Rattle.floyd_ctypes.specs.declared.ctype.CType.{CType, Void}
use Rattle.floyd_clight.specs.declared.syntax.Stmt.{Stmt}
use Rattle.floyd_clight.specs.declared.unit.Defined.{Defined}
use Rattle.floyd_clight.specs.Flat.{flat}
use Rattle.floyd_clight_memory.specs.Memory.{nth}
use Rattle.floyd_clight_typing.specs.Bodies.{IsBody}
use Rattle.floyd_tree_sorts.specs.declared.sorts.Sort.{Sort, Val, ListOf', TreeOf'}
use Rattle.floyd_tree.specs.Plain.{Plain}
use Rattle.floyd_tree_values.specs.Rules.{AreDistinct, Scope}
use Rattle.floyd_assert_trees.specs.declared.binder.Binder.{Binder}
use Rattle.floyd_assert_trees.specs.declared.items.Defs.{Defs}
use Rattle.floyd_assert_trees.specs.declared.items.Lemma.{Lemma}
use Rattle.floyd_assert_trees.specs.declared.spec.SpecTable.{SpecTable}
use Rattle.floyd_goal_trees.specs.Contexts.{scope_of}
use Rattle.floyd_goal_trees.specs.declared.context.Context.{Context}
use Rattle.floyd_goal_trees.specs.declared.context.Mark.{Mark}
use Rattle.floyd_goal_trees.specs.declared.context.Mark.TheVariants as m
use Rattle.floyd_goal_trees.specs.declared.exits.Exit as e
use Rattle.floyd_goal_trees.specs.declared.exits.Exit.TheVariants as x
use Rattle.floyd_goal_trees.specs.declared.exits.Exits as g
use Rattle.floyd_goal_trees.specs.declared.exits.Return as ret
use Rattle.floyd_goal_trees.specs.declared.goal.Entail as entails
use Rattle.floyd_goal_trees.specs.declared.goal.Goal.{Goal}
use Rattle.floyd_goal_trees.specs.declared.goal.Goal.TheVariants.{Run, Entail, Pure}
use Rattle.floyd_goal_trees.specs.declared.goal.Pure as pure
use Rattle.floyd_goal_trees.specs.declared.goal.Run as run
use Rattle.floyd_goal_forms.specs.Assertions.{AssertionFits, inner_scope}
use Rattle.floyd_goal_forms.specs.Bodies.{IsPart}
use Rattle.floyd_goal_forms.specs.Starts.{lemma_start}
use Rattle.floyd_goal_forms.specs.Terms.{FormulaFits, FormulasFit, names_with, TermFits}

-- ---- contexts

abbrev pub IsVariableOf : Context → Sort → List ℕ → Type 0
IsVariableOf context s x = lookup (bytes_eq x) (scope_of context) ≡ Some s

-- a list or a tree, of which there are parts
abbrev pub HasParts : Sort → Type 0
HasParts (ListOf' p a) = Unit {0}
HasParts (TreeOf' p a) = Unit {0}
HasParts s = ⊥

-- a lemma, the place of one of its variables that is a list or a tree, and variables of the context that have this sort
pub record IsInduction (defs : Defs) (context : Context) (name : List ℕ) (place : ℕ) (names : List (List ℕ)) : Type 0 where
  pub lemma : Lemma
  pub is : lookup (bytes_eq name) defs.lemmas ≡ Some lemma
  pub variable : Binder
  pub at : nth lemma.with place ≡ Some variable
  pub parts : HasParts variable.sort
  pub smaller : AllByRecursion (IsVariableOf context variable.sort) names

-- a mark at the start of a lemma's proof stands in its start goal
abbrev pub MarkFits : Defs → Goal → Context → Mark → Type 0
MarkFits defs goal context m.Plain = Unit {0}
MarkFits defs goal context (m.Start name) = (l : Lemma) × (lookup (bytes_eq name) defs.lemmas ≡ Some l) × (goal ≡ lemma_start name l)
MarkFits defs goal context (m.Induction name place names) = IsInduction defs context name place names

-- the variables have names of their own, and the hypotheses are well formed
pub record ContextFits (defs : Defs) (specs : SpecTable) (goal : Goal) (context : Context) : Type 0 where
  pub variables : AreDistinct (names_with context.variables)
  pub hypotheses : FormulasFit defs specs (scope_of context) context.hypotheses
  pub mark : MarkFits defs goal context context.mark

-- ---- statements and exits

-- the statements are those of a function's body, or a part of them, and result and local blocks are that function's; all
-- names of the file that it mentions are known
pub record IsOfFunction (defs : Defs) (rest : List Stmt) (r : ret.Return) : Type 0 where
  pub function : Defined
  pub file : List (List ℕ × CType)
  pub known : AllByRecursion (λ x. is_some (lookup (bytes_eq x.0) defs.globals) ≡ true) file
  pub body : IsBody defs.structs file function
  pub part : IsPart rest (flat function.body)
  pub result : r.result ≡ function.result
  pub blocks : r.blocks ≡ function.blocks

abbrev pub ExitFits : Defs → SpecTable → Scope → e.Exit → Type 0
ExitFits defs specs scope x.None = Unit {0}
ExitFits defs specs scope (x.To a) = AssertionFits defs specs scope a
ExitFits defs specs scope x.End = Unit {0}

-- the normal exit is there, and is the function's end only where that is void
abbrev pub IsNormal : CType → e.Exit → Type 0
IsNormal result x.None = ⊥
IsNormal result (x.To a) = Unit {0}
IsNormal result x.End = result ≡ Void

abbrev pub IsNoEnd : e.Exit → Type 0
IsNoEnd x.None = Unit {0}
IsNoEnd (x.To a) = Unit {0}
IsNoEnd x.End = ⊥

-- a term of RETURN exactly where the result is not void
abbrev pub ResultFits : Defs → Scope → CType → Option Plain → Type 0
ResultFits defs scope Void None = Unit {0}
ResultFits defs scope Void (Some t) = ⊥
ResultFits defs scope result None = ⊥
ResultFits defs scope result (Some t) = TermFits defs scope Val t

pub record ReturnFits (defs : Defs) (specs : SpecTable) (scope : Scope) (r : ret.Return) : Type 0 where
  pub post : AssertionFits defs specs scope r.post
  pub value : ResultFits defs (inner_scope r.post scope) r.result r.value

pub record ExitsFit (defs : Defs) (specs : SpecTable) (scope : Scope) (exits : g.Exits) : Type 0 where
  pub normal : ExitFits defs specs scope exits.normal
  pub is_normal : IsNormal exits.ret.result exits.normal
  pub brk : ExitFits defs specs scope exits.brk
  pub brk_no_end : IsNoEnd exits.brk
  pub cont : ExitFits defs specs scope exits.cont
  pub cont_no_end : IsNoEnd exits.cont
  pub ret : ReturnFits defs specs scope exits.ret

-- ---- goals

pub record RunFits (defs : Defs) (specs : SpecTable) (r : run.Run) : Type 0 where
  pub context : ContextFits defs specs (Run r) r.context
  pub source : AssertionFits defs specs (scope_of r.context) r.source
  pub statements : IsOfFunction defs r.rest r.exits.ret
  pub exits : ExitsFit defs specs (scope_of r.context) r.exits

pub record EntailFits (defs : Defs) (specs : SpecTable) (a : entails.Entail) : Type 0 where
  pub context : ContextFits defs specs (Entail a) a.context
  pub source : AssertionFits defs specs (scope_of a.context) a.source
  pub target : AssertionFits defs specs (scope_of a.context) a.target

pub record PureFits (defs : Defs) (specs : SpecTable) (a : pure.Pure) : Type 0 where
  pub context : ContextFits defs specs (Pure a) a.context
  pub target : FormulaFits defs specs (scope_of a.context) a.target

-- the goal is well formed
abbrev pub IsWellFormed : Defs → SpecTable → Goal → Type 0
IsWellFormed defs specs (Run r) = RunFits defs specs r
IsWellFormed defs specs (Entail a) = EntailFits defs specs a
IsWellFormed defs specs (Pure a) = PureFits defs specs a
