-- What is well formed in a scope is so in a larger one.
use Rattle.std.proofs.Common.{◌≡◌, ℕ, Bool, true, false, cond, List, [], ◌∷◌, ◌++◌, map, Option, Some, None}
use Rattle.std.specs.Prelude.{bytes_eq}
use Rattle.std.specs.List.{AllByRecursion}
use Rattle.std.specs.Map.{lookup}
use Rattle.floyd_ctypes.specs.declared.ctype.CType.{CType, Void}
use Rattle.floyd_tree_sorts.specs.declared.connectives.FormulaHead.{FormulaHead}
use Rattle.floyd_tree_sorts.specs.declared.connectives.FormulaHead.TheVariants.{Forall, Exists}
use Rattle.floyd_tree_sorts.specs.declared.sorts.Sort.{Sort, Z, Val}
use Rattle.floyd_tree.specs.declared.paths.PathStep.{PathStep}
use Rattle.floyd_tree.specs.declared.paths.PathStep.TheVariants.{Field, Subscript}
use Rattle.floyd_tree.specs.Formulas.{PlainFormula, PlainFormulas, Says, NoFormula, MoreFormulas}
use Rattle.floyd_tree.specs.Plain.{Plain}
use Rattle.floyd_tree_values.specs.Rules.{CallsOf, Scope}
use Rattle.floyd_assert_trees.specs.declared.assertion.Assertion.{Assertion}
use Rattle.floyd_assert_trees.specs.declared.assertion.Local.{Local}
use Rattle.floyd_assert_trees.specs.declared.binder.Binder.{Binder}
use Rattle.floyd_assert_trees.specs.declared.items.Defs.{Defs}
use Rattle.floyd_assert_trees.specs.declared.sep.Region.{Region}
use Rattle.floyd_assert_trees.specs.declared.sep.Sep.{Sep}
use Rattle.floyd_assert_trees.specs.declared.sep.Sep.TheVariants.{FieldAt, Padding, Valid, Anything, Predicate}
use Rattle.floyd_assert_trees.specs.declared.spec.SpecTable.{SpecTable}
use Rattle.floyd_assert_trees.specs.Meanings.{value_defs}
use Rattle.floyd_goal_formulas.specs.Fits.{AreAllowed, IsAllowed, scope_below}
use Rattle.floyd_goal_forms.specs.Assertions.{AssertionFits, PartFits, PartsFit, PredicatesOf, RegionFits, StepFits, inner_scope}
use Rattle.floyd_goal_forms.specs.Goals.{ExitFits, ExitsFit, ResultFits}
use Rattle.floyd_goal_forms.specs.Terms.{FormulaFits, FormulasFit, TermFits, TermsFit, scope_with}
use Rattle.floyd_goal_trees.specs.declared.exits.Exit.{Exit}
use Rattle.floyd_goal_trees.specs.declared.exits.Exit.TheVariants as x
use Rattle.floyd_goal_trees.specs.declared.exits.Exits.{Exits}
use Rattle.floyd_formed_pure.proofs.Contexts.{AreIn}
use Rattle.floyd_formed_quantifiers.proofs.Leading.{term_stays, terms_stay}

pub each_grows : {A : Type 0} (P Q : A → Type 0) → ((x : A) → P x → Q x) → (xs : List A) → AllByRecursion P xs → AllByRecursion Q xs
each_grows P Q k [] h = tt
each_grows P Q k (x ∷ xs) h = (k x h.0, each_grows P Q k xs h.1)

one_in : (small large : Scope) → AreIn small large → (y : List ℕ) (s : Sort) → AreIn ((y, s) ∷ small) ((y, s) ∷ large)
one_in small large k y s v r e = by (bytes_eq v y) e
  where
    by : (b : Bool) → cond b (Some s) (lookup (bytes_eq v) small) ≡ Some r → cond b (Some s) (lookup (bytes_eq v) large) ≡ Some r
    by true i = i
    by false i = k v r i

below_in : (small large : Scope) → AreIn small large → (head : FormulaHead) → AreIn (scope_below head small) (scope_below head large)
below_in small large k (Forall y s) = one_in small large k y s
below_in small large k (Exists y s) = one_in small large k y s
below_in small large k head = k

pub binders_in : (small large : Scope) → AreIn small large → (bs : List Binder) → AreIn (scope_with bs ++ small) (scope_with bs ++ large)
binders_in small large k [] = k
binders_in small large k (b ∷ bs) = one_in (scope_with bs ++ small) (scope_with bs ++ large) (binders_in small large k bs) b.name b.sort

module _ (defs : Defs) where
  mutual
    formula_grows : (small large : Scope) → AreIn small large → (a : PlainFormula) → IsAllowed (value_defs defs) small a → IsAllowed (value_defs defs) large a
    formula_grows small large k (Says head terms kids) h =
        (terms_stay defs.structs (CallsOf (value_defs defs).funs) small large terms (λ v i. k v) h.0, formulas_grow (scope_below head small) (scope_below head large) (below_in small large k head) kids h.1)

    formulas_grow : (small large : Scope) → AreIn small large → (fs : PlainFormulas) → AreAllowed (value_defs defs) small fs → AreAllowed (value_defs defs) large fs
    formulas_grow small large k NoFormula h = tt
    formulas_grow small large k (MoreFormulas a fs) h = (formula_grows small large k a h.0, formulas_grow small large k fs h.1)

module _ (defs : Defs) (small large : Scope) (k : AreIn small large) where
  pub fits_grow : (s : Sort) (t : Plain) → TermFits defs small s t → TermFits defs large s t
  fits_grow s t h = record { fits = record { sorted = h.fits.sorted; allowed = term_stays defs.structs (CallsOf (value_defs defs).funs) small large t (λ v i. k v) h.fits.allowed }; known = h.known }

  all_grow : (sorts : List Sort) (ts : List Plain) → TermsFit defs small sorts ts → TermsFit defs large sorts ts
  all_grow [] [] h = tt
  all_grow [] (t ∷ ts) h = absurd h
  all_grow (s ∷ sorts) [] h = absurd h
  all_grow (s ∷ sorts) (t ∷ ts) h = (fits_grow s t h.0, all_grow sorts ts h.1)

  step_grows : (step : PathStep) → StepFits defs small step → StepFits defs large step
  step_grows (Field y) h = tt
  step_grows (Subscript t) h = fits_grow Z t h

  abbrev region_grows : (r : Region) → RegionFits defs small r → RegionFits defs large r
  region_grows r h = record {
    share = fits_grow Z r.share h.share;
    type = record {
      sizes = record { count = h.type.sizes.count; sizes = each_grows (TermFits defs small Z) (TermFits defs large Z) (fits_grow Z) r.ty.sizes h.type.sizes.sizes };
      sort = h.type.sort;
    };
    steps = each_grows (StepFits defs small) (StepFits defs large) step_grows r.path h.steps;
    nested = h.nested;
    at = h.at;
    root = fits_grow Val r.root h.root;
  }

  part_grows : (p : Sep) → PartFits defs small (PredicatesOf defs small) p → PartFits defs large (PredicatesOf defs large) p
  part_grows (FieldAt r value) h = record { region = region_grows r h.region; sort = h.sort; is = h.is; term = fits_grow h.sort value h.term }
  part_grows (Padding r) h = (region_grows r h.0, h.1)
  part_grows (Valid t) h = fits_grow Val t h
  part_grows Anything h = tt
  part_grows (Predicate name terms) h = (h.0, h.1, all_grow (map (λ (b : Binder). b.sort) h.0.arguments) terms h.2)

  pub parts_grow : (ps : List Sep) → PartsFit defs small (PredicatesOf defs small) ps → PartsFit defs large (PredicatesOf defs large) ps
  parts_grow ps h = each_grows (PartFits defs small (PredicatesOf defs small)) (PartFits defs large (PredicatesOf defs large)) part_grows ps h

  result_grows : (result : CType) (o : Option Plain) → ResultFits defs small result o → ResultFits defs large result o
  result_grows Void None h = tt
  result_grows Void (Some t) h = absurd h
  result_grows result None h = absurd h
  result_grows result (Some t) h = fits_grow Val t h

  module _ (specs : SpecTable) where
    pub prop_grows : (a : PlainFormula) → FormulaFits defs specs small a → FormulaFits defs specs large a
    prop_grows a h = record { fits = record { sorted = h.fits.sorted; allowed = formula_grows defs small large k a h.fits.allowed }; known = h.known }

    pub props_grow : (fs : List PlainFormula) → FormulasFit defs specs small fs → FormulasFit defs specs large fs
    props_grow fs h = each_grows (FormulaFits defs specs small) (FormulaFits defs specs large) prop_grows fs h

module _ (defs : Defs) (specs : SpecTable) (small large : Scope) (k : AreIn small large) where
  pub assertion_grows : (a : Assertion) → AssertionFits defs specs small a → AssertionFits defs specs large a
  assertion_grows a h =
      let inner = inner_scope a small in
      let outer = inner_scope a large in
      let below = binders_in small large k a.existentials in
      record {
        existentials = h.existentials;
        props = props_grow defs inner outer below specs a.props h.props;
        temporaries = h.temporaries;
        locals = each_grows (λ (l : Local). TermFits defs inner Val l.term) (λ (l : Local). TermFits defs outer Val l.term) (λ l. fits_grow defs inner outer below Val l.term) a.locals h.locals;
        parts = parts_grow defs inner outer below a.parts h.parts;
      }

  exit_grows : (exit : Exit) → ExitFits defs specs small exit → ExitFits defs specs large exit
  exit_grows x.None h = tt
  exit_grows (x.To a) h = assertion_grows a h
  exit_grows x.End h = tt

  pub exits_grow : (exits : Exits) → ExitsFit defs specs small exits → ExitsFit defs specs large exits
  exits_grow exits h =
      let below = binders_in small large k exits.ret.post.existentials in
      record {
        normal = exit_grows exits.normal h.normal;
        is_normal = h.is_normal;
        brk = exit_grows exits.brk h.brk;
        brk_no_end = h.brk_no_end;
        cont = exit_grows exits.cont h.cont;
        cont_no_end = h.cont_no_end;
        ret = record {
          post = assertion_grows exits.ret.post h.ret.post;
          value = result_grows defs (inner_scope exits.ret.post small) (inner_scope exits.ret.post large) below exits.ret.result exits.ret.value h.ret.value;
        };
      }
