-- What is well formed is sorted, and terms of the sorts that its variables have may be put in their place.
use Rattle.std.proofs.Common.{◌≡◌, ℕ, suc, Bool, true, false, ◌||◌, cond, List, [], ◌∷◌, ◌++◌, length, map, Some, refl, sym, ap, subst, ◌∙◌, arith}
use Rattle.std.specs.Prelude.{bytes_eq, IsSome}
use Rattle.std.specs.List.{AllByRecursion, flat_map}
use Rattle.std.specs.Map.{lookup}
use Rattle.std.proofs.lemmas.Bool.{or_parts}
use Rattle.floyd_ctypes.specs.Structs.{Structs}
use Rattle.floyd_tree_sorts.specs.declared.connectives.FormulaHead.{FormulaHead}
use Rattle.floyd_tree_sorts.specs.declared.connectives.FormulaHead.TheVariants.{Forall, Exists}
use Rattle.floyd_tree_sorts.specs.declared.heads.Head.TheVariants.{Variable}
use Rattle.floyd_tree_sorts.specs.declared.sorts.Sort.{Sort, Z, Val}
use Rattle.floyd_tree.specs.declared.paths.PathStep.{PathStep}
use Rattle.floyd_tree.specs.declared.paths.PathStep.TheVariants.{Field, Subscript}
use Rattle.floyd_tree.specs.Formulas.{PlainFormula, PlainFormulas, Says, NoFormula, MoreFormulas, all_well_sorted, formulas, well_sorted}
use Rattle.floyd_tree.specs.Plain.{Plain, Plains, At, Done, More, plains}
use Rattle.floyd_tree.specs.WellSorted.{sorts_of, with_first}
use Rattle.floyd_tree_values.specs.Means as m
use Rattle.floyd_tree_values.specs.Rules.{AllAllowed, Calls, CallsOf, EachAllowed, Scope}
use Rattle.floyd_tree_values.specs.Rules as r
use Rattle.floyd_truth.specs.Capture.{Called, Changes, renamed}
use Rattle.floyd_truth.specs.Replace.{AllSortsAgree, FormulaSortsAgree, FormulasSortsAgree, HasSortOf, SortsAgree, changes_below}
use Rattle.floyd_truth.proofs.Fresh.{both_true}
use Rattle.floyd_assert_trees.specs.declared.assertion.Assertion.{Assertion}
use Rattle.floyd_assert_trees.specs.declared.assertion.Local.{Local}
use Rattle.floyd_assert_trees.specs.declared.binder.Binder.{Binder}
use Rattle.floyd_assert_trees.specs.declared.items.Defs.{Defs}
use Rattle.floyd_assert_trees.specs.declared.sep.Region.{Region}
use Rattle.floyd_assert_trees.specs.declared.sep.Sep.{Sep}
use Rattle.floyd_assert_trees.specs.declared.sep.Sep.TheVariants.{FieldAt, Padding, Valid, Anything, Predicate}
use Rattle.floyd_assert_trees.specs.declared.spec.SpecTable.{SpecTable}
use Rattle.floyd_assert_trees.specs.Meanings.{value_defs}
use Rattle.floyd_assert_changes.specs.Changed.{AssertionSortsAgree, below_existentials, existential_name, has_name, inside, local_terms, new_existentials, part_terms, region_terms, step_terms, terms_in}
use Rattle.floyd_assert_laws.specs.InChanged.{IsSorted}
use Rattle.floyd_assert_laws.proofs.Renamed.{names_from, new_is}
use Rattle.floyd_goal_formulas.specs.Fits as f
use Rattle.floyd_goal_formulas.specs.Fits.{scope_below}
use Rattle.floyd_goal_forms.specs.Assertions.{AssertionFits, PartFits, PartsFit, PredicatesOf, RegionFits, StepFits, inner_scope}
use Rattle.floyd_goal_forms.specs.Terms.{FormulasFit, TermFits, TermsFit, scope_with}

all_append : {A : Type 0} (P : A → Type 0) (xs ys : List A) → AllByRecursion P xs → AllByRecursion P ys → AllByRecursion P (xs ++ ys)
all_append P [] ys h k = k
all_append P (x ∷ xs) ys h k = (h.0, all_append P xs ys h.1 k)

-- ---- terms and formulas

-- what becomes of variables has the sorts that they have in the scope
abbrev pub Suiting : Changes → Scope → Type 0
Suiting changes scope = (v : List ℕ) (s : Sort) → lookup (bytes_eq v) scope ≡ Some s → HasSortOf (lookup (bytes_eq v) changes) s

bound_suits : (changes : Changes) (scope : Scope) → Suiting changes scope → (x y : List ℕ) (s : Sort) → Suiting ((x, Called y) ∷ changes) ((x, s) ∷ scope)
bound_suits changes scope h x y s v o e = by (bytes_eq v x) e
  where
    by : (b : Bool) → cond b (Some s) (lookup (bytes_eq v) scope) ≡ Some o → HasSortOf (cond b (Some (Called y)) (lookup (bytes_eq v) changes)) o
    by true e = tt
    by false e = h v o e

below_suits : (changes : Changes) (scope : Scope) → Suiting changes scope → (head : FormulaHead) (kids : PlainFormulas) → Suiting (changes_below changes head kids) (scope_below head scope)
below_suits changes scope h (Forall x s) kids = bound_suits changes scope h x (renamed changes kids x) s
below_suits changes scope h (Exists x s) kids = bound_suits changes scope h x (renamed changes kids x) s
below_suits changes scope h head kids = h

module _ (structs : Structs) (calls : Calls) (changes : Changes) (scope : Scope) (h : Suiting changes scope) where
  mutual
    term_agrees : (t : Plain) → EachAllowed structs scope calls t → SortsAgree changes t
    term_agrees (At (Variable x s) ts) a = (h x s a.0, terms_agree ts a.1)
    term_agrees (At head ts) a = (tt, terms_agree ts a.1)

    terms_agree : (ts : Plains) → AllAllowed structs scope calls ts → AllSortsAgree changes ts
    terms_agree Done a = tt
    terms_agree (More t ts) a = (term_agrees t a.0, terms_agree ts a.1)

module _ (defs : m.Defs) where
  mutual
    formula_agrees : (changes : Changes) (scope : Scope) → Suiting changes scope → (a : PlainFormula) → f.IsAllowed defs scope a → FormulaSortsAgree changes a
    formula_agrees changes scope h (Says head terms kids) k =
        (terms_agree defs.structs (CallsOf defs.funs) changes scope h terms k.0, formulas_agree (changes_below changes head kids) (scope_below head scope) (below_suits changes scope h head kids) kids k.1)

    formulas_agree : (changes : Changes) (scope : Scope) → Suiting changes scope → (fs : PlainFormulas) → f.AreAllowed defs scope fs → FormulasSortsAgree changes fs
    formulas_agree changes scope h NoFormula k = tt
    formulas_agree changes scope h (MoreFormulas a fs) k = (formula_agrees changes scope h a k.0, formulas_agree changes scope h fs k.1)

-- ---- lists of terms

module _ (defs : Defs) (scope : Scope) where
  -- of some sort, and well formed
  abbrev pub Good : Plain → Type 0
  Good t = (s : Sort) × r.Fits defs.structs scope (CallsOf (value_defs defs).funs) s t

  good : (s : Sort) (t : Plain) → TermFits defs scope s t → Good t
  good s t h = (s, h.fits)

  pub all_good : (sorts : List Sort) (ts : List Plain) → TermsFit defs scope sorts ts → AllByRecursion Good ts
  all_good [] [] h = tt
  all_good [] (t ∷ ts) h = absurd h
  all_good (s ∷ sorts) [] h = absurd h
  all_good (s ∷ sorts) (t ∷ ts) h = (good s t h.0, all_good sorts ts h.1)

  sizes_good : (ts : List Plain) → AllByRecursion (TermFits defs scope Z) ts → AllByRecursion Good ts
  sizes_good [] h = tt
  sizes_good (t ∷ ts) h = (good Z t h.0, sizes_good ts h.1)

  steps_good : (path : List PathStep) → AllByRecursion (StepFits defs scope) path → AllByRecursion Good (flat_map step_terms path)
  steps_good [] h = tt
  steps_good (Field x ∷ path) h = steps_good path h.1
  steps_good (Subscript t ∷ path) h = (good Z t h.0, steps_good path h.1)

  region_good : (region : Region) → RegionFits defs scope region → AllByRecursion Good (region_terms region)
  region_good region h = (
    good Z region.share h.share,
    all_append Good region.ty.sizes (flat_map step_terms region.path ++ region.root ∷ []) (sizes_good region.ty.sizes h.type.sizes.sizes)
        (all_append Good (flat_map step_terms region.path) (region.root ∷ []) (steps_good region.path h.steps) (good Val region.root h.root, tt)),
  )

  part_good : (p : Sep) → PartFits defs scope (PredicatesOf defs scope) p → AllByRecursion Good (part_terms p)
  part_good (FieldAt region value) h = all_append Good (region_terms region) (value ∷ []) (region_good region h.region) (good h.sort value h.term, tt)
  part_good (Padding region) h = region_good region h.0
  part_good (Valid t) h = (good Val t h, tt)
  part_good Anything h = tt
  part_good (Predicate name terms) h = all_good (map (λ (b : Binder). b.sort) h.0.arguments) terms h.2

  parts_good : (ps : List Sep) → PartsFit defs scope (PredicatesOf defs scope) ps → AllByRecursion Good (flat_map part_terms ps)
  parts_good [] h = tt
  parts_good (p ∷ ps) h = all_append Good (part_terms p) (flat_map part_terms ps) (part_good p h.0) (parts_good ps h.1)

  locals_good : (ls : List Local) → AllByRecursion (λ (l : Local). TermFits defs scope Val l.term) ls → AllByRecursion Good (local_terms ls)
  locals_good [] h = tt
  locals_good (l ∷ ls) h = (good Val l.term h.0, locals_good ls h.1)

  pub list_sorted : (ts : List Plain) → AllByRecursion Good ts → (ss : List Sort) × (sorts_of (plains ts) ≡ Some ss)
  list_sorted [] h = ([], refl)
  list_sorted (t ∷ ts) h =
      let rest = list_sorted ts h.1 in
      (h.0.0 ∷ rest.0, ap (λ o. with_first o (sorts_of (plains ts))) h.0.1.sorted ∙ ap (with_first (Some h.0.0)) rest.1)

  pub list_agrees : (changes : Changes) → Suiting changes scope → (ts : List Plain) → AllByRecursion Good ts → AllSortsAgree changes (plains ts)
  list_agrees changes k [] h = tt
  list_agrees changes k (t ∷ ts) h = (term_agrees defs.structs (CallsOf (value_defs defs).funs) changes scope k t h.0.1.allowed, list_agrees changes k ts h.1)

  props_sorted : (specs : SpecTable) (fs : List PlainFormula) → FormulasFit defs specs scope fs → all_well_sorted (formulas fs) ≡ true
  props_sorted specs [] h = refl
  props_sorted specs (a ∷ fs) h = both_true (well_sorted a) (all_well_sorted (formulas fs)) h.0.fits.sorted (props_sorted specs fs h.1)

  props_agree : (specs : SpecTable) (changes : Changes) → Suiting changes scope → (fs : List PlainFormula) → FormulasFit defs specs scope fs → FormulasSortsAgree changes (formulas fs)
  props_agree specs changes k [] h = tt
  props_agree specs changes k (a ∷ fs) h = (formula_agrees (value_defs defs) changes scope k a h.0.fits.allowed, props_agree specs changes k fs h.1)

-- ---- below existentials

other_there : (c d : Bool) → c ≡ false → (c || d) ≡ d
other_there true d e = absurd cc
other_there false d e = refl

-- a name that no existential has is changed as it was
below_has : (old new : List Binder) (changes : Changes) (v : List ℕ) (o : Sort) → length old ≡ length new → (has_name v old ≡ false → HasSortOf (lookup (bytes_eq v) changes) o) → HasSortOf (lookup (bytes_eq v) (below_existentials changes old new)) o
below_has [] new changes v o l h = h refl
below_has (b ∷ old) [] changes v o l h = absurd (omega (arith, l))
below_has (b ∷ old) (c ∷ new) changes v o l h =
    below_has old new ((b.name, Called c.name) ∷ changes) v o (omega (arith, l)) (λ n. by (bytes_eq v b.name) refl n)
  where
    by : (t : Bool) → bytes_eq v b.name ≡ t → has_name v old ≡ false → HasSortOf (cond t (Some (Called c.name)) (lookup (bytes_eq v) changes)) o
    by true e n = tt
    by false e n = h (other_there (bytes_eq v b.name) (has_name v old) e ∙ n)

beyond : (old : List Binder) (scope : Scope) (v : List ℕ) (o : Sort) → has_name v old ≡ false → lookup (bytes_eq v) (scope_with old ++ scope) ≡ Some o → lookup (bytes_eq v) scope ≡ Some o
beyond [] scope v o n e = e
beyond (b ∷ old) scope v o n e =
    let p = or_parts (bytes_eq v b.name) (has_name v old) n in
    beyond old scope v o p.1 (sym (ap (λ t. cond t (Some b.sort) (lookup (bytes_eq v) (scope_with old ++ scope))) p.0) ∙ e)

names_count : (changes : Changes) (a : Assertion) (done more : List Binder) → length (names_from changes a done more) ≡ length more
names_count changes a done [] = refl
names_count changes a done (b ∷ more) = ap suc (names_count changes a (done ++ record { name = existential_name changes a (done ++ more) b.name; sort = b.sort } ∷ []) more)

new_count : (changes : Changes) (a : Assertion) → length a.existentials ≡ length (new_existentials changes a)
new_count changes a = sym (ap length (new_is changes a) ∙ names_count changes a [] a.existentials)

-- ---- assertions

module _ (defs : Defs) (specs : SpecTable) (scope : Scope) (a : Assertion) (h : AssertionFits defs specs scope a) where
  abbrev inner : Scope
  inner = inner_scope a scope

  terms_good : AllByRecursion (Good defs inner) (terms_in a)
  terms_good = all_append (Good defs inner) (local_terms a.locals) (flat_map part_terms a.parts) (locals_good defs inner a.locals h.locals) (parts_good defs inner a.parts h.parts)

  pub formed_sorted : IsSorted a
  formed_sorted =
      let s = list_sorted defs inner (terms_in a) terms_good in
      record { props = props_sorted defs inner specs a.props h.props; terms = subst IsSome (sym s.1) refl }

  pub formed_agrees : (changes : Changes) → Suiting changes scope → AssertionSortsAgree changes a
  formed_agrees changes k =
      let suits : Suiting (inside changes a) inner = λ v o e.
      below_has a.existentials (new_existentials changes a) changes v o (new_count changes a) (λ n. k v o (beyond a.existentials scope v o n e)) in
      (props_agree defs inner specs (inside changes a) suits a.props h.props, list_agrees defs inner (inside changes a) suits (terms_in a) terms_good)
