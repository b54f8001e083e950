-- What an instance is made of, and that its terms have the sorts of the variables.
use Rattle.std.proofs.Common.{◌≡◌, ℕ, Bool, true, false, cond, List, [], ◌∷◌, length, map, Option, Some, None, Result, Ok, Err, refl, sym, ◌∙◌, ap, subst}
use Rattle.std.specs.Prelude.{◌==◌, bytes_eq, if◌then◌else◌}
use Rattle.std.specs.List.{AllByRecursion, list_all}
use Rattle.std.specs.Map.{lookup}
use Rattle.std.proofs.lemmas.Bool.{and_parts}
use Rattle.floyd_text.specs.declared.code.Code.TheVariants.{TermTooLarge}
use Rattle.floyd_text.specs.declared.refusal.No.{No}
use Rattle.floyd_text.specs.declared.refusal.Shown.TheVariants.{Nothing}
use Rattle.floyd_tree_sorts.specs.declared.shape.Shape.{Shape, Void}
use Rattle.floyd_tree_sorts.specs.declared.sorts.Sort.{Sort, Val}
use Rattle.floyd_tree_sorts.proofs.SortLemmas.{same_sort_true}
use Rattle.floyd_tree.specs.Made.{fits}
use Rattle.floyd_tree.specs.Plain.{Plain}
use Rattle.floyd_tree.specs.WellSorted.{sort_of}
use Rattle.floyd_tree_values.specs.Rules.{AreDistinct, Scope}
use Rattle.floyd_truth.specs.Capture.{Changes, Put}
use Rattle.floyd_truth.specs.Replace.{HasSortOf, puts, replaced}
use Rattle.floyd_assert_trees.specs.declared.assertion.Local.{Local}
use Rattle.floyd_assert_trees.specs.declared.binder.Binder.{Binder}
use Rattle.floyd_assert_trees.specs.declared.items.Defs.{Defs}
use Rattle.floyd_assert_trees.specs.declared.spec.Funspec.{Funspec}
use Rattle.floyd_assert_trees.specs.declared.spec.SpecTable.{SpecTable}
use Rattle.floyd_assert_changes.specs.Changed.{assertion_after, assertion_fits, assertion_with}
use Rattle.floyd_assert_changes.specs.Substituted.{terms_with, within_limits}
use Rattle.floyd_fieldpath.specs.Written.{on_ok}
use Rattle.floyd_assert_instances.specs.declared.instance.Instance.{Instance}
use Rattle.floyd_assert_instances.specs.Instances.{have_sorts, ill_sorted, is_sort, pairs, taken, wrong_count}
use Rattle.floyd_assert_instances.specs.Specifications.{TakesTerms, asked, given, instance_of, instantiated, returned, spec_with, with_params, with_post}
use Rattle.floyd_goal_forms.specs.Assertions.{AssertionFits}
use Rattle.floyd_goal_forms.specs.Items.{FunspecFits, ValueFits, post_scope}
use Rattle.floyd_goal_forms.specs.Terms.{TermFits, scope_with}
use Rattle.floyd_import_laws.proofs.Sorted.{Suiting, all_good, formed_agrees, list_agrees}

-- ---- the parts of an answer

pub record Goes (A B : Type 0) (r : Result A No) (f : A → Result B No) (b : B) : Type 0 where
  pub value : A
  pub first : r ≡ Ok value
  pub then' : f value ≡ Ok b

pub goes : {A B : Type 0} (r : Result A No) (f : A → Result B No) (b : B) → on_ok r f ≡ Ok b → Goes A B r f b
goes (Ok a) f b e = record { value = a; first = refl; then' = e }
goes (Err refusal) f b e = absurd cc

abbrev ok : {A : Type 0} → A → Result A No
ok a = Ok a

same_ok : {A : Type 0} (a b : A) → ok a ≡ ok b → a ≡ b
same_ok a b e = cc

abbrev too_large : No
too_large = record { code = TermTooLarge; shown = Nothing }

pub within : {T : Type 0} (test : T → Bool) (x r : T) → within_limits test x ≡ Ok r → r ≡ x
within test x r e = by (test x) e
  where
    by : (c : Bool) → (if c then Ok x else Err too_large) ≡ Ok r → r ≡ x
    by true i = cc
    by false i = absurd cc

pub record Taken (bs : List Binder) (ts : List Plain) (by : List (List ℕ × Plain)) : Type 0 where
  pub is : by ≡ pairs bs ts
  pub sorts : have_sorts bs ts ≡ true

pub taken_is : (bs : List Binder) (ts : List Plain) (by : List (List ℕ × Plain)) → taken bs ts ≡ Ok by → Taken bs ts by
taken_is bs ts by e = so (length ts == length bs) (have_sorts bs ts) refl e
  where
    so : (c d : Bool) → have_sorts bs ts ≡ d → (if c then if d then Ok (pairs bs ts) else Err ill_sorted else Err (wrong_count (length ts))) ≡ Ok by → Taken bs ts by
    so true true h i = record { is = cc; sorts = h }
    so true false h i = absurd cc
    so false d h i = absurd cc

-- ---- the instance

abbrev pub instance_at : Changes → Funspec → Instance
instance_at ch spec = instance_of (assertion_after ch (asked spec.pre)) (map (replaced ch) spec.pre.params) (assertion_after ch (given spec.post))

pub record Made (spec : Funspec) (terms : List Plain) (i : Instance) : Type 0 where
  pub is : i ≡ instance_at (puts (pairs spec.with terms)) spec
  pub sorts : have_sorts spec.with terms ≡ true

pub made : (spec : Funspec) (terms : List Plain) (i : Instance) → instantiated spec terms ≡ Ok i → Made spec terms i
made spec terms i e =
    let by = goes (taken spec.with terms) (λ by. spec_with by spec) i e in
    let t = taken_is spec.with terms by.value by.first in
    let pre = goes (assertion_with by.value (asked spec.pre)) (with_params by.value spec) i by.then' in
    let params = goes (terms_with by.value spec.pre.params) (with_post by.value spec pre.value) i pre.then' in
    let post = goes (assertion_with by.value (given spec.post)) (λ post. Ok (instance_of pre.value params.value post)) i params.then' in
    record {
      is =
          sym (same_ok (instance_of pre.value params.value post.value) i post.then')
          ∙ ap (λ a. instance_of a params.value post.value) (within assertion_fits (assertion_after (puts by.value) (asked spec.pre)) pre.value pre.first)
          ∙ ap (λ ts. instance_of (assertion_after (puts by.value) (asked spec.pre)) ts post.value) (within (list_all fits) (map (replaced (puts by.value)) spec.pre.params) params.value params.first)
          ∙ ap (instance_of (assertion_after (puts by.value) (asked spec.pre)) (map (replaced (puts by.value)) spec.pre.params)) (within assertion_fits (assertion_after (puts by.value) (given spec.post)) post.value post.first)
          ∙ ap (λ all. instance_at (puts all) spec) t.is;
      sorts = t.sorts;
    }

-- ---- sorts

pub sort_is : (s : Sort) (o : Option Sort) → is_sort s o ≡ true → o ≡ Some s
sort_is s None h = absurd cc
sort_is s (Some r) h = ap Some (same_sort_true r s h)

pub suiting : (bs : List Binder) (ts : List Plain) → have_sorts bs ts ≡ true → Suiting (puts (pairs bs ts)) (scope_with bs)
suiting [] ts h v s e = absurd cc
suiting (b ∷ bs) [] h v s e = tt
suiting (b ∷ bs) (t ∷ ts) h v s e =
    let p = and_parts (is_sort b.sort (sort_of t)) (have_sorts bs ts) h in
    by (suiting bs ts p.1 v s) (sort_is b.sort (sort_of t) p.0) (bytes_eq v b.name) e
  where
    by : (lookup (bytes_eq v) (scope_with bs) ≡ Some s → HasSortOf (lookup (bytes_eq v) (puts (pairs bs ts))) s) → sort_of t ≡ Some b.sort → (c : Bool) → cond c (Some b.sort) (lookup (bytes_eq v) (scope_with bs)) ≡ Some s → HasSortOf (cond c (Some (Put t)) (lookup (bytes_eq v) (puts (pairs bs ts)))) s
    by go k true i = k ∙ i
    by go k false i = go i

-- ---- a specification as assertions

value_fits : (defs : Defs) (scope : Scope) (shape : Shape) (o : Option Plain) → ValueFits defs scope shape o → AllByRecursion (λ (l : Local). TermFits defs scope Val l.term) (returned o)
value_fits defs scope shape None h = tt
value_fits defs scope Void (Some t) h = absurd h
value_fits defs scope shape (Some t) h = (h, tt)

one_local : (o : Option Plain) → AreDistinct (map (λ (l : Local). l.name) (returned o))
one_local None = tt
one_local (Some t) = ((λ k. k), tt)

module _ (defs : Defs) (specs : SpecTable) (spec : Funspec) (h : FunspecFits defs specs spec) where
  pub asked_fits : AssertionFits defs specs (scope_with spec.with) (asked spec.pre)
  asked_fits = record { existentials = tt; props = h.pre.props; temporaries = tt; locals = tt; parts = h.pre.parts }

  pub given_fits : AssertionFits defs specs (scope_with spec.with) (given spec.post)
  given_fits = record {
    existentials = h.post.existentials;
    props = h.post.props;
    temporaries = one_local spec.post.value;
    locals = value_fits defs (post_scope spec.post (scope_with spec.with)) spec.result.shape spec.post.value h.post.value;
    parts = h.post.parts;
  }

  pub takes : (terms : List Plain) → TakesTerms spec terms
  takes terms = λ by e.
      let t = taken_is spec.with terms by e in
      let scope = scope_with spec.with in
      let suits : Suiting (puts by) scope = subst (λ all. Suiting (puts all) scope) (sym t.is) (suiting spec.with terms t.sorts) in
      record {
        pre = formed_agrees defs specs scope (asked spec.pre) asked_fits (puts by) suits;
        params = list_agrees defs scope (puts by) suits spec.pre.params (all_good defs scope (map (λ t. Val) spec.params) spec.pre.params h.pre.terms);
        post = formed_agrees defs specs scope (given spec.post) given_fits (puts by) suits;
      }
