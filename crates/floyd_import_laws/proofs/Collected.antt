-- The names that occur below the existentials of an assertion are few, and what a term or a formula says is kept where names
-- alone change.
use Rattle.std.proofs.Common.{◌≡◌, ℕ, ◌+◌, ◌<◌, ◌≤◌, ◌^◌, Bool, true, false, ◌||◌, cond, List, [], ◌∷◌, ◌++◌, length, map, Option, Some, None, refl, sym, ap, ◌∙◌, arith}
use Rattle.std.specs.Prelude.{bytes_eq, if◌then◌else◌, IsSome, is_some}
use Rattle.std.specs.List.{AllByRecursion, list_any}
use Rattle.std.specs.Map.{lookup}
use Rattle.std.proofs.lemmas.Bool.{and_parts, or_left, or_right}
use Rattle.std.proofs.lemmas.List.{length-append, length-map}
use Rattle.std.proofs.lemmas.List.Folds.{list_any-append}
use Rattle.floyd_tree_sorts.specs.declared.connectives.FormulaHead.{FormulaHead}
use Rattle.floyd_tree_sorts.specs.declared.connectives.FormulaHead.TheVariants.{Forall, Exists}
use Rattle.floyd_tree_sorts.specs.declared.heads.Head.{Head}
use Rattle.floyd_tree_sorts.specs.declared.heads.Head.TheVariants.{Variable}
use Rattle.floyd_tree_sorts.specs.declared.sorts.Sort.{Sort}
use Rattle.floyd_tree.specs.Formulas.{PlainFormula, PlainFormulas, Says, NoFormula, MoreFormulas, all_well_sorted, formula_mentions, formula_size, formula_sizes, formulas, formulas_mention, well_sorted}
use Rattle.floyd_tree.specs.Plain.{Plain, Plains, At, Done, More, mentions, mentions_in, plains, size, sizes}
use Rattle.floyd_tree.specs.WellSorted.{sort_of, sorts_of, with_first}
use Rattle.floyd_tree_values.specs.BuiltIns.{Env}
use Rattle.floyd_tree_values.specs.Data.{Datum}
use Rattle.floyd_truth.specs.Capture.{Changes, bound_in, bound_in_some}
use Rattle.floyd_truth.specs.Replace.{AllSortsAgree, FormulasSortsAgree, replaced, replaced_formula}
use Rattle.floyd_truth.proofs.Fresh.{weight}
use Rattle.floyd_truth.proofs.InChanged.{means_after, truth_after}
use Rattle.floyd_truth.proofs.Tracks.{Ready, Tracks, ready_part}
use Rattle.floyd_assert_trees.specs.declared.assertion.Assertion.{Assertion}
use Rattle.floyd_assert_trees.specs.declared.assertion.Local.{Local}
use Rattle.floyd_assert_trees.specs.declared.binder.Binder.{Binder}
use Rattle.floyd_assert_changes.specs.Changed.{body_binds, body_mentions, has_name, local_after, local_terms, terms_in}
use Rattle.floyd_assert_changes.specs.NamesClauses.{Names, binder_names, formula_names, formulas_names, has, head_names, term_names, terms_names, with_name}
use Rattle.floyd_assert_changes.proofs.Naming.{has_formulas, has_terms}
use Rattle.floyd_assert_meaning.specs.Alike.{LocalsAlike, MeanAlike, SayAlike}
use Rattle.floyd_assert_meaning.specs.Same.{Pairwise}
use Rattle.floyd_assert_meaning.specs.Settings.{Setting}
use Rattle.floyd_goal_forms.specs.Terms.{names_with}

-- ---- names of binders

pub named : (v : List ℕ) (bs : List Binder) → has_name v bs ≡ list_any (bytes_eq v) (names_with bs)
named v [] = refl
named v (b ∷ bs) = ap (λ t. bytes_eq v b.name || t) (named v bs)

pub name_append : (v : List ℕ) (bs cs : List Binder) → has_name v (bs ++ cs) ≡ (has_name v bs || has_name v cs)
name_append v bs cs = list_any-append (λ (b : Binder). bytes_eq v b.name) bs cs

-- ---- names in terms and formulas

with_few_by : (b : Bool) (x : List ℕ) (names : Names) → length (if b then names else names ++ (x, tt) ∷ []) ≤ length names + 1
with_few_by true x names = omega arith
with_few_by false x names = omega (arith, length-append names ((x, tt) ∷ []))

with_few : (x : List ℕ) (names : Names) → length (with_name x names) ≤ length names + 1
with_few x names = with_few_by (has names x) x names

head_few : (head : Head) (names : Names) → length (head_names head names) ≤ length names + 1
head_few (Variable x s) names = with_few x names
head_few head names = omega arith

mutual
  pub term_few : (t : Plain) (names : Names) → length (term_names t names) ≤ length names + size t
  term_few (At head kids) names = omega (arith, head_few head names, terms_few kids (head_names head names))

  terms_few : (ts : Plains) (names : Names) → length (terms_names ts names) ≤ length names + sizes ts
  terms_few Done names = omega arith
  terms_few (More t ts) names = omega (arith, term_few t names, terms_few ts (term_names t names))

binder_few : (head : FormulaHead) (names : Names) → length (binder_names head names) ≤ length names + 1
binder_few (Forall x s) names = with_few x names
binder_few (Exists x s) names = with_few x names
binder_few head names = omega arith

mutual
  formula_few : (f : PlainFormula) (names : Names) → length (formula_names f names) ≤ length names + formula_size f
  formula_few (Says head terms kids) names =
      omega (arith, binder_few head names, terms_few terms (binder_names head names), formulas_few kids (terms_names terms (binder_names head names)))

  formulas_few : (fs : PlainFormulas) (names : Names) → length (formulas_names fs names) ≤ length names + formula_sizes fs
  formulas_few NoFormula names = omega arith
  formulas_few (MoreFormulas f fs) names = omega (arith, formula_few f names, formulas_few fs (formula_names f names))

abbrev pub listed_names : Names → List (List ℕ)
listed_names names = map (λ p. p.0) names

some_by : {V : Type 0} (b : Bool) (v : V) (o : Option V) → is_some (cond b (Some v) o) ≡ (b || is_some o)
some_by true v o = refl
some_by false v o = refl

pub has_listed : (names : Names) (y : List ℕ) → has names y ≡ list_any (bytes_eq y) (listed_names names)
has_listed [] y = refl
has_listed (n ∷ names) y = some_by (bytes_eq y n.0) n.1 (lookup (bytes_eq y) names) ∙ ap (λ b. bytes_eq y n.0 || b) (has_listed names y)

pub listed_length : (names : Names) → length (listed_names names) ≡ length names
listed_length names = length-map names (λ p. p.0)

-- those that are free or bound below the existentials, and others
pub occurring : Assertion → List Binder → List (List ℕ)
occurring a others = names_with others ++ listed_names (terms_names (plains (terms_in a)) (formulas_names (formulas a.props) []))

shuffled : (f m b d : Bool) → ((f || m) || (b || d)) ≡ true → (d || ((f || b) || m)) ≡ true
shuffled f m b true h = refl
shuffled true m b false h = refl
shuffled false true true false h = refl
shuffled false true false false h = refl
shuffled false false true false h = refl
shuffled false false false false h = h

pub occurs : (a : Assertion) (others : List Binder) (y : List ℕ) → (body_mentions a y || (body_binds a y || has_name y others)) ≡ true → list_any (bytes_eq y) (occurring a others) ≡ true
unfolding occurring
occurs a others y h =
    let props = formulas_names (formulas a.props) [] in
    let names = terms_names (plains (terms_in a)) props in
    list_any-append (bytes_eq y) (names_with others) (listed_names names)
    ∙ ap (λ t. t || list_any (bytes_eq y) (listed_names names)) (sym (named y others))
    ∙ ap (λ t. has_name y others || t) (sym (has_listed names y) ∙ has_terms y (plains (terms_in a)) props ∙ ap (λ t. t || mentions_in y (plains (terms_in a))) (has_formulas y (formulas a.props) []))
    ∙ shuffled (formulas_mention y (formulas a.props)) (mentions_in y (plains (terms_in a))) (bound_in_some y (formulas a.props)) (has_name y others) h

pub occurring_few : (a : Assertion) (others : List Binder) → length (occurring a others) ≤ formula_sizes (formulas a.props) + sizes (plains (terms_in a)) + length others
unfolding occurring
occurring_few a others =
    let props = formulas_names (formulas a.props) [] in
    let names = terms_names (plains (terms_in a)) props in
    omega (arith, length-append (names_with others) (listed_names names), length-map others (λ (b : Binder). b.name), listed_length names, formulas_few (formulas a.props) [], terms_few (plains (terms_in a)) props)

-- ---- what terms and formulas say after changes

first_there : (a : Option Sort) (others : Option (List Sort)) (ss : List Sort) → with_first a others ≡ Some ss → (s : Sort) × (a ≡ Some s)
first_there (Some a) others ss e = (a, refl)
first_there None others ss e = absurd cc

rest_there : (a : Option Sort) (others : Option (List Sort)) (ss : List Sort) → with_first a others ≡ Some ss → (rest : List Sort) × (others ≡ Some rest)
rest_there (Some a) (Some others) ss e = (others, refl)
rest_there (Some a) None ss e = absurd cc
rest_there None others ss e = absurd cc

pub the_sorts : (o : Option (List Sort)) → IsSome o → (ss : List Sort) × (o ≡ Some ss)
the_sorts (Some ss) h = (ss, refl)
the_sorts None h = absurd cc

module _ (S : Setting) (env : Env) (ch : Changes) (f g : List ℕ → Datum) where
  pub terms_mean : (ts : List Plain) (ss : List Sort) → sorts_of (plains ts) ≡ Some ss → AllSortsAgree ch (plains ts) → ((v : List ℕ) → mentions_in v (plains ts) ≡ true → Tracks S.defs env ch f g v) → AllByRecursion (λ t. MeanAlike S env f g (replaced ch t) t) ts
  terms_mean [] ss e h k = tt
  terms_mean (t ∷ ts) ss e h k =
      let a = first_there (sort_of t) (sorts_of (plains ts)) ss e in
      let b = rest_there (sort_of t) (sorts_of (plains ts)) ss e in (
        λ d. means_after S.defs env ch f g t a.0 d a.1 h.0 (λ v i. k v (or_left (mentions v t) (mentions_in v (plains ts)) i)),
        terms_mean ts b.0 b.1 h.1 (λ v i. k v (or_right (mentions v t) (mentions_in v (plains ts)) i)),
      )

  pub locals_mean : (ls : List Local) → AllByRecursion (λ t. MeanAlike S env f g (replaced ch t) t) (local_terms ls) → Pairwise (LocalsAlike S env f g) (map (local_after ch) ls) ls
  locals_mean [] h = tt
  locals_mean (l ∷ ls) h = ((refl, h.0), locals_mean ls h.1)

  pub props_say : (ps : List PlainFormula) → all_well_sorted (formulas ps) ≡ true → weight ch + formula_sizes (formulas ps) < 2 ^ 63 → FormulasSortsAgree ch (formulas ps) → Ready S.defs env ch f g (λ v. formulas_mention v (formulas ps)) (λ v. bound_in_some v (formulas ps)) → Pairwise (SayAlike S env f g) (map (replaced_formula ch) ps) ps
  props_say [] w l h r = tt
  props_say (p ∷ ps) w l h r =
      let s = and_parts (well_sorted p) (all_well_sorted (formulas ps)) w in (
        truth_after S.defs S.has_spec env ch f g p s.0 (omega (arith, l)) h.0
            (ready_part S.defs env ch f g (λ v. formulas_mention v (formulas (p ∷ ps))) (λ v. bound_in_some v (formulas (p ∷ ps))) (λ v. formula_mentions v p) (λ v. bound_in v p)
            (λ v e. or_left (formula_mentions v p) (formulas_mention v (formulas ps)) e) (λ v e. or_left (bound_in v p) (bound_in_some v (formulas ps)) e) r),
        props_say ps s.1 (omega (arith, l)) h.1
            (ready_part S.defs env ch f g (λ v. formulas_mention v (formulas (p ∷ ps))) (λ v. bound_in_some v (formulas (p ∷ ps))) (λ v. formulas_mention v (formulas ps)) (λ v. bound_in_some v (formulas ps))
            (λ v e. or_right (formula_mentions v p) (formulas_mention v (formulas ps)) e) (λ v e. or_right (bound_in v p) (bound_in_some v (formulas ps)) e) r),
      )
