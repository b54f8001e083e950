-- Parts and assertions after substitution say what they say in the changed environment.
use Rattle.std.proofs.Common.{◌≡◌, ◌↔◌, ℕ, ◌+◌, ◌<◌, ◌^◌, Bool, true, false, ◌&&◌, ◌||◌, List, [], ◌∷◌, ◌++◌, length, map, Option, Some, None, refl, sym, ◌∙◌, ap, subst, arith}
use Rattle.std.specs.Prelude.{bytes_eq, IsSome, cond}
use Rattle.std.specs.List.{AllByRecursion, flat_map}
use Rattle.std.specs.Map.{lookup}
use Rattle.floyd_int.specs.declared.kinds.Value.{Value}
use Rattle.floyd_tree_sorts.specs.declared.sorts.Sort.{Sort}
use Rattle.floyd_tree.specs.Formulas.{PlainFormula, formulas, formula_mentions, formula_size, formula_sizes, formulas_mention, well_sorted, all_well_sorted}
use Rattle.floyd_tree.specs.Plain.{Plain, plains, mentions, mentions_in, size, sizes}
use Rattle.floyd_tree.specs.WellSorted.{sort_of, sorts_of, with_first}
use Rattle.floyd_tree_values.specs.BuiltIns.{Env}
use Rattle.floyd_tree_values.specs.Data.{Datum, HaveSorts}
use Rattle.floyd_truth.specs.Capture.{Becomes, Put, Called, Changes, bound_in, bound_in_some}
use Rattle.floyd_truth.specs.Laws.{Changed, nodes}
use Rattle.floyd_truth.specs.Replace.{replaced, replaced_formula, AllSortsAgree, FormulasSortsAgree, puts}
use Rattle.floyd_truth.proofs.Fresh.{or_left, or_right, weight}
use Rattle.floyd_truth.proofs.InChanged.{means_after, ready_puts, truth_after}
use Rattle.floyd_truth.proofs.OneTruth.{giving}
use Rattle.floyd_truth.proofs.Tracks.{Ready, Tracks, ready_part}
use Rattle.floyd_assert_trees.specs.declared.assertion.Assertion.{Assertion}
use Rattle.floyd_assert_trees.specs.declared.assertion.Local.{Local}
use Rattle.floyd_assert_trees.specs.declared.binder.Binder.{Binder}
use Rattle.floyd_assert_trees.specs.declared.sep.Sep.{Sep}
use Rattle.floyd_assert_changes.specs.Changed.{assertion_after, AssertionSortsAgree, below_existentials, body_binds, body_mentions, existential_name, inside, local_after, local_terms, new_existentials, part_after, part_terms, PartsSortsAgree, terms_in}
use Rattle.floyd_assert_meaning.specs.Same.{Pairwise, PartsAgree}
use Rattle.floyd_assert_meaning.specs.Settings.{Setting, AreFor, binder_sorts, with_each}
use Rattle.floyd_assert_meaning.specs.Alike.{SayAlike, MeanAlike, LocalsAlike, BodiesAlike, Alike}
use Rattle.floyd_assert_laws.specs.InChanged.{AreSorted, IsSorted, body_nodes}
use Rattle.floyd_assert_laws.proofs.Agreeing.{each_append, parts_agree}
use Rattle.floyd_assert_laws.proofs.Renamed.{names_from, new_is, ready_inside}

first_there : (a : Option Sort) (others : Option (List Sort)) (ss : List Sort) → with_first a others ≡ Some ss → (s : Sort) × (a ≡ Some s)
first_there (Some a) others ss e = (a, refl)
first_there None others ss e = absurd cc

rest_there : (a : Option Sort) (others : Option (List Sort)) (ss : List Sort) → with_first a others ≡ Some ss → (rest : List Sort) × (others ≡ Some rest)
rest_there (Some a) (Some others) ss e = (others, refl)
rest_there (Some a) None ss e = absurd cc
rest_there None others ss e = absurd cc

both : (a b : Bool) → (a && b) ≡ true → (a ≡ true) × (b ≡ true)
both true b h = (refl, h)
both false b h = absurd cc

the_sorts : (o : Option (List Sort)) → IsSome o → (ss : List Sort) × (o ≡ Some ss)
the_sorts (Some ss) h = (ss, refl)
the_sorts None h = absurd cc

module _ (S : Setting) (env : Env) (ch : Changes) (f g : List ℕ → Datum) where
  terms_mean : (ts : List Plain) (ss : List Sort) → sorts_of (plains ts) ≡ Some ss → AllSortsAgree ch (plains ts) → ((v : List ℕ) → mentions_in v (plains ts) ≡ true → Tracks S.defs env ch f g v) → AllByRecursion (λ t. MeanAlike S env f g (replaced ch t) t) ts
  terms_mean [] ss e h k = tt
  terms_mean (t ∷ ts) ss e h k =
      let a = first_there (sort_of t) (sorts_of (plains ts)) ss e in
      let b = rest_there (sort_of t) (sorts_of (plains ts)) ss e in (
        λ d. means_after S.defs env ch f g t a.0 d a.1 h.0 (λ v i. k v (or_left (mentions v t) (mentions_in v (plains ts)) i)),
        terms_mean ts b.0 b.1 h.1 (λ v i. k v (or_right (mentions v t) (mentions_in v (plains ts)) i)),
      )

  locals_mean : (ls : List Local) → AllByRecursion (λ t. MeanAlike S env f g (replaced ch t) t) (local_terms ls) → Pairwise (LocalsAlike S env f g) (map (local_after ch) ls) ls
  locals_mean [] h = tt
  locals_mean (l ∷ ls) h = ((refl, h.0), locals_mean ls h.1)

  props_say : (ps : List PlainFormula) → all_well_sorted (formulas ps) ≡ true → weight ch + formula_sizes (formulas ps) < 2 ^ 63 → FormulasSortsAgree ch (formulas ps) → Ready S.defs env ch f g (λ v. formulas_mention v (formulas ps)) (λ v. bound_in_some v (formulas ps)) → Pairwise (SayAlike S env f g) (map (replaced_formula ch) ps) ps
  props_say [] w l h r = tt
  props_say (p ∷ ps) w l h r =
      let s = both (well_sorted p) (all_well_sorted (formulas ps)) w in (
        truth_after S.defs S.has_spec env ch f g p s.0 (omega (arith, l)) h.0
            (ready_part S.defs env ch f g (λ v. formulas_mention v (formulas (p ∷ ps))) (λ v. bound_in_some v (formulas (p ∷ ps))) (λ v. formula_mentions v p) (λ v. bound_in v p)
            (λ v e. or_left (formula_mentions v p) (formulas_mention v (formulas ps)) e) (λ v e. or_left (bound_in v p) (bound_in_some v (formulas ps)) e) r),
        props_say ps s.1 (omega (arith, l)) h.1
            (ready_part S.defs env ch f g (λ v. formulas_mention v (formulas (p ∷ ps))) (λ v. bound_in_some v (formulas (p ∷ ps))) (λ v. formulas_mention v (formulas ps)) (λ v. bound_in_some v (formulas ps))
            (λ v e. or_right (formula_mentions v p) (formulas_mention v (formulas ps)) e) (λ v e. or_right (bound_in v p) (bound_in_some v (formulas ps)) e) r),
      )

-- ---- parts

module _ (S : Setting) (env : Env) (by : List (List ℕ × Plain)) (variables : List ℕ → Datum) (changed : Changed S.defs env by variables) where
  pub parts_changed : (ps : List Sep) → AreSorted (flat_map part_terms ps) → PartsSortsAgree (puts by) ps → Pairwise (PartsAgree (MeanAlike S env env.variables variables)) (map (part_after (puts by)) ps) ps
  parts_changed ps s h =
      let ss = the_sorts (sorts_of (plains (flat_map part_terms ps))) s in
      let r = ready_puts S.defs env by variables changed (λ v. true) (λ v. false) in
      parts_agree (puts by) (MeanAlike S env env.variables variables) ps (terms_mean S env (puts by) env.variables variables (flat_map part_terms ps) ss.0 ss.1 h (λ v i. r.tracks v refl))

-- ---- assertions

weight_puts : (by : List (List ℕ × Plain)) → weight (puts by) ≡ nodes by
weight_puts [] = refl
weight_puts (p ∷ by) = ap (λ n. size p.1 + n) (weight_puts by)

none_called : (by : List (List ℕ × Plain)) (v z : List ℕ) → lookup (bytes_eq v) (puts by) ≡ Some (Called z) → ⊥
none_called [] v z e = absurd cc
none_called (p ∷ by) v z e = at (bytes_eq v p.0) (none_called by v z) e
  where
    at : (b : Bool) → (lookup (bytes_eq v) (puts by) ≡ Some (Called z) → ⊥) → cond b (Some (Put p.1)) (lookup (bytes_eq v) (puts by)) ≡ Some (Called z) → ⊥
    at true go q = absurd cc
    at false go q = go q

names_sorts : (ch : Changes) (a : Assertion) (done more : List Binder) → binder_sorts (names_from ch a done more) ≡ binder_sorts more
names_sorts ch a done [] = refl
names_sorts ch a done (b ∷ more) =
    ap (λ ss. b.sort ∷ ss) (names_sorts ch a (done ++ record { name = existential_name ch a (done ++ more) b.name; sort = b.sort } ∷ []) more)

-- new names weigh nothing
weight_below : (ch : Changes) (old new : List Binder) → weight (below_existentials ch old new) ≡ weight ch
weight_below ch [] new = refl
weight_below ch (b ∷ old) [] = refl
weight_below ch (b ∷ old) (c ∷ new) = weight_below ((b.name, Called c.name) ∷ ch) old new

new_sorts : (ch : Changes) (a : Assertion) → binder_sorts (new_existentials ch a) ≡ binder_sorts a.existentials
new_sorts ch a = ap binder_sorts (new_is ch a) ∙ names_sorts ch a [] a.existentials

module _ (S : Setting) (env : Env) (by : List (List ℕ × Plain)) (variables : List ℕ → Datum) (changed : Changed S.defs env by variables) (a : Assertion) (sorted : IsSorted a) (small : nodes by + body_nodes a < 2 ^ 63) (agree : AssertionSortsAgree (puts by) a) where
  bodies_changed : (ds : List Datum) → AreFor a.existentials ds → BodiesAlike S env (with_each env.variables (new_existentials (puts by) a) ds) (with_each variables a.existentials ds) (assertion_after (puts by) a) a
  bodies_changed ds k =
      let ch = inside (puts by) a in
      let f = with_each env.variables (new_existentials (puts by) a) ds in
      let g = with_each variables a.existentials ds in
      let t = ready_puts S.defs env by variables changed (λ v. true) (λ v. false) in
      let r = ready_inside S.defs env (puts by) a env.variables variables ds (omega (arith, small, weight_puts by)) k (λ v. t.tracks v refl) (none_called by) in
      let ss = the_sorts (sorts_of (plains (terms_in a))) sorted.terms in
      let means = terms_mean S env ch f g (terms_in a) ss.0 ss.1 agree.1 (λ v i. r.tracks v (or_right (formulas_mention v (formulas a.props)) (mentions_in v (plains (terms_in a))) i)) in
      let split = each_append (λ u. MeanAlike S env f g (replaced ch u) u) (local_terms a.locals) (flat_map part_terms a.parts) means in
      record {
        props = props_say S env ch f g a.props sorted.props (omega (arith, small, weight_puts by, weight_below (puts by) a.existentials (new_existentials (puts by) a))) agree.0
            (ready_part S.defs env ch f g (body_mentions a) (body_binds a) (λ v. formulas_mention v (formulas a.props)) (λ v. bound_in_some v (formulas a.props))
            (λ v e. or_left (formulas_mention v (formulas a.props)) (mentions_in v (plains (terms_in a))) e) (λ v e. e) r);
        locals = locals_mean S env ch f g a.locals split.0;
        parts = parts_agree ch (MeanAlike S env f g) a.parts split.1;
      }

  pub assertion_changed : Alike S env env.variables variables (assertion_after (puts by) a) a
  assertion_changed =
      record {
        sorts = new_sorts (puts by) a;
        bodies = λ ds k. bodies_changed ds (subst (λ ss. HaveSorts ss ds) (new_sorts (puts by) a) k);
      }
