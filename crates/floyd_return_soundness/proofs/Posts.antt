-- Where the target of a return's goal holds, the postcondition does of the value.
use Rattle.std.proofs.Common.{◌≡◌, ℕ, ◌+◌, ◌<◌, ◌^◌, Bool, true, false, List, [], ◌∷◌, length, map, Some, None, Result, Ok, Err, sym, ap, subst, ◌∙◌, arith, true≢false, if◌then◌else◌}
use Rattle.std.specs.Prelude.{bytes_eq}
use Rattle.std.specs.List.{list_any}
use Rattle.floyd_text.specs.declared.refusal.No.{No}
use Rattle.floyd_int.specs.declared.kinds.Value.{Value}
use Rattle.floyd_clight_heap.specs.Heaplet.{Heaplet}
use Rattle.floyd_tree.specs.Plain.{Plain, mentions, size}
use Rattle.floyd_tree_values.specs.BuiltIns.{Env}
use Rattle.floyd_tree_values.specs.Data.{Val}
use Rattle.floyd_tree_values.specs.Means.{Means}
use Rattle.floyd_truth.specs.Capture.{Changes}
use Rattle.floyd_truth.specs.Replace.{replaced}
use Rattle.floyd_truth.proofs.Fresh.{not_true}
use Rattle.floyd_truth.proofs.OneTruth.{giving}
use Rattle.floyd_truth.proofs.Tracks.{means_like}
use Rattle.floyd_assert_trees.specs.declared.assertion.Assertion.{Assertion}
use Rattle.floyd_assert_trees.specs.declared.spec.Postcondition.{Postcondition}
use Rattle.floyd_assert_changes.specs.Apart.{apart, apart_existentials, set_apart}
use Rattle.floyd_assert_changes.specs.Changed.{assertion_fits, below_existentials, has_name, part_after}
use Rattle.floyd_assert_changes.specs.NamesClauses.{term_names}
use Rattle.floyd_assert_changes.specs.Substituted.{within_limits}
use Rattle.floyd_assert_changes.proofs.Naming.{has_term}
use Rattle.floyd_assert_meaning.specs.Alike.{PostsAlike}
use Rattle.floyd_assert_meaning.specs.Assertions.{Holds}
use Rattle.floyd_assert_meaning.specs.Settings.{Setting, with_data, with_each}
use Rattle.floyd_assert_meaning.specs.Specifications.{PostHolds, Returns}
use Rattle.floyd_assert_meaning.proofs.AlikeLaws.{alike_posts}
use Rattle.floyd_assert_meaning.proofs.Sames.{with_data_is}
use Rattle.floyd_assert_laws.specs.InChanged.{IsSorted, body_nodes}
use Rattle.floyd_goal_changes.specs.Changed.{covering, first_term}
use Rattle.floyd_goal_meaning.specs.GoalHolds.{postcondition}
use Rattle.floyd_goal_trees.specs.declared.exits.Return as r
use Rattle.floyd_fieldpath.specs.Written.{too_large}
use Rattle.floyd_fieldpath_laws.proofs.Meanings.{on_ok_is}
use Rattle.floyd_symexpr_rows.specs.Formulas.{equal, saying}
use Rattle.floyd_symexpr_laws.proofs.SideTruths.{saying_is}
use Rattle.floyd_import_laws.proofs.Collected.{has_listed, listed_length, listed_names, term_few}
use Rattle.floyd_import_laws.proofs.Freed.{freed_alike, freed_allowed}
use Rattle.floyd_import_laws.proofs.Values.{agree_outside, equal_means, true_apart}
use Rattle.floyd_forward.specs.Return.{claim, claimed, of_value, with_claim}

-- without a term of RETURN
pub plain_post : (S : Setting) (env : Env) (ret : r.Return) (temps : List ℕ → Value) (v : Value) (h : Heaplet) → ret.value ≡ None → Holds S env ret.post temps h → PostHolds S env (postcondition ret) v h
plain_post S env ret temps v h none x =
    record {
      witnesses = x.witnesses;
      sorted = x.sorted;
      props = x.props;
      returned = subst (λ o. Returns S.defs (with_data env ret.post.existentials x.witnesses) o v) (sym none) tt;
      parts = x.parts;
    }

pub within_is : {T : Type 0} (fits : T → Bool) (x y : T) → within_limits fits x ≡ Ok y → x ≡ y
within_is {T} fits x y e = by (fits x) e
  where
    by : (b : Bool) → ◌≡◌ {A = Result T No} (if b then Ok x else Err too_large) (Ok y) → x ≡ y
    by true f = cc
    by false f = absurd cc

same_assertion : (a b : Assertion) → ◌≡◌ {A = Result Assertion No} (Ok a) (Ok b) → a ≡ b
same_assertion a b e = cc

abbrev post_of : Assertion → Plain → Postcondition
post_of post t = record { existentials = post.existentials; props = post.props; value = Some t; parts = post.parts }

module _ (S : Setting) (env : Env) (v t : Plain) (post : Assertion) (w : Value) (few : size v + body_nodes (covering post (Some t)) < 2 ^ 63) (sorted : IsSorted (covering post (Some t))) where
  abbrev whole : Assertion
  whole = covering post (Some t)

  abbrev avoid : List ℕ → Bool
  avoid x = mentions x v

  names : List (List ℕ)
  names = listed_names (term_names v [])

  among : (y : List ℕ) → avoid y ≡ true → list_any (bytes_eq y) names ≡ true
  unfolding names
  among y e = sym (has_listed (term_names v []) y) ∙ has_term y v [] ∙ e

  few_names : length names + body_nodes whole < 2 ^ 63
  unfolding names
  few_names = omega (arith, few, term_few v [], listed_length (term_names v []))

  abbrev made : Assertion
  made = apart avoid whole

  abbrev changes : Changes
  changes = below_existentials [] whole.existentials (apart_existentials avoid whole)

  abbrev term : Plain
  term = replaced changes t

  abbrev made_post : Postcondition
  made_post = record { existentials = made.existentials; props = made.props; value = Some term; parts = map (part_after changes) post.parts }

  posts_alike : PostsAlike S env env.variables env.variables made_post (post_of post t)
  posts_alike =
      let alike = freed_alike S env avoid names among whole sorted few_names in
      record {
        sorts = alike.sorts;
        bodies = λ ds k. let b = alike.bodies ds k in record { props = b.props; value = b.parts.0; parts = b.parts.1 };
      }

  -- the goal's target holds with the claim that the value is the term
  from_claimed : (temps : List ℕ → Value) (h : Heaplet) → Means S.defs env v (Val w) → Holds S env (with_claim made (equal v term ∷ [])) temps h → PostHolds S env (post_of post t) w h
  from_claimed temps h mean x =
      let ds = x.witnesses in
      let G = with_data env made.existentials ds in
      let data' = with_each env.variables made.existentials ds in
      let same : G ≡ giving env data' = with_data_is env env.variables made.existentials ds in
      let props = true_apart S.defs G S.has_spec made.props (equal v term ∷ []) x.props in
      let agree = agree_outside (λ y. mentions y v) made.existentials ds
      (λ y i. not_true (has_name y made.existentials) (λ q. true≢false (sym i ∙ freed_allowed S env avoid names among whole sorted few_names y q))) env.variables in
      let value_means : Means S.defs G v (Val w) = subst (λ o. Means S.defs o v (Val w)) (sym same) (means_like S.defs env env.variables data' v agree (Val w) mean) in
      let term_means : Means S.defs G term (Val w) = equal_means S.defs G S.has_spec v term props.1.0 (Val w) value_means in
      (alike_posts S env env.variables env.variables made_post (post_of post t) posts_alike w h).0
      (record { witnesses = ds; sorted = x.sorted; props = props.0; returned = term_means; parts = x.parts })

  pub post_met : (target : Assertion) (temps : List ℕ → Value) (h : Heaplet) → of_value v post t ≡ Ok target → Means S.defs env v (Val w) → Holds S env target temps h → PostHolds S env (post_of post t) w h
  post_met target temps h e mean x =
      let p = on_ok_is (set_apart avoid whole) (claimed v) target e in
      let is_made : made ≡ p.0 = within_is assertion_fits made p.0 p.1 in
      let again : claimed v made ≡ Ok target = ap (claimed v) is_made ∙ p.2 in
      let q = on_ok_is (saying [] (claim v (first_term made.parts))) (λ fs. Ok (with_claim made fs)) target again in
      let said : q.0 ≡ equal v term ∷ [] = saying_is [] (claim v (first_term made.parts)) q.0 q.1 in
      let same : with_claim made (equal v term ∷ []) ≡ target = ap (with_claim made) (sym said) ∙ same_assertion (with_claim made q.0) target q.2 in
      from_claimed temps h mean (subst (λ a. Holds S env a temps h) (sym same) x)
