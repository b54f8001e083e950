-- What an assertion of an item says of data for its variables, it says with terms for them that have these values.
use Rattle.std.proofs.Common.{◌≡◌, ◌↔◌, ℕ, ◌+◌, ◌<◌, ◌^◌, true, false, List, [], sym, ap, subst}
use Rattle.floyd_clight_heap.specs.Heaplet.{Heaplet}
use Rattle.floyd_tree.specs.Plain.{Plain}
use Rattle.floyd_tree_values.specs.BuiltIns.{Env}
use Rattle.floyd_tree_values.specs.Data.{Datum}
use Rattle.floyd_tree_values.specs.Rules.{AreDistinct, DefsKeep}
use Rattle.floyd_truth.specs.Laws.{Changed, nodes}
use Rattle.floyd_truth.specs.Replace.{puts}
use Rattle.floyd_truth.proofs.OneTruth.{giving}
use Rattle.floyd_assert_trees.specs.declared.assertion.Assertion.{Assertion}
use Rattle.floyd_assert_trees.specs.declared.binder.Binder.{Binder}
use Rattle.floyd_assert_trees.specs.declared.items.Defs.{Defs}
use Rattle.floyd_assert_trees.specs.declared.spec.SpecTable.{SpecTable}
use Rattle.floyd_assert_changes.specs.Changed.{assertion_after, has_name}
use Rattle.floyd_assert_instances.specs.Instances.{have_sorts, pairs}
use Rattle.floyd_assert_laws.specs.Bare.{assertion_has_local, with_local}
use Rattle.floyd_assert_laws.specs.Free.{assertion_mentions}
use Rattle.floyd_assert_laws.specs.InChanged.{body_nodes}
use Rattle.floyd_assert_laws.proofs.FreeLaws.{free_alike}
use Rattle.floyd_assert_laws.proofs.Replaced.{assertion_changed}
use Rattle.floyd_assert_meaning.specs.Parts.{BodyHolds}
use Rattle.floyd_assert_meaning.specs.Settings.{AreFor, Setting, bare_env, item_env, with_each}
use Rattle.floyd_assert_meaning.proofs.AlikeLaws.{alike_bodies}
use Rattle.floyd_assert_meaning.proofs.Sames.{with_data_is}
use Rattle.floyd_goal_forms.specs.Assertions.{AssertionFits, inner_scope}
use Rattle.floyd_goal_forms.specs.Items.{PredsFit}
use Rattle.floyd_goal_forms.specs.Terms.{names_with, scope_with}
use Rattle.floyd_goal_scopes.proofs.Parts.{assertion_known}
use Rattle.floyd_goal_scopes.proofs.Terms.{is_name}
use Rattle.floyd_funspec_laws.proofs.Made.{suiting}
use Rattle.floyd_import_laws.proofs.Sorted.{formed_agrees, formed_sorted}
use Rattle.floyd_import_laws.proofs.Values.{MeanEach, agree_inside}
use Rattle.floyd_predicate_soundness.proofs.Folding.{pairs_changed}
use Rattle.floyd_lemma_soundness.proofs.Seeing.{AreThere, body_anywhere, parts_known}

module _ (S : Setting) (defs : Defs) (specs : SpecTable) (preds : PredsFit defs specs [] defs.preds) (there : AreThere S defs) (keeps : DefsKeep S.defs) (env : Env) (global : env.global ≡ S.block_of) (bs : List Binder) (distinct : AreDistinct (names_with bs)) (terms : List Plain) (sorts : have_sorts bs terms ≡ true) (ds : List Datum) (are : AreFor bs ds) (mean : MeanEach S.defs env terms ds) where
  abbrev by : List (List ℕ × Plain)
  by = pairs bs terms

  abbrev base : Env
  base = with_local (bare_env S) env.local

  -- the environment, as one of the file's items
  abbrev E : Env
  E = giving base env.variables

  is_env : E ≡ env
  is_env = ap (λ g. record env { global = g }) (sym global)

  abbrev put_data : List ℕ → Datum
  put_data = with_each env.variables bs ds

  abbrev own_data : List ℕ → Datum
  own_data = with_each base.variables bs ds

  own_is : item_env S bs ds ≡ giving (bare_env S) own_data
  own_is = with_data_is (bare_env S) base.variables bs ds

  changed : Changed S.defs E by put_data
  changed = pairs_changed S.defs E bs terms ds are (subst (λ e. MeanEach S.defs e terms ds) (sym is_env) mean) distinct

  module _ (a : Assertion) (fits : AssertionFits defs specs (scope_with bs) a) (small : nodes by + body_nodes a < 2 ^ 63) (no : assertion_has_local a ≡ false) (h : Heaplet) where
    named : (x : List ℕ) → assertion_mentions a x ≡ true → has_name x bs ≡ true
    named x e = is_name x bs (assertion_known x defs specs (scope_with bs) a fits e)

    moved : (e : Env) (local : List ℕ → ℕ) → BodyHolds S e a h → BodyHolds S (with_local e local) a h
    moved e local q = body_anywhere S defs specs preds there keeps e local a h (parts_known defs (inner_scope a (scope_with bs)) a.parts fits.parts) no q

    to_base : BodyHolds S (item_env S bs ds) a h → BodyHolds S (giving base own_data) a h
    to_base q = moved (giving (bare_env S) own_data) env.local (subst (λ e. BodyHolds S e a h) own_is q)

    from_base : BodyHolds S (giving base own_data) a h → BodyHolds S (item_env S bs ds) a h
    from_base q = subst (λ e. BodyHolds S e a h) (sym own_is) (moved (giving base own_data) (λ x. 0) q)

    own_put : BodyHolds S (giving base own_data) a h ↔ BodyHolds S (giving base put_data) a h
    own_put = alike_bodies S base own_data put_data a a (free_alike S base own_data put_data a (agree_inside (assertion_mentions a) bs ds are named base.variables env.variables)) h

    put_terms : BodyHolds S E (assertion_after (puts by) a) h ↔ BodyHolds S (giving base put_data) a h
    put_terms =
        alike_bodies S E env.variables put_data (assertion_after (puts by) a) a
        (assertion_changed S E by put_data changed a (formed_sorted defs specs (scope_with bs) a fits) small (formed_agrees defs specs (scope_with bs) a fits (puts by) (suiting bs terms sorts)))
        h

    pub to_terms : BodyHolds S (item_env S bs ds) a h → BodyHolds S env (assertion_after (puts by) a) h
    to_terms q = subst (λ e. BodyHolds S e (assertion_after (puts by) a) h) is_env (put_terms.1 (own_put.0 (to_base q)))

    pub from_terms : BodyHolds S env (assertion_after (puts by) a) h → BodyHolds S (item_env S bs ds) a h
    from_terms q = from_base (own_put.1 (put_terms.0 (subst (λ e. BodyHolds S e (assertion_after (puts by) a) h) (sym is_env) q)))
