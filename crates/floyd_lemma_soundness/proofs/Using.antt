-- A source with the right side of a lemma in place of the parts of the left one.
use Rattle.std.proofs.Common.{◌≡◌, ℕ, true, false, List, [], ◌++◌, Ok, subst}
use Rattle.floyd_clight_heap.specs.Heaplet.{Heaplet}
use Rattle.floyd_clight_heap.proofs.Sums.{comm}
use Rattle.floyd_clight_machine.specs.Evaluation.{Temps}
use Rattle.floyd_tree_values.specs.BuiltIns.{Env}
use Rattle.floyd_truth.specs.Truth.{AllTrue}
use Rattle.floyd_truth.proofs.OneTruth.{giving}
use Rattle.floyd_assert.specs.Removal.{Difference}
use Rattle.floyd_assert_trees.specs.declared.assertion.Assertion.{Assertion}
use Rattle.floyd_assert_trees.specs.declared.binder.Binder.{Binder}
use Rattle.floyd_assert_trees.specs.declared.items.Defs.{Defs}
use Rattle.floyd_assert_trees.specs.declared.sep.Sep.{Sep}
use Rattle.floyd_assert_trees.specs.declared.spec.SpecTable.{SpecTable}
use Rattle.floyd_assert_changes.specs.Changed.{has_name}
use Rattle.floyd_assert_laws.proofs.FreeLaws.{free_alike}
use Rattle.floyd_assert_meaning.specs.Assertions.{Holds, LocalsHold}
use Rattle.floyd_assert_meaning.specs.Parts.{BodyHolds, PartsHold}
use Rattle.floyd_assert_meaning.specs.Settings.{Setting, with_data}
use Rattle.floyd_assert_meaning.proofs.AlikeLaws.{alike_holds}
use Rattle.floyd_assert_meaning.proofs.Inversions.{body_of}
use Rattle.floyd_assert_meaning.proofs.Orders.{apart, together}
use Rattle.floyd_assert_meaning.proofs.Sames.{into, out_of}
use Rattle.floyd_goal_forms.specs.Assertions.{AssertionFits, PartFits, PartsFit, PredicatesOf}
use Rattle.floyd_goal_forms.specs.Terms.{scope_with}
use Rattle.floyd_entail_lemmas.specs.Apply.{used_source}
use Rattle.floyd_entail_soundness.proofs.Sources.{parts_alone}
use Rattle.floyd_entail_soundness.proofs.Written.{both_true}
use Rattle.floyd_predicate_soundness.proofs.Placing.{all_left, gone_first}
use Rattle.floyd_predicate_soundness.proofs.Unfolding.{agree_there, data_there, parts_there}

pub used_holds : (S : Setting) (env : Env) (defs : Defs) (specs : SpecTable) (vars : List Binder) (source right : Assertion) (gone rest : List Sep) → source.existentials ≡ [] → AssertionFits defs specs (scope_with vars) source → Difference source.parts 1 gone (Ok rest) →
    ((v : List ℕ) → has_name v right.existentials ≡ true → has_name v vars ≡ false) → ((g : Heaplet) → PartsHold S env gone g → BodyHolds S env right g) → (temps : Temps) (h : Heaplet) → Holds S env source temps h → Holds S env (used_source source right rest) temps h
used_holds S env defs specs vars source right gone rest none fits difference free gives temps h x =
    let a = apart S env gone rest h (gone_first S env gone source.parts rest 1 h difference (parts_alone S env source temps h none x)) in
    let w = body_of (gives a.0 a.3) in
    let bs = right.existentials in
    let ds = w.witnesses in
    let data' = data_there S env defs specs vars bs ds free in
    let there = giving env data' in
    let y = (alike_holds S env env.variables data' source source (free_alike S env env.variables data' source (agree_there S env defs specs vars bs ds free source fits)) temps h).0 x in
    let scope = scope_with vars in
    let own = subst (λ cs. PartsFit defs (scope_with cs ++ scope) (PredicatesOf defs (scope_with cs ++ scope)) source.parts) none fits.parts in
    let others = parts_there S env defs specs vars bs ds free rest a.1 (all_left (PartFits defs scope (PredicatesOf defs scope)) gone source.parts rest 1 difference own) a.4 in
    let source_props = subst (λ cs. AllTrue S.defs S.has_spec (with_data there cs y.witnesses) source.props) none y.props in
    let source_locals = subst (λ cs. LocalsHold S.defs (with_data there cs y.witnesses) temps source.locals) none y.locals in
    let right_props = into env env.variables bs ds (λ v. AllTrue S.defs S.has_spec v right.props) w.props in
    let right_parts = into env env.variables bs ds (λ v. PartsHold S v right.parts a.0) w.parts in
    record {
      witnesses = ds;
      sorted = w.sorted;
      props = out_of env env.variables bs ds (λ v. AllTrue S.defs S.has_spec v (source.props ++ right.props)) (both_true S.defs there S.has_spec source.props right.props source_props right_props);
      locals = out_of env env.variables bs ds (λ v. LocalsHold S.defs v temps source.locals) source_locals;
      parts = out_of env env.variables bs ds (λ v. PartsHold S v (rest ++ right.parts) h) (together S there rest right.parts a.1 a.0 h (comm a.2) others right_parts);
    }
