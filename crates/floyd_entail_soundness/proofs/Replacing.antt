-- `weaken` and `reroot`.
use Rattle.std.proofs.Common.{◌≡◌, List, [], ◌∷◌, Some, Ok, sym, subst}
use Rattle.floyd_assert_trees.specs.declared.items.Defs.{Defs}
use Rattle.floyd_assert_trees.specs.declared.sep.Sep.{Sep}
use Rattle.floyd_assert_trees.specs.declared.sep.Sep.TheVariants.{FieldAt, Padding, Valid, Anything, Predicate}
use Rattle.floyd_assert_trees.specs.declared.spec.SpecTable.{SpecTable}
use Rattle.floyd_assert_meaning.specs.Parts.{ObjectHolds, PartsHold, object}
use Rattle.floyd_assert_meaning.proofs.Inversions.{object_of}
use Rattle.floyd_fieldpath.specs.Addresses.{address}
use Rattle.floyd_fieldpath.specs.Nested.{nested_type, type_at}
use Rattle.floyd_fieldpath.specs.Projections.{default_of}
use Rattle.floyd_fieldpath_laws.proofs.Meanings.{on_ok_is}
use Rattle.floyd_part_laws.specs.Laws.{IsPlace, whole_at}
use Rattle.floyd_part_laws.proofs.Regions.{defaulted, rerooted}
use Rattle.floyd_goal_meaning.specs.Programs.{setting}
use Rattle.floyd_entail.specs.Reroot as reroot
use Rattle.floyd_entail.specs.Weaken as weaken
use Rattle.floyd_entail_soundness.proofs.InPlace.{Keeps, is_place, typed_at}
use Rattle.floyd_entail_soundness.proofs.Placing.{alone, same_Ok}

pub weaken_keeps : (defs : Defs) (specs : SpecTable) → Keeps defs specs (weaken.weakened defs.structs)
weaken_keeps defs specs L more place has scope (FieldAt r v) new fits made env h holds =
    let S = setting L more place in
    let a = on_ok_is (weaken.default_at defs.structs r) (weaken.with_value r) new made in
    let b = on_ok_is (nested_type defs.structs r.ty r.path) (default_of defs.structs) a.0 a.1 in
    let e = typed_at defs.structs r.ty b.0 r.path b.1 in
    let here : ObjectHolds S env r a.0 h = defaulted S env r b.0 v a.0 h
    (subst (λ s. IsPlace s r) (sym has.structs) (is_place defs scope r fits.region))
    (subst (λ s. type_at s r.ty r.path ≡ Some b.0) (sym has.structs) e)
    (subst (λ s. default_of s b.0 ≡ Ok a.0) (sym has.structs) b.2)
    (object_of holds) in
    subst (λ ps. PartsHold S env ps h) (same_Ok {A = List Sep} (FieldAt r a.0 ∷ []) new a.2) (alone S env (FieldAt r a.0) h (object here))
weaken_keeps defs specs L more place has scope (Padding r) new fits made env h holds = absurd cc
weaken_keeps defs specs L more place has scope (Valid t) new fits made env h holds = absurd cc
weaken_keeps defs specs L more place has scope Anything new fits made env h holds = absurd cc
weaken_keeps defs specs L more place has scope (Predicate name terms) new fits made env h holds = absurd cc

pub reroot_keeps : (defs : Defs) (specs : SpecTable) → Keeps defs specs (reroot.rerooted defs.structs)
reroot_keeps defs specs L more place has scope (FieldAt r v) new fits made env h holds =
    let S = setting L more place in
    let a = on_ok_is (nested_type defs.structs r.ty r.path) (reroot.of_type defs.structs r v) new made in
    let b = on_ok_is (address defs.structs r.ty r.path r.root) (reroot.moved_to r a.0 v) new a.2 in
    let e = typed_at defs.structs r.ty a.0 r.path a.1 in
    let here : ObjectHolds S env (whole_at r.share a.0 b.0) v h = rerooted S env r a.0 v b.0 h
    (subst (λ s. IsPlace s r) (sym has.structs) (is_place defs scope r fits.region))
    (subst (λ s. type_at s r.ty r.path ≡ Some a.0) (sym has.structs) e)
    (subst (λ s. address s r.ty r.path r.root ≡ Ok b.0) (sym has.structs) b.1)
    (object_of holds) in
    subst (λ ps. PartsHold S env ps h) (same_Ok {A = List Sep} (FieldAt (whole_at r.share a.0 b.0) v ∷ []) new b.2) (alone S env (FieldAt (whole_at r.share a.0 b.0) v) h (object here))
reroot_keeps defs specs L more place has scope (Padding r) new fits made env h holds = absurd cc
reroot_keeps defs specs L more place has scope (Valid t) new fits made env h holds = absurd cc
reroot_keeps defs specs L more place has scope Anything new fits made env h holds = absurd cc
reroot_keeps defs specs L more place has scope (Predicate name terms) new fits made env h holds = absurd cc
