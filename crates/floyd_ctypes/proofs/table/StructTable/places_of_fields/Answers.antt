use Rattle.std.proofs.Common.{◌+◌, List, ℕ, bytes_eq, drop, ap, ◌∙◌, arith, Some, Option, if◌then◌else◌}
use Rattle.std.proofs.lemmas.Grind.{common_steps}
use Rattle.indexmap.specs.IndexMap.{get}
use Rattle.floyd_ctypes.specs.declared.laid.FieldPlace.{FieldPlace}
use Rattle.floyd_ctypes.specs.Layout.{layout}
use Rattle.floyd_ctypes.specs.Stored.{place_from, either}
use Rattle.floyd_ctypes.proofs.Places.{noted_first, place_next}
use Rattle.floyd_ctypes.proofs.table.StructTable.places_of_fields.Goals as goal

pub fields-preserved : goal.fields-preserved
fields-preserved c =
    let rest = λ (name : List ℕ). place_from (layout c.args.self.now) (c.fields.index + 1) c.with_next-laid.result (drop (c.fields.index + 1) c.args.fields.now) name in
    let place = λ (offset : ℕ). let p : FieldPlace = record { index = c.fields.index; offset = offset } in p in
    let f = c.index-fields-index.result in
    record {
      rest = λ name.
          ap (λ (o : Option FieldPlace). either o (rest name)) (c.in_ok-note.ensures name)
          ∙ noted_first (get bytes_eq c.fields.places name) (rest name) (bytes_eq name f.name) (place c.offset_of_next-offset.result)
          ∙ ap (λ n. either (get bytes_eq c.fields.places name) (if bytes_eq name f.name then Some (place n) else rest name)) c.offset_of_next-offset.ensures.value
          ∙ ap (either (get bytes_eq c.fields.places name))
          (place_next (layout c.args.self.now) c.args.fields.now c.fields.index c.fields.laid c.in-Some.next c.with_next-laid.result f name
          c.index-fields-index.is (omega arith) c.in-Some.ensures.value c.with_next-laid.ensures.value)
          ∙ c.fields.invariant.rest name;
      end = grind (arith, common_steps);
    }
