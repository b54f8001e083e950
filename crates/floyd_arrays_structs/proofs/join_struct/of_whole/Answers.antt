use Rattle.std.proofs.Common.{List, sym, subst, ◌∙◌}
use Rattle.floyd_ctypes.specs.declared.field.Field.{Field}
use Rattle.floyd_ctypes.specs.Layout.{IsLaidOut}
use Rattle.floyd_ctypes.specs.Structs.{fields_of}
use Rattle.floyd_arrays_structs.proofs.JoinLemmas.{first_name, other_name}
use Rattle.floyd_arrays_structs.proofs.join_struct.of_whole.Goals as goal

pub returns-then-not-is_first : goal.returns-then-not-is_first
returns-then-not-is_first g c =
    let s = c.args.whole.now in
    record {
      exact = other_name c.args.structs.now c.args.parts.now s c.args.name.now (fields_of c.args.structs.now s.tag) c.in-Some.fields.now c.as_slice-fields.result.now c.wrong_goal-then-not-is_first.result
          c.in-Some.ensures.value c.as_slice-fields.ensures (sym c.is_first.ensures ∙ c.if-not-is_first.true) c.wrong_goal-then-not-is_first.ensures;
    }

pub of_fields-requires : goal.of_fields-requires
of_fields-requires g c = subst (λ (fs : List Field). IsLaidOut c.args.structs.now c.args.whole.now.tag fs) (sym c.as_slice-fields.ensures) c.in-Some.ensures.laid

pub returns : goal.returns
returns g c =
    let s = c.args.whole.now in
    record {
      exact = first_name c.args.structs.now c.args.parts.now s c.args.name.now (fields_of c.args.structs.now s.tag) c.in-Some.fields.now c.as_slice-fields.result.now c.of_fields.result
          c.in-Some.ensures.value c.as_slice-fields.ensures (sym c.is_first.ensures ∙ c.if-not-is_first.false) c.of_fields.ensures.exact;
    }
