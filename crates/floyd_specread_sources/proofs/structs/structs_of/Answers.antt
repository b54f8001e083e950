use Rattle.std.proofs.Common.{List, ap, sym, ◌∙◌}
use Rattle.floyd_clight.specs.declared.unit.StructDef.{StructDef}
use Rattle.floyd_specread_sources.specs.Sources.{with_structs}
use Rattle.floyd_specread_sources.proofs.StructLemmas.{first_lies, others_lie}
use Rattle.floyd_specread_sources.proofs.structs.structs_of.Goals as goal

pub put_struct-requires : goal.put_struct-requires
put_struct-requires c = first_lies c.structs.rest.now c.in-Some.more.now c.in-Some.def.now c.structs.structs c.in-Some.ensures.cases.0 c.structs.invariant.lies

pub structs-preserved : goal.structs-preserved
structs-preserved c = record {
  lies = others_lie c.structs.rest.now c.in-Some.more.now c.in-Some.def.now c.structs.structs c.put_struct.new.structs c.in-Some.ensures.cases.0 c.in_ok-put_struct.ensures c.structs.invariant.lies;
  same =
      ap (with_structs c.in-Some.more.now) c.in_ok-put_struct.ensures
      ∙ sym (ap (λ (ds : List StructDef). with_structs ds c.structs.structs) c.in-Some.ensures.cases.0)
      ∙ c.structs.invariant.same;
}
