use Rattle.floyd_forward.proofs.ReturnLemmas.{taken_out}
use Rattle.floyd_forward.proofs.blocks.without_block.Goals as goal

pub returns-in-Some : goal.returns-in-Some
returns-in-Some g c =
    record {
      exact = taken_out c.args.block.now c.args.parts c.as_slice.result.now c.remove-object.new.self c.in_ok-whole.whole c.in-Some.place c.in_ok-whole.ensures c.as_slice.ensures c.in-Some.ensures.value
          c.remove-object.ensures.rest;
    }
