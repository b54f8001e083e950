use Rattle.std.proofs.Common.{◌-◌, ◌∙◌, ap, sym, Some, arith}
use Rattle.floyd_memval.proofs.DecodingLemmas.{number_in-none, number_in-byte, byte_bound, room}
use Rattle.floyd_memval.proofs.decoding.number.Goals as goal

pub returns-in_default-clause-value : goal.returns-in_default-clause-value
returns-in_default-clause-value c = sym (number_in-none c.args.from.now (c.bytes.i - 1) (omega arith) c.in_default.not-Byte)

pub with_low_byte-bits-requires : goal.with_low_byte-bits-requires
with_low_byte-bits-requires c = room c.bytes.bits _ c.bytes.invariant.1 (omega arith)

pub bytes-preserved : goal.bytes-preserved
bytes-preserved c =
    let next = number_in-byte c.args.from.now c.bytes.i (c.bytes.i - 1) c.in-Byte.byte c.bytes.bits (omega arith) (omega arith) c.in-Byte.is c.bytes.invariant.0 in
    (next ∙ ap Some (sym c.with_low_byte-bits.ensures.value), byte_bound _ c.bytes.bits _ _ c.bytes.invariant.1 (omega arith) c.with_low_byte-bits.ensures.below)
