use Rattle.std.proofs.Common.{◌∙◌, sym}
use Rattle.floyd_memval.proofs.DecodingLemmas.{are_fragments-none, are_fragments-more}
use Rattle.floyd_memval.proofs.decoding.are_fragments.Goals as goal

pub returns-then-not-is_fragment : goal.returns-then-not-is_fragment
returns-then-not-is_fragment c =
    let other = sym c.is_fragment.ensures ∙ c.if-not-is_fragment.true in
    sym (are_fragments-none c.args.from.now c.bytes.i c.args.block c.args.offset _ c.bytes-test.true other c.bytes.invariant)

pub bytes-preserved : goal.bytes-preserved
bytes-preserved c =
    let same = sym c.is_fragment.ensures ∙ c.if-not-is_fragment.false in
    are_fragments-more c.args.from.now c.bytes.i c.args.block c.args.offset _ c.bytes-test.true same c.bytes.invariant
