use Rattle.std.proofs.Common.{ap, sym, ◌∙◌, length}
use Rattle.floyd_tree_sorts.specs.Table.{arrays}
use Rattle.floyd_arrays.proofs.ArrayLemmas.{with_count}
use Rattle.floyd_arrays.proofs.arrays.resized.Goals as goal

pub new-requires : goal.new-requires
new-requires c =
    ap length c.in_ok-all.ensures
    ∙ with_count c.args.n.now c.as_slice.result.now
    ∙ ap length c.as_slice.ensures
    ∙ c.sizes.ensures.count
    ∙ ap arrays (sym (c.in_ok-shape.ensures ∙ c.shape.ensures))
