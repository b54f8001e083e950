use Rattle.floyd_arrays.proofs.JoinLemmas.{piece_is}
use Rattle.floyd_arrays.proofs.join_array.is_piece.Goals as goal

pub returns : goal.returns
returns c =
    let b = c.args.b.now in
    let wanted = rw c.in_ok-value.ensures.value at c.in_ok-wanted.ensures in
    piece_is c.args.a.now b.count c.args.root.now b.value c.in_ok-wanted.wanted c.args.part.now c.equal_part.result wanted c.equal_part.ensures
