use Rattle.std.proofs.Common.{◌≡◌, ◌≤◌, length}
use Rattle.floyd_text.proofs.OutsideLemmas.{HasTaken}
use Rattle.floyd_text.proofs.reading.read_pieces.Given as goal

-- each turn took a byte or more, and what was taken is a front of the file
abbrev pub invariant-turn : goal.invariant-turn
invariant-turn g l = record {
  held : g.H.Shelf.held l.shelf ≡ g.H.Shelf.held l.fn.shelf;
  later : g.H.Shelf.faults l.fn.shelf ≤ g.H.Shelf.faults l.shelf;
  turns : l._turn ≤ l.at;
  small : l.at ≤ 4194304;
  room : length l.room ≡ 65536;
  origin : g.T.Taker.origin l.into ≡ g.T.Taker.origin l.fn.into;
  taken : HasTaken (g.H.Shelf.held l.fn.shelf) l.name (g.T.Taker.taken l.fn.into) (g.T.Taker.taken l.into) l.at;
}
