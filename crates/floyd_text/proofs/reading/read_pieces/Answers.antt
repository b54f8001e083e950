use Rattle.std.proofs.Common.{◌≤◌, ◌<◌, length, refl, ◌∙◌, subst, arith}
use Rattle.floyd_text.specs.declared.outside.Found.{Found}
use Rattle.floyd_text.specs.Outside.{IsFound}
use Rattle.floyd_text.proofs.OutsideLemmas.{takes_more, takes_all, front_of_taken, longer_taken, taken_start}
use Rattle.floyd_text.proofs.reading.read_pieces.Goals as goal

pub turn-init : goal.turn-init
turn-init g c = record {
  held = c.in_ok-find.ensures.held;
  later = c.in_ok-find.ensures.cause.later;
  turns = omega arith;
  small = omega arith;
  room = refl;
  origin = refl;
  taken = taken_start _ _ _ (subst (λ (x : Found). IsFound (g.H.Shelf.held c.args.shelf.now) c.args.name.now x) c.in-There.is c.in_ok-find.ensures.found);
}

pub returns-then-n-eq0-clause-ok : goal.returns-then-n-eq0-clause-ok
returns-then-n-eq0-clause-ok g c =
    let within : c.in_ok-n.n ≤ length c.take_piece.new.room = omega (arith, c.in_ok-n.ensures.within, c.in_ok-n.ensures.len) in
    let room : 0 < length c.turn.room = omega (arith, c.turn.invariant.room) in
    takes_all _ _ _ _ _ _ _ _ _ _ c.turn.invariant.taken c.turn.invariant.held c.in_ok-n.ensures.bytes c.in_ok-n.ensures.ok c.if-n-eq0.true room within c.turn.invariant.small

pub returns-then-at-clause-err : goal.returns-then-at-clause-err
returns-then-at-clause-err g c =
    let within : c.in_ok-n.n ≤ length c.take_piece.new.room = omega (arith, c.in_ok-n.ensures.within, c.in_ok-n.ensures.len) in
    front_of_taken _ _ _ _ _ (takes_more _ _ _ _ _ _ _ _ _ _ c.turn.invariant.taken c.turn.invariant.held c.in_ok-n.ensures.bytes c.in_ok-n.ensures.ok within)

pub returns-then-at-clause-too_large : goal.returns-then-at-clause-too_large
returns-then-at-clause-too_large g c = λ e.
    let within : c.in_ok-n.n ≤ length c.take_piece.new.room = omega (arith, c.in_ok-n.ensures.within, c.in_ok-n.ensures.len) in
    longer_taken _ _ _ _ _ (takes_more _ _ _ _ _ _ _ _ _ _ c.turn.invariant.taken c.turn.invariant.held c.in_ok-n.ensures.bytes c.in_ok-n.ensures.ok within) c.if-at.true

pub turn-preserved : goal.turn-preserved
turn-preserved g c =
    let within : c.in_ok-n.n ≤ length c.take_piece.new.room = omega (arith, c.in_ok-n.ensures.within, c.in_ok-n.ensures.len) in
    record {
      held = c.in_ok-n.ensures.held ∙ c.turn.invariant.held;
      later = omega (arith, c.in_ok-n.ensures.later, c.turn.invariant.later);
      turns = omega (arith, c.turn.invariant.turns, c.if-n-eq0.false);
      small = omega (arith, c.if-at.false);
      room = c.in_ok-n.ensures.len ∙ c.turn.invariant.room;
      origin = c.in_ok-n.ensures.origin ∙ c.turn.invariant.origin;
      taken = takes_more _ _ _ _ _ _ _ _ _ _ c.turn.invariant.taken c.turn.invariant.held c.in_ok-n.ensures.bytes c.in_ok-n.ensures.ok within;
    }
