use Rattle.std.proofs.Common.{length, length-drop, arith, ap}
use Rattle.std.proofs.lemmas.List.{take_rest}
use Rattle.floyd_text.proofs.OutsideLemmas.{appends_none, appends_more}
use Rattle.floyd_text.proofs.writing.put_all.Goals as goal

pub piece-init : goal.piece-init
piece-init g c = record { within = omega arith; put = appends_none _; later = omega arith }

pub piece-preserved : goal.piece-preserved
piece-preserved g c =
    let rest = ap length (take_rest c.args.text.now c.piece.at) in
    record {
      within = omega (arith, c.in_ok-at.ensures.within, rest, length-drop c.piece.at c.args.text.now);
      put = appends_more _ _ _ c.args.text.now c.piece.at c.in_ok-at.field-0 c.piece.invariant.put c.in_ok-at.ensures.ok;
      later = omega (arith, c.in_ok-at.ensures.cause.later);
    }
