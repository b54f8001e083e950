use Rattle.std.proofs.Common.{◌≡◌, ◌+◌, ◌-◌, ◌<◌, length, arith}
use Rattle.floyd_termread_scope.specs.Scopes.{sort_of}
use Rattle.floyd_termread_forms.proofs.FrameLemmas.{back_next}
use Rattle.floyd_termread_forms.proofs.frames.put_back_all.Goals as goal

pub frames-preserved : goal.frames-preserved
frames-preserved c =
    let k = c.frames.i in
    let j = k - 1 in
    let step : j + 1 ≡ k = omega arith in
    let in_frames : j < length c.args.frames.now = omega arith in
    let in_hidden : j < length c.args.hidden.now = omega (arith, c.requires, in_frames) in
    back_next c.args.frames.now c.args.hidden.now k j c.index-frames-i.result c.index-hidden-i.result (sort_of c.args.bound.now) (sort_of c.frames.bound) (sort_of c.put_back.new.bound) step in_frames in_hidden c.index-frames-i.is c.index-hidden-i.is
    c.frames.invariant c.in_ok-put_back.ensures
