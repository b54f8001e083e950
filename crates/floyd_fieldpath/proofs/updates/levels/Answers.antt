use Rattle.std.proofs.Common.{◌≡◌, ◌+◌, Ok, length, arith, sym, ap, ◌∙◌}
use Rattle.floyd_fieldpath.proofs.LevelLemmas.{last_level}
use Rattle.floyd_fieldpath.proofs.updates.levels.Goals as goal

pub returns-then-place-len : goal.returns-then-place-len
returns-then-place-len g c =
    let count : c.places.place + 1 ≡ length c.args.path.now = omega arith in
    let whole = last_level c.args.structs.now c.places.inner c.in-Some.after c.args.path.now c.places.place c.step-step.result.now c.places.value c.places.all.items
    c.step-step.ensures (sym c.in-Some.is ∙ c.in_ok-after.ensures) count in
    record { exact = sym c.places.invariant ∙ whole ∙ ap Ok (cc (c.in_ok-push.ensures.items, c.in_ok-level_at.ensures)) }
