use Rattle.std.proofs.Common.{◌+◌, drop, sym, ◌∙◌, ap, arith}
use Rattle.std.proofs.lemmas.Result.{err_from_is_err_and}
use Rattle.floyd_stub_entail.specs.Cancel.{equations}
use Rattle.floyd_stub_entail.proofs.EntailLaws.{put_front, next_equation, refused_equation, never_none}
use Rattle.floyd_stub_entail.proofs.cancel.equations.Goals as goal
use Rattle.floyd_stub_entail.proofs.cancel.equations.Goals.{in-Some+in_ok-equation+in_ok-push, in_default}

pub returns-in_err-equation : goal.returns-in_err-equation
returns-in_err-equation c =
    let p = err_from_is_err_and c.from_residual.result c.from_residual.ensures.1 in
    rw (p.1, p.2)
    (refused_equation c.args.source.now c.args.target.now c.temporaries.at (c.in-Some.name.now, c.in-Some.term.now) c.temporaries.all c.in_err-equation.field-0.0
    (sym c.in-Some.ensures) c.in_err-equation.ensures c.temporaries.invariant)

pub temporaries-preserved : goal.temporaries-preserved
temporaries-preserved c =
    elim c.match-entry.branch [
      | in-Some+in_ok-equation+in_ok-push w ↦
          ap (λ fs. put_front fs (equations c.args.source.now (drop (c.temporaries.at + 1) c.args.target.now))) (w.all-is ∙ w.in_ok-push.ensures.ok)
          ∙ next_equation c.args.source.now c.args.target.now c.temporaries.at (w.in-Some.name.now, w.in-Some.term.now) w.in_ok-equation.field-0 c.temporaries.all
          (sym w.in-Some.ensures) w.in_ok-equation.ensures c.temporaries.invariant
      | in_default w ↦ absurd (never_none c.args.target.now c.temporaries.at (omega (arith, c.temporaries-test.true, c.len-at-end.ensures)) (sym w.in_default.ensures))
    ]
