use Rattle.std.proofs.Common.{◌≡◌, Some, sym, ◌∙◌}
use Rattle.std.proofs.lemmas.Result.{err_from_is_err_and}
use Rattle.floyd_rewriting.specs.HolesClauses.{assertion_after}
use Rattle.floyd_rewriting.proofs.Filling.{assertion_ready, assertion_somewhere, assertion_stopped}
use Rattle.floyd_rewriting.proofs.rewriting.assertion_by.Goals as goal

pub fill_assertion-requires : goal.fill_assertion-requires
fill_assertion-requires g c =
    assertion_ready c.args.from.now c.args.to.now c.args.a.now c.in_ok-hole.hole c.args.name.now c.in_ok-hole.ensures.value c.in-Some.opened c.sort-sort.result.now
    (sym c.in-Some.is ∙ c.in_ok-open_assertion.ensures) c.sort-sort.ensures c.requires.sorts c.requires.name

pub returns-in_err-fill_assertion-in-Some : goal.returns-in_err-fill_assertion-in-Some
returns-in_err-fill_assertion-in-Some g c =
    let p = err_from_is_err_and c.from_residual-in_err-fill_assertion-in-Some.result c.from_residual-in_err-fill_assertion-in-Some.ensures.1 in
    let opened : Some c.in-Some.opened ≡ assertion_after c.args.from.now c.in_ok-hole.hole c.args.a.now = sym c.in-Some.is ∙ c.in_ok-open_assertion.ensures in
    rw (p.1, p.2)
    (assertion_stopped c.args.from.now c.args.to.now c.args.a.now c.in_ok-hole.hole c.args.name.now c.in_ok-hole.ensures.value c.in-Some.opened c.in_err-fill_assertion-in-Some.field-0.0 opened
    c.in_err-fill_assertion-in-Some.ensures)

pub returns : goal.returns
returns g c =
    assertion_somewhere c.args.from.now c.args.to.now c.args.a.now c.in_ok-hole.hole c.args.name.now c.in_ok-hole.ensures.value c.in-Some.opened c.in_ok-fill_assertion-in-Some.field-0
    (sym c.in-Some.is ∙ c.in_ok-open_assertion.ensures) c.in_ok-fill_assertion-in-Some.ensures
