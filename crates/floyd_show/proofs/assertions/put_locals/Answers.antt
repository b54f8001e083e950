use Rattle.std.proofs.Common.{◌+◌, ◌++◌, drop, ap, sym, ◌∙◌}
use Rattle.std.proofs.lemmas.List.{append_assoc, at_drop_more}
use Rattle.floyd_show.specs.Goals.{local_line, local_lines}
use Rattle.floyd_show.proofs.assertions.put_locals.Goals as goal

pub locals-preserved : goal.locals-preserved
locals-preserved c =
    let ls = c.args.locals.now in
    let i = c.locals.local-index in
    let rest = local_lines (drop (i + 1) ls) in
    ap (λ x. x ++ rest) c.in_ok-put_local.ensures ∙ append_assoc c.locals.out (local_line c.local-item.result) rest
    ∙ ap (λ x. c.locals.out ++ x) (sym (at_drop_more local_lines ls i c.local-item.result c.locals-test.true ∙ ap (λ l. local_line l ++ rest) (sym c.local-item.is)))
    ∙ c.locals.invariant
