use Rattle.std.proofs.Common.{◌≡◌, ◌-◌, ◌∙◌, ◌++◌, ◌∷◌, [], length, take, drop, ap, subst, Ok, Err, arith}
use Rattle.std.proofs.lemmas.Result.{err_from_is_err_and}
use Rattle.floyd_tree.specs.Made.{Gives, made}
use Rattle.floyd_listlaw.proofs.Runs.{node_err, node_ok}
use Rattle.floyd_listlaw.proofs.making.Stacks.put_node.Goals as goal

pub returns-clause-ok : goal.returns-clause-ok
returns-clause-ok g c =
    let ts = c.args.self.now.terms.items in
    let from = c.saturating_sub-from.result in
    node_ok c.args.s.now c.args.head c.args.count ts c.in_ok-head.head from c.in_ok-term.term c.push.new.self.items c.in_ok-head.ensures (grind (arith, c.saturating_sub-from.ensures, c.len.ensures))
    (subst (λ us. made c.in_ok-head.head (take (length us - from) (drop from us)) ≡ Ok c.in_ok-term.term) c.as_slice.ensures.value c.in_ok-term.ensures.exact)
    (c.in_ok-push.ensures.items ∙ ap (λ us. us ++ c.in_ok-term.term ∷ []) c.truncate.ensures.items)

pub returns-in_err-term-clause-err : goal.returns-in_err-term-clause-err
returns-in_err-term-clause-err g c =
    let ts = c.args.self.now.terms.items in
    let from = c.saturating_sub-from.result in
    let stop = c.in_err-term.field-0.0 in
    let p = err_from_is_err_and c.from_residual-in_err-term.result c.from_residual-in_err-term.ensures.1 in
    rw (p.1, p.2)
    (node_err c.args.s.now c.args.head c.args.count ts c.in_ok-head.head from stop c.in_ok-head.ensures (grind (arith, c.saturating_sub-from.ensures, c.len.ensures))
    (subst (λ us. Gives (Err stop) (made c.in_ok-head.head (take (length us - from) (drop from us)))) c.as_slice.ensures.value c.in_err-term.ensures.exact))
