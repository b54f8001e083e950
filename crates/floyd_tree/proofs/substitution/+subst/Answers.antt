use Rattle.std.proofs.Common.{◌||◌, sym, ◌∙◌, ap, drop, map, subst, arith}
use Rattle.std.proofs.lemmas.List.{take_all, drop_all}
use Rattle.floyd_tree.specs.Made.{IsFault, fault_at, faults}
use Rattle.floyd_tree_sorts.specs.Heads.{is_variable}
use Rattle.floyd_tree.specs.Plain.{At, plains, height, heights, mentions_in}
use Rattle.floyd_tree.specs.Replace.{substituted, substituted_in}
use Rattle.floyd_tree.proofs.Heights.{height_at, heights_below}
use Rattle.std.proofs.lemmas.Result.{err_from_is_err_and}
use Rattle.floyd_tree.proofs.Parts.{fault_rebuilt, mentioned_below, rebuilt, substituted_all, unless_err, unless_ok}
use Rattle.floyd_tree.proofs.substitution.+subst.Goals as goal

pub change_all-put_change-requires : goal.change_all-put_change-requires
change_all-put_change-requires g t c κs within =
    (omega (arith, height_at c.args.terms.now c.terms.term-index c.term-item.result c.terms-test.true, ap height c.term-item.is, c.decreases), (within, c.requires))

pub change-change_all-requires : goal.change-change_all-requires
change-change_all-requires g t c κs within =
    (omega (arith, heights_below c.args.t.now, ap (λ ks. heights (plains ks)) (c.as_slice.ensures ∙ c.kids.ensures.value), c.decreases), (within, c.requires))

pub change_all-returns-then-some-clause-exact : goal.change_all-returns-then-some-clause-exact
change_all-returns-then-some-clause-exact g t c =
    let x = c.args.x.now in
    let by = c.args.by.now in
    let ts = c.args.terms.now in
    let i = c.terms.term-index in (
      sym c.terms.invariant.occurs ∙ ap (λ b. b || mentions_in x (plains (drop i ts))) c.if-some.true,
      ap plains (c.from_vec.ensures ∙ c.terms.invariant.items ∙ ap (map (substituted x by)) (take_all i ts c.terms-test.false)) ∙ substituted_all x by ts,
      sym c.terms.invariant.faults ∙ ap (λ us. faults (substituted_in x by (plains us))) (drop_all i ts c.terms-test.false),
    )

pub change-returns-clause-exact : goal.change-returns-clause-exact
change-returns-clause-exact g t c =
    let head = c.in_ok-head.head in
    let kids = c.in-Some.kids in
    let x = c.args.x.now in
    let changes = rw c.in-Some.is at c.in_ok-kids.ensures.exact in
    let below = ap (is_variable x) (sym c.head.ensures) ∙ sym c.is_variable.ensures ∙ c.if-is_variable.false in
    let ks = c.as_slice.ensures ∙ c.kids.ensures.value in
    let whole = rebuilt x c.args.by.now c.args.t.now head kids c.as_slice.result.now below (c.in_ok-head.ensures ∙ c.head-2.ensures) ks changes.1 in
    let made = unless_ok (fault_at (At head (plains kids))) (At head (plains kids)) c.in_ok-assemble.field-0 c.in_ok-assemble.ensures.exact in (
      mentioned_below x c.args.t.now c.as_slice.result.now below ks changes.0,
      made.0 ∙ whole,
      sym (fault_rebuilt head (plains kids) _ whole (ap faults changes.1 ∙ changes.2)) ∙ made.1,
    )

pub change-returns-in_err-assemble-clause-exact : goal.change-returns-in_err-assemble-clause-exact
change-returns-in_err-assemble-clause-exact g t c =
    let head = c.in_ok-head.head in
    let kids = c.in-Some.kids in
    let x = c.args.x.now in
    let changes = rw c.in-Some.is at c.in_ok-kids.ensures.exact in
    let below = ap (is_variable x) (sym c.head.ensures) ∙ sym c.is_variable.ensures ∙ c.if-is_variable.false in
    let ks = c.as_slice.ensures ∙ c.kids.ensures.value in
    let whole = rebuilt x c.args.by.now c.args.t.now head kids c.as_slice.result.now below (c.in_ok-head.ensures ∙ c.head-2.ensures) ks changes.1 in
    let stop = c.in_err-assemble.field-0.0 in
    let p = err_from_is_err_and c.from_residual-in_err-assemble.result c.from_residual-in_err-assemble.ensures.1 in
    rw (p.1, p.2)
    (subst (IsFault stop)
    (fault_rebuilt head (plains kids) _ whole (ap faults changes.1 ∙ changes.2))
    (unless_err stop (fault_at (At head (plains kids))) (At head (plains kids)) c.in_err-assemble.ensures.exact))
