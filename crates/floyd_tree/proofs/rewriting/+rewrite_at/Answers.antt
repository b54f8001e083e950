use Rattle.std.proofs.Common.{◌≡◌, ◌∙◌, sym, ap, get_or, subst, Ok, Err}
use Rattle.std.proofs.lemmas.Result.{err_from_is_err_and}
use Rattle.floyd_tree.specs.Made.{fault_at, faults, unless, Gives}
use Rattle.floyd_tree.specs.Plain.{At, plains, head_of}
use Rattle.floyd_tree.specs.Replace.{RewriteGives, as_rewrite, replaced_at}
use Rattle.floyd_tree.proofs.Rewrites.{absent, made_below, made_err, made_ok, present, stopped_below, tail, with}
use Rattle.floyd_tree.proofs.rewriting.+rewrite_at.Goals as goal

pub returns-then-step-all-clause-exact : goal.returns-then-step-all-clause-exact
returns-then-step-all-clause-exact g t c =
    absent c.args.path.now c.args.new.now c.args.t.now c.as_slice-all.result.now c.in-len1-up.len_at_least (c.as_slice-all.ensures ∙ c.kids.ensures.value) c.if-step-all.true

pub returns-in_err-kid-clause-exact : goal.returns-in_err-kid-clause-exact
returns-in_err-kid-clause-exact g t c =
    let path = c.args.path.now in
    let ks = c.as_slice-all.result.now in
    let k = get_or path 0 0 in
    let o = replaced_at (tail path) c.args.new.now c.index-all-step.result in
    let p = err_from_is_err_and c.from_residual-in_err-kid.result c.from_residual-in_err-kid.ensures.1 in
    rw (p.1, p.2)
    (subst (RewriteGives (Err c.in_err-kid.field-0.0))
    (sym (present path c.args.new.now c.args.t.now ks c.index-all-step.result c.in-len1-up.len_at_least (c.as_slice-all.ensures ∙ c.kids.ensures.value) c.if-step-all.false c.index-all-step.is))
    (stopped_below c.in_err-kid.field-0.0 (head_of c.args.t.now) ks k o c.if-step-all.false
    (ap (λ us. faults (plains us)) c.as_slice-all.ensures ∙ c.kids.ensures.sound) c.in_err-kid.ensures.exact))

pub returns-in_err-assemble-clause-exact : goal.returns-in_err-assemble-clause-exact
returns-in_err-assemble-clause-exact g t c =
    let path = c.args.path.now in
    let ks = c.as_slice-all.result.now in
    let k = get_or path 0 0 in
    let kid = c.in_ok-kid.kid in
    let o = replaced_at (tail path) c.args.new.now c.index-all-step.result in
    let stop = c.in_err-assemble.field-0.0 in
    let p = err_from_is_err_and c.from_residual-in_err-assemble.result c.from_residual-in_err-assemble.ensures.1 in
    rw (p.1, p.2)
    (subst (RewriteGives (Err (as_rewrite stop)))
    (sym (present path c.args.new.now c.args.t.now ks c.index-all-step.result c.in-len1-up.len_at_least (c.as_slice-all.ensures ∙ c.kids.ensures.value) c.if-step-all.false c.index-all-step.is
    ∙ made_below (head_of c.args.t.now) ks k o kid c.if-step-all.false (ap (λ us. faults (plains us)) c.as_slice-all.ensures ∙ c.kids.ensures.sound) c.in_ok-kid.ensures.exact))
    (made_err stop (fault_at (with (head_of c.args.t.now) ks k kid)) (with (head_of c.args.t.now) ks k kid)
    (subst (λ n. Gives (Err stop) (unless (fault_at n) n))
    (ap (λ h. At h (plains c.in_ok-kids.kids)) (c.in_ok-head.ensures ∙ c.head.ensures) ∙ ap (λ us. At (head_of c.args.t.now) (plains us)) c.in_ok-kids.ensures)
    c.in_err-assemble.ensures.exact)))

pub returns-clause-exact : goal.returns-clause-exact
returns-clause-exact g t c =
    let path = c.args.path.now in
    let ks = c.as_slice-all.result.now in
    let k = get_or path 0 0 in
    let kid = c.in_ok-kid.kid in
    let o = replaced_at (tail path) c.args.new.now c.index-all-step.result in
    present path c.args.new.now c.args.t.now ks c.index-all-step.result c.in-len1-up.len_at_least (c.as_slice-all.ensures ∙ c.kids.ensures.value) c.if-step-all.false c.index-all-step.is
    ∙ made_below (head_of c.args.t.now) ks k o kid c.if-step-all.false (ap (λ us. faults (plains us)) c.as_slice-all.ensures ∙ c.kids.ensures.sound) c.in_ok-kid.ensures.exact
    ∙ made_ok (fault_at (with (head_of c.args.t.now) ks k kid)) (with (head_of c.args.t.now) ks k kid) c.in_ok-assemble.field-0
    (subst (λ n. unless (fault_at n) n ≡ Ok c.in_ok-assemble.field-0)
    (ap (λ h. At h (plains c.in_ok-kids.kids)) (c.in_ok-head.ensures ∙ c.head.ensures) ∙ ap (λ us. At (head_of c.args.t.now) (plains us)) c.in_ok-kids.ensures)
    c.in_ok-assemble.ensures.exact)
