use Rattle.std.proofs.Common.{◌≡◌, ◌-◌, ◌<◌, suc, ap, sym, ◌∙◌, length, take, arith}
use Rattle.std.specs.Option.{unwrap_or}
use Rattle.floyd_assert.specs.AroundClauses.{inside}
use Rattle.floyd_truth.specs.Same.{same_variable}
use Rattle.floyd_assert.proofs.InsideLists.{last_of_both}
use Rattle.floyd_assert.proofs.around.bound_in_lists.Goals as goal

pub returns-in-Some : goal.returns-in-Some
returns-in-Some c = λ outer.
    let k = c.binders.i - 1 in
    let next : c.binders.i ≡ suc k = omega arith in
    let rest = inside (take k c.args.left.now) (take k c.args.right.now) outer in
    let last = last_of_both c.args.left.now c.args.right.now c.binders.i k c.index-left-i.result c.index-right-i.result outer next (omega arith) (omega arith) in
    c.binders.invariant.behind outer
    ∙ ap (λ bs. same_variable bs c.args.x.now c.args.y.now) last
    ∙ c.bound_here.ensures rest
    ∙ ap (λ r. unwrap_or r (same_variable rest c.args.x.now c.args.y.now)) c.in-Some.is

pub binders-preserved : goal.binders-preserved
binders-preserved c = record {
  within = omega arith;
  behind = λ outer.
      let k = c.binders.i - 1 in
      let next : c.binders.i ≡ suc k = omega arith in
      let rest = inside (take k c.args.left.now) (take k c.args.right.now) outer in
      let last = last_of_both c.args.left.now c.args.right.now c.binders.i k c.index-left-i.result c.index-right-i.result outer next (omega arith) (omega arith) in
      c.binders.invariant.behind outer
      ∙ ap (λ bs. same_variable bs c.args.x.now c.args.y.now) last
      ∙ c.bound_here.ensures rest
      ∙ ap (λ r. unwrap_or r (same_variable rest c.args.x.now c.args.y.now)) c.in_default.is;
}
