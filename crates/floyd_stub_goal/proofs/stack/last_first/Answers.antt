use Rattle.std.proofs.Common.{◌≡◌, ◌+◌, [], ◌∷◌, ◌++◌, length, reverse, sym, ◌∙◌, ap, arith, length-append}
use Rattle.std.proofs.lemmas.List.{append-nil}
use Rattle.floyd_stub_goal.specs.Starts.{numbered}
use Rattle.floyd_stub_goal.proofs.Lists.{reverse_last, numbered_put}
use Rattle.floyd_stub_goal.proofs.stack.last_first.Goals as goal

pub made-init : goal.made-init
made-init c = record {
  goals = ap (λ gs. numbered c.args.first c.args.made ++ reverse gs) c.new-goals.ensures.items ∙ append-nil (numbered c.args.first c.args.made);
  fewer = omega arith;
}

pub made-preserved : goal.made-preserved
made-preserved c =
    let n = c.args.first in
    let left = c.made.goals.items in
    let made = c.pop.new.self in
    let g = c.in-Some.goal in
    let k : n + c.len.result ≡ n + length made = omega (arith, c.len.ensures) in
    record {
      goals =
          ap (λ gs. numbered n made ++ reverse gs) c.in_ok-push.ensures.items
          ∙ ap (λ gs. numbered n made ++ gs) (reverse_last left (record { number = n + c.len.result; goal = g }))
          ∙ ap (λ i. numbered n made ++ record { number = i; goal = g } ∷ reverse left) k
          ∙ sym (numbered_put n made g (reverse left))
          ∙ ap (λ gs. numbered n gs ++ reverse left) (sym c.in-Some.ensures)
          ∙ c.made.invariant.goals;
      fewer = omega (arith, c.made.invariant.fewer, ap length c.in-Some.ensures, length-append made (g ∷ []));
    }
