use Rattle.std.proofs.Common.{ℕ, ◌-◌, ◌<◌, ◌++◌, List, ap, ◌∙◌, arith}
use Rattle.floyd_play_steps.specs.Numbers.{numbers_behind}
use Rattle.floyd_play_steps.proofs.NumberLemmas.{one_before}
use Rattle.floyd_play_steps.proofs.numbers.NumberList.under_all.Goals as goal

pub numbers-preserved : goal.numbers-preserved
numbers-preserved c =
    let some : 0 < c.numbers.left = grind (arith, c.numbers-test.true) in
    record {
      numbers = ap (λ (ys : List ℕ). numbers_behind c.args.made (c.numbers.left - 1) ++ ys) c.in_ok-list.ensures ∙ one_before c.args.made c.numbers.left c.numbers.list some ∙ c.numbers.invariant.numbers;
      within = omega (arith, c.numbers.invariant.within);
    }
