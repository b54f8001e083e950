-- The step is determined once the answer is given.
use Rattle.std.proofs.Common.{◌≡◌, sym, ◌∙◌}
use Rattle.floyd_clight_memory.specs.Memory.{Mem}
use Rattle.floyd_clight_machine.specs.Machine.{Answer, Config, Outcome, Next, Asks, Ended, Stuck}
use Rattle.floyd_clight_machine.specs.Laws.{GoesTo}

pub determined : (a : Answer) (o : Outcome) (d e : Config) (n q : Mem) → GoesTo a o d n → GoesTo a o e q → (d ≡ e) × (n ≡ q)
determined a (Next c m) d e n q x y = (sym x.0 ∙ y.0, sym x.1 ∙ y.1)
determined a (Asks f args k) d e n q x y = (sym x.0 ∙ y.0, sym x.1 ∙ y.1)
determined a (Ended v) d e n q x y = absurd x
determined a Stuck d e n q x y = absurd x
