use Rattle.floyd_symexpr_pointers.proofs.OperatorLemmas.{comparison_gives}
use Rattle.floyd_symexpr_pointers.proofs.operators.on_one_kind.Goals as goal

pub returns-in_default : goal.returns-in_default
returns-in_default g c =
    record {
      exact = comparison_gives _ _ c.args.op c.args.a.now c.args.b.now c.args.needs.now c.in_default.not-Add c.in_default.not-Sub c.in_default.not-Mul c.in_default.not-Div c.in_default.not-Rem c.in_default.not-And c.in_default.not-Or c.in_default.not-Xor
          c.comparison.ensures.exact;
    }
