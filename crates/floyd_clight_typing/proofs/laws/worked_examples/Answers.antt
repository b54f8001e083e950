use Rattle.std.proofs.Common.{refl, arith, inr}
use Rattle.floyd_int.specs.declared.kinds.IntKind.TheVariants.{I32}
use Rattle.floyd_clight_typing.specs.Examples.{int}
use Rattle.floyd_clight_typing.proofs.laws.worked_examples.Goals as goal

pub returns : goal.returns
returns c = record {
  sum = ((refl, refl), (refl, refl), (I32, refl, refl));
  no_cast = λ t. let e = t.2.1 in absurd cc;
  test = (refl, ((refl, refl), (refl, inr refl)), record { comparison = refl; target = int; first = refl; second = int; to = refl; same = refl; order = refl; is = refl });
  no_test = λ t. let e = t.2.to in absurd cc;
  assigns = record { place = refl; object = refl; scalar = refl; value = record { typed = (refl, refl, refl); same = refl } };
  returns = (refl, record { typed = (refl, refl); same = refl });
  no_return = λ t. let e = t.1.same in absurd cc;
  unknown = λ t. absurd cc;
  number = (refl, omega arith);
  no_number = λ t. absurd (omega (arith, t.1));
}
