use Rattle.floyd_tree_values.proofs.BitLaws.{band_bit, bor_bit, bxor_bit, bnot_bit}
use Rattle.floyd_tree_values.proofs.laws.act_on_bits.Goals as goal

pub returns : goal.returns
returns c = λ x y k. (band_bit x y k, bor_bit x y k, bxor_bit x y k, bnot_bit x k)
