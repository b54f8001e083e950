use Rattle.floyd_int.proofs.KindLaws.{repr-value_add, repr-value_sub, repr-value_mul}
use Rattle.floyd_int.proofs.laws.bits_of_sums_and_products.Goals as goal

pub returns-clause-sums : goal.returns-clause-sums
returns-clause-sums c = repr-value_add

pub returns-clause-differences : goal.returns-clause-differences
returns-clause-differences c = repr-value_sub

pub returns-clause-products : goal.returns-clause-products
returns-clause-products c = repr-value_mul
