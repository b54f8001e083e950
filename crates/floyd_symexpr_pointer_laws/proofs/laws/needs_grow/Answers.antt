use Rattle.floyd_symexpr_pointer_laws.proofs.Growth.{of_binary, of_cast, of_unary}
use Rattle.floyd_symexpr_pointer_laws.proofs.laws.needs_grow.Goals as goal

pub returns-clause-binary : goal.returns-clause-binary
returns-clause-binary c = of_binary

pub returns-clause-unary : goal.returns-clause-unary
returns-clause-unary c = of_unary

pub returns-clause-cast : goal.returns-clause-cast
returns-clause-cast c = of_cast
