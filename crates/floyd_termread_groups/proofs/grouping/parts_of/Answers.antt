use Rattle.std.proofs.Common.{◌∙◌, List, sym, ap, le_refl, arith}
use Rattle.floyd_termread_trees.specs.declared.written.Prefix.{Prefix}
use Rattle.floyd_termread_trees.specs.declared.written.Written.{Written}
use Rattle.floyd_termread_groups.specs.Groups.{operand, operand_of, grouped}
use Rattle.floyd_termread_groups.specs.HeightClauses.{height}
use Rattle.floyd_termread_groups.proofs.TreeLemmas.{operand_prefixed, other_operand}
use Rattle.floyd_termread_groups.proofs.Heights.{height_prefixed}
use Rattle.floyd_termread_groups.proofs.grouping.parts_of.Goals as goal

pub returns-in-Prefixed-clause-parts : goal.returns-in-Prefixed-clause-parts
returns-in-Prefixed-clause-parts c =
    ap operand c.in-Prefixed.is ∙ operand_prefixed c.in-Prefixed.prefixes c.in-Prefixed.operand
    ∙ ap (λ (l : List Prefix). operand_of l (grouped c.in-Prefixed.operand)) (sym c.as_slice.ensures)
    ∙ ap (λ (x : Written). operand_of c.as_slice.result.now (grouped x)) (sym c.get.ensures)

pub returns-in-Prefixed-clause-height : goal.returns-in-Prefixed-clause-height
returns-in-Prefixed-clause-height c = omega (arith, ap height c.in-Prefixed.is, height_prefixed c.in-Prefixed.prefixes c.in-Prefixed.operand, ap height c.get.ensures)

pub returns-in_default : goal.returns-in_default
returns-in_default c = record { parts = other_operand c.args.operand.now c.in_default.not-Prefixed; height = le_refl (height c.args.operand.now) }
