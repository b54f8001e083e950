use Rattle.floyd_ctypes.specs.declared.ctype.CType.TheVariants.{Struct}
use Rattle.floyd_elab_names.specs.Types.{array_of}
use Rattle.floyd_elab_data.proofs.ItemLemmas.{IsSoFar}
use Rattle.floyd_elab_data.proofs.lists.+contents.Given as goal

abbrev pub invariant-array_contents-items : goal.invariant-array_contents-items
invariant-array_contents-items l = IsSoFar l.names l.brace (array_of l.elements.ctype.now l.elements.number) l.tags l.items l.item-index l.parts

abbrev pub invariant-struct_contents-items : goal.invariant-struct_contents-items
invariant-struct_contents-items l = IsSoFar l.names l.brace (Struct l.tag) l.tags l.items l.at l.parts
