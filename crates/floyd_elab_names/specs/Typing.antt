-- What typing keeps: the structs that the text mentions.
use Rattle.floyd_ctypes.specs.Structs.{Structs}
use Rattle.floyd_elab_names.specs.declared.tags.Tags.{Tags}
use Rattle.floyd_elab_names.specs.Refusing.{Refusing, of_kept}

abbrev pub Typing : Type 0 → Type 0
Typing A = Refusing Tags A

-- the structs so far
abbrev pub the_structs : Typing Structs
the_structs = of_kept (λ tags. tags.structs)
