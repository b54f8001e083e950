-- Words of private clauses: what a declarator puts around a type, from its name out.
use Rattle.std.specs.Prelude.{List, [], ◌∷◌}
use Rattle.floyd_ctypes.specs.declared.ctype.CType.{CType, Function}
use Rattle.floyd_elab_names.specs.declared.wraps.Wrap.{Wrap}
use Rattle.floyd_elab_names.specs.declared.wraps.Wrap.TheVariants as w
use Rattle.floyd_elab_names.specs.Types.{array_of}
use Rattle.floyd_elab_names.specs.Declarators.{pointers}

abbrev pub around : Wrap → CType → CType
around (w.Pointers n) t = pointers n t
around (w.Array n) t = array_of t n
around (w.Function parameters) t = Function parameters t

abbrev pub wrap_all : List Wrap → CType → CType
wrap_all [] t = t
wrap_all (w ∷ ws) t = around w (wrap_all ws t)
