-- Wraps at the end.
use Rattle.std.proofs.Common.{◌≡◌, List, [], ◌∷◌, ◌++◌, refl, ap}
use Rattle.floyd_ctypes.specs.declared.ctype.CType.{CType}
use Rattle.floyd_elab_names.specs.declared.wraps.Wrap.{Wrap}
use Rattle.floyd_elab_names.specs.WrapClauses.{around, wrap_all}

pub wrapped_last : (ws : List Wrap) (w : Wrap) (t : CType) → wrap_all (ws ++ w ∷ []) t ≡ wrap_all ws (around w t)
wrapped_last [] w t = refl
wrapped_last (x ∷ ws) w t = ap (around x) (wrapped_last ws w t)
