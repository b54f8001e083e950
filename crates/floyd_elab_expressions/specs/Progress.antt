-- What elaboration keeps while it goes through a function.
use Rattle.std.specs.Prelude.{ℕ, ◌+◌, List, [], ◌∷◌, ◌++◌, Result, Ok, Err}
use Rattle.floyd_text.specs.declared.refusal.Refusal.{Refusal}
use Rattle.floyd_ctypes.specs.declared.ctype.CType.{CType}
use Rattle.floyd_elab_names.specs.declared.tags.Tags.{Tags}
use Rattle.floyd_elab_names.specs.Refusing.{Refusing, ◌>>=◌, ◌>>◌, pure, modify}
use Rattle.floyd_elab_names.specs.Typing.{Typing}
use Rattle.floyd_elab_expressions.specs.declared.progress.Progress.{Progress}
use Rattle.floyd_elab_expressions.specs.Clight.{pulled_name}

abbrev pub Elaborating : Type 0 → Type 0
Elaborating A = Refusing Progress A

-- typing on the way
abbrev pub with_tags : {A : Type 0} → Progress → Result (A × Tags) Refusal → Result (A × Progress) Refusal
with_tags progress (Ok r) = Ok (r.0, record progress { tags = r.1 })
with_tags progress (Err refusal) = Err refusal

abbrev pub typing : {A : Type 0} → Typing A → Elaborating A
typing t = λ progress. with_tags progress (t progress.tags)

-- draws the next number
abbrev pub draw : Elaborating ℕ
draw = λ progress. Ok (progress.drawn + 1, record progress { drawn = progress.drawn + 1 })

abbrev pub add_temporary : List ℕ → CType → Elaborating (Unit {0})
add_temporary name t = modify (λ progress. record progress { temporaries = progress.temporaries ++ record { name = name; ctype = t } ∷ [] })

abbrev pub add_block : List ℕ → CType → Elaborating (Unit {0})
add_block name t = modify (λ progress. record progress { blocks = progress.blocks ++ record { name = name; ctype = t } ∷ [] })

abbrev pub add_name : List ℕ → Elaborating (Unit {0})
add_name name = modify (λ progress. record progress { names = progress.names ++ name ∷ [] })

-- a temporary of the next number
abbrev pub pull : CType → Elaborating (List ℕ)
pull t = do
  k ← draw
  add_temporary (pulled_name k) t
  pure (pulled_name k)
