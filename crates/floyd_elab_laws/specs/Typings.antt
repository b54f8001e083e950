-- Elaboration walks an expression as typing does: it finds the same operand, or refuses in the same way.
use Rattle.std.specs.Prelude.{◌≡◌, Result, Ok, Err}
use Rattle.floyd_text.specs.declared.refusal.Refusal.{Refusal}
use Rattle.floyd_cparse_trees.specs.declared.expressions.CExpr as e
use Rattle.floyd_elab_names.specs.declared.tags.Tags.{Tags}
use Rattle.floyd_elab_names.specs.Scopes.{Scopes}
use Rattle.floyd_ctyping.specs.declared.operand.Operand.{Operand}
use Rattle.floyd_ctyping.specs.Expressions.{operand_of}
use Rattle.floyd_clight.specs.Types.{type_of}
use Rattle.floyd_elab_expressions.specs.Clight.{Translated}
use Rattle.floyd_elab_expressions.specs.declared.progress.Progress.{Progress}
use Rattle.floyd_elab_expressions.specs.Expressions.{expression}

-- what typing sees of what elaboration finds
abbrev pub as_typed : Result (Translated × Progress) Refusal → Result (Operand × Tags) Refusal
as_typed (Ok r) = Ok (r.0.operand, r.1.tags)
as_typed (Err refusal) = Err refusal

-- Of every expression, at every point of a text, both find one operand and the same tags, or both refuse with one code
-- at one place.
abbrev pub ElaborationTypesAsTypingDoes : Type 0
ElaborationTypesAsTypingDoes =
    (scopes : Scopes) (c : e.CExpr) (p : Progress) → as_typed (expression scopes c p) ≡ operand_of scopes c p.tags

-- The expression of Clight has the type that was found.
abbrev pub ExpressionsHaveTheirTypes : Type 0
ExpressionsHaveTheirTypes =
    (scopes : Scopes) (c : e.CExpr) (p q : Progress) (t : Translated) → expression scopes c p ≡ Ok (t, q) → type_of t.expr ≡ t.operand.ctype
