-- The steps of a path one by one.
use Rattle.std.proofs.Common.{◌≡◌, ℕ, ◌+◌, List, [], ◌∷◌, ◌++◌, drop, Some, refl, ap, sym, ◌∙◌, append_assoc}
use Rattle.std.specs.Prelude.{slice_get}
use Rattle.std.proofs.lemmas.List.{drop_more}
use Rattle.std.proofs.lemmas.Option.{slice_get_within, get_or_from_slice_get}
use Rattle.floyd_tree_sorts.specs.declared.connectives.StepShape.{StepShape}
use Rattle.floyd_tree.specs.declared.paths.PathStep.{PathStep}
use Rattle.floyd_tree.specs.declared.paths.PathStep.TheVariants as step
use Rattle.floyd_tree.specs.Plain.{Plain}
use Rattle.floyd_termread_forms.specs.Making.{step_shape_of, step_shapes, subscripts_in}

left : (path : List PathStep) (i : ℕ) (s : PathStep) → slice_get path i ≡ Some s → drop i path ≡ s ∷ drop (i + 1) path
left path i s e = drop_more path i s (slice_get_within path i s e) ∙ ap (λ (x : PathStep). x ∷ drop (i + 1) path) (get_or_from_slice_get path i s s e)

pub shape_next : (path : List PathStep) (i : ℕ) (s : PathStep) (shape : StepShape) (done all : List StepShape) → slice_get path i ≡ Some s → shape ≡ step_shape_of s → all ≡ done ++ shape ∷ []
    → all ++ step_shapes (drop (i + 1) path) ≡ done ++ step_shapes (drop i path)
shape_next path i s shape done all e is more =
    ap (λ (xs : List StepShape). xs ++ step_shapes (drop (i + 1) path)) more
    ∙ append_assoc done (shape ∷ []) (step_shapes (drop (i + 1) path))
    ∙ ap (λ (x : StepShape). done ++ x ∷ step_shapes (drop (i + 1) path)) is
    ∙ ap (λ (p : List PathStep). done ++ step_shapes p) (sym (left path i s e))

one_first : (s : PathStep) (rest : List PathStep) → subscripts_in (s ∷ []) ++ subscripts_in rest ≡ subscripts_in (s ∷ rest)
one_first (step.Field x) rest = refl
one_first (step.Subscript t) rest = refl

pub subscript_next : (path : List PathStep) (i : ℕ) (s : PathStep) (done all : List Plain) → slice_get path i ≡ Some s → all ≡ done ++ subscripts_in (s ∷ []) → all ++ subscripts_in (drop (i + 1) path) ≡ done ++ subscripts_in (drop i path)
subscript_next path i s done all e more =
    ap (λ (xs : List Plain). xs ++ subscripts_in (drop (i + 1) path)) more
    ∙ append_assoc done (subscripts_in (s ∷ [])) (subscripts_in (drop (i + 1) path))
    ∙ ap (λ (ts : List Plain). done ++ ts) (one_first s (drop (i + 1) path))
    ∙ ap (λ (p : List PathStep). done ++ subscripts_in p) (sym (left path i s e))
