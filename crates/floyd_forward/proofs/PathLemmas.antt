-- Steps of a path, one after the other.
use Rattle.std.proofs.Common.{◌≡◌, ℕ, ◌+◌, ◌≤◌, List, [], ◌∷◌, ◌++◌, drop, length, Some, refl, sym, ap, ◌∙◌, append_assoc, append-nil, subst}
use Rattle.std.specs.Prelude.{slice_get}
use Rattle.std.proofs.lemmas.List.{drop_all}
use Rattle.floyd_tree.specs.declared.paths.PathStep.{PathStep}
use Rattle.floyd_assert_changes.proofs.Parting.{left_at}

pub pushed : (path : List PathStep) (i : ℕ) (rest all : List PathStep) (step copy : PathStep) → slice_get path i ≡ Some step → copy ≡ step → all ≡ rest ++ copy ∷ [] → all ++ drop (i + 1) path ≡ rest ++ drop i path
pushed path i rest all step copy e same is =
    ap (λ xs. xs ++ drop (i + 1) path) (is ∙ ap (λ s. rest ++ s ∷ []) same)
    ∙ append_assoc rest (step ∷ []) (drop (i + 1) path)
    ∙ ap (λ xs. rest ++ xs) (sym (left_at path i (i + 1) step refl e))

pub all_there : (path : List PathStep) (first i : ℕ) (rest : List PathStep) (n : ℕ) → n ≡ length path → n ≤ i → rest ++ drop i path ≡ drop first path → rest ≡ drop first path
all_there path first i rest n e h is =
    sym (append-nil rest) ∙ ap (λ xs. rest ++ xs) (sym (drop_all i path (subst (λ m. m ≤ i) e h))) ∙ is
