-- Items of a module that are well formed.
use Rattle.std.proofs.Common.{◌≡◌, ℕ, Bool, true, false, cond, List, [], ◌∷◌, Some, subst}
use Rattle.std.specs.Prelude.{bytes_eq}
use Rattle.std.specs.List.{AllByRecursion}
use Rattle.std.specs.Map.{lookup}
use Rattle.floyd_assert_trees.specs.declared.items.Defs.{Defs}
use Rattle.floyd_assert_trees.specs.declared.items.Lemma.{Lemma}
use Rattle.floyd_assert_trees.specs.declared.spec.SpecTable.{SpecTable}
use Rattle.floyd_goal_forms.specs.Items.{LemmaFits}

pub lemma_fits : (defs : Defs) (specs : SpecTable) (lemmas : List (List ℕ × Lemma)) (name : List ℕ) (l : Lemma) → AllByRecursion (λ x. LemmaFits defs specs x.1) lemmas → lookup (bytes_eq name) lemmas ≡ Some l → LemmaFits defs specs l
lemma_fits defs specs [] name l h e = absurd cc
lemma_fits defs specs (x ∷ lemmas) name l h e = by (lemma_fits defs specs lemmas name l h.1) (bytes_eq name x.0) e
  where
    by : (lookup (bytes_eq name) lemmas ≡ Some l → LemmaFits defs specs l) → (b : Bool) → cond b (Some x.1) (lookup (bytes_eq name) lemmas) ≡ Some l → LemmaFits defs specs l
    by go true i = let same : x.1 ≡ l = cc in subst (LemmaFits defs specs) same h.0
    by go false i = go i
