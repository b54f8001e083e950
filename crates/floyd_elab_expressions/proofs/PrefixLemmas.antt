-- Operators and casts before an operand, the first of them apart.
use Rattle.std.proofs.Common.{◌≡◌, List, [], ◌∷◌, length, arith, refl, ap, ◌∙◌, sym, subst}
use Rattle.std.specs.Prelude.{Ok}
use Rattle.floyd_text.specs.declared.place.Place.{Place}
use Rattle.floyd_text.specs.declared.refusal.Halt.{Halt}
use Rattle.floyd_text.specs.Gives.{Stops}
use Rattle.floyd_ctypes.specs.declared.ctype.CType.{CType}
use Rattle.floyd_cparse_trees.specs.declared.types.TypeName.{TypeName}
use Rattle.floyd_cparse_trees.specs.declared.expressions.Prefix.{Prefix}
use Rattle.floyd_cparse_trees.specs.declared.expressions.Prefix.TheVariants as before
use Rattle.floyd_cparse_trees.specs.declared.expressions.PrefixOp.{PrefixOp}
use Rattle.floyd_cparse_trees.specs.declared.expressions.StepOp.{StepOp}
use Rattle.floyd_clight.specs.declared.syntax.Stmt.{Stmt}
use Rattle.floyd_elab_names.specs.Declarators.{parenthesis, type_named}
use Rattle.floyd_elab_names.specs.Refusing.{◌>>=◌}
use Rattle.floyd_elab_names.specs.Scopes.{Scopes}
use Rattle.floyd_ctyping.specs.Expressions as t
use Rattle.floyd_elab_expressions.specs.declared.progress.Progress.{Progress}
use Rattle.floyd_elab_expressions.specs.Clight.{Translated}
use Rattle.floyd_elab_expressions.specs.Progress.{Elaborating, typing}
use Rattle.floyd_elab_expressions.specs.Behind.{onto}
use Rattle.floyd_elab_expressions.specs.Expressions.{read, before_operator, prefix_operator, cast_to, nested_refusal, with_prefixes}
use Rattle.floyd_elab_expressions.proofs.Chains.{goes, stops, onto_stops}
use Rattle.floyd_elab_expressions.proofs.Answering.{in_two}

module _ (s : Scopes) (m : Elaborating Translated) where
  behind_first : (prefixes : List Prefix) (first x : Prefix) (rest : List Prefix) → prefixes ≡ first ∷ rest → first ≡ x → (p : Progress) → with_prefixes s prefixes m p ≡ with_prefixes s (x ∷ rest) m p
  behind_first prefixes first x rest is one p = ap (λ (l : List Prefix). with_prefixes s l m p) (is ∙ ap (λ (z : Prefix). z ∷ rest) one)

  pub as_bare : (prefixes : List Prefix) → length prefixes ≡ 0 → (p : Progress) → with_prefixes s prefixes m p ≡ m p
  as_bare [] is p = refl
  as_bare (first ∷ rest) is p = absurd (omega arith)

  pub as_operator : (prefixes : List Prefix) (first : Prefix) (rest : List Prefix) (op : PrefixOp) (place : Place) → prefixes ≡ first ∷ rest → first ≡ before.Op op place → (p : Progress) → with_prefixes s prefixes m p ≡ (with_prefixes s rest m >>= λ a. before_operator op a >>= prefix_operator op place) p
  as_operator prefixes first rest op place is one p = behind_first prefixes first (before.Op op place) rest is one p ∙ in_two (with_prefixes s rest m p) (before_operator op) (prefix_operator op place)

  pub as_step_before : (prefixes : List Prefix) (first : Prefix) (rest : List Prefix) (op : StepOp) (place : Place) → prefixes ≡ first ∷ rest → first ≡ before.Step op place → (p : Progress) → with_prefixes s prefixes m p ≡ (with_prefixes s rest m >>= λ a. nested_refusal (t.nested_step place a.operand) a) p
  as_step_before prefixes first rest op place is one p = behind_first prefixes first (before.Step op place) rest is one p

  pub as_cast : (prefixes : List Prefix) (first : Prefix) (rest : List Prefix) (n : TypeName) (place : Place) → prefixes ≡ first ∷ rest → first ≡ before.Cast n place → (p q : Progress) (u : CType) → typing (type_named s (parenthesis place) n) p ≡ Ok (u, q) → with_prefixes s prefixes m p ≡ (with_prefixes s rest m >>= λ a. read a >>= cast_to place u) q
  as_cast prefixes first rest n place is one p q u e =
      behind_first prefixes first (before.Cast n place) rest is one p
      ∙ goes (typing (type_named s (parenthesis place) n) p) (λ (v : CType). with_prefixes s rest m >>= read >>= cast_to place v) u q e
      ∙ in_two (with_prefixes s rest m q) read (cast_to place u)

  pub cast_stops : (there : List Stmt) (prefixes : List Prefix) (first : Prefix) (rest : List Prefix) (n : TypeName) (place : Place) → prefixes ≡ first ∷ rest → first ≡ before.Cast n place → (p : Progress) (h : Halt) → Stops h (typing (type_named s (parenthesis place) n) p) → Stops h (onto there (with_prefixes s prefixes m p))
  cast_stops there prefixes first rest n place is one p h e =
      onto_stops h there (with_prefixes s prefixes m p)
      (subst (Stops h) (sym (behind_first prefixes first (before.Cast n place) rest is one p))
      (stops h (typing (type_named s (parenthesis place) n) p) (λ (v : CType). with_prefixes s rest m >>= read >>= cast_to place v) e))
