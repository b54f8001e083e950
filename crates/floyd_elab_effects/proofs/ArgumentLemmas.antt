-- Arguments, one turn after the other.
use Rattle.std.proofs.Common.{◌≡◌, ℕ, ◌+◌, ◌<◌, ◌≤◌, List, [], ◌∷◌, ◌++◌, length, drop, ap, sym, ◌∙◌, subst, get_or, drop_of_length-le}
use Rattle.std.proofs.lemmas.List.{drop_more}
use Rattle.std.specs.Prelude.{Result, Ok}
use Rattle.floyd_text.specs.declared.place.Place.{Place}
use Rattle.floyd_text.specs.declared.refusal.Refusal.{Refusal}
use Rattle.floyd_text.specs.declared.refusal.Halt.{Halt}
use Rattle.floyd_text.specs.Gives.{Stops}
use Rattle.floyd_ctypes.specs.declared.ctype.CType.{CType}
use Rattle.floyd_cparse_trees.specs.declared.expressions.CExpr.{CExpr}
use Rattle.floyd_elab_names.specs.Scopes.{Scopes}
use Rattle.floyd_clight.specs.declared.syntax.Expr.{Expr}
use Rattle.floyd_clight.specs.declared.syntax.Stmt.{Stmt}
use Rattle.floyd_elab_expressions.specs.declared.progress.Progress.{Progress}
use Rattle.floyd_elab_effects.specs.CallClauses.{one_argument, all_arguments, one_behind, all_behind}
use Rattle.floyd_elab_effects.proofs.OtherLemmas.{empty}
use Rattle.floyd_elab_effects.proofs.CallLemmas.{turn, turn_stops, no_argument, no_parameter}

abbrev pub Passed : Type 0
Passed = Result ((List Stmt × List Expr) × Progress) Refusal

module _ (s : Scopes) (place : Place) (left : List CType) (arguments : List CExpr) (i : ℕ) (there : List Stmt) (all : List Expr) (p : Progress) (whole : Passed) (so_far : whole ≡ all_behind there all (all_arguments s place left (drop i arguments) p)) where
  next_is : (e : CExpr) → i < length arguments → e ≡ get_or arguments i e → drop i arguments ≡ e ∷ drop (i + 1) arguments
  next_is e within is = drop_more arguments i e within ∙ ap (λ v. v ∷ drop (i + 1) arguments) (sym is)

  unfolded : (t : CType) (ts : List CType) (e : CExpr) → left ≡ t ∷ ts → i < length arguments → e ≡ get_or arguments i e → whole ≡ all_behind there all (all_arguments s place (t ∷ ts) (e ∷ drop (i + 1) arguments) p)
  unfolded t ts e first within is =
      so_far
      ∙ ap (λ l. all_behind there all (all_arguments s place l (drop i arguments) p)) first
      ∙ ap (λ es. all_behind there all (all_arguments s place (t ∷ ts) es p)) (next_is e within is)

  pub one_more : (t : CType) (ts : List CType) (e : CExpr) (before : List Stmt) (made : Expr) (more : List Expr) (q : Progress) → left ≡ t ∷ ts → i < length arguments → e ≡ get_or arguments i e → one_behind there (one_argument s place t e p) ≡ Ok ((before, made), q) → more ≡ all ++ made ∷ [] → whole ≡ all_behind before more (all_arguments s place ts (drop (i + 1) arguments) q)
  one_more t ts e before made more q first within is f pushed =
      unfolded t ts e first within is
      ∙ turn s place t ts e (drop (i + 1) arguments) there all (before, made) p q f
      ∙ ap (λ l. all_behind before l (all_arguments s place ts (drop (i + 1) arguments) q)) (sym pushed)

  pub one_stops : (t : CType) (ts : List CType) (e : CExpr) (h : Halt) → left ≡ t ∷ ts → i < length arguments → e ≡ get_or arguments i e → Stops h (one_behind there (one_argument s place t e p)) → Stops h whole
  one_stops t ts e h first within is f =
      subst (Stops h) (sym (unfolded t ts e first within is)) (turn_stops s place t ts e (drop (i + 1) arguments) there all p h f)

  pub none_left : length left ≡ 0 → whole ≡ Ok ((there, all), p)
  none_left none = so_far ∙ ap (λ l. all_behind there all (all_arguments s place l (drop i arguments) p)) (empty left none) ∙ no_parameter s place (drop i arguments) there all p

  pub all_passed : length arguments ≤ i → whole ≡ Ok ((there, all), p)
  all_passed end = so_far ∙ ap (λ es. all_behind there all (all_arguments s place left es p)) (drop_of_length-le arguments end) ∙ no_argument s place left there all p
