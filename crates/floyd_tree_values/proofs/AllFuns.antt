-- One FUN after the other, each has values, and so has each term that fits.
use Rattle.std.proofs.Common.{◌≡◌, ◌⊎◌, inl, inr, Bool, true, false, ℕ, cond, List, [], ◌∷◌, ◌++◌, Option, Some, None, refl, sym, ap, subst, ◌∙◌, append_assoc, append-nil}
use Rattle.std.specs.Prelude.{bytes_eq}
use Rattle.std.proofs.lemmas.Slice.Eq.{bytes_eq-Decides}
use Rattle.floyd_tree_sorts.specs.declared.sorts.Sort.{Sort}
use Rattle.floyd_tree.specs.Plain.{Plain}
use Rattle.floyd_tree_values.specs.Data.{Datum, HaveSorts}
use Rattle.floyd_tree_values.specs.Funs.{Fun, argument_sorts, fun_of}
use Rattle.floyd_tree_values.specs.BuiltIns.{Env}
use Rattle.floyd_tree_values.specs.Means.{Defs}
use Rattle.floyd_tree_values.specs.Rules.{Scope, Suits, Fits, CallsOf, KeepsRules, AllKeep, DefsKeep}
use Rattle.floyd_tree_values.proofs.TermValues.{Valued, value_of}
use Rattle.floyd_tree_values.proofs.FunValues.{Answer, Complete, answers_of, body_answer}

own_step : (t : Bool) (g f : Fun) (o p : Option Fun) → cond t (Some g) o ≡ None → (o ≡ None → p ≡ Some f) → cond t (Some g) p ≡ Some f
own_step true g f o p e h = absurd cc
own_step false g f o p e h = h e

-- a FUN whose name is new is the one of its name
own_found : (before more : List Fun) (f : Fun) → fun_of before f.name ≡ None → fun_of (before ++ f ∷ more) f.name ≡ Some f
own_found [] more f e = ap (λ t. cond t (Some f) (fun_of more f.name)) ((bytes_eq-Decides f.name f.name).1 refl)
own_found (g ∷ before) more f e = own_step (bytes_eq f.name g.name) g f (fun_of before f.name) (fun_of (before ++ f ∷ more) f.name) e (own_found before more f)

last_step : (name : List ℕ) (f g : Fun) (t : Bool) → bytes_eq name f.name ≡ t → cond t (Some f) None ≡ Some g → (name ≡ f.name) × (f ≡ g)
last_step name f g true q e = ((bytes_eq-Decides name f.name).0 q, cc)
last_step name f g false q e = absurd cc

front_step : (A : Type 0) (t : Bool) (h g : Fun) (o p : Option Fun) → (p ≡ Some g → (o ≡ Some g) ⊎ A) → cond t (Some h) p ≡ Some g → (cond t (Some h) o ≡ Some g) ⊎ A
front_step A true h g o p f e = inl e
front_step A false h g o p f e = f e

-- a FUN stands before the last one, or is the last one
split_last : (before : List Fun) (f g : Fun) (name : List ℕ) → fun_of (before ++ f ∷ []) name ≡ Some g → (fun_of before name ≡ Some g) ⊎ ((name ≡ f.name) × (f ≡ g))
split_last [] f g name e = inr (last_step name f g (bytes_eq name f.name) refl e)
split_last (h ∷ before) f g name e =
    front_step ((name ≡ f.name) × (f ≡ g)) (bytes_eq name h.name) h g (fun_of before name) (fun_of (before ++ f ∷ []) name) (split_last before f g name) e

module _ (defs : Defs) where
  -- with one more FUN
  one_more : (before more : List Fun) (f : Fun) → before ++ f ∷ more ≡ defs.funs → Complete defs before → KeepsRules defs.structs before f → Complete defs (before ++ f ∷ [])
  one_more before more f whole complete keeps name g e = found (split_last before f g name e)
    where
      own : fun_of defs.funs f.name ≡ Some f
      own = subst (λ fs. fun_of fs f.name ≡ Some f) whole (own_found before more f keeps.name)

      found : (fun_of before name ≡ Some g) ⊎ ((name ≡ f.name) × (f ≡ g)) → (fun_of defs.funs name ≡ Some g) × ((env : Env) (ds : List Datum) → HaveSorts (argument_sorts g) ds → Answer defs env g ds)
      found (inl q) = complete name g q
      found (inr q) = (
        ap (fun_of defs.funs) q.0 ∙ own ∙ ap Option.Some q.1,
        subst (λ h. (env : Env) (ds : List Datum) → HaveSorts (argument_sorts h) ds → Answer defs env h ds) q.1 (body_answer defs before f complete own f.body refl keeps.body),
      )

  all_complete : (more before : List Fun) → before ++ more ≡ defs.funs → Complete defs before → AllKeep defs.structs before more → Complete defs defs.funs
  all_complete [] before whole complete keeps = subst (Complete defs) (sym (append-nil before) ∙ whole) complete
  all_complete (f ∷ more) before whole complete keeps =
      all_complete more (before ++ f ∷ []) (append_assoc before (f ∷ []) more ∙ whole) (one_more before more f whole complete keeps.0) keeps.1

  pub a_value : (scope : Scope) (env : Env) (s : Sort) (t : Plain) → DefsKeep defs → Suits scope env → Fits defs.structs scope (CallsOf defs.funs) s t → Valued defs env t s
  a_value scope env s t keeps suits fits =
      let complete = all_complete defs.funs [] refl (λ name f e. absurd cc) keeps in
      value_of defs scope env (CallsOf defs.funs) suits (answers_of defs defs.funs complete env) t fits.allowed s fits.sorted
