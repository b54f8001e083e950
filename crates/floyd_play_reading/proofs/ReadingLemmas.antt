-- Lists of terms with the sorts that are expected of them, what names stand for in a goal, and what a command's arguments are.
use Rattle.std.proofs.Common.{◌≡◌, ℕ, List, Option, Result, Ok, Err, refl, ap, sym, subst, ◌∙◌}
use Rattle.std.specs.Result.{IsErrAnd}
use Rattle.floyd_text.specs.declared.refusal.Halt.{Halt}
use Rattle.floyd_text.specs.declared.refusal.Halt.TheVariants.{Refused, Memory}
use Rattle.floyd_text.specs.declared.refusal.Refusal.{Refusal}
use Rattle.floyd_lex.specs.declared.kinds.Punctuator.TheVariants as p
use Rattle.floyd_lex.specs.Token.{TokenList}
use Rattle.floyd_tree_sorts.specs.declared.sorts.Sort.{Sort}
use Rattle.floyd_tree.specs.Plain.{Plain}
use Rattle.floyd_assert_trees.specs.declared.items.Defs.{Defs}
use Rattle.floyd_assert_trees.specs.declared.spec.SpecTable.{SpecTable}
use Rattle.floyd_goal_trees.specs.Contexts.{context_of}
use Rattle.floyd_goal_trees.specs.declared.goal.Goal.{Goal}
use Rattle.floyd_termread_scope.specs.Scopes.{Env, Named}
use Rattle.floyd_termread_phrases.specs.Reads.{Answers, Reads}
use Rattle.floyd_termread_phrases.specs.Phrases as phrase
use Rattle.floyd_termread_marks.specs.Lists.{listed}
use Rattle.floyd_play_scopes.specs.GoalScopes.{Sorts, sorts_in}
use Rattle.floyd_play_reading.specs.Answers.{IsAnswer}
use Rattle.floyd_play_reading.specs.Expected.{goal_env}
use Rattle.floyd_play_reading.specs.ScopeClauses.{env_of}

module _ (bytes : List ℕ) (list : TokenList) (e : Env) where
  abbrev terms_by : (List Plain → Option Sort) → Reads (List Plain)
  terms_by f = listed bytes list 0 p.Semicolon (λ ts. phrase.term bytes list 1 e (f ts))

  -- equal expectations read the same
  pub terms_as : (f g : List Plain → Option Sort) → f ≡ g → (at : ℕ) (r : Result (List Plain × ℕ) Halt) → Answers (λ (x : List Plain × ℕ). x) (terms_by f at) r → Answers (λ (x : List Plain × ℕ). x) (terms_by g at) r
  terms_as f g same at r d = subst (λ (h : List Plain → Option Sort). Answers (λ (x : List Plain × ℕ). x) (terms_by h at) r) same d

-- what names stand for in a goal
pub env_as : (goal : Goal) (defs : Defs) (specs : SpecTable) (sorts : Sorts) (names locals : Named (Unit {0})) → sorts ≡ sorts_in (context_of goal).variables → names ≡ locals → env_of defs specs sorts names ≡ goal_env goal defs specs locals
env_as goal defs specs sorts names locals s n =
    ap (λ (f : Sorts). env_of defs specs f names) s ∙ ap (λ (m : Named (Unit {0})). env_of defs specs (sorts_in (context_of goal).variables) m) n

module _ {A : Type 0} (P : Result A Refusal → Type 0) where
  halted : (h : Halt) → ((refusal : Refusal) → h ≡ Refused refusal → P (Err refusal)) → IsAnswer P (Err h)
  halted (Refused refusal) f = f refusal refl
  halted Memory f = tt

  -- what stopped a call in it stops it
  pub stops : (r : Result A Halt) (h : Halt) → IsErrAnd r (λ x. x ≡ h) → ((refusal : Refusal) → h ≡ Refused refusal → P (Err refusal)) → IsAnswer P r
  stops (Ok x) h is f = absurd is
  stops (Err x) h is f = subst (λ (s : Halt). IsAnswer P (Err s)) (sym is) (halted h f)
