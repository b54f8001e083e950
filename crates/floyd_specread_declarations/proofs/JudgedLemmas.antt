-- A declaration that was read and judged.
use Rattle.std.proofs.Common.{◌≡◌, ℕ, Bool, true, false, List, Result, Ok, Err, refl, subst, sym}
use Rattle.std.specs.Result.{IsErrAnd}
use Rattle.floyd_text.specs.Gives.{Stops}
use Rattle.floyd_text.specs.declared.refusal.Halt.{Halt}
use Rattle.floyd_text.specs.declared.refusal.Halt.TheVariants.{Refused, Memory}
use Rattle.floyd_text.specs.declared.refusal.Refusal.{Refusal}
use Rattle.floyd_lex.specs.Token.{TokenList}
use Rattle.floyd_cparse_trees.specs.declared.types.Identifier.{Identifier}
use Rattle.floyd_assert_trees.specs.declared.spec.Funspec.{Funspec}
use Rattle.floyd_termread_scope.specs.Scopes.{Env, Named}
use Rattle.floyd_termread_phrases.specs.Reads.{Answer, Answers}
use Rattle.floyd_specread_trees.specs.declared.declarations.Declaration.{Declaration}
use Rattle.floyd_specread_sources.specs.declared.functions.Prototype.{Prototype}
use Rattle.floyd_specread_declarations.specs.declared.standing.Standing.{Standing}
use Rattle.floyd_specread_declarations.specs.Declarations.{behind_name}
use Rattle.floyd_specread_declarations.specs.Judging.{judged_behind, is_as_written, type_differs, body_differs, unlike, not_so, as_read}
use Rattle.floyd_specread_declarations.specs.JudgedClauses.{UnlikeOf, ReadUnlike, name_judged}

abbrev failed : {A : Type 0} → Refusal → Result A Refusal
failed refusal = Err refusal

same_refusal : (one other : Refusal) → failed {A = Unit {0}} one ≡ failed other → failed {A = Declaration × ℕ} one ≡ failed other
same_refusal one other e = cc

module _ (bytes : List ℕ) (list : TokenList) (functions : Named Prototype) (bodies : Named (Unit {0})) (stand : Standing) (name : Identifier) (env : Env) (specs : Named Funspec) (at : ℕ) where
  abbrev IsJudged : Answer Declaration → Type 0
  IsJudged answer = judged_behind bytes list functions bodies stand name env specs at answer

  abbrev IsUnlike : Answer Declaration → Bool → Type 0
  IsUnlike read b = UnlikeOf bytes list functions stand name env specs at read b

  module _ (read : Answer Declaration) (is : behind_name bytes list stand name env specs at read) where
    refused : (b : Bool) → IsUnlike read b → (as_written : Bool) → is_as_written functions bodies stand name.name ≡ as_written → (refusal : Refusal) → name_judged name b as_written ≡ Err refusal → IsJudged (Err refusal)
    refused true u as_written e refusal g = subst IsJudged (same_refusal (type_differs name) refusal g) (read, u.0, is, u.1, unlike u.2)
    refused false u true e refusal g = absurd cc
    refused false u false e refusal g = subst IsJudged (same_refusal (body_differs name) refusal g) (read, u.0, is, u.1, not_so u.2 e)

    accepted : (b : Bool) → IsUnlike read b → (as_written : Bool) → is_as_written functions bodies stand name.name ≡ as_written → name_judged name b as_written ≡ Ok tt → IsJudged read
    accepted true u as_written e g = absurd cc
    accepted false u true e g = (read, u.0, is, u.1, as_read u.2 e)
    accepted false u false e g = absurd cc

  -- what was read, judged at its name
  pub wrong_name : (read r : Result (Declaration × ℕ) Halt) (b : Bool) (h : Halt) → Answers (λ (x : Declaration × ℕ). x) (behind_name bytes list stand name env specs at) read → ReadUnlike bytes list functions stand name env specs at read b → IsErrAnd r (λ x. x ≡ h)
      → Stops h (name_judged name b (is_as_written functions bodies stand name.name)) → Answers (λ (x : Declaration × ℕ). x) (judged_behind bytes list functions bodies stand name env specs at) r
  wrong_name read (Ok x) b h is u stopped stops = absurd stopped
  wrong_name read (Err Memory) b h is u stopped stops = tt
  wrong_name (Ok x) (Err (Refused refusal)) b h is u stopped stops = refused (Ok x) is b u (is_as_written functions bodies stand name.name) refl refusal (subst (λ (s : Halt). Stops s (name_judged name b (is_as_written functions bodies stand name.name))) (sym stopped) stops)
  wrong_name (Err (Refused other)) (Err (Refused refusal)) b h is u stopped stops = refused (Err other) is b u (is_as_written functions bodies stand name.name) refl refusal (subst (λ (s : Halt). Stops s (name_judged name b (is_as_written functions bodies stand name.name))) (sym stopped) stops)
  wrong_name (Err Memory) (Err (Refused refusal)) b h is u stopped stops = absurd u

  pub right_name : (read : Result (Declaration × ℕ) Halt) (b : Bool) → Answers (λ (x : Declaration × ℕ). x) (behind_name bytes list stand name env specs at) read → ReadUnlike bytes list functions stand name env specs at read b
      → name_judged name b (is_as_written functions bodies stand name.name) ≡ Ok tt → Answers (λ (x : Declaration × ℕ). x) (judged_behind bytes list functions bodies stand name env specs at) read
  right_name (Ok x) b is u e = accepted (Ok x) is b u (is_as_written functions bodies stand name.name) refl e
  right_name (Err (Refused refusal)) b is u e = accepted (Err refusal) is b u (is_as_written functions bodies stand name.name) refl e
  right_name (Err Memory) b is u e = tt
