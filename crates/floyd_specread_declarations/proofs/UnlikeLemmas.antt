-- Types that are those of a function, or unlike them.
use Rattle.std.proofs.Common.{◌≡◌, ◌↔◌, ℕ, Bool, true, false, not, List, Option, Some, None, Result, Ok, Err, IsTrue, bytes_eq, refl, ap, sym, subst, ◌∙◌}
use Rattle.std.specs.Map.{lookup}
use Rattle.std.specs.Result.{IfOk}
use Rattle.floyd_text.specs.declared.refusal.Halt.{Halt}
use Rattle.floyd_text.specs.declared.refusal.Halt.TheVariants.{Refused, Memory}
use Rattle.floyd_lex.specs.Token.{TokenList}
use Rattle.floyd_cparse_trees.specs.declared.types.Identifier.{Identifier}
use Rattle.floyd_tree.specs.Types.{SizedType}
use Rattle.floyd_assert_trees.specs.declared.spec.Funspec.{Funspec}
use Rattle.floyd_termread_scope.specs.Scopes.{Env, Named}
use Rattle.floyd_termread_phrases.specs.Reads.{Answers}
use Rattle.floyd_text.specs.declared.refusal.Refusal.{Refusal}
use Rattle.floyd_specread_trees.specs.declared.declarations.Declaration.{Declaration}
use Rattle.floyd_specread_sources.specs.declared.functions.Prototype.{Prototype}
use Rattle.floyd_specread_declarations.specs.declared.standing.Standing.{Standing}
use Rattle.floyd_specread_declarations.specs.Judging.{Differs, prototype_with, typed_behind}
use Rattle.floyd_specread_declarations.specs.UnlikeClauses.{Decides, TypedUnlike}
use Rattle.floyd_specread_declarations.specs.JudgedClauses.{ReadUnlike, RefusedUnlike, StoppedUnlike}

no_truth : IsTrue false → ⊥
no_truth e = absurd cc

module _ (d : Prototype) (ps : List SizedType) (t : SizedType) where
  pub both : (b : Bool) → d.params ≡ ps → IsTrue b ↔ (d.result ≡ t) → Decides b (prototype_with ps t ≡ d)
  both true e same = ap (λ (qs : List SizedType). prototype_with qs t) (sym e) ∙ ap (prototype_with d.params) (sym (same.0 refl))
  both false e same = λ equal. no_truth (same.1 (sym (ap (λ (q : Prototype). q.result) equal)))

  pub other_params : ¬ (d.params ≡ ps) → ¬ (prototype_with ps t ≡ d)
  other_params other equal = other (sym (ap (λ (q : Prototype). q.params) equal))

module _ (functions : Named Prototype) (x : List ℕ) where
  pub unlike_some : (read declared : Prototype) (b : Bool) → lookup (bytes_eq x) functions ≡ Some declared → Decides b (read ≡ declared) → Decides (not b) (Differs functions x (Some read))
  unlike_some read declared true there same = λ f.
      let first : read ≡ f.0 = cc in
      let second : declared ≡ f.1 = cc in
      f.4 (sym first ∙ same ∙ second)
  unlike_some read declared false there other = (read, declared, refl, there, other)

  pub unlike_none : (t : Option Prototype) → lookup (bytes_eq x) functions ≡ None → ¬ (Differs functions x t)
  unlike_none t none f = absurd cc

  nothing_differs : (b : Bool) → b ≡ false → Decides b (Differs functions x None)
  nothing_differs true e = absurd cc
  nothing_differs false e = λ f. absurd cc

module _ {E : Type 0} (bytes : List ℕ) (list : TokenList) (functions : Named Prototype) (stand : Standing) (name : Identifier) (env : Env) (specs : Named Funspec) (at : ℕ) where
  pub refused_unlike : (typed : Result (Prototype × ℕ) Halt) (r : Result Bool E) → Answers (λ (x : Prototype × ℕ). x) (typed_behind bytes list stand name env specs at) typed → IfOk r (TypedUnlike functions name.name typed) → IfOk r (RefusedUnlike bytes list functions stand name env specs at)
  refused_unlike (Ok x) (Ok b) is told = λ refusal. (Some x.0, (x.1, is), told)
  refused_unlike (Err (Refused other)) (Ok b) is told = λ refusal. (None, (other, is), nothing_differs functions name.name b told)
  refused_unlike (Err Memory) (Ok b) is told = absurd told
  refused_unlike typed (Err e) is told = tt

  pub stopped_unlike : (halt : Halt) (refusal : Refusal) (r : Result Bool E) → halt ≡ Refused refusal → IfOk r (RefusedUnlike bytes list functions stand name env specs at) → IfOk r (StoppedUnlike bytes list functions stand name env specs at halt)
  stopped_unlike halt refusal (Ok b) e unlike = subst (λ (h : Halt). StoppedUnlike bytes list functions stand name env specs at h b) (sym e) (unlike refusal)
  stopped_unlike halt refusal (Err x) e unlike = tt

  pub read_unlike : (read : Result (Declaration × ℕ) Halt) (halt : Halt) (r : Result Bool E) → read ≡ Err halt → IfOk r (StoppedUnlike bytes list functions stand name env specs at halt) → IfOk r (ReadUnlike bytes list functions stand name env specs at read)
  read_unlike read halt (Ok b) e unlike = subst (λ (q : Result (Declaration × ℕ) Halt). ReadUnlike bytes list functions stand name env specs at q b) (sym e) unlike
  read_unlike read halt (Err x) e unlike = tt
