-- What is read where nothing is bound.
use Rattle.std.proofs.Common.{◌≡◌, ℕ, List, Option, None, Result, ap, subst}
use Rattle.std.proofs.Math.Path.{fun_ext}
use Rattle.std.specs.Option.{option_or}
use Rattle.floyd_text.specs.declared.refusal.Halt.{Halt}
use Rattle.floyd_tree_sorts.specs.declared.sorts.Sort.{Sort}
use Rattle.floyd_termread_scope.specs.declared.scope.Scope.{Scope}
use Rattle.floyd_termread_scope.specs.declared.variables.Variables.{Variables}
use Rattle.floyd_termread_scope.specs.Scopes.{Env, env, sort_of}
use Rattle.floyd_termread_phrases.specs.Reads.{Answers, Reads}
use Rattle.floyd_termread.specs.Brackets.{outermost}

unbound : (s : Scope) (b : Variables) → ((x : List ℕ) → sort_of b x ≡ None) → env s b ≡ outermost s
unbound s b h =
    ap (λ (v : List ℕ → Option Sort). record (outermost s) { variable = v })
    (fun_ext (λ x. ap (λ (o : Option Sort). option_or o (sort_of s.variables x)) (h x)))

-- a phrase that was read so, at the depth and the number that it has
pub alone : {A : Type 0} (reads : ℕ → Env → Reads A) (s : Scope) (b : Variables) (depth at d n : ℕ) (r : Result (A × ℕ) Halt) → ((x : List ℕ) → sort_of b x ≡ None) → depth ≡ d → at ≡ n
    → Answers (λ (x : A × ℕ). x) (reads depth (env s b) at) r → Answers (λ (x : A × ℕ). x) (reads d (outermost s) n) r
alone {A} reads s b depth at d n r nothing same_depth same_number h =
    subst (λ k. Answers (λ (x : A × ℕ). x) (reads k (outermost s) n) r) same_depth
    (subst (λ k. Answers (λ (x : A × ℕ). x) (reads depth (outermost s) k) r) same_number
    (subst (λ (e : Env). Answers (λ (x : A × ℕ). x) (reads depth e at) r) (unbound s b nothing) h))
