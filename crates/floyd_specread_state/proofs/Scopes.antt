-- What names stand for where no variable is bound.
use Rattle.std.proofs.Common.{◌≡◌, ℕ, List, Option, None, ap}
use Rattle.std.proofs.Math.Path.{fun_ext}
use Rattle.floyd_tree_sorts.specs.declared.sorts.Sort.{Sort}
use Rattle.floyd_termread_scope.specs.Scopes.{Env}
use Rattle.floyd_specread_state.specs.declared.state.State.{State}
use Rattle.floyd_specread_state.specs.States.{env_of}

pub unbound : (s : State) (sorts : List ℕ → Option Sort) → ((x : List ℕ) → sorts x ≡ None) → (let e : Env = record (env_of s) { variable = sorts } in e) ≡ env_of s
unbound s sorts h = ap (λ (v : List ℕ → Option Sort). (let e : Env = record (env_of s) { variable = v } in e)) (fun_ext h)
