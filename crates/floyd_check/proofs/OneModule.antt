-- A project that is built has one module, and so three files besides its own.
use Rattle.std.proofs.Common.{◌≡◌, ℕ, ◌*◌, ◌<◌, List, [], ◌∷◌, length, Result, Ok, Err, refl, subst, arith}
use Rattle.floyd_text.specs.declared.refusal.Refusal.{Refusal}
use Rattle.floyd_check_project.specs.declared.module.Module.{Module}
use Rattle.floyd_check_project.specs.Project.{project_of}
use Rattle.floyd_check_project.proofs.SomeLaws.{project_some}
use Rattle.floyd_check.specs.Loading.{modules_of, built_modules, on_ok}
use Rattle.floyd_check.specs.Verdict.{HasAllFiles}

built_one : (ms modules : List Module) → 0 < length ms → built_modules ms ≡ Ok modules → length modules ≡ 1
built_one [] modules some e = absurd (omega (arith, some))
built_one (m ∷ []) modules some e =
    let is : m ∷ [] ≡ modules = cc in
    subst (λ (xs : List Module). length xs ≡ 1) is refl
built_one (m ∷ n ∷ ms) modules some e = absurd (cc)

bound_one : (bytes : List ℕ) (r : Result (List Module) Refusal) (modules : List Module) → project_of bytes ≡ r → on_ok r built_modules ≡ Ok modules → length modules ≡ 1
bound_one bytes (Ok ms) modules is e = built_one ms modules (project_some bytes ms is) e
bound_one bytes (Err r) modules is e = absurd (cc)

pub one_module : (project : List ℕ) (modules : List Module) → modules_of project ≡ Ok modules → length modules ≡ 1
one_module project modules e = bound_one project (project_of project) modules refl e

pub three_files : (project : List ℕ) (modules : List Module) (files : List (List ℕ)) → modules_of project ≡ Ok modules
    → HasAllFiles (modules_of project) files → length files ≡ 3
three_files project modules files e h =
    let all : length files ≡ 3 * length modules = subst (λ (r : Result (List Module) Refusal). HasAllFiles r files) e h in
    omega (arith, all, one_module project modules e)
