-- A project file that reads has a module.
use Rattle.std.proofs.Common.{◌≡◌, ℕ, ◌<◌, Bool, true, false, cond, List, [], ◌∷◌, length, Option, Some, None, Result, Ok, Err, refl, subst, arith}
use Rattle.std.specs.Prelude.{◌||◌}
use Rattle.floyd_check_project.specs.declared.draft.Expected.{Expected}
use Rattle.floyd_check_project.specs.declared.draft.Expected.TheVariants.{AModule, ASource, ASpec, AScript}
use Rattle.floyd_check_project.specs.declared.module.Module.{Module}
use Rattle.floyd_check_project.specs.Lines.{Line, lines_from, is_blank, is_comment}
use Rattle.floyd_check_project.specs.Project.{after_line, at_end, on_line, read_lines, bad_project, project_of}

abbrev SomeOk : Result (List Module) ℕ → Type 0
SomeOk (Ok modules) = 0 < length modules
SomeOk (Err at) = Unit {0}

at_end_some : (end : ℕ) (e : Expected) (modules : List Module) → SomeOk (at_end end e modules)
at_end_some end AModule [] = tt
at_end_some end AModule (m ∷ ms) = omega arith
at_end_some end (ASource name) modules = tt
at_end_some end (ASpec name source) modules = tt
at_end_some end (AScript name source spec) modules = tt

on_line_some : (rest : Expected → List Module → Result (List Module) ℕ) (at : ℕ) (o : Option (Expected × List Module))
    → ((e : Expected) (modules : List Module) → SomeOk (rest e modules)) → SomeOk (on_line rest at o)
on_line_some rest at None h = tt
on_line_some rest at (Some p) h = h p.0 p.1

either_some : (b : Bool) (x y : Result (List Module) ℕ) → SomeOk x → SomeOk y → SomeOk (cond b x y)
either_some true x y hx hy = hx
either_some false x y hx hy = hy

read_lines_some : (end : ℕ) (ls : List Line) (e : Expected) (modules : List Module) → SomeOk (read_lines end ls e modules)
read_lines_some end [] e modules = at_end_some end e modules
read_lines_some end (l ∷ ls) e modules =
    either_some (is_blank l.bytes || is_comment l.bytes) (read_lines end ls e modules) (on_line (read_lines end ls) l.at (after_line e modules l))
    (read_lines_some end ls e modules)
    (on_line_some (read_lines end ls) l.at (after_line e modules l) (λ f ms. read_lines_some end ls f ms))

bad_project_some : (bytes : List ℕ) (r : Result (List Module) ℕ) (modules : List Module) → SomeOk r → bad_project bytes r ≡ Ok modules → 0 < length modules
bad_project_some bytes (Ok ms) modules some e =
    let is : ms ≡ modules = cc in
    subst (λ (xs : List Module). 0 < length xs) is some
bad_project_some bytes (Err at) modules some e = absurd (cc)

pub project_some : (bytes : List ℕ) (modules : List Module) → project_of bytes ≡ Ok modules → 0 < length modules
project_some bytes modules e =
    bad_project_some bytes (read_lines (length bytes) (lines_from 0 bytes) AModule []) modules (read_lines_some (length bytes) (lines_from 0 bytes) AModule []) e
