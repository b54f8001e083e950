-- What a project file reads as, one line after the other.
use Rattle.std.specs.Prelude.{ℕ, Bool, ◌+◌, ◌&&◌, ◌||◌, not, nat_lt, nat_eq, bytes_eq, if◌then◌else◌, List, [], ◌∷◌, ◌++◌, length, drop, Option, Some, None, Result, Ok, Err, codes}
use Rattle.std.specs.List.{list_any, starts_with}
use Rattle.floyd_text.specs.declared.refusal.Refusal.{Refusal}
use Rattle.floyd_text.specs.declared.code.Code.TheVariants.{BadProject}
use Rattle.floyd_text.specs.declared.refusal.Shown.TheVariants.{Nothing}
use Rattle.floyd_text.specs.Place.{place_at}
use Rattle.floyd_text.specs.Refusals.{refusal_at}
use Rattle.floyd_check_project.specs.declared.draft.Expected.{Expected}
use Rattle.floyd_check_project.specs.declared.draft.Expected.TheVariants.{AModule, ASource, ASpec, AScript}
use Rattle.floyd_check_project.specs.declared.module.FileName.{FileName}
use Rattle.floyd_check_project.specs.declared.module.Module.{Module}
use Rattle.floyd_check_project.specs.Lines.{Line, lines_from, is_blank, is_comment, is_identifier, is_file_name}

-- the name that stands after this word and one space
abbrev pub name_after : List ℕ → List ℕ → Option (List ℕ)
name_after word bytes =
    if starts_with nat_eq bytes (word ++ 32 ∷ []) then Some (drop (length word + 1) bytes) else None

-- a module of this name may begin after these
abbrev pub may_begin : List Module → List ℕ → Bool
may_begin modules name =
    is_identifier name && not (list_any (λ (m : Module). bytes_eq m.name name) modules) && nat_lt (length modules) 64

abbrev pub new_module : List Module → Option (List ℕ) → Option (Expected × List Module)
new_module modules None = None
new_module modules (Some name) = if may_begin modules name then Some (ASource name, modules) else None

-- the file that a line names after this word
abbrev pub file_if : ℕ → Option (List ℕ) → Option FileName
file_if at None = None
file_if at (Some name) = if is_file_name name then Some (record { name = name; at = at }) else None

abbrev pub file_after : List ℕ → Line → Option FileName
file_after word line = file_if (line.at + length word + 1) (name_after word line.bytes)

abbrev pub with_source : List ℕ → List Module → Option FileName → Option (Expected × List Module)
with_source name modules None = None
with_source name modules (Some source) = Some (ASpec name source, modules)

abbrev pub with_spec : List ℕ → FileName → List Module → Option FileName → Option (Expected × List Module)
with_spec name source modules None = None
with_spec name source modules (Some spec) = Some (AScript name source spec, modules)

abbrev pub with_script : List ℕ → FileName → FileName → List Module → Option FileName → Option (Expected × List Module)
with_script name source spec modules None = None
with_script name source spec modules (Some script) =
    Some (AModule, modules ++ record { name = name; source = source; spec = spec; script = script } ∷ [])

-- what is expected after a line that is neither blank nor a comment, and the modules so far; none where the line is
-- not what was expected
abbrev pub after_line : Expected → List Module → Line → Option (Expected × List Module)
after_line AModule modules line = new_module modules (name_after (codes "module") line.bytes)
after_line (ASource name) modules line = with_source name modules (file_after (codes "source") line)
after_line (ASpec name source) modules line = with_spec name source modules (file_after (codes "spec") line)
after_line (AScript name source spec) modules line = with_script name source spec modules (file_after (codes "script") line)

-- the modules of a file that ends here, or the offset at which it is refused
abbrev pub at_end : ℕ → Expected → List Module → Result (List Module) ℕ
at_end end AModule [] = Err 0
at_end end AModule (m ∷ ms) = Ok (m ∷ ms)
at_end end (ASource name) modules = Err end
at_end end (ASpec name source) modules = Err end
at_end end (AScript name source spec) modules = Err end

-- on with what a line gave, or the line's refusal
abbrev pub on_line : (Expected → List Module → Result (List Module) ℕ) → ℕ → Option (Expected × List Module) → Result (List Module) ℕ
on_line rest at None = Err at
on_line rest at (Some (expected, modules)) = rest expected modules

abbrev pub read_lines : ℕ → List Line → Expected → List Module → Result (List Module) ℕ
read_lines end [] expected modules = at_end end expected modules
read_lines end (l ∷ ls) expected modules =
    if is_blank l.bytes || is_comment l.bytes
    then read_lines end ls expected modules
    else on_line (read_lines end ls) l.at (after_line expected modules l)

-- BadProject at this offset of the project file
abbrev pub bad_project : List ℕ → Result (List Module) ℕ → Result (List Module) Refusal
bad_project bytes (Ok modules) = Ok modules
bad_project bytes (Err at) = Err (refusal_at BadProject (place_at 0 bytes at) Nothing)

-- the modules of a project file, or its refusal
abbrev pub project_of : List ℕ → Result (List Module) Refusal
project_of bytes = bad_project bytes (read_lines (length bytes) (lines_from 0 bytes) AModule [])
