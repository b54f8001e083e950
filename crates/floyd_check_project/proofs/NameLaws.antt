-- The files of a project file that reads have names of files.
use Rattle.std.proofs.Common.{◌≡◌, ℕ, Bool, true, false, cond, List, [], ◌∷◌, ◌++◌, Option, Some, None, Result, Ok, Err, refl, sym, ◌∙◌, ap, subst}
use Rattle.std.specs.Prelude.{codes, ◌||◌, length}
use Rattle.floyd_check_project.specs.declared.module.FileName.{FileName}
use Rattle.floyd_check_project.specs.declared.module.Module.{Module}
use Rattle.floyd_check_project.specs.Lines.{Line, lines_from, is_blank, is_comment, is_file_name}
use Rattle.floyd_check_project.specs.declared.draft.Expected.{Expected}
use Rattle.floyd_check_project.specs.declared.draft.Expected.TheVariants.{AModule, ASource, ASpec, AScript}
use Rattle.floyd_check_project.specs.Project.{name_after, may_begin, new_module, file_if, file_after, with_source, with_spec, with_script, after_line, at_end, on_line, read_lines, bad_project, project_of}

abbrev pub IsNamed : FileName → Type 0
IsNamed f = is_file_name f.name ≡ true

-- each file of each module has a name of a file
abbrev pub AllNamed : List Module → Type 0
AllNamed [] = Unit {0}
AllNamed (m ∷ ms) = IsNamed m.source × IsNamed m.spec × IsNamed m.script × AllNamed ms

abbrev Fine : Expected → Type 0
Fine AModule = Unit {0}
Fine (ASource name) = Unit {0}
Fine (ASpec name source) = IsNamed source
Fine (AScript name source spec) = IsNamed source × IsNamed spec

abbrev FineAfter : Option (Expected × List Module) → Type 0
FineAfter None = Unit {0}
FineAfter (Some p) = Fine p.0 × AllNamed p.1

abbrev NamedIf : Option FileName → Type 0
NamedIf None = Unit {0}
NamedIf (Some f) = IsNamed f

file_if_test : (at : ℕ) (name : List ℕ) (b : Bool) → is_file_name name ≡ b → NamedIf (cond b (Some (record { name = name; at = at })) None)
file_if_test at name true e = e
file_if_test at name false e = tt

file_if_named : (at : ℕ) (o : Option (List ℕ)) → NamedIf (file_if at o)
file_if_named at None = tt
file_if_named at (Some name) = file_if_test at name (is_file_name name) refl

new_module_test : (modules : List Module) (name : List ℕ) (b : Bool) → AllNamed modules → FineAfter (cond b (Some (ASource name, modules)) None)
new_module_test modules name true named = (tt, named)
new_module_test modules name false named = tt

new_module_fine : (modules : List Module) (o : Option (List ℕ)) → AllNamed modules → FineAfter (new_module modules o)
new_module_fine modules None named = tt
new_module_fine modules (Some name) named = new_module_test modules name (may_begin modules name) named

source_fine : (name : List ℕ) (modules : List Module) (o : Option FileName) → AllNamed modules → NamedIf o → FineAfter (with_source name modules o)
source_fine name modules None named f = tt
source_fine name modules (Some source) named f = (f, named)

spec_fine : (name : List ℕ) (source : FileName) (modules : List Module) (o : Option FileName) → IsNamed source → AllNamed modules → NamedIf o → FineAfter (with_spec name source modules o)
spec_fine name source modules None s named f = tt
spec_fine name source modules (Some spec) s named f = ((s, f), named)

named_more : (modules : List Module) (m : Module) → AllNamed modules → IsNamed m.source → IsNamed m.spec → IsNamed m.script → AllNamed (modules ++ m ∷ [])
named_more [] m named a b c = (a, b, c, tt)
named_more (n ∷ ns) m named a b c = (named.0, named.1, named.2, named_more ns m named.3 a b c)

script_fine : (name : List ℕ) (source spec : FileName) (modules : List Module) (o : Option FileName) → IsNamed source → IsNamed spec → AllNamed modules → NamedIf o → FineAfter (with_script name source spec modules o)
script_fine name source spec modules None s p named f = tt
script_fine name source spec modules (Some script) s p named f = (tt, named_more modules _ named s p f)

after_line_fine : (e : Expected) (modules : List Module) (l : Line) → Fine e → AllNamed modules → FineAfter (after_line e modules l)
after_line_fine AModule modules l fine named = new_module_fine modules (name_after (codes "module") l.bytes) named
after_line_fine (ASource name) modules l fine named =
    source_fine name modules (file_after (codes "source") l) named (file_if_named _ (name_after (codes "source") l.bytes))
after_line_fine (ASpec name source) modules l fine named =
    spec_fine name source modules (file_after (codes "spec") l) fine named (file_if_named _ (name_after (codes "spec") l.bytes))
after_line_fine (AScript name source spec) modules l fine named =
    script_fine name source spec modules (file_after (codes "script") l) fine.0 fine.1 named (file_if_named _ (name_after (codes "script") l.bytes))

abbrev NamedOk : Result (List Module) ℕ → Type 0
NamedOk (Ok modules) = AllNamed modules
NamedOk (Err at) = Unit {0}

at_end_named : (end : ℕ) (e : Expected) (modules : List Module) → AllNamed modules → NamedOk (at_end end e modules)
at_end_named end AModule [] named = tt
at_end_named end AModule (m ∷ ms) named = named
at_end_named end (ASource name) modules named = tt
at_end_named end (ASpec name source) modules named = tt
at_end_named end (AScript name source spec) modules named = tt

on_line_named : (rest : Expected → List Module → Result (List Module) ℕ) (at : ℕ) (o : Option (Expected × List Module))
    → ((e : Expected) (modules : List Module) → Fine e → AllNamed modules → NamedOk (rest e modules)) → FineAfter o → NamedOk (on_line rest at o)
on_line_named rest at None h f = tt
on_line_named rest at (Some p) h f = h p.0 p.1 f.0 f.1

skip_named : (b : Bool) (x y : Result (List Module) ℕ) → NamedOk x → NamedOk y → NamedOk (cond b x y)
skip_named true x y hx hy = hx
skip_named false x y hx hy = hy

read_lines_named : (end : ℕ) (ls : List Line) (e : Expected) (modules : List Module) → Fine e → AllNamed modules → NamedOk (read_lines end ls e modules)
read_lines_named end [] e modules fine named = at_end_named end e modules named
read_lines_named end (l ∷ ls) e modules fine named =
    skip_named (is_blank l.bytes || is_comment l.bytes) (read_lines end ls e modules) (on_line (read_lines end ls) l.at (after_line e modules l))
    (read_lines_named end ls e modules fine named)
    (on_line_named (read_lines end ls) l.at (after_line e modules l) (λ f ms. read_lines_named end ls f ms) (after_line_fine e modules l fine named))

bad_project_named : (bytes : List ℕ) (r : Result (List Module) ℕ) (modules : List Module) → NamedOk r → bad_project bytes r ≡ Ok modules → AllNamed modules
bad_project_named bytes (Ok ms) modules named e = subst AllNamed (cc) named
bad_project_named bytes (Err at) modules named e = absurd (cc)

-- each file of a project has a name of a file
pub project_named : (bytes : List ℕ) (modules : List Module) → project_of bytes ≡ Ok modules → AllNamed modules
project_named bytes modules e =
    bad_project_named bytes (read_lines (length bytes) (lines_from 0 bytes) AModule []) modules (read_lines_named (length bytes) (lines_from 0 bytes) AModule [] tt tt) e
