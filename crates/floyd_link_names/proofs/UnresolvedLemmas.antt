-- What tables say of names is what the sources say.
use Rattle.std.proofs.Common.{◌≡◌, ℕ, not, ◌&&◌, ◌||◌, List, [], ◌∷◌, ◌++◌, map, filter, Option, None, refl, sym, ap, ap₂, ◌∙◌, is_some, bytes_eq}
use Rattle.std.specs.List.{flat_map}
use Rattle.std.specs.Map.{lookup}
use Rattle.floyd_text.specs.declared.refusal.Refusal.{Refusal}
use Rattle.floyd_clight.specs.declared.unit.ClightUnit.{ClightUnit}
use Rattle.floyd_clight.specs.declared.unit.Variable.{Variable}
use Rattle.floyd_specread_trees.specs.declared.declarations.Declaration.{Declaration}
use Rattle.floyd_specread_trees.specs.declared.modules.ModuleSpec.{ModuleSpec}
use Rattle.floyd_link_mentions.specs.Mentions.{mentions}
use Rattle.floyd_link_names.specs.declared.entries.Entry.{Entry}
use Rattle.floyd_link_names.specs.Names.{defined_in}
use Rattle.floyd_link_names.specs.Tables.{with_names}
use Rattle.floyd_link_names.specs.Duplicates.{first_from}
use Rattle.floyd_link_names.specs.DuplicateClauses.{Names, all_names, is_in}
use Rattle.floyd_link_names.specs.Unresolved.{Mentioned, imports_of, is_import, is_missing, is_unknown, missing_at, of_all, unknown_at, unresolved, variables_of}
use Rattle.floyd_link_names.specs.UnresolvedClauses.{all_by, imports_by, is_missing_by, is_unknown_by, is_unknown_in, unit_by, variables_by}
use Rattle.floyd_link_names.proofs.DuplicateLemmas.{all_alike, filter_alike, in_parts, names_alike}

-- where a table has the names that the source mentions
pub unit_alike : (defined own : Names) (u : ClightUnit) (names : Mentioned) (vs : List Variable) → vs ≡ u.variables → ((x : List ℕ) → is_some (lookup (bytes_eq x) own) ≡ mentions x u)
    → variables_by defined own names vs ≡ unit_by defined u names
unit_alike defined own u names vs same h =
    ap (map unknown_at)
    (filter_alike (is_unknown_by defined own names) (is_unknown_in defined u names) (λ (v : Variable). ap (λ b. not (is_in defined v.name) && (b || is_in names v.name)) (h v.name)) vs
    ∙ ap (filter (is_unknown_in defined u names)) same)

imports_alike : (defined : List Entry) (m : ModuleSpec) → imports_by (with_names defined []) m.declarations ≡ imports_of defined m
imports_alike defined m =
    ap (map missing_at) (filter_alike (is_missing_by (with_names defined [])) (is_missing defined) (λ (d : Declaration). ap (λ b. is_import d.kind && not b) (names_alike defined d.name)) m.declarations)

variables_alike : (defined : List Entry) (u : ClightUnit) (names : Mentioned) → unit_by (with_names defined []) u names ≡ variables_of defined u names
variables_alike defined u names =
    ap (map unknown_at)
    (filter_alike (is_unknown_in (with_names defined []) u names) (is_unknown defined u names) (λ (v : Variable). ap (λ b. not b && (mentions v.name u || is_in names v.name)) (names_alike defined v.name)) u.variables)

all_modules : (first : Option Refusal) (defined : List Entry) (us : List ClightUnit) (ms : List ModuleSpec) (ns : List Mentioned)
    → all_by first (with_names defined []) us ms ns ≡ first_from first (of_all defined us ms ns)
all_modules first defined [] ms ns = refl
all_modules first defined (u ∷ us) [] ns = refl
all_modules first defined (u ∷ us) (m ∷ ms) [] = refl
all_modules first defined (u ∷ us) (m ∷ ms) (n ∷ ns) =
    let here : List Refusal = variables_of defined u n ++ imports_of defined m in
    ap₂ (λ (rs qs : List Refusal). all_by (first_from (first_from first rs) qs) (with_names defined []) us ms ns) (variables_alike defined u n) (imports_alike defined m)
    ∙ ap (λ (f : Option Refusal). all_by f (with_names defined []) us ms ns) (sym (in_parts first (variables_of defined u n) (imports_of defined m)))
    ∙ all_modules (first_from first here) defined us ms ns
    ∙ sym (in_parts first here (of_all defined us ms ns))

pub found_with_tables : (units : List ClightUnit) (modules : List ModuleSpec) (mentioned : List Mentioned)
    → all_by None (all_names [] units) units modules mentioned ≡ unresolved units modules mentioned
found_with_tables units modules mentioned =
    ap (λ (n : Names). all_by None n units modules mentioned) (all_alike [] units) ∙ all_modules None (flat_map defined_in units) units modules mentioned
