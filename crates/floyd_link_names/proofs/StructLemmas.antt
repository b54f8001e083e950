-- What a table says of structs is what the list of their definitions says.
use Rattle.std.proofs.Common.{◌≡◌, ℕ, Bool, true, false, not, cond, List, [], ◌∷◌, ◌++◌, map, filter, Option, Some, None, find, refl, sym, ap, ◌∙◌, bytes_eq}
use Rattle.std.specs.Map.{lookup}
use Rattle.std.specs.Option.{option_map_or, option_or}
use Rattle.std.specs.Prelude.{option_map}
use Rattle.floyd_text.specs.declared.refusal.Refusal.{Refusal}
use Rattle.floyd_ctypes.specs.declared.field.Field.{Field}
use Rattle.floyd_clight.specs.declared.unit.ClightUnit.{ClightUnit}
use Rattle.floyd_clight.specs.declared.unit.StructDef.{StructDef}
use Rattle.floyd_specread_sources.specs.Tables.{put_new}
use Rattle.floyd_termread_scope.specs.Scopes.{Named}
use Rattle.floyd_link_names.specs.Duplicates.{first_from}
use Rattle.floyd_link_names.specs.StructsDiffer.{differs_at, fields_in, lies_otherwise, of_structs, same_fields, struct_differs}
use Rattle.floyd_link_names.specs.StructClauses.{lies_otherwise_by, sources_by, structs_by, with_fields}
use Rattle.floyd_link_names.proofs.DuplicateLemmas.{filter_alike, in_parts, lookup_put, none_behind, or_of_or}

first_fields : (x : List ℕ) (d : StructDef) (ds : List StructDef) → fields_in (d ∷ ds) x ≡ option_or (cond (bytes_eq x d.tag) (Some d.fields) None) (fields_in ds x)
first_fields x d ds = by (bytes_eq x d.tag)
  where
    by : (b : Bool) → option_map (λ (e : StructDef). e.fields) (cond b (Some d) (find (λ (e : StructDef). bytes_eq x e.tag) ds)) ≡ option_or (cond b (Some d.fields) None) (fields_in ds x)
    by true = refl
    by false = refl

fields_found : (x : List ℕ) (ds : List StructDef) (table : Named (List Field)) → lookup (bytes_eq x) (with_fields ds table) ≡ option_or (lookup (bytes_eq x) table) (fields_in ds x)
fields_found x [] table = sym (none_behind (lookup (bytes_eq x) table))
fields_found x (d ∷ ds) table =
    fields_found x ds (put_new d.tag d.fields table)
    ∙ ap (λ (o : Option (List Field)). option_or o (fields_in ds x)) (lookup_put x d.tag d.fields table)
    ∙ or_of_or (lookup (bytes_eq x) table) (cond (bytes_eq x d.tag) (Some d.fields) None) (fields_in ds x)
    ∙ ap (option_or (lookup (bytes_eq x) table)) (sym (first_fields x d ds))

lies_alike : (ds : List StructDef) (d : StructDef) → lies_otherwise_by (with_fields ds []) d ≡ lies_otherwise ds d
lies_alike ds d = ap (λ (o : Option (List Field)). option_map_or (λ fields. not (same_fields d.fields fields)) o false) (fields_found d.tag ds [])

structs_alike : (ds es : List StructDef) → structs_by (with_fields ds []) es ≡ map differs_at (filter (lies_otherwise ds) es)
structs_alike ds es = ap (map differs_at) (filter_alike (lies_otherwise_by (with_fields ds [])) (lies_otherwise ds) (lies_alike ds) es)

fields_in_parts : (ds es : List StructDef) (table : Named (List Field)) → with_fields (ds ++ es) table ≡ with_fields es (with_fields ds table)
fields_in_parts [] es table = refl
fields_in_parts (d ∷ ds) es table = fields_in_parts ds es (put_new d.tag d.fields table)

sources_alike : (first : Option Refusal) (ds : List StructDef) (us : List ClightUnit) → sources_by first (with_fields ds []) us ≡ first_from first (of_structs ds us)
sources_alike first ds [] = refl
sources_alike first ds (u ∷ us) =
    let here : List Refusal = map differs_at (filter (lies_otherwise ds) u.structs) in
    ap (λ (rs : List Refusal). sources_by (first_from first rs) (with_fields u.structs (with_fields ds [])) us) (structs_alike ds u.structs)
    ∙ ap (λ (t : Named (List Field)). sources_by (first_from first here) t us) (sym (fields_in_parts ds u.structs []))
    ∙ sources_alike (first_from first here) (ds ++ u.structs) us
    ∙ sym (in_parts first here (of_structs (ds ++ u.structs) us))

pub found_with_tables : (units : List ClightUnit) → sources_by None [] units ≡ struct_differs units
found_with_tables units = sources_alike None [] units
