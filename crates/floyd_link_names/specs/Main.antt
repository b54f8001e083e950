-- What is asked of main: `int main(void)` with a body, whose precondition is MAIN_PRE.
use Rattle.std.specs.Prelude.{Bool, true, false, ◌&&◌, not, ℕ, List, [], ◌∷◌, map, filter, Option, Some, None, bytes_eq, codes, if◌then◌else◌}
use Rattle.std.specs.List.{flat_map, list_any}
use Rattle.floyd_int.specs.declared.kinds.IntKind.TheVariants.{I32}
use Rattle.floyd_text.specs.Refusals.{refusal_at}
use Rattle.floyd_text.specs.declared.code.Code.TheVariants.{MainPreMissing, NoMain}
use Rattle.floyd_text.specs.Place.{first_place}
use Rattle.floyd_text.specs.declared.refusal.Refusal.{Refusal}
use Rattle.floyd_text.specs.declared.refusal.Shown.TheVariants.{Nothing}
use Rattle.floyd_ctypes.specs.declared.ctype.CType.{Int}
use Rattle.floyd_clight.specs.declared.unit.ClightUnit.{ClightUnit}
use Rattle.floyd_clight.specs.declared.unit.Defined.{Defined}
use Rattle.floyd_clight.specs.declared.unit.Local.{Local}
use Rattle.floyd_elab_names.specs.Types.{same_type}
use Rattle.floyd_specread_trees.specs.Views.{is_by}
use Rattle.floyd_specread_trees.specs.declared.declarations.Declaration.{Declaration}
use Rattle.floyd_specread_trees.specs.declared.modules.ModuleSpec.{ModuleSpec}
use Rattle.floyd_link_names.specs.Duplicates.{first_from}

abbrev pub main : List ℕ
main = codes "main"

abbrev pub is_empty : List Local → Bool
is_empty [] = true
is_empty (p ∷ ps) = false

-- int main(void)
abbrev pub is_main : Defined → Bool
is_main d = bytes_eq main d.name && (is_empty d.parameters && same_type d.result (Int I32))

abbrev pub has_main : List ClightUnit → Bool
has_main units = list_any (λ (u : ClightUnit). list_any is_main u.defined) units

abbrev pub no_main : List ClightUnit → Option Refusal
no_main units = if has_main units then None else Some (refusal_at NoMain (first_place 0) Nothing)

-- a declaration of main with a precondition of its own, which is no import with a specification of its own
abbrev pub is_other_main : Declaration → Bool
is_other_main d = bytes_eq main d.name && (not (is_by d.kind) && not d.main_pre)

abbrev pub other_main_at : Declaration → Refusal
other_main_at d = refusal_at MainPreMissing d.place Nothing

-- at the name in such a declaration
abbrev pub main_pre_missing : List ModuleSpec → Option Refusal
main_pre_missing modules = first_from None (flat_map (λ (m : ModuleSpec). map other_main_at (filter is_other_main m.declarations)) modules)
