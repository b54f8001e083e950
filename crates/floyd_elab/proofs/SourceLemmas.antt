-- A whole source.
use Rattle.std.proofs.Common.{◌≡◌, List, Ok, ap, sym, ◌∙◌}
use Rattle.floyd_text.specs.declared.refusal.Halt.{Halt}
use Rattle.floyd_text.specs.declared.refusal.Halt.TheVariants.{Refused, Memory}
use Rattle.floyd_text.specs.Gives.{Stops}
use Rattle.floyd_cparse_trees.specs.declared.declarations.CUnit.{CUnit}
use Rattle.floyd_cparse_trees.specs.declared.declarations.External.{External}
use Rattle.floyd_clight.specs.declared.unit.ClightUnit.{ClightUnit}
use Rattle.floyd_elab.specs.declared.file.File.{File}
use Rattle.floyd_elab.specs.Units.{elaborate_externals, empty_file, unit_of, unit_in, elaboration}

module _ (unit : CUnit) (externals : List External) (file : File) (all : externals ≡ unit.externals) (none : file ≡ empty_file) where
  from_none : elaborate_externals externals file ≡ elaborate_externals unit.externals empty_file
  from_none = ap (λ (es : List External). elaborate_externals es file) all ∙ ap (elaborate_externals unit.externals) none

  pub elaborated_stops : (halt : Halt) → Stops halt (elaborate_externals externals file) → Stops halt (elaboration unit)
  elaborated_stops Memory e = tt
  elaborated_stops (Refused refusal) e = ap unit_in (sym from_none ∙ e)

  pub elaborated_gives : (last : File) (answer : ClightUnit) → elaborate_externals externals file ≡ Ok (tt, last) → answer ≡ unit_of last → elaboration unit ≡ Ok answer
  elaborated_gives last answer e is = ap unit_in (sym from_none ∙ e) ∙ sym (ap (λ (u : ClightUnit). Ok u) is)
