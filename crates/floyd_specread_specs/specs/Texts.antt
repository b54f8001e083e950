-- Texts of specifications as specifications. MAIN_PRE is written out when the program is linked; until then its precondition is
-- empty.
use Rattle.std.specs.Prelude.{ℕ, Bool, true, false, List, [], Option}
use Rattle.floyd_assert_trees.specs.declared.spec.Funspec.{Funspec}
use Rattle.floyd_assert_trees.specs.declared.spec.Precondition.{Precondition}
use Rattle.floyd_specread_specs.specs.declared.text.PreText.{PreText}
use Rattle.floyd_specread_specs.specs.declared.text.PreText.TheVariants.{Main, Written}
use Rattle.floyd_specread_specs.specs.declared.text.SpecText.{SpecText}

abbrev pub empty : Precondition
empty = record { props = []; params = []; globals = []; parts = [] }

-- and whether it is MAIN_PRE
abbrev pub precondition_of : PreText → Precondition × Bool
precondition_of Main = (empty, true)
precondition_of (Written pre) = (pre, false)

abbrev pub funspec_of : Option (List ℕ) → SpecText → Funspec × Bool
funspec_of name t =
    (record { name = name; with = t.with; params = t.params; result = t.result; pre = (precondition_of t.pre).0; post = t.post }, (precondition_of t.pre).1)
