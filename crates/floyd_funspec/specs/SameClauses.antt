-- The parts of the equality of two specifications up to bound names.
use Rattle.std.specs.Prelude.{◌≡◌}
use Rattle.floyd_truth.specs.Same.{Binders, SameTerm, SameUnder}
use Rattle.floyd_assert_trees.specs.declared.spec.Funspec.{Funspec}
use Rattle.floyd_assert_trees.specs.declared.spec.Postcondition.{Postcondition}
use Rattle.floyd_assert_trees.specs.declared.spec.Precondition.{Precondition}
use Rattle.floyd_assert_meaning.specs.Same.{Pairwise, SameOption, SamePart, SameType, with_binders}
use Rattle.floyd_assert_meaning.specs.Settings.{binder_sorts}

abbrev pub HeadsSame : Funspec → Funspec → Type 0
HeadsSame s t = (s.name ≡ t.name) × (binder_sorts s.with ≡ binder_sorts t.with)

abbrev pub TypesSame : Binders → Funspec → Funspec → Type 0
TypesSame around s t = Pairwise (SameType around) s.params t.params × SameType around s.result t.result

abbrev pub PresSame : Binders → Precondition → Precondition → Type 0
PresSame around a b = Pairwise (SameUnder around) a.props b.props × Pairwise (SameTerm around) a.params b.params × Pairwise (SamePart around) a.parts b.parts

abbrev pub EndsSame : Binders → Postcondition → Postcondition → Type 0
EndsSame around a b = Pairwise (SameUnder around) a.props b.props × SameOption around a.value b.value × Pairwise (SamePart around) a.parts b.parts

abbrev pub PostsSame : Binders → Postcondition → Postcondition → Type 0
PostsSame around a b = (binder_sorts a.existentials ≡ binder_sorts b.existentials) × EndsSame (with_binders around a.existentials b.existentials) a b
