-- The refusals of names, sorts and sizes.
use Rattle.floyd_text.specs.declared.code.Code.TheVariants as c
use Rattle.floyd_text.specs.declared.place.Place.{Place}
use Rattle.floyd_text.specs.declared.refusal.Refusal.{Refusal}
use Rattle.floyd_text.specs.declared.refusal.Shown.TheVariants.{Nothing, Name}
use Rattle.floyd_text.specs.Refusals.{refusal_at}
use Rattle.floyd_cparse_trees.specs.declared.types.Identifier.{Identifier}

-- a name that stands for nothing of the kind, at it
abbrev pub unknown : Identifier → Refusal
unknown i = refusal_at c.UnknownName i.place (Name i.name)

abbrev pub ill_sorted : Place → Refusal
ill_sorted place = refusal_at c.IllSorted place Nothing

abbrev pub too_large : Place → Refusal
too_large place = refusal_at c.TermTooLarge place Nothing
