-- What typing refuses, each with its place and what it shows.
use Rattle.std.specs.Prelude.{ℕ, List}
use Rattle.floyd_text.specs.declared.code.Code.TheVariants as c
use Rattle.floyd_text.specs.declared.place.Place.{Place}
use Rattle.floyd_text.specs.declared.refusal.Refusal.{Refusal}
use Rattle.floyd_text.specs.declared.refusal.Shown.TheVariants.{Nothing, Name}
use Rattle.floyd_text.specs.Refusals.{refusal_at}
use Rattle.floyd_cparse_trees.specs.declared.types.Identifier.{Identifier}

-- a token that a refusal may stand at: its place and its text
pub record Site : Type 0 where
  pub place : Place
  pub text : List ℕ

abbrev pub site_of : Identifier → Site
site_of i = record { place = i.place; text = i.name }

-- a construct that is left out, as the address of a parameter, and a type that is too large or too deep
abbrev pub left_out : Site → Refusal
left_out site = refusal_at c.OutOfProfile site.place (Name site.text)

abbrev pub ill_typed : Place → Refusal
ill_typed place = refusal_at c.IllTyped place Nothing

abbrev pub undeclared : Identifier → Refusal
undeclared i = refusal_at c.Undeclared i.place (Name i.name)

abbrev pub redeclared : Identifier → Refusal
redeclared i = refusal_at c.Redeclared i.place (Name i.name)

-- an assignment, a step or a call inside an expression
abbrev pub nested_effect : Place → Refusal
nested_effect place = refusal_at c.NestedEffect place Nothing

-- a written cast that is left out
abbrev pub bad_cast : Place → Refusal
bad_cast place = refusal_at c.BadCast place Nothing
