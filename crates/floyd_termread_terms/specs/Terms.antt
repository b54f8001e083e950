-- Terms and types, as the tree of their text has them.
use Rattle.std.specs.Prelude.{ℕ, List, [], ◌∷◌, Option, Some, None, Ok}
use Rattle.floyd_text.specs.declared.place.Place.{Place}
use Rattle.floyd_cparse_trees.specs.declared.types.Identifier.{Identifier}
use Rattle.floyd_tree_sorts.specs.declared.shape.Shape.{Struct}
use Rattle.floyd_tree.specs.Plain.{Plain}
use Rattle.floyd_tree.specs.Types.{SizedType}
use Rattle.floyd_termread_trees.specs.declared.words.Word.{Word}
use Rattle.floyd_termread_groups.specs.declared.grouped.Grouped as g
use Rattle.floyd_termread_groups.specs.declared.grouped.GroupedLink.{GroupedLink}
use Rattle.floyd_termread_scope.specs.Scopes.{Env}
use Rattle.floyd_termread_wants.specs.declared.wants.Wanted.{Wanted}
use Rattle.floyd_termread_wants.specs.Judging.{Judged}
use Rattle.floyd_termread_brackets.specs.Leaves.{number_place, signed_literal, variable, lone_term, lone_type, plain_type}
use Rattle.floyd_termread_terms.specs.Senses.{Sense, LinkSense, no_term, no_type}
use Rattle.floyd_termread_terms.specs.Brackets.{bracket}
use Rattle.floyd_termread_terms.specs.Rows.{row_sense, prefixed}

-- What stands alone.
abbrev pub nowhere : Place
nowhere = record { file = 0; line = 0; column = 0 }

abbrev pub missing : Sense
missing = record { place = nowhere; name = None; term = no_term; type = no_type }

abbrev pub literal_term : Option Place → ℕ → Place → Env → Wanted → Judged Plain
literal_term minus n place env wanted = signed_literal minus n place wanted

abbrev pub literal_sense : Option Place → ℕ → Place → Sense
literal_sense minus n place = record { place = number_place minus place; name = None; term = literal_term minus n place; type = no_type }

abbrev pub name_term : Identifier → Env → Wanted → Judged Plain
name_term i env wanted = variable env wanted i

abbrev pub name_sense : Identifier → Sense
name_sense i = record { place = i.place; name = Some i; term = name_term i; type = no_type }

abbrev pub word_term : Word → Place → Env → Wanted → Judged Plain
word_term x place env wanted = lone_term x place wanted

abbrev pub word_type : Word → Env → Judged SizedType
word_type x env = lone_type x

abbrev pub word_sense : Word → Place → Sense
word_sense x place = record { place = place; name = None; term = word_term x place; type = word_type x }

abbrev pub struct_type : Identifier → Env → Judged SizedType
struct_type tag env = Ok (plain_type (Struct tag.name))

abbrev pub struct_sense : Place → Identifier → Sense
struct_sense place tag = record { place = place; name = None; term = no_term; type = struct_type tag }

abbrev pub field_sense : Place → Sense
field_sense place = record { place = place; name = None; term = no_term; type = no_type }

-- What a phrase is, by what its parts are.
abbrev mutual
  pub sense_of : g.Grouped → Sense
  sense_of g.Missing = missing
  sense_of (g.Literal minus n place) = literal_sense minus n place
  sense_of (g.Name i) = name_sense i
  sense_of (g.Word x place) = word_sense x place
  sense_of (g.Struct place tag) = struct_sense place tag
  sense_of (g.Field place i) = field_sense place
  sense_of (g.Bracket' opening place shape items close) = bracket opening place (senses_of items) close
  sense_of (g.Prefixed' ps p (g.more_of-Grouped operand g.end_of-Grouped)) = prefixed ps (sense_of operand)
  sense_of (g.Row' strength p (g.more_of-Grouped first g.end_of-Grouped) shape links) = row_sense strength (sense_of first) (links_of links)

  pub senses_of : {n : _} → g.Row_of-Grouped n → List Sense
  senses_of g.end_of-Grouped = []
  senses_of (g.more_of-Grouped item rest) = sense_of item ∷ senses_of rest

  pub links_of : {n : _} → g.Row_of-GroupedLink n → List LinkSense
  links_of g.end_of-GroupedLink = []
  links_of (g.more_of-GroupedLink op place operand rest) = record { op = op; operand = sense_of operand } ∷ links_of rest

-- an operator and its operand, as the tree has them
abbrev pub link_of : GroupedLink → LinkSense
link_of link = record { op = link.«infix»; operand = sense_of link.operand }
