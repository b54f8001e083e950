-- What a phrase is: the place of its first token, the name that it is, and what it reads as where a term or a type is
-- wanted.
use Rattle.std.specs.Prelude.{Option}
use Rattle.floyd_text.specs.declared.place.Place.{Place}
use Rattle.floyd_tree.specs.Plain.{Plain}
use Rattle.floyd_tree.specs.Types.{SizedType}
use Rattle.floyd_cparse_trees.specs.declared.types.Identifier.{Identifier}
use Rattle.floyd_termread_trees.specs.declared.written.Infix.{Infix}
use Rattle.floyd_termread_scope.specs.Scopes.{Env}
use Rattle.floyd_termread_wants.specs.declared.wants.Wanted.{Wanted}
use Rattle.floyd_termread_wants.specs.Judging.{Judged, cut_off}

pub record Sense : Type 0 where
  pub place : Place
  pub name : Option Identifier
  pub term : Env → Wanted → Judged Plain
  pub type : Env → Judged SizedType

-- an operator and the operand behind it
pub record LinkSense : Type 0 where
  pub op : Infix
  pub operand : Sense

abbrev pub no_term : Env → Wanted → Judged Plain
no_term env wanted = cut_off

abbrev pub no_type : Env → Judged SizedType
no_type env = cut_off
