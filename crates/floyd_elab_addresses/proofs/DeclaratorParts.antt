-- A declarator around another one has its name.
use Rattle.std.proofs.Common.{◌≡◌, List, Option, refl}
use Rattle.floyd_text.specs.declared.place.Place.{Place}
use Rattle.floyd_cparse_trees.specs.declared.types.Base.TheBlock.{hidden-the_row-Declarator-2, hidden-the_row-Parameter-3}
use Rattle.floyd_cparse_trees.specs.declared.types.Declarator as d
use Rattle.floyd_cparse_trees.specs.declared.types.Literal.{Literal}
use Rattle.floyd_cparse_trees.specs.declared.types.Parameter.{Parameter}
use Rattle.floyd_cparse_trees.specs.declared.types.Star.{Star}
use denote.Hole.Carrier.{hidden}
use Rattle.floyd_elab_names.specs.Declarators.{name_of}

module _ (inner : d.Declarator) where
  pub name_of-parenthesised : (place : Place) → name_of (d.Parenthesised place inner) ≡ name_of inner
  unfolding hidden-the_row-Declarator-2 hidden
  name_of-parenthesised place = refl

  pub name_of-pointer : (stars : List Star) → name_of (d.Pointer stars inner) ≡ name_of inner
  unfolding hidden-the_row-Declarator-2 hidden
  name_of-pointer stars = refl

  pub name_of-array : (place : Place) (size : Option Literal) → name_of (d.Array inner place size) ≡ name_of inner
  unfolding hidden-the_row-Declarator-2 hidden
  name_of-array place size = refl

  pub name_of-function : (place : Place) (parameters : List Parameter) → name_of (d.Function inner place parameters) ≡ name_of inner
  unfolding hidden-the_row-Declarator-2 hidden-the_row-Parameter-3 hidden
  name_of-function place parameters = refl
