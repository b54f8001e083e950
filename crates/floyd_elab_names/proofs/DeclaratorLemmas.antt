-- Declarators as the program has them.
use Rattle.std.proofs.Common.{◌≡◌, ◌&&◌, ◌||◌, is_some, List, Option, refl}
use denote.Hole.Carrier.{hidden}
use Rattle.floyd_text.specs.declared.place.Place.{Place}
use Rattle.floyd_cparse_trees.specs.declared.types.Base.TheBlock.{shape-the_row-Declarator-2, hidden-the_row-Declarator-2, shape-the_row-Parameter-3, hidden-the_row-Parameter-3}
use Rattle.floyd_cparse_trees.specs.declared.types.Declarator as d
use Rattle.floyd_cparse_trees.specs.declared.types.Literal.{Literal}
use Rattle.floyd_cparse_trees.specs.declared.types.Parameter.{Parameter}
use Rattle.floyd_cparse_trees.specs.declared.types.Star.{Star}
use Rattle.floyd_elab_names.specs.Refusals.{Site}
use Rattle.floyd_elab_names.specs.Declarators.{name_of, first_token, parenthesis, bracket, is_bare, has_sizes}

module _ (inner : d.Declarator) where
  pub name_in_parentheses : (place : Place) → name_of (d.Parenthesised place inner) ≡ name_of inner
  unfolding shape-the_row-Declarator-2 hidden-the_row-Declarator-2 hidden
  name_in_parentheses place = refl

  pub name_in_pointer : (stars : List Star) → name_of (d.Pointer stars inner) ≡ name_of inner
  unfolding shape-the_row-Declarator-2 hidden-the_row-Declarator-2 hidden
  name_in_pointer stars = refl

  pub name_in_array : (place : Place) (size : Option Literal) → name_of (d.Array inner place size) ≡ name_of inner
  unfolding shape-the_row-Declarator-2 hidden-the_row-Declarator-2 hidden
  name_in_array place size = refl

  pub name_in_function : (place : Place) (ps : List Parameter) → name_of (d.Function inner place ps) ≡ name_of inner
  unfolding shape-the_row-Declarator-2 hidden-the_row-Declarator-2 shape-the_row-Parameter-3 hidden-the_row-Parameter-3 hidden
  name_in_function place ps = refl

  pub first_in_array : (site : Site) (place : Place) (size : Option Literal) → first_token site (d.Array inner place size) ≡ first_token (bracket place) inner
  unfolding shape-the_row-Declarator-2 hidden-the_row-Declarator-2 hidden
  first_in_array site place size = refl

  pub first_in_function : (site : Site) (place : Place) (ps : List Parameter) → first_token site (d.Function inner place ps) ≡ first_token (parenthesis place) inner
  unfolding shape-the_row-Declarator-2 hidden-the_row-Declarator-2 shape-the_row-Parameter-3 hidden-the_row-Parameter-3 hidden
  first_in_function site place ps = refl

  pub bare_in_parentheses : (place : Place) → is_bare (d.Parenthesised place inner) ≡ is_bare inner
  unfolding shape-the_row-Declarator-2 hidden-the_row-Declarator-2 hidden
  bare_in_parentheses place = refl

  pub sizes_in_parentheses : (place : Place) → has_sizes (d.Parenthesised place inner) ≡ has_sizes inner
  unfolding shape-the_row-Declarator-2 hidden-the_row-Declarator-2 hidden
  sizes_in_parentheses place = refl

  pub sizes_in_pointer : (stars : List Star) → has_sizes (d.Pointer stars inner) ≡ has_sizes inner
  unfolding shape-the_row-Declarator-2 hidden-the_row-Declarator-2 hidden
  sizes_in_pointer stars = refl

  pub sizes_in_array : (place : Place) (size : Option Literal) → has_sizes (d.Array inner place size) ≡ ((is_some size || is_bare inner) && has_sizes inner)
  unfolding shape-the_row-Declarator-2 hidden-the_row-Declarator-2 hidden
  sizes_in_array place size = refl

  pub sizes_in_function : (place : Place) (ps : List Parameter) → has_sizes (d.Function inner place ps) ≡ has_sizes inner
  unfolding shape-the_row-Declarator-2 hidden-the_row-Declarator-2 shape-the_row-Parameter-3 hidden-the_row-Parameter-3 hidden
  sizes_in_function place ps = refl
