-- Where declarators make a type const, as the program has them.
use Rattle.std.proofs.Common.{◌≡◌, ℕ, ◌-◌, ◌≤◌, List, [], ◌∷◌, length, get_or, Option, None, refl, ap, sym, ◌∙◌, suc, arith}
use denote.Hole.Carrier.{hidden}
use Rattle.floyd_text.specs.declared.place.Place.{Place}
use Rattle.floyd_cparse_trees.specs.declared.types.Base.TheBlock.{shape-the_row-Declarator-2, hidden-the_row-Declarator-2, shape-the_row-Parameter-3, hidden-the_row-Parameter-3}
use Rattle.floyd_cparse_trees.specs.declared.types.Declarator as d
use Rattle.floyd_cparse_trees.specs.declared.types.Literal.{Literal}
use Rattle.floyd_cparse_trees.specs.declared.types.Parameter.{Parameter}
use Rattle.floyd_cparse_trees.specs.declared.types.Star.{Star}
use Rattle.floyd_elab_names.specs.Refusals.{Site}
use Rattle.floyd_elab_data.specs.Constant.{const_at, constant_star, constant_declarator}

module _ (outer : Option Site) (inner : d.Declarator) where
  pub const_in_parentheses : (place : Place) → constant_declarator outer (d.Parenthesised place inner) ≡ constant_declarator outer inner
  unfolding shape-the_row-Declarator-2 hidden-the_row-Declarator-2 hidden
  const_in_parentheses place = refl

  pub const_in_pointer : (stars : List Star) → constant_declarator outer (d.Pointer stars inner) ≡ constant_declarator (constant_star outer stars) inner
  unfolding shape-the_row-Declarator-2 hidden-the_row-Declarator-2 hidden
  const_in_pointer stars = refl

  pub const_in_array : (place : Place) (size : Option Literal) → constant_declarator outer (d.Array inner place size) ≡ constant_declarator outer inner
  unfolding shape-the_row-Declarator-2 hidden-the_row-Declarator-2 hidden
  const_in_array place size = refl

  pub const_in_function : (place : Place) (ps : List Parameter) → constant_declarator outer (d.Function inner place ps) ≡ constant_declarator None inner
  unfolding shape-the_row-Declarator-2 hidden-the_row-Declarator-2 shape-the_row-Parameter-3 hidden-the_row-Parameter-3 hidden
  const_in_function place ps = refl

-- the last star counts
pub star_last : (outer : Option Site) (stars : List Star) (s : Star) → 1 ≤ length stars → constant_star outer stars ≡ const_at (get_or stars (length stars - 1) s).constant
star_last outer [] s h = absurd (omega arith)
star_last outer (t ∷ []) s h = refl
star_last outer (t ∷ u ∷ us) s h =
    let before : length (u ∷ us) - 1 ≡ length us = omega arith in
    let last : length (t ∷ u ∷ us) - 1 ≡ suc (length us) = omega arith in
    star_last (const_at t.constant) (u ∷ us) s (omega arith)
    ∙ ap (λ (i : ℕ). const_at (get_or (u ∷ us) i s).constant) before
    ∙ sym (ap (λ (i : ℕ). const_at (get_or (t ∷ u ∷ us) i s).constant) last)
