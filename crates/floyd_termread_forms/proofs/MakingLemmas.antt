-- What is made of a formula, by its fault.
use Rattle.std.proofs.Common.{◌≡◌, Option, Some, None, Ok, Err, refl}
use Rattle.floyd_text.specs.declared.place.Place.{Place}
use Rattle.floyd_tree.specs.declared.stop.MakeStop.{MakeStop}
use Rattle.floyd_tree.specs.declared.stop.MakeStop.TheVariants.{IllSorted, TooLarge, Memory}
use Rattle.floyd_tree.specs.Formulas.{PlainFormula}
use Rattle.floyd_tree.specs.Made.{unless}
use Rattle.floyd_termread_wants.specs.Judging.{refuse}
use Rattle.floyd_termread_wants.specs.Refusals.{ill_sorted, too_large}
use Rattle.floyd_termread_forms.specs.Making.{without}

pub made_whole : (place : Place) (fault : Option MakeStop) (x y : PlainFormula) → unless fault x ≡ Ok y → without place x fault ≡ Ok y
made_whole place None x y e = cc
made_whole place (Some s) x y e = absurd cc

pub made_ill : (place : Place) (fault : Option MakeStop) (x : PlainFormula) → unless fault x ≡ Err IllSorted → without place x fault ≡ refuse (ill_sorted place)
made_ill place None x e = absurd cc
made_ill place (Some IllSorted) x e = refl
made_ill place (Some TooLarge) x e = absurd cc
made_ill place (Some Memory) x e = absurd cc

pub made_large : (place : Place) (fault : Option MakeStop) (x : PlainFormula) → unless fault x ≡ Err TooLarge → without place x fault ≡ refuse (too_large place)
made_large place None x e = absurd cc
made_large place (Some IllSorted) x e = absurd cc
made_large place (Some TooLarge) x e = refl
made_large place (Some Memory) x e = absurd cc
