-- The share of a part of memory, and the part with another share.
use Rattle.std.specs.Prelude.{Result, Ok, Err}
use Rattle.floyd_text.specs.declared.refusal.No.{No}
use Rattle.floyd_tree.specs.Plain.{Plain}
use Rattle.floyd_assert_trees.specs.declared.sep.Region.{Region}
use Rattle.floyd_assert_trees.specs.declared.sep.Sep.{Sep}
use Rattle.floyd_assert_trees.specs.declared.sep.Sep.TheVariants.{FieldAt, Padding, Valid, Anything, Predicate}
use Rattle.floyd_goal.specs.Goals.{wrong_goal}

abbrev pub shared : Region → Plain → Region
shared region s = record { share = s; ty = region.ty; path = region.path; root = region.root }

-- the share of an object or of padding
abbrev pub share_of : Sep → Result Plain No
share_of (FieldAt region value) = Ok region.share
share_of (Padding region) = Ok region.share
share_of (Valid address) = Err wrong_goal
share_of Anything = Err wrong_goal
share_of (Predicate name terms) = Err wrong_goal

abbrev pub with_share : Sep → Plain → Sep
with_share (FieldAt region value) s = FieldAt (shared region s) value
with_share (Padding region) s = Padding (shared region s)
with_share (Valid address) s = Valid address
with_share Anything s = Anything
with_share (Predicate name terms) s = Predicate name terms
