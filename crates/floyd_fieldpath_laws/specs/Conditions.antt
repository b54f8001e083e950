-- The condition under which paths are taken, and what is answered under it: a term of a sort, unless it is beyond the
-- limits.
use Rattle.std.specs.Prelude.{◌≡◌, List, All, Some, length, Result, Ok, Err}
use Rattle.floyd_text.specs.declared.refusal.No.{No}
use Rattle.floyd_tree_sorts.specs.declared.sorts.Sort.{Sort, Z}
use Rattle.floyd_tree_sorts.specs.Table.{arrays}
use Rattle.floyd_tree.specs.declared.paths.PathStep.{PathStep}
use Rattle.floyd_tree.specs.declared.paths.PathStep.TheVariants.{Field, Subscript}
use Rattle.floyd_tree.specs.Plain.{Plain}
use Rattle.floyd_tree.specs.Types.{SizedType}
use Rattle.floyd_tree.specs.WellSorted.{sort_of}
use Rattle.floyd_fieldpath.specs.Written.{too_large}

abbrev pub IsNumber : Plain → Type 0
IsNumber t = sort_of t ≡ Some Z

-- a size for each array of the type, and each a number
pub record HasSizes (t : SizedType) : Type 0 where
  pub count : length t.sizes ≡ arrays t.shape
  pub numbers : All IsNumber t.sizes

-- each subscript is a number
abbrev pub IsStep : PathStep → Type 0
IsStep (Field x) = Unit {0}
IsStep (Subscript i) = IsNumber i

abbrev pub IsPath : List PathStep → Type 0
IsPath path = All IsStep path

-- a term of that sort, or the refusal of one beyond the limits
abbrev pub Answers : Sort → Result Plain No → Type 0
Answers s (Ok t) = sort_of t ≡ Some s
Answers s (Err refusal) = refusal ≡ too_large
