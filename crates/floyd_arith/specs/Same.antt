-- Whether two terms are the same tree.
use Rattle.std.specs.Prelude.{Bool, true, false, ◌&&◌, nat_eq}
use base.Stored.{Gv, gnil, gnum, gcons}
use Rattle.floyd_tree_sorts.specs.contracts.heads.Head as h
use Rattle.floyd_tree.specs.Code.{plain_code}
use Rattle.floyd_tree.specs.Plain.{Plain}

-- of codes of data
abbrev pub same_code : Gv → Gv → Bool
same_code gnil gnil = true
same_code (gnum m) (gnum n) = nat_eq m n
same_code (gcons a b) (gcons c d) = same_code a c && same_code b d
same_code a b = false

-- The codes of different terms differ.
unfoldable pub same_term : Plain → Plain → Bool
same_term a b = same_code ((plain_code h.the_row.coded).code a) ((plain_code h.the_row.coded).code b)
