-- The precondition of main that MAIN_PRE stands for: each global variable with its initial contents.
use Rattle.std.specs.Prelude.{if◌then◌else◌, [], map, pos}
use Rattle.floyd_ctypes.specs.Structs.{Structs}
use Rattle.floyd_tree.specs.Made.{fits}
use Rattle.floyd_tree.specs.Plain.{Plain}
use Rattle.floyd_assert_trees.specs.declared.sep.Sep.{Sep}
use Rattle.floyd_assert_trees.specs.declared.spec.Precondition.{Precondition}
use Rattle.floyd_fieldpath.specs.Nested.{literal}
use Rattle.floyd_goal_forms.specs.Starts.{default_of, object_part}
use Rattle.floyd_goal_meaning.specs.declared.linked.Linked.{Linked}
use Rattle.floyd_goal_meaning.specs.declared.linked.LinkedVariable.{LinkedVariable}
use Rattle.floyd_links.specs.InitialTerms.{address_of, initial_term}

-- half of a variable that is read-only, and the whole of every other one
abbrev pub share_of : LinkedVariable → Plain
share_of v = literal (if v.read_only then pos 8 else pos 16)

-- the initial term, or the default value where that is beyond the limits
abbrev pub contents_term : Structs → LinkedVariable → Plain
contents_term structs v = if fits (initial_term structs v.ctype v.contents) then initial_term structs v.ctype v.contents else default_of structs v.ctype

abbrev pub variable_part : Structs → LinkedVariable → Sep
variable_part structs v = object_part (share_of v) v.ctype (contents_term structs v) (address_of v.name)

-- in link order
abbrev pub main_pre : Linked → Precondition
main_pre L = record { props = []; params = []; globals = []; parts = map (variable_part L.structs) L.variables }
