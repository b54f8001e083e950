-- Terms and types that stand alone.
use Rattle.std.specs.Prelude.{ℕ, ◌^◌, Bool, true, false, nat_lt, if◌then◌else◌, is_some, ℤ, pos, neg_ℤ, [], Option, Some, None, option_and_then, Ok}
use Rattle.floyd_text.specs.declared.place.Place.{Place}
use Rattle.floyd_cparse_trees.specs.declared.types.Identifier.{Identifier}
use Rattle.floyd_tree_sorts.specs.declared.heads.Head.TheVariants as h
use Rattle.floyd_tree_sorts.specs.declared.shape.Shape.{Shape, Void, Int}
use Rattle.floyd_tree_sorts.specs.declared.sorts.Sort.{Sort}
use Rattle.floyd_tree_sorts.specs.Sorts.{item_sort, node_sort}
use Rattle.floyd_tree.specs.Plain.{Plain}
use Rattle.floyd_tree.specs.Types.{SizedType}
use Rattle.floyd_termread_trees.specs.declared.words.Word.{Word}
use Rattle.floyd_termread_trees.specs.declared.words.Word.TheVariants as word
use Rattle.floyd_termread_trees.specs.declared.words.TermWord.TheVariants as t
use Rattle.floyd_termread_trees.specs.declared.words.TypeWord.TheVariants as y
use Rattle.floyd_termread_scope.specs.Scopes.{Env}
use Rattle.floyd_termread_wants.specs.declared.wants.Wanted.{Wanted}
use Rattle.floyd_termread_wants.specs.Judging.{Judged, refuse, cut_off}
use Rattle.floyd_termread_wants.specs.Making.{placed, leaf}
use Rattle.floyd_termread_wants.specs.Refusals.{unknown, ill_sorted}
use Rattle.floyd_termread_wants.specs.Wants.{expected_at}

-- a number; none is as great as 2 ^ 126
abbrev pub number : Bool → ℕ → ℤ
number true n = neg_ℤ (pos n)
number false n = pos n

abbrev pub literal : Wanted → Place → Bool → ℕ → Judged Plain
literal wanted place minus n = if nat_lt n (2 ^ 126) then placed wanted place (leaf (h.Literal (number minus n))) else cut_off

abbrev pub variable_of : Wanted → Identifier → Option Sort → Judged Plain
variable_of wanted i None = refuse (unknown i)
variable_of wanted i (Some s) = placed wanted i.place (leaf (h.Variable i.name s))

abbrev pub variable : Env → Wanted → Identifier → Judged Plain
variable env wanted i = variable_of wanted i (env.variable i.name)

-- `nil` and `Leaf` need an expected sort
abbrev pub expected_list : Wanted → Option Sort
expected_list wanted = option_and_then item_sort (expected_at wanted)

abbrev pub expected_tree : Wanted → Option Sort
expected_tree wanted = option_and_then node_sort (expected_at wanted)

abbrev pub nil_of : Wanted → Place → Option Sort → Judged Plain
nil_of wanted place None = refuse (ill_sorted place)
nil_of wanted place (Some s) = placed wanted place (leaf (h.Nil s))

abbrev pub empty_tree_of : Wanted → Place → Option Sort → Judged Plain
empty_tree_of wanted place None = refuse (ill_sorted place)
empty_tree_of wanted place (Some s) = placed wanted place (leaf (h.Leaf s))

abbrev pub nil : Wanted → Place → Judged Plain
nil wanted place = nil_of wanted place (expected_list wanted)

abbrev pub empty_tree : Wanted → Place → Judged Plain
empty_tree wanted place = empty_tree_of wanted place (expected_tree wanted)

-- a number begins at its minus
abbrev pub number_place : Option Place → Place → Place
number_place None place = place
number_place (Some minus) place = minus

abbrev pub signed_literal : Option Place → ℕ → Place → Wanted → Judged Plain
signed_literal minus n place wanted = literal wanted (number_place minus place) (is_some minus) n

-- a word that stands alone
abbrev pub lone_term : Word → Place → Wanted → Judged Plain
lone_term (word.Term t.Nil) place wanted = nil wanted place
lone_term (word.Term t.Leaf) place wanted = empty_tree wanted place
lone_term (word.Term (t.Operator op)) place wanted = placed wanted place (leaf (h.Operator op))
lone_term other place wanted = cut_off

abbrev pub plain_type : Shape → SizedType
plain_type shape = record { shape = shape; sizes = [] }

abbrev pub lone_type : Word → Judged SizedType
lone_type (word.Type y.Void) = Ok (plain_type Void)
lone_type (word.Type (y.Int kind)) = Ok (plain_type (Int kind))
lone_type other = cut_off
