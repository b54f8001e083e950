-- Words of private clauses: parts of what Addresses and Flags define, as lists have them.
use Rattle.std.specs.Prelude.{ℕ, Bool, true, false, ◌||◌, List, [], ◌∷◌, ◌++◌}
use Rattle.floyd_cparse_trees.specs.declared.expressions.Prefix.{Prefix}
use Rattle.floyd_cparse_trees.specs.declared.expressions.Prefix.TheVariants as before
use Rattle.floyd_cparse_trees.specs.declared.expressions.PrefixOp.TheVariants.{Address}
use Rattle.floyd_cparse_trees.specs.declared.statements.BlockItem as i
use Rattle.floyd_cparse_trees.specs.declared.statements.SwitchCase.{SwitchCase}
use Rattle.floyd_elab_addresses.specs.Addresses.{in_statement, in_declarators}
use Rattle.floyd_elab_addresses.specs.Flags.{declarator_flags, statement_flags}

abbrev pub is_address : Prefix → Bool
is_address (before.Op Address place) = true
is_address p = false

-- in an item and in what comes behind it, `rest`
abbrev pub in_item : List ℕ → i.BlockItem → Bool → Bool
in_item x (i.Declaration d) rest = in_declarators x d.declarators rest
in_item x (i.Statement s) rest = in_statement x s || rest

abbrev pub in_all : List ℕ → List i.BlockItem → Bool
in_all x [] = false
in_all x (item ∷ items) = in_item x item (in_all x items)

abbrev pub flags_of_item : i.BlockItem → (List ℕ → Bool) → List Bool
flags_of_item (i.Declaration d) rest = declarator_flags d.declarators rest
flags_of_item (i.Statement s) rest = statement_flags s

abbrev pub flags_of_all : List i.BlockItem → List Bool
flags_of_all [] = []
flags_of_all (item ∷ items) = flags_of_item item (λ x. in_all x items) ++ flags_of_all items

-- in some of the cases of a switch
abbrev pub in_any_case : List ℕ → List SwitchCase → Bool
in_any_case x [] = false
in_any_case x (one ∷ cases) = in_statement x one.body || in_any_case x cases

abbrev pub flags_of_cases : List SwitchCase → List Bool
flags_of_cases [] = []
flags_of_cases (one ∷ cases) = statement_flags one.body ++ flags_of_cases cases
