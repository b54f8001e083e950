-- For each declared local variable, in the order of the text, whether `&` is applied to it where it is in scope.
use Rattle.std.specs.Prelude.{ℕ, Bool, ◌||◌, List, [], ◌∷◌, ◌++◌}
use Rattle.floyd_cparse_trees.specs.declared.statements.BlockItem as i
use Rattle.floyd_cparse_trees.specs.declared.statements.CStatement as c
use Rattle.floyd_cparse_trees.specs.declared.statements.LocalDeclarator.{LocalDeclarator}
use Rattle.floyd_elab_names.specs.Declarators.{name_of, name_or_none}
use Rattle.floyd_elab_addresses.specs.Addresses.{in_initialiser, in_declarators, in_items}

-- whether the address of that name is taken in its own initialiser, in the declarators behind it, or in what comes behind
-- them, of which `rest` says it
abbrev pub is_taken : LocalDeclarator → List LocalDeclarator → (List ℕ → Bool) → List ℕ → Bool
is_taken d ds rest x = in_initialiser x d.initialiser || in_declarators x ds (rest x)

abbrev pub declarator_flags : List LocalDeclarator → (List ℕ → Bool) → List Bool
declarator_flags [] rest = []
declarator_flags (d ∷ ds) rest = is_taken d ds rest (name_or_none (name_of d.declarator)) ∷ declarator_flags ds rest

abbrev mutual
  pub statement_flags : c.CStatement → List Bool
  statement_flags (c.Block' shape items) = item_flags items
  statement_flags (c.If' place e p (c.more_of-CStatement a c.end_of-CStatement)) = statement_flags a
  statement_flags (c.IfElse' place e p (c.more_of-CStatement a c.end_of-CStatement) q (c.more_of-CStatement b c.end_of-CStatement)) =
      statement_flags a ++ statement_flags b
  statement_flags (c.While' place e p (c.more_of-CStatement body c.end_of-CStatement)) = statement_flags body
  statement_flags (c.Do' p (c.more_of-CStatement body c.end_of-CStatement) place e) = statement_flags body
  statement_flags (c.For' place first e third p (c.more_of-CStatement body c.end_of-CStatement)) = statement_flags body
  statement_flags (c.Switch' place e shape cases) = case_flags cases
  statement_flags s = []

  pub item_flags : {m : _} → c.Row_of-BlockItem m → List Bool
  item_flags c.end_of-BlockItem = []
  item_flags (c.more_of-BlockItem (i.Declaration d) rest) = declarator_flags d.declarators (λ x. in_items x rest) ++ item_flags rest
  item_flags (c.more_of-BlockItem (i.Statement s) rest) = statement_flags s ++ item_flags rest

  pub case_flags : {m : _} → c.Row_of-SwitchCase m → List Bool
  case_flags c.end_of-SwitchCase = []
  case_flags (c.more_of-SwitchCase label p (c.more_of-CStatement body c.end_of-CStatement) rest) = statement_flags body ++ case_flags rest

-- those of the block that has these items
abbrev pub block_flags : List i.BlockItem → List Bool
block_flags items = statement_flags (c.Block items)
