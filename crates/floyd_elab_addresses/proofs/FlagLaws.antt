-- A walk in the order of the text that takes a flag for each declarator takes the one that is meant for it.
use Rattle.std.proofs.Common.{◌≡◌, ℕ, Bool, List, [], ◌∷◌, ◌++◌, append_assoc}
use Rattle.floyd_cparse_trees.specs.declared.statements.BlockItem as i
use Rattle.floyd_cparse_trees.specs.declared.statements.CStatement as c
use Rattle.floyd_cparse_trees.specs.declared.statements.LocalDeclarator.{LocalDeclarator}
use Rattle.floyd_elab_names.specs.Declarators.{name_of, name_or_none}
use Rattle.floyd_elab_addresses.specs.Addresses.{in_items}
use Rattle.floyd_elab_addresses.specs.Flags.{is_taken, declarator_flags, statement_flags, item_flags}
use Rattle.floyd_elab_addresses.specs.PartClauses.{in_all, flags_of_all}

-- Before declarators the flags are theirs and then `more`. The first is that of the first declarator, and those behind it
-- are the flags before the next one.
module _ (d : LocalDeclarator) (ds : List LocalDeclarator) (rest : List ℕ → Bool) (more flags : List Bool) (are : flags ≡ declarator_flags (d ∷ ds) rest ++ more) where
  pub first_flag : (flag : Bool) (behind : List Bool) → flags ≡ flag ∷ behind → flag ≡ is_taken d ds rest (name_or_none (name_of d.declarator))
  first_flag flag behind e = cc

  pub flags_behind : (flag : Bool) (behind : List Bool) → flags ≡ flag ∷ behind → behind ≡ declarator_flags ds rest ++ more
  flags_behind flag behind e = cc

  pub some_flag : flags ≡ [] → ⊥
  some_flag e = cc

-- the flags before the items of a block, by its first item
pub flags-declaration : {m : _} (d : _) (rest : c.Row_of-BlockItem m) (more : List Bool) → (item_flags (c.more_of-BlockItem (i.Declaration d) rest) ++ more)
    ≡ (declarator_flags d.declarators (λ x. in_items x rest) ++ (item_flags rest ++ more))
flags-declaration d rest more = append_assoc (declarator_flags d.declarators (λ x. in_items x rest)) (item_flags rest) more

pub flags-statement : {m : _} (s : c.CStatement) (rest : c.Row_of-BlockItem m) (more : List Bool) → (item_flags (c.more_of-BlockItem (i.Statement s) rest) ++ more)
    ≡ (statement_flags s ++ (item_flags rest ++ more))
flags-statement s rest more = append_assoc (statement_flags s) (item_flags rest) more

-- the same of the list of its items
pub flags-first_declaration : (d : _) (rest : List i.BlockItem) (more : List Bool) → (flags_of_all (i.Declaration d ∷ rest) ++ more)
    ≡ (declarator_flags d.declarators (λ x. in_all x rest) ++ (flags_of_all rest ++ more))
flags-first_declaration d rest more = append_assoc (declarator_flags d.declarators (λ x. in_all x rest)) (flags_of_all rest) more

pub flags-first_statement : (s : c.CStatement) (rest : List i.BlockItem) (more : List Bool) → (flags_of_all (i.Statement s ∷ rest) ++ more)
    ≡ (statement_flags s ++ (flags_of_all rest ++ more))
flags-first_statement s rest more = append_assoc (statement_flags s) (flags_of_all rest) more
