-- Names that a script gives to new variables.
use Rattle.std.specs.Prelude.{ℕ, List}
use Rattle.floyd_text.specs.declared.code.Code.TheVariants as c
use Rattle.floyd_text.specs.declared.refusal.No.{No}
use Rattle.floyd_text.specs.declared.refusal.Shown.TheVariants.{Name}
use Rattle.floyd_tree_sorts.specs.declared.heads.Head.TheVariants.{Variable}
use Rattle.floyd_tree_sorts.specs.declared.sorts.Sort.{Sort}
use Rattle.floyd_tree.specs.Plain.{Plain, At, Done}

-- the name is that of a variable
abbrev pub taken : List ℕ → No
taken x = record { code = c.NameTaken; shown = Name x }

-- x of that sort as a term
abbrev pub variable : List ℕ → Sort → Plain
variable x s = At (Variable x s) Done
