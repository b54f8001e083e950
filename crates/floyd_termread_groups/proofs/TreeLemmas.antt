-- Written trees as the program has them.
use Rattle.std.proofs.Common.{◌≡◌, ℕ, List, map, [], ◌∷◌, Some, None, refl, ap, ◌∙◌, sym, Option}
use Rattle.floyd_cparse_trees.specs.declared.types.Identifier.{Identifier}
use Rattle.floyd_termread_trees.specs.declared.words.Word.{Word}
use Rattle.floyd_termread_groups.specs.declared.strengths.Level.{Level}
use denote.Hole.Carrier.{hidden}
use Rattle.floyd_text.specs.declared.place.Place.{Place}
use Rattle.floyd_termread_trees.specs.declared.written.Link.{Link}
use Rattle.floyd_termread_trees.specs.declared.written.Opening.{Opening}
use Rattle.floyd_termread_trees.specs.declared.written.Prefix.{Prefix}
use Rattle.floyd_termread_trees.specs.declared.written.Written as w
use Rattle.floyd_termread_trees.specs.declared.written.Written.TheBlock.{hidden-the_row-Written-0, items_hidden-the_row-Written-0, shape-the_row-Written-1, hidden-the_row-Written-1, hidden-the_row-Link-2, items_hidden-the_row-Link-2}
use Rattle.floyd_termread_groups.specs.declared.grouped.Grouped.{Grouped}
use Rattle.floyd_termread_groups.specs.declared.grouped.Grouped as g
use Rattle.floyd_termread_groups.specs.Groups.{Operand, Step, grouped, operand, operand_of, step_of, all_grouped, steps, row, alone}
use Rattle.floyd_termread_groups.specs.RowClauses.{step_at}
use Rattle.floyd_termread_groups.specs.Strengths.{table}
use Rattle.floyd_termread_groups.proofs.RowLemmas.{row_alone}

steps_items : {m : _} (row : w.Row_of-Link m) → steps row ≡ map step_at (w.items-the_row-Link m row)
steps_items w.end_of-Link = refl
steps_items (w.more_of-Link op place x rest) = ap (λ (l : List Step). step_of op place (operand x) ∷ l) (steps_items rest)

all_items : {m : _} (row : w.Row_of-Written m) → all_grouped row ≡ map grouped (w.items-the_row-Written m row)
all_items w.end_of-Written = refl
all_items (w.more_of-Written x rest) = ap (λ (l : List Grouped). grouped x ∷ l) (all_items rest)

pub grouped_chain : (x : w.Written) (links : List Link) → grouped (w.Chain x links) ≡ row table (operand x) (map step_at links)
unfolding shape-the_row-Written-1 hidden-the_row-Written-1 hidden
grouped_chain x links =
    row_alone (row table (operand x) (steps (hidden-the_row-Link-2 links)))
    ∙ ap (row table (operand x)) (steps_items (hidden-the_row-Link-2 links) ∙ ap (map step_at) (items_hidden-the_row-Link-2 links))

pub grouped_prefixed : (prefixes : List Prefix) (x : w.Written) → grouped (w.Prefixed prefixes x) ≡ row table (operand_of prefixes (grouped x)) []
unfolding shape-the_row-Written-1 hidden-the_row-Written-1 hidden
grouped_prefixed prefixes x = refl

pub operand_prefixed : (prefixes : List Prefix) (x : w.Written) → operand (w.Prefixed prefixes x) ≡ operand_of prefixes (grouped x)
unfolding shape-the_row-Written-1 hidden-the_row-Written-1 hidden
operand_prefixed prefixes x = refl

pub grouped_bracket : (opening : Opening) (place : Place) (items : List w.Written) (close : Option Place) → grouped (w.Bracket opening place items close) ≡ g.Bracket opening place (map grouped items) close
grouped_bracket opening place items close =
    row_alone (g.Bracket opening place (all_grouped (hidden-the_row-Written-0 items)) close)
    ∙ ap (λ (l : List Grouped). g.Bracket opening place l close) (all_items (hidden-the_row-Written-0 items) ∙ ap (map grouped) (items_hidden-the_row-Written-0 items))

-- what stands alone
pub is_alone : (x : w.Written) (y : Grouped) → operand x ≡ alone y → operand x ≡ operand_of [] (grouped x)
is_alone x y e = e ∙ sym (ap (λ (z : Grouped). alone z) (ap (λ (o : Operand). row table o []) e ∙ row_alone y))

pub other_operand : (x : w.Written) → ((prefixes : List Prefix) (y : w.Written) → x ≡ w.Prefixed prefixes y → ⊥) → operand x ≡ operand_of [] (grouped x)
unfolding shape-the_row-Written-1 hidden-the_row-Written-1 hidden
other_operand w.Missing h = is_alone w.Missing g.Missing refl
other_operand (w.Literal value place) h = is_alone (w.Literal value place) (g.Literal None value place) refl
other_operand (w.Name name) h = is_alone (w.Name name) (g.Name name) refl
other_operand (w.Word word place) h = is_alone (w.Word word place) (g.Word word place) refl
other_operand (w.Struct place tag) h = is_alone (w.Struct place tag) (g.Struct place tag) refl
other_operand (w.Field place name) h = is_alone (w.Field place name) (g.Field place name) refl
other_operand (w.Bracket' opening place shape items close) h = is_alone (w.Bracket' opening place shape items close) (g.Bracket opening place (all_grouped items) close) refl
other_operand (w.Prefixed' prefixes p (w.more_of-Written x w.end_of-Written)) h = absurd (h prefixes x refl)
other_operand (w.Chain' p (w.more_of-Written x w.end_of-Written) shape links) h = is_alone (w.Chain' p (w.more_of-Written x w.end_of-Written) shape links) (row table (operand x) (steps links)) refl

-- what the program makes of each
module _ (tree : w.Written) where
  pub literal_is : (value : ℕ) (place : Place) → tree ≡ w.Literal value place → g.Literal None value place ≡ grouped tree
  literal_is value place is = sym (ap grouped is ∙ row_alone (g.Literal None value place))

  pub missing_is : tree ≡ w.Missing → g.Missing ≡ grouped tree
  missing_is is = sym (ap grouped is ∙ row_alone g.Missing)

  pub word_is : (word : Word) (place : Place) → tree ≡ w.Word word place → g.Word word place ≡ grouped tree
  word_is word place is = sym (ap grouped is ∙ row_alone (g.Word word place))

  pub name_is : (name copy : Identifier) → tree ≡ w.Name name → copy ≡ name → g.Name copy ≡ grouped tree
  name_is name copy is same = ap (λ (x : Identifier). g.Name x) same ∙ sym (ap grouped is ∙ row_alone (g.Name name))

  pub struct_is : (place : Place) (tag copy : Identifier) → tree ≡ w.Struct place tag → copy ≡ tag → g.Struct place copy ≡ grouped tree
  struct_is place tag copy is same = ap (λ (x : Identifier). g.Struct place x) same ∙ sym (ap grouped is ∙ row_alone (g.Struct place tag))

  pub field_is : (place : Place) (name copy : Identifier) → tree ≡ w.Field place name → copy ≡ name → g.Field place copy ≡ grouped tree
  field_is place name copy is same = ap (λ (x : Identifier). g.Field place x) same ∙ sym (ap grouped is ∙ row_alone (g.Field place name))

  pub bracket_is : (opening opens : Opening) (place : Place) (items x_items : List w.Written) (all : List Grouped) (close : Option Place) → tree ≡ w.Bracket opening place items close → opens ≡ opening → x_items ≡ items → all ≡ map grouped x_items
      → g.Bracket opens place all close ≡ grouped tree
  bracket_is opening opens place items x_items all close is same_opening same_items made =
      ap (λ (o : Opening). g.Bracket o place all close) same_opening
      ∙ ap (λ (l : List Grouped). g.Bracket opening place l close) (made ∙ ap (map grouped) same_items)
      ∙ sym (ap grouped is ∙ grouped_bracket opening place items close)

  pub prefixed_is : (levels : List Level) (prefixes x_prefixes : List Prefix) (x x_x : w.Written) → tree ≡ w.Prefixed prefixes x → levels ≡ table → x_prefixes ≡ prefixes → x_x ≡ x
      → row levels (operand_of x_prefixes (grouped x_x)) (map step_at []) ≡ grouped tree
  prefixed_is levels prefixes x_prefixes x x_x is same_levels same_prefixes same =
      ap (λ (l : List Level). row l (operand_of x_prefixes (grouped x_x)) []) same_levels
      ∙ ap (λ (l : List Prefix). row table (operand_of l (grouped x_x)) []) same_prefixes
      ∙ ap (λ (y : w.Written). row table (operand_of prefixes (grouped y)) []) same
      ∙ sym (ap grouped is ∙ grouped_prefixed prefixes x)

  pub chain_is : (levels : List Level) (x x_x : w.Written) (links x_links : List Link) → tree ≡ w.Chain x links → levels ≡ table → x_x ≡ x → x_links ≡ links
      → row levels (operand x_x) (map step_at x_links) ≡ grouped tree
  chain_is levels x x_x links x_links is same_levels same same_links =
      ap (λ (l : List Level). row l (operand x_x) (map step_at x_links)) same_levels
      ∙ ap (λ (y : w.Written). row table (operand y) (map step_at x_links)) same
      ∙ ap (λ (l : List Link). row table (operand x) (map step_at l)) same_links
      ∙ sym (ap grouped is ∙ grouped_chain x links)
