-- Statements as the program has them, of whose parts contracts see the values.
use Rattle.std.proofs.Common.{◌≡◌, ℕ, ◌+◌, ◌<◌, Bool, ◌||◌, List, [], ◌∷◌, ◌++◌, length, get_or, drop, append_assoc, Option, refl, ap, sym, ◌∙◌}
use Rattle.std.proofs.lemmas.List.{drop_more}
use Rattle.floyd_text.specs.declared.place.Place.{Place}
use Rattle.floyd_cparse_trees.specs.declared.expressions.CExpr.{CExpr}
use Rattle.floyd_cparse_trees.specs.declared.statements.BlockItem as i
use Rattle.floyd_cparse_trees.specs.declared.statements.BlockItem.TheBlock.{hidden-the_row-BlockItem-0, items_hidden-the_row-BlockItem-0, hidden-the_row-CStatement-1, shown-the_row-CStatement-1, hidden-the_row-SwitchCase-2, items_hidden-the_row-SwitchCase-2}
use Rattle.floyd_cparse_trees.specs.declared.statements.CStatement as c
use Rattle.floyd_cparse_trees.specs.declared.statements.LocalDeclaration.{LocalDeclaration}
use Rattle.floyd_cparse_trees.specs.declared.statements.LocalDeclarator.{LocalDeclarator}
use Rattle.floyd_cparse_trees.specs.declared.statements.SwitchCase.{SwitchCase}
use denote.Hole.Carrier.{hidden, shown}
use Rattle.floyd_elab_addresses.specs.Addresses.{in_expression, in_option, in_declarators, in_statement, in_items, in_cases}
use Rattle.floyd_elab_addresses.specs.Flags.{declarator_flags, statement_flags, item_flags, case_flags, block_flags}
use Rattle.floyd_elab_addresses.specs.PartClauses.{in_item, in_all, in_any_case, flags_of_item, flags_of_all, flags_of_cases}
use Rattle.floyd_elab_addresses.specs.SetClauses.{is_among, Adds}
use Rattle.floyd_elab_addresses.proofs.Adding.{or-flip, adds_then}

-- the items of a block, in rows and in lists

pub in_items-all : (x : List ℕ) {m : _} (row : c.Row_of-BlockItem m) → in_items x row ≡ in_all x (c.items-the_row-BlockItem m row)
in_items-all x c.end_of-BlockItem = refl
in_items-all x (c.more_of-BlockItem (i.Declaration d) rest) = ap (in_declarators x d.declarators) (in_items-all x rest)
in_items-all x (c.more_of-BlockItem (i.Statement s) rest) = ap (λ b. in_statement x s || b) (in_items-all x rest)

pub item_flags-all : {m : _} (row : c.Row_of-BlockItem m) → item_flags row ≡ flags_of_all (c.items-the_row-BlockItem m row)
item_flags-all c.end_of-BlockItem = refl
item_flags-all (c.more_of-BlockItem (i.Declaration d) rest) =
    λ j. declarator_flags d.declarators (λ x. in_items-all x rest j) ++ item_flags-all rest j
item_flags-all (c.more_of-BlockItem (i.Statement s) rest) = ap (λ fs. statement_flags s ++ fs) (item_flags-all rest)

pub in-block : (x : List ℕ) (items : List i.BlockItem) → in_statement x (c.Block items) ≡ in_all x items
in-block x items = in_items-all x (hidden-the_row-BlockItem-0 items) ∙ ap (in_all x) (items_hidden-the_row-BlockItem-0 items)

pub flags-block : (items : List i.BlockItem) → block_flags items ≡ flags_of_all items
flags-block items = item_flags-all (hidden-the_row-BlockItem-0 items) ∙ ap flags_of_all (items_hidden-the_row-BlockItem-0 items)

-- the cases of a switch, in rows and in lists

in_cases-all : (x : List ℕ) {m : _} (row : c.Row_of-SwitchCase m) → in_cases x row ≡ in_any_case x (c.items-the_row-SwitchCase m row)
unfolding shown-the_row-CStatement-1 shown
in_cases-all x c.end_of-SwitchCase = refl
in_cases-all x (c.more_of-SwitchCase label p (c.more_of-CStatement body c.end_of-CStatement) rest) = ap (λ b. in_statement x body || b) (in_cases-all x rest)

case_flags-all : {m : _} (row : c.Row_of-SwitchCase m) → case_flags row ≡ flags_of_cases (c.items-the_row-SwitchCase m row)
unfolding shown-the_row-CStatement-1 shown
case_flags-all c.end_of-SwitchCase = refl
case_flags-all (c.more_of-SwitchCase label p (c.more_of-CStatement body c.end_of-CStatement) rest) = ap (λ fs. statement_flags body ++ fs) (case_flags-all rest)

pub in-switch : (x : List ℕ) (place : Place) (e : CExpr) (cases : List SwitchCase) → in_statement x (c.Switch place e cases) ≡ (in_expression x e || in_any_case x cases)
in-switch x place e cases = ap (λ b. in_expression x e || b) (in_cases-all x (hidden-the_row-SwitchCase-2 cases) ∙ ap (in_any_case x) (items_hidden-the_row-SwitchCase-2 cases))

pub flags-switch : (place : Place) (e : CExpr) (cases : List SwitchCase) → statement_flags (c.Switch place e cases) ≡ flags_of_cases cases
flags-switch place e cases = case_flags-all (hidden-the_row-SwitchCase-2 cases) ∙ ap flags_of_cases (items_hidden-the_row-SwitchCase-2 cases)

-- statements in statements

module _ (x : List ℕ) where
  pub in-if : (place : Place) (e : CExpr) (a : c.CStatement) → in_statement x (c.If place e a) ≡ (in_expression x e || in_statement x a)
  unfolding hidden-the_row-CStatement-1 hidden
  in-if place e a = refl

  pub in-if_else : (place : Place) (e : CExpr) (a b : c.CStatement) → in_statement x (c.IfElse place e a b) ≡ (in_expression x e || in_statement x a || in_statement x b)
  unfolding hidden-the_row-CStatement-1 hidden
  in-if_else place e a b = refl

  pub in-while : (place : Place) (e : CExpr) (a : c.CStatement) → in_statement x (c.While place e a) ≡ (in_expression x e || in_statement x a)
  unfolding hidden-the_row-CStatement-1 hidden
  in-while place e a = refl

  pub in-do : (a : c.CStatement) (place : Place) (e : CExpr) → in_statement x (c.Do a place e) ≡ (in_statement x a || in_expression x e)
  unfolding hidden-the_row-CStatement-1 hidden
  in-do a place e = refl

  pub in-for : (place : Place) (first e third : Option CExpr) (a : c.CStatement)
      → in_statement x (c.For place first e third a) ≡ (in_option x first || in_option x e || in_option x third || in_statement x a)
  unfolding hidden-the_row-CStatement-1 hidden
  in-for place first e third a = refl

pub flags-if : (place : Place) (e : CExpr) (a : c.CStatement) → statement_flags (c.If place e a) ≡ statement_flags a
unfolding hidden-the_row-CStatement-1 hidden
flags-if place e a = refl

pub flags-if_else : (place : Place) (e : CExpr) (a b : c.CStatement) → statement_flags (c.IfElse place e a b) ≡ statement_flags a ++ statement_flags b
unfolding hidden-the_row-CStatement-1 hidden
flags-if_else place e a b = refl

pub flags-while : (place : Place) (e : CExpr) (a : c.CStatement) → statement_flags (c.While place e a) ≡ statement_flags a
unfolding hidden-the_row-CStatement-1 hidden
flags-while place e a = refl

pub flags-do : (a : c.CStatement) (place : Place) (e : CExpr) → statement_flags (c.Do a place e) ≡ statement_flags a
unfolding hidden-the_row-CStatement-1 hidden
flags-do a place e = refl

pub flags-for : (place : Place) (first e third : Option CExpr) (a : c.CStatement) → statement_flags (c.For place first e third a) ≡ statement_flags a
unfolding hidden-the_row-CStatement-1 hidden
flags-for place first e third a = refl

-- flags before others: those of a statement that has one or two in it

pub flags_of_one : (whole one : c.CStatement) (f before : List Bool) → statement_flags whole ≡ statement_flags one → f ≡ statement_flags one ++ before → f ≡ statement_flags whole ++ before
flags_of_one whole one f before are h = h ∙ sym (ap (λ fs. fs ++ before) are)

pub flags_of_two : (whole one other : c.CStatement) (f g before : List Bool) → statement_flags whole ≡ statement_flags one ++ statement_flags other → g ≡ statement_flags other ++ before
    → f ≡ statement_flags one ++ g → f ≡ statement_flags whole ++ before
flags_of_two whole one other f g before are e h =
    h
    ∙ ap (λ fs. statement_flags one ++ fs) e
    ∙ sym (append_assoc (statement_flags one) (statement_flags other) before)
    ∙ sym (ap (λ fs. fs ++ before) are)

pub flags_of_switch : (whole : c.CStatement) (cases : List SwitchCase) (f before : List Bool) → statement_flags whole ≡ flags_of_cases cases → f ≡ flags_of_cases cases ++ before → f ≡ statement_flags whole ++ before
flags_of_switch whole cases f before are h = h ∙ sym (ap (λ fs. fs ++ before) are)

-- items

module _ (item : i.BlockItem) (d : LocalDeclaration) (ds : List LocalDeclarator) (is : item ≡ i.Declaration d) (has : ds ≡ d.declarators) where
  pub declaration_in : (before after : List (List ℕ)) → ((x : List ℕ) → is_among after x ≡ in_declarators x ds (is_among before x))
      → (x : List ℕ) → is_among after x ≡ in_item x item (is_among before x)
  declaration_in before after h x =
      h x ∙ ap (λ v. in_declarators x v (is_among before x)) has ∙ sym (ap (λ u. in_item x u (is_among before x)) is)

  pub declaration_flags : (rest : List ℕ → Bool) (f before : List Bool) → f ≡ declarator_flags ds rest ++ before → f ≡ flags_of_item item rest ++ before
  declaration_flags rest f before h =
      h ∙ ap (λ v. declarator_flags v rest ++ before) has ∙ sym (ap (λ u. flags_of_item u rest ++ before) is)

module _ (item : i.BlockItem) (s : c.CStatement) (is : item ≡ i.Statement s) where
  pub statement_in : (before after : List (List ℕ)) → Adds (λ x. in_statement x s) before after → (x : List ℕ) → is_among after x ≡ in_item x item (is_among before x)
  statement_in before after h x = h x ∙ sym (ap (λ u. in_item x u (is_among before x)) is)

  pub item_flags_of : (rest : List ℕ → Bool) (f before : List Bool) → f ≡ statement_flags s ++ before → f ≡ flags_of_item item rest ++ before
  item_flags_of rest f before h = h ∙ sym (ap (λ u. flags_of_item u rest ++ before) is)

-- One more of a list that is walked from its end: the j-th, before those from k = j + 1 on.

one_more : {A : Type 0} (all : List A) (k j : ℕ) (one : A) → j + 1 ≡ k → j < length all → one ≡ get_or all j one → drop j all ≡ one ∷ drop k all
one_more all k j one step within is = drop_more all j one within ∙ ap (λ v. v ∷ drop (j + 1) all) (sym is) ∙ ap (λ n. one ∷ drop n all) step

module _ (all : List i.BlockItem) (k j : ℕ) (one : i.BlockItem) (step : j + 1 ≡ k) (within : j < length all) (is : one ≡ get_or all j one) where
  one_item : drop j all ≡ one ∷ drop k all
  one_item = one_more all k j one step within is

  pub in_next_item : (x : List ℕ) (s t : Bool) → t ≡ in_item x one s → s ≡ in_all x (drop k all) → t ≡ in_all x (drop j all)
  in_next_item x s t e f = e ∙ ap (in_item x one) f ∙ sym (ap (in_all x) one_item)

  pub flags_next_item : (rest : List ℕ → Bool) (f g before : List Bool) → ((x : List ℕ) → rest x ≡ in_all x (drop k all))
      → f ≡ flags_of_item one rest ++ g → g ≡ flags_of_all (drop k all) ++ before → f ≡ flags_of_all (drop j all) ++ before
  flags_next_item rest f g before same e h =
      e
      ∙ (λ path. flags_of_item one (λ x. same x path) ++ h path)
      ∙ sym (append_assoc (flags_of_item one (λ x. in_all x (drop k all))) (flags_of_all (drop k all)) before)
      ∙ sym (ap (λ items. flags_of_all items ++ before) one_item)

module _ (all : List LocalDeclarator) (k j : ℕ) (one : LocalDeclarator) (step : j + 1 ≡ k) (within : j < length all) (is : one ≡ get_or all j one) where
  one_declarator : drop j all ≡ one ∷ drop k all
  one_declarator = one_more all k j one step within is

  pub in_next_declarator : (x : List ℕ) (s t rest : Bool) → t ≡ in_declarators x (one ∷ []) s → s ≡ in_declarators x (drop k all) rest → t ≡ in_declarators x (drop j all) rest
  in_next_declarator x s t rest e f = e ∙ ap (in_declarators x (one ∷ [])) f ∙ sym (ap (λ ds. in_declarators x ds rest) one_declarator)

  pub flags_next_declarator : (rest behind : List ℕ → Bool) (f g before : List Bool) → ((x : List ℕ) → behind x ≡ in_declarators x (drop k all) (rest x))
      → f ≡ declarator_flags (one ∷ []) behind ++ g → g ≡ declarator_flags (drop k all) rest ++ before → f ≡ declarator_flags (drop j all) rest ++ before
  flags_next_declarator rest behind f g before same e h =
      e
      ∙ (λ path. declarator_flags (one ∷ []) (λ x. same x path) ++ h path)
      ∙ sym (ap (λ ds. declarator_flags ds rest ++ before) one_declarator)

-- `body` is that of the case
module _ (all : List SwitchCase) (k j : ℕ) (one : SwitchCase) (step : j + 1 ≡ k) (within : j < length all) (is : one ≡ get_or all j one) (body : c.CStatement) (has : body ≡ one.body) where
  one_case : drop j all ≡ one ∷ drop k all
  one_case = one_more all k j one step within is

  pub in_next_case : (before now after : List (List ℕ)) → Adds (λ x. in_statement x body) now after → Adds (λ x. in_any_case x (drop k all)) before now
      → Adds (λ x. in_any_case x (drop j all)) before after
  in_next_case before now after here there =
      adds_then before now after (λ x. in_any_case x (drop k all)) (λ x. in_statement x body) (λ x. in_any_case x (drop j all))
      (λ x. ap (in_any_case x) one_case ∙ ap (λ (s : c.CStatement). in_statement x s || in_any_case x (drop k all)) (sym has) ∙ or-flip (in_statement x body) (in_any_case x (drop k all)))
      there here

  pub flags_next_case : (f g before : List Bool) → f ≡ statement_flags body ++ g → g ≡ flags_of_cases (drop k all) ++ before → f ≡ flags_of_cases (drop j all) ++ before
  flags_next_case f g before e h =
      e
      ∙ ap (λ fs. statement_flags body ++ fs) h
      ∙ sym (append_assoc (statement_flags body) (flags_of_cases (drop k all)) before)
      ∙ ap (λ (s : c.CStatement). (statement_flags s ++ flags_of_cases (drop k all)) ++ before) has
      ∙ sym (ap (λ cases. flags_of_cases cases ++ before) one_case)
