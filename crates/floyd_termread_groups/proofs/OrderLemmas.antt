-- Grouping keeps the order of the text.
use Rattle.std.proofs.Common.{◌≡◌, ℕ, suc, ◌-◌, Bool, true, false, ◌||◌, List, [], ◌∷◌, ◌++◌, length, map, take, drop, refl, sym, ◌∙◌, ap, true≢false, append_assoc, append-nil, arith}
use Rattle.std.specs.Prelude.{Option, Some, None}
use Rattle.std.specs.List.{prefix_len}
use Rattle.std.proofs.lemmas.List.{map-append, take-append-drop}
use denote.Hole.Carrier.{hidden}
use Rattle.floyd_text.specs.declared.place.Place.{Place}
use Rattle.floyd_termread_trees.specs.declared.written.Infix.{Infix}
use Rattle.floyd_termread_trees.specs.declared.written.Infix.TheVariants as i
use Rattle.floyd_termread_trees.specs.declared.written.Opening.{Opening}
use Rattle.floyd_termread_trees.specs.declared.written.Prefix.{Prefix}
use Rattle.floyd_termread_trees.specs.declared.written.Prefix.TheVariants as prefix
use Rattle.floyd_termread_trees.specs.declared.written.Written as w
use Rattle.floyd_termread_groups.specs.declared.grouped.Grouped.{Grouped}
use Rattle.floyd_termread_groups.specs.declared.grouped.Grouped as g
use Rattle.floyd_termread_groups.specs.declared.grouped.Grouped.TheBlock.{hidden-the_row-Grouped-0, items_hidden-the_row-Grouped-0, shape-the_row-Grouped-1, hidden-the_row-Grouped-1, hidden-the_row-GroupedLink-2, items_hidden-the_row-GroupedLink-2}
use Rattle.floyd_termread_groups.specs.declared.grouped.GroupedLink.{GroupedLink}
use Rattle.floyd_termread_groups.specs.declared.grouped.Strength.{Strength}
use Rattle.floyd_termread_groups.specs.declared.strengths.Level.{Level}
use Rattle.floyd_termread_groups.specs.declared.strengths.Level.TheVariants as level
use Rattle.floyd_termread_groups.specs.Strengths.{has_strength, table}
use Rattle.floyd_termread_groups.specs.Groups.{Operand, Step, prefixed, of_formula, of_term, is_of_formula, sign, all_but_last, number, plain_number, with_sign, signed, until, parts, joined, link, row, operand, all_grouped, steps}
use Rattle.floyd_termread_groups.specs.Order.{Piece, Number, Opens, Closes, Before, Between, text_of, texts_of, text_of_links, shown, all_shown, links_shown, KeepsOrder}

-- What operands, steps and links show.
abbrev operand_shown : Operand → List Piece
operand_shown x = map Before x.prefixes ++ shown x.atom

abbrev steps_shown : List Step → List Piece
steps_shown [] = []
steps_shown (x ∷ xs) = Between x.op x.place ∷ (operand_shown x.operand ++ steps_shown xs)

abbrev list_shown : List GroupedLink → List Piece
list_shown [] = []
list_shown (x ∷ xs) = Between x.«infix» x.place ∷ (shown x.operand ++ list_shown xs)

abbrev items_shown : List Grouped → List Piece
items_shown [] = []
items_shown (x ∷ xs) = shown x ++ items_shown xs

links_items : {m : _} (row : g.Row_of-GroupedLink m) → links_shown row ≡ list_shown (g.items-the_row-GroupedLink m row)
links_items g.end_of-GroupedLink = refl
links_items (g.more_of-GroupedLink op place x rest) = ap (λ (l : List Piece). Between op place ∷ (shown x ++ l)) (links_items rest)

all_items : {m : _} (row : g.Row_of-Grouped m) → all_shown row ≡ items_shown (g.items-the_row-Grouped m row)
all_items g.end_of-Grouped = refl
all_items (g.more_of-Grouped x rest) = ap (λ (l : List Piece). shown x ++ l) (all_items rest)

shown_row : (strength : Strength) (x : Grouped) (links : List GroupedLink) → shown (g.Row strength x links) ≡ shown x ++ list_shown links
unfolding shape-the_row-Grouped-1 hidden-the_row-Grouped-1 hidden
shown_row strength x links = ap (λ (l : List Piece). shown x ++ l) (links_items (hidden-the_row-GroupedLink-2 links) ∙ ap list_shown (items_hidden-the_row-GroupedLink-2 links))

shown_prefixed : (prefixes : List Prefix) (x : Grouped) → shown (g.Prefixed prefixes x) ≡ map Before prefixes ++ shown x
unfolding shape-the_row-Grouped-1 hidden-the_row-Grouped-1 hidden
shown_prefixed prefixes x = refl

shown_bracket : (opening : Opening) (place : Place) (items : List Grouped) (close : Option Place) → shown (g.Bracket opening place items close) ≡ Opens opening place ∷ (items_shown items ++ Closes close ∷ [])
shown_bracket opening place items close =
    ap (λ (l : List Piece). Opens opening place ∷ (l ++ Closes close ∷ [])) (all_items (hidden-the_row-Grouped-0 items) ∙ ap items_shown (items_hidden-the_row-Grouped-0 items))

prefixed_shown : (prefixes : List Prefix) (x : Grouped) → shown (prefixed prefixes x) ≡ map Before prefixes ++ shown x
prefixed_shown [] x = refl
prefixed_shown (p ∷ ps) x = shown_prefixed (p ∷ ps) x

joined_shown : (strength : Strength) (x : Grouped) (links : List GroupedLink) → shown (joined strength x links) ≡ shown x ++ list_shown links
joined_shown strength x [] = sym (append-nil (shown x))
joined_shown strength x (y ∷ ys) = shown_row strength x (y ∷ ys)

-- A "-" that is part of a number.
last_is : (ps : List Prefix) (at : Place) → sign ps ≡ Some at → ps ≡ all_but_last ps ++ prefix.Minus at ∷ []
last_is [] at e = absurd cc
last_is (prefix.Minus place ∷ []) at e = let same : place ≡ at = cc in ap (λ (x : Place). prefix.Minus x ∷ []) same
last_is (prefix.Not place ∷ []) at e = absurd cc
last_is (prefix.Forall place binders ∷ []) at e = absurd cc
last_is (prefix.Exists place binders ∷ []) at e = absurd cc
last_is (p ∷ q ∷ ps) at e =
    let count : length (p ∷ q ∷ ps) - 1 ≡ suc (length (q ∷ ps) - 1) = omega arith in
    rw count (ap (λ (l : List Prefix). p ∷ l) (last_is (q ∷ ps) at e))

number_shown : (o : Option Place) (ps : List Prefix) (value : ℕ) (place : Place) → sign ps ≡ o → shown (number o ps value place) ≡ map Before ps ++ Number value place ∷ []
number_shown None ps value place e = prefixed_shown ps (g.Literal None value place)
number_shown (Some at) ps value place e =
    prefixed_shown (all_but_last ps) (g.Literal (Some at) value place)
    ∙ sym (append_assoc (map Before (all_but_last ps)) (Before (prefix.Minus at) ∷ []) (Number value place ∷ []))
    ∙ ap (λ (l : List Piece). l ++ Number value place ∷ []) (sym (map-append Before (all_but_last ps) (prefix.Minus at ∷ [])) ∙ ap (map Before) (sym (last_is ps at e)))

plain_is : (x : Grouped) (value : ℕ) (place : Place) → plain_number x ≡ Some (value, place) → x ≡ g.Literal None value place
plain_is (g.Literal None v at) value place e =
    let pair : (v, at) ≡ (value, place) = cc in
    ap (λ (p : ℕ × Place). g.Literal None p.0 p.1) pair
plain_is (g.Literal (Some minus) v at) value place e = absurd cc
plain_is g.Missing value place e = absurd cc
plain_is (g.Name name) value place e = absurd cc
plain_is (g.Word word at) value place e = absurd cc
plain_is (g.Struct at tag) value place e = absurd cc
plain_is (g.Field at name) value place e = absurd cc
plain_is (g.Bracket' opening at shape items close) value place e = absurd cc
plain_is (g.Prefixed' prefixes p x) value place e = absurd cc
plain_is (g.Row' strength p x shape links) value place e = absurd cc

with_shown : (o : Option (ℕ × Place)) (ps : List Prefix) (x : Grouped) → plain_number x ≡ o → shown (with_sign o ps x) ≡ map Before ps ++ shown x
with_shown None ps x e = prefixed_shown ps x
with_shown (Some found) ps x e =
    number_shown (sign ps) ps found.0 found.1 refl ∙ ap (λ (y : Grouped). map Before ps ++ shown y) (sym (plain_is x found.0 found.1 e))

signed_shown : (ps : List Prefix) (x : Grouped) → shown (signed ps x) ≡ map Before ps ++ shown x
signed_shown [] x = refl
signed_shown (p ∷ ps) x = with_shown (plain_number x) (p ∷ ps) x refl

-- Which operators levels have.
abbrev covers : List Level → Infix → Bool
covers [] op = false
covers (level.Between strength ∷ stronger) op = has_strength strength op || covers stronger op
covers (level.Before ∷ stronger) op = covers stronger op

abbrev Covered : List Level → List Step → Type 0
Covered levels [] = Unit {0}
Covered levels (x ∷ xs) = (covers levels x.op ≡ true) × Covered levels xs

module _ (strength : Strength) (stronger : List Level) where
  until_by : (x : Step) (xs : List Step) (b : Bool) → has_strength strength x.op ≡ b → (b || covers stronger x.op) ≡ true → Covered stronger (until strength xs) → Covered stronger (until strength (x ∷ xs))
  until_by x xs true h e rest = rw h tt
  until_by x xs false h e rest = rw h (e, rest)

  until_covered : (xs : List Step) → Covered (level.Between strength ∷ stronger) xs → Covered stronger (until strength xs)
  until_covered [] c = tt
  until_covered (x ∷ xs) c = until_by x xs (has_strength strength x.op) refl c.0 (until_covered xs c.1)

  -- what is split is all
  module _ (inner : (x : Operand) (xs : List Step) → Covered stronger xs → shown (row stronger x xs) ≡ operand_shown x ++ steps_shown xs) where
    abbrev split : List Step → List Piece
    split xs = steps_shown (until strength xs) ++ list_shown (map (link (row stronger)) (parts strength xs))

    parts_by : (x : Step) (xs : List Step) (b : Bool) → has_strength strength x.op ≡ b → Covered stronger (until strength xs) → split xs ≡ steps_shown xs → split (x ∷ xs) ≡ steps_shown (x ∷ xs)
    parts_by x xs true h c rest =
        rw h
        (ap (λ (l : List Piece). Between x.op x.place ∷ l)
        (ap (λ (l : List Piece). l ++ list_shown (map (link (row stronger)) (parts strength xs))) (inner x.operand (until strength xs) c)
        ∙ append_assoc (operand_shown x.operand) (steps_shown (until strength xs)) (list_shown (map (link (row stronger)) (parts strength xs)))
        ∙ ap (λ (l : List Piece). operand_shown x.operand ++ l) rest))
    parts_by x xs false h c rest =
        rw h
        (ap (λ (l : List Piece). Between x.op x.place ∷ l)
        (append_assoc (operand_shown x.operand) (steps_shown (until strength xs)) (list_shown (map (link (row stronger)) (parts strength xs)))
        ∙ ap (λ (l : List Piece). operand_shown x.operand ++ l) rest))

    parts_shown : (xs : List Step) → Covered (level.Between strength ∷ stronger) xs → split xs ≡ steps_shown xs
    parts_shown [] c = refl
    parts_shown (x ∷ xs) c = parts_by x xs (has_strength strength x.op) refl (until_covered xs c.1) (parts_shown xs c.1)

split_prefixes : (n : ℕ) (ps : List Prefix) (l : List Piece) → map Before (take n ps) ++ (map Before (drop n ps) ++ l) ≡ map Before ps ++ l
split_prefixes n ps l =
    sym (append_assoc (map Before (take n ps)) (map Before (drop n ps)) l)
    ∙ ap (λ (z : List Piece). z ++ l) (sym (map-append Before (take n ps) (drop n ps)) ∙ ap (map Before) (take-append-drop n ps))

row_shown : (levels : List Level) (x : Operand) (xs : List Step) → Covered levels xs → shown (row levels x xs) ≡ operand_shown x ++ steps_shown xs
unfolding row
row_shown [] x [] c = signed_shown x.prefixes x.atom ∙ sym (append-nil (operand_shown x))
row_shown [] x (y ∷ ys) c = absurd (true≢false (sym c.0))
row_shown (level.Before ∷ stronger) x xs c =
    let count = prefix_len is_of_formula x.prefixes in
    prefixed_shown (of_formula x.prefixes) (row stronger (record x { prefixes = of_term x.prefixes }) xs)
    ∙ ap (λ (l : List Piece). map Before (of_formula x.prefixes) ++ l) (row_shown stronger (record x { prefixes = of_term x.prefixes }) xs c ∙ append_assoc (map Before (of_term x.prefixes)) (shown x.atom) (steps_shown xs))
    ∙ split_prefixes count x.prefixes (shown x.atom ++ steps_shown xs)
    ∙ sym (append_assoc (map Before x.prefixes) (shown x.atom) (steps_shown xs))
row_shown (level.Between strength ∷ stronger) x xs c =
    joined_shown strength (row stronger x (until strength xs)) (map (link (row stronger)) (parts strength xs))
    ∙ ap (λ (l : List Piece). l ++ list_shown (map (link (row stronger)) (parts strength xs))) (row_shown stronger x (until strength xs) (until_covered strength stronger xs c))
    ∙ append_assoc (operand_shown x) (steps_shown (until strength xs)) (list_shown (map (link (row stronger)) (parts strength xs)))
    ∙ ap (λ (l : List Piece). operand_shown x ++ l) (parts_shown strength stronger (λ y ys d. row_shown stronger y ys d) xs c)

table_covers : (op : Infix) → covers table op ≡ true
table_covers i.Cons = refl
table_covers i.Append = refl
table_covers i.Add = refl
table_covers i.Sub = refl
table_covers i.Mul = refl
table_covers i.Equal = refl
table_covers i.Unequal = refl
table_covers i.AtMost = refl
table_covers i.Less = refl
table_covers i.AtLeast = refl
table_covers i.Greater = refl
table_covers i.Implies = refl
table_covers i.Or = refl
table_covers i.And = refl

all_covered : (xs : List Step) → Covered table xs
all_covered [] = tt
all_covered (x ∷ xs) = (table_covers x.op, all_covered xs)

table_shown : (x : Operand) (xs : List Step) → shown (row table x xs) ≡ operand_shown x ++ steps_shown xs
table_shown x xs = row_shown table x xs (all_covered xs)

alone_shown : (x : Operand) → shown (row table x []) ≡ operand_shown x
alone_shown x = table_shown x [] ∙ append-nil (operand_shown x)

mutual
  operand_text : (tree : w.Written) → operand_shown (operand tree) ≡ text_of tree
  operand_text w.Missing = refl
  operand_text (w.Literal value place) = refl
  operand_text (w.Name name) = refl
  operand_text (w.Word word place) = refl
  operand_text (w.Struct place tag) = refl
  operand_text (w.Field place name) = refl
  operand_text (w.Bracket' opening place shape items close) =
      shown_bracket opening place (all_grouped items) close ∙ ap (λ (l : List Piece). Opens opening place ∷ (l ++ Closes close ∷ [])) (items_text items)
  operand_text (w.Prefixed' prefixes p (w.more_of-Written x w.end_of-Written)) = ap (λ (l : List Piece). map Before prefixes ++ l) (alone_shown (operand x) ∙ operand_text x)
  operand_text (w.Chain' p (w.more_of-Written x w.end_of-Written) shape links) =
      table_shown (operand x) (steps links) ∙ ap (λ (l : List Piece). l ++ steps_shown (steps links)) (operand_text x) ∙ ap (λ (l : List Piece). text_of x ++ l) (links_text links)

  items_text : {m : _} (items : w.Row_of-Written m) → items_shown (all_grouped items) ≡ texts_of items
  items_text w.end_of-Written = refl
  items_text (w.more_of-Written x xs) =
      ap (λ (l : List Piece). l ++ items_shown (all_grouped xs)) (alone_shown (operand x) ∙ operand_text x) ∙ ap (λ (l : List Piece). text_of x ++ l) (items_text xs)

  links_text : {m : _} (links : w.Row_of-Link m) → steps_shown (steps links) ≡ text_of_links links
  links_text w.end_of-Link = refl
  links_text (w.more_of-Link op place x rest) =
      ap (λ (l : List Piece). Between op place ∷ (l ++ steps_shown (steps rest))) (operand_text x) ∙ ap (λ (l : List Piece). Between op place ∷ (text_of x ++ l)) (links_text rest)

pub keeps_order : KeepsOrder
keeps_order tree = alone_shown (operand tree) ∙ operand_text tree
