-- What the phrases of a tree read as where a formula is wanted, as the program has them.
use Rattle.std.proofs.Common.{◌≡◌, List, map, Option, None, Result, Ok, Err, OnOk, ap, sym, ◌∙◌}
use Rattle.floyd_text.specs.declared.place.Place.{Place}
use Rattle.floyd_termread_trees.specs.declared.words.Word.{Word}
use Rattle.floyd_termread_trees.specs.declared.written.Opening.{Opening}
use Rattle.floyd_termread_trees.specs.declared.written.Prefix.{Prefix}
use Rattle.floyd_termread_groups.specs.declared.grouped.Grouped as g
use Rattle.floyd_termread_groups.specs.declared.grouped.GroupedLink.{GroupedLink}
use Rattle.floyd_termread_groups.specs.declared.grouped.Strength.{Strength}
use Rattle.floyd_termread_scope.specs.Scopes.{Env}
use Rattle.floyd_termread_terms.specs.Senses.{Sense}
use Rattle.floyd_termread_terms.specs.Terms.{sense_of}
use Rattle.floyd_termread_formulas.specs.Formulas.{Reading, reading_of, link_reading, lone, bracket_formula, bracket_path, bracket_step, prefixed_formula, row_formula, word_formula}
use Rattle.floyd_termread_formulas.proofs.ReadingLemmas.{bracket_is, prefixed_is, row_is}

pub as_word : (e : Env) (tree : g.Grouped) (x : Word) (place : Place) → tree ≡ g.Word x place → (reading_of tree).formula e ≡ word_formula x place (sense_of tree) e
as_word e tree x place is = ap (λ (t : g.Grouped). (reading_of t).formula e) is ∙ sym (ap (λ (t : g.Grouped). word_formula x place (sense_of t) e) is)

-- what holds anyway
pub on_ok : {T E P : Type 0} (r : Result T E) → P → OnOk r P
on_ok (Ok x) p = p
on_ok (Err e) p = tt

-- a term where a formula is wanted
pub as_lone : (e : Env) (tree x : g.Grouped) → tree ≡ x → (reading_of x).formula e ≡ lone (sense_of x) e → (reading_of tree).formula e ≡ lone (sense_of tree) e
as_lone e tree x is h = ap (λ (t : g.Grouped). (reading_of t).formula e) is ∙ h ∙ sym (ap (λ (t : g.Grouped). lone (sense_of t) e) is)

pub as_bracket : (e : Env) (tree : g.Grouped) (opening : Opening) (place : Place) (items its : List g.Grouped) (close : Option Place) → tree ≡ g.Bracket opening place items close → its ≡ items
    → (reading_of tree).formula e ≡ bracket_formula opening (sense_of tree) (map reading_of its) close e
as_bracket e tree opening place items its close is h =
    ap (λ (t : g.Grouped). (reading_of t).formula e) is
    ∙ ap (λ (r : Reading). r.formula e) (bracket_is opening place items close)
    ∙ sym (ap (λ (t : g.Grouped). bracket_formula opening (sense_of t) (map reading_of items) close e) is)
    ∙ ap (λ (xs : List g.Grouped). bracket_formula opening (sense_of tree) (map reading_of xs) close e) (sym h)

pub as_bracket_path : (e : Env) (tree : g.Grouped) (opening : Opening) (place : Place) (items its : List g.Grouped) (close : Option Place) → tree ≡ g.Bracket opening place items close → its ≡ items
    → (reading_of tree).path e ≡ bracket_path opening (map reading_of its) close e
as_bracket_path e tree opening place items its close is h =
    ap (λ (t : g.Grouped). (reading_of t).path e) is
    ∙ ap (λ (r : Reading). r.path e) (bracket_is opening place items close)
    ∙ ap (λ (xs : List g.Grouped). bracket_path opening (map reading_of xs) close e) (sym h)

pub as_bracket_step : (e : Env) (tree : g.Grouped) (opening : Opening) (place : Place) (items its : List g.Grouped) (close : Option Place) → tree ≡ g.Bracket opening place items close → its ≡ items
    → (reading_of tree).step e ≡ bracket_step opening (map reading_of its) close e
as_bracket_step e tree opening place items its close is h =
    ap (λ (t : g.Grouped). (reading_of t).step e) is
    ∙ ap (λ (r : Reading). r.step e) (bracket_is opening place items close)
    ∙ ap (λ (xs : List g.Grouped). bracket_step opening (map reading_of xs) close e) (sym h)

pub as_prefixed : (e : Env) (tree : g.Grouped) (ps qs : List Prefix) (operand x : g.Grouped) → tree ≡ g.Prefixed ps operand → qs ≡ ps → x ≡ operand
    → (reading_of tree).formula e ≡ prefixed_formula qs (sense_of tree) (reading_of x).formula e
as_prefixed e tree ps qs operand x is h k =
    ap (λ (t : g.Grouped). (reading_of t).formula e) is
    ∙ ap (λ (r : Reading). r.formula e) (prefixed_is ps operand)
    ∙ sym (ap (λ (t : g.Grouped). prefixed_formula ps (sense_of t) (reading_of operand).formula e) is)
    ∙ ap (λ (y : g.Grouped). prefixed_formula ps (sense_of tree) (reading_of y).formula e) (sym k)
    ∙ ap (λ (rs : List Prefix). prefixed_formula rs (sense_of tree) (reading_of x).formula e) (sym h)

pub as_row : (e : Env) (tree : g.Grouped) (strength : Strength) (first x : g.Grouped) (links ls : List GroupedLink) → tree ≡ g.Row strength first links → x ≡ first → ls ≡ links
    → (reading_of tree).formula e ≡ row_formula strength (sense_of tree) (reading_of x) (map link_reading ls) e
as_row e tree strength first x links ls is h k =
    ap (λ (t : g.Grouped). (reading_of t).formula e) is
    ∙ ap (λ (r : Reading). r.formula e) (row_is strength first links)
    ∙ sym (ap (λ (t : g.Grouped). row_formula strength (sense_of t) (reading_of first) (map link_reading links) e) is)
    ∙ ap (λ (y : g.Grouped). row_formula strength (sense_of tree) (reading_of y) (map link_reading links) e) (sym h)
    ∙ ap (λ (m : List GroupedLink). row_formula strength (sense_of tree) (reading_of x) (map link_reading m) e) (sym k)

-- what is no path and no step of one
pub no_step_prefixed : (e : Env) (tree : g.Grouped) (ps : List Prefix) (operand : g.Grouped) → tree ≡ g.Prefixed ps operand → (reading_of tree).step e ≡ Err None
no_step_prefixed e tree ps operand is = ap (λ (t : g.Grouped). (reading_of t).step e) is ∙ ap (λ (r : Reading). r.step e) (prefixed_is ps operand)

pub no_step_row : (e : Env) (tree : g.Grouped) (strength : Strength) (first : g.Grouped) (links : List GroupedLink) → tree ≡ g.Row strength first links → (reading_of tree).step e ≡ Err None
no_step_row e tree strength first links is = ap (λ (t : g.Grouped). (reading_of t).step e) is ∙ ap (λ (r : Reading). r.step e) (row_is strength first links)

pub no_path_prefixed : (e : Env) (tree : g.Grouped) (ps : List Prefix) (operand : g.Grouped) → tree ≡ g.Prefixed ps operand → (reading_of tree).path e ≡ Err None
no_path_prefixed e tree ps operand is = ap (λ (t : g.Grouped). (reading_of t).path e) is ∙ ap (λ (r : Reading). r.path e) (prefixed_is ps operand)

pub no_path_row : (e : Env) (tree : g.Grouped) (strength : Strength) (first : g.Grouped) (links : List GroupedLink) → tree ≡ g.Row strength first links → (reading_of tree).path e ≡ Err None
no_path_row e tree strength first links is = ap (λ (t : g.Grouped). (reading_of t).path e) is ∙ ap (λ (r : Reading). r.path e) (row_is strength first links)
