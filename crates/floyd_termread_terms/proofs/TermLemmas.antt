-- What the phrases of a tree read as, as the program has them.
use Rattle.std.proofs.Common.{◌≡◌, List, map, Option, None, Ok, Err, ap, sym, ◌∙◌}
use Rattle.floyd_text.specs.declared.place.Place.{Place}
use Rattle.floyd_tree_sorts.specs.declared.sorts.Sort.{Z}
use Rattle.floyd_termread_trees.specs.declared.written.Opening.{Opening}
use Rattle.floyd_termread_trees.specs.declared.written.Prefix.{Prefix}
use Rattle.floyd_termread_groups.specs.declared.grouped.Grouped as g
use Rattle.floyd_termread_groups.specs.declared.grouped.GroupedLink.{GroupedLink}
use Rattle.floyd_termread_groups.specs.declared.grouped.Strength.{Strength}
use Rattle.floyd_termread_scope.specs.Scopes.{Env}
use Rattle.floyd_termread_wants.specs.declared.wants.Wanted.{Wanted}
use Rattle.floyd_termread_wants.specs.declared.wants.Wanted.TheVariants as w
use Rattle.floyd_termread_wants.specs.Judging.{Judged, ◌>>=◌, there}
use Rattle.floyd_termread_wants.specs.Wants.{nothing_known}
use Rattle.floyd_termread_brackets.specs.declared.slots.Slots.{Slots}
use Rattle.floyd_termread_brackets.specs.Brackets.{closed_type}
use Rattle.floyd_termread_brackets.specs.Slots.{type_slots}
use Rattle.floyd_termread_terms.specs.Brackets.{bracket_term, bracket_type, parts_of}
use Rattle.floyd_termread_terms.specs.Rows.{row_term, negated_all}
use Rattle.floyd_termread_terms.specs.Senses.{Sense}
use Rattle.floyd_termread_terms.specs.Terms.{sense_of, link_of}
use Rattle.floyd_termread_terms.proofs.SenseLemmas.{bracket_is, prefixed_is, row_is}

pub as_bracket : (e : Env) (wanted : Wanted) (tree : g.Grouped) (opening : Opening) (place : Place) (items its : List g.Grouped) (close : Option Place) → tree ≡ g.Bracket opening place items close → its ≡ items
    → (sense_of tree).term e wanted ≡ bracket_term opening place (map sense_of its) close e wanted
as_bracket e wanted tree opening place items its close is h =
    ap (λ (t : g.Grouped). (sense_of t).term e wanted) is
    ∙ ap (λ (s : Sense). s.term e wanted) (bracket_is opening place items close)
    ∙ ap (λ (xs : List g.Grouped). bracket_term opening place (map sense_of xs) close e wanted) (sym h)

pub as_bracket_type : (e : Env) (tree : g.Grouped) (opening : Opening) (place : Place) (items its : List g.Grouped) (close : Option Place) → tree ≡ g.Bracket opening place items close → its ≡ items
    → (sense_of tree).type e ≡ bracket_type opening (map sense_of its) close e
as_bracket_type e tree opening place items its close is h =
    ap (λ (t : g.Grouped). (sense_of t).type e) is
    ∙ ap (λ (s : Sense). s.type e) (bracket_is opening place items close)
    ∙ ap (λ (xs : List g.Grouped). bracket_type opening (map sense_of xs) close e) (sym h)

pub as_prefixed : (e : Env) (wanted : Wanted) (tree : g.Grouped) (ps qs : List Prefix) (operand x : g.Grouped) → tree ≡ g.Prefixed ps operand → qs ≡ ps → x ≡ operand
    → (sense_of tree).term e wanted ≡ ((sense_of x).term e (w.This Z) >>= negated_all wanted qs)
as_prefixed e wanted tree ps qs operand x is h k =
    ap (λ (t : g.Grouped). (sense_of t).term e wanted) is
    ∙ ap (λ (s : Sense). s.term e wanted) (prefixed_is ps operand)
    ∙ ap (λ (y : g.Grouped). (sense_of y).term e (w.This Z) >>= negated_all wanted ps) (sym k)
    ∙ ap (λ (rs : List Prefix). (sense_of x).term e (w.This Z) >>= negated_all wanted rs) (sym h)

pub as_row : (e : Env) (wanted : Wanted) (tree : g.Grouped) (strength : Strength) (first x : g.Grouped) (links ls : List GroupedLink) → tree ≡ g.Row strength first links → x ≡ first → ls ≡ links
    → (sense_of tree).term e wanted ≡ row_term strength (sense_of x) (map link_of ls) e wanted
as_row e wanted tree strength first x links ls is h k =
    ap (λ (t : g.Grouped). (sense_of t).term e wanted) is
    ∙ ap (λ (s : Sense). s.term e wanted) (row_is strength first links)
    ∙ ap (λ (y : g.Grouped). row_term strength (sense_of y) (map link_of links) e wanted) (sym h)
    ∙ ap (λ (m : List GroupedLink). row_term strength (sense_of x) (map link_of m) e wanted) (sym k)

-- a type's bracket whose items are to be these
pub type_parts : (e : Env) (tree : g.Grouped) (opening : Opening) (place : Place) (items its : List g.Grouped) (close : Option Place) (slots : Slots) → tree ≡ g.Bracket opening place items close → its ≡ items → there (type_slots opening) ≡ Ok slots
    → (sense_of tree).type e ≡ (parts_of e slots 0 nothing_known (map sense_of its) >>= λ xs. closed_type opening xs close)
type_parts e tree opening place items its close slots is h s =
    as_bracket_type e tree opening place items its close is h
    ∙ ap (λ (r : Judged Slots). r >>= λ sl. parts_of e sl 0 nothing_known (map sense_of its) >>= λ xs. closed_type opening xs close) s

pub no_type_prefixed : (e : Env) (tree : g.Grouped) (ps : List Prefix) (operand : g.Grouped) → tree ≡ g.Prefixed ps operand → (sense_of tree).type e ≡ Err None
no_type_prefixed e tree ps operand is = ap (λ (t : g.Grouped). (sense_of t).type e) is ∙ ap (λ (s : Sense). s.type e) (prefixed_is ps operand)

pub no_type_row : (e : Env) (tree : g.Grouped) (strength : Strength) (first : g.Grouped) (links : List GroupedLink) → tree ≡ g.Row strength first links → (sense_of tree).type e ≡ Err None
no_type_row e tree strength first links is = ap (λ (t : g.Grouped). (sense_of t).type e) is ∙ ap (λ (s : Sense). s.type e) (row_is strength first links)
