-- The senses of phrases as the program has them.
use Rattle.std.proofs.Common.{◌≡◌, List, ◌∷◌, map, Option, None, refl, ap, ◌∙◌}
use Rattle.floyd_text.specs.declared.place.Place.{Place}
use Rattle.floyd_termread_trees.specs.declared.written.Opening.{Opening}
use Rattle.floyd_termread_trees.specs.declared.written.Prefix.{Prefix}
use Rattle.floyd_termread_groups.specs.declared.grouped.Grouped as g
use Rattle.floyd_termread_groups.specs.declared.grouped.Grouped.TheBlock as b
use Rattle.floyd_termread_groups.specs.declared.grouped.GroupedLink.{GroupedLink}
use Rattle.floyd_termread_groups.specs.declared.grouped.Strength.{Strength}
use denote.Hole.Carrier.{hidden}
use Rattle.floyd_termread_terms.specs.Brackets.{bracket}
use Rattle.floyd_termread_terms.specs.Rows.{row_sense, prefixed}
use Rattle.floyd_termread_terms.specs.Senses.{Sense, LinkSense}
use Rattle.floyd_termread_terms.specs.Terms.{sense_of, senses_of, links_of, link_of}

senses_items : {n : _} (row : g.Row_of-Grouped n) → senses_of row ≡ map sense_of (b.items-the_row-Grouped n row)
senses_items g.end_of-Grouped = refl
senses_items (g.more_of-Grouped item rest) = ap (λ (ss : List Sense). sense_of item ∷ ss) (senses_items rest)

links_items : {n : _} (row : b.Row_of-GroupedLink n) → links_of row ≡ map link_of (b.items-the_row-GroupedLink n row)
links_items b.end_of-GroupedLink = refl
links_items (b.more_of-GroupedLink op place operand rest) = ap (λ (ss : List LinkSense). record { op = op; operand = sense_of operand } ∷ ss) (links_items rest)

pub bracket_is : (opening : Opening) (place : Place) (items : List g.Grouped) (close : Option Place)
    → sense_of (g.Bracket opening place items close) ≡ bracket opening place (map sense_of items) close
bracket_is opening place items close =
    ap (λ (ss : List Sense). bracket opening place ss close)
    (senses_items (b.hidden-the_row-Grouped-0 items) ∙ ap (map sense_of) (b.items_hidden-the_row-Grouped-0 items))

pub prefixed_is : (ps : List Prefix) (operand : g.Grouped) → sense_of (g.Prefixed ps operand) ≡ prefixed ps (sense_of operand)
unfolding b.hidden-the_row-Grouped-1 hidden
prefixed_is ps operand = refl

pub row_is : (strength : Strength) (first : g.Grouped) (links : List GroupedLink)
    → sense_of (g.Row strength first links) ≡ row_sense strength (sense_of first) (map link_of links)
unfolding b.hidden-the_row-Grouped-1 hidden
row_is strength first links =
    ap (λ (ls : List LinkSense). row_sense strength (sense_of first) ls)
    (links_items (b.hidden-the_row-GroupedLink-2 links) ∙ ap (map link_of) (b.items_hidden-the_row-GroupedLink-2 links))

-- none of them is a name
pub name_bracket : (opening : Opening) (place : Place) (items : List g.Grouped) (close : Option Place) → (sense_of (g.Bracket opening place items close)).name ≡ None
name_bracket opening place items close = ap (λ (s : Sense). s.name) (bracket_is opening place items close)

pub name_prefixed : (ps : List Prefix) (operand : g.Grouped) → (sense_of (g.Prefixed ps operand)).name ≡ None
name_prefixed ps operand = ap (λ (s : Sense). s.name) (prefixed_is ps operand)

pub name_row : (strength : Strength) (first : g.Grouped) (links : List GroupedLink) → (sense_of (g.Row strength first links)).name ≡ None
name_row strength first links = ap (λ (s : Sense). s.name) (row_is strength first links)
