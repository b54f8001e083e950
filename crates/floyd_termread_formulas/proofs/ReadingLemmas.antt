-- What phrases read as, as the program has them.
use Rattle.std.proofs.Common.{◌≡◌, List, [], ◌∷◌, map, Option, refl, ap, ◌∙◌}
use denote.Hole.Carrier.{hidden}
use Rattle.floyd_text.specs.declared.place.Place.{Place}
use Rattle.floyd_termread_trees.specs.declared.written.Opening.{Opening}
use Rattle.floyd_termread_trees.specs.declared.written.Prefix.{Prefix}
use Rattle.floyd_termread_groups.specs.declared.grouped.Grouped as g
use Rattle.floyd_termread_groups.specs.declared.grouped.Grouped.TheBlock as b
use Rattle.floyd_termread_groups.specs.declared.grouped.GroupedLink.{GroupedLink}
use Rattle.floyd_termread_groups.specs.declared.grouped.Strength.{Strength}
use Rattle.floyd_termread_terms.specs.Terms.{sense_of}
use Rattle.floyd_termread_formulas.specs.Formulas.{Reading, LinkReading, reading_of, readings_of, link_readings, link_reading, bracket_reading, of_formula, prefixed_formula, row_formula}

readings_items : {n : _} (row : g.Row_of-Grouped n) → readings_of row ≡ map reading_of (b.items-the_row-Grouped n row)
readings_items g.end_of-Grouped = refl
readings_items (g.more_of-Grouped x rest) = ap (λ (rs : List Reading). reading_of x ∷ rs) (readings_items rest)

links_items : {n : _} (row : b.Row_of-GroupedLink n) → link_readings row ≡ map link_reading (b.items-the_row-GroupedLink n row)
links_items b.end_of-GroupedLink = refl
links_items (b.more_of-GroupedLink op place operand rest) = ap (λ (rs : List LinkReading). record { op = op; operand = reading_of operand } ∷ rs) (links_items rest)

pub bracket_is : (opening : Opening) (place : Place) (items : List g.Grouped) (close : Option Place)
    → reading_of (g.Bracket opening place items close) ≡ bracket_reading opening (sense_of (g.Bracket opening place items close)) (map reading_of items) close
bracket_is opening place items close =
    ap (λ (rs : List Reading). bracket_reading opening (sense_of (g.Bracket opening place items close)) rs close)
    (readings_items (b.hidden-the_row-Grouped-0 items) ∙ ap (map reading_of) (b.items_hidden-the_row-Grouped-0 items))

pub prefixed_is : (ps : List Prefix) (operand : g.Grouped) → reading_of (g.Prefixed ps operand) ≡ of_formula (sense_of (g.Prefixed ps operand)) (prefixed_formula ps (sense_of (g.Prefixed ps operand)) (reading_of operand).formula)
unfolding b.hidden-the_row-Grouped-1 hidden
prefixed_is ps operand = refl

pub row_is : (strength : Strength) (first : g.Grouped) (links : List GroupedLink)
    → reading_of (g.Row strength first links) ≡ of_formula (sense_of (g.Row strength first links)) (row_formula strength (sense_of (g.Row strength first links)) (reading_of first) (map link_reading links))
unfolding b.hidden-the_row-Grouped-1 hidden
row_is strength first links =
    ap (λ (rs : List LinkReading). of_formula (sense_of (g.Row strength first links)) (row_formula strength (sense_of (g.Row strength first links)) (reading_of first) rs))
    (links_items (b.hidden-the_row-GroupedLink-2 links) ∙ ap (map link_reading) (b.items_hidden-the_row-GroupedLink-2 links))

-- the sense of what is read
pub sense_is : (tree : g.Grouped) → (reading_of tree).sense ≡ sense_of tree
sense_is g.Missing = refl
sense_is (g.Literal minus n place) = refl
sense_is (g.Name x) = refl
sense_is (g.Word x place) = refl
sense_is (g.Struct place tag) = refl
sense_is (g.Field place x) = refl
sense_is (g.Bracket' opening place shape items close) = refl
sense_is (g.Prefixed' ps p (g.more_of-Grouped operand g.end_of-Grouped)) = refl
sense_is (g.Row' strength p (g.more_of-Grouped first g.end_of-Grouped) shape links) = refl
