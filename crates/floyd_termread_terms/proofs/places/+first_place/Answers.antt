use Rattle.std.proofs.Common.{List, ap, sym, ◌∙◌}
use Rattle.floyd_termread_trees.specs.declared.written.Prefix.{Prefix}
use Rattle.floyd_termread_groups.specs.declared.grouped.Grouped.{Grouped}
use Rattle.floyd_termread_terms.specs.Rows.{first_place as prefixed_place}
use Rattle.floyd_termread_terms.specs.Senses.{Sense}
use Rattle.floyd_termread_terms.specs.Terms.{sense_of}
use Rattle.floyd_termread_terms.proofs.SenseLemmas.{prefixed_is, row_is}
use Rattle.floyd_termread_terms.proofs.places.+first_place.Goals as goal

pub returns-in-Prefixed : goal.returns-in-Prefixed
returns-in-Prefixed t c =
    c.prefixed_place.ensures
    ∙ ap (λ (ps : List Prefix). prefixed_place ps c.first_place.result) c.as_slice.ensures
    ∙ ap (prefixed_place c.in-Prefixed.prefixes) (c.first_place.ensures ∙ ap (λ (u : Grouped). (sense_of u).place) c.get.ensures)
    ∙ sym (ap (λ (s : Sense). s.place) (ap sense_of c.in-Prefixed.is ∙ prefixed_is c.in-Prefixed.prefixes c.in-Prefixed.operand))

pub returns-in-Row : goal.returns-in-Row
returns-in-Row t c =
    c.first_place-in-Row.ensures
    ∙ ap (λ (u : Grouped). (sense_of u).place) c.get-in-Row.ensures
    ∙ sym (ap (λ (s : Sense). s.place) (ap sense_of c.in-Row.is ∙ row_is c.in-Row.strength c.in-Row.first c.in-Row.links))
