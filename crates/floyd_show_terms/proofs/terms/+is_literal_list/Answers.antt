use Rattle.std.proofs.Common.{ap, sym, ◌∙◌, arith}
use Rattle.floyd_tree.specs.Plain.{plains, height, heights}
use Rattle.floyd_tree.proofs.Heights.{height_at, heights_below}
use Rattle.floyd_show_terms.proofs.TermLemmas.{cell_items, few, literal_second, many, other_items}
use Rattle.floyd_show_terms.proofs.terms.+is_literal_list.Goals as goal

pub is_literal_list-requires : goal.is_literal_list-requires
is_literal_list-requires t c =
    let ks = c.as_slice.result.now in (
      omega (arith, heights_below c.args.term.now, ap (λ x. heights (plains x)) (c.as_slice.ensures ∙ c.kids.ensures.value), height_at ks 1 c.rest-item.result (omega (arith, c.in-len2.len_at_least)), ap height c.rest-item.is, c.decreases),
      tt,
    )

pub returns-in-len2 : goal.returns-in-len2
returns-in-len2 t c =
    let ks = c.as_slice.result.now in
    c.is_literal_list.ensures
    ∙ sym (cell_items c.args.term.now c.head-top.result.now ks (sym c.head-top.ensures) (sym (c.as_slice.ensures ∙ c.kids.ensures.value)) (sym c.is_cell.ensures ∙ c.if-is_cell.true) ∙ literal_second ks c.rest-item.result c.in-len2.len_at_least c.in-len2.len_below c.rest-item.is)

pub returns-in_default : goal.returns-in_default
returns-in_default t c =
    let ks = c.as_slice.result.now in
    sym (cell_items c.args.term.now c.head-top.result.now ks (sym c.head-top.ensures) (sym (c.as_slice.ensures ∙ c.kids.ensures.value)) (sym c.is_cell.ensures ∙ c.if-is_cell.true) ∙ few ks c.in_default.len_below)

pub returns-in_default-2 : goal.returns-in_default-2
returns-in_default-2 t c =
    let ks = c.as_slice.result.now in
    sym (cell_items c.args.term.now c.head-top.result.now ks (sym c.head-top.ensures) (sym (c.as_slice.ensures ∙ c.kids.ensures.value)) (sym c.is_cell.ensures ∙ c.if-is_cell.true) ∙ many ks c.in_default.len_at_least)

pub returns-else-is_cell : goal.returns-else-is_cell
returns-else-is_cell t c =
    c.is_nil.ensures ∙ sym (other_items c.args.term.now c.head-top.result.now (sym c.head-top.ensures) (sym c.is_cell.ensures ∙ c.if-is_cell.false))
