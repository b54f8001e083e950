use Rattle.std.proofs.Common.{◌++◌, ap, sym, ◌∙◌, arith}
use Rattle.std.specs.Prelude.{codes, is_some, false}
use Rattle.floyd_tree.specs.Plain.{plains, height, heights}
use Rattle.floyd_tree.proofs.Heights.{height_at, heights_below}
use Rattle.floyd_show_terms.specs.Terms.{Written, term_text}
use Rattle.floyd_show_terms.specs.TermsClauses.{bracketed, item_mark, items_of}
use Rattle.floyd_show_terms.specs.Types.{type_text}
use Rattle.floyd_show_terms.proofs.Puts.{named, piece, then_put, two_put}
use Rattle.floyd_show_terms.proofs.TermLemmas.{default_text, framed_text, items_two, literal_text, made_of, not_few, not_many, two_of}
use Rattle.floyd_show_terms.proofs.terms.+terms.Goals as goal

pub put_items-put_term-requires : goal.put_items-put_term-requires
put_items-put_term-requires t c =
    let ks = c.as_slice.result.now in (
      omega (arith, heights_below c.args.list.now, ap (λ x. heights (plains x)) (c.as_slice.ensures ∙ c.kids.ensures.value), height_at ks 0 c.first-item.result (omega (arith, c.in-len2.len_at_least)), ap height c.first-item.is),
      tt,
    )

pub put_items-put_items-requires : goal.put_items-put_items-requires
put_items-put_items-requires t c =
    let ks = c.as_slice.result.now in
    let k = c.as_slice.ensures ∙ c.kids.ensures.value in
    let two = two_of ks c.first-item.result c.rest-item.result c.in-len2.len_at_least c.in-len2.len_below c.first-item.is c.rest-item.is in
    let p = items_two c.args.list.now c.head.result.now c.first-item.result c.rest-item.result (sym c.head.ensures) (sym k ∙ two) c.requires c.in_default.not-Nil in (
      omega (arith, heights_below c.args.list.now, ap (λ x. heights (plains x)) k, height_at ks 1 c.rest-item.result (omega (arith, c.in-len2.len_at_least)), ap height c.rest-item.is),
      p.0,
    )

pub put_items-returns-in_ok-put_term-in-len2 : goal.put_items-returns-in_ok-put_term-in-len2
put_items-returns-in_ok-put_term-in-len2 t c =
    let ks = c.as_slice.result.now in
    let k = c.as_slice.ensures ∙ c.kids.ensures.value in
    let mark = item_mark c.args.opens in
    let first = term_text c.first-item.result in
    let two = two_of ks c.first-item.result c.rest-item.result c.in-len2.len_at_least c.in-len2.len_below c.first-item.is c.rest-item.is in
    let p = items_two c.args.list.now c.head.result.now c.first-item.result c.rest-item.result (sym c.head.ensures) (sym k ∙ two) c.requires c.in_default.not-Nil in
    then_put c.put_items.result _ _ c.args.out.now (mark ++ first) (bracketed false (items_of c.rest-item.result)) _ c.put_items.ensures
    (two_put _ _ _ mark first (piece _ _ _ mark c.in_ok-extend-in-len2.ensures.ok (c.as_bytes-in-len2.ensures.value ∙ c.item_mark.ensures)) c.in_ok-put_term-in-len2.ensures)
    (ap (bracketed c.args.opens) p.1)

pub put_items-returns-in_default-as_slice : goal.put_items-returns-in_default-as_slice
put_items-returns-in_default-as_slice t c =
    let ks = c.as_slice.result.now in
    let m = made_of c.args.list.now c.head.result.now ks (sym c.head.ensures) (sym (c.as_slice.ensures ∙ c.kids.ensures.value)) in
    absurd (not_few c.head.result.now ks c.in_default-as_slice.len_below (sym (ap (λ (w : Written). is_some w.items) m) ∙ c.requires) c.in_default.not-Nil)

pub put_items-returns-in_default-as_slice-2 : goal.put_items-returns-in_default-as_slice-2
put_items-returns-in_default-as_slice-2 t c =
    let ks = c.as_slice.result.now in
    let m = made_of c.args.list.now c.head.result.now ks (sym c.head.ensures) (sym (c.as_slice.ensures ∙ c.kids.ensures.value)) in
    absurd (not_many c.head.result.now ks c.in_default-as_slice.len_at_least (sym (ap (λ (w : Written). is_some w.items) m) ∙ c.requires) c.in_default.not-Nil)

pub put_term-returns-in_ok-sizes-in-Default : goal.put_term-returns-in_ok-sizes-in-Default
put_term-returns-in_ok-sizes-in-Default t c =
    named c.put_default.result _ _ _ _ c.put_default.ensures
    (default_text c.args.term.now c.in-Default.shape c.in-Default.field-1 c.as_slice-kids.result.now (sym c.head-top.ensures ∙ c.in-Default.is) (sym (c.as_slice-kids.ensures ∙ c.kids.ensures.value))
    ∙ ap (λ x. codes "default(" ++ type_text c.in-Default.shape x ++ codes ")") (sym (c.as_slice.ensures.value ∙ c.in_ok-sizes-in-Default.ensures))
    ∙ ap (λ x. codes "default(" ++ type_text x c.as_slice.result.now ++ codes ")") (sym c.get.ensures))

pub put_term-returns-then-is_literal_list : goal.put_term-returns-then-is_literal_list
put_term-returns-then-is_literal_list t c =
    named c.put_items.result _ _ _ _ c.put_items.ensures
    (literal_text c.args.term.now c.head-top.result.now (sym c.head-top.ensures) (sym c.is_literal_list.ensures ∙ c.if-is_literal_list.true) c.in_default.not-Nil)

pub put_term-returns-else-is_literal_list : goal.put_term-returns-else-is_literal_list
put_term-returns-else-is_literal_list t c =
    named c.put_framed.result _ _ _ _ c.put_framed.ensures
    (framed_text c.args.term.now c.head-top.result.now c.as_slice-kids.result.now (sym c.head-top.ensures) (sym (c.as_slice-kids.ensures ∙ c.kids.ensures.value)) (sym c.is_literal_list.ensures ∙ c.if-is_literal_list.false) c.in_default.not-Default)
