use Rattle.std.proofs.Common.{◌++◌, ◌∷◌, [], take, Some, sym, ◌∙◌, ap}
use Rattle.std.proofs.lemmas.List.{take_more}
use Rattle.floyd_tree.specs.Plain.{plains}
use Rattle.floyd_tree.specs.WellSorted.{sorts_of}
use Rattle.floyd_tree.proofs.TermLemmas.{sorts_of-push}
use Rattle.floyd_tree.proofs.term.sorts.Goals as goal

pub terms-preserved : goal.terms-preserved
terms-preserved c =
    let i = c.terms.term-index in
    let ts = c.args.terms.now in
    let t = c.term-item.result in
    ap (λ xs. sorts_of (plains xs)) (take_more ts i t c.terms-test.true ∙ ap (λ x. take i ts ++ x ∷ []) (sym c.term-item.is))
    ∙ sorts_of-push (take i ts) t c.terms.all.items c.sort.result.now c.terms.invariant c.sort.ensures
    ∙ ap (λ x. Some (c.terms.all.items ++ x ∷ [])) (sym c.in_ok-share.ensures)
    ∙ ap Some (sym c.in_ok-push.ensures.items)
