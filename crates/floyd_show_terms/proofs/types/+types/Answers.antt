use Rattle.std.proofs.Common.{◌++◌, drop, ap, sym, ◌∙◌}
use Rattle.std.specs.Prelude.{codes}
use Rattle.floyd_tree_sorts.specs.ShapeClauses.{arrays_of}
use Rattle.floyd_tree_sorts.specs.Table.{arrays}
use Rattle.floyd_show_terms.specs.Types.{first_text, type_text}
use Rattle.floyd_show_terms.specs.TypesClauses.{parameters_text}
use Rattle.floyd_show_terms.proofs.Puts.{five_put, four_put, piece, three_put}
use Rattle.floyd_show_terms.proofs.TypeLemmas.{array_text, function_is, function_left, pointer_text}
use Rattle.floyd_show_terms.proofs.types.+types.Goals as goal

pub put_type-returns-in_ok-extend-in-Pointer-2-clause-text : goal.put_type-returns-in_ok-extend-in-Pointer-2-clause-text
put_type-returns-in_ok-extend-in-Pointer-2-clause-text t c =
    let ts = c.args.sizes.now in
    three_put _ _ _ _ _ _ _ _
    (piece _ _ _ (codes "ptr(") c.in_ok-extend-in-Pointer.ensures.ok c.as_bytes-in-Pointer.ensures.value)
    c.in_ok-left-in-Pointer.ensures.text
    (piece _ _ _ (codes ")") c.in_ok-extend-in-Pointer-2.ensures.ok c.as_bytes-in-Pointer-2.ensures.value)
    (ap (λ s. type_text s ts) c.in-Pointer.is ∙ pointer_text c.in-Pointer.target ts ∙ ap (λ x. codes "ptr(" ++ type_text x ts ++ codes ")") (sym c.get.ensures))

pub put_type-returns-in_ok-extend-in-Array-3-clause-text : goal.put_type-returns-in_ok-extend-in-Array-3-clause-text
put_type-returns-in_ok-extend-in-Array-3-clause-text t c =
    let ts = c.args.sizes.now in
    five_put _ _ _ _ _ _ _ _ _ _ _ _
    (piece _ _ _ (codes "array(") c.in_ok-extend-in-Array.ensures.ok c.as_bytes-in-Array.ensures.value)
    c.in_ok-left-in-Array.ensures.text
    (piece _ _ _ (codes ", ") c.in_ok-extend-in-Array-2.ensures.ok c.as_bytes-in-Array-2.ensures.value)
    c.in_ok-put_first-in-Array.ensures
    (piece _ _ _ (codes ")") c.in_ok-extend-in-Array-3.ensures.ok c.as_bytes-in-Array-3.ensures.value)
    (ap (λ s. type_text s ts) c.in-Array.is ∙ array_text c.in-Array.item ts
    ∙ ap (λ x. codes "array(" ++ type_text x (drop 1 ts) ++ codes ", " ++ first_text ts ++ codes ")") (sym c.get-in-Array.ensures)
    ∙ ap (λ x. codes "array(" ++ type_text c.get-in-Array.result.now x ++ codes ", " ++ first_text ts ++ codes ")") (sym c.behind_first.ensures))

pub put_type-returns-in_ok-extend-in-Function-2-clause-text : goal.put_type-returns-in_ok-extend-in-Function-2-clause-text
put_type-returns-in_ok-extend-in-Function-2-clause-text t c =
    let ts = c.args.sizes.now in
    let ps = c.in-Function.parameters in
    let qs = c.as_slice-in-Function.result.now in
    let r = c.get-in-Function.result.now in
    four_put _ _ _ _ _ _ _ _ _ _
    (piece _ _ _ (codes "fn(") c.in_ok-extend-in-Function.ensures.ok c.as_bytes-in-Function.ensures.value)
    c.in_ok-left-in-Function.ensures.text
    c.in_ok-left-in-Function-2.ensures.text
    (piece _ _ _ (codes ")") c.in_ok-extend-in-Function-2.ensures.ok c.as_bytes-in-Function-2.ensures.value)
    (ap (λ s. type_text s ts) c.in-Function.is ∙ function_is ps c.in-Function.result ts
    ∙ ap (λ x. codes "fn(" ++ parameters_text x ts ++ type_text c.in-Function.result (drop (arrays_of x) ts) ++ codes ")") (sym c.as_slice-in-Function.ensures)
    ∙ ap (λ x. codes "fn(" ++ parameters_text qs ts ++ type_text x (drop (arrays_of qs) ts) ++ codes ")") (sym c.get-in-Function.ensures)
    ∙ ap (λ x. codes "fn(" ++ parameters_text qs ts ++ type_text r x ++ codes ")") (sym c.in_ok-left-in-Function.ensures.left))

pub put_type-returns-in_ok-extend-in-Function-2-clause-left : goal.put_type-returns-in_ok-extend-in-Function-2-clause-left
put_type-returns-in_ok-extend-in-Function-2-clause-left t c =
    let ts = c.args.sizes.now in
    let ps = c.in-Function.parameters in
    c.in_ok-left-in-Function-2.ensures.left
    ∙ ap (λ s. drop (arrays s) c.in_ok-left-in-Function.left.now) c.get-in-Function.ensures
    ∙ ap (λ x. drop (arrays c.in-Function.result) x) (c.in_ok-left-in-Function.ensures.left ∙ ap (λ x. drop (arrays_of x) ts) c.as_slice-in-Function.ensures)
    ∙ function_left ps c.in-Function.result ts
    ∙ ap (λ s. drop (arrays s) ts) (sym c.in-Function.is)
