use Rattle.std.proofs.Common.{◌++◌, drop, ap, sym, ◌∙◌}
use Rattle.std.specs.Prelude.{codes}
use Rattle.floyd_tree_sorts.specs.Table.{arrays}
use Rattle.floyd_show_terms.specs.Formulas.{placed_text}
use Rattle.floyd_show_terms.specs.Types.{type_text}
use Rattle.floyd_show_terms.proofs.Puts.{piece, then_put, two_put}
use Rattle.floyd_show_terms.proofs.formulas.put_compatible.Goals as goal

pub returns : goal.returns
returns c =
    let shape = c.args.shape.now in
    let texts = c.as_slice.result.now in
    let path = c.args.path.now in
    then_put c.put_placed.result _ _ c.args.out.now (codes "compatible(" ++ type_text shape texts) (placed_text path c.in_ok-left.left.now) _ c.put_placed.ensures
    (two_put _ _ _ (codes "compatible(") (type_text shape texts) (piece _ _ _ (codes "compatible(") c.in_ok-extend.ensures.ok c.as_bytes.ensures.value) c.in_ok-left.ensures.text)
    (ap (λ ts. codes "compatible(" ++ type_text shape ts ++ placed_text path (drop (arrays shape) ts)) (sym (c.as_slice.ensures.value ∙ c.in_ok-texts.ensures))
    ∙ ap (λ l. codes "compatible(" ++ type_text shape texts ++ placed_text path l) (sym c.in_ok-left.ensures.left))
