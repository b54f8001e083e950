use Rattle.std.proofs.Common.{◌≡◌, ◌||◌, ◌+◌, refl, sym, ap, ◌∙◌}
use Rattle.floyd_tree.specs.Formulas.{formulas}
use Rattle.floyd_rewriting.specs.Holes.{formula_opened}
use Rattle.floyd_rewriting.specs.Occurrences.{formula_occurs, formulas_occur}
use Rattle.std.specs.Prelude.{is_some}
use Rattle.std.specs.Option.{unwrap_or}
use Rattle.floyd_rewriting.proofs.Pushing.{one_more, one_told}
use Rattle.floyd_rewriting.proofs.FormulasOpened.{formula_or, formula_told}
use Rattle.floyd_rewriting.proofs.holes.+formulas.Goals.{open_formulas-then-changed, open_formulas-else-changed}
use Rattle.floyd_rewriting.proofs.holes.+formulas.Goals as goal

pub open_formulas-formulas-preserved : goal.open_formulas-formulas-preserved
open_formulas-formulas-preserved g t c =
    let from = c.args.from.now in
    let hole = c.args.hole.now in
    let fs = c.args.all.now in
    let i = c.formulas.formula-index in
    let f = c.formula-item.result in
    let opened = c.in_ok-opened.opened in
    let told : c.if-changed.changed ≡ (c.formulas.changed || opened) = elim c.if-changed.branch [
      | open_formulas-then-changed w ↦ w.changed-is ∙ w.if-changed.true ∙ sym (ap (λ b. b || opened) w.if-changed.true)
      | open_formulas-else-changed w ↦ w.changed-is ∙ sym (ap (λ b. b || opened) w.if-changed.false)
    ] in
    record {
      items =
          one_more fs i f c.formulas-test.true c.formula-item.is (formula_opened from hole) (unwrap_or c.in_ok-new.new f) c.formulas.made.items c.push_formula.new.all.items
          (ap (λ o. unwrap_or o f) c.in_ok-new.ensures ∙ formula_or from hole f)
          c.in_ok-opened.ensures.pushed
          c.formulas.invariant.items;
      changed =
          one_told fs i f c.formulas-test.true c.formula-item.is (formula_occurs from) (λ gs. formulas_occur from (formulas gs)) (λ h hs. refl) c.formulas.changed opened c.if-changed.changed
          (c.in_ok-opened.ensures.told ∙ ap is_some c.in_ok-new.ensures ∙ formula_told from hole f)
          told
          c.formulas.invariant.changed;
    }
