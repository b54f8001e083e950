use Rattle.std.proofs.Common.{◌++◌, sym, ◌∙◌, ap}
use Rattle.std.specs.Prelude.{flat_map}
use Rattle.std.proofs.lemmas.List.{take_all}
use Rattle.floyd_clight.specs.Flat.{flat}
use Rattle.floyd_clight.proofs.FlatLaws.{flat_seq}
use Rattle.floyd_clight.proofs.flatten.+flat_onto.Goals as goal

pub returns-after-parts : goal.returns-after-parts
returns-after-parts t c =
    let parts = c.as_slice-part-items.result.now in
    c.parts.invariant
    ∙ ap (λ xs. c.args.all.now ++ flat_map flat xs) (take_all _ parts c.parts-test.false ∙ c.as_slice-part-items.ensures)
    ∙ ap (λ ys. c.args.all.now ++ ys) (sym (flat_seq c.in-Seq.parts) ∙ ap flat (sym c.in-Seq.is))
