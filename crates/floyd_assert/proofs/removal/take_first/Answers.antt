use Rattle.std.proofs.Common.{◌≡◌, ◌+◌, refl, sym, ap, subst, ◌∙◌, length, take, true, false, slice_set, arith}
use Rattle.std.proofs.lemmas.List.{take_all}
use Rattle.floyd_assert.specs.Removal.{Lacks, Without}
use Rattle.floyd_assert.specs.RemovalClauses.{left}
use Rattle.floyd_assert.proofs.Marks.{none_more, taken_out}
use Rattle.floyd_assert.proofs.removal.take_first.Goals as goal
use Rattle.floyd_assert.proofs.removal.take_first.Goals.{else-not-taken-i-via-then-not-taken-i+else-equal_part, else-not-taken-i-via-else-not-taken-i}

false_true : false ≡ true → ⊥
false_true e = absurd cc

pub returns-then-equal_part-clause-there : goal.returns-then-equal_part-clause-there
returns-then-equal_part-clause-there c = λ _.
    let parts = c.args.parts.now in
    let same = c.parts.invariant.same in
    subst (λ taken. Without c.args.part.now (left parts taken) (left parts (slice_set c.parts.taken c.parts.i true))) same
    (taken_out c.args.part.now parts c.parts.taken c.parts.i _ _ (c.requires ∙ ap length (sym same)) c.parts-test.true c.if-not-taken-i.true
    (sym c.index-parts-i.is ∙ c.equal_part.ensures.0 c.if-equal_part.true) c.parts.invariant.missing)

pub parts-preserved : goal.parts-preserved
parts-preserved c =
    let part = c.args.part.now in
    let parts = c.args.parts.now in
    let taken = c.parts.taken in
    let i = c.parts.i in
    let count = c.requires ∙ ap length (sym c.parts.invariant.same) in
    record {
      same = c.parts.invariant.same;
      missing = elim c.else-not-taken-i.branch [
        | else-not-taken-i-via-then-not-taken-i+else-equal_part w ↦
            none_more part parts taken i (i + 1) false w.index-parts-i.result refl count c.parts-test.true
            (λ free same. false_true (sym w.if-equal_part.false ∙ w.equal_part.ensures.1 (w.index-parts-i.is ∙ same))) c.parts.invariant.missing
        | else-not-taken-i-via-else-not-taken-i w ↦
            none_more part parts taken i (i + 1) false part refl count c.parts-test.true
            (λ free same. false_true (sym free ∙ w.if-not-taken-i.false)) c.parts.invariant.missing
      ];
    }

pub returns-clause-missing : goal.returns-clause-missing
returns-clause-missing c = λ _.
    let parts = c.args.parts.now in
    let taken = c.args.taken.now in
    let i = c.parts.i in
    subst (λ ts. Lacks c.args.part.now (left parts ts)) c.parts.invariant.same
    (subst (λ ts. Lacks c.args.part.now (left parts ts)) (take_all i c.parts.taken (omega (arith, c.parts-test.false, c.requires, ap length c.parts.invariant.same)))
    (subst (λ ps. Lacks c.args.part.now (left ps (take i c.parts.taken))) (take_all i parts c.parts-test.false) c.parts.invariant.missing))
