use Rattle.std.proofs.Common.{◌≡◌, ◌+◌, ◌-◌, ◌^◌, true, not, Option, Some, None, refl, sym, ◌∙◌, ap, subst, arith, Bor}
use Rattle.std.specs.Prelude.{IfOk, is_some}
use Rattle.std.specs.Option.{option_copied}
use Rattle.floyd_truth.specs.Capture.{marked, most_marks, unmarked_from}
use Rattle.floyd_assert_changes.specs.NamesClauses.{has}
use Rattle.floyd_assert_changes.proofs.Marking.{last_mark, most_is, next_mark}
use Rattle.floyd_assert_changes.proofs.fresh.unmarked.Goals as goal

copied : {T : Type 0} (o : Option (Bor T)) → is_some (option_copied o) ≡ is_some o
copied (Some t) = refl
copied None = refl

pub marks-preserved : goal.marks-preserved
marks-preserved c =
    let x = c.args.x.now in
    let i = c.marks.i in
    let names = c.args.names.now in
    let most : most_marks ≡ 2 ^ 63 = most_is in
    let taken : has names (marked x (i + 1)) ≡ true =
    ap (has names) (sym c.in_ok-name.ensures) ∙ ap is_some (sym c.get.ensures) ∙ copied c.get.result ∙ c.is_none.ensures ∙ ap not c.if-is_none.false in
    c.marks.invariant ∙ next_mark (has names) x (most_marks - i) (most_marks - (i + 1)) (i + 1) (omega (arith, most, c.marks-test.true)) taken

pub returns : goal.returns
returns c =
    let x = c.args.x.now in
    let i = c.marks.i in
    let names = c.args.names.now in
    let most : most_marks ≡ 2 ^ 63 = most_is in
    let last : i ≡ 2 ^ 63 = omega (arith, c.marks-test.false, c.marks.auto.i-end) in
    let same : unmarked_from (has names) x most_marks 1 ≡ marked x (2 ^ 63 + 1) =
    c.marks.invariant ∙ last_mark (has names) x (most_marks - i) (i + 1) (omega (arith, most, last)) ∙ ap (λ n. marked x (n + 1)) last in
    subst (λ y. IfOk c.marked-2.result (λ name. name ≡ y)) (sym same) c.marked-2.ensures
