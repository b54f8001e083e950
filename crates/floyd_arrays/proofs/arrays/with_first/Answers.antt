use Rattle.std.proofs.Common.{◌≡◌, ◌∷◌, ◌∙◌, List}
use Rattle.floyd_tree.specs.Plain.{Plain}
use Rattle.floyd_arrays.specs.Arrays.{with_first}
use Rattle.floyd_arrays.proofs.ArrayLemmas.{if_ok, with_some}
use Rattle.floyd_arrays.proofs.arrays.with_first.Goals as goal

pub returns-in-len1-up : goal.returns-in-len1-up
returns-in-len1-up c =
    let n = c.args.n.now in
    let sizes = c.args.sizes.now in
    if_ok c.one_before.result (λ (all : List Plain). all ≡ n ∷ c.behind_first.result.now) (λ (all : List Plain). all ≡ with_first n sizes)
    (λ all h. h ∙ with_some n sizes c.behind_first.result.now c.in-len1-up.len_at_least c.behind_first.ensures) c.one_before.ensures
