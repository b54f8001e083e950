use Rattle.std.proofs.Common.{rules, ◌≡◌, IfOk, sym, subst, ◌∙◌, ap}
use denote.Enum.Bare.{same_true}
use Rattle.floyd_tree_sorts.specs.Table.{written}
use Rattle.floyd_tree_sorts.specs.contracts.operators.RowSort.{the_type}
use Rattle.floyd_tree_sorts.proofs.SortLemmas.{same_sort_true}
use Rattle.floyd_tree_sorts.proofs.operators.RowSort.given_sort.Goals as goal

pub returns-then-eq : goal.returns-then-eq
returns-then-eq c =
    let alike : c.args.self ≡ c.args.last = same_true the_type (search rules) c.args.self c.args.last (sym c.eq.ensures ∙ c.if-eq.true) in
    subst (λ x. IfOk c.share.result (λ r. r ≡ x))
    (sym (same_sort_true (written c.args.s c.args.t c.args.last) c.args.a.now c.requires) ∙ ap (written c.args.s c.args.t) (sym alike))
    c.share.ensures
