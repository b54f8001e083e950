use Rattle.std.proofs.Common.{◌++◌, List, ℕ, ◌∙◌, sym, ap}
use Rattle.std.proofs.lemmas.List.{append_assoc}
use Rattle.std.specs.Prelude.{codes}
use Rattle.floyd_show_terms.specs.Words as spec
use Rattle.floyd_show_terms.proofs.Puts.{then_put}
use Rattle.floyd_show_terms.proofs.WordLemmas.{list_text, tree_text, pair_text}
use Rattle.floyd_show_terms.proofs.words.+put_sort.Goals as goal

pub returns-in_ok-extend-in-ListOf : goal.returns-in_ok-extend-in-ListOf
returns-in_ok-extend-in-ListOf t c =
    then_put c.put_sort.result _ _ _ (codes "list ") _ _ c.put_sort.ensures
    (c.in_ok-extend-in-ListOf.ensures.ok ∙ ap (λ x. c.args.out.now ++ x) c.as_bytes-in-ListOf.ensures.value)
    (ap spec.sort_text c.in-ListOf.is ∙ list_text c.in-ListOf.item ∙ ap (λ x. codes "list " ++ spec.sort_text x) (sym c.get.ensures))

pub returns-in_ok-extend-in-TreeOf : goal.returns-in_ok-extend-in-TreeOf
returns-in_ok-extend-in-TreeOf t c =
    then_put c.put_sort-in-TreeOf.result _ _ _ (codes "tree ") _ _ c.put_sort-in-TreeOf.ensures
    (c.in_ok-extend-in-TreeOf.ensures.ok ∙ ap (λ x. c.args.out.now ++ x) c.as_bytes-in-TreeOf.ensures.value)
    (ap spec.sort_text c.in-TreeOf.is ∙ tree_text c.in-TreeOf.item ∙ ap (λ x. codes "tree " ++ spec.sort_text x) (sym c.get-in-TreeOf.ensures))

pub returns-in_ok-extend-in-Prod-2 : goal.returns-in_ok-extend-in-Prod-2
returns-in_ok-extend-in-Prod-2 t c =
    let one : List ℕ = spec.sort_text c.in-Prod.first in
    then_put c.put_sort-in-Prod-2.result _ _ _ (codes "prod " ++ one ++ codes " ") _ _ c.put_sort-in-Prod-2.ensures
    (c.in_ok-extend-in-Prod-2.ensures.ok ∙ ap (λ x. c.put_sort-in-Prod.new.out ++ x) c.as_bytes-in-Prod-2.ensures.value
    ∙ ap (λ x. x ++ codes " ") (c.in_ok-put_sort-in-Prod.ensures ∙ ap (λ x. x ++ spec.sort_text c.get-in-Prod.result.now) (c.in_ok-extend-in-Prod.ensures.ok ∙ ap (λ x. c.args.out.now ++ x) c.as_bytes-in-Prod.ensures.value)
    ∙ ap (λ x. c.args.out.now ++ codes "prod " ++ spec.sort_text x) c.get-in-Prod.ensures)
    ∙ ap (λ x. x ++ codes " ") (append_assoc c.args.out.now (codes "prod ") one) ∙ append_assoc c.args.out.now (codes "prod " ++ one) (codes " "))
    (ap spec.sort_text c.in-Prod.is ∙ pair_text c.in-Prod.first c.in-Prod.second ∙ ap (λ x. codes "prod " ++ one ++ codes " " ++ spec.sort_text x) (sym c.get-in-Prod-2.ensures))
