-- The terms have the sorts of the variables.
use Rattle.std.proofs.Common.{List, sym, subst}
use Rattle.floyd_tree.specs.Plain.{Plain}
use Rattle.floyd_truth.specs.Replace.{puts}
use Rattle.floyd_assert_trees.specs.declared.items.Defs.{Defs}
use Rattle.floyd_assert_trees.specs.declared.items.Lemma.{Lemma}
use Rattle.floyd_assert_trees.specs.declared.spec.SpecTable.{SpecTable}
use Rattle.floyd_entail_lemmas.specs.Apply.{TakesTerms}
use Rattle.floyd_goal_forms.specs.Items.{LemmaFits}
use Rattle.floyd_goal_forms.specs.Terms.{scope_with}
use Rattle.floyd_import_laws.proofs.Sorted.{Suiting, formed_agrees}
use Rattle.floyd_funspec_laws.proofs.Made.{suiting, taken_is}

pub takes : (defs : Defs) (specs : SpecTable) (l : Lemma) (terms : List Plain) → LemmaFits defs specs l → TakesTerms l terms
takes defs specs l terms h = λ by e.
    let t = taken_is l.with terms by e in
    let suits : Suiting (puts by) (scope_with l.with) = subst (λ all. Suiting (puts all) (scope_with l.with)) (sym t.is) (suiting l.with terms t.sorts) in
    record {
      left = formed_agrees defs specs (scope_with l.with) l.left h.left (puts by) suits;
      right = formed_agrees defs specs (scope_with l.with) l.right h.right (puts by) suits;
    }
