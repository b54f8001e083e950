use Rattle.std.proofs.Common.{◌≡◌, ◌||◌, ◌+◌, Some, None, refl, sym, ap, subst, ◌∙◌, arith, true≢false}
use Rattle.floyd_tree.specs.Made.{fault_at}
use Rattle.floyd_tree.specs.Plain.{Plain, At, plains}
use Rattle.floyd_rewriting.specs.Holes.{opened}
use Rattle.floyd_rewriting.specs.HolesClauses.{terms_after}
use Rattle.floyd_rewriting.specs.Occurrences.{occurs, occurs_in}
use Rattle.std.specs.Prelude.{is_some}
use Rattle.std.specs.Option.{unwrap_or}
use Rattle.floyd_rewriting.proofs.Pushing.{one_more, one_told}
use Rattle.floyd_rewriting.proofs.TermsOpened.{node_fine, term_or, term_told}
use Rattle.floyd_rewriting.proofs.holes.+terms.Goals.{open_terms-then-changed, open_terms-else-changed}
use Rattle.floyd_rewriting.proofs.holes.+terms.Goals as goal

pub open_term-node_of-requires : goal.open_term-node_of-requires
open_term-node_of-requires g t c =
    let from = c.args.from.now in
    let hole = c.args.hole.now in
    let ks = c.as_slice-in-Some.result.now in
    let made : Some ks ≡ terms_after from hole c.as_slice.result.now = ap Some c.as_slice-in-Some.ensures ∙ sym c.in-Some.is ∙ c.in_ok-kids.ensures in
    subst (λ h. fault_at (At h (plains ks)) ≡ None) (sym c.head.ensures)
    (node_fine from hole c.requires c.args.t.now ks c.sort-sort.result.now (λ e. true≢false (sym (c.equal.ensures.1 e) ∙ c.if-equal.false))
    (made ∙ ap (terms_after from hole) (c.as_slice.ensures ∙ c.kids.ensures.value))
    c.sort-sort.ensures
    (omega (arith, c.size-size.ensures.value, c.size-size.ensures.limit))
    (omega (arith, c.height-height.ensures.value, c.height-height.ensures.limit)))

pub open_terms-terms-preserved : goal.open_terms-terms-preserved
open_terms-terms-preserved g t c =
    let from = c.args.from.now in
    let hole = c.args.hole.now in
    let ts = c.args.terms.now in
    let i = c.terms.term-index in
    let u = c.term-item.result in
    let made = c.in_ok-made.made in
    let told : c.if-changed.changed ≡ (c.terms.changed || made) = elim c.if-changed.branch [
      | open_terms-then-changed w ↦ w.changed-is ∙ w.if-changed.true ∙ sym (ap (λ b. b || made) w.if-changed.true)
      | open_terms-else-changed w ↦ w.changed-is ∙ sym (ap (λ b. b || made) w.if-changed.false)
    ] in
    record {
      items =
          one_more ts i u c.terms-test.true c.term-item.is (opened from hole) (unwrap_or c.in_ok-new.new u) c.terms.all.items c.push_term.new.all.items
          (ap (λ o. unwrap_or o u) c.in_ok-new.ensures ∙ term_or from hole u)
          c.in_ok-made.ensures.pushed
          c.terms.invariant.items;
      changed =
          one_told ts i u c.terms-test.true c.term-item.is (occurs from) (λ us. occurs_in from (plains us)) (λ y ys. refl) c.terms.changed made c.if-changed.changed
          (c.in_ok-made.ensures.told ∙ ap is_some c.in_ok-new.ensures ∙ term_told from hole u)
          told
          c.terms.invariant.changed;
    }
