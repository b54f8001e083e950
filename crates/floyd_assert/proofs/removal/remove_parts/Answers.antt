use Rattle.std.proofs.Common.{◌∙◌, sym, ap, subst, length}
use Rattle.std.proofs.lemmas.List.{length-replicate}
use Rattle.floyd_assert.specs.Removal.{Difference}
use Rattle.floyd_assert.specs.RemovalClauses.{left}
use Rattle.floyd_assert.proofs.Marks.{left_all}
use Rattle.floyd_assert.proofs.removal.remove_parts.Goals as goal

pub gone-init : goal.gone-init
gone-init c =
    let parts = c.as_slice-parts.result.now in
    let none_taken = c.in_ok-taken.ensures.items_if_clones_equal (λ _ h. h) in
    record {
      count = sym (ap length none_taken ∙ length-replicate _ _);
      rest = λ answer d. subst (λ ps. Difference ps 1 c.as_slice-gone.result.now answer) (ap (left parts) none_taken ∙ left_all parts (length parts)) d;
    }
