use Rattle.std.proofs.Common.{◌+◌, refl, sym, ap, ◌∙◌, ◌∷◌, [], ◌++◌, drop}
use Rattle.std.proofs.lemmas.List.{append_assoc}
use Rattle.floyd_assert.specs.RemovalClauses.{left}
use Rattle.floyd_assert.proofs.Marks.{left_taken, left_there}
use Rattle.floyd_assert.proofs.removal.share_left.Goals as goal
use Rattle.floyd_assert.proofs.removal.share_left.Goals.{then-not-taken-i+in_ok-share+in_ok-push, else-not-taken-i}

pub parts-preserved : goal.parts-preserved
parts-preserved c =
    let parts = c.args.parts.now in
    let taken = c.args.taken.now in
    let i = c.parts.i in
    let rest = left (drop (i + 1) parts) (drop (i + 1) taken) in
    elim c.if-not-taken-i.branch [
      | then-not-taken-i+in_ok-share+in_ok-push w ↦
          ap (λ all. all.items ++ rest) w.all-is
          ∙ ap (λ xs. xs ++ rest) w.in_ok-push.ensures.items
          ∙ append_assoc c.parts.all.items (w.in_ok-share.field-0 ∷ []) rest
          ∙ ap (λ p. c.parts.all.items ++ (p ∷ rest)) (w.in_ok-share.ensures ∙ w.index-parts-i.is)
          ∙ ap (λ xs. c.parts.all.items ++ xs) (sym (left_there parts taken i (i + 1) _ _ refl c.requires c.parts-test.true w.if-not-taken-i.true))
          ∙ c.parts.invariant
      | else-not-taken-i w ↦
          ap (λ all. all.items ++ rest) w.all-is
          ∙ ap (λ xs. c.parts.all.items ++ xs) (sym (left_taken parts taken i (i + 1) _ refl c.requires c.parts-test.true w.if-not-taken-i.false))
          ∙ c.parts.invariant
    ]
