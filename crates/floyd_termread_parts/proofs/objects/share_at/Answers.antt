use Rattle.std.proofs.Common.{◌≡◌, ℕ, false, Ok, Err, refl}
use Rattle.floyd_tree.specs.Plain.{Plain}
use Rattle.floyd_termread_scope.specs.Scopes.{env}
use Rattle.floyd_termread_marks.specs.Marks as marks
use Rattle.floyd_termread_parts.specs.Objects as objects
use Rattle.floyd_termread_parts.proofs.Chains.{stopped}
use Rattle.floyd_termread_parts.proofs.PartLemmas.{share_second}
use Rattle.floyd_termread_parts.proofs.objects.share_at.Goals as goal

pub returns-in_err-share-2-clause-exact : goal.returns-in_err-share-2-clause-exact
returns-in_err-share-2-clause-exact c =
    let unshared : marks.is_next c.args.text.bytes.now c.args.text.tokens.now marks.begins_type c.args.spot.at ≡ false = cc in
    stopped (λ (x : Plain × ℕ). x) (objects.share c.args.text.bytes.now c.args.text.tokens.now c.args.spot.depth (env c.args.scope.now c.args.bound.now) c.args.spot.at) c.from_residual-in_err-share-2.result c.in_err-share-2.field-0.0 c.from_residual-in_err-share-2.ensures.1 (λ refusal e. share_second c.args.text.bytes.now c.args.text.tokens.now c.args.spot.depth (env c.args.scope.now c.args.bound.now) c.args.spot.at unshared (Err refusal) (Err refusal, rw e at c.in_err-share-2.ensures.exact, refl))

pub returns-in_err-_place-clause-exact : goal.returns-in_err-_place-clause-exact
returns-in_err-_place-clause-exact c =
    let unshared : marks.is_next c.args.text.bytes.now c.args.text.tokens.now marks.begins_type c.args.spot.at ≡ false = cc in
    stopped (λ (x : Plain × ℕ). x) (objects.share c.args.text.bytes.now c.args.text.tokens.now c.args.spot.depth (env c.args.scope.now c.args.bound.now) c.args.spot.at) c.from_residual-in_err-_place.result c.in_err-_place.field-0.0 c.from_residual-in_err-_place.ensures.1 (λ refusal e. share_second c.args.text.bytes.now c.args.text.tokens.now c.args.spot.depth (env c.args.scope.now c.args.bound.now) c.args.spot.at unshared (Err refusal) (Ok (c.in_ok-share-2.share, c.in_ok-share-2.comma), c.in_ok-share-2.ensures.exact, (Err refusal, rw e at c.in_err-_place.ensures.exact, refl)))

pub returns-clause-exact : goal.returns-clause-exact
returns-clause-exact c =
    let unshared : marks.is_next c.args.text.bytes.now c.args.text.tokens.now marks.begins_type c.args.spot.at ≡ false = cc in
    share_second c.args.text.bytes.now c.args.text.tokens.now c.args.spot.depth (env c.args.scope.now c.args.bound.now) c.args.spot.at unshared _ (Ok (c.in_ok-share-2.share, c.in_ok-share-2.comma), c.in_ok-share-2.ensures.exact, (Ok (c.in_ok-_place._place, c.in_ok-_place.behind), c.in_ok-_place.ensures.exact, refl))
