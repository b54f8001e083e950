use Rattle.std.proofs.Common.{rules, ◌≡◌, ◌++◌, ◌∷◌, map, drop, ◌+◌, ap, sym, subst, ◌∙◌, []}
use Rattle.std.proofs.lemmas.List.{append_assoc, drop_more}
use Rattle.std.specs.List.{AllByRecursion}
use Rattle.floyd_proved.specs.Claims.{IsProved}
use Rattle.floyd_soundness.specs.Keys.{key_of}
use Rattle.floyd_soundness.proofs.keys.keys_of.Goals as goal

pub proofs-preserved : goal.proofs-preserved
proofs-preserved c =
    let L = c.args.linked.now in
    let all = c.args.proved.now in
    let i = c.proofs.proof-index in
    let next : drop i all ≡ c.proof-item.result ∷ drop (i + 1) all = drop_more all i c.proof-item.result c.proofs-test.true ∙ ap (λ y. y ∷ drop (i + 1) all) (sym c.proof-item.is) in
    let pushed : c.push.new.self ≡ c.proofs.keys ++ key_of L c.proof-item.result ∷ [] = search rules in
    let rest = map (key_of L) (drop (i + 1) all) in (
      ap (λ keys. keys ++ rest) pushed
          ∙ append_assoc c.proofs.keys (key_of L c.proof-item.result ∷ []) rest
          ∙ ap (λ xs. c.proofs.keys ++ map (key_of L) xs) (sym next)
          ∙ c.proofs.invariant.0,
      λ h. c.proofs.invariant.1 (subst (AllByRecursion IsProved) (sym next) (c.claim.ensures.holds, h)),
    )
