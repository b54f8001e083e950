use Rattle.std.proofs.Common.{◌≡◌, map, None, Some, Err, sym, ap, subst, ◌∙◌}
use Rattle.std.specs.List.{AllByRecursion, flat_map}
use Rattle.floyd_goal_meaning.specs.declared.linked.Linked.{Linked}
use Rattle.floyd_proved.specs.Claims.{IsProved}
use Rattle.floyd_soundness.specs.Accepted.{IsSoundProgram, proved_name, trusted_name}
use Rattle.floyd_soundness.specs.Keys.{is_proved, key_of}
use Rattle.floyd_soundness.specs.Unproved.{first_from, missing, missing_of}
use Rattle.floyd_soundness.proofs.ProvedSound.{first_by, is_sound, judged_by}
use Rattle.floyd_soundness.proofs.judging.sound.Goals as goal

pub returns-in-Some-clause-exact : goal.returns-in-Some-clause-exact
returns-in-Some-clause-exact c =
    let L = c.args.linked in
    let claims = c.args.proved in
    let keys = c.in_ok-keys.keys in
    let are : keys ≡ map (key_of L) claims = c.in_ok-keys.ensures.are ∙ ap (map (key_of L)) c.as_slice.ensures in
    let missing_are : c.in_ok-all.all ≡ missing_of (is_proved keys) L =
    c.in_ok-all.ensures
    ∙ ap (λ ks. missing_of (is_proved ks) c.parts.result.now) c.as_slice-2.ensures
    ∙ ap (missing_of (is_proved keys)) c.parts.ensures in
    judged_by L claims keys c.in_ok-all.all (Some c.in-Some.first.now) are missing_are (c.in-Some.ensures ∙ ap (first_from None) c.as_slice-3.ensures)
    ∙ ap Err (sym c.in_ok-refused.ensures)

pub invariant_of-result : goal.invariant_of-result
invariant_of-result c =
    let L = c.args.linked in
    let claims = c.args.proved in
    let keys = c.in_ok-keys.keys in
    let are : keys ≡ map (key_of L) claims = c.in_ok-keys.ensures.are ∙ ap (map (key_of L)) c.as_slice.ensures in
    let missing_are : c.in_ok-all.all ≡ missing_of (is_proved keys) L =
    c.in_ok-all.ensures
    ∙ ap (λ ks. missing_of (is_proved ks) c.parts.result.now) c.as_slice-2.ensures
    ∙ ap (missing_of (is_proved keys)) c.parts.ensures in
    let hold : AllByRecursion IsProved claims = subst (AllByRecursion IsProved) c.as_slice.ensures c.in_ok-keys.ensures.hold in
    let none : None ≡ first_from None (missing L claims) = first_by L claims keys c.in_ok-all.all None are missing_are (c.in_default.ensures ∙ ap (first_from None) c.as_slice-3.ensures) in
    let program : IsSoundProgram L = record { sound = is_sound L claims c.requires.links c.requires.small c.requires.proofs hold (sym none) } in
    let functions = c.as_slice-functions.ensures ∙ ap (λ (P : Linked). P.functions) c.parts-2.ensures in
    record {
      program = program;
      proved_are = c.in_ok-names.ensures ∙ ap (flat_map proved_name) functions;
      trusted_are = c.in_ok-trusted.ensures ∙ ap (flat_map trusted_name) functions;
    }

pub returns-clause-exact : goal.returns-clause-exact
returns-clause-exact c =
    let L = c.args.linked in
    let claims = c.args.proved in
    let keys = c.in_ok-keys.keys in
    let are : keys ≡ map (key_of L) claims = c.in_ok-keys.ensures.are ∙ ap (map (key_of L)) c.as_slice.ensures in
    let missing_are : c.in_ok-all.all ≡ missing_of (is_proved keys) L =
    c.in_ok-all.ensures
    ∙ ap (λ ks. missing_of (is_proved ks) c.parts.result.now) c.as_slice-2.ensures
    ∙ ap (missing_of (is_proved keys)) c.parts.ensures in
    judged_by L claims keys c.in_ok-all.all None are missing_are (c.in_default.ensures ∙ ap (first_from None) c.as_slice-3.ensures)

pub returns-clause-sound : goal.returns-clause-sound
returns-clause-sound c =
    let L = c.args.linked in
    let claims = c.args.proved in
    let keys = c.in_ok-keys.keys in
    let are : keys ≡ map (key_of L) claims = c.in_ok-keys.ensures.are ∙ ap (map (key_of L)) c.as_slice.ensures in
    let missing_are : c.in_ok-all.all ≡ missing_of (is_proved keys) L =
    c.in_ok-all.ensures
    ∙ ap (λ ks. missing_of (is_proved ks) c.parts.result.now) c.as_slice-2.ensures
    ∙ ap (missing_of (is_proved keys)) c.parts.ensures in
    let hold : AllByRecursion IsProved claims = subst (AllByRecursion IsProved) c.as_slice.ensures c.in_ok-keys.ensures.hold in
    let none : None ≡ first_from None (missing L claims) = first_by L claims keys c.in_ok-all.all None are missing_are (c.in_default.ensures ∙ ap (first_from None) c.as_slice-3.ensures) in
    let program : IsSoundProgram L = record { sound = is_sound L claims c.requires.links c.requires.small c.requires.proofs hold (sym none) } in
    program
