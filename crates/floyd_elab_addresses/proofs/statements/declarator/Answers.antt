use Rattle.std.proofs.Common.{◌≡◌, ℕ, ◌||◌, List, [], ◌∷◌, false, if◌then◌else◌, bytes_eq, ap, ◌∙◌}
use Rattle.std.proofs.lemmas.Result.{on_ok_weaker}
use Rattle.floyd_elab_names.specs.Declarators.{name_of, name_or_none}
use Rattle.floyd_elab_addresses.specs.Addresses.{is_named, in_initialiser}
use Rattle.floyd_elab_addresses.specs.SetClauses.{is_among}
use Rattle.floyd_elab_addresses.proofs.Adding.{flag_first}
use Rattle.floyd_elab_addresses.proofs.statements.declarator.Goals as goal

pub returns-in_ok-push_first-in-Some : goal.returns-in_ok-push_first-in-Some
returns-in_ok-push_first-in-Some c =
    let right = c.args.d.now.initialiser in
    let old = c.args.taken.now in
    let name = c.in-Some.identifier.now.name in
    record {
      taken = λ x.
          c.remove.ensures x
          ∙ ap (λ u. if bytes_eq x name then false else u) (c.in_ok-initialiser.ensures x)
          ∙ ap (λ o. if is_named x o then false else (in_initialiser x right || is_among old x)) c.in-Some.ensures;
      flags =
          c.in_ok-push_first-in-Some.ensures
          ∙ ap (λ b. b ∷ c.args.flags.now)
          (c.contains.ensures
          ∙ c.in_ok-initialiser.ensures name
          ∙ ap (λ o. in_initialiser (name_or_none o) right || is_among old (name_or_none o)) c.in-Some.ensures);
    }

pub returns-in_ok-nameless-in-None : goal.returns-in_ok-nameless-in-None
returns-in_ok-nameless-in-None c =
    let right = c.args.d.now.initialiser in
    let old = c.args.taken.now in
    let name = name_of c.args.d.now.declarator in
    let unnamed : (x : List ℕ) → is_among c.initialiser.new.self x ≡ (if is_named x name then false else (in_initialiser x right || is_among old x)) =
    λ x.
    c.in_ok-initialiser.ensures x
    ∙ ap (λ o. if is_named x o then false else (in_initialiser x right || is_among old x)) c.in-None.ensures in
    record {
      taken = on_ok_weaker _ (λ _. unnamed) c.push_first-in-None.ensures;
      flags = on_ok_weaker _
          (flag_first c.push_first-in-None.new.self c.args.flags.now c.contains-in-None.result
          (in_initialiser (name_or_none name) right || is_among old (name_or_none name))
          (c.contains-in-None.ensures
          ∙ ap (is_among c.initialiser.new.self) c.in_ok-nameless-in-None.ensures
          ∙ c.in_ok-initialiser.ensures []
          ∙ ap (λ o. in_initialiser (name_or_none o) right || is_among old (name_or_none o)) c.in-None.ensures))
          c.push_first-in-None.ensures;
    }
