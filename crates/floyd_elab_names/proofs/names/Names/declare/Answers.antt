use Rattle.std.proofs.Common.{◌++◌, ◌∷◌, [], ◌≡◌, ℕ, List, Some, cond, bytes_eq, refl, ap, sym, ◌∙◌, subst}
use Rattle.indexmap.specs.IndexMap.{get}
use Rattle.floyd_elab_names.specs.declared.meaning.Meaning.{Meaning}
use Rattle.floyd_elab_names.specs.declared.names.Change.{Change}
use Rattle.floyd_elab_names.specs.Scopes.{Scopes, with_meaning}
use Rattle.floyd_elab_names.specs.ChangeClauses.{is_new as is_new_lem}
use Rattle.floyd_elab_names.proofs.NameLemmas.{declared_last, kept_again, kept_fresh}
use Rattle.floyd_elab_names.proofs.names.Names.declare.Goals as goal

pub invariant_of-self-then-not-is_new : goal.invariant_of-self-then-not-is_new
invariant_of-self-then-not-is_new c =
    kept_again c.self.inside.changes c.push.new.self _ c.self.inside.depth c.args.name.now c.in_ok-meaning.meaning _ c.self.invariant
    (c.in_ok-push.ensures.ok ∙ ap (λ (x : Change). c.self.inside.changes ++ x ∷ []) c.in_ok-change.ensures) refl
    (ap (λ (s : Scopes). is_new_lem s c.args.name.now) c.self.view_is ∙ sym c.is_new-is_new.ensures ∙ c.if-not-is_new.true)

pub returns-then-not-is_new-clause-ok : goal.returns-then-not-is_new-clause-ok
returns-then-not-is_new-clause-ok c =
    declared_last c.self.inside.changes c.push.new.self c.args.self.now c.args.name.now c.in_ok-meaning.meaning _
    (c.in_ok-push.ensures.ok ∙ ap (λ (x : Change). c.self.inside.changes ++ x ∷ []) c.in_ok-change.ensures) c.self.view_is
    ∙ ap (λ (m : Meaning). with_meaning c.args.name.now m c.args.self.now) c.in_ok-meaning.ensures

pub invariant_of-self-2 : goal.invariant_of-self-2
invariant_of-self-2 c =
    kept_fresh c.self.inside.changes c.put.new.changes _ _ c.self.inside.depth c.args.name.now c.in_ok-meaning.meaning _ c.self.invariant
    (c.in_ok-put.ensures.changes ∙ ap (λ (x : Change). c.self.inside.changes ++ x ∷ []) c.in_ok-change.ensures) refl
    (ap (λ (s : Scopes). is_new_lem s c.args.name.now) c.self.view_is ∙ sym c.is_new-is_new.ensures ∙ c.if-not-is_new.false)
    (subst (λ name. (q : List ℕ) → get bytes_eq c.put.new.visible q ≡ cond (bytes_eq name q) (Some (record { depth = c.self.inside.depth; meaning = c.in_ok-meaning.meaning })) (get bytes_eq c.self.inside.visible q))
    c.in_ok-share.ensures c.in_ok-put.ensures.visible)

pub returns-clause-ok : goal.returns-clause-ok
returns-clause-ok c =
    declared_last c.self.inside.changes c.put.new.changes c.args.self.now c.args.name.now c.in_ok-meaning.meaning _
    (c.in_ok-put.ensures.changes ∙ ap (λ (x : Change). c.self.inside.changes ++ x ∷ []) c.in_ok-change.ensures) c.self.view_is
    ∙ ap (λ (m : Meaning). with_meaning c.args.name.now m c.args.self.now) c.in_ok-meaning.ensures
