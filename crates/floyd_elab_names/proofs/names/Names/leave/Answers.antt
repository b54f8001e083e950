use Rattle.std.proofs.Common.{ap, sym, ◌∙◌, ◌++◌, ◌∷◌, []}
use Rattle.floyd_elab_names.specs.declared.names.Change.{Change}
use Rattle.floyd_elab_names.proofs.NameLemmas.{left_entered, left_declared, found_declared, left_inner, left_same}
use Rattle.floyd_elab_names.proofs.names.Names.leave.Goals as goal

pub overflow_sub-self : goal.overflow_sub-self
overflow_sub-self c =
    (left_entered c.pop.new.self c.changes.self-inside.changes _ c.changes.self-inside.depth c.changes.invariant.kept
    (c.in-Some.ensures ∙ ap (λ (x : Change). c.pop.new.self ++ x ∷ []) c.in-None.ensures)).0

pub invariant_of-self : goal.invariant_of-self
invariant_of-self c =
    (left_entered c.pop.new.self c.changes.self-inside.changes _ c.changes.self-inside.depth c.changes.invariant.kept
    (c.in-Some.ensures ∙ ap (λ (x : Change). c.pop.new.self ++ x ∷ []) c.in-None.ensures)).1

pub returns-in-None : goal.returns-in-None
returns-in-None c =
    sym (left_inner c.pop.new.self c.changes.self-inside.changes (c.in-Some.ensures ∙ ap (λ (x : Change). c.pop.new.self ++ x ∷ []) c.in-None.ensures))
    ∙ c.changes.invariant.same

pub undo-requires : goal.undo-requires
undo-requires c =
    let d = c.in-Some-into_declared.ensures in
    found_declared c.pop.new.self c.changes.self-inside.changes _ c.changes.self-inside.depth c.in-Some-into_declared.name d.0 c.in-Some-into_declared.before c.changes.invariant.kept
    (c.in-Some.ensures ∙ ap (λ (x : Change). c.pop.new.self ++ x ∷ []) d.1)

pub changes-preserved : goal.changes-preserved
changes-preserved c =
    let d = c.in-Some-into_declared.ensures in
    let is = c.in-Some.ensures ∙ ap (λ (x : Change). c.pop.new.self ++ x ∷ []) d.1 in
    record {
      kept =
          left_declared c.pop.new.self c.changes.self-inside.changes _ _ c.changes.self-inside.depth c.in-Some-into_declared.name d.0 c.in-Some-into_declared.before
          c.changes.invariant.kept is c.undo.ensures;
      same = sym (left_same c.pop.new.self c.changes.self-inside.changes c.in-Some-into_declared.name d.0 c.in-Some-into_declared.before is) ∙ c.changes.invariant.same;
    }
