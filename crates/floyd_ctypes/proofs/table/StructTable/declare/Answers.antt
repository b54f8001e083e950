use Rattle.std.proofs.Common.{sym, ap, ◌∙◌, subst}
use Rattle.floyd_ctypes.specs.Define.{declared}
use Rattle.floyd_ctypes.specs.Stored.{IsTable}
use Rattle.floyd_ctypes.specs.Structs.{Structs, has_tag}
use Rattle.floyd_ctypes.proofs.Options.{is_none}
use Rattle.floyd_ctypes.proofs.Seen.{has_tag-seen}
use Rattle.floyd_ctypes.proofs.Tables.{table-new, declared-new}
use Rattle.floyd_ctypes.proofs.table.StructTable.declare.Goals as goal

pub invariant_of-self : goal.invariant_of-self
invariant_of-self c =
    table-new c.self.inside.structs.entries c.put.new.structs.entries c.args.tag.now
    (sym (is_none _ (sym c.if-not-contains.true ∙ c.contains.ensures ∙ ap (λ (structs : Structs). has_tag structs c.args.tag.now) (sym c.self.view_is) ∙ has_tag-seen c.self.inside.structs.entries c.args.tag.now)))
    c.in_ok-put.ensures.ok c.in_ok-put.ensures.updates c.self.invariant

pub invariant_of-self-in_err-put : goal.invariant_of-self-in_err-put
invariant_of-self-in_err-put c = subst IsTable (sym c.in_err-put.ensures.err) c.self.invariant

pub returns-in_ok-put-clause-ok : goal.returns-in_ok-put-clause-ok
returns-in_ok-put-clause-ok c =
    declared-new c.self.inside.structs.entries c.put.new.structs.entries c.args.tag.now
    (sym (is_none _ (sym c.if-not-contains.true ∙ c.contains.ensures ∙ ap (λ (structs : Structs). has_tag structs c.args.tag.now) (sym c.self.view_is) ∙ has_tag-seen c.self.inside.structs.entries c.args.tag.now)))
    c.in_ok-put.ensures.ok
    ∙ ap (λ (structs : Structs). declared structs c.args.tag.now) c.self.view_is
