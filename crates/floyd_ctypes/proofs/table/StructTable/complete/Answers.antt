use Rattle.std.proofs.Common.{◌≡◌, List, None, sym, ap, ◌∙◌, subst}
use Rattle.floyd_ctypes.specs.declared.field.Field.{Field}
use Rattle.floyd_ctypes.specs.declared.laid.Laid.{Laid}
use Rattle.floyd_ctypes.specs.Define.{completed, refusal, Refuses}
use Rattle.floyd_ctypes.specs.Layout.{layout, fields_layout, nothing_laid}
use Rattle.floyd_ctypes.specs.Stored.{IsTable, place_from}
use Rattle.floyd_ctypes.specs.Structs.{Structs}
use Rattle.floyd_ctypes.proofs.Tables.{IsReady, ready, table-put, completed-put}
use Rattle.floyd_ctypes.proofs.Refusals.{unrefused_open, handed_on, memory_answers}
use Rattle.floyd_ctypes.proofs.table.StructTable.complete.Goals as goal
use Rattle.floyd_ctypes.proofs.table.StructTable.complete.Goals.{In_ok-layout, In_ok-put}

-- nothing is refused once there is a layout
unrefused : (c : In_ok-layout) → refusal c.args.self.now c.args.tag.now c.args.fields ≡ None
unrefused c = ap (refusal c.args.self.now c.args.tag.now) (sym c.as_slice.ensures) ∙ c.in_ok-layout.ensures.answer

-- what is kept of the struct, and that it is right
kept : (c : In_ok-put) → Laid
kept c = record { fields = c.args.fields; layout = c.in_ok-layout.layout; places = c.in_ok-places.places }

kept_ready : (c : In_ok-put) → IsReady c.self.inside.structs.entries c.args.tag.now (kept c)
unfolding kept
kept_ready c =
    ready c.self.inside.structs.entries c.args.self.now c.args.tag.now (kept c) c.self.view_is c.requires.there
    (unrefused_open c.args.self.now c.args.tag.now c.as_slice.result.now c.in_ok-layout.ensures.answer)
    (ap (fields_layout (layout c.args.self.now)) (sym c.as_slice.ensures) ∙ c.in_ok-layout.ensures.value)
    (λ name. c.in_ok-places.ensures name ∙ ap (λ (fs : List Field). place_from (layout c.args.self.now) 0 nothing_laid fs name) c.as_slice-2.ensures)
    c.requires.some c.requires.few c.requires.fits

pub returns-in_err-layout-clause-answer : goal.returns-in_err-layout-clause-answer
returns-in_err-layout-clause-answer c =
    handed_on c.from_residual.result c.in_err-layout.field-0.0 _ c.from_residual.ensures.1
    (subst (λ (fs : List Field). Refuses c.in_err-layout.field-0.0 (refusal c.args.self.now c.args.tag.now fs)) c.as_slice.ensures c.in_err-layout.ensures.answer)

pub returns-in_err-places-clause-answer : goal.returns-in_err-places-clause-answer
returns-in_err-places-clause-answer c = memory_answers c.from_residual-in_err-places.result _ c.from_residual-in_err-places.ensures.1 (unrefused (goal.at.returns-in_err-places-clause-answer c).In_ok-layout)

pub returns-in_err-put-clause-answer : goal.returns-in_err-put-clause-answer
returns-in_err-put-clause-answer c = memory_answers c.from_residual-in_err-put.result _ c.from_residual-in_err-put.ensures.1 (unrefused (goal.at.returns-in_err-put-clause-answer c).In_ok-layout)

pub invariant_of-self : goal.invariant_of-self
invariant_of-self c = subst IsTable (sym c.in_err-put.ensures.err) c.self.invariant

pub invariant_of-self-2 : goal.invariant_of-self-2
unfolding kept
invariant_of-self-2 c =
    table-put c.self.inside.structs.entries c.put.new.structs.entries c.args.tag.now (kept (goal.at.invariant_of-self-2 c).In_ok-put)
    (kept_ready (goal.at.invariant_of-self-2 c).In_ok-put) c.in_ok-put.ensures.ok c.in_ok-put.ensures.updates c.self.invariant

pub returns-clause-ok : goal.returns-clause-ok
unfolding kept
returns-clause-ok c =
    completed-put c.self.inside.structs.entries c.put.new.structs.entries c.args.tag.now (kept c) (kept_ready c).there c.in_ok-put.ensures.ok
    ∙ ap (λ (structs : Structs). completed structs c.args.tag.now c.args.fields) c.self.view_is

pub returns-clause-answer : goal.returns-clause-answer
returns-clause-answer c = unrefused (goal.at.returns-clause-answer c).In_ok-layout
