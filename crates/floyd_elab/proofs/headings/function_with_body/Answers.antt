use Rattle.std.proofs.Common.{Result, sym, subst}
use Rattle.floyd_text.specs.declared.refusal.Refusal.{Refusal}
use Rattle.floyd_elab_names.specs.Refusing.{GivesWith}
use Rattle.floyd_elab.specs.declared.file.File.{File}
use Rattle.floyd_elab.proofs.FunctionLemmas.{heading_stops, heading_judged, defined_as}
use Rattle.floyd_elab.proofs.FollowLemmas.{stopped_with}
use Rattle.floyd_elab.proofs.headings.function_with_body.Goals as goal

pub returns-in_err-t : goal.returns-in_err-t
returns-in_err-t c =
    stopped_with c.from_residual-in_err-t.result c.in_err-t.field-0.0 _ _ _ c.from_residual-in_err-t.ensures.1
    (heading_stops c.args.f.now c.args.file.now c.in_err-t.field-0.0 c.in_err-t.ensures)

pub returns-in_err-judge_name : goal.returns-in_err-judge_name
returns-in_err-judge_name c =
    stopped_with c.from_residual-in_err-judge_name.result c.in_err-judge_name.field-0.0 _ _ _ c.from_residual-in_err-judge_name.ensures.1
    (heading_judged c.args.f.now c.in_ok-i.i c.in_ok-i.ensures c.args.file.now c.heading.new.file c.in_ok-t.t c.in_ok-t.ensures c.is_definable-fits.result c.may_be_here-may.result c.is_definable-fits.ensures c.may_be_here-may.ensures
    c.in_err-judge_name.field-0.0 (c.in_err-judge_name.ensures c.heading.new.file))

pub returns : goal.returns
returns c =
    subst (λ (wanted : Result (Unit {0} × File) Refusal). GivesWith (λ u. u) c.body_of_function.result c.body_of_function.new.file wanted)
    (sym (defined_as c.args.f.now c.in_ok-i.i c.in_ok-i.ensures c.args.file.now c.heading.new.file c.in_ok-t.t c.in_ok-t.ensures c.is_definable-fits.result c.may_be_here-may.result c.is_definable-fits.ensures c.may_be_here-may.ensures
    c.mention_function.new.file (c.in_ok-judge_name.ensures c.heading.new.file) c.in_ok-mention_function.ensures))
    c.body_of_function.ensures
