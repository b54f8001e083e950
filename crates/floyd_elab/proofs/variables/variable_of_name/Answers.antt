use Rattle.std.proofs.Common.{Result, ap, sym, ◌∙◌, subst}
use Rattle.floyd_text.specs.declared.refusal.Refusal.{Refusal}
use Rattle.floyd_elab_names.specs.Refusing.{GivesWith}
use Rattle.floyd_elab.specs.declared.file.File.{File}
use Rattle.floyd_elab.specs.Units.{define_if}
use Rattle.floyd_elab.proofs.DeclareLemmas.{variable_stops, variable_is}
use Rattle.floyd_elab.proofs.FollowLemmas.{stopped_with}
use Rattle.floyd_elab.proofs.variables.variable_of_name.Goals as goal

pub returns-in_err-judge_name : goal.returns-in_err-judge_name
returns-in_err-judge_name c =
    stopped_with c.from_residual.result c.in_err-judge_name.field-0.0 _ _ _ c.from_residual.ensures.1
    (variable_stops c.args.i.now c.args.t.now c.args.file.now c.args.defines c.args.right.now c.is_object_type-fits.result c.may_be_here-may.result c.is_object_type-fits.ensures c.may_be_here-may.ensures
    c.in_err-judge_name.field-0.0 (c.in_err-judge_name.ensures c.args.file.now))

pub returns : goal.returns
returns c =
    subst (λ (wanted : Result (Unit {0} × File) Refusal). GivesWith (λ u. u) c.define_if.result c.define_if.new.file wanted)
    (sym (variable_is c.args.i.now c.args.t.now c.args.file.now c.args.defines c.args.right.now c.is_object_type-fits.result c.may_be_here-may.result c.is_object_type-fits.ensures c.may_be_here-may.ensures
    (c.in_ok-judge_name.ensures c.args.file.now)
    ∙ sym (ap (λ (s : File). define_if c.args.defines c.args.i.now c.args.t.now c.args.right.now s) c.in_ok-mention_variable.ensures)))
    c.define_if.ensures
