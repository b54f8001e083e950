use Rattle.std.proofs.Common.{Result, ap, sym, ◌∙◌, subst}
use Rattle.floyd_text.specs.declared.refusal.Refusal.{Refusal}
use Rattle.floyd_elab_names.specs.Refusing.{GivesWith}
use Rattle.floyd_elab.specs.declared.file.File.{File}
use Rattle.floyd_elab.specs.Units.{no_initialiser as no_initialiser_lem}
use Rattle.floyd_elab.proofs.DeclareLemmas.{function_stops, function_is}
use Rattle.floyd_elab.proofs.FollowLemmas.{stopped_with}
use Rattle.floyd_elab.proofs.functions.function_of_name.Goals as goal

pub returns-in_err-judge_name : goal.returns-in_err-judge_name
returns-in_err-judge_name c =
    stopped_with c.from_residual.result c.in_err-judge_name.field-0.0 _ _ _ c.from_residual.ensures.1
    (function_stops c.args.i.now c.args.t.now c.args.file.now c.args.right.now c.returns_well.result c.may_declare_function-may.result c.returns_well.ensures c.may_declare_function-may.ensures
    c.in_err-judge_name.field-0.0 (c.in_err-judge_name.ensures c.args.file.now))

pub returns : goal.returns
returns c =
    subst (λ (wanted : Result (Unit {0} × File) Refusal). GivesWith (λ u. u) c.no_initialiser.result c.mention_function.new.file wanted)
    (sym (function_is c.args.i.now c.args.t.now c.args.file.now c.args.right.now c.returns_well.result c.may_declare_function-may.result c.returns_well.ensures c.may_declare_function-may.ensures
    (c.in_ok-judge_name.ensures c.args.file.now)
    ∙ sym (ap (λ (s : File). no_initialiser_lem c.args.right.now s) c.in_ok-mention_function.ensures)))
    c.no_initialiser.ensures
