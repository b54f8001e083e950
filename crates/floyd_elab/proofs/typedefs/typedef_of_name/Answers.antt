use Rattle.std.proofs.Common.{rules, ◌≡◌, is_some, Ok, ap, sym, ◌∙◌}
use Rattle.floyd_elab_names.specs.declared.meaning.Meaning.TheVariants as m
use Rattle.floyd_elab_data.specs.Constant.{constant_at as constant_at_lem}
use Rattle.floyd_elab.specs.declared.file.File.{File}
use Rattle.floyd_elab.specs.Files.{top, add_meaning}
use Rattle.floyd_elab.proofs.DeclareLemmas.{typedef_stops, typedef_is}
use Rattle.floyd_elab.proofs.FollowLemmas.{stopped_with}
use Rattle.floyd_elab.proofs.typedefs.typedef_of_name.Goals as goal

pub returns-in_err-judge_name : goal.returns-in_err-judge_name
returns-in_err-judge_name c =
    stopped_with c.from_residual.result c.in_err-judge_name.field-0.0 _ _ _ c.from_residual.ensures.1
    (typedef_stops c.args.i.now c.args.t.now c.args.file.now c.args.parts.specifiers.now c.args.parts.base.now c.args.parts.declarator.now c.returns_well.result c.is_new-may.result c.returns_well.ensures c.is_new-may.ensures
    c.in_err-judge_name.field-0.0 (c.in_err-judge_name.ensures c.args.file.now))

pub returns : goal.returns
returns c =
    let added : c.add_type.new.file ≡ add_meaning c.args.i.now.name (m.Type c.args.t.now (is_some (constant_at_lem (top c.args.file.now) c.args.parts.specifiers.now c.args.parts.base.now c.args.parts.declarator.now))) c.args.file.now = search rules in
    typedef_is c.args.i.now c.args.t.now c.args.file.now c.args.parts.specifiers.now c.args.parts.base.now c.args.parts.declarator.now c.returns_well.result c.is_new-may.result c.returns_well.ensures c.is_new-may.ensures
    (c.in_ok-judge_name.ensures c.args.file.now) ∙ sym (ap (λ (s : File). Ok (tt, s)) added)
