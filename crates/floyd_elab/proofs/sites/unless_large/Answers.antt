use Rattle.std.proofs.Common.{rules, ◌≡◌, Err, ap, sym, ◌∙◌}
use Rattle.floyd_text.specs.declared.refusal.Refusal.{Refusal}
use Rattle.floyd_elab_names.specs.Refusals.{left_out as left_out_lem}
use Rattle.floyd_elab_names.specs.Declarators.{limit_site as limit_site_lem}
use Rattle.floyd_elab_statements.specs.Locals.{nowhere as nowhere_lem}
use Rattle.floyd_elab.proofs.SiteLemmas.{is_small, is_large}
use Rattle.floyd_elab.proofs.sites.unless_large.Goals as goal

pub returns-then-is_object_within : goal.returns-then-is_object_within
returns-then-is_object_within c = is_small c.args.d.now c.args.t.now c.args.file.now (sym c.is_object_within.ensures ∙ c.if-is_object_within.true)

pub returns : goal.returns
returns c =
    let same : c.in_ok-left_out.field-0 ≡ left_out_lem (limit_site_lem nowhere_lem c.args.d.now) = search rules in
    is_large c.args.d.now c.args.t.now c.args.file.now (sym c.is_object_within.ensures ∙ c.if-is_object_within.false) ∙ sym (ap (λ (r : Refusal). Err r) same)
