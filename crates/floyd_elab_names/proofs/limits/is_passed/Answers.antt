use Rattle.std.proofs.Common.{ap, sym, ◌∙◌}
use Rattle.floyd_elab_names.specs.Types.{has_size as has_size_lem, is_passed as is_passed_lem}
use Rattle.floyd_elab_names.proofs.LimitLemmas.{passed_array}
use Rattle.floyd_elab_names.proofs.limits.is_passed.Goals as goal

pub returns-in-Array : goal.returns-in-Array
returns-in-Array c =
    let s = c.args.structs.now in
    c.has_size.ensures ∙ ap (has_size_lem s) c.get.ensures ∙ sym (ap (is_passed_lem s) c.in-Array.is ∙ passed_array s c.in-Array.element c.in-Array.field-1)
