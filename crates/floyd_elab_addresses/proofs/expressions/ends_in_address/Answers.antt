use Rattle.std.proofs.Common.{ap, sym, ◌∙◌, length, slice_get}
use Rattle.std.proofs.Math.Numerals.{sub-one}
use Rattle.floyd_elab_addresses.proofs.ExpressionParts.{is_address_in, ends-last}
use Rattle.floyd_elab_addresses.proofs.expressions.ends_in_address.Goals as goal

pub returns-in-Some : goal.returns-in-Some
returns-in-Some c =
    let prefixes = c.args.prefixes.now in
    c.is_address.ensures
    ∙ ap is_address_in (c.in-Some.ensures.value ∙ ap (slice_get prefixes) (sub-one (length prefixes)))
    ∙ sym (ends-last prefixes)
