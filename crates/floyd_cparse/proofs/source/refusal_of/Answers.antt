use Rattle.std.proofs.Common.{◌≡◌, ◌-◌, length, sym, ◌∙◌, ap}
use Rattle.floyd_cparse.specs.Source.{tokens_of}
use Rattle.floyd_cparse.proofs.EndLemmas.{refusal_here, all_tokens}
use Rattle.floyd_cparse.proofs.source.refusal_of.Goals as goal

pub returns : goal.returns
returns c =
    let bytes = c.args.bytes.now in
    let list = c.args.tokens.now in
    let at : c.saturating_sub-at.result ≡ length (tokens_of bytes list) - c.args.fault.left = c.saturating_sub-at.ensures ∙ ap (λ n. n - c.args.fault.left) (c.len.ensures ∙ sym (all_tokens bytes list)) in
    rw (c.at-2.ensures, c.code_of.ensures, c.in_ok-shown.ensures, ← at)
    (refusal_here bytes list c.args.file c.saturating_sub-at.result c.args.fault.cause c.text.result.now c.place.result c.text.ensures c.place.ensures)
