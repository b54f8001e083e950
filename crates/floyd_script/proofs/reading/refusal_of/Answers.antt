use Rattle.std.proofs.Common.{◌-◌, drop, sym, ◌∙◌, ap}
use Rattle.floyd_lex.specs.Token.{tokens_in}
use Rattle.floyd_script.proofs.ReadingLemmas.{refusal_seen, refusal_end}
use Rattle.floyd_script.proofs.reading.refusal_of.Goals as goal

pub returns-in-Ok : goal.returns-in-Ok
returns-in-Ok c =
    let at = c.saturating_sub-at.ensures ∙ ap (λ n. n - c.args.fault.left) c.len.ensures in
    rw (c.at.ensures, c.code_of.ensures, c.place.ensures, c.in_ok-shown-in-Ok.ensures, c.text.ensures)
    (sym
    (refusal_seen c.args.file c.args.bytes.now c.args.tokens.now c.args.fault c.in-Ok.token (drop 1 c.new.result)
    (sym (ap (λ n. drop n (tokens_in c.args.bytes.now c.args.tokens.now)) at) ∙ sym c.new.ensures ∙ c.in-Ok.ensures.ok)))

pub returns : goal.returns
returns c =
    let at = c.saturating_sub-at.ensures ∙ ap (λ n. n - c.args.fault.left) c.len.ensures in
    rw (c.at-in-Err.ensures, c.place_of-place.ensures)
    (sym
    (refusal_end c.args.file c.args.bytes.now c.args.tokens.now c.args.fault
    (sym (ap (λ n. drop n (tokens_in c.args.bytes.now c.args.tokens.now)) at) ∙ sym c.new.ensures ∙ c.in-Err.ensures.err.0)))
