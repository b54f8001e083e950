use Rattle.std.proofs.Common.{◌+◌, List, ◌++◌, ap, sym, ◌∙◌}
use Rattle.floyd_text.specs.declared.place.Place.{Place}
use Rattle.floyd_specread_words.specs.Calls.{call_at}
use Rattle.floyd_specread_words.proofs.CallLemmas.{one_more}
use Rattle.floyd_specread_words.proofs.calls.calls_between.Goals as goal

pub tokens-preserved : goal.tokens-preserved
tokens-preserved c =
    c.in_ok-put_call.ensures
    ∙ ap (λ (places : List Place). places ++ call_at c.args.text.bytes.now c.args.text.tokens.now c.args.name.now (c.args.from + c.tokens.i)) c.tokens.invariant
    ∙ sym (one_more c.args.text.bytes.now c.args.text.tokens.now c.args.name.now c.args.from c.tokens.i)
