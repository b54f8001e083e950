use Rattle.std.proofs.Common.{Option, ap, sym, ◌∙◌}
use Rattle.floyd_cparse_trees.specs.declared.types.Identifier.{Identifier}
use Rattle.floyd_specread_mentions.specs.Mentioned.{Names, names_among, with_name}
use Rattle.floyd_specread_mentions.proofs.MentionedLemmas.{one_more}
use Rattle.floyd_specread_mentions.proofs.names.names_of.Goals as goal

pub tokens-preserved : goal.tokens-preserved
tokens-preserved c =
    c.in_ok-put_name.ensures
    ∙ ap (λ (names : Names). with_name c.in_ok-found.found names) c.tokens.invariant
    ∙ ap (λ (found : Option Identifier). with_name found (names_among c.args.text.bytes.now c.args.text.tokens.now c.args.word.now c.tokens.i)) c.in_ok-found.ensures
    ∙ sym (one_more c.args.text.bytes.now c.args.text.tokens.now c.args.word.now c.tokens.i)
