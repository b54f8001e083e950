use Rattle.floyd_lex.proofs.ListLemmas.{text_at_index, cut_within}
use Rattle.floyd_lex.proofs.list.Tokens.text.Goals as goal

pub returns : goal.returns
returns c =
    rw (c.min.ensures, c.min-end.ensures, cut_within c.args.bytes.now c.span-start.result.0 c.span-start.result.1)
    (text_at_index c.args.bytes.now c.args.self.now.items c.args.at c.span-start.result.0 c.span-start.result.1 c.span-start.ensures)
