use Rattle.floyd_termread_tables.specs.declared.values.Want.TheVariants as want
use Rattle.floyd_termread_passages.specs.Passages.{term_passage, formula_passage, type_passage, path_passage}
use Rattle.floyd_termread_phrases.proofs.PhraseLemmas.{one_answer}
use Rattle.floyd_termread_phrases.proofs.laws.has_one_answer.Goals as goal

pub returns : goal.returns
returns c bytes list depth e = (
  λ expected. one_answer (term_passage e expected) want.Term bytes list depth,
  one_answer (formula_passage e) want.Formula bytes list depth,
  one_answer (type_passage e) want.Type bytes list depth,
  one_answer (path_passage e) want.Path bytes list depth,
)
