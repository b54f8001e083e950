use Rattle.std.proofs.Common.{sym, ◌∙◌, ap}
use Rattle.floyd_clight.specs.Words.{first_word, first_of}
use Rattle.floyd_clight.proofs.WordLaws.{first_seq}
use Rattle.floyd_clight.proofs.word.+first.Goals as goal

pub first_word-returns-in-Seq : goal.first_word-returns-in-Seq
first_word-returns-in-Seq t c =
    c.first_of.ensures ∙ ap first_of c.as_slice.ensures ∙ sym (first_seq c.in-Seq.parts) ∙ ap first_word (sym c.in-Seq.is)
