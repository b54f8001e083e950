use Rattle.std.proofs.Common.{rules, arith, ◌≡◌, refl}
use Rattle.std.specs.Prelude.{codes}
use Rattle.std.proofs.lemmas.Slice.Eq.{text_from_reads}
use Rattle.floyd_lex.proofs.keywords.integer_word.Goals as goal

pub returns-in-signed : goal.returns-in-signed
returns-in-signed c = let same : c.args.word.now ≡ codes "signed" = text_from_reads c.args.word.now (codes "signed") (omega arith) (search rules) in rw same refl

pub returns-in-unsigned : goal.returns-in-unsigned
returns-in-unsigned c = let same : c.args.word.now ≡ codes "unsigned" = text_from_reads c.args.word.now (codes "unsigned") (omega arith) (search rules) in rw same refl
