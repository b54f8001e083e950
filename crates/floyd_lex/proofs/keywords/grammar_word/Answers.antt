use Rattle.std.proofs.Common.{rules, arith, ◌≡◌, refl}
use Rattle.std.specs.Prelude.{codes}
use Rattle.std.proofs.lemmas.Slice.Eq.{text_from_reads}
use Rattle.floyd_lex.proofs.keywords.grammar_word.Goals as goal

pub returns-in-typedef : goal.returns-in-typedef
returns-in-typedef c = let same : c.args.word.now ≡ codes "typedef" = text_from_reads c.args.word.now (codes "typedef") (omega arith) (search rules) in rw same refl

pub returns-in-extern : goal.returns-in-extern
returns-in-extern c = let same : c.args.word.now ≡ codes "extern" = text_from_reads c.args.word.now (codes "extern") (omega arith) (search rules) in rw same refl

pub returns-in-struct : goal.returns-in-struct
returns-in-struct c = let same : c.args.word.now ≡ codes "struct" = text_from_reads c.args.word.now (codes "struct") (omega arith) (search rules) in rw same refl

pub returns-in-continue : goal.returns-in-continue
returns-in-continue c = let same : c.args.word.now ≡ codes "continue" = text_from_reads c.args.word.now (codes "continue") (omega arith) (search rules) in rw same refl

pub returns-in-return : goal.returns-in-return
returns-in-return c = let same : c.args.word.now ≡ codes "return" = text_from_reads c.args.word.now (codes "return") (omega arith) (search rules) in rw same refl

pub returns-in-sizeof : goal.returns-in-sizeof
returns-in-sizeof c = let same : c.args.word.now ≡ codes "sizeof" = text_from_reads c.args.word.now (codes "sizeof") (omega arith) (search rules) in rw same refl

pub returns-in-100 : goal.returns-in-100
returns-in-100 c = let same : c.args.word.now ≡ codes "default" = text_from_reads c.args.word.now (codes "default") (omega arith) (search rules) in rw same refl
