use Rattle.std.proofs.Common.{rules, arith, ◌≡◌, refl}
use Rattle.std.specs.Prelude.{codes}
use Rattle.std.proofs.lemmas.Slice.Eq.{text_from_reads}
use Rattle.floyd_termread_tokens.proofs.words.number_word.Goals as goal

pub returns-in-quot : goal.returns-in-quot
returns-in-quot c = let same : c.args.text.now ≡ codes "quot" = text_from_reads c.args.text.now (codes "quot") (omega arith) (search rules) in rw same refl

pub returns-in-rem : goal.returns-in-rem
returns-in-rem c = let same : c.args.text.now ≡ codes "rem" = text_from_reads c.args.text.now (codes "rem") (omega arith) (search rules) in rw same refl

pub returns-in-band : goal.returns-in-band
returns-in-band c = let same : c.args.text.now ≡ codes "band" = text_from_reads c.args.text.now (codes "band") (omega arith) (search rules) in rw same refl

pub returns-in-bor : goal.returns-in-bor
returns-in-bor c = let same : c.args.text.now ≡ codes "bor" = text_from_reads c.args.text.now (codes "bor") (omega arith) (search rules) in rw same refl

pub returns-in-bxor : goal.returns-in-bxor
returns-in-bxor c = let same : c.args.text.now ≡ codes "bxor" = text_from_reads c.args.text.now (codes "bxor") (omega arith) (search rules) in rw same refl

pub returns-in-bnot : goal.returns-in-bnot
returns-in-bnot c = let same : c.args.text.now ≡ codes "bnot" = text_from_reads c.args.text.now (codes "bnot") (omega arith) (search rules) in rw same refl

pub returns-in-shl : goal.returns-in-shl
returns-in-shl c = let same : c.args.text.now ≡ codes "shl" = text_from_reads c.args.text.now (codes "shl") (omega arith) (search rules) in rw same refl

pub returns-in-shr : goal.returns-in-shr
returns-in-shr c = let same : c.args.text.now ≡ codes "shr" = text_from_reads c.args.text.now (codes "shr") (omega arith) (search rules) in rw same refl

pub returns-in-eqz : goal.returns-in-eqz
returns-in-eqz c = let same : c.args.text.now ≡ codes "eqz" = text_from_reads c.args.text.now (codes "eqz") (omega arith) (search rules) in rw same refl

pub returns-in-ltz : goal.returns-in-ltz
returns-in-ltz c = let same : c.args.text.now ≡ codes "ltz" = text_from_reads c.args.text.now (codes "ltz") (omega arith) (search rules) in rw same refl

pub returns-in-lez : goal.returns-in-lez
returns-in-lez c = let same : c.args.text.now ≡ codes "lez" = text_from_reads c.args.text.now (codes "lez") (omega arith) (search rules) in rw same refl

pub returns-in-eqv : goal.returns-in-eqv
returns-in-eqv c = let same : c.args.text.now ≡ codes "eqv" = text_from_reads c.args.text.now (codes "eqv") (omega arith) (search rules) in rw same refl
