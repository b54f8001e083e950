use Rattle.std.proofs.Common.{rules, arith, ◌≡◌, refl}
use Rattle.std.specs.Prelude.{codes}
use Rattle.std.proofs.lemmas.Slice.Eq.{text_from_reads}
use Rattle.floyd_termread_tokens.proofs.words.item_word.Goals as goal

pub returns-in-IMPORT : goal.returns-in-IMPORT
returns-in-IMPORT c = let same : c.args.text.now ≡ codes "IMPORT" = text_from_reads c.args.text.now (codes "IMPORT") (omega arith) (search rules) in rw same refl

pub returns-in-FUN : goal.returns-in-FUN
returns-in-FUN c = let same : c.args.text.now ≡ codes "FUN" = text_from_reads c.args.text.now (codes "FUN") (omega arith) (search rules) in rw same refl

pub returns-in-PRED : goal.returns-in-PRED
returns-in-PRED c = let same : c.args.text.now ≡ codes "PRED" = text_from_reads c.args.text.now (codes "PRED") (omega arith) (search rules) in rw same refl

pub returns-in-LEMMA : goal.returns-in-LEMMA
returns-in-LEMMA c = let same : c.args.text.now ≡ codes "LEMMA" = text_from_reads c.args.text.now (codes "LEMMA") (omega arith) (search rules) in rw same refl

pub returns-in-WITH : goal.returns-in-WITH
returns-in-WITH c = let same : c.args.text.now ≡ codes "WITH" = text_from_reads c.args.text.now (codes "WITH") (omega arith) (search rules) in rw same refl

pub returns-in-GIVES : goal.returns-in-GIVES
returns-in-GIVES c = let same : c.args.text.now ≡ codes "GIVES" = text_from_reads c.args.text.now (codes "GIVES") (omega arith) (search rules) in rw same refl

pub returns-in-SPEC : goal.returns-in-SPEC
returns-in-SPEC c = let same : c.args.text.now ≡ codes "SPEC" = text_from_reads c.args.text.now (codes "SPEC") (omega arith) (search rules) in rw same refl

pub returns-in-DECLARE : goal.returns-in-DECLARE
returns-in-DECLARE c = let same : c.args.text.now ≡ codes "DECLARE" = text_from_reads c.args.text.now (codes "DECLARE") (omega arith) (search rules) in rw same refl

pub returns-in-EXTERN : goal.returns-in-EXTERN
returns-in-EXTERN c = let same : c.args.text.now ≡ codes "EXTERN" = text_from_reads c.args.text.now (codes "EXTERN") (omega arith) (search rules) in rw same refl

pub returns-in-PRE : goal.returns-in-PRE
returns-in-PRE c = let same : c.args.text.now ≡ codes "PRE" = text_from_reads c.args.text.now (codes "PRE") (omega arith) (search rules) in rw same refl

pub returns-in-POST : goal.returns-in-POST
returns-in-POST c = let same : c.args.text.now ≡ codes "POST" = text_from_reads c.args.text.now (codes "POST") (omega arith) (search rules) in rw same refl

pub returns-in-77 : goal.returns-in-77
returns-in-77 c = let same : c.args.text.now ≡ codes "MAIN_PRE" = text_from_reads c.args.text.now (codes "MAIN_PRE") (omega arith) (search rules) in rw same refl
