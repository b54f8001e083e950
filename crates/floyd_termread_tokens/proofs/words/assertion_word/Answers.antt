use Rattle.std.proofs.Common.{rules, arith, ◌≡◌, refl}
use Rattle.std.specs.Prelude.{codes}
use Rattle.std.proofs.lemmas.Slice.Eq.{text_from_reads}
use Rattle.floyd_termread_tokens.proofs.words.assertion_word.Goals as goal

pub returns-in-EX : goal.returns-in-EX
returns-in-EX c = let same : c.args.text.now ≡ codes "EX" = text_from_reads c.args.text.now (codes "EX") (omega arith) (search rules) in rw same refl

pub returns-in-PROP : goal.returns-in-PROP
returns-in-PROP c = let same : c.args.text.now ≡ codes "PROP" = text_from_reads c.args.text.now (codes "PROP") (omega arith) (search rules) in rw same refl

pub returns-in-LOCAL : goal.returns-in-LOCAL
returns-in-LOCAL c = let same : c.args.text.now ≡ codes "LOCAL" = text_from_reads c.args.text.now (codes "LOCAL") (omega arith) (search rules) in rw same refl

pub returns-in-SEP : goal.returns-in-SEP
returns-in-SEP c = let same : c.args.text.now ≡ codes "SEP" = text_from_reads c.args.text.now (codes "SEP") (omega arith) (search rules) in rw same refl

pub returns-in-PARAMS : goal.returns-in-PARAMS
returns-in-PARAMS c = let same : c.args.text.now ≡ codes "PARAMS" = text_from_reads c.args.text.now (codes "PARAMS") (omega arith) (search rules) in rw same refl

pub returns-in-GLOBALS : goal.returns-in-GLOBALS
returns-in-GLOBALS c = let same : c.args.text.now ≡ codes "GLOBALS" = text_from_reads c.args.text.now (codes "GLOBALS") (omega arith) (search rules) in rw same refl

pub returns-in-RETURN : goal.returns-in-RETURN
returns-in-RETURN c = let same : c.args.text.now ≡ codes "RETURN" = text_from_reads c.args.text.now (codes "RETURN") (omega arith) (search rules) in rw same refl

pub returns-in-temp : goal.returns-in-temp
returns-in-temp c = let same : c.args.text.now ≡ codes "temp" = text_from_reads c.args.text.now (codes "temp") (omega arith) (search rules) in rw same refl

pub returns-in-100 : goal.returns-in-100
returns-in-100 c = let same : c.args.text.now ≡ codes "data_at" = text_from_reads c.args.text.now (codes "data_at") (omega arith) (search rules) in rw same refl

pub returns-in-100-2 : goal.returns-in-100-2
returns-in-100-2 c = let same : c.args.text.now ≡ codes "data_at_" = text_from_reads c.args.text.now (codes "data_at_") (omega arith) (search rules) in rw same refl

pub returns-in-102 : goal.returns-in-102
returns-in-102 c = let same : c.args.text.now ≡ codes "field_at" = text_from_reads c.args.text.now (codes "field_at") (omega arith) (search rules) in rw same refl

pub returns-in-padding : goal.returns-in-padding
returns-in-padding c = let same : c.args.text.now ≡ codes "padding" = text_from_reads c.args.text.now (codes "padding") (omega arith) (search rules) in rw same refl

pub returns-in-valid : goal.returns-in-valid
returns-in-valid c = let same : c.args.text.now ≡ codes "valid" = text_from_reads c.args.text.now (codes "valid") (omega arith) (search rules) in rw same refl

pub returns-in-TT : goal.returns-in-TT
returns-in-TT c = let same : c.args.text.now ≡ codes "TT" = text_from_reads c.args.text.now (codes "TT") (omega arith) (search rules) in rw same refl
