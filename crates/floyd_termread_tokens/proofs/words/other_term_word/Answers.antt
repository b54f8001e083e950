use Rattle.std.proofs.Common.{rules, arith, ◌≡◌, refl}
use Rattle.std.specs.Prelude.{codes}
use Rattle.std.proofs.lemmas.Slice.Eq.{text_from_reads}
use Rattle.floyd_termread_tokens.proofs.words.other_term_word.Goals as goal

pub returns-in-nil : goal.returns-in-nil
returns-in-nil c = let same : c.args.text.now ≡ codes "nil" = text_from_reads c.args.text.now (codes "nil") (omega arith) (search rules) in rw same refl

pub returns-in-Leaf : goal.returns-in-Leaf
returns-in-Leaf c = let same : c.args.text.now ≡ codes "Leaf" = text_from_reads c.args.text.now (codes "Leaf") (omega arith) (search rules) in rw same refl

pub returns-in-gv : goal.returns-in-gv
returns-in-gv c = let same : c.args.text.now ≡ codes "gv" = text_from_reads c.args.text.now (codes "gv") (omega arith) (search rules) in rw same refl

pub returns-in-lv : goal.returns-in-lv
returns-in-lv c = let same : c.args.text.now ≡ codes "lv" = text_from_reads c.args.text.now (codes "lv") (omega arith) (search rules) in rw same refl

pub returns-in-signed : goal.returns-in-signed
returns-in-signed c = let same : c.args.text.now ≡ codes "signed" = text_from_reads c.args.text.now (codes "signed") (omega arith) (search rules) in rw same refl

pub returns-in-unsigned : goal.returns-in-unsigned
returns-in-unsigned c = let same : c.args.text.now ≡ codes "unsigned" = text_from_reads c.args.text.now (codes "unsigned") (omega arith) (search rules) in rw same refl

pub returns-in-100 : goal.returns-in-100
returns-in-100 c = let same : c.args.text.now ≡ codes "default" = text_from_reads c.args.text.now (codes "default") (omega arith) (search rules) in rw same refl
