use Rattle.std.proofs.Common.{rules, arith, ◌≡◌, refl}
use Rattle.std.specs.Prelude.{codes}
use Rattle.std.proofs.lemmas.Slice.Eq.{text_from_reads}
use Rattle.floyd_script_trees.proofs.words.pure_rule.Goals as goal

pub returns-in-refl : goal.returns-in-refl
returns-in-refl c = let same : c.args.text.now ≡ codes "refl" = text_from_reads c.args.text.now (codes "refl") (omega arith) (search rules) in rw same refl

pub returns-in-trivial : goal.returns-in-trivial
returns-in-trivial c = let same : c.args.text.now ≡ codes "trivial" = text_from_reads c.args.text.now (codes "trivial") (omega arith) (search rules) in rw same refl

pub returns-in-intro : goal.returns-in-intro
returns-in-intro c = let same : c.args.text.now ≡ codes "intro" = text_from_reads c.args.text.now (codes "intro") (omega arith) (search rules) in rw same refl

pub returns-in-left : goal.returns-in-left
returns-in-left c = let same : c.args.text.now ≡ codes "left" = text_from_reads c.args.text.now (codes "left") (omega arith) (search rules) in rw same refl

pub returns-in-right : goal.returns-in-right
returns-in-right c = let same : c.args.text.now ≡ codes "right" = text_from_reads c.args.text.now (codes "right") (omega arith) (search rules) in rw same refl

pub returns-in-split : goal.returns-in-split
returns-in-split c = let same : c.args.text.now ≡ codes "split" = text_from_reads c.args.text.now (codes "split") (omega arith) (search rules) in rw same refl

pub returns-in-simpl : goal.returns-in-simpl
returns-in-simpl c = let same : c.args.text.now ≡ codes "simpl" = text_from_reads c.args.text.now (codes "simpl") (omega arith) (search rules) in rw same refl

pub returns-in-lia : goal.returns-in-lia
returns-in-lia c = let same : c.args.text.now ≡ codes "lia" = text_from_reads c.args.text.now (codes "lia") (omega arith) (search rules) in rw same refl
