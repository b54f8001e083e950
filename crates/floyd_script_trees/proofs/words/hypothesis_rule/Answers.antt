use Rattle.std.proofs.Common.{rules, arith, ◌≡◌, refl}
use Rattle.std.specs.Prelude.{codes}
use Rattle.std.proofs.lemmas.Slice.Eq.{text_from_reads}
use Rattle.floyd_script_trees.proofs.words.hypothesis_rule.Goals as goal

pub returns-in-law : goal.returns-in-law
returns-in-law c = let same : c.args.text.now ≡ codes "law" = text_from_reads c.args.text.now (codes "law") (omega arith) (search rules) in rw same refl

pub returns-in-rewrite : goal.returns-in-rewrite
returns-in-rewrite c = let same : c.args.text.now ≡ codes "rewrite" = text_from_reads c.args.text.now (codes "rewrite") (omega arith) (search rules) in rw same refl

pub returns-in-cut : goal.returns-in-cut
returns-in-cut c = let same : c.args.text.now ≡ codes "cut" = text_from_reads c.args.text.now (codes "cut") (omega arith) (search rules) in rw same refl

pub returns-in-destruct : goal.returns-in-destruct
returns-in-destruct c = let same : c.args.text.now ≡ codes "destruct" = text_from_reads c.args.text.now (codes "destruct") (omega arith) (search rules) in rw same refl

pub returns-in-specialize : goal.returns-in-specialize
returns-in-specialize c = let same : c.args.text.now ≡ codes "specialize" = text_from_reads c.args.text.now (codes "specialize") (omega arith) (search rules) in rw same refl

pub returns-in-mp : goal.returns-in-mp
returns-in-mp c = let same : c.args.text.now ≡ codes "mp" = text_from_reads c.args.text.now (codes "mp") (omega arith) (search rules) in rw same refl

pub returns-in-117 : goal.returns-in-117
returns-in-117 c = let same : c.args.text.now ≡ codes "unfold_fun" = text_from_reads c.args.text.now (codes "unfold_fun") (omega arith) (search rules) in rw same refl

pub returns-in-discriminate : goal.returns-in-discriminate
returns-in-discriminate c = let same : c.args.text.now ≡ codes "discriminate" = text_from_reads c.args.text.now (codes "discriminate") (omega arith) (search rules) in rw same refl

pub returns-in-inject : goal.returns-in-inject
returns-in-inject c = let same : c.args.text.now ≡ codes "inject" = text_from_reads c.args.text.now (codes "inject") (omega arith) (search rules) in rw same refl
