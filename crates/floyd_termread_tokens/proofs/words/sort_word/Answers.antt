use Rattle.std.proofs.Common.{rules, arith, ◌≡◌, refl}
use Rattle.std.specs.Prelude.{codes}
use Rattle.std.proofs.lemmas.Slice.Eq.{text_from_reads}
use Rattle.floyd_termread_tokens.proofs.words.sort_word.Goals as goal

pub returns-in-Z : goal.returns-in-Z
returns-in-Z c = let same : c.args.text.now ≡ codes "Z" = text_from_reads c.args.text.now (codes "Z") (omega arith) (search rules) in rw same refl

pub returns-in-val : goal.returns-in-val
returns-in-val c = let same : c.args.text.now ≡ codes "val" = text_from_reads c.args.text.now (codes "val") (omega arith) (search rules) in rw same refl

pub returns-in-list : goal.returns-in-list
returns-in-list c = let same : c.args.text.now ≡ codes "list" = text_from_reads c.args.text.now (codes "list") (omega arith) (search rules) in rw same refl

pub returns-in-tree : goal.returns-in-tree
returns-in-tree c = let same : c.args.text.now ≡ codes "tree" = text_from_reads c.args.text.now (codes "tree") (omega arith) (search rules) in rw same refl

pub returns-in-prod : goal.returns-in-prod
returns-in-prod c = let same : c.args.text.now ≡ codes "prod" = text_from_reads c.args.text.now (codes "prod") (omega arith) (search rules) in rw same refl
