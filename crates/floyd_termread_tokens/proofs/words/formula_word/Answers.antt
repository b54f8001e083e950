use Rattle.std.proofs.Common.{rules, arith, ◌≡◌, refl}
use Rattle.std.specs.Prelude.{codes}
use Rattle.std.proofs.lemmas.Slice.Eq.{text_from_reads}
use Rattle.floyd_termread_tokens.proofs.words.formula_word.Goals as goal

pub returns-in-or : goal.returns-in-or
returns-in-or c = let same : c.args.text.now ≡ codes "or" = text_from_reads c.args.text.now (codes "or") (omega arith) (search rules) in rw same refl

pub returns-in-and : goal.returns-in-and
returns-in-and c = let same : c.args.text.now ≡ codes "and" = text_from_reads c.args.text.now (codes "and") (omega arith) (search rules) in rw same refl

pub returns-in-not : goal.returns-in-not
returns-in-not c = let same : c.args.text.now ≡ codes "not" = text_from_reads c.args.text.now (codes "not") (omega arith) (search rules) in rw same refl

pub returns-in-forall : goal.returns-in-forall
returns-in-forall c = let same : c.args.text.now ≡ codes "forall" = text_from_reads c.args.text.now (codes "forall") (omega arith) (search rules) in rw same refl

pub returns-in-exists : goal.returns-in-exists
returns-in-exists c = let same : c.args.text.now ≡ codes "exists" = text_from_reads c.args.text.now (codes "exists") (omega arith) (search rules) in rw same refl

pub returns-in-True : goal.returns-in-True
returns-in-True c = let same : c.args.text.now ≡ codes "True" = text_from_reads c.args.text.now (codes "True") (omega arith) (search rules) in rw same refl

pub returns-in-False : goal.returns-in-False
returns-in-False c = let same : c.args.text.now ≡ codes "False" = text_from_reads c.args.text.now (codes "False") (omega arith) (search rules) in rw same refl

pub returns-in-isptr : goal.returns-in-isptr
returns-in-isptr c = let same : c.args.text.now ≡ codes "isptr" = text_from_reads c.args.text.now (codes "isptr") (omega arith) (search rules) in rw same refl

pub returns-in-defined : goal.returns-in-defined
returns-in-defined c = let same : c.args.text.now ≡ codes "defined" = text_from_reads c.args.text.now (codes "defined") (omega arith) (search rules) in rw same refl

pub returns-in-hasty : goal.returns-in-hasty
returns-in-hasty c = let same : c.args.text.now ≡ codes "hasty" = text_from_reads c.args.text.now (codes "hasty") (omega arith) (search rules) in rw same refl

pub returns-in-compatible : goal.returns-in-compatible
returns-in-compatible c = let same : c.args.text.now ≡ codes "compatible" = text_from_reads c.args.text.now (codes "compatible") (omega arith) (search rules) in rw same refl

pub returns-in-102 : goal.returns-in-102
returns-in-102 c = let same : c.args.text.now ≡ codes "func_ptr" = text_from_reads c.args.text.now (codes "func_ptr") (omega arith) (search rules) in rw same refl
