use Rattle.std.proofs.Common.{rules, arith, ◌≡◌, refl}
use Rattle.std.specs.Prelude.{codes}
use Rattle.std.proofs.lemmas.Slice.Eq.{text_from_reads}
use Rattle.floyd_script_trees.proofs.words.statement_rule.Goals as goal

pub returns-in-forward : goal.returns-in-forward
returns-in-forward c = let same : c.args.text.now ≡ codes "forward" = text_from_reads c.args.text.now (codes "forward") (omega arith) (search rules) in rw same refl

pub returns-in-102 : goal.returns-in-102
returns-in-102 c = let same : c.args.text.now ≡ codes "forward_if" = text_from_reads c.args.text.now (codes "forward_if") (omega arith) (search rules) in rw same refl

pub returns-in-102-2 : goal.returns-in-102-2
returns-in-102-2 c = let same : c.args.text.now ≡ codes "forward_while" = text_from_reads c.args.text.now (codes "forward_while") (omega arith) (search rules) in rw same refl

pub returns-in-102-3 : goal.returns-in-102-3
returns-in-102-3 c = let same : c.args.text.now ≡ codes "forward_loop" = text_from_reads c.args.text.now (codes "forward_loop") (omega arith) (search rules) in rw same refl

pub returns-in-102-4 : goal.returns-in-102-4
returns-in-102-4 c = let same : c.args.text.now ≡ codes "forward_switch" = text_from_reads c.args.text.now (codes "forward_switch") (omega arith) (search rules) in rw same refl

pub returns-in-102-5 : goal.returns-in-102-5
returns-in-102-5 c = let same : c.args.text.now ≡ codes "forward_call" = text_from_reads c.args.text.now (codes "forward_call") (omega arith) (search rules) in rw same refl

pub returns-in-102-6 : goal.returns-in-102-6
returns-in-102-6 c = let same : c.args.text.now ≡ codes "forward_call_ptr" = text_from_reads c.args.text.now (codes "forward_call_ptr") (omega arith) (search rules) in rw same refl

pub returns-in-117 : goal.returns-in-117
returns-in-117 c = let same : c.args.text.now ≡ codes "use_spec" = text_from_reads c.args.text.now (codes "use_spec") (omega arith) (search rules) in rw same refl
