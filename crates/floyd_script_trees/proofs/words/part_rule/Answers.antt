use Rattle.std.proofs.Common.{rules, arith, ◌≡◌, refl}
use Rattle.std.specs.Prelude.{codes}
use Rattle.std.proofs.lemmas.Slice.Eq.{text_from_reads}
use Rattle.floyd_script_trees.proofs.words.part_rule.Goals as goal

pub returns-in-Intros : goal.returns-in-Intros
returns-in-Intros c = let same : c.args.text.now ≡ codes "Intros" = text_from_reads c.args.text.now (codes "Intros") (omega arith) (search rules) in rw same refl

pub returns-in-Exists : goal.returns-in-Exists
returns-in-Exists c = let same : c.args.text.now ≡ codes "Exists" = text_from_reads c.args.text.now (codes "Exists") (omega arith) (search rules) in rw same refl

pub returns-in-cancel : goal.returns-in-cancel
returns-in-cancel c = let same : c.args.text.now ≡ codes "cancel" = text_from_reads c.args.text.now (codes "cancel") (omega arith) (search rules) in rw same refl

pub returns-in-weaken : goal.returns-in-weaken
returns-in-weaken c = let same : c.args.text.now ≡ codes "weaken" = text_from_reads c.args.text.now (codes "weaken") (omega arith) (search rules) in rw same refl

pub returns-in-unfold : goal.returns-in-unfold
returns-in-unfold c = let same : c.args.text.now ≡ codes "unfold" = text_from_reads c.args.text.now (codes "unfold") (omega arith) (search rules) in rw same refl

pub returns-in-fold : goal.returns-in-fold
returns-in-fold c = let same : c.args.text.now ≡ codes "fold" = text_from_reads c.args.text.now (codes "fold") (omega arith) (search rules) in rw same refl

pub returns-in-facts : goal.returns-in-facts
returns-in-facts c = let same : c.args.text.now ≡ codes "facts" = text_from_reads c.args.text.now (codes "facts") (omega arith) (search rules) in rw same refl

pub returns-in-valid : goal.returns-in-valid
returns-in-valid c = let same : c.args.text.now ≡ codes "valid" = text_from_reads c.args.text.now (codes "valid") (omega arith) (search rules) in rw same refl

pub returns-in-apply : goal.returns-in-apply
returns-in-apply c = let same : c.args.text.now ≡ codes "apply" = text_from_reads c.args.text.now (codes "apply") (omega arith) (search rules) in rw same refl

pub returns-in-induction : goal.returns-in-induction
returns-in-induction c = let same : c.args.text.now ≡ codes "induction" = text_from_reads c.args.text.now (codes "induction") (omega arith) (search rules) in rw same refl

pub returns-in-97 : goal.returns-in-97
returns-in-97 c = let same : c.args.text.now ≡ codes "apply_ih" = text_from_reads c.args.text.now (codes "apply_ih") (omega arith) (search rules) in rw same refl
