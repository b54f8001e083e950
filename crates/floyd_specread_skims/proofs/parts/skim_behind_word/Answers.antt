use Rattle.std.proofs.Common.{ℕ, sym, subst}
use Rattle.floyd_termread_marks.specs.declared.words.AssertionWord.{AssertionWord}
use Rattle.floyd_termread_phrases.specs.Reads.{Answers}
use Rattle.floyd_specread_skims.specs.Skims as specs
use Rattle.floyd_specread_skims.proofs.parts.skim_behind_word.Goals as goal

pub returns-in-DataAt-clause-exact : goal.returns-in-DataAt-clause-exact
returns-in-DataAt-clause-exact c =
    subst (λ (w : AssertionWord). Answers (λ (n : ℕ). (tt {0}, n)) (specs.opened c.args.text.bytes.now c.args.text.tokens.now c.args.spot.depth w c.args.spot.at) c.skim_opened.result → Answers (λ (n : ℕ). (tt {0}, n)) (specs.behind_word c.args.text.bytes.now c.args.text.tokens.now c.args.spot.depth w c.args.spot.at) c.skim_opened.result) (sym c.in-DataAt.is) (λ d. d) c.skim_opened.ensures.exact

pub returns-in-DataAtDefault-clause-exact : goal.returns-in-DataAtDefault-clause-exact
returns-in-DataAtDefault-clause-exact c =
    subst (λ (w : AssertionWord). Answers (λ (n : ℕ). (tt {0}, n)) (specs.opened c.args.text.bytes.now c.args.text.tokens.now c.args.spot.depth w c.args.spot.at) c.skim_opened-in-DataAtDefault.result → Answers (λ (n : ℕ). (tt {0}, n)) (specs.behind_word c.args.text.bytes.now c.args.text.tokens.now c.args.spot.depth w c.args.spot.at) c.skim_opened-in-DataAtDefault.result) (sym c.in-DataAtDefault.is) (λ d. d) c.skim_opened-in-DataAtDefault.ensures.exact

pub returns-in-FieldAt-clause-exact : goal.returns-in-FieldAt-clause-exact
returns-in-FieldAt-clause-exact c =
    subst (λ (w : AssertionWord). Answers (λ (n : ℕ). (tt {0}, n)) (specs.opened c.args.text.bytes.now c.args.text.tokens.now c.args.spot.depth w c.args.spot.at) c.skim_opened-in-FieldAt.result → Answers (λ (n : ℕ). (tt {0}, n)) (specs.behind_word c.args.text.bytes.now c.args.text.tokens.now c.args.spot.depth w c.args.spot.at) c.skim_opened-in-FieldAt.result) (sym c.in-FieldAt.is) (λ d. d) c.skim_opened-in-FieldAt.ensures.exact

pub returns-in-Padding-clause-exact : goal.returns-in-Padding-clause-exact
returns-in-Padding-clause-exact c =
    subst (λ (w : AssertionWord). Answers (λ (n : ℕ). (tt {0}, n)) (specs.opened c.args.text.bytes.now c.args.text.tokens.now c.args.spot.depth w c.args.spot.at) c.skim_opened-in-Padding.result → Answers (λ (n : ℕ). (tt {0}, n)) (specs.behind_word c.args.text.bytes.now c.args.text.tokens.now c.args.spot.depth w c.args.spot.at) c.skim_opened-in-Padding.result) (sym c.in-Padding.is) (λ d. d) c.skim_opened-in-Padding.ensures.exact
