use Rattle.std.proofs.Common.{ℕ, Ok, Err, refl, sym, ◌∙◌}
use Rattle.floyd_lex.specs.declared.kinds.Punctuator.TheVariants as p
use Rattle.floyd_termread_tables.specs.declared.values.Want.TheVariants as want
use Rattle.floyd_termread_phrases.specs.Reads.{pure, ◌>>◌}
use Rattle.floyd_termread_marks.specs.Marks as marks
use Rattle.floyd_specread_skims.specs.Skims as specs
use Rattle.floyd_termread_parts.proofs.Chains.{stopped}
use Rattle.floyd_specread_skims.proofs.ChosenLemmas.{is_second}
use Rattle.floyd_specread_skims.proofs.phrases.skim_share.Goals as goal

pub returns-in_err-first-clause-exact : goal.returns-in_err-first-clause-exact
returns-in_err-first-clause-exact c =
    stopped (λ (n : ℕ). (tt, n)) (specs.share c.args.text.bytes.now c.args.text.tokens.now c.args.spot.depth c.args.spot.at) c.from_residual.result c.in_err-first.field-0.0 c.from_residual.ensures.1
    (λ refusal e. is_second (pure tt) (specs.phrase c.args.text.bytes.now c.args.text.tokens.now c.args.spot.depth want.Term >> (marks.mark c.args.text.bytes.now c.args.text.tokens.now c.args.spot.depth p.Comma >> pure tt)) (marks.is_next c.args.text.bytes.now c.args.text.tokens.now marks.begins_type c.args.spot.at) c.args.spot.at (Err refusal) (sym c.leads_type.ensures ∙ c.if-leads_type.false) (Err refusal, rw e at c.in_err-first.ensures.exact, refl))

pub returns-in_err-_comma-clause-exact : goal.returns-in_err-_comma-clause-exact
returns-in_err-_comma-clause-exact c =
    stopped (λ (n : ℕ). (tt, n)) (specs.share c.args.text.bytes.now c.args.text.tokens.now c.args.spot.depth c.args.spot.at) c.from_residual-in_err-_comma.result c.in_err-_comma.field-0.0 c.from_residual-in_err-_comma.ensures.1
    (λ refusal e. is_second (pure tt) (specs.phrase c.args.text.bytes.now c.args.text.tokens.now c.args.spot.depth want.Term >> (marks.mark c.args.text.bytes.now c.args.text.tokens.now c.args.spot.depth p.Comma >> pure tt)) (marks.is_next c.args.text.bytes.now c.args.text.tokens.now marks.begins_type c.args.spot.at) c.args.spot.at (Err refusal) (sym c.leads_type.ensures ∙ c.if-leads_type.false) (Ok (tt, c.in_ok-first.first), c.in_ok-first.ensures.exact, (Err refusal, rw e at c.in_err-_comma.ensures.exact, refl)))

pub returns-clause-exact : goal.returns-clause-exact
returns-clause-exact c =
    is_second (pure tt) (specs.phrase c.args.text.bytes.now c.args.text.tokens.now c.args.spot.depth want.Term >> (marks.mark c.args.text.bytes.now c.args.text.tokens.now c.args.spot.depth p.Comma >> pure tt)) (marks.is_next c.args.text.bytes.now c.args.text.tokens.now marks.begins_type c.args.spot.at) c.args.spot.at (Ok (tt, c.in_ok-_comma.behind)) (sym c.leads_type.ensures ∙ c.if-leads_type.false) (Ok (tt, c.in_ok-first.first), c.in_ok-first.ensures.exact, (Ok (c.in_ok-_comma._comma, c.in_ok-_comma.behind), c.in_ok-_comma.ensures.exact, refl))
