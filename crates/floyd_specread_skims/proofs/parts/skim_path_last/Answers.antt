use Rattle.std.proofs.Common.{ℕ, Ok}
use Rattle.floyd_specread_skims.specs.Skims as specs
use Rattle.floyd_termread_parts.proofs.Chains.{carried}
use Rattle.floyd_specread_skims.proofs.ChosenLemmas.{is_first, is_second}
use Rattle.floyd_specread_skims.proofs.parts.skim_path_last.Goals as goal

pub returns-then-has_value-clause-exact : goal.returns-then-has_value-clause-exact
returns-then-has_value-clause-exact c =
    carried (λ (n : ℕ). (tt {0}, n)) (specs.path_last c.args.text.bytes.now c.args.text.tokens.now c.args.spot.depth c.args.has_value c.args.spot.at) c.skim_last_two.result (specs.last_two c.args.text.bytes.now c.args.text.tokens.now c.args.spot.depth c.in_ok-first.first) c.skim_last_two.ensures.exact
    (λ a d. (Ok (tt, c.in_ok-first.first), c.in_ok-first.ensures.exact, is_first (specs.last_two c.args.text.bytes.now c.args.text.tokens.now c.args.spot.depth) (specs.last c.args.text.bytes.now c.args.text.tokens.now c.args.spot.depth) c.args.has_value c.in_ok-first.first a c.if-has_value.true d))

pub returns-clause-exact : goal.returns-clause-exact
returns-clause-exact c =
    carried (λ (n : ℕ). (tt {0}, n)) (specs.path_last c.args.text.bytes.now c.args.text.tokens.now c.args.spot.depth c.args.has_value c.args.spot.at) c.skim_last.result (specs.last c.args.text.bytes.now c.args.text.tokens.now c.args.spot.depth c.in_ok-first.first) c.skim_last.ensures.exact
    (λ a d. (Ok (tt, c.in_ok-first.first), c.in_ok-first.ensures.exact, is_second (specs.last_two c.args.text.bytes.now c.args.text.tokens.now c.args.spot.depth) (specs.last c.args.text.bytes.now c.args.text.tokens.now c.args.spot.depth) c.args.has_value c.in_ok-first.first a c.if-has_value.false d))
