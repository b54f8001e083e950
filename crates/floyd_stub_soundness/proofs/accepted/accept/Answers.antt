use Rattle.std.proofs.Common.{◌≡◌, Ok, sym, ◌∙◌, ap}
use mathlib.Core.Path.{ap₂}
use Rattle.floyd_stub_goal.specs.Starts.{main_start}
use Rattle.floyd_stub_play.specs.Derivation.{played}
use Rattle.floyd_stub_soundness.specs.Programs.{spec_of}
use Rattle.floyd_stub_soundness.proofs.MainSound.{main_sound}
use Rattle.floyd_stub_soundness.proofs.accepted.accept.Goals as goal

pub invariant_of-result : goal.invariant_of-result
invariant_of-result c =
    let statements = c.args.program.statements in
    let spec = spec_of c.args.program.value in
    let proof = c.args.proof.now in
    let start : c.in_ok-start.start ≡ main_start statements spec =
    c.in_ok-start.ensures ∙ ap₂ main_start (c.in_ok-shared_statements.ensures ∙ c.as_slice.ensures) c.in_ok-spec_of.ensures in
    let plays : played proof (main_start statements spec) ≡ Ok tt = ap (played proof) (sym start) ∙ c.in_ok-play.ensures.exact in
    record { sound = main_sound statements spec proof plays; proved = c.in_ok-only_main.ensures }

pub returns-clause-sound : goal.returns-clause-sound
returns-clause-sound c =
    let statements = c.args.program.statements in
    let spec = spec_of c.args.program.value in
    let proof = c.args.proof.now in
    let start : c.in_ok-start.start ≡ main_start statements spec =
    c.in_ok-start.ensures ∙ ap₂ main_start (c.in_ok-shared_statements.ensures ∙ c.as_slice.ensures) c.in_ok-spec_of.ensures in
    let plays : played proof (main_start statements spec) ≡ Ok tt = ap (played proof) (sym start) ∙ c.in_ok-play.ensures.exact in
    record { sound = main_sound statements spec proof plays; proved = c.in_ok-only_main.ensures }
