use Rattle.std.proofs.Common.{◌≡◌, List, ℕ, Ok, Err, Result, sym, subst}
use Rattle.std.proofs.lemmas.Result.{err_from_is_err_and}
use Rattle.floyd_text.specs.declared.refusal.Halt.{Halt}
use Rattle.floyd_lex.specs.declared.kinds.FileKind.TheVariants as kind
use Rattle.floyd_check_stub.specs.Forms.{IsSpec, IsScript}
use Rattle.floyd_stub_soundness.specs.Programs.{Acceptance}
use Rattle.floyd_check.specs.CheckedClauses.{ChecksModule}
use Rattle.floyd_check.specs.FileReading.{ReadsFile, ReadsSource}
use Rattle.floyd_check.proofs.Checking.{heard_in, source_stops, spec_stops, script_stops, plays}
use Rattle.floyd_check.proofs.FewCommands.{file_few}
use Rattle.floyd_check.proofs.check.check_module.Goals as goal

pub returns-in_err-statements : goal.returns-in_err-statements
returns-in_err-statements c =
    let p = err_from_is_err_and c.from_residual.result c.from_residual.ensures.1 in
    let halt = c.in_err-statements.field-0.0 in
    rw (p.1, p.2) (source_stops c.args.project.now c.args.source.now c.args.spec.now c.args.script.now halt
    (heard_in 1 (ReadsSource c.args.source.now) c.source_in.result (Err halt) c.source_in.ensures c.in_err-statements.ensures))

pub returns-in_err-value : goal.returns-in_err-value
returns-in_err-value c =
    let p = err_from_is_err_and c.from_residual-in_err-value.result c.from_residual-in_err-value.ensures.1 in
    let statements = c.in_ok-statements.statements in
    let halt = c.in_err-value.field-0.0 in
    rw (p.1, p.2) (spec_stops c.args.project.now c.args.source.now c.args.spec.now c.args.script.now
    statements (heard_in 1 (ReadsSource c.args.source.now) c.source_in.result (Ok statements) c.source_in.ensures c.in_ok-statements.ensures)
    halt (heard_in 2 (ReadsFile IsSpec kind.Spec 2 c.args.spec.now) c.spec_in.result (Err halt) c.spec_in.ensures c.in_err-value.ensures))

pub returns-in_err-proof : goal.returns-in_err-proof
returns-in_err-proof c =
    let p = err_from_is_err_and c.from_residual-in_err-proof.result c.from_residual-in_err-proof.ensures.1 in
    let statements = c.in_ok-statements.statements in
    let value = c.in_ok-value.value in
    let halt = c.in_err-proof.field-0.0 in
    rw (p.1, p.2) (script_stops c.args.project.now c.args.source.now c.args.spec.now c.args.script.now
    statements (heard_in 1 (ReadsSource c.args.source.now) c.source_in.result (Ok statements) c.source_in.ensures c.in_ok-statements.ensures)
    value (heard_in 2 (ReadsFile IsSpec kind.Spec 2 c.args.spec.now) c.spec_in.result (Ok value) c.spec_in.ensures c.in_ok-value.ensures)
    halt (heard_in 3 (ReadsFile IsScript kind.Script 3 c.args.script.now) c.script_in.result (Err halt) c.script_in.ensures c.in_err-proof.ensures))

pub accept-requires : goal.accept-requires
accept-requires c =
    let proof = c.in_ok-proof.proof in
    record {
      few = file_few c.args.script.now proof
          (heard_in 3 (ReadsFile IsScript kind.Script 3 c.args.script.now) c.script_in.result (Ok proof) c.script_in.ensures c.in_ok-proof.ensures);
    }

pub returns : goal.returns
returns c =
    let statements = c.in_ok-statements.statements in
    let value = c.in_ok-value.value in
    let proof = c.in_ok-proof.proof in
    subst (λ (r : Result Acceptance Halt). ChecksModule c.args.project.now c.args.source.now c.args.spec.now c.args.script.now r) (sym c.in_file-4.ensures)
    (plays c.args.project.now c.args.source.now c.args.spec.now c.args.script.now
    statements (heard_in 1 (ReadsSource c.args.source.now) c.source_in.result (Ok statements) c.source_in.ensures c.in_ok-statements.ensures)
    value (heard_in 2 (ReadsFile IsSpec kind.Spec 2 c.args.spec.now) c.spec_in.result (Ok value) c.spec_in.ensures c.in_ok-value.ensures)
    proof (heard_in 3 (ReadsFile IsScript kind.Script 3 c.args.script.now) c.script_in.result (Ok proof) c.script_in.ensures c.in_ok-proof.ensures)
    c.accept.result c.accept.ensures.exact c.accept.ensures.is c.accept.ensures.sound)
