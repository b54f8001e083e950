use Rattle.std.proofs.Common.{◌≡◌, Option, subst, sym, ap, ◌∙◌}
use Rattle.std.proofs.lemmas.Result.{IfOk-weaker}
use Rattle.floyd_lex.specs.Token.{tokens_in}
use Rattle.floyd_stub_goal.specs.declared.script.Proof.{Proof}
use Rattle.floyd_check_stub.specs.Forms.{ReadsAs, IsScript}
use Rattle.floyd_check_stub.specs.LeftClauses.{left}
use Rattle.floyd_check_stub.specs.ReadingClauses.{script_of}
use Rattle.floyd_check_stub.proofs.ScriptForm.{script_reads}
use Rattle.floyd_check_stub.proofs.scripts.read_script.Goals as goal

pub returns : goal.returns
returns c =
    let ts = tokens_in c.args.bytes.now c.args.tokens.now in
    IfOk-weaker c.script_of.result (λ (s : Option Proof). s ≡ script_of (left c.all_of.result)) (ReadsAs (IsScript ts))
    (λ s e. subst (ReadsAs (IsScript ts)) (sym (e ∙ ap script_of c.all_of.ensures)) (script_reads ts))
    c.script_of.ensures
