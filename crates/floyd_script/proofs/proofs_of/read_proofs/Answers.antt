use Rattle.std.proofs.Common.{sym, ◌∙◌}
use Rattle.floyd_cparse_tokens.proofs.ReadLemmas.{gives_next}
use Rattle.floyd_script.proofs.ScriptExact.{proof_eats}
use Rattle.floyd_script.proofs.proofs_of.read_proofs.Goals as goal

pub each-smaller : goal.each-smaller
each-smaller c = (proof_eats c.args.bytes.now c.args.tokens.now).law c.each.reader c.in_ok-proof.proof c.read_proof.new.reader c.in_ok-proof.ensures

pub each-preserved : goal.each-preserved
each-preserved c =
    rw c.in_ok-push.ensures.ok
    (gives_next c.each.invariant (proof_eats c.args.bytes.now c.args.tokens.now) (sym c.leads_any.ensures ∙ c.each-test.true) c.in_ok-proof.proof c.read_proof.new.reader c.in_ok-proof.ensures)
