use Rattle.std.proofs.Common.{◌≡◌, ◌+◌, ◌≤◌, List, [], ◌∷◌, ◌++◌, ℕ, Option, sym, ◌∙◌, subst, refl, arith, ap, Ok, Err, drop, get_or, length, length-append}
use Rattle.std.specs.Prelude.{All}
use Rattle.std.specs.List.{sum_by}
use Rattle.std.proofs.lemmas.List.Elements.{All-nil, All-push}
use Rattle.std.proofs.lemmas.List.Sums.{sum_by_push}
use Rattle.floyd_text.specs.Outside.{Files}
use Rattle.std.proofs.lemmas.Result.{err_from_is_err_and}
use Rattle.floyd_cli.specs.LoadClauses.{ReadsNext, HasNext}
use Rattle.floyd_cli.proofs.LoadLemmas.{Leads, leads_start, leads_more_at, leads_end_at, named_more_at, stopped_at}
use Rattle.floyd_cli.proofs.load.read_files.Goals as goal

pub file-init : goal.file-init
file-init g c = record {
  held = refl;
  later = omega arith;
  small = omega arith;
  each = subst (All (λ bytes. length bytes ≤ 4194304)) (sym c.new-files.ensures) (All-nil (λ bytes. length bytes ≤ 4194304));
  sum = ap (sum_by length) c.new-files.ensures;
  len = ap length c.new-files.ensures;
  named = c.requires;
  leads = subst (λ (before : List (List ℕ)). Leads (g.H.Shelf.held c.args.shelf.now) c.args.project.now c.args.named.now before 0 c.args.named.now)
      (sym c.new-files.ensures) (leads_start (g.H.Shelf.held c.args.shelf.now) c.args.project.now c.args.named.now);
}

pub returns-in_err-bytes-clause-gives : goal.returns-in_err-bytes-clause-gives
returns-in_err-bytes-clause-gives g c =
    let held = g.H.Shelf.held c.args.shelf.now in
    let project = c.args.project.now in
    let file = c.file-item.result in
    let p = err_from_is_err_and c.from_residual.result c.from_residual.ensures.1 in
    let is : file ≡ get_or c.args.named.now c.file.file-index file = c.file-item.is in
    let stop : ReadsNext held project c.file.total file (g.H.Shelf.faults c.file.shelf) (g.H.Shelf.faults c.read_next.new.shelf) (Err c.in_err-bytes.field-0.0) =
    subst (λ (h : Option Files). ReadsNext h project c.file.total file (g.H.Shelf.faults c.file.shelf) (g.H.Shelf.faults c.read_next.new.shelf) (Err c.in_err-bytes.field-0.0)) c.file.invariant.held c.in_err-bytes.ensures.gives in
    rw (p.1, p.2) (stopped_at held project c.args.named.now c.file.files c.file.total c.file.file-index file (g.H.Shelf.faults c.file.shelf) (g.H.Shelf.faults c.read_next.new.shelf)
    c.in_err-bytes.field-0.0 c.file-test.true is c.file.invariant.leads stop (g.H.Shelf.faults c.args.shelf.now) c.file.invariant.later)

pub file-preserved : goal.file-preserved
file-preserved g c =
    let held = g.H.Shelf.held c.args.shelf.now in
    let project = c.args.project.now in
    let named = c.args.named.now in
    let file = c.file-item.result in
    let bytes = c.in_ok-bytes.bytes in
    let total = c.file.total in
    let rest = drop (c.file.file-index + 1) named in
    let is : file ≡ get_or named c.file.file-index file = c.file-item.is in
    let next : HasNext held project total file (Ok bytes) = subst (λ (h : Option Files). HasNext h project total file (Ok bytes)) c.file.invariant.held c.in_ok-bytes.ensures.gives in
    let more : Leads held project named (c.file.files ++ bytes ∷ []) (total + length bytes) rest =
    leads_more_at held project named c.file.files total c.file.file-index file bytes c.file-test.true is c.file.invariant.leads next in
    record {
      held = c.in_ok-bytes.ensures.held ∙ c.file.invariant.held;
      later = omega (arith, c.file.invariant.later, c.in_ok-bytes.ensures.later);
      small = omega (arith, c.len.ensures, c.in_ok-bytes.ensures.within);
      each = subst (All (λ b. length b ≤ 4194304)) (sym c.in_ok-push.ensures.ok) (All-push (λ b. length b ≤ 4194304) c.file.files bytes c.file.invariant.each c.in_ok-bytes.ensures.small);
      sum = ap (sum_by length) c.in_ok-push.ensures.ok ∙ sum_by_push length c.file.files bytes ∙ omega (arith, c.file.invariant.sum, c.len.ensures);
      len = ap length c.in_ok-push.ensures.ok ∙ length-append c.file.files (bytes ∷ []) ∙ ap (λ n. n + 1) c.file.invariant.len;
      named = named_more_at named c.file.file-index file c.file-test.true c.file.invariant.named;
      leads = subst (λ (before : List (List ℕ)). Leads held project named before (total + c.len.result) rest) (sym c.in_ok-push.ensures.ok)
          (subst (λ (n : ℕ). Leads held project named (c.file.files ++ bytes ∷ []) (total + n) rest) (sym c.len.ensures) more);
    }

pub returns-clause-gives : goal.returns-clause-gives
returns-clause-gives g c =
    leads_end_at (g.H.Shelf.held c.args.shelf.now) c.args.project.now c.args.named.now c.file.files c.file.total c.file.file-index (omega (arith, c.file-test.false)) c.file.invariant.leads
