use Rattle.std.proofs.Common.{◌≡◌, List, ℕ, ◌∷◌, ap, sym, ◌∙◌, subst, Ok, Err}
use Rattle.std.proofs.lemmas.Result.{err_from_is_err_and}
use Rattle.floyd_text.specs.Gives.{Stops}
use Rattle.floyd_check.specs.Checked.{Checks}
use Rattle.floyd_check.specs.Loading.{modules_of}
use Rattle.floyd_check.proofs.Checking.{all_files, checks_files, checks_project}
use Rattle.floyd_check.proofs.OneModule.{three_files}
use Rattle.floyd_check.proofs.check.check_bytes.Goals as goal

pub check_files-requires-clause-len : goal.check_files-requires-clause-len
check_files-requires-clause-len c =
    let split : c.args.files.now ≡ c.in-Some.bytes.now ∷ c.in-Some.others.now = sym c.as_slice.ensures ∙ c.in-Some.ensures.cases.0 in
    three_files c.in-Some.bytes.now c.in_ok-modules_of.field-0 c.in-Some.others.now (ap modules_of (sym c.as_slice-2.ensures) ∙ c.in_ok-modules_of.ensures.exact)
    (all_files c.args.files.now c.in-Some.bytes.now c.in-Some.others.now c.requires split).0

pub check_files-requires-clause-small : goal.check_files-requires-clause-small
check_files-requires-clause-small c =
    let split : c.args.files.now ≡ c.in-Some.bytes.now ∷ c.in-Some.others.now = sym c.as_slice.ensures ∙ c.in-Some.ensures.cases.0 in
    (all_files c.args.files.now c.in-Some.bytes.now c.in-Some.others.now c.requires split).1.files_small

pub returns-in_err-modules_of : goal.returns-in_err-modules_of
returns-in_err-modules_of c =
    let p = err_from_is_err_and c.from_residual.result c.from_residual.ensures.1 in
    let split : c.args.files.now ≡ c.in-Some.bytes.now ∷ c.in-Some.others.now = sym c.as_slice.ensures ∙ c.in-Some.ensures.cases.0 in
    let halt = c.in_err-modules_of.field-0.0 in
    let stops : Stops halt (modules_of c.in-Some.bytes.now) = subst (λ (b : List ℕ). Stops halt (modules_of b)) c.as_slice-2.ensures c.in_err-modules_of.ensures.exact in
    rw (p.1, p.2) (subst (λ (fs : List (List ℕ)). Checks c.args.project.now fs (Err halt)) (sym split) (checks_project c.args.project.now c.in-Some.bytes.now c.in-Some.others.now halt stops))

pub returns : goal.returns
returns c =
    let split : c.args.files.now ≡ c.in-Some.bytes.now ∷ c.in-Some.others.now = sym c.as_slice.ensures ∙ c.in-Some.ensures.cases.0 in
    let modules : modules_of c.in-Some.bytes.now ≡ Ok c.in_ok-modules_of.field-0 = ap modules_of (sym c.as_slice-2.ensures) ∙ c.in_ok-modules_of.ensures.exact in
    subst (λ (fs : List (List ℕ)). Checks c.args.project.now fs c.check_files.result) (sym split)
    (checks_files c.args.project.now c.in-Some.bytes.now c.in-Some.others.now c.in_ok-modules_of.field-0 c.check_files.result modules c.check_files.ensures)
