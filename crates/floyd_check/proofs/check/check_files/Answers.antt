use Rattle.std.proofs.Common.{List, ℕ, subst}
use Rattle.floyd_check.specs.CheckedClauses.{ChecksModule}
use Rattle.floyd_check.proofs.Checking.{three_in_order}
use Rattle.floyd_check.proofs.check.check_files.Goals as goal

pub returns : goal.returns
returns c =
    let name = c.args.project.now in
    let source = c.index-files-0.result in
    let spec = c.index-files-1.result in
    let script = c.index-files-2.result in
    let r = c.check_module.result in
    let one : ChecksModule name source c.as_slice-2.result.now c.as_slice-3.result.now r =
    subst (λ (p : List ℕ). ChecksModule name p c.as_slice-2.result.now c.as_slice-3.result.now r) c.as_slice.ensures c.check_module.ensures in
    let two : ChecksModule name source spec c.as_slice-3.result.now r = subst (λ (p : List ℕ). ChecksModule name source p c.as_slice-3.result.now r) c.as_slice-2.ensures one in
    let all : ChecksModule name source spec script r = subst (λ (p : List ℕ). ChecksModule name source spec p r) c.as_slice-3.ensures two in
    three_in_order name c.args.files.now source spec script r c.requires.len c.index-files-0.is c.index-files-1.is c.index-files-2.is all
