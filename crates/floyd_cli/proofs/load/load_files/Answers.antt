use Rattle.std.proofs.Common.{◌≡◌, ℕ, List, ◌∷◌, map, length, Ok, Err, sym, ◌∙◌, ap, subst}
use Rattle.std.specs.List.{flat_map}
use Rattle.floyd_check_project.specs.declared.module.FileName.{FileName}
use Rattle.floyd_check.specs.Loading.{files_of, modules_of}
use Rattle.floyd_check.proofs.HasVerdict.{named_three}
use Rattle.floyd_check.proofs.OneModule.{one_module}
use Rattle.floyd_cli.specs.LoadClauses.{AreNamed, HasFiles, HasNames, ReadsFiles}
use Rattle.floyd_cli.proofs.ProjectLemmas.{modules_named, modules_stopped, files_stopped, has_loaded, project_names}
use Rattle.floyd_cli.proofs.load.load_files.Goals as goal

pub returns-in-Err-clause-gives : goal.returns-in-Err-clause-gives
returns-in-Err-clause-gives g c =
    let faults = g.H.Shelf.faults c.args.shelf.now in
    modules_stopped (g.H.Shelf.held c.args.shelf.now) c.args.name.now c.args.project.now c.in-Err.halt faults faults c.requires c.in-Err.ensures.exact

pub read_files-requires : goal.read_files-requires
read_files-requires g c =
    subst AreNamed (sym (c.as_slice-3.ensures ∙ c.in_ok-named.ensures ∙ ap (flat_map files_of) c.as_slice.ensures))
    (modules_named c.args.project.now c.in-Ok.modules c.in-Ok.ensures.exact)

pub returns-clause-gives : goal.returns-clause-gives
returns-clause-gives g c =
    let held = g.H.Shelf.held c.args.shelf.now in
    let before = g.H.Shelf.faults c.args.shelf.now in
    let now = g.H.Shelf.faults c.read_files.new.shelf in
    let files : c.as_slice-3.result.now ≡ flat_map files_of c.in-Ok.modules = c.as_slice-3.ensures ∙ c.in_ok-named.ensures ∙ ap (flat_map files_of) c.as_slice.ensures in
    files_stopped held c.args.name.now c.args.project.now c.in-Ok.modules c.in-Err-read_files.stop before now c.requires c.in-Ok.ensures.exact
    (subst (λ (fs : List FileName). ReadsFiles held c.args.project.now fs before now (Err c.in-Err-read_files.stop)) files c.in-Err-read_files.ensures.gives)

pub returns-in-Ok-read_files-clause-gives : goal.returns-in-Ok-read_files-clause-gives
returns-in-Ok-read_files-clause-gives g c =
    let held = g.H.Shelf.held c.args.shelf.now in
    let files : c.as_slice-3.result.now ≡ flat_map files_of c.in-Ok.modules = c.as_slice-3.ensures ∙ c.in_ok-named.ensures ∙ ap (flat_map files_of) c.as_slice.ensures in
    let others = c.in-Ok-read_files.files in
    let has : HasFiles held c.args.project.now (flat_map files_of c.in-Ok.modules) (Ok others) =
    subst (λ (fs : List FileName). HasFiles held c.args.project.now fs (Ok others)) files c.in-Ok-read_files.ensures.gives in
    let names : c.in_ok-names.names ≡ c.args.name.now ∷ map (λ (f : FileName). f.name) (flat_map files_of c.in-Ok.modules) =
    c.in_ok-names.ensures
    ∙ ap (λ (fs : List FileName). c.args.name.now ∷ map (λ (f : FileName). f.name) fs) (c.as_slice-2.ensures ∙ c.in_ok-named.ensures ∙ ap (flat_map files_of) c.as_slice.ensures) in (
      has_loaded held c.args.name.now c.args.project.now c.in-Ok.modules others c.requires c.in-Ok.ensures.exact has,
      subst (HasNames held c.args.name.now) (sym names) (project_names held c.args.name.now c.args.project.now c.in-Ok.modules c.requires c.in-Ok.ensures.exact),
    )

pub returns-in-Ok-read_files-clause-len : goal.returns-in-Ok-read_files-clause-len
returns-in-Ok-read_files-clause-len g c =
    c.in-Ok-read_files.ensures.len
    ∙ ap length (c.as_slice-3.ensures ∙ c.in_ok-named.ensures ∙ ap (flat_map files_of) c.as_slice.ensures)
    ∙ named_three c.in-Ok.modules (one_module c.args.project.now c.in-Ok.modules c.in-Ok.ensures.exact)
