use Rattle.std.proofs.Common.{◌≡◌, ◌≤◌, drop, length}
use Rattle.std.specs.Prelude.{All}
use Rattle.std.specs.List.{sum_by}
use Rattle.floyd_cli.specs.LoadClauses.{AreNamed}
use Rattle.floyd_cli.proofs.LoadLemmas.{Leads}
use Rattle.floyd_cli.proofs.load.read_files.Given as goal

-- the shelf is as it was, the files so far are within the limit, and the rest of them leads to what all give
abbrev pub invariant-file : goal.invariant-file
invariant-file g l = record {
  held : g.H.Shelf.held l.shelf ≡ g.H.Shelf.held l.fn.shelf;
  later : g.H.Shelf.faults l.fn.shelf ≤ g.H.Shelf.faults l.shelf;
  small : l.total ≤ 16777216;
  each : All (λ bytes. length bytes ≤ 4194304) l.files;
  sum : sum_by length l.files ≡ l.total;
  len : length l.files ≡ l.file-index;
  named : AreNamed (drop l.file-index l.named);
  leads : Leads (g.H.Shelf.held l.fn.shelf) l.project l.named l.files l.total (drop l.file-index l.named);
}
