use Rattle.floyd_fieldpath_laws.proofs.SortedAddresses.{addresses_are_values}
use Rattle.floyd_fieldpath_laws.proofs.SortedItems.{projects_have_sorts}
use Rattle.floyd_fieldpath_laws.proofs.SortedUpdates.{updates_have_sorts}
use Rattle.floyd_fieldpath_laws.proofs.TypeSorts.{types_have_sorts}
use Rattle.floyd_fieldpath_laws.proofs.Untyped.{untyped}
use Rattle.floyd_fieldpath_laws.proofs.laws.paths_and_sorts.Goals as goal

pub returns : goal.returns
returns c =
    record {
      refused = λ structs t path root v new e. untyped structs t path root v new e;
      types = λ structs t u path s w p e h. types_have_sorts structs t u path s w p e h;
      addresses = λ structs t u path root w p e f. addresses_are_values structs t u path root w p e f;
      items = λ structs t u path v s r w p e d f h. projects_have_sorts structs t u path v s r w p e d f h;
      updates = λ structs t u path v new s r w p e d f h i. updates_have_sorts structs t u path v new s r w p e d f h i;
    }
