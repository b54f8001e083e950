-- A path without a type is refused by each call.
use Rattle.std.proofs.Common.{◌≡◌, List, None, ap}
use Rattle.floyd_ctypes.specs.Structs.{Structs}
use Rattle.floyd_tree.specs.declared.paths.PathStep.{PathStep}
use Rattle.floyd_tree.specs.Plain.{Plain}
use Rattle.floyd_tree.specs.Types.{SizedType}
use Rattle.floyd_fieldpath.specs.Addresses.{on_type, path_sum}
use Rattle.floyd_fieldpath.specs.Nested.{or_illegal, type_at}
use Rattle.floyd_fieldpath.specs.Projections.{item_at}
use Rattle.floyd_fieldpath.specs.Sums.{moved}
use Rattle.floyd_fieldpath.specs.Updates.{updated_at}
use Rattle.floyd_fieldpath.specs.Written.{on_ok}
use Rattle.floyd_fieldpath_laws.specs.SortLaws.{IsRefused}

pub untyped : (structs : Structs) (t : SizedType) (path : List PathStep) (root v new : Plain) → type_at structs t path ≡ None → IsRefused structs t path root v new
untyped structs t path root v new e =
    record {
      of_type = ap or_illegal e;
      of_address = ap (λ o. on_type o (λ u. on_ok (path_sum structs t path None) (moved root))) e;
      of_item = ap (λ o. on_type o (λ u. item_at structs t path v)) e;
      of_update = ap (λ o. on_type o (λ u. updated_at structs t path v new)) e;
    }
