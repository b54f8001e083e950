use Rattle.std.proofs.Common.{◌≡◌, ◌++◌, map, drop}
use Rattle.floyd_fieldpath.specs.Nested.{literal}
use Rattle.floyd_fieldpath.specs.NestedClauses.{sizes_of_all}
use Rattle.floyd_fieldpath.proofs.literals.+sizes.Given as goal

abbrev pub invariant-put_all_sizes-types : goal.invariant-put_all_sizes-types
invariant-put_all_sizes-types g l =
    l.sizes.items ++ map literal (sizes_of_all (drop l.t-index l.types)) ≡ l.initial.sizes.items ++ map literal (sizes_of_all l.types)
