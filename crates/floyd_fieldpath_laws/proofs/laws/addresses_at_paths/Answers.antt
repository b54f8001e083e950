use Rattle.floyd_fieldpath_laws.proofs.AddressMeanings.{address_means}
use Rattle.floyd_fieldpath_laws.proofs.PlaceMeanings.{place_means}
use Rattle.floyd_fieldpath_laws.proofs.laws.addresses_at_paths.Goals as goal

pub returns : goal.returns
returns c =
    record {
      moved = λ defs env t path root a m block offset z e f small o g. address_means defs env t path root a m block offset z e f small o g;
      parts = λ defs env t path root a m r e f l g. place_means defs env t path root a m r e f l g;
    }
