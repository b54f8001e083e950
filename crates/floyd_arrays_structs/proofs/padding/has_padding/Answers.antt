use Rattle.floyd_arrays_structs.proofs.padding.has_padding.Goals as goal

pub field_bytes-requires : goal.field_bytes-requires
field_bytes-requires c = record { few = c.requires.few; fits = c.requires.fits }
