use Rattle.floyd_arrays.specs.JoinArray as join_array
use Rattle.floyd_arrays.specs.SplitArray as split_array
use Rattle.floyd_arrays_structs.specs.JoinStruct as join_struct
use Rattle.floyd_arrays_structs.specs.SplitStruct as split_struct
use Rattle.floyd_goal_parts.specs.Sources.{part_number}
use Rattle.floyd_shares.specs.JoinShare as join_share
use Rattle.floyd_shares.specs.SplitShare as split_share
use Rattle.floyd_arrays_soundness.proofs.JoiningArrays as joined_array
use Rattle.floyd_arrays_soundness.proofs.SplittingArrays as cut_array
use Rattle.floyd_entail_soundness.proofs.InPlace.{in_place_sound}
use Rattle.floyd_shares_soundness.specs.Numbers.{IsOfNumber}
use Rattle.floyd_shares_soundness.proofs.Sharing as sharing
use Rattle.floyd_structs_soundness.specs.Fields.{IsOfStructs}
use Rattle.floyd_structs_soundness.proofs.JoiningStructs as joined_struct
use Rattle.floyd_structs_soundness.proofs.SplittingStructs.{split_keeps}
use Rattle.floyd_formed_arrays.proofs.Goals as arrays
use Rattle.floyd_formed_shares.proofs.Shared as shares
use Rattle.floyd_formed_structs.proofs.Joining as joining
use Rattle.floyd_formed_structs.proofs.Splitting as splitting
use Rattle.floyd_row_laws.specs.Laws.{Nothing}
use Rattle.floyd_row_laws.proofs.Gathering.{where_asked}
use Rattle.floyd_row_laws.proofs.laws.rows_on_memory.Goals as goal

pub returns-clause-split_array : goal.returns-clause-split_array
returns-clause-split_array c = where_asked IsOfNumber split_array.Row (λ defs specs n g args goals formed asks row h. cut_array.split_sound defs specs n g args goals formed asks row h) (λ defs specs g args goals formed number row. arrays.split_forms defs specs g args goals formed number row)

pub returns-clause-join_array : goal.returns-clause-join_array
returns-clause-join_array c = where_asked Nothing join_array.Row (λ defs specs n g args goals formed asks row h. joined_array.join_sound defs specs n g args goals formed row h) (λ defs specs g args goals formed none row. arrays.join_forms defs specs g args goals formed row)

pub returns-clause-split_struct : goal.returns-clause-split_struct
returns-clause-split_struct c =
    where_asked IsOfStructs split_struct.Row (λ defs specs n g args goals formed asks row h. in_place_sound defs specs n g (part_number args.target) (split_struct.split defs.structs) goals formed (split_keeps defs specs asks) row h)
    (λ defs specs g args goals formed differ row. splitting.split_forms defs specs g args goals formed row)

pub returns-clause-join_struct : goal.returns-clause-join_struct
returns-clause-join_struct c = where_asked IsOfStructs join_struct.Row (λ defs specs n g args goals formed asks row h. joined_struct.join_sound defs specs n g args goals formed asks row h) (λ defs specs g args goals formed differ row. joining.join_forms defs specs g args goals formed differ row)

pub returns-clause-split_share : goal.returns-clause-split_share
returns-clause-split_share c = where_asked IsOfNumber (λ structs. split_share.Row) (λ defs specs n g args goals formed asks row h. sharing.split_sound defs specs n g args goals formed asks row h) (λ defs specs g args goals formed number row. shares.split_forms defs specs g args goals formed number row)

pub returns-clause-join_share : goal.returns-clause-join_share
returns-clause-join_share c = where_asked Nothing (λ structs. join_share.Row) (λ defs specs n g args goals formed asks row h. sharing.join_sound defs specs n g args goals formed row h) (λ defs specs g args goals formed none row. shares.join_forms defs specs g args goals formed row)
