-- Files by their names, counts of faults, and what a shelf and a sink answer.
use Rattle.std.specs.Prelude.{◌≡◌, ◌+◌, ◌-◌, ◌^◌, ◌<◌, ◌≤◌, ◌⊎◌, ℕ, min, Option, Some, None, Result, List, [], ◌++◌, length, take, drop, find, bytes_eq, IsSome, IsSomeAnd, OnErr}
use Rattle.std.specs.Option.{option_map}
use Rattle.floyd_text.specs.declared.named_file.NamedFile.{NamedFile}
use Rattle.floyd_text.specs.declared.outside.Found.{Found}
use Rattle.floyd_text.specs.declared.outside.Found.TheVariants.{There, Missing}

-- a finite map from names to bytes: the first file of a name is the one that counts
abbrev pub Files : Type 0
Files = List NamedFile

-- a file is read if it has no more bytes than this
abbrev pub max_file : ℕ
max_file = 4194304

-- the bytes of the file of that name
unfoldable pub file_in : Files → List ℕ → Option (List ℕ)
file_in files name = option_map (λ (file : NamedFile). file.bytes) (find (λ (file : NamedFile). bytes_eq file.name name) files)

-- what a file has from a place on; nothing where there is no file
abbrev pub bytes_from : Option (List ℕ) → ℕ → List ℕ
bytes_from None at = []
bytes_from (Some bytes) at = drop at bytes

-- where the shelf tells, it has the file, and these are its bytes
unfoldable pub HasFile : Option Files → List ℕ → List ℕ → Type 0
HasFile None name bytes = Unit {0}
HasFile (Some files) name bytes = file_in files name ≡ Some bytes

-- where the shelf tells, it has a file of that name
unfoldable pub HasSome : Option Files → List ℕ → Type 0
HasSome None name = Unit {0}
HasSome (Some files) name = IsSome (file_in files name)

-- where the shelf tells, it has no file of that name
unfoldable pub HasNone : Option Files → List ℕ → Type 0
HasNone None name = Unit {0}
HasNone (Some files) name = file_in files name ≡ None

-- where the shelf tells, it has a file of that name with more bytes than the limit
unfoldable pub HasLonger : Option Files → List ℕ → ℕ → Type 0
HasLonger None name limit = Unit {0}
HasLonger (Some files) name limit = IsSomeAnd (file_in files name) (λ bytes. limit < length bytes)

-- what a search for a name answers
abbrev pub IsFound : Option Files → List ℕ → Found → Type 0
IsFound held name There = HasSome held name
IsFound held name Missing = HasNone held name

-- n bytes were read into the room: a front of the rest, and none of it only where there is no rest or no room
pub record IsPiece (rest : List ℕ) (room n : ℕ) (into : List ℕ) : Type 0 where
  pub front : take n into ≡ take n rest
  pub within : n ≤ length rest
  pub some : min 1 (min room (length rest)) ≤ n

-- where the shelf tells, n bytes were read of what the file of that name has from a place on
unfoldable pub IsRead : Option Files → List ℕ → ℕ → ℕ → ℕ → List ℕ → Type 0
IsRead None name at room n into = Unit {0}
IsRead (Some files) name at room n into = IsPiece (bytes_from (file_in files name) at) room n into

-- these bytes are a front of a file
pub record IsFront (file : Option (List ℕ)) (front : List ℕ) : Type 0 where
  pub rest : List ℕ
  pub whole : file ≡ Some (front ++ rest)

-- where the shelf tells, it has a file of that name, and these bytes are a front of it
unfoldable pub HasFront : Option Files → List ℕ → List ℕ → Type 0
HasFront None name front = Unit {0}
HasFront (Some files) name front = IsFront (file_in files name) front

-- the bytes of the file of that name came to the end, no more than are read
abbrev pub PutsFile : Option Files → List ℕ → List ℕ → List ℕ → Type 0
PutsFile held name old new = (bytes : List ℕ) × (new ≡ old ++ bytes) × HasFile held name bytes × (length bytes ≤ max_file)

-- a front of the file of that name came to the end, which is empty where there is none
abbrev pub PutsFront : Option Files → List ℕ → List ℕ → List ℕ → Type 0
PutsFront held name old new = (bytes : List ℕ) × (new ≡ old ++ bytes) × ((bytes ≡ []) ⊎ HasFront held name bytes)

-- a count rose, or stands at its end
abbrev pub Rose : ℕ → ℕ → Type 0
Rose before now = min (before + 1) (2 ^ 64 - 1) ≤ now

-- a count of faults does not fall, and rose where the call failed
pub record HasCause {T E : Type 0} (before now : ℕ) (result : Result T E) : Type 0 where
  pub later : before ≤ now
  pub failed : OnErr result (Rose before now)

-- where the sink tells, the bytes were put at the end of what was written
unfoldable pub Appends : Option (List ℕ) → Option (List ℕ) → List ℕ → Type 0
Appends old new bytes = new ≡ option_map (λ written. written ++ bytes) old

-- where the sink tells, a front of the bytes was put at the end of what was written
abbrev pub AppendsFront : Option (List ℕ) → Option (List ℕ) → List ℕ → Type 0
AppendsFront old new bytes = (n : ℕ) × Appends old new (take n bytes)
