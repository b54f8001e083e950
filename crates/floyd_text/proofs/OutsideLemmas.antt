-- What follows from the words about shelves and sinks.
use Rattle.std.proofs.Common.{◌≡◌, ◌+◌, ◌-◌, ◌<◌, ◌≤◌, ℕ, Option, Some, None, List, [], ◌∷◌, ◌++◌, length, take, drop, refl, sym, ◌∙◌, ap, subst, arith, append_assoc, IsSome, IsSomeAnd, length-append, inr}
use Rattle.std.proofs.Math.Seq.{drop-append_seam, take-add, take-length}
use Rattle.std.proofs.lemmas.List.{take-append-drop, append-nil, take_rest, length-take}
use Rattle.std.specs.Option.{option_map}
use Rattle.floyd_text.specs.Outside.{Files, file_in, bytes_from, HasFile, HasSome, HasNone, HasLonger, HasFront, IsFront, IsRead, IsPiece, PutsFile, PutsFront, Rose, Appends, AppendsFront, max_file}

empty_is : (xs : List ℕ) → length xs ≡ 0 → xs ≡ []
empty_is [] h = refl
empty_is (x ∷ xs) h = absurd (omega arith)

-- a file has the empty front
front_start : (file : Option (List ℕ)) → IsSome file → IsFront file []
front_start None h = absurd (cc)
front_start (Some bytes) h = record { rest = bytes; whole = refl }

-- a piece of the rest makes the front longer
front_more : (file : Option (List ℕ)) (front : List ℕ) (room n : ℕ) (into : List ℕ) → IsFront file front →
    IsPiece (bytes_from file (length front)) room n into → IsFront file (front ++ take n into)
front_more file front room n into f p =
    let seam : bytes_from file (length front) ≡ f.rest = ap (λ o. bytes_from o (length front)) f.whole ∙ drop-append_seam front f.rest in
    let piece : take n into ≡ take n f.rest = p.front ∙ ap (take n) seam in
    record {
      rest = drop n f.rest;
      whole = f.whole ∙ ap Some (ap (λ ys. front ++ ys) (sym (take-append-drop n f.rest)) ∙ sym (append_assoc front (take n f.rest) (drop n f.rest))
          ∙ ap (λ ys. (front ++ ys) ++ drop n f.rest) (sym piece));
    }

-- where nothing more is read into some room, the front is the file
front_end : (file : Option (List ℕ)) (front : List ℕ) (room : ℕ) (into : List ℕ) → IsFront file front → 0 < room →
    IsPiece (bytes_from file (length front)) room 0 into → file ≡ Some front
front_end file front room into f some p =
    let seam : bytes_from file (length front) ≡ f.rest = ap (λ o. bytes_from o (length front)) f.whole ∙ drop-append_seam front f.rest in
    let none : length f.rest ≡ 0 = omega (arith, p.some, ap length seam) in
    f.whole ∙ ap Some (ap (λ ys. front ++ ys) (empty_is f.rest none) ∙ append-nil front)

front_longer : (file : Option (List ℕ)) (front : List ℕ) (limit : ℕ) → IsFront file front → limit < length front →
    IsSomeAnd file (λ bytes. limit < length bytes)
front_longer file front limit f long =
    let P : Option (List ℕ) → Type 0 = λ o. IsSomeAnd o (λ bytes. limit < length bytes) in
    let whole : limit < length (front ++ f.rest) = simp length-append (omega arith) in
    subst P (sym f.whole) whole

pub has_start : (held : Option Files) (name : List ℕ) → HasSome held name → HasFront held name []
unfolding HasSome HasFront
has_start None name h = tt
has_start (Some files) name h = front_start (file_in files name) h

pub has_more : (held : Option Files) (name front : List ℕ) (room n : ℕ) (into : List ℕ) → HasFront held name front →
    IsRead held name (length front) room n into → HasFront held name (front ++ take n into)
unfolding HasFront IsRead
has_more None name front room n into f p = tt
has_more (Some files) name front room n into f p = front_more (file_in files name) front room n into f p

pub has_end : (held : Option Files) (name front : List ℕ) (room n : ℕ) (into : List ℕ) → n ≡ 0 → HasFront held name front → 0 < room →
    IsRead held name (length front) room n into → HasFile held name (front ++ take n into)
unfolding HasFront IsRead HasFile
has_end None name front room n into none f some p = tt
has_end (Some files) name front room n into none f some p =
    let P : ℕ → Type 0 = λ k. IsPiece (bytes_from (file_in files name) (length front)) room k into in
    let Q : ℕ → Type 0 = λ k. file_in files name ≡ Some (front ++ take k into) in
    subst Q (sym none) (front_end (file_in files name) front room into f some (subst P none p) ∙ ap Some (sym (append-nil front)))

pub has_longer : (held : Option Files) (name front : List ℕ) (limit : ℕ) → HasFront held name front → limit < length front →
    HasLonger held name limit
unfolding HasFront HasLonger
has_longer None name front limit f long = tt
has_longer (Some files) name front limit f long = front_longer (file_in files name) front limit f long

-- nothing was put yet
pub appends_none : (old : Option (List ℕ)) → Appends old old []
unfolding Appends
appends_none None = refl
appends_none (Some written) = ap Some (sym (append-nil written))

-- one after the other
pub appends_both : (old mid new : Option (List ℕ)) (xs ys : List ℕ) → Appends old mid xs → Appends mid new ys → Appends old new (xs ++ ys)
unfolding Appends
appends_both None mid new xs ys first second = second ∙ ap (option_map (λ written. written ++ ys)) first
appends_both (Some written) mid new xs ys first second =
    second ∙ ap (option_map (λ written. written ++ ys)) first ∙ ap Some (append_assoc written xs ys)

-- a front of what is left makes the front longer
pub appends_more : (old mid new : Option (List ℕ)) (text : List ℕ) (at n : ℕ) → Appends old mid (take at text) →
    Appends mid new (take n (take (length text - at) (drop at text))) → Appends old new (take (at + n) text)
appends_more old mid new text at n first left =
    let second : Appends mid new (take n (drop at text)) = rw take_rest at left in
    let P : List ℕ → Type 0 = Appends old new in
    subst P (sym (take-add at n text)) (appends_both old mid new (take at text) (take n (drop at text)) first second)

-- a text put whole is a front of itself
pub appends_front : (old new : Option (List ℕ)) (text : List ℕ) → Appends old new text → AppendsFront old new text
appends_front old new text h = (length text, rw take-length h)

-- nothing put is a front of any text
pub appends_no_front : (old : Option (List ℕ)) (text : List ℕ) → AppendsFront old old text
appends_no_front old text = (0, appends_none old)

-- where the sink tells, it has the text at its end
pub appends_told : (written : List ℕ) (new : Option (List ℕ)) (text : List ℕ) → Appends (Some written) new text → new ≡ Some (written ++ text)
unfolding Appends
appends_told written new text h = h

-- where the shelf tells, the words say what its files have
pub file_told : (files : Files) (name bytes : List ℕ) → HasFile (Some files) name bytes → file_in files name ≡ Some bytes
unfolding HasFile
file_told files name bytes h = h

pub none_told : (files : Files) (name : List ℕ) → HasNone (Some files) name → file_in files name ≡ None
unfolding HasNone
none_told files name h = h

pub longer_told : (files : Files) (name : List ℕ) (limit : ℕ) → HasLonger (Some files) name limit →
    IsSomeAnd (file_in files name) (λ bytes. limit < length bytes)
unfolding HasLonger
longer_told files name limit h = h

-- a count that rose before, or after, rose in all
pub rose_before : (before mid now : ℕ) → Rose before mid → mid ≤ now → Rose before now
rose_before before mid now h later = omega arith

pub rose_after : (before mid now : ℕ) → before ≤ mid → Rose mid now → Rose before now
rose_after before mid now later h = omega arith

-- a count that stays 0 did not rise
pub not_rose : Rose 0 0 → ⊥
not_rose h = omega arith

-- what was read of the same file at the same place
pub read_there : (held held' : Option Files) (name : List ℕ) (at at' room n : ℕ) (into : List ℕ) → held ≡ held' → at ≡ at' → IsRead held name at room n into → IsRead held' name at' room n into
read_there held held' name at at' room n into e f read = subst (λ (h : Option Files). IsRead h name at' room n into) e (subst (λ (a : ℕ). IsRead held name a room n into) f read)

-- a front of a file came to the end: so many bytes of it
abbrev pub HasTaken : Option Files → List ℕ → List ℕ → List ℕ → ℕ → Type 0
HasTaken held name old new at = (bytes : List ℕ) × (new ≡ old ++ bytes) × (at ≡ length bytes) × HasFront held name bytes

-- .. and a piece more
module _ (held now_held : Option Files) (name old now new : List ℕ) (at room n : ℕ) (into : List ℕ) (so_far : HasTaken held name old now at) (same : now_held ≡ held) (read : IsRead now_held name at room n into) (put : new ≡ now ++ take n into) where
  here : IsRead held name (length so_far.0) room n into
  here = read_there now_held held name at (length so_far.0) room n into same so_far.2 read

  joined : new ≡ old ++ (so_far.0 ++ take n into)
  joined = put ∙ ap (λ (xs : List ℕ). xs ++ take n into) so_far.1 ∙ append_assoc old so_far.0 (take n into)

  pub takes_more : n ≤ length into → HasTaken held name old new (at + n)
  takes_more within =
      let len : at + n ≡ length (so_far.0 ++ take n into) = simp (length-append, length-take) (omega (arith, so_far.2, within)) in
      (so_far.0 ++ take n into, joined, len, has_more held name so_far.0 room n into so_far.3 here)

  pub takes_all : n ≡ 0 → 0 < room → n ≤ length into → at ≤ max_file → PutsFile held name old new
  takes_all none some within small =
      let len : length (so_far.0 ++ take n into) ≤ max_file = simp (length-append, length-take) (omega (arith, so_far.2, within, none, small)) in
      (so_far.0 ++ take n into, joined, has_end held name so_far.0 room n into none so_far.3 some here, len)

pub front_of_taken : (held : Option Files) (name old new : List ℕ) (at : ℕ) → HasTaken held name old new at → PutsFront held name old new
front_of_taken held name old new at t = (t.0, t.1, inr t.3)

pub longer_taken : (held : Option Files) (name old new : List ℕ) (at : ℕ) → HasTaken held name old new at → max_file < at → HasLonger held name max_file
longer_taken held name old new at t long = has_longer held name t.0 max_file t.3 (omega (arith, t.2, long))

pub taken_start : (held : Option Files) (name old : List ℕ) → HasSome held name → HasTaken held name old old 0
taken_start held name old some = ([], sym (append-nil old), refl, has_start held name some)
