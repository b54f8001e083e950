-- What follows from the words about loading.
use Rattle.std.proofs.Common.{◌≡◌, ℕ, ◌+◌, ◌<◌, ◌≤◌, Bool, true, false, cond, List, [], ◌∷◌, ◌++◌, length, Option, Some, None, Result, Ok, Err, refl, sym, ◌∙◌, ap, subst, arith, append_assoc, append-nil, nat_le, leb-true, leb-false, eqb-true, ◌&&◌, ◌||◌, ◌==◌, zero, suc, drop, get_or}
use Rattle.std.specs.Prelude.{IsSomeAnd, slice_index}
use Rattle.std.specs.Str.{IsUtf8}
use Rattle.std.proofs.lemmas.Str.{IsUtf8-from_ascii}
use Rattle.std.specs.List.{list_all}
use Rattle.floyd_text.specs.declared.place.Place.{Place}
use Rattle.floyd_text.specs.declared.refusal.Refusal.{Refusal}
use Rattle.floyd_text.specs.declared.code.Code.TheVariants.{MissingFile, FileTooLarge, ProjectTooLarge}
use Rattle.floyd_text.specs.declared.refusal.Halt.TheVariants.{Refused, Memory}
use Rattle.floyd_text.specs.declared.refusal.Shown.TheVariants.{Nothing}
use Rattle.floyd_text.specs.Outside.{Files, file_in, HasFile, HasNone, HasLonger, max_file}
use Rattle.floyd_text.specs.Refusals.{refusal_at}
use Rattle.floyd_check_project.specs.declared.module.FileName.{FileName}
use Rattle.floyd_check_project.specs.Lines.{is_file_name, is_file_byte, is_digit}
use Rattle.floyd_check.specs.Loading.{bytes_at, named_at, files_from, max_files, on_ok, within_all}
use Rattle.std.proofs.lemmas.List.{drop_more, drop_all}
use Rattle.floyd_text.proofs.OutsideLemmas.{rose_after}
use Rattle.floyd_cli.specs.declared.load.LoadStop.{LoadStop}
use Rattle.floyd_cli.specs.declared.load.LoadStop.TheVariants.{Halted, Fault}
use Rattle.floyd_cli.specs.LoadClauses.{HasBytes, HasNext, HasFiles, AreNamed, ReadsNext, ReadsFiles}

small : (place : Place) (bytes : List ℕ) (b : Bool) → nat_le (length bytes) max_file ≡ b → length bytes ≤ max_file → cond b (Ok bytes) (Err (refusal_at FileTooLarge place Nothing)) ≡ Ok bytes
small place bytes true e h = refl
small place bytes false e h = absurd (omega (arith, leb-false (length bytes) max_file e))

large : (place : Place) (bytes : List ℕ) (b : Bool) → nat_le (length bytes) max_file ≡ b → max_file < length bytes → cond b (Ok bytes) (Err (refusal_at FileTooLarge place Nothing)) ≡ Err (refusal_at FileTooLarge place Nothing)
large place bytes true e h = absurd (omega (arith, leb-true (length bytes) max_file e))
large place bytes false e h = refl

large_at : (place : Place) (o : Option (List ℕ)) → IsSomeAnd o (λ bytes. max_file < length bytes) → bytes_at place o ≡ Err (refusal_at FileTooLarge place Nothing)
large_at place None h = absurd h
large_at place (Some bytes) h = large place bytes (nat_le (length bytes) max_file) refl h

pub has_bytes : (held : Option Files) (place : Place) (name bytes : List ℕ) → HasFile held name bytes → length bytes ≤ max_file → HasBytes held place name (Ok bytes)
unfolding HasFile HasBytes
has_bytes None place name bytes h l = tt
has_bytes (Some files) place name bytes h l = ap (bytes_at place) h ∙ small place bytes (nat_le (length bytes) max_file) refl l

pub has_missing : (held : Option Files) (place : Place) (name : List ℕ) → HasNone held name → HasBytes held place name (Err (refusal_at MissingFile place Nothing))
unfolding HasNone HasBytes
has_missing None place name h = tt
has_missing (Some files) place name h = ap (bytes_at place) h

pub has_large : (held : Option Files) (place : Place) (name : List ℕ) → HasLonger held name max_file → HasBytes held place name (Err (refusal_at FileTooLarge place Nothing))
unfolding HasLonger HasBytes
has_large None place name h = tt
has_large (Some files) place name h = large_at place (file_in files name) h

-- the files so far, and what the rest gives
abbrev pub with_before : List (List ℕ) → Result (List (List ℕ)) Refusal → Result (List (List ℕ)) Refusal
with_before before (Ok files) = Ok (before ++ files)
with_before before (Err r) = Err r

-- where the shelf tells, what the rest of the files gives after the ones so far is what all give
unfoldable pub Leads : Option Files → List ℕ → List FileName → List (List ℕ) → ℕ → List FileName → Type 0
Leads None project all before total rest = Unit {0}
Leads (Some files) project all before total rest = files_from files project 0 all ≡ with_before before (files_from files project total rest)

with_none : (r : Result (List (List ℕ)) Refusal) → with_before [] r ≡ r
with_none (Ok files) = refl
with_none (Err r) = refl

pub leads_start : (held : Option Files) (project : List ℕ) (all : List FileName) → Leads held project all [] 0 all
unfolding Leads
leads_start None project all = tt
leads_start (Some files) project all = sym (with_none (files_from files project 0 all))

with_more : (before : List (List ℕ)) (bytes : List ℕ) (r : Result (List (List ℕ)) Refusal)
    → with_before before (on_ok r (λ rest. Ok (bytes ∷ rest))) ≡ with_before (before ++ bytes ∷ []) r
with_more before bytes (Ok files) = ap Ok (sym (append_assoc before (bytes ∷ []) files))
with_more before bytes (Err r) = refl

within : (place : Place) (total : ℕ) (bytes : List ℕ) (b : Bool) → nat_le total max_files ≡ b → total ≤ max_files → cond b (Ok bytes) (Err (refusal_at ProjectTooLarge place Nothing)) ≡ Ok bytes
within place total bytes true e h = refl
within place total bytes false e h = absurd (omega (arith, leb-false total max_files e))

beyond : (place : Place) (total : ℕ) (bytes : List ℕ) (b : Bool) → nat_le total max_files ≡ b → max_files < total → cond b (Ok bytes) (Err (refusal_at ProjectTooLarge place Nothing)) ≡ Err (refusal_at ProjectTooLarge place Nothing)
beyond place total bytes true e h = absurd (omega (arith, leb-true total max_files e))
beyond place total bytes false e h = refl

-- what the next file gives, by its bytes
abbrev on_bytes : List ℕ → ℕ → FileName → Result (List ℕ) Refusal → Result (List ℕ) Refusal
on_bytes project total f r = on_ok r (λ bytes. within_all (named_at project f) (total + length bytes) bytes)

pub next_within : (held : Option Files) (project : List ℕ) (total : ℕ) (f : FileName) (bytes : List ℕ)
    → HasBytes held (named_at project f) f.name (Ok bytes) → total + length bytes ≤ max_files → HasNext held project total f (Ok bytes)
unfolding HasBytes HasNext
next_within None project total f bytes e h = tt
next_within (Some files) project total f bytes e h =
    ap (on_bytes project total f) e ∙ within (named_at project f) (total + length bytes) bytes (nat_le (total + length bytes) max_files) refl h

pub next_beyond : (held : Option Files) (project : List ℕ) (total : ℕ) (f : FileName) (bytes : List ℕ)
    → HasBytes held (named_at project f) f.name (Ok bytes) → max_files < total + length bytes → HasNext held project total f (Err (refusal_at ProjectTooLarge (named_at project f) Nothing))
unfolding HasBytes HasNext
next_beyond None project total f bytes e h = tt
next_beyond (Some files) project total f bytes e h =
    ap (on_bytes project total f) e ∙ beyond (named_at project f) (total + length bytes) bytes (nat_le (total + length bytes) max_files) refl h

pub next_refused : (held : Option Files) (project : List ℕ) (total : ℕ) (f : FileName) (r : Refusal)
    → HasBytes held (named_at project f) f.name (Err r) → HasNext held project total f (Err r)
unfolding HasBytes HasNext
next_refused None project total f r e = tt
next_refused (Some files) project total f r e = ap (on_bytes project total f) e

-- what the files give, by what the next one gives
abbrev on_next : Files → List ℕ → ℕ → List FileName → Result (List ℕ) Refusal → Result (List (List ℕ)) Refusal
on_next files project total fs r = on_ok r (λ bytes. on_ok (files_from files project (total + length bytes) fs) (λ rest. Ok (bytes ∷ rest)))

-- one more file was read
pub leads_more : (held : Option Files) (project : List ℕ) (all : List FileName) (before : List (List ℕ)) (total : ℕ) (f : FileName) (fs : List FileName) (bytes : List ℕ)
    → Leads held project all before total (f ∷ fs) → HasNext held project total f (Ok bytes) → Leads held project all (before ++ bytes ∷ []) (total + length bytes) fs
unfolding Leads HasNext
leads_more None project all before total f fs bytes l e = tt
leads_more (Some files) project all before total f fs bytes l e =
    l ∙ ap (λ r. with_before before (on_next files project total fs r)) e ∙ with_more before bytes (files_from files project (total + length bytes) fs)

-- a file is refused
pub leads_refused : (held : Option Files) (project : List ℕ) (all : List FileName) (before : List (List ℕ)) (total : ℕ) (f : FileName) (fs : List FileName) (r : Refusal)
    → Leads held project all before total (f ∷ fs) → HasNext held project total f (Err r) → HasFiles held project all (Err r)
unfolding Leads HasNext HasFiles
leads_refused None project all before total f fs r l e = tt
leads_refused (Some files) project all before total f fs r l e = l ∙ ap (λ r. with_before before (on_next files project total fs r)) e

-- all files were read
pub leads_end : (held : Option Files) (project : List ℕ) (all : List FileName) (before : List (List ℕ)) (total : ℕ)
    → Leads held project all before total [] → HasFiles held project all (Ok before)
unfolding Leads HasFiles
leads_end None project all before total l = tt
leads_end (Some files) project all before total l = l ∙ ap Ok (append-nil before)

and_left : (x y : Bool) → (x && y) ≡ true → x ≡ true
and_left true y e = refl
and_left false y e = e

and_right : (x y : Bool) → (x && y) ≡ true → y ≡ true
and_right true y e = e
and_right false y e = absurd (cc)

either_small : (x y : Bool) (b : ℕ) → (x ≡ true → b < 128) → (y ≡ true → b < 128) → (x || y) ≡ true → b < 128
either_small true y b f g e = f refl
either_small false y b f g e = g e

between_small : (low b high : ℕ) → high < 128 → (nat_le low b && nat_le b high) ≡ true → b < 128
between_small low b high h e = omega (arith, h, leb-true b high (and_right (nat_le low b) (nat_le b high) e))

one_small : (b n : ℕ) → n < 128 → (b == n) ≡ true → b < 128
one_small b n h e = omega (arith, h, eqb-true b n e)

file_byte_small : (b : ℕ) → is_file_byte b ≡ true → b < 128
file_byte_small b =
    either_small _ (b == 47) b
    (either_small _ (b == 45) b
    (either_small _ (b == 46) b
    (either_small _ (b == 95) b
    (either_small _ (is_digit b) b
    (either_small (nat_le 97 b && nat_le b 122) (nat_le 65 b && nat_le b 90) b (between_small 97 b 122 (omega arith)) (between_small 65 b 90 (omega arith)))
    (between_small 48 b 57 (omega arith)))
    (one_small b 95 (omega arith)))
    (one_small b 46 (omega arith)))
    (one_small b 45 (omega arith)))
    (one_small b 47 (omega arith))

all_small : (bs : List ℕ) → list_all is_file_byte bs ≡ true → (i : ℕ) → slice_index bs i < 128
all_small [] e zero = omega arith
all_small [] e (suc i) = omega arith
all_small (b ∷ bs) e zero = file_byte_small b (and_left (is_file_byte b) (list_all is_file_byte bs) e)
all_small (b ∷ bs) e (suc i) = all_small bs (and_right (is_file_byte b) (list_all is_file_byte bs) e) i

-- the name of a file is text
pub is_utf8 : (name : List ℕ) → is_file_name name ≡ true → IsUtf8 name
is_utf8 name e =
    IsUtf8-from_ascii name (all_small name (and_right (nat_le 1 (length name) && nat_le (length name) 255) (list_all is_file_byte name) e))

-- the file at a place is the first of those from there on
at_place : (all : List FileName) (i : ℕ) (f : FileName) → i < length all → f ≡ get_or all i f → drop i all ≡ f ∷ drop (i + 1) all
at_place all i f lt e = drop_more all i f lt ∙ ap (λ x. x ∷ drop (i + 1) all) (sym e)

pub leads_more_at : (held : Option Files) (project : List ℕ) (all : List FileName) (before : List (List ℕ)) (total i : ℕ) (f : FileName) (bytes : List ℕ)
    → i < length all → f ≡ get_or all i f → Leads held project all before total (drop i all) → HasNext held project total f (Ok bytes)
    → Leads held project all (before ++ bytes ∷ []) (total + length bytes) (drop (i + 1) all)
leads_more_at held project all before total i f bytes lt e l n =
    leads_more held project all before total f (drop (i + 1) all) bytes (subst (Leads held project all before total) (at_place all i f lt e) l) n

pub leads_refused_at : (held : Option Files) (project : List ℕ) (all : List FileName) (before : List (List ℕ)) (total i : ℕ) (f : FileName) (r : Refusal)
    → i < length all → f ≡ get_or all i f → Leads held project all before total (drop i all) → HasNext held project total f (Err r)
    → HasFiles held project all (Err r)
leads_refused_at held project all before total i f r lt e l n =
    leads_refused held project all before total f (drop (i + 1) all) r (subst (Leads held project all before total) (at_place all i f lt e) l) n

pub leads_end_at : (held : Option Files) (project : List ℕ) (all : List FileName) (before : List (List ℕ)) (total i : ℕ)
    → length all ≤ i → Leads held project all before total (drop i all) → HasFiles held project all (Ok before)
leads_end_at held project all before total i le l =
    leads_end held project all before total (subst (Leads held project all before total) (drop_all i all le) l)

pub named_more_at : (all : List FileName) (i : ℕ) (f : FileName) → i < length all → AreNamed (drop i all) → AreNamed (drop (i + 1) all)
named_more_at all i f lt n = (subst AreNamed (drop_more all i f lt) n).1

-- what reading the files answers where the next one stops it
pub stopped_at : (held : Option Files) (project : List ℕ) (all : List FileName) (before : List (List ℕ)) (total i : ℕ) (f : FileName) (was now : ℕ) (stop : LoadStop)
    → i < length all → f ≡ get_or all i f → Leads held project all before total (drop i all) → ReadsNext held project total f was now (Err stop)
    → (later : ℕ) → later ≤ was → ReadsFiles held project all later now (Err stop)
stopped_at held project all before total i f was now (Halted (Refused r)) lt e l n later h = leads_refused_at held project all before total i f r lt e l n
stopped_at held project all before total i f was now Fault lt e l n later h = rose_after later was now h n
stopped_at held project all before total i f was now (Halted Memory) lt e l n later h = tt
