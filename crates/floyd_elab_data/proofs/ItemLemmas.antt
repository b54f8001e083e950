-- The items of a list, one after the other.
use Rattle.std.proofs.Common.{◌≡◌, ℕ, ◌+◌, ◌<◌, ◌≤◌, Bool, true, false, not, nat_le, List, [], ◌∷◌, ◌++◌, length, get_or, drop, Option, Some, None, Result, Ok, Err, refl, ap, sym, ◌∙◌, subst, append_assoc, arith, leb-true, slice_get, option_map}
use Rattle.std.proofs.lemmas.List.{drop_more, append-nil, length-map}
use Rattle.std.proofs.lemmas.Option.{slice_get-get_or}
use Rattle.std.proofs.Math.ListN.{drop_of_length-le}
use Rattle.std.specs.Option.{unwrap_or}
use denote.Hole.Carrier.{hidden}
use Rattle.floyd_text.specs.declared.place.Place.{Place}
use Rattle.floyd_text.specs.declared.refusal.Halt.{Halt}
use Rattle.floyd_text.specs.declared.refusal.Halt.TheVariants.{Refused, Memory}
use Rattle.floyd_text.specs.declared.refusal.Refusal.{Refusal}
use Rattle.floyd_text.specs.Gives.{Stops}
use Rattle.floyd_ctypes.specs.declared.ctype.CType.{CType, Struct, Function}
use Rattle.floyd_ctypes.specs.declared.ctype.CType.TheBlock.{shape-the_row-CType-0, hidden-the_row-CType-0}
use Rattle.floyd_ctypes.specs.declared.field.Field.{Field}
use Rattle.floyd_ctypes.specs.Structs.{Structs, fields_of}
use Rattle.floyd_cparse_trees.specs.declared.declarations.Initialiser as i
use Rattle.floyd_cparse_trees.specs.declared.declarations.Initialiser.{Initialiser, items-the_row-Initialiser}
use Rattle.floyd_cparse_trees.specs.declared.declarations.Initialiser.TheBlock.{shape-the_row-Initialiser-0, hidden-the_row-Initialiser-0, items_hidden-the_row-Initialiser-0}
use Rattle.floyd_clight.specs.declared.initial.Initial as initial
use Rattle.floyd_clight.specs.declared.initial.Initial.{Initial}
use Rattle.floyd_elab_names.specs.declared.tags.Tags.{Tags}
use Rattle.floyd_elab_names.specs.Refusing.{and_then, ◌>>=◌, pure, or_refuse, unless}
use Rattle.floyd_elab_names.specs.Refusals.{ill_typed}
use Rattle.floyd_elab_names.specs.Scopes.{Scopes}
use Rattle.floyd_elab_names.specs.Typing.{Typing}
use Rattle.floyd_elab_names.specs.Types.{is_scalar}
use Rattle.floyd_elab_data.specs.Contents.{contents, parts_from, part_type, parts_of}
use Rattle.floyd_elab_data.specs.ItemClauses.{parts_in, list_parts, no_parts}

-- behind the contents so far
abbrev pub behind : List Initial → Result (List Initial × Tags) Refusal → Result (List Initial × Tags) Refusal
behind parts rest = and_then rest (λ more. pure (parts ++ more))

abbrev pub one_before : Initial → Result (List Initial × Tags) Refusal → Result (List Initial × Tags) Refusal
one_before part rest = and_then rest (λ more. pure (part ∷ more))

behind-one_before : (parts : List Initial) (part : Initial) (rest : Result (List Initial × Tags) Refusal) →
    behind parts (one_before part rest) ≡ behind (parts ++ part ∷ []) rest
behind-one_before parts part (Ok r) = ap (λ (all : List Initial). Ok (all, r.1)) (sym (append_assoc parts (part ∷ []) r.0))
behind-one_before parts part (Err refusal) = refl

behind-none : (rest : Result (List Initial × Tags) Refusal) → rest ≡ behind [] rest
behind-none (Ok r) = refl
behind-none (Err refusal) = refl

stops_first : {A B : Type 0} (next : A → Tags → Result (B × Tags) Refusal) (halt : Halt) (r : Result (A × Tags) Refusal) → Stops halt r → Stops halt (and_then r next)
stops_first next (Refused refusal) r e = ap (λ x. and_then x next) e
stops_first next Memory r e = tt

module _ (scopes : Scopes) (brace : Place) (t : CType) (s : Tags) where
  -- what the contents of the items are, where those of the first ones are these
  abbrev pub IsSoFar : List Initialiser → ℕ → List Initial → Type 0
  IsSoFar items at parts = parts_in scopes brace t 0 items s ≡ behind parts (parts_in scopes brace t at (drop at items) s)

  pub begins : (items : List Initialiser) → IsSoFar items 0 []
  begins items = behind-none (parts_in scopes brace t 0 items s)

  module _ (items : List Initialiser) (at : ℕ) (parts : List Initial) (so_far : IsSoFar items at parts) where
    pub ends : length items ≤ at → parts_in scopes brace t 0 items s ≡ Ok (parts, s)
    ends h =
        so_far
        ∙ ap (λ (rest : List Initialiser). behind parts (parts_in scopes brace t at rest s)) (drop_of_length-le items h)
        ∙ ap (λ (all : List Initial). Ok (all, s)) (append-nil parts)

    module _ (item : Initialiser) (u : CType) (within : at < length items) (is : item ≡ get_or items at item) (fits : part_type s.structs t at ≡ Some u) where
      the_next : parts_in scopes brace t at (drop at items) s
          ≡ and_then (contents scopes brace u item s) (λ part. parts_in scopes brace t (at + 1) (drop (at + 1) items) >>= λ more. pure (part ∷ more))
      the_next =
          ap (λ (rest : List Initialiser). parts_in scopes brace t at rest s) (drop_more items at item within)
          ∙ ap (λ (w : Option CType). and_then (or_refuse (ill_typed brace) w s) (λ v. contents scopes brace v (get_or items at item) >>= λ part. parts_in scopes brace t (at + 1) (drop (at + 1) items) >>= λ more. pure (part ∷ more))) fits
          ∙ ap (λ (x : Initialiser). and_then (contents scopes brace u x s) (λ part. parts_in scopes brace t (at + 1) (drop (at + 1) items) >>= λ more. pure (part ∷ more))) (sym is)

      pub goes_on : (part : Initial) → contents scopes brace u item s ≡ Ok (part, s) → IsSoFar items (at + 1) (parts ++ part ∷ [])
      goes_on part e =
          so_far
          ∙ ap (behind parts) (the_next ∙ ap (λ r. and_then r (λ first. parts_in scopes brace t (at + 1) (drop (at + 1) items) >>= λ more. pure (first ∷ more))) e)
          ∙ behind-one_before parts part (parts_in scopes brace t (at + 1) (drop (at + 1) items) s)

      pub stops : (halt : Halt) → Stops halt (contents scopes brace u item s) → Stops halt (parts_in scopes brace t 0 items s)
      stops halt e =
          subst (Stops halt) (sym (so_far ∙ ap (behind parts) the_next))
          (stops_first (λ more. pure (parts ++ more)) halt _
          (stops_first (λ first. parts_in scopes brace t (at + 1) (drop (at + 1) items) >>= λ more. pure (first ∷ more)) halt (contents scopes brace u item s) e))

  module _ (items : List Initialiser) where
    -- where there are not too many
    pub listed_within : nat_le (length items) (parts_of s.structs t) ≡ true → list_parts scopes brace t items s ≡ and_then (parts_in scopes brace t 0 items s) (λ all. pure (initial.Parts all))
    listed_within e = ap (λ b. and_then (unless (ill_typed brace) b s) (λ w. parts_in scopes brace t 0 items >>= λ all. pure (initial.Parts all))) e

    pub listed_beyond : nat_le (length items) (parts_of s.structs t) ≡ false → list_parts scopes brace t items s ≡ Err (ill_typed brace)
    listed_beyond e = ap (λ b. and_then (unless (ill_typed brace) b s) (λ w. parts_in scopes brace t 0 items >>= λ all. pure (initial.Parts all))) e

    pub listed_whole : nat_le (length items) (parts_of s.structs t) ≡ true → (parts : List Initial) → parts_in scopes brace t 0 items s ≡ Ok (parts, s)
        → list_parts scopes brace t items s ≡ Ok (initial.Parts parts, s)
    listed_whole e parts f = listed_within e ∙ ap (λ r. and_then r (λ all. pure (initial.Parts all))) f

    pub listed_stops : nat_le (length items) (parts_of s.structs t) ≡ true → (halt : Halt) → Stops halt (parts_in scopes brace t 0 items s) → Stops halt (list_parts scopes brace t items s)
    listed_stops e halt f = subst (Stops halt) (sym (listed_within e)) (stops_first (λ all. pure (initial.Parts all)) halt (parts_in scopes brace t 0 items s) f)

-- The program's rows are lists.

module _ (f g : Typing (List Initial)) (same : (s : Tags) → f s ≡ g s) where
  then_more : (r : Result (Initial × Tags) Refusal) → and_then r (λ part. f >>= λ more. pure (part ∷ more)) ≡ and_then r (λ part. g >>= λ more. pure (part ∷ more))
  then_more (Ok r) = ap (one_before r.0) (same r.1)
  then_more (Err refusal) = refl

  then_part : (refusal : Refusal) (given : CType → Typing Initial) (w : Option CType) (s : Tags) →
      and_then (or_refuse refusal w s) (λ u. given u >>= λ part. f >>= λ more. pure (part ∷ more))
      ≡ and_then (or_refuse refusal w s) (λ u. given u >>= λ part. g >>= λ more. pure (part ∷ more))
  then_part refusal given (Some u) s = then_more (given u s)
  then_part refusal given None s = refl

module _ (scopes : Scopes) (brace : Place) (t : CType) where
  rows_are : {m : _} (row : i.Row_of-Initialiser m) (at : ℕ) (s : Tags) → parts_from scopes brace t at row s ≡ parts_in scopes brace t at (items-the_row-Initialiser m row) s
  rows_are i.end_of-Initialiser at s = refl
  rows_are (i.more_of-Initialiser item rest) at s =
      then_part (parts_from scopes brace t (at + 1) rest) (parts_in scopes brace t (at + 1) (items-the_row-Initialiser _ rest)) (rows_are rest (at + 1))
      (ill_typed brace) (λ u. contents scopes brace u item) (part_type s.structs t at) s

  shape_length : (items : List Initialiser) → length (shape-the_row-Initialiser-0 items) ≡ length items
  unfolding shape-the_row-Initialiser-0
  shape_length items = length-map items _

  all_rows : (items : List Initialiser) (s : Tags) → parts_from scopes brace t 0 (hidden-the_row-Initialiser-0 items) s ≡ parts_in scopes brace t 0 items s
  all_rows items s =
      rows_are (hidden-the_row-Initialiser-0 items) 0 s ∙ ap (λ (l : List Initialiser). parts_in scopes brace t 0 l s) (items_hidden-the_row-Initialiser-0 items)

  rows_listed : (items : List Initialiser) (s : Tags) (b : Bool) →
      and_then (unless (ill_typed brace) b s) (λ w. parts_from scopes brace t 0 (hidden-the_row-Initialiser-0 items) >>= λ all. pure (initial.Parts all))
      ≡ and_then (unless (ill_typed brace) b s) (λ w. parts_in scopes brace t 0 items >>= λ all. pure (initial.Parts all))
  rows_listed items s true = ap (λ r. and_then r (λ all. pure (initial.Parts all))) (all_rows items s)
  rows_listed items s false = refl

  pub contents_listed : (place : Place) (items : List Initialiser) (s : Tags) → is_scalar t ≡ false → contents scopes place t (i.List brace items) s ≡ list_parts scopes brace t items s
  unfolding shape-the_row-Initialiser-0 hidden-the_row-Initialiser-0 hidden
  contents_listed place items s e =
      let after : ℕ → Tags → Result (Initial × Tags) Refusal = λ n s'. and_then (unless (ill_typed brace) (nat_le n (parts_of s.structs t)) s')
      (λ w. parts_from scopes brace t 0 (hidden-the_row-Initialiser-0 items) >>= λ all. pure (initial.Parts all)) in
      ap (λ b. and_then (unless (ill_typed place) (not b) s) (λ w. after (length (shape-the_row-Initialiser-0 items)))) e
      ∙ ap (λ n. after n s) (shape_length items)
      ∙ rows_listed items s (nat_le (length items) (parts_of s.structs t))

  pub nothing_given : (place : Place) (items : List Initialiser) (s : Tags) → is_scalar t ≡ false → parts_of s.structs t ≡ 0 → contents scopes place t (i.List brace items) s ≡ no_parts brace items s
  nothing_given place items s e f =
      contents_listed place items s e
      ∙ ap (λ n. and_then (unless (ill_typed brace) (nat_le (length items) n) s) (λ w. parts_in scopes brace t 0 items >>= λ all. pure (initial.Parts all))) f
      ∙ by items (nat_le (length items) 0) refl
    where
      by : (items : List Initialiser) (b : Bool) → nat_le (length items) 0 ≡ b →
          and_then (unless (ill_typed brace) (nat_le (length items) 0) s) (λ w. parts_in scopes brace t 0 items >>= λ all. pure (initial.Parts all)) ≡ no_parts brace items s
      by [] b g = refl
      by (x ∷ xs) true g = absurd (let h = leb-true (length (x ∷ xs)) 0 g in omega arith)
      by (x ∷ xs) false g =
          ap (λ b. and_then (unless (ill_typed brace) b s) (λ w. parts_in scopes brace t 0 (x ∷ xs) >>= λ all. pure (initial.Parts all))) g
          ∙ sym (ap (λ b. and_then (unless (ill_typed brace) b s) (λ w. pure (initial.Parts []))) g)

-- of a struct's fields
pub field_part : (structs : Structs) (tag : List ℕ) (fields : List Field) (at : ℕ) (f : Field) → fields ≡ unwrap_or (fields_of structs tag) [] → at < length fields
    → part_type structs (Struct tag) at ≡ Some (get_or fields at f).ty
field_part structs tag fields at f e h =
    ap (λ (fs : List Field). option_map (λ (g : Field). g.ty) (slice_get fs at)) (sym e) ∙ ap (option_map (λ (g : Field). g.ty)) (slice_get-get_or fields at f h)

-- a function is no number or pointer, and has no parts
pub function_scalar : (ps : List CType) (r : CType) → is_scalar (Function ps r) ≡ false
unfolding shape-the_row-CType-0 hidden-the_row-CType-0 hidden
function_scalar ps r = refl

pub function_parts : (structs : Structs) (ps : List CType) (r : CType) → parts_of structs (Function ps r) ≡ 0
unfolding shape-the_row-CType-0 hidden-the_row-CType-0 hidden
function_parts structs ps r = refl
