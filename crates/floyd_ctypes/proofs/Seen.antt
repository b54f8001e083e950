-- What a table stands for, against what it keeps.
use Rattle.std.proofs.Common.{◌≡◌, ℕ, Bool, true, false, cond, List, [], ◌∷◌, Option, None, Some, option_map, option_and_then, is_some, bytes_eq, refl, ap, sym, ◌∙◌, Bor, IfNone, length, slice_get}
use Rattle.std.proofs.lemmas.List.{length-map}
use Rattle.std.proofs.lemmas.Option.{slice_get-map}
use Rattle.std.specs.Option.{option_copied}
use Rattle.std.specs.Map.{lookup, keys_of}
use Rattle.floyd_ctypes.specs.declared.field.Field.{Field}
use Rattle.floyd_ctypes.specs.declared.laid.Laid.{Laid}
use Rattle.floyd_ctypes.specs.Structs.{tags, has_tag, fields_of}
use Rattle.floyd_ctypes.specs.Stored.{seen, kept_fields}

abbrev pub Entries : Type 0
Entries = List (List ℕ × Option Laid)

cond-map : {X Y : Type 0} (f : X → Y) (b : Bool) (x : X) (y : Option X) → option_map f (cond b (Some x) y) ≡ cond b (Some (f x)) (option_map f y)
cond-map f true x y = refl
cond-map f false x y = refl

pub lookup-seen : (test : List ℕ → Bool) (es : Entries) → lookup test (seen es) ≡ option_map kept_fields (lookup test es)
lookup-seen test [] = refl
lookup-seen test (e ∷ es) =
    ap (cond (test e.0) (Some (kept_fields e.1))) (lookup-seen test es)
    ∙ sym (cond-map kept_fields (test e.0) e.1 (lookup test es))

-- the fields of what was found
abbrev pub found_fields : Option (Option Laid) → Option (List Field)
found_fields found = option_and_then kept_fields found

joined : (found : Option (Option Laid)) → option_and_then (λ (fields : Option (List Field)). fields) (option_map kept_fields found) ≡ found_fields found
joined None = refl
joined (Some kept) = refl

pub fields_of-seen : (es : Entries) (tag : List ℕ) → fields_of (seen es) tag ≡ found_fields (lookup (bytes_eq tag) es)
fields_of-seen es tag = ap (option_and_then (λ (fields : Option (List Field)). fields)) (lookup-seen (bytes_eq tag) es) ∙ joined (lookup (bytes_eq tag) es)

is_some-map : {X Y : Type 0} (f : X → Y) (o : Option X) → is_some (option_map f o) ≡ is_some o
is_some-map f None = refl
is_some-map f (Some x) = refl

pub has_tag-seen : (es : Entries) (tag : List ℕ) → has_tag (seen es) tag ≡ is_some (lookup (bytes_eq tag) es)
has_tag-seen es tag = ap is_some (lookup-seen (bytes_eq tag) es) ∙ is_some-map kept_fields (lookup (bytes_eq tag) es)

-- a tag that was not found has no fields
pub not_found : (es : Entries) (tag : List ℕ) {X : Type 0} (o : Option X) → None ≡ lookup (bytes_eq tag) es → IfNone o (fields_of (seen es) tag ≡ None)
not_found es tag None e = fields_of-seen es tag ∙ ap found_fields (sym e)
not_found es tag (Some x) e = tt

-- nor has one of which no more is kept
pub not_kept : (es : Entries) (tag : List ℕ) (o : Option (Bor Laid)) (kept : Option Laid) → option_copied o ≡ kept → Some kept ≡ lookup (bytes_eq tag) es → IfNone o (fields_of (seen es) tag ≡ None)
not_kept es tag None kept e f = fields_of-seen es tag ∙ ap found_fields (sym f) ∙ ap kept_fields (sym e)
not_kept es tag (Some x) kept e f = tt

pub tags-seen : (es : Entries) → tags (seen es) ≡ keys_of es
tags-seen [] = refl
tags-seen (e ∷ es) = ap (λ ts. e.0 ∷ ts) (tags-seen es)

pub length-seen : (es : Entries) → length (seen es) ≡ length es
length-seen es = length-map es (λ (e : List ℕ × Option Laid). (e.0, kept_fields e.1))

pub tag_read : (es : Entries) (i : ℕ) (read : Option (List ℕ × Option Laid)) → read ≡ slice_get es i → option_map (λ (e : List ℕ × Option Laid). e.0) read ≡ slice_get (tags (seen es)) i
tag_read es i read e =
    ap (option_map (λ (e : List ℕ × Option Laid). e.0)) e
    ∙ sym (slice_get-map (λ (e : List ℕ × Option Laid). e.0) es i)
    ∙ ap (λ ts. slice_get ts i) (sym (tags-seen es))
