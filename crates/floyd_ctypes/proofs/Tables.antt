-- Tags that are declared and structs that are completed, in what is kept.
use Rattle.std.proofs.Common.{◌≡◌, ℕ, All, IsTrue, get_or, ◌+◌, ◌<◌, ◌≤◌, ◌^◌, suc, Bool, true, false, true≢false, List, [], ◌∷◌, ◌++◌, Option, None, Some, option_and_then, is_some, cond, length, bytes_eq, refl, ap, sym, ◌∙◌, subst, arith}
use Rattle.std.specs.Cmp.Lexicographic.{nat_list_eq_equiv}
use Rattle.std.specs.Map.{lookup}
use Rattle.std.proofs.lemmas.Slice.Eq.{bytes_eq-Decides}
use Rattle.indexmap.specs.IndexMap.{get, insert_entry}
use Rattle.floyd_ctypes.specs.declared.field.Field.{Field}
use Rattle.floyd_ctypes.specs.declared.laid.Laid.{Laid}
use Rattle.floyd_ctypes.specs.Define.{declared, completed}
use Rattle.floyd_ctypes.specs.Layout.{layout, layout_by, struct_layout, fields_layout, nothing_laid, type_fits, IsLaidOut}
use Rattle.floyd_ctypes.specs.Stored.{seen, kept_fields, place_from, IsLaid, IsTable, PutsEntry}
use Rattle.floyd_ctypes.specs.Structs.{Structs, has_tag, is_complete, fields_of, completes}
use Rattle.floyd_ctypes.proofs.Growth.{Grows, of_fields, places_kept, fits_stay, tags_stay, layouts_stay, laid_stays}
use Rattle.floyd_ctypes.proofs.Options.{map_some, then_some}
use Rattle.floyd_ctypes.proofs.Seen.{Entries, found_fields, fields_of-seen, has_tag-seen}

-- a new tag goes last
seen-new : (es : Entries) (tag : List ℕ) → lookup (bytes_eq tag) es ≡ None → seen (insert_entry bytes_eq es tag None) ≡ seen es ++ (tag, None) ∷ []
seen-new [] tag e = refl
seen-new (x ∷ es) tag e = by (bytes_eq tag x.0) (seen-new es tag) e
  where
    by : (b : Bool) → (lookup (bytes_eq tag) es ≡ None → seen (insert_entry bytes_eq es tag None) ≡ seen es ++ (tag, None) ∷ []) → cond b (Some x.1) (lookup (bytes_eq tag) es) ≡ None
        → seen (cond b ((x.0, None) ∷ es) (x ∷ insert_entry bytes_eq es tag None)) ≡ (x.0, kept_fields x.1) ∷ (seen es ++ (tag, None) ∷ [])
    by true more e = cc
    by false more e = ap (λ ss. (x.0, kept_fields x.1) ∷ ss) (more e)

-- a tag that is there takes what is put
seen-put : (es : Entries) (tag : List ℕ) (laid : Laid) (before : Option Laid) → lookup (bytes_eq tag) es ≡ Some before → seen (insert_entry bytes_eq es tag (Some laid)) ≡ completed (seen es) tag laid.fields
seen-put [] tag laid before e = cc
seen-put (x ∷ es) tag laid before e = by (bytes_eq tag x.0) (seen-put es tag laid before) e
  where
    by : (b : Bool) → (lookup (bytes_eq tag) es ≡ Some before → seen (insert_entry bytes_eq es tag (Some laid)) ≡ completed (seen es) tag laid.fields) → cond b (Some x.1) (lookup (bytes_eq tag) es) ≡ Some before
        → seen (cond b ((x.0, Some laid) ∷ es) (x ∷ insert_entry bytes_eq es tag (Some laid))) ≡ cond b ((x.0, Some laid.fields) ∷ seen es) ((x.0, kept_fields x.1) ∷ completed (seen es) tag laid.fields)
    by true more e = refl
    by false more e = ap (λ ss. (x.0, kept_fields x.1) ∷ ss) (more e)

-- a new tag is not complete
completes-new : (es : Entries) (tag : List ℕ) → lookup (bytes_eq tag) es ≡ None → completes (seen (insert_entry bytes_eq es tag None)) ≡ completes (seen es)
completes-new [] tag e = refl
completes-new (x ∷ es) tag e = by (bytes_eq tag x.0) (completes-new es tag) e
  where
    by : (b : Bool) → (lookup (bytes_eq tag) es ≡ None → completes (seen (insert_entry bytes_eq es tag None)) ≡ completes (seen es)) → cond b (Some x.1) (lookup (bytes_eq tag) es) ≡ None
        → completes (seen (cond b ((x.0, None) ∷ es) (x ∷ insert_entry bytes_eq es tag None))) ≡ completes (seen (x ∷ es))
    by true more e = cc
    by false more e = ap (λ n. cond (is_some (kept_fields x.1)) 1 0 + n) (more e)

-- one more is complete
completes-put : (es : Entries) (tag : List ℕ) (laid : Laid) → lookup (bytes_eq tag) es ≡ Some None → completes (seen (insert_entry bytes_eq es tag (Some laid))) ≡ suc (completes (seen es))
completes-put [] tag laid e = cc
completes-put (x ∷ es) tag laid e = by (bytes_eq tag x.0) (completes-put es tag laid) e
  where
    by : (b : Bool) → (lookup (bytes_eq tag) es ≡ Some None → completes (seen (insert_entry bytes_eq es tag (Some laid))) ≡ suc (completes (seen es))) → cond b (Some x.1) (lookup (bytes_eq tag) es) ≡ Some None
        → completes (seen (cond b ((x.0, Some laid) ∷ es) (x ∷ insert_entry bytes_eq es tag (Some laid)))) ≡ suc (completes (seen (x ∷ es)))
    by true more e =
        let none : x.1 ≡ None = cc in
        omega (arith, ap (λ kept. let n : ℕ = cond (is_some (kept_fields kept)) 1 0 in n) none)
    by false more e = omega (arith, more e)

-- a struct that was complete stays so, where what is put is put at one that was not
grows : (before now : Entries) (tag : List ℕ) (kept : Option Laid) → PutsEntry before tag kept now → fields_of (seen before) tag ≡ None → completes (seen before) ≤ completes (seen now) → Grows (seen before) (seen now)
grows before now tag kept puts none more = record {
  fields = λ q fs e. by q fs e (bytes_eq tag q) refl;
  more = more;
}
  where
    by : (q : List ℕ) (fs : List Field) → fields_of (seen before) q ≡ Some fs → (b : Bool) → bytes_eq tag q ≡ b → fields_of (seen now) q ≡ Some fs
    by q fs e true h =
        let no : None ≡ Some fs = sym none ∙ ap (fields_of (seen before)) ((bytes_eq-Decides tag q).0 h) ∙ e in
        cc
    by q fs e false h =
        fields_of-seen now q
        ∙ ap found_fields (puts q ∙ ap (λ b. cond b (Some kept) (lookup (bytes_eq q) before)) h)
        ∙ sym (fields_of-seen before q)
        ∙ e

-- what is kept stays right, if what is put is right
table : (before now : Entries) (tag : List ℕ) (kept : Option Laid) → PutsEntry before tag kept now → IsTable before → Grows (seen before) (seen now) → ((laid : Laid) → kept ≡ Some laid → IsLaid (seen now) tag laid) → IsTable now
table before now tag kept puts held grown right q laid e = by (bytes_eq tag q) refl
  where
    by : (b : Bool) → bytes_eq tag q ≡ b → IsLaid (seen now) q laid
    by true h =
        let put : Some kept ≡ Some (Some laid) = sym (puts q ∙ ap (λ b. cond b (Some kept) (lookup (bytes_eq q) before)) h) ∙ e in
        let same : kept ≡ Some laid = cc in
        subst (λ t. IsLaid (seen now) t laid) ((bytes_eq-Decides tag q).0 h) (right laid same)
    by false h =
        laid_stays (seen before) (seen now) grown q laid
        (held q laid (sym (puts q ∙ ap (λ b. cond b (Some kept) (lookup (bytes_eq q) before)) h) ∙ e))

-- where a new tag was put, what is kept is right, and stands for one tag more
pub table-new : (before now : Entries) (tag : List ℕ) → lookup (bytes_eq tag) before ≡ None → now ≡ insert_entry bytes_eq before tag None → PutsEntry before tag None now → IsTable before → IsTable now
table-new before now tag absent put puts held =
    table before now tag None puts held
    (grows before now tag None puts (fields_of-seen before tag ∙ ap found_fields absent)
    (let same : completes (seen now) ≡ completes (seen before) = ap (λ es. completes (seen es)) put ∙ completes-new before tag absent in omega arith))
    (λ laid e. cc)

pub declared-new : (before now : Entries) (tag : List ℕ) → lookup (bytes_eq tag) before ≡ None → now ≡ insert_entry bytes_eq before tag None → seen now ≡ declared (seen before) tag
declared-new before now tag absent put =
    ap seen put
    ∙ seen-new before tag absent
    ∙ sym (ap (λ b. cond b (seen before) (seen before ++ (tag, None) ∷ [])) (has_tag-seen before tag ∙ ap is_some absent))

-- what is kept of a struct that is completed
pub record IsReady (before : Entries) (tag : List ℕ) (laid : Laid) : Type 0 where
  pub there : lookup (bytes_eq tag) before ≡ Some None
  pub whole : fields_layout (layout (seen before)) laid.fields ≡ Some laid.layout
  pub places : (name : List ℕ) → get bytes_eq laid.places name ≡ place_from (layout (seen before)) 0 nothing_laid laid.fields name
  pub some : 0 < length laid.fields
  pub few : length laid.fields < 2 ^ 31
  pub fits : All (λ f. IsTrue (type_fits (seen before) f.ty)) laid.fields

-- a tag that is there and not complete is kept with nothing more
open_tag : (es : Entries) (tag : List ℕ) → has_tag (seen es) tag ≡ true → is_complete (seen es) tag ≡ false → lookup (bytes_eq tag) es ≡ Some None
open_tag es tag there open_yet =
    by (lookup (bytes_eq tag) es) (sym (has_tag-seen es tag) ∙ there) (ap is_some (sym (fields_of-seen es tag)) ∙ open_yet)
  where
    by : (o : Option (Option Laid)) → is_some o ≡ true → is_some (found_fields o) ≡ false → o ≡ Some None
    by None there open_yet = absurd (true≢false (sym there))
    by (Some None) there open_yet = refl
    by (Some (Some laid)) there open_yet = absurd (true≢false open_yet)

pub ready : (before : Entries) (structs : Structs) (tag : List ℕ) (laid : Laid) → seen before ≡ structs → has_tag structs tag ≡ true → is_complete structs tag ≡ false
    → fields_layout (layout structs) laid.fields ≡ Some laid.layout
    → ((name : List ℕ) → get bytes_eq laid.places name ≡ place_from (layout structs) 0 nothing_laid laid.fields name)
    → 0 < length laid.fields → length laid.fields < 2 ^ 31 → All (λ (f : Field). IsTrue (type_fits structs f.ty)) laid.fields
    → IsReady before tag laid
ready before structs tag laid view there open_yet whole places some few fits = record {
  there = open_tag before tag (ap (λ ss. has_tag ss tag) view ∙ there) (ap (λ ss. is_complete ss tag) view ∙ open_yet);
  whole = ap (λ ss. fields_layout (layout ss) laid.fields) view ∙ whole;
  places = λ name. places name ∙ sym (ap (λ ss. place_from (layout ss) 0 nothing_laid laid.fields name) view);
  some = some;
  few = few;
  fits = λ k d h. ap (λ ss. type_fits ss (get_or laid.fields k d).ty) view ∙ fits k d h;
}

laid-put : (before now : Entries) (tag : List ℕ) (laid : Laid) → IsReady before tag laid → Grows (seen before) (seen now) → completes (seen now) ≡ suc (completes (seen before)) → fields_of (seen now) tag ≡ Some laid.fields → IsLaid (seen now) tag laid
laid-put before now tag laid ready grown more fields = record {
  fields = fields;
  whole = of_fields (layout (seen before)) (layout (seen now)) (layouts_stay (seen before) (seen now) grown) laid.fields laid.layout ready.whole;
  named =
      ap (λ n. struct_layout n (seen now) tag) more
      ∙ ap (option_and_then (fields_layout (layout_by (struct_layout (completes (seen before)) (seen now))))) fields
      ∙ of_fields (layout (seen before)) (layout_by (struct_layout (completes (seen before)) (seen now)))
      (tags_stay (seen before) (seen now) grown (completes (seen before)) (omega arith)) laid.fields laid.layout ready.whole;
  places = λ name. ready.places name ∙ places_kept (layout (seen before)) (layout (seen now)) (layouts_stay (seen before) (seen now) grown) laid.fields laid.layout name ready.whole;
  some = ready.some;
  few = ready.few;
  fits = fits_stay (seen before) (seen now) grown laid.fields laid.layout ready.whole ready.fits;
}

-- where a struct was completed, what is kept is right, and stands for the struct with its fields
pub table-put : (before now : Entries) (tag : List ℕ) (laid : Laid) → IsReady before tag laid → now ≡ insert_entry bytes_eq before tag (Some laid) → PutsEntry before tag (Some laid) now → IsTable before → IsTable now
table-put before now tag laid ready put puts held =
    let more : completes (seen now) ≡ suc (completes (seen before)) = ap (λ es. completes (seen es)) put ∙ completes-put before tag laid ready.there in
    let grown = grows before now tag (Some laid) puts (fields_of-seen before tag ∙ ap found_fields ready.there) (omega (arith, more)) in
    let found = puts tag ∙ ap (λ b. cond b (Some (Some laid)) (lookup (bytes_eq tag) before)) (nat_list_eq_equiv.refl tag) in
    table before now tag (Some laid) puts held grown
    (λ other e.
    let same : laid ≡ other = cc in
    subst (IsLaid (seen now) tag) same (laid-put before now tag laid ready grown more (fields_of-seen now tag ∙ ap found_fields found)))

pub completed-put : (before now : Entries) (tag : List ℕ) (laid : Laid) → lookup (bytes_eq tag) before ≡ Some None → now ≡ insert_entry bytes_eq before tag (Some laid) → seen now ≡ completed (seen before) tag laid.fields
completed-put before now tag laid there put = ap seen put ∙ seen-put before tag laid None there

-- what is kept of a struct is right of its fields
pub laid_out : (structs : Structs) (tag : List ℕ) (laid : Laid) → IsLaid structs tag laid → IsLaidOut structs tag laid.fields
laid_out structs tag laid h = record {
  some = h.some;
  few = h.few;
  fits = h.fits;
  sized = ap is_some h.whole;
  same = h.named ∙ sym h.whole;
}

pub all_laid_out : (es : Entries) → IsTable es → (tag : List ℕ) (fields : List Field) → fields_of (seen es) tag ≡ Some fields → IsLaidOut (seen es) tag fields
all_laid_out es held tag fields e =
    let kept = then_some kept_fields (lookup (bytes_eq tag) es) fields (sym (fields_of-seen es tag) ∙ e) in
    let laid = map_some (λ (l : Laid). l.fields) kept.0 fields kept.2 in
    subst (IsLaidOut (seen es) tag) laid.2 (laid_out (seen es) tag laid.0 (held tag laid.0 (kept.1 ∙ ap Some laid.1)))
