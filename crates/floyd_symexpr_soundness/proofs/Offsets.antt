-- Each field of a complete struct has a layout and an offset.
use Rattle.std.proofs.Common.{◌≡◌, ℕ, Bool, true, false, List, [], ◌∷◌, Option, Some, None, find, option_and_then, option_map, bytes_eq, refl, sym, ap, ◌∙◌, cond}
use Rattle.std.specs.Prelude.{IsSome}
use Rattle.std.proofs.lemmas.Option.{same_Some}
use Rattle.floyd_ctypes.specs.declared.ctype.CType.{CType}
use Rattle.floyd_ctypes.specs.declared.field.Field.{Field}
use Rattle.floyd_ctypes.specs.declared.layout.Layout.{Layout}
use Rattle.floyd_ctypes.specs.Layout.{after, laid_after, layout, nothing_laid, offset, offset_after, offset_from, padded}
use Rattle.floyd_ctypes.specs.Structs.{Structs, field_of, fields_of}
use Rattle.floyd_assert_cells.proofs.FormLaws.{chained}
use Rattle.floyd_symexpr_soundness.specs.Laws.{AreLaidOut}

-- the field of a name among fields that are laid behind others
record LiesBehind (of : CType → Option Layout) (laid : Layout) (fields : List Field) (x : List ℕ) (item : Field) : Type 0 where
  pub form : Layout
  pub has : of item.ty ≡ Some form
  pub place : ℕ
  pub is : offset_from of laid fields x ≡ Some place

module _ (of : CType → Option Layout) (x : List ℕ) (item : Field) where
  lies_by : (laid : Layout) (f : Field) (fs : List Field) (l : Layout) → of f.ty ≡ Some l →
      (find (λ f. bytes_eq x f.name) fs ≡ Some item → LiesBehind of (after laid l) fs x item) →
      (t : Bool) → bytes_eq x f.name ≡ t → cond t (Some f) (find (λ f. bytes_eq x f.name) fs) ≡ Some item → LiesBehind of laid (f ∷ fs) x item
  lies_by laid f fs l e next true b p =
      record {
        form = l;
        has = ap (λ (g : Field). of g.ty) (sym (same_Some f item p)) ∙ e;
        place = offset_after laid l;
        is = ap (option_and_then (λ l. cond (bytes_eq x f.name) (Some (offset_after laid l)) (offset_from of (after laid l) fs x))) e
            ∙ ap (λ t. cond t (Some (offset_after laid l)) (offset_from of (after laid l) fs x)) b;
      }
  lies_by laid f fs l e next false b p =
      let r = next p in
      record {
        form = r.form;
        has = r.has;
        place = r.place;
        is = ap (option_and_then (λ l. cond (bytes_eq x f.name) (Some (offset_after laid l)) (offset_from of (after laid l) fs x))) e
            ∙ ap (λ t. cond t (Some (offset_after laid l)) (offset_from of (after laid l) fs x)) b ∙ r.is;
      }

  lies_among : (laid last : Layout) (fs : List Field) → laid_after of laid fs ≡ Some last → find (λ f. bytes_eq x f.name) fs ≡ Some item → LiesBehind of laid fs x item
  lies_among laid last [] e p = cc
  lies_among laid last (f ∷ fs) e p =
      let l = chained (λ l. laid_after of (after laid l) fs) (of f.ty) last e in
      lies_by laid f fs l.0 l.1 (λ q. lies_among (after laid l.0) last fs l.2 q) (bytes_eq x f.name) refl p

laid_some : (o : Option Layout) → IsSome (option_map padded o) → (l : Layout) × (o ≡ Some l)
laid_some (Some l) e = (l, refl)
laid_some None e = cc

-- the layout of a field's type, and the field's offset
pub record FieldLies (structs : Structs) (tag x : List ℕ) (item : Field) : Type 0 where
  pub form : Layout
  pub has : layout structs item.ty ≡ Some form
  pub place : ℕ
  pub at : offset structs tag x ≡ Some place

pub field_lies : (structs : Structs) (tag x : List ℕ) (item : Field) → AreLaidOut structs → field_of structs tag x ≡ Some item → FieldLies structs tag x item
field_lies structs tag x item all e =
    let f = chained (find (λ f. bytes_eq x f.name)) (fields_of structs tag) item e in
    let l = laid_some (laid_after (layout structs) nothing_laid f.0) (all.laid tag f.0 f.1).sized in
    let r = lies_among (layout structs) x item nothing_laid l.0 f.0 l.1 f.2 in
    record {
      form = r.form;
      has = r.has;
      place = r.place;
      at = ap (option_and_then (λ fields. offset_from (layout structs) nothing_laid fields x)) f.1 ∙ r.is;
    }
