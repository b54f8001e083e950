-- The address at a path of an object is the place of the part that stands there.
use Rattle.std.proofs.Common.{◌≡◌, ℕ, ◌+◌, ◌<◌, ◌≤◌, ◌^◌, ◌%◌, ◌==◌, ◌&&◌, Bool, true, false, ℤ, pos, ◌+ℤ◌, int_lt, eqb-true, List, Option, Some, None, Ok, refl, sym, ◌∙◌, ap, subst, arith}
use Rattle.std.specs.Int.{◌∣◌}
use Rattle.std.specs.Option.{option_map_or}
use Rattle.std.proofs.lemmas.Int.{ints}
use Rattle.std.proofs.lemmas.Nat.Gcd.{dvd_of_mod-eq-zero}
use Rattle.std.proofs.lemmas.Option.{same_Some}
use Rattle.floyd_int.specs.declared.kinds.Value.{Value}
use Rattle.floyd_int.specs.declared.kinds.Value.TheVariants.{Vptr}
use Rattle.floyd_int.specs.Kind.{modulo}
use Rattle.floyd_int.proofs.Modulo.{modulo-small}
use Rattle.floyd_ctypes.specs.Structs.{Structs}
use Rattle.floyd_tree_sorts.specs.declared.sorts.Sort.{Val as ValSort}
use Rattle.floyd_tree.specs.declared.paths.PathStep.{PathStep}
use Rattle.floyd_tree.specs.Plain.{Plain}
use Rattle.floyd_tree.specs.Types.{SizedType}
use Rattle.floyd_tree.specs.WellSorted.{sort_of}
use Rattle.floyd_tree_values.specs.BuiltIns.{Env}
use Rattle.floyd_tree_values.specs.Data.{Val}
use Rattle.floyd_tree_values.specs.Means.{Defs, Means}
use Rattle.floyd_assert_cells.specs.Cells.{Located}
use Rattle.floyd_assert_cells.specs.Forms.{form_layout, form_size}
use Rattle.floyd_assert_cells.specs.Types.{Sized, Step, align, compatible, has_room, is_aligned_for, is_legal, none_negative, offset_at, size}
use Rattle.floyd_assert_cells.proofs.FormLaws.{align_is, has_form, size_is}
use Rattle.floyd_assert_cells.proofs.FormOrders.{is_form}
use Rattle.floyd_assert_cells.proofs.PathForms.{path_found, path_placed}
use Rattle.floyd_fieldpath.specs.Addresses.{address}
use Rattle.floyd_fieldpath_laws.specs.Senses.{Sense}
use Rattle.floyd_fieldpath_laws.proofs.AddressMeanings.{address_means}

passed : {A : Type 0} (o : Option A) (f : A → Bool) → option_map_or f o false ≡ true → (x : A) × (o ≡ Some x) × (f x ≡ true)
passed (Some x) f e = (x, refl, e)
passed None f e = absurd cc

four_parts : (p q r s : Bool) → (p && q && r && s) ≡ true → (p ≡ true) × (q ≡ true) × (r ≡ true) × (s ≡ true)
four_parts true true true true e = (refl, refl, refl, refl)
four_parts true true true false e = absurd cc
four_parts true true false s e = absurd cc
four_parts true false r s e = absurd cc
four_parts false q r s e = absurd cc

same_shift : (m n : ℕ) → ◌≡◌ {A = Option ℤ} (Some (pos m)) (Some (pos n)) → m ≡ n
same_shift m n e = cc

in_room : (offset size inner k shift : ℕ) → int_lt (pos offset +ℤ pos size) (pos (2 ^ 64)) ≡ true → inner + k ≤ size → inner ≡ shift → offset + shift < 2 ^ 64
in_room offset size inner k shift e h same = omega (arith, ints, e, h, same)

-- the place at a legal path lies below 2 ^ 64
pub place_below : (structs : Structs) (t : Sized) (path : List Step) (block offset shift : ℕ) → compatible structs t path (Vptr block offset) ≡ true → offset_at structs t path ≡ Some (pos shift) → offset + shift < 2 ^ 64
place_below structs t path block offset shift ok shifted =
    let parts = four_parts (is_aligned_for structs t offset) (has_room structs t offset) (none_negative t.sizes) (is_legal structs t path) ok in
    let room = passed (size structs t) (λ n. int_lt (pos offset +ℤ n) (pos (2 ^ 64))) parts.1 in
    let f = has_form structs t.shape t.sizes room.0 room.1 parts.2 in
    let al = passed (align structs t) (λ a. offset % a == 0) parts.0 in
    let same : al.0 ≡ (form_layout f.0).align = same_Some al.0 (form_layout f.0).align (sym al.1 ∙ align_is structs t.shape t.sizes f.0 f.1) in
    let divides : (form_layout f.0).align ∣ offset = subst (λ a. a ∣ offset) same (dvd_of_mod-eq-zero al.0 (eqb-true (offset % al.0) 0 al.2)) in
    let p = path_found structs path t f.0 f.1 parts.3 in
    let place = path_placed path f.0 p.found offset (is_form structs t f.0 f.1) divides p.is in
    let whole : room.0 ≡ pos (form_size f.0) = same_Some room.0 (pos (form_size f.0)) (sym room.1 ∙ size_is structs t.shape t.sizes f.0 f.1) in
    let below : int_lt (pos offset +ℤ pos (form_size f.0)) (pos (2 ^ 64)) ≡ true = subst (λ n. int_lt (pos offset +ℤ n) (pos (2 ^ 64)) ≡ true) whole room.2 in
    in_room offset (form_size f.0) p.found.offset (form_size p.found.form) shift below place.within (same_shift p.found.offset shift (sym p.place ∙ shifted))

pub place_means : (defs : Defs) (env : Env) (t : SizedType) (path : List PathStep) (root a : Plain) (m : Sense defs env t path) (r : Value) →
    sort_of root ≡ Some ValSort → Means defs env root (Val r) → (l : Located defs.structs m.type m.steps r) → address defs.structs t path root ≡ Ok a →
    Means defs env a (Val (Vptr l.block (l.offset + l.shift)))
place_means defs env t path root a m r sorted mean l made =
    let points : Means defs env root (Val (Vptr l.block l.offset)) = subst (λ v. Means defs env root (Val v)) l.points mean in
    let fits : compatible defs.structs m.type m.steps (Vptr l.block l.offset) ≡ true = ap (compatible defs.structs m.type m.steps) (sym l.points) ∙ l.fits in
    let low : l.offset + l.shift < 2 ^ 64 = place_below defs.structs m.type m.steps l.block l.offset l.shift fits l.shifted in
    let begins : l.offset < 2 ^ 64 = omega (arith, low) in
    let sum : pos l.offset +ℤ pos l.shift ≡ pos (l.offset + l.shift) = omega (arith, ints) in
    let still : modulo (pos l.offset +ℤ pos l.shift) (2 ^ 64) ≡ l.offset + l.shift = ap (λ i. modulo i (2 ^ 64)) sum ∙ modulo-small (l.offset + l.shift) (2 ^ 64) low in
    subst (λ o. Means defs env a (Val (Vptr l.block o))) still (address_means defs env t path root a m l.block l.offset (pos l.shift) sorted points begins l.shifted made)
