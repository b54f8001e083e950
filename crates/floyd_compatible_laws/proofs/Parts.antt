-- What is at a path of an object is an object at its own address.
use Rattle.std.proofs.Common.{◌≡◌, ℕ, ◌+◌, ◌%◌, ◌<◌, ◌≤◌, ◌^◌, ◌==◌, Bool, true, false, ℤ, pos, negsuc, List, [], ◌∷◌, Option, Some, None, sym, ap, subst, ◌∙◌, arith, eq-eqb, eqb-true, lt-ltb}
use Rattle.std.specs.Prelude.{if◌then◌else◌, int_lt, is_some, ◌+ℤ◌}
use Rattle.std.specs.Int.{◌∣◌}
use Rattle.std.specs.Option.{option_map_or}
use Rattle.std.proofs.lemmas.Int.{ints}
use Rattle.std.proofs.lemmas.Nat.Gcd.{dvd_of_mod-eq-zero, mod-eq-zero_of_dvd}
use Rattle.std.proofs.lemmas.Option.{same_Some}
use Rattle.floyd_ctypes.specs.declared.field.Field.{Field}
use Rattle.floyd_ctypes.specs.Path.{Step, Dot, At}
use Rattle.floyd_ctypes.specs.Structs.{Structs, field_of}
use Rattle.floyd_tree_sorts.specs.declared.shape.Shape.{Shape, Void, Int, Pointer', Array', Struct, Function', more_of-Shape, end_of-Shape}
use Rattle.floyd_assert_cells.specs.Forms.{form_layout, form_of, form_size}
use Rattle.floyd_assert_cells.specs.Types.{Sized, after_dot, align, has_room, is_aligned_for, is_legal, item_type, none_negative, size, sized, type_after, type_at}
use Rattle.floyd_assert_cells.proofs.FormLaws.{align_is, chained, has_form, mapped, size_is}
use Rattle.floyd_assert_cells.proofs.FormOrders.{is_form}
use Rattle.floyd_assert_cells.proofs.NoNegatives.{c_sizes}
use Rattle.floyd_assert_cells.proofs.ObjectLaws.{four_parts, tested}
use Rattle.floyd_assert_cells.proofs.PathForms.{path_found, path_placed}
use Rattle.floyd_compatible_laws.specs.Laws.{PartsAreObjects}
use Rattle.floyd_compatible_laws.proofs.Agreeing.{all_four}

-- ---- sizes along a path

tail_none : (n : ℤ) (ns : List ℤ) → none_negative (n ∷ ns) ≡ true → none_negative ns ≡ true
tail_none (pos n) ns k = k
tail_none (negsuc n) ns k = absurd cc

dot_none : (structs : Structs) (shape : Shape) (name : List ℕ) (u : Sized) → after_dot structs shape name ≡ Some u → none_negative u.sizes ≡ true
dot_none structs Void name u e = absurd cc
dot_none structs (Int k) name u e = absurd cc
dot_none structs (Pointer' p t) name u e = absurd cc
dot_none structs (Array' p t) name u e = absurd cc
dot_none structs (Struct tag) name u e =
    let f = mapped (λ (f : Field). sized f.ty) (field_of structs tag name) u e in
    subst (λ (z : Sized). none_negative z.sizes ≡ true) f.2 (c_sizes f.0.ty)
dot_none structs (Function' q ps p r) name u e = absurd cc

item_none : (shape : Shape) (ns : List ℤ) (u : Sized) → item_type shape ns ≡ Some u → none_negative ns ≡ true → none_negative u.sizes ≡ true
item_none Void ns u e k = absurd cc
item_none (Int kind) ns u e k = absurd cc
item_none (Pointer' p t) ns u e k = absurd cc
item_none (Array' p (more_of-Shape t end_of-Shape)) [] u e k = absurd cc
item_none (Array' p (more_of-Shape t end_of-Shape)) (n ∷ ns) u e k =
    subst (λ (z : Sized). none_negative z.sizes ≡ true) (same_Some {A = Sized} (record { shape = t; sizes = ns }) u e) (tail_none n ns k)
item_none (Struct tag) ns u e k = absurd cc
item_none (Function' q ps p r) ns u e k = absurd cc

after_none : (structs : Structs) (t u : Sized) (step : Step) → type_after structs t step ≡ Some u → none_negative t.sizes ≡ true → none_negative u.sizes ≡ true
after_none structs t u (Dot name) e k = dot_none structs t.shape name u e
after_none structs t u (At i) e k = item_none t.shape t.sizes u e k

there : (test : Bool) (t u : Sized) → (if test then Some t else None) ≡ Some u → t ≡ u
there true t u e = same_Some {A = Sized} t u e
there false t u e = absurd cc

pub path_none : (structs : Structs) (path : List Step) (t u : Sized) → type_at structs t path ≡ Some u → none_negative t.sizes ≡ true → none_negative u.sizes ≡ true
path_none structs [] t u e k = subst (λ (z : Sized). none_negative z.sizes ≡ true) (there (is_some (size structs t)) t u e) k
path_none structs (step ∷ path) t u e k =
    let a = chained (λ v. type_at structs v path) (type_after structs t step) u e in
    path_none structs path a.0 u a.2 (after_none structs t a.0 step a.1 k)

-- ---- places

same_shift : (m n : ℕ) → ◌≡◌ {A = Option ℤ} (Some (pos m)) (Some (pos n)) → m ≡ n
same_shift m n e = cc

in_room : (offset whole inner n d : ℕ) → int_lt (pos offset +ℤ pos whole) (pos (2 ^ 64)) ≡ true → n + inner ≤ whole → n ≡ d → offset + d + inner < 2 ^ 64
in_room offset whole inner n d e h same = omega (arith, ints, e, h, same)

pub parts_are_objects : PartsAreObjects
parts_are_objects structs t u path block offset d ok nested shifted =
    let parts = four_parts (is_aligned_for structs t offset) (has_room structs t offset) (none_negative t.sizes) (is_legal structs t path) ok in
    let room = tested (size structs t) (λ n. int_lt (pos offset +ℤ n) (pos (2 ^ 64))) parts.1 in
    let f = has_form structs t.shape t.sizes room.0 room.1 parts.2 in
    let al = tested (align structs t) (λ a. offset % a == 0) parts.0 in
    let same : al.0 ≡ (form_layout f.0).align = same_Some al.0 (form_layout f.0).align (sym al.1 ∙ align_is structs t.shape t.sizes f.0 f.1) in
    let divides : (form_layout f.0).align ∣ offset = subst (λ a. a ∣ offset) same (dvd_of_mod-eq-zero al.0 (eqb-true (offset % al.0) 0 al.2)) in
    let p = path_found structs path t f.0 f.1 parts.3 in
    let place = path_placed path f.0 p.found offset (is_form structs t f.0 f.1) divides p.is in
    let type : p.type ≡ u = same_Some {A = Sized} p.type u (sym p.nested ∙ nested) in
    let form : form_of structs u ≡ Some p.found.form = subst (λ z. form_of structs z ≡ Some p.found.form) type p.form in
    let shift : p.found.offset ≡ d = same_shift p.found.offset d (sym p.place ∙ shifted) in
    let count : size structs u ≡ Some (pos (form_size p.found.form)) = size_is structs u.shape u.sizes p.found.form form in
    let unit : align structs u ≡ Some (form_layout p.found.form).align = align_is structs u.shape u.sizes p.found.form form in
    let whole : room.0 ≡ pos (form_size f.0) = same_Some room.0 (pos (form_size f.0)) (sym room.1 ∙ size_is structs t.shape t.sizes f.0 f.1) in
    let below : int_lt (pos offset +ℤ pos (form_size f.0)) (pos (2 ^ 64)) ≡ true = subst (λ n. int_lt (pos offset +ℤ n) (pos (2 ^ 64)) ≡ true) whole room.2 in
    let aligned : (form_layout p.found.form).align ∣ offset + d = subst (λ n. (form_layout p.found.form).align ∣ offset + n) shift place.aligned in
    all_four (is_aligned_for structs u (offset + d)) (has_room structs u (offset + d)) (none_negative u.sizes) (is_legal structs u [])
    (ap (λ o. option_map_or (λ a. (offset + d) % a == 0) o false) unit ∙ eq-eqb ((offset + d) % (form_layout p.found.form).align) 0 (mod-eq-zero_of_dvd (form_layout p.found.form).align aligned))
    (ap (λ o. option_map_or (λ n. int_lt (pos (offset + d) +ℤ n) (pos (2 ^ 64))) o false) count
    ∙ lt-ltb (offset + d + form_size p.found.form) (2 ^ 64) (in_room offset (form_size f.0) (form_size p.found.form) p.found.offset d below place.within shift))
    (path_none structs path t u nested parts.2)
    (ap is_some count)
