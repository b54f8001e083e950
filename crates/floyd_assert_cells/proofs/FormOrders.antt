-- The fields of a form stand in order, one behind the other, and at multiples of their alignments.
use Rattle.std.proofs.Common.{◌≡◌, ℕ, zero, suc, ◌+◌, ◌-◌, ◌*◌, ◌/◌, ◌^◌, ◌≤◌, ◌<◌, max, ℤ, pos, negsuc, List, [], ◌∷◌, Option, Some, option_map, ⊎_elim, refl, sym, ◌∙◌, ap, subst, arith}
use Rattle.std.specs.Int.{◌∣◌}
use Rattle.std.proofs.Math.Nat.{dvd-mul_left, dvd-mul_right_of_dvd, div-add-mod'}
use Rattle.std.proofs.lemmas.Nat.Gcd.{dvd_refl}
use Rattle.std.proofs.lemmas.Nat.{pow-add, pow_pos, mod_below}
use Rattle.std.proofs.lemmas.Bool.{cases_lt}
use Rattle.std.proofs.lemmas.Option.{same_Some}
use Rattle.floyd_int.specs.declared.kinds.IntKind.{IntKind}
use Rattle.floyd_int.specs.declared.kinds.IntKind.TheVariants.{I8, U8, I16, U16, I32, U32, I64, U64}
use Rattle.floyd_ctypes.specs.declared.ctype.CType.{CType, more_of-CType, end_of-CType}
use Rattle.floyd_ctypes.specs.declared.ctype.CType as c
use Rattle.floyd_ctypes.specs.declared.field.Field.{Field}
use Rattle.floyd_ctypes.specs.declared.layout.Layout.{Layout}
use Rattle.floyd_ctypes.specs.Layout.{kind_size, laid_after, nothing_laid, offset_after, after, padded, round_up}
use Rattle.floyd_ctypes.specs.Structs.{Structs, completes}
use Rattle.floyd_tree_sorts.specs.declared.shape.Shape.{Shape, Void, Int, Pointer', Array', Struct as StructShape, Function', more_of-Shape, end_of-Shape}
use Rattle.floyd_assert_cells.specs.Scalars.{Scalar, Integer, Address, scalar_size}
use Rattle.floyd_assert_cells.specs.Types.{Sized}
use Rattle.floyd_assert_cells.specs.Forms.{Form, Single, Array, Struct, Fields, EndAt, FieldAt, end_of, form_layout, align_of, form_size, type_form, fields_form, shape_form, struct_form, form_of}
use Rattle.floyd_assert_cells.proofs.FormLaws.{mapped, chained, fields_agree, opened}

abbrev mutual
  -- the fields of each struct in it are in order, and its size is a multiple of its alignment
  pub IsForm : Form → Type 0
  IsForm (Single s) = Unit {0}
  IsForm (Array f n) = IsForm f
  IsForm (Struct fields) = IsFields 0 fields × (align_of fields ∣ end_of fields)

  -- they are behind what ends there, and stand at multiples of their alignments
  pub IsFields : ℕ → Fields → Type 0
  IsFields from (EndAt size) = from ≤ size
  IsFields from (FieldAt name at f rest) = (from ≤ at) × ((form_layout f).align ∣ at) × IsForm f × IsFields (at + form_size f) rest

-- ---- alignments are powers of two

abbrev pub IsPower : ℕ → Type 0
IsPower a = (k : ℕ) × (a ≡ 2 ^ k)

kind_power : (k : IntKind) → IsPower (kind_size k)
kind_power I8 = (0, refl)
kind_power U8 = (0, refl)
kind_power I16 = (1, refl)
kind_power U16 = (1, refl)
kind_power I32 = (2, refl)
kind_power U32 = (2, refl)
kind_power I64 = (3, refl)
kind_power U64 = (3, refl)

scalar_power : (s : Scalar) → IsPower (scalar_size s)
scalar_power (Integer k) = kind_power k
scalar_power Address = (3, refl)

-- the smaller of two powers divides the greater one
pub power_divides : (a b : ℕ) → IsPower a → IsPower b → a ≤ b → a ∣ b
power_divides a b p q le = ⊎_elim
    (λ (l : q.0 < p.0).
    let e : 2 ^ p.0 ≡ 2 ^ (p.0 - q.0) * 2 ^ q.0 = ap (λ n. 2 ^ n) (omega arith) ∙ pow-add 2 (p.0 - q.0) q.0 in
    let some : 1 ≤ 2 ^ (p.0 - q.0) = pow_pos (p.0 - q.0) in
    let same : a ≡ b = same_power a b (2 ^ (p.0 - q.0)) le (p.1 ∙ e ∙ ap (λ n. 2 ^ (p.0 - q.0) * n) (sym q.1)) some in
    subst (λ n. a ∣ n) same (dvd_refl a))
    (λ (l : p.0 ≤ q.0).
    let e : 2 ^ q.0 ≡ 2 ^ (q.0 - p.0) * 2 ^ p.0 = ap (λ n. 2 ^ n) (omega arith) ∙ pow-add 2 (q.0 - p.0) p.0 in
    subst (λ n. a ∣ n) (sym (q.1 ∙ e ∙ ap (λ n. 2 ^ (q.0 - p.0) * n) (sym p.1))) (dvd-mul_left a (2 ^ (q.0 - p.0))))
    (cases_lt q.0 p.0)
  where
    same_power : (a b r : ℕ) → a ≤ b → a ≡ r * b → 1 ≤ r → a ≡ b
    same_power a b zero le e some = absurd (omega arith)
    same_power a b (suc r) le e some = omega arith

pub max_power : (a b : ℕ) → IsPower a → IsPower b → IsPower (max a b)
max_power a b p q = ⊎_elim
    (λ (l : a < b). (q.0, (let e : max a b ≡ b = omega arith in e ∙ q.1)))
    (λ (l : b ≤ a). (p.0, (let e : max a b ≡ a = omega arith in e ∙ p.1)))
    (cases_lt a b)

mutual
  pub form_power : (f : Form) → IsPower (form_layout f).align
  form_power (Single s) = scalar_power s
  form_power (Array f n) = form_power f
  form_power (Struct fields) = fields_power fields

  pub fields_power : (fields : Fields) → IsPower (align_of fields)
  fields_power (EndAt size) = (0, refl)
  fields_power (FieldAt name at f rest) = max_power (form_layout f).align (align_of rest) (form_power f) (fields_power rest)

-- ---- sizes are multiples of alignments

pub size_divides : (f : Form) → IsForm f → (form_layout f).align ∣ form_size f
size_divides (Single s) w = dvd_refl (scalar_size s)
size_divides (Array f n) w = dvd-mul_right_of_dvd (form_layout f).align (size_divides f w) n
size_divides (Struct fields) w = w.1

-- a field's alignment divides that of the fields, and so does that of the fields behind it
pub first_divides : (name : List ℕ) (at : ℕ) (f : Form) (rest : Fields) → (form_layout f).align ∣ align_of (FieldAt name at f rest)
first_divides name at f rest =
    power_divides (form_layout f).align (align_of (FieldAt name at f rest)) (form_power f) (fields_power (FieldAt name at f rest)) (omega arith)

pub rest_divides : (name : List ℕ) (at : ℕ) (f : Form) (rest : Fields) → align_of rest ∣ align_of (FieldAt name at f rest)
rest_divides name at f rest =
    power_divides (align_of rest) (align_of (FieldAt name at f rest)) (fields_power rest) (fields_power (FieldAt name at f rest)) (omega arith)

-- ---- forms of types

rounded_up : (n a : ℕ) → 1 ≤ a → n ≤ round_up n a
rounded_up n a some =
    let e = div-add-mod' (n + (a - 1)) a in
    let l = mod_below (n + (a - 1)) a some in
    omega (arith, e, l)

some_align : (f : Form) → 1 ≤ (form_layout f).align
some_align f =
    let p = form_power f in
    let l : 1 ≤ 2 ^ p.0 = pow_pos p.0 in
    omega (arith, p.1, l)

ends_rounded : (of : List ℕ → Option Form) (laid : Layout) (fs : List Field) (g : Fields) → 1 ≤ laid.align → fields_form of laid fs ≡ Some g → max laid.align (align_of g) ∣ end_of g
ends_rounded of laid fs g some e =
    let L : CType → Option Layout = λ t. option_map form_layout (type_form of t) in
    let whole = mapped padded (laid_after L laid fs) (record { size = end_of g; align = max laid.align (align_of g) })
    (fields_agree L of (λ t. refl) laid fs some ∙ ap (option_map (λ g. record { size = end_of g; align = max laid.align (align_of g) })) e) in
    let size : round_up whole.0.size whole.0.align ≡ end_of g = ap (λ l. l.size) whole.2 in
    let align : whole.0.align ≡ max laid.align (align_of g) = ap (λ l. l.align) whole.2 in
    subst (λ n. n ∣ end_of g) align (subst (λ n. whole.0.align ∣ n) size (dvd-mul_left whole.0.align ((whole.0.size + (whole.0.align - 1)) / whole.0.align)))

abbrev pub AllForms : (List ℕ → Option Form) → Type 0
AllForms of = (tag : List ℕ) (f : Form) → of tag ≡ Some f → IsForm f

type_is_form : (of : List ℕ → Option Form) → AllForms of → (t : CType) (f : Form) → type_form of t ≡ Some f → IsForm f
type_is_form of all c.Void f e = cc
type_is_form of all (c.Int k) f e = subst IsForm (same_Some _ f e) tt
type_is_form of all (c.Pointer' p to) f e = subst IsForm (same_Some _ f e) tt
type_is_form of all (c.Array' p (more_of-CType t end_of-CType) n) f e =
    let g = mapped (λ g. Array g n) (type_form of t) f e in
    subst IsForm g.2 (type_is_form of all t g.0 g.1)
type_is_form of all (c.Struct tag) f e = all tag f e
type_is_form of all (c.Function' shape ps p r) f e = cc

fields_in_order : (of : List ℕ → Option Form) → AllForms of → (laid : Layout) (fs : List Field) (g : Fields) → 1 ≤ laid.align → fields_form of laid fs ≡ Some g → IsFields laid.size g
fields_in_order of all laid [] g some e = subst (IsFields laid.size) (same_Some _ g e) (rounded_up laid.size laid.align some)
fields_in_order of all laid (f ∷ fs) g some e =
    let first = chained (λ h. option_map (FieldAt f.name (offset_after laid (form_layout h)) h) (fields_form of (after laid (form_layout h)) fs)) (type_form of f.ty) g e in
    let h = first.0 in
    let more = mapped (FieldAt f.name (offset_after laid (form_layout h)) h) (fields_form of (after laid (form_layout h)) fs) g first.2 in
    subst (IsFields laid.size) more.2 (
      rounded_up laid.size (form_layout h).align (some_align h),
      dvd-mul_left (form_layout h).align ((laid.size + ((form_layout h).align - 1)) / (form_layout h).align),
      type_is_form of all f.ty h first.1,
      fields_in_order of all (after laid (form_layout h)) fs more.0 (omega arith) more.1,
    )

struct_is_form : (depth : ℕ) (structs : Structs) → AllForms (struct_form depth structs)
struct_is_form zero structs tag f e = cc
struct_is_form (suc depth) structs tag f e =
    let s = opened depth structs tag f e in
    let some : 1 ≤ align_of s.forms = some_align (Struct s.forms) in
    let align : max 1 (align_of s.forms) ≡ align_of s.forms = omega arith in
    subst IsForm s.same (
      fields_in_order (struct_form depth structs) (struct_is_form depth structs) nothing_laid s.fields s.forms (omega arith) s.laid,
      subst (λ n. n ∣ end_of s.forms) align (ends_rounded (struct_form depth structs) nothing_laid s.fields s.forms (omega arith) s.laid),
    )

shape_is_form : (of : List ℕ → Option Form) → AllForms of → (t : Shape) (sizes : List ℤ) (f : Form) → shape_form of t sizes ≡ Some f → IsForm f
shape_is_form of all Void sizes f e = cc
shape_is_form of all (Int k) sizes f e = subst IsForm (same_Some _ f e) tt
shape_is_form of all (Pointer' p to) sizes f e = subst IsForm (same_Some _ f e) tt
shape_is_form of all (Array' p (more_of-Shape t end_of-Shape)) [] f e = cc
shape_is_form of all (Array' p (more_of-Shape t end_of-Shape)) (pos n ∷ sizes) f e =
    let g = mapped (λ g. Array g n) (shape_form of t sizes) f e in
    subst IsForm g.2 (shape_is_form of all t sizes g.0 g.1)
shape_is_form of all (Array' p (more_of-Shape t end_of-Shape)) (negsuc n ∷ sizes) f e = cc
shape_is_form of all (StructShape tag) sizes f e = all tag f e
shape_is_form of all (Function' shape ps p r) sizes f e = cc

-- the form of a type is in order
pub is_form : (structs : Structs) (t : Sized) (f : Form) → form_of structs t ≡ Some f → IsForm f
is_form structs t f e = shape_is_form (struct_form (completes structs) structs) (struct_is_form (completes structs) structs) t.shape t.sizes f e
