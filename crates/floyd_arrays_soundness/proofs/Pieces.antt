-- Where pieces of arrays may stand.
use Rattle.std.proofs.Common.{◌≡◌, ℕ, ◌+◌, ◌*◌, ◌%◌, ◌<◌, ◌^◌, ◌==◌, true, false, ℤ, pos, [], Option, Some, sym, ap, subst, ◌∙◌, arith, eq-eqb, eqb-true, lt-ltb, ltb-true}
use Rattle.std.specs.Prelude.{int_lt, is_some, option_map, ◌+ℤ◌, ◌*ℤ◌}
use Rattle.std.specs.Int.{◌∣◌}
use Rattle.std.specs.Option.{option_map_or}
use Rattle.std.proofs.Math.Nat.{dvd-add, dvd-mul_right_of_dvd}
use Rattle.std.proofs.lemmas.Nat.Gcd.{dvd_of_mod-eq-zero, mod-eq-zero_of_dvd}
use Rattle.floyd_ctypes.specs.Structs.{Structs}
use Rattle.floyd_assert_cells.specs.Forms.{form_layout, form_size}
use Rattle.floyd_assert_cells.specs.Laws.{array_of}
use Rattle.floyd_assert_cells.specs.Types.{Sized, align_by, has_room, is_aligned_for, is_legal, none_negative, size}
use Rattle.floyd_assert_cells.proofs.FormLaws.{align_is, has_form, size_is}
use Rattle.floyd_assert_cells.proofs.FormOrders.{is_form, size_divides}
use Rattle.floyd_assert_cells.proofs.ObjectLaws.{four_parts}
use Rattle.floyd_compatible_laws.proofs.Agreeing.{all_four}
use Rattle.floyd_arrays_soundness.specs.Pieces.{ArrayFits, PiecesMayStand, WholesMayStand}

same_count : (m n : ℕ) → ◌≡◌ {A = Option ℤ} (Some (pos m)) (Some (pos n)) → m ≡ n
same_count m n e = cc

-- what it takes that an array may stand
pub record Stands (structs : Structs) (t : Sized) (bytes n offset : ℕ) : Type 0 where
  pub none : none_negative t.sizes ≡ true
  pub unit : ℕ
  pub unit_is : align_by structs t.shape ≡ Some unit
  pub unit_divides : unit ∣ bytes
  pub divides : unit ∣ offset
  pub room : offset + bytes * n < 2 ^ 64

module _ (structs : Structs) (t : Sized) (bytes : ℕ) (sized : size structs t ≡ Some (pos bytes)) where
  array_size : (n : ℕ) → size structs (array_of (pos n) t) ≡ Some (pos (bytes * n))
  array_size n = ap (option_map (λ b. b *ℤ pos n)) sized

  pub stands : (n block offset : ℕ) → ArrayFits structs t n block offset → Stands structs t bytes n offset
  stands n block offset ok =
      let whole = array_of (pos n) t in
      let parts = four_parts (is_aligned_for structs whole offset) (has_room structs whole offset) (none_negative whole.sizes) (is_legal structs whole []) ok in
      let f = has_form structs t.shape t.sizes (pos bytes) sized parts.2 in
      let same : bytes ≡ form_size f.0 = same_count bytes (form_size f.0) (sym sized ∙ size_is structs t.shape t.sizes f.0 f.1) in
      let a = (form_layout f.0).align in
      let unit : align_by structs t.shape ≡ Some a = align_is structs t.shape t.sizes f.0 f.1 in
      let aligned : (offset % a == 0) ≡ true = sym (ap (λ o. option_map_or (λ n. offset % n == 0) o false) unit) ∙ parts.0 in
      record {
        none = parts.2;
        unit = a;
        unit_is = unit;
        unit_divides = subst (λ n. a ∣ n) (sym same) (size_divides f.0 (is_form structs t f.0 f.1));
        divides = dvd_of_mod-eq-zero a (eqb-true (offset % a) 0 aligned);
        room = ltb-true (offset + bytes * n) (2 ^ 64) (sym (ap (λ o. option_map_or (λ z. int_lt (pos offset +ℤ z) (pos (2 ^ 64))) o false) (array_size n)) ∙ parts.1);
      }

  pub may_stand : (n block offset : ℕ) → Stands structs t bytes n offset → ArrayFits structs t n block offset
  may_stand n block offset s =
      let whole = array_of (pos n) t in
      all_four (is_aligned_for structs whole offset) (has_room structs whole offset) (none_negative whole.sizes) (is_legal structs whole [])
      (ap (λ o. option_map_or (λ a. offset % a == 0) o false) s.unit_is ∙ eq-eqb (offset % s.unit) 0 (mod-eq-zero_of_dvd s.unit s.divides))
      (ap (λ o. option_map_or (λ z. int_lt (pos offset +ℤ z) (pos (2 ^ 64))) o false) (array_size n) ∙ lt-ltb (offset + bytes * n) (2 ^ 64) s.room)
      s.none
      (ap is_some (array_size n))

front_room : (o bytes m n : ℕ) → o + bytes * (m + n) < 2 ^ 64 → o + bytes * m < 2 ^ 64
front_room o bytes m n h =
    let e : bytes * (m + n) ≡ bytes * m + bytes * n = omega arith in
    omega (arith, h, e)

back_room : (o bytes m n : ℕ) → o + bytes * (m + n) < 2 ^ 64 → o + bytes * m + bytes * n < 2 ^ 64
back_room o bytes m n h =
    let e : bytes * (m + n) ≡ bytes * m + bytes * n = omega arith in
    omega (arith, h, e)

whole_room : (o bytes m n : ℕ) → o + bytes * m + bytes * n < 2 ^ 64 → o + bytes * (m + n) < 2 ^ 64
whole_room o bytes m n h =
    let e : bytes * (m + n) ≡ bytes * m + bytes * n = omega arith in
    omega (arith, h, e)

pub pieces_stand : PiecesMayStand
pieces_stand structs t m n bytes b o sized ok =
    let s = stands structs t bytes sized (m + n) b o ok in (
      may_stand structs t bytes sized m b o (record { none = s.none; unit = s.unit; unit_is = s.unit_is; unit_divides = s.unit_divides; divides = s.divides; room = front_room o bytes m n s.room }),
      may_stand structs t bytes sized n b (o + bytes * m)
          (record { none = s.none; unit = s.unit; unit_is = s.unit_is; unit_divides = s.unit_divides; divides = dvd-add s.unit s.divides (dvd-mul_right_of_dvd s.unit s.unit_divides m); room = back_room o bytes m n s.room }),
    )

pub wholes_stand : WholesMayStand
wholes_stand structs t m n bytes b o sized first second =
    let s = stands structs t bytes sized m b o first in
    let r = stands structs t bytes sized n b (o + bytes * m) second in
    may_stand structs t bytes sized (m + n) b o (record { none = s.none; unit = s.unit; unit_is = s.unit_is; unit_divides = s.unit_divides; divides = s.divides; room = whole_room o bytes m n r.room })
