-- Memory and formulas agree on where an object of a type may stand.
use Rattle.std.proofs.Common.{◌≡◌, ℕ, ◌+◌, ◌%◌, ◌^◌, ◌==◌, ◌&&◌, Bool, true, false, ℤ, pos, List, [], ◌∷◌, length, Option, Some, None, refl, sym, ap, subst, ◌∙◌, eq-eqb, arith, eqb-true, lt-ltb, ltb-true}
use Rattle.std.specs.Prelude.{int_lt, option_and_then, ◌+ℤ◌}
use Rattle.std.specs.Option.{option_map_or}
use Rattle.std.proofs.lemmas.Option.{same_Some}
use Rattle.floyd_int.specs.declared.kinds.Value.TheVariants.{Vptr}
use Rattle.floyd_ctypes.specs.declared.ctype.CType.{CType}
use Rattle.floyd_ctypes.specs.declared.layout.Layout.{Layout}
use Rattle.floyd_ctypes.specs.Layout.{layout}
use Rattle.floyd_ctypes.specs.Path as paths
use Rattle.floyd_ctypes.specs.Path.{Step}
use Rattle.floyd_ctypes.specs.Structs.{Structs}
use Rattle.floyd_truth.specs.Compatible.{FitsType}
use Rattle.floyd_truth.specs.Types.{ReadType, read_type, wholly}
use Rattle.floyd_assert_cells.specs.Types.{Sized, align, compatible, has_room, is_aligned_for, is_legal, none_negative, size, sized}
use Rattle.floyd_assert_cells.proofs.FormLaws.{chained}
use Rattle.floyd_assert_cells.proofs.NoNegatives.{c_sizes}
use Rattle.floyd_assert_cells.proofs.ObjectLaws.{four_parts, layouts_agree, tested}
use Rattle.floyd_compatible_laws.specs.Laws.{CompatibleObjectsAgree, CompatiblePlacesAgree}
use Rattle.floyd_compatible_laws.proofs.Reading.{alignment_of, alignment_read, legal_agrees, legal_read, none_read, read_some, size_of, size_read}

laid : (o : Option Layout) (a : ℕ) → alignment_of o ≡ Some a → (l : Layout) × (o ≡ Some l) × (l.align ≡ a)
laid None a e = absurd cc
laid (Some l) a e = (l, refl, same_Some l.align a e)

pub all_four : (p q r s : Bool) → p ≡ true → q ≡ true → r ≡ true → s ≡ true → (p && q && r && s) ≡ true
all_four true true true true e f g h = refl
all_four false q r s e f g h = e
all_four true false r s e f g h = f
all_four true true false s e f g h = g
all_four true true true false e f g h = h

-- a type with sizes and a type of C of the same layout and with the same legal paths
record Alike (structs : Structs) (T : Sized) (t : CType) (path : List Step) : Type 0 where
  pub sizes : size structs T ≡ size_of (layout structs t)
  pub alignments : align structs T ≡ alignment_of (layout structs t)
  pub legal : is_legal structs T path ≡ paths.is_legal structs t path

module _ (structs : Structs) (T : Sized) (t : CType) (path : List Step) (block offset : ℕ) (alike : Alike structs T t path) where
  forth : compatible structs T path (Vptr block offset) ≡ true → FitsType structs t path offset
  forth e =
      let parts = four_parts (is_aligned_for structs T offset) (has_room structs T offset) (none_negative T.sizes) (is_legal structs T path) e in
      let a = tested (align structs T) (λ n. offset % n == 0) parts.0 in
      let l = laid (layout structs t) a.0 (sym alike.alignments ∙ a.1) in
      let is_size : size structs T ≡ Some (pos l.0.size) = alike.sizes ∙ ap size_of l.1 in
      record {
        laid = l.0;
        sized = l.1;
        aligned = ap (λ n. offset % n) l.2 ∙ eqb-true (offset % a.0) 0 a.2;
        within = ltb-true (offset + l.0.size) (2 ^ 64) (sym (ap (λ o. option_map_or (λ n. int_lt (pos offset +ℤ n) (pos (2 ^ 64))) o false) is_size) ∙ parts.1);
        legal = sym alike.legal ∙ parts.3;
      }

  back : none_negative T.sizes ≡ true → FitsType structs t path offset → compatible structs T path (Vptr block offset) ≡ true
  back none f =
      let is_size : size structs T ≡ Some (pos f.laid.size) = alike.sizes ∙ ap size_of f.sized in
      let is_align : align structs T ≡ Some f.laid.align = alike.alignments ∙ ap alignment_of f.sized in
      all_four (is_aligned_for structs T offset) (has_room structs T offset) (none_negative T.sizes) (is_legal structs T path)
      (ap (λ o. option_map_or (λ n. offset % n == 0) o false) is_align ∙ eq-eqb (offset % f.laid.align) 0 f.aligned)
      (ap (λ o. option_map_or (λ n. int_lt (pos offset +ℤ n) (pos (2 ^ 64))) o false) is_size ∙ lt-ltb (offset + f.laid.size) (2 ^ 64) f.within)
      none
      (alike.legal ∙ f.legal)

-- ---- types of C

c_alike : (structs : Structs) (t : CType) (path : List Step) → Alike structs (sized t) t path
c_alike structs t path = record { sizes = (layouts_agree structs t).0; alignments = (layouts_agree structs t).1; legal = legal_agrees structs t path }

pub places_agree : CompatiblePlacesAgree
places_agree structs t path block offset = (
  forth structs (sized t) t path block offset (c_alike structs t path),
  back structs (sized t) t path block offset (c_alike structs t path) (c_sizes t),
)

-- ---- types with sizes

read_alike : (structs : Structs) (T : Sized) (r : ReadType) (path : List Step) → read_type T.shape T.sizes ≡ Some r → Alike structs T r.0 path
read_alike structs T r path e = record { sizes = size_read structs T.shape T.sizes r e; alignments = alignment_read structs T.shape T.sizes r e; legal = legal_read structs path T.shape T.sizes r e }

none_left : (ns : List ℤ) → length ns ≡ 0 → ns ≡ []
none_left [] e = refl
none_left (n ∷ ns) e = absurd (omega (arith, e))

-- what is read wholly leaves no sizes
whole : (r : ReadType) (t : CType) → wholly r ≡ Some t → r ≡ (t, [])
whole (u, []) t e = ap (λ x. (x, [])) (same_Some u t e)
whole (u, n ∷ ns) t e = absurd cc

pub objects_agree : CompatibleObjectsAgree
objects_agree structs T steps subscripts path block offset count of_steps = (
  λ e.
      let parts = four_parts (is_aligned_for structs T offset) (has_room structs T offset) (none_negative T.sizes) (is_legal structs T path) e in
      let r = read_some T.shape T.sizes parts.2 (omega (arith, count)) in
      let left : r.0.1 ≡ [] = none_left r.0.1 (omega (arith, count, r.3)) in
      record {
        whole = r.0.0;
        path = path;
        of_shape = ap (option_and_then wholly) r.1 ∙ ap (λ ns. wholly (r.0.0, ns)) left;
        of_steps = of_steps;
        fits = forth structs T r.0.0 path block offset (read_alike structs T r.0 path r.1) e;
      },
  λ i.
      let q = chained wholly (read_type T.shape T.sizes) i.whole i.of_shape in
      let r = whole q.0 i.whole q.2 in
      let is : read_type T.shape T.sizes ≡ Some (i.whole, []) = q.1 ∙ ap Some r in
      let same : i.path ≡ path = same_Some i.path path (sym i.of_steps ∙ of_steps) in
      back structs T i.whole path block offset (read_alike structs T (i.whole, []) path is)
      (none_read T.shape T.sizes (i.whole, []) is refl) (subst (λ p. FitsType structs i.whole p offset) same i.fits),
)
