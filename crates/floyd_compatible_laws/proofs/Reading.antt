-- A type whose arrays have sizes, read as a type of C: it can be read, and has the same layout and the same legal paths.
use Rattle.std.proofs.Common.{◌≡◌, ℕ, ◌+◌, ◌≤◌, ◌&&◌, Bool, true, false, ℤ, pos, negsuc, ◌*ℤ◌, List, [], ◌∷◌, length, Option, Some, None, refl, sym, ap, subst, ◌∙◌, arith, le-leb}
use Rattle.std.specs.Prelude.{int_le, is_some, nat_lt, option_and_then, option_map}
use Rattle.std.specs.Option.{option_map_or}
use Rattle.std.proofs.lemmas.Option.{same_Some}
use Rattle.floyd_ctypes.specs.declared.ctype.CType.{CType, more_of-CType, end_of-CType}
use Rattle.floyd_ctypes.specs.declared.ctype.CType as c
use Rattle.floyd_ctypes.specs.declared.field.Field.{Field}
use Rattle.floyd_ctypes.specs.declared.layout.Layout.{Layout}
use Rattle.floyd_ctypes.specs.Layout.{layout, repeated}
use Rattle.floyd_ctypes.specs.Path as paths
use Rattle.floyd_ctypes.specs.Path.{Step, Dot, At}
use Rattle.floyd_ctypes.specs.Structs.{Structs, field_of}
use Rattle.floyd_tree_sorts.specs.declared.shape.Shape.{Shape, Void, Int, Pointer', Array', Struct, Function', Row_of-Shape, more_of-Shape, end_of-Shape}
use Rattle.floyd_tree_sorts.specs.Table.{arrays, arrays_in}
use Rattle.floyd_truth.specs.Types.{ReadType, ReadTypes, array_of, function_of, pointer_to, read_type, read_types}
use Rattle.floyd_assert_cells.specs.Types.{align_by, is_below, is_legal, none_negative, size_by, sized}
use Rattle.floyd_assert_cells.proofs.FormLaws.{chained, mapped}
use Rattle.floyd_assert_cells.proofs.ObjectLaws.{layouts_agree}

-- ---- it can be read

mutual
  pub read_some : (shape : Shape) (ns : List ℤ) → none_negative ns ≡ true → arrays shape ≤ length ns → (r : ReadType) × (read_type shape ns ≡ Some r) × (none_negative r.1 ≡ true) × (length ns ≡ arrays shape + length r.1)
  read_some Void ns k l = ((c.Void, ns), refl, k, omega arith)
  read_some (Int kind) ns k l = ((c.Int kind, ns), refl, k, omega arith)
  read_some (Pointer' p (more_of-Shape target end_of-Shape)) ns k l =
      let a = read_some target ns k l in
      (pointer_to a.0, ap (option_map pointer_to) a.1, a.2, a.3)
  read_some (Array' p (more_of-Shape item end_of-Shape)) [] k l = absurd (omega (arith, l))
  read_some (Array' p (more_of-Shape item end_of-Shape)) (negsuc n ∷ ns) k l = absurd cc
  read_some (Array' p (more_of-Shape item end_of-Shape)) (pos n ∷ ns) k l =
      let a = read_some item ns k (omega (arith, l)) in
      ((c.Array' tt (more_of-CType a.0.0 end_of-CType) n, a.0.1), ap (option_and_then (array_of (pos n))) a.1, a.2, omega (arith, a.3))
  read_some (Struct tag) ns k l = ((c.Struct tag, ns), refl, k, omega arith)
  read_some (Function' p parameters q (more_of-Shape result end_of-Shape)) ns k l =
      let a = read_all parameters ns k (omega (arith, l)) in
      let b = read_some result a.0.1 a.2 (omega (arith, l, a.3)) in (
        function_of a.0.0 b.0,
        ap (option_and_then (λ r. option_map (function_of r.0) (read_type result r.1))) a.1 ∙ ap (option_map (function_of a.0.0)) b.1,
        b.2,
        omega (arith, a.3, b.3),
      )

  read_all : {m : _} (shapes : Row_of-Shape m) (ns : List ℤ) → none_negative ns ≡ true → arrays_in shapes ≤ length ns → (r : ReadTypes) × (read_types shapes ns ≡ Some r) × (none_negative r.1 ≡ true) × (length ns ≡ arrays_in shapes + length r.1)
  read_all end_of-Shape ns k l = (([], ns), refl, k, omega arith)
  read_all (more_of-Shape shape rest) ns k l =
      let a = read_some shape ns k (omega (arith, l)) in
      let b = read_all rest a.0.1 a.2 (omega (arith, l, a.3)) in (
        (a.0.0 ∷ b.0.0, b.0.1),
        ap (option_and_then (λ (r : ReadType). option_map (λ (more : ReadTypes). (r.0 ∷ more.0, more.1)) (read_types rest r.1))) a.1 ∙ ap (option_map (λ (more : ReadTypes). (a.0.0 ∷ more.0, more.1))) b.1,
        b.2,
        omega (arith, a.3, b.3),
      )

-- ---- no size of what was read is negative

left_over : (t : CType) (ns : List ℤ) (r : ReadType) → Some (t, ns) ≡ Some r → none_negative r.1 ≡ true → none_negative ns ≡ true
left_over t ns r e k = subst (λ (x : ReadType). none_negative x.1 ≡ true) (sym (same_Some {A = ReadType} (t, ns) r e)) k

mutual
  pub none_read : (shape : Shape) (ns : List ℤ) (r : ReadType) → read_type shape ns ≡ Some r → none_negative r.1 ≡ true → none_negative ns ≡ true
  none_read Void ns r e k = left_over c.Void ns r e k
  none_read (Int kind) ns r e k = left_over (c.Int kind) ns r e k
  none_read (Pointer' p (more_of-Shape target end_of-Shape)) ns r e k =
      let a = mapped pointer_to (read_type target ns) r e in
      none_read target ns a.0 a.1 (subst (λ (x : ReadType). none_negative x.1 ≡ true) (sym a.2) k)
  none_read (Array' p (more_of-Shape item end_of-Shape)) [] r e k = absurd cc
  none_read (Array' p (more_of-Shape item end_of-Shape)) (negsuc n ∷ ns) r e k =
      let a = chained (array_of (negsuc n)) (read_type item ns) r e in
      let wrong = a.2 in
      absurd cc
  none_read (Array' p (more_of-Shape item end_of-Shape)) (pos n ∷ ns) r e k =
      let a = chained (array_of (pos n)) (read_type item ns) r e in
      none_read item ns a.0 a.1 (left_over (c.Array' tt (more_of-CType a.0.0 end_of-CType) n) a.0.1 r a.2 k)
  none_read (Struct tag) ns r e k = left_over (c.Struct tag) ns r e k
  none_read (Function' p parameters q (more_of-Shape result end_of-Shape)) ns r e k =
      let a = chained (λ (x : ReadTypes). option_map (function_of x.0) (read_type result x.1)) (read_types parameters ns) r e in
      let b = mapped (function_of a.0.0) (read_type result a.0.1) r a.2 in
      none_all parameters ns a.0 a.1 (none_read result a.0.1 b.0 b.1 (subst (λ (x : ReadType). none_negative x.1 ≡ true) (sym b.2) k))

  none_all : {m : _} (shapes : Row_of-Shape m) (ns : List ℤ) (r : ReadTypes) → read_types shapes ns ≡ Some r → none_negative r.1 ≡ true → none_negative ns ≡ true
  none_all end_of-Shape ns r e k = subst (λ (x : ReadTypes). none_negative x.1 ≡ true) (sym (same_Some {A = ReadTypes} ([], ns) r e)) k
  none_all (more_of-Shape shape rest) ns r e k =
      let a = chained (λ (x : ReadType). option_map (λ (more : ReadTypes). (x.0 ∷ more.0, more.1)) (read_types rest x.1)) (read_type shape ns) r e in
      let b = mapped (λ (more : ReadTypes). (a.0.0 ∷ more.0, more.1)) (read_types rest a.0.1) r a.2 in
      none_read shape ns a.0 a.1 (none_all rest a.0.1 b.0 b.1 (subst (λ (x : ReadTypes). none_negative x.1 ≡ true) (sym b.2) k))

-- ---- layout

abbrev pub size_of : Option Layout → Option ℤ
size_of o = option_map pos (option_map (λ (l : Layout). l.size) o)

abbrev pub alignment_of : Option Layout → Option ℕ
alignment_of o = option_map (λ (l : Layout). l.align) o

repeated_size : (o : Option Layout) (n : ℕ) → option_map (λ bytes. bytes *ℤ pos n) (size_of o) ≡ size_of (option_map (repeated n) o)
repeated_size None n = refl
repeated_size (Some l) n = refl

repeated_alignment : (o : Option Layout) (n : ℕ) → alignment_of o ≡ alignment_of (option_map (repeated n) o)
repeated_alignment None n = refl
repeated_alignment (Some l) n = refl

some_size : (o : Option Layout) → is_some (size_of o) ≡ is_some o
some_size None = refl
some_size (Some l) = refl

module _ (structs : Structs) where
  moved_size : (t : CType) (ns : List ℤ) (r : ReadType) → Some (t, ns) ≡ Some r → size_of (layout structs t) ≡ size_of (layout structs r.0)
  moved_size t ns r e = ap (λ (x : ReadType). size_of (layout structs x.0)) (same_Some {A = ReadType} (t, ns) r e)

  moved_alignment : (t : CType) (ns : List ℤ) (r : ReadType) → Some (t, ns) ≡ Some r → alignment_of (layout structs t) ≡ alignment_of (layout structs r.0)
  moved_alignment t ns r e = ap (λ (x : ReadType). alignment_of (layout structs x.0)) (same_Some {A = ReadType} (t, ns) r e)

  pub size_read : (shape : Shape) (ns : List ℤ) (r : ReadType) → read_type shape ns ≡ Some r → size_by structs shape ns ≡ size_of (layout structs r.0)
  size_read Void ns r e = moved_size c.Void ns r e
  size_read (Int kind) ns r e = moved_size (c.Int kind) ns r e
  size_read (Pointer' p (more_of-Shape target end_of-Shape)) ns r e =
      let a = mapped pointer_to (read_type target ns) r e in
      ap (λ (x : ReadType). size_of (layout structs x.0)) a.2
  size_read (Array' p (more_of-Shape item end_of-Shape)) [] r e = absurd cc
  size_read (Array' p (more_of-Shape item end_of-Shape)) (negsuc n ∷ ns) r e =
      let a = chained (array_of (negsuc n)) (read_type item ns) r e in
      let wrong = a.2 in
      absurd cc
  size_read (Array' p (more_of-Shape item end_of-Shape)) (pos n ∷ ns) r e =
      let a = chained (array_of (pos n)) (read_type item ns) r e in
      ap (option_map (λ bytes. bytes *ℤ pos n)) (size_read item ns a.0 a.1) ∙ repeated_size (layout structs a.0.0) n
      ∙ moved_size (c.Array' tt (more_of-CType a.0.0 end_of-CType) n) a.0.1 r a.2
  size_read (Struct tag) ns r e = (layouts_agree structs (c.Struct tag)).0 ∙ moved_size (c.Struct tag) ns r e
  size_read (Function' p parameters q (more_of-Shape result end_of-Shape)) ns r e =
      let a = chained (λ (x : ReadTypes). option_map (function_of x.0) (read_type result x.1)) (read_types parameters ns) r e in
      let b = mapped (function_of a.0.0) (read_type result a.0.1) r a.2 in
      ap (λ (x : ReadType). size_of (layout structs x.0)) b.2

  pub alignment_read : (shape : Shape) (ns : List ℤ) (r : ReadType) → read_type shape ns ≡ Some r → align_by structs shape ≡ alignment_of (layout structs r.0)
  alignment_read Void ns r e = moved_alignment c.Void ns r e
  alignment_read (Int kind) ns r e = moved_alignment (c.Int kind) ns r e
  alignment_read (Pointer' p (more_of-Shape target end_of-Shape)) ns r e =
      let a = mapped pointer_to (read_type target ns) r e in
      ap (λ (x : ReadType). alignment_of (layout structs x.0)) a.2
  alignment_read (Array' p (more_of-Shape item end_of-Shape)) [] r e = absurd cc
  alignment_read (Array' p (more_of-Shape item end_of-Shape)) (negsuc n ∷ ns) r e =
      let a = chained (array_of (negsuc n)) (read_type item ns) r e in
      let wrong = a.2 in
      absurd cc
  alignment_read (Array' p (more_of-Shape item end_of-Shape)) (pos n ∷ ns) r e =
      let a = chained (array_of (pos n)) (read_type item ns) r e in
      alignment_read item ns a.0 a.1 ∙ repeated_alignment (layout structs a.0.0) n
      ∙ moved_alignment (c.Array' tt (more_of-CType a.0.0 end_of-CType) n) a.0.1 r a.2
  alignment_read (Struct tag) ns r e = (layouts_agree structs (c.Struct tag)).1 ∙ moved_alignment (c.Struct tag) ns r e
  alignment_read (Function' p parameters q (more_of-Shape result end_of-Shape)) ns r e =
      let a = chained (λ (x : ReadTypes). option_map (function_of x.0) (read_type result x.1)) (read_types parameters ns) r e in
      let b = mapped (function_of a.0.0) (read_type result a.0.1) r a.2 in
      ap (λ (x : ReadType). alignment_of (layout structs x.0)) b.2

-- ---- paths

mapped_or : {A B : Type 0} (h : A → B) (g : B → Bool) (o : Option A) → option_map_or g (option_map h o) false ≡ option_map_or (λ a. g (h a)) o false
mapped_or h g None = refl
mapped_or h g (Some a) = refl

each_or : {A : Type 0} (f g : A → Bool) (o : Option A) → ((a : A) → f a ≡ g a) → option_map_or f o false ≡ option_map_or g o false
each_or f g None k = refl
each_or f g (Some a) k = k a

and_never : (b : Bool) → (b && false) ≡ false
and_never true = refl
and_never false = refl

zero_least : (i : ℕ) → int_le (pos 0) (pos i) ≡ true
zero_least i = le-leb 0 i (omega arith)

-- of a type of C
pub legal_agrees : (structs : Structs) (t : CType) (path : List Step) → is_legal structs (sized t) path ≡ paths.is_legal structs t path
legal_agrees structs t [] = ap is_some (layouts_agree structs t).0 ∙ some_size (layout structs t)
legal_agrees structs c.Void (Dot name ∷ path) = refl
legal_agrees structs c.Void (At (pos i) ∷ path) = refl
legal_agrees structs c.Void (At (negsuc i) ∷ path) = refl
legal_agrees structs (c.Int kind) (Dot name ∷ path) = refl
legal_agrees structs (c.Int kind) (At (pos i) ∷ path) = refl
legal_agrees structs (c.Int kind) (At (negsuc i) ∷ path) = refl
legal_agrees structs (c.Pointer' p (more_of-CType t end_of-CType)) (Dot name ∷ path) = refl
legal_agrees structs (c.Pointer' p (more_of-CType t end_of-CType)) (At (pos i) ∷ path) = and_never _
legal_agrees structs (c.Pointer' p (more_of-CType t end_of-CType)) (At (negsuc i) ∷ path) = and_never _
legal_agrees structs (c.Array' p (more_of-CType t end_of-CType) n) (Dot name ∷ path) = refl
legal_agrees structs (c.Array' p (more_of-CType t end_of-CType) n) (At (pos i) ∷ path) =
    ap (λ b. (b && nat_lt i n) && is_legal structs (sized t) path) (zero_least i) ∙ ap (λ b. nat_lt i n && b) (legal_agrees structs t path)
legal_agrees structs (c.Array' p (more_of-CType t end_of-CType) n) (At (negsuc i) ∷ path) = refl
legal_agrees structs (c.Struct tag) (Dot name ∷ path) =
    mapped_or (λ (f : Field). sized f.ty) (λ u. is_legal structs u path) (field_of structs tag name)
    ∙ each_or (λ (f : Field). is_legal structs (sized f.ty) path) (λ (f : Field). paths.is_legal structs f.ty path) (field_of structs tag name) (λ f. legal_agrees structs f.ty path)
legal_agrees structs (c.Struct tag) (At (pos i) ∷ path) = refl
legal_agrees structs (c.Struct tag) (At (negsuc i) ∷ path) = refl
legal_agrees structs (c.Function' shape ps p (more_of-CType r end_of-CType)) (Dot name ∷ path) = refl
legal_agrees structs (c.Function' shape ps p (more_of-CType r end_of-CType)) (At (pos i) ∷ path) = and_never _
legal_agrees structs (c.Function' shape ps p (more_of-CType r end_of-CType)) (At (negsuc i) ∷ path) = and_never _

module _ (structs : Structs) where
  -- where the type of C has no such step, there is none
  moved_path : (t : CType) (ns : List ℤ) (r : ReadType) (path : List Step) → Some (t, ns) ≡ Some r → paths.is_legal structs t path ≡ paths.is_legal structs r.0 path
  moved_path t ns r path e = ap (λ (x : ReadType). paths.is_legal structs x.0 path) (same_Some {A = ReadType} (t, ns) r e)

  pub legal_read : (path : List Step) (shape : Shape) (ns : List ℤ) (r : ReadType) → read_type shape ns ≡ Some r → is_legal structs (record { shape = shape; sizes = ns }) path ≡ paths.is_legal structs r.0 path
  legal_read [] shape ns r e = ap is_some (size_read structs shape ns r e) ∙ some_size (layout structs r.0)
  legal_read (Dot name ∷ path) Void ns r e = moved_path c.Void ns r (Dot name ∷ path) e
  legal_read (Dot name ∷ path) (Int kind) ns r e = moved_path (c.Int kind) ns r (Dot name ∷ path) e
  legal_read (Dot name ∷ path) (Pointer' p (more_of-Shape target end_of-Shape)) ns r e =
      let a = mapped pointer_to (read_type target ns) r e in
      ap (λ (x : ReadType). paths.is_legal structs x.0 (Dot name ∷ path)) a.2
  legal_read (Dot name ∷ path) (Array' p (more_of-Shape item end_of-Shape)) [] r e = absurd cc
  legal_read (Dot name ∷ path) (Array' p (more_of-Shape item end_of-Shape)) (negsuc n ∷ ns) r e =
      let a = chained (array_of (negsuc n)) (read_type item ns) r e in
      let wrong = a.2 in
      absurd cc
  legal_read (Dot name ∷ path) (Array' p (more_of-Shape item end_of-Shape)) (pos n ∷ ns) r e =
      let a = chained (array_of (pos n)) (read_type item ns) r e in
      moved_path (c.Array' tt (more_of-CType a.0.0 end_of-CType) n) a.0.1 r (Dot name ∷ path) a.2
  legal_read (Dot name ∷ path) (Struct tag) ns r e = legal_agrees structs (c.Struct tag) (Dot name ∷ path) ∙ moved_path (c.Struct tag) ns r (Dot name ∷ path) e
  legal_read (Dot name ∷ path) (Function' p parameters q (more_of-Shape result end_of-Shape)) ns r e =
      let a = chained (λ (x : ReadTypes). option_map (function_of x.0) (read_type result x.1)) (read_types parameters ns) r e in
      let b = mapped (function_of a.0.0) (read_type result a.0.1) r a.2 in
      ap (λ (x : ReadType). paths.is_legal structs x.0 (Dot name ∷ path)) b.2
  legal_read (At (pos i) ∷ path) Void ns r e = and_never (is_below ns (pos i)) ∙ moved_path c.Void ns r (At (pos i) ∷ path) e
  legal_read (At (pos i) ∷ path) (Int kind) ns r e = and_never (is_below ns (pos i)) ∙ moved_path (c.Int kind) ns r (At (pos i) ∷ path) e
  legal_read (At (pos i) ∷ path) (Pointer' p (more_of-Shape target end_of-Shape)) ns r e =
      let a = mapped pointer_to (read_type target ns) r e in
      and_never (is_below ns (pos i)) ∙ ap (λ (x : ReadType). paths.is_legal structs x.0 (At (pos i) ∷ path)) a.2
  legal_read (At (pos i) ∷ path) (Array' p (more_of-Shape item end_of-Shape)) [] r e = absurd cc
  legal_read (At (pos i) ∷ path) (Array' p (more_of-Shape item end_of-Shape)) (negsuc n ∷ ns) r e =
      let a = chained (array_of (negsuc n)) (read_type item ns) r e in
      let wrong = a.2 in
      absurd cc
  legal_read (At (pos i) ∷ path) (Array' p (more_of-Shape item end_of-Shape)) (pos n ∷ ns) r e =
      let a = chained (array_of (pos n)) (read_type item ns) r e in
      ap (λ b. (b && nat_lt i n) && is_legal structs (record { shape = item; sizes = ns }) path) (zero_least i) ∙ ap (λ b. nat_lt i n && b) (legal_read path item ns a.0 a.1)
      ∙ moved_path (c.Array' tt (more_of-CType a.0.0 end_of-CType) n) a.0.1 r (At (pos i) ∷ path) a.2
  legal_read (At (pos i) ∷ path) (Struct tag) ns r e = and_never (is_below ns (pos i)) ∙ moved_path (c.Struct tag) ns r (At (pos i) ∷ path) e
  legal_read (At (pos i) ∷ path) (Function' p parameters q (more_of-Shape result end_of-Shape)) ns r e =
      let a = chained (λ (x : ReadTypes). option_map (function_of x.0) (read_type result x.1)) (read_types parameters ns) r e in
      let b = mapped (function_of a.0.0) (read_type result a.0.1) r a.2 in
      and_never (is_below ns (pos i)) ∙ ap (λ (x : ReadType). paths.is_legal structs x.0 (At (pos i) ∷ path)) b.2
  legal_read (At (negsuc i) ∷ path) Void ns r e = and_never (is_below ns (negsuc i)) ∙ moved_path c.Void ns r (At (negsuc i) ∷ path) e
  legal_read (At (negsuc i) ∷ path) (Int kind) ns r e = and_never (is_below ns (negsuc i)) ∙ moved_path (c.Int kind) ns r (At (negsuc i) ∷ path) e
  legal_read (At (negsuc i) ∷ path) (Pointer' p (more_of-Shape target end_of-Shape)) ns r e =
      let a = mapped pointer_to (read_type target ns) r e in
      and_never (is_below ns (negsuc i)) ∙ ap (λ (x : ReadType). paths.is_legal structs x.0 (At (negsuc i) ∷ path)) a.2
  legal_read (At (negsuc i) ∷ path) (Array' p (more_of-Shape item end_of-Shape)) [] r e = absurd cc
  legal_read (At (negsuc i) ∷ path) (Array' p (more_of-Shape item end_of-Shape)) (negsuc n ∷ ns) r e =
      let a = chained (array_of (negsuc n)) (read_type item ns) r e in
      let wrong = a.2 in
      absurd cc
  legal_read (At (negsuc i) ∷ path) (Array' p (more_of-Shape item end_of-Shape)) (pos n ∷ ns) r e =
      let a = chained (array_of (pos n)) (read_type item ns) r e in
      moved_path (c.Array' tt (more_of-CType a.0.0 end_of-CType) n) a.0.1 r (At (negsuc i) ∷ path) a.2
  legal_read (At (negsuc i) ∷ path) (Struct tag) ns r e = and_never (is_below ns (negsuc i)) ∙ moved_path (c.Struct tag) ns r (At (negsuc i) ∷ path) e
  legal_read (At (negsuc i) ∷ path) (Function' p parameters q (more_of-Shape result end_of-Shape)) ns r e =
      let a = chained (λ (x : ReadTypes). option_map (function_of x.0) (read_type result x.1)) (read_types parameters ns) r e in
      let b = mapped (function_of a.0.0) (read_type result a.0.1) r a.2 in
      and_never (is_below ns (negsuc i)) ∙ ap (λ (x : ReadType). paths.is_legal structs x.0 (At (negsuc i) ∷ path)) b.2
