-- Alignments are small.
use Rattle.std.proofs.Common.{◌≡◌, ℕ, ◌≤◌, max, zero, suc, List, [], ◌∷◌, Option, None, Some, IfSome, option_map, option_and_then, subst, arith}
use Rattle.floyd_int.specs.declared.kinds.IntKind.{IntKind}
use Rattle.floyd_int.specs.declared.kinds.IntKind.TheVariants.{I8, U8, I16, U16, I32, U32, I64, U64}
use Rattle.floyd_ctypes.specs.declared.ctype.CType.{CType, Void, Int, Pointer', Array', Struct, Function', more_of-CType, end_of-CType}
use Rattle.floyd_ctypes.specs.declared.field.Field.{Field}
use Rattle.floyd_ctypes.specs.declared.layout.Layout.{Layout}
use Rattle.floyd_ctypes.specs.Structs.{Structs, fields_of, completes}
use Rattle.floyd_ctypes.specs.Layout.{kind_size, layout_by, laid_after, fields_layout, struct_layout, layout, after, padded, nothing_laid, repeated}

abbrev pub IsAligned : Layout → Type 0
IsAligned l = (1 ≤ l.align) × (l.align ≤ 8)

if_some-map : (f : Layout → Layout) → ((l : Layout) → IsAligned l → IsAligned (f l)) → (o : Option Layout) → IfSome o IsAligned → IfSome (option_map f o) IsAligned
if_some-map f keeps None h = tt
if_some-map f keeps (Some l) h = keeps l h

if_some-then : (g : Layout → Option Layout) → ((l : Layout) → IsAligned l → IfSome (g l) IsAligned) → (o : Option Layout) → IfSome o IsAligned → IfSome (option_and_then g o) IsAligned
if_some-then g keeps None h = tt
if_some-then g keeps (Some l) h = keeps l h

-- it holds of what some value gives, if it holds whatever the value
always : {X : Type 0} (g : X → Option Layout) → ((x : X) → IfSome (g x) IsAligned) → (o : Option X) → IfSome (option_and_then g o) IsAligned
always g holds None = tt
always g holds (Some x) = holds x

by_kind : (k : IntKind) → (1 ≤ kind_size k) × (kind_size k ≤ 8)
by_kind I8 = (omega arith, omega arith)
by_kind U8 = (omega arith, omega arith)
by_kind I16 = (omega arith, omega arith)
by_kind U16 = (omega arith, omega arith)
by_kind I32 = (omega arith, omega arith)
by_kind U32 = (omega arith, omega arith)
by_kind I64 = (omega arith, omega arith)
by_kind U64 = (omega arith, omega arith)

by_type : (of : List ℕ → Option Layout) → ((tag : List ℕ) → IfSome (of tag) IsAligned) → (t : CType) → IfSome (layout_by of t) IsAligned
by_type of h Void = tt
by_type of h (Int k) = by_kind k
by_type of h (Pointer' p to) = (omega arith, omega arith)
by_type of h (Array' p (more_of-CType t end_of-CType) n) = if_some-map (repeated n) (λ l a. a) (layout_by of t) (by_type of h t)
by_type of h (Struct tag) = h tag
by_type of h (Function' shape ps p r) = tt

larger : (a b : ℕ) → 1 ≤ a → a ≤ 8 → b ≤ 8 → (1 ≤ max a b) × (max a b ≤ 8)
larger a b h k m = (omega arith, omega arith)

by_fields : (of : CType → Option Layout) → ((t : CType) → IfSome (of t) IsAligned) → (laid : Layout) → IsAligned laid → (fs : List Field) → IfSome (laid_after of laid fs) IsAligned
by_fields of h laid a [] = a
by_fields of h laid a (f ∷ fs) =
    if_some-then (λ l. laid_after of (after laid l) fs) (λ l b. by_fields of h (after laid l) (larger laid.align l.align a.0 a.1 b.1) fs) (of f.ty) (h f.ty)

of_struct : (depth : ℕ) (structs : Structs) (tag : List ℕ) → IfSome (struct_layout depth structs tag) IsAligned
of_struct zero structs tag = tt
of_struct (suc depth) structs tag =
    always (fields_layout (layout_by (struct_layout depth structs)))
    (λ fs. if_some-map padded (λ l a. a) (laid_after (layout_by (struct_layout depth structs)) nothing_laid fs)
    (by_fields (layout_by (struct_layout depth structs)) (by_type (struct_layout depth structs) (of_struct depth structs)) nothing_laid (omega arith, omega arith) fs))
    (fields_of structs tag)

pub of_type : (structs : Structs) (t : CType) → IfSome (layout structs t) IsAligned
of_type structs t = by_type (struct_layout (completes structs) structs) (of_struct (completes structs) structs) t

-- the same of a layout that was found
pub of_layout : (structs : Structs) (t : CType) (l : Layout) → layout structs t ≡ Some l → IsAligned l
of_layout structs t l e = subst (λ (o : Option Layout). IfSome o IsAligned) e (of_type structs t)
