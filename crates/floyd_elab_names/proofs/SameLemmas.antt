-- Two types are the same exactly where the test of specs/Types says so.
use Rattle.std.proofs.Common.{◌≡◌, IsTrue, ◌↔◌, ℕ, ◌==◌, Bool, true, false, ◌&&◌, List, ◌∷◌, true≢false, refl, ap, sym, ◌∙◌, bytes_eq}
use Rattle.std.proofs.lemmas.Bool.{eqb-true, eq-eqb}
use Rattle.std.proofs.lemmas.Slice.Eq.{bytes_eq-Decides}
use mathlib.Core.Former as Former
use Rattle.sqlite_items.specs.formers.items.Items as Items'
use Rattle.floyd_int.specs.declared.kinds.IntKind.{IntKind}
use Rattle.floyd_int.specs.declared.kinds.IntKind.TheVariants.{I8, U8, I16, U16, I32, U32, I64, U64}
use Rattle.floyd_ctypes.specs.declared.ctype.CType.{CType, Void, Int, Pointer', Array', Struct, Function, Function', more_of-CType, end_of-CType, Row_of-CType, items-the_row-CType, items_shown-the_row-CType-1}
use Rattle.floyd_ctypes.specs.declared.ctype.CType.TheBlock.{backs-CType, shape-the_row-CType-0, hidden-the_row-CType-0, shown-the_row-CType-0}
use denote.Hole.Carrier.{hidden, shown}
use Rattle.floyd_elab_names.specs.Types.{pointer_to, array_of, same_kind, same_type, same_types}

both_true : (a b : Bool) → (a && b) ≡ true → (a ≡ true) × (b ≡ true)
both_true true true h = (refl, refl)
both_true true false h = cc
both_true false b h = cc

same_kind_true : (j k : IntKind) → same_kind j k ≡ true → j ≡ k
same_kind_true I8 I8 h = refl
same_kind_true U8 U8 h = refl
same_kind_true I16 I16 h = refl
same_kind_true U16 U16 h = refl
same_kind_true I32 I32 h = refl
same_kind_true U32 U32 h = refl
same_kind_true I64 I64 h = refl
same_kind_true U64 U64 h = refl
same_kind_true j k h = absurd cc

same_kind_self : (k : IntKind) → same_kind k k ≡ true
same_kind_self I8 = refl
same_kind_self U8 = refl
same_kind_self I16 = refl
same_kind_self U16 = refl
same_kind_self I32 = refl
same_kind_self U32 = refl
same_kind_self I64 = refl
same_kind_self U64 = refl

same_name_true : (a b : List ℕ) → bytes_eq a b ≡ true → a ≡ b
same_name_true a b h = (bytes_eq-Decides a b).0 h

same_name_self : (a : List ℕ) → bytes_eq a a ≡ true
same_name_self a = (bytes_eq-Decides a a).1 refl

-- a function is made again of what it is seen as
made_again : (shape : List (Unit {0})) (ps : Row_of-CType (Former.arity (Items'.the_former (Former.this {0})) shape)) (p : Unit {0}) (t : CType) →
    Function (items-the_row-CType _ ps) t ≡ Function' shape ps p (more_of-CType t end_of-CType)
unfolding shape-the_row-CType-0 hidden-the_row-CType-0 shown-the_row-CType-0 hidden shown
made_again shape ps p t =
    ap (λ (l : List CType). Function l t) (sym (items_shown-the_row-CType-1 shape ps)) ∙ backs-CType (Function' shape ps p (more_of-CType t end_of-CType))

mutual
  same_true : (t u : CType) → same_type t u ≡ true → t ≡ u
  same_true Void Void h = refl
  same_true (Int j) (Int k) h = ap (λ (k : IntKind). Int k) (same_kind_true j k h)
  same_true (Pointer' p (more_of-CType t end_of-CType)) (Pointer' q (more_of-CType u end_of-CType)) h = ap pointer_to (same_true t u h)
  same_true (Array' p (more_of-CType t end_of-CType) m) (Array' q (more_of-CType u end_of-CType) n) h =
      let both = both_true (m == n) (same_type t u) h in
      ap (λ k. array_of t k) (eqb-true m n both.0) ∙ ap (λ x. array_of x n) (same_true t u both.1)
  same_true (Struct tag) (Struct other) h = ap (λ (x : List ℕ). Struct x) (same_name_true tag other h)
  same_true (Function' shape ps p (more_of-CType t end_of-CType)) (Function' other qs q (more_of-CType u end_of-CType)) h =
      let both = both_true (same_type t u) (same_types ps qs) h in
      sym (made_again shape ps p t)
      ∙ ap (λ (x : CType). Function (items-the_row-CType _ ps) x) (same_true t u both.0)
      ∙ ap (λ (l : List CType). Function l u) (items_true ps qs both.1)
      ∙ made_again other qs q u
  same_true t u h = absurd (true≢false (sym h))

  items_true : {m n : _} (ps : Row_of-CType m) (qs : Row_of-CType n) → same_types ps qs ≡ true → items-the_row-CType _ ps ≡ items-the_row-CType _ qs
  items_true end_of-CType end_of-CType h = refl
  items_true (more_of-CType t ts) (more_of-CType u us) h =
      let both = both_true (same_type t u) (same_types ts us) h in
      ap (λ (x : CType). x ∷ items-the_row-CType _ ts) (same_true t u both.0) ∙ ap (λ (l : List CType). u ∷ l) (items_true ts us both.1)
  items_true ts us h = absurd (true≢false (sym h))

mutual
  same_self : (t : CType) → same_type t t ≡ true
  same_self Void = refl
  same_self (Int k) = same_kind_self k
  same_self (Pointer' p (more_of-CType t end_of-CType)) = same_self t
  same_self (Array' p (more_of-CType t end_of-CType) n) = ap (λ b. b && same_type t t) (eq-eqb n n refl) ∙ same_self t
  same_self (Struct tag) = same_name_self tag
  same_self (Function' shape ps p (more_of-CType t end_of-CType)) = ap (λ b. b && same_types ps ps) (same_self t) ∙ rows_self ps

  rows_self : {m : _} (ps : Row_of-CType m) → same_types ps ps ≡ true
  rows_self end_of-CType = refl
  rows_self (more_of-CType t ts) = ap (λ b. b && same_types ts ts) (same_self t) ∙ rows_self ts

not_same : (r : Bool) → (r ≡ true → ⊥) → false ≡ r
not_same true h = absurd (h refl)
not_same false h = refl

pub same_type_test : (r : Bool) (a b : CType) → (IsTrue r ↔ (a ≡ b)) → r ≡ same_type a b
same_type_test true a b h = sym (ap (λ x. same_type a x) (sym (h.0 refl)) ∙ same_self a)
same_type_test false a b h = not_same (same_type a b) (λ e. let wrong : false ≡ true = h.1 (same_true a b e) in true≢false (sym wrong))
