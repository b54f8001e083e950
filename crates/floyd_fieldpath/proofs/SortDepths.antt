-- To look deeper than there are complete structs finds no other sorts.
use Rattle.std.proofs.Common.{◌≡◌, ℕ, zero, suc, ◌+◌, ◌-◌, ◌≤◌, Bool, true, false, List, [], ◌∷◌, length, Option, Some, None, is_some, refl, sym, ◌∙◌, ap, ap₂, arith}
use Rattle.std.specs.Prelude.{if◌then◌else◌, option_map, option_and_then}
use Rattle.floyd_ctypes.specs.declared.ctype.CType.{CType, more_of-CType, end_of-CType}
use Rattle.floyd_ctypes.specs.declared.ctype.CType as c
use Rattle.floyd_ctypes.specs.declared.field.Field.{Field}
use Rattle.floyd_ctypes.specs.Layout.{layout, IsLaidOut}
use Rattle.floyd_ctypes.specs.Structs.{Structs, fields_of, completes}
use Rattle.floyd_tree_sorts.specs.declared.shape.Shape.{Shape}
use Rattle.floyd_tree_sorts.specs.declared.sorts.Sort.{Sort}
use Rattle.floyd_tree_sorts.specs.Sorts.{list_sort, pair_sort}
use Rattle.floyd_tree_values.specs.Defaults.{pair_sorts, type_sort, fields_sort, shape_sort, struct_sort, ctype_sort, value_sort}
use Rattle.floyd_tree_values.proofs.SizedSorts.{sort_where_sized}

pub list_some : (o : Option Sort) (s : Sort) → option_map list_sort o ≡ Some s → (a : Sort) × (o ≡ Some a) × (list_sort a ≡ s)
list_some (Some a) s e = (a, refl, cc)
list_some None s e = absurd cc

pub pair_some : (o p : Option Sort) (s : Sort) → pair_sorts o p ≡ Some s → (a : Sort) × (b : Sort) × (o ≡ Some a) × (p ≡ Some b) × (pair_sort a b ≡ s)
pair_some (Some a) (Some b) s e = (a, b, refl, refl, cc)
pair_some (Some a) None s e = absurd cc
pair_some None p s e = absurd cc

-- what is found stays found where more is known of the structs
module _ (of by : List ℕ → Option Sort) (keeps : (tag : List ℕ) (s : Sort) → of tag ≡ Some s → by tag ≡ Some s) where
  type_kept : (t : CType) (s : Sort) → type_sort of t ≡ Some s → type_sort by t ≡ Some s
  type_kept c.Void s e = e
  type_kept (c.Int k) s e = e
  type_kept (c.Pointer' p to) s e = e
  type_kept (c.Array' p (more_of-CType t end_of-CType) n) s e =
      let l = list_some (type_sort of t) s e in
      ap (option_map list_sort) (type_kept t l.0 l.1) ∙ ap Some l.2
  type_kept (c.Struct tag) s e = keeps tag s e
  type_kept (c.Function' shape ps p r) s e = e

  pub fields_kept : (fields : List Field) (s : Sort) → fields_sort of fields ≡ Some s → fields_sort by fields ≡ Some s
  fields_kept [] s e = e
  fields_kept (f ∷ []) s e = type_kept f.ty s e
  fields_kept (f ∷ g ∷ more) s e =
      let k = pair_some (type_sort of f.ty) (fields_sort of (g ∷ more)) s e in
      ap₂ pair_sorts (type_kept f.ty k.0 k.2) (fields_kept (g ∷ more) k.1 k.3) ∙ ap Some k.4

  struct_kept : (o : Option (List Field)) (s : Sort) → option_and_then (fields_sort of) o ≡ Some s → option_and_then (fields_sort by) o ≡ Some s
  struct_kept (Some fields) s e = fields_kept fields s e
  struct_kept None s e = e

pub one_more : (structs : Structs) (d : ℕ) (tag : List ℕ) (s : Sort) → struct_sort d structs tag ≡ Some s → struct_sort (suc d) structs tag ≡ Some s
one_more structs zero tag s e = absurd cc
one_more structs (suc d) tag s e = struct_kept (struct_sort d structs) (struct_sort (suc d) structs) (one_more structs d) (fields_of structs tag) s e

-- k more than d
abbrev up : ℕ → ℕ → ℕ
up zero d = d
up (suc k) d = suc (up k d)

abbrev pub Laws : Structs → Type 0
Laws structs = (tag : List ℕ) (fields : List Field) → fields_of structs tag ≡ Some fields → IsLaidOut structs tag fields

have_fields : (structs : Structs) → Laws structs → (tag : List ℕ) (fields : List Field) → fields_of structs tag ≡ Some fields → ¬ (fields ≡ [])
have_fields structs laws tag [] e same = absurd (omega (arith, (laws tag [] e).some))
have_fields structs laws tag (f ∷ fields) e same = cc

-- a struct without a sort is not complete
none_complete : (structs : Structs) → Laws structs → (tag : List ℕ) → struct_sort (completes structs) structs tag ≡ None → fields_of structs tag ≡ None
none_complete structs laws tag e = by (fields_of structs tag) refl
  where
    by : (o : Option (List Field)) → fields_of structs tag ≡ o → o ≡ None
    by None f = refl
    by (Some fields) f =
        let l = laws tag fields f in
        let there : is_some (layout structs (c.Struct tag)) ≡ true = ap is_some l.same ∙ l.sized in
        let none : is_some (ctype_sort structs (c.Struct tag)) ≡ false = ap is_some e in
        let wrong : false ≡ true = sym none ∙ sort_where_sized structs (have_fields structs laws) (c.Struct tag) ∙ there in
        absurd cc

some_stays : (structs : Structs) (k d : ℕ) (tag : List ℕ) (s : Sort) → struct_sort d structs tag ≡ Some s → struct_sort (up k d) structs tag ≡ Some s
some_stays structs zero d tag s e = e
some_stays structs (suc k) d tag s e = one_more structs (up k d) tag s (some_stays structs k d tag s e)

none_stays : (structs : Structs) (k d : ℕ) (tag : List ℕ) → fields_of structs tag ≡ None → struct_sort d structs tag ≡ None → struct_sort (up k d) structs tag ≡ None
none_stays structs zero d tag f e = e
none_stays structs (suc k) d tag f e = ap (option_and_then (fields_sort (struct_sort (up k d) structs))) f

deep : (structs : Structs) → Laws structs → (k : ℕ) (tag : List ℕ) → struct_sort (up k (completes structs)) structs tag ≡ struct_sort (completes structs) structs tag
deep structs laws k tag = by (struct_sort (completes structs) structs tag) refl
  where
    by : (o : Option Sort) → struct_sort (completes structs) structs tag ≡ o → struct_sort (up k (completes structs)) structs tag ≡ o
    by (Some s) e = some_stays structs k (completes structs) tag s e
    by None e = none_stays structs k (completes structs) tag (none_complete structs laws tag e) e

up-sum : (k d : ℕ) → up k d ≡ k + d
up-sum zero d = omega arith
up-sum (suc k) d = omega (arith, up-sum k d)

one_at_most : (b : Bool) → (if b then 1 else 0) ≤ 1
one_at_most true = omega arith
one_at_most false = omega arith

completes_few : (structs : Structs) → completes structs ≤ length structs
completes_few [] = omega arith
completes_few (s ∷ structs) = omega (arith, one_at_most (is_some s.1), completes_few structs)

-- so as many as there are tags are enough
pub sort_by_tags : (structs : Structs) → Laws structs → (n : ℕ) → n ≡ length structs → (shape : Shape) → shape_sort (struct_sort n structs) shape ≡ value_sort structs shape
sort_by_tags structs laws n e shape =
    let k = n - completes structs in
    let same : n ≡ up k (completes structs) = sym (up-sum k (completes structs) ∙ omega (arith, completes_few structs)) in
    ap (λ d. shape_sort (struct_sort d structs) shape) same ∙ ap (λ of. shape_sort of shape) (λ i tag. deep structs laws k tag i)
