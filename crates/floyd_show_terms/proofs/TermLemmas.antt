-- Terms in writing, by their heads and kids.
use Rattle.std.proofs.Common.{◌≡◌, ℕ, ◌<◌, ◌≤◌, ◌++◌, Bool, true, false, true≢false, List, [], ◌∷◌, length, get_or, Option, Some, None, refl, ap, sym, ◌∙◌, arith}
use Rattle.std.proofs.lemmas.List.{append_assoc}
use Rattle.std.specs.Prelude.{codes, is_some, unwrap_or}
use Rattle.floyd_tree_sorts.specs.declared.heads.Head.{Head}
use Rattle.floyd_tree_sorts.specs.declared.heads.Head.TheVariants.{Nil, Default, Operator}
use Rattle.floyd_tree_sorts.specs.declared.operators.Operator.TheVariants as o
use Rattle.floyd_tree_sorts.specs.declared.shape.Shape.{Shape}
use Rattle.floyd_tree_sorts.specs.declared.sorts.Sort.{Sort}
use Rattle.floyd_tree.specs.Code.{plains-listed}
use Rattle.floyd_tree.specs.Plain.{Plain, At, plains, head_of, kids_of}
use Rattle.floyd_show_terms.specs.Terms.{Written, written, written_at, all_written, cons_of, cons_onto, following, frame, framed, infixed, term_text, term_texts}
use Rattle.floyd_show_terms.specs.TermsClauses.{bracketed, is_cell, is_nil, items_of}
use Rattle.floyd_show_terms.specs.Types.{type_text}

pub two_of : {T : Type 0} (ks : List T) (a b : T) → 2 ≤ length ks → length ks < 3 → a ≡ get_or ks 0 a → b ≡ get_or ks 1 b → ks ≡ a ∷ b ∷ []
two_of [] a b h k e g = absurd (omega (arith, h))
two_of (x ∷ []) a b h k e g = absurd (omega (arith, h))
two_of (x ∷ y ∷ []) a b h k e g = ap (λ z. z ∷ y ∷ []) (sym e) ∙ ap (λ z. a ∷ z ∷ []) (sym g)
two_of (x ∷ y ∷ z ∷ ks) a b h k e g = absurd (omega (arith, k))

made : (t : Plain) → written t ≡ written_at (head_of t) (all_written (plains (kids_of t)))
made (At head kids) = ap (λ x. written_at head (all_written x)) (sym (plains-listed kids))

-- a term in writing, by what was seen of it
pub made_of : (t : Plain) (h : Head) (ks : List Plain) → head_of t ≡ h → kids_of t ≡ ks → written t ≡ written_at h (all_written (plains ks))
made_of t h ks e k = made t ∙ ap (λ x. written_at x (all_written (plains (kids_of t)))) e ∙ ap (λ x. written_at h (all_written (plains x))) k

onto_items : (i : Option (List (List ℕ))) (x l : Written) → is_some (cons_onto i x l).items ≡ is_some i
onto_items (Some ts) x l = refl
onto_items None x l = refl

-- an item before a list is a literal list where the list is one
pub literal_second : (ks : List Plain) (l : Plain) → 2 ≤ length ks → length ks < 3 → l ≡ get_or ks 1 l → is_some (cons_of (all_written (plains ks))).items ≡ is_some (written l).items
literal_second [] l h k e = absurd (omega (arith, h))
literal_second (x ∷ []) l h k e = absurd (omega (arith, h))
literal_second (x ∷ y ∷ []) l h k e = onto_items (written y).items (written x) (written y) ∙ ap (λ z. is_some (written z).items) (sym e)
literal_second (x ∷ y ∷ z ∷ ks) l h k e = absurd (omega (arith, k))

pub few : (ks : List Plain) → length ks < 2 → is_some (cons_of (all_written (plains ks))).items ≡ false
few [] h = refl
few (x ∷ []) h = refl
few (x ∷ y ∷ ks) h = absurd (omega (arith, h))

pub many : (ks : List Plain) → 3 ≤ length ks → is_some (cons_of (all_written (plains ks))).items ≡ false
many [] h = absurd (omega (arith, h))
many (x ∷ []) h = absurd (omega (arith, h))
many (x ∷ y ∷ []) h = absurd (omega (arith, h))
many (x ∷ y ∷ z ∷ ks) h = refl

cell_at : (h : Head) (ws : List Written) → is_cell h ≡ true → is_some (written_at h ws).items ≡ is_some (cons_of ws).items
cell_at (Operator o.Cons) ws e = refl
cell_at h ws e = absurd (true≢false (sym e))

other_at : (h : Head) (ws : List Written) → is_cell h ≡ false → is_some (written_at h ws).items ≡ is_nil h
other_at (Nil s) ws e = refl
other_at (Operator o.Cons) ws e = absurd (true≢false e)
other_at h ws e = refl

-- whether a term is a literal list, by its head
pub cell_items : (t : Plain) (h : Head) (ks : List Plain) → head_of t ≡ h → kids_of t ≡ ks → is_cell h ≡ true → is_some (written t).items ≡ is_some (cons_of (all_written (plains ks))).items
cell_items t h ks e k c = ap (λ (w : Written). is_some w.items) (made_of t h ks e k) ∙ cell_at h (all_written (plains ks)) c

pub other_items : (t : Plain) (h : Head) → head_of t ≡ h → is_cell h ≡ false → is_some (written t).items ≡ is_nil h
other_items t h e c = ap (λ (w : Written). is_some w.items) (made_of t h (kids_of t) e refl) ∙ other_at h (all_written (plains (kids_of t))) c

abbrev pub NotNil : Head → Type 0
NotNil h = (s : Sort) → h ≡ Nil s → ⊥

abbrev pub NotDefault : Head → Type 0
NotDefault h = (shape : Shape) (s : Sort) → h ≡ Default shape s → ⊥

-- a literal list that is not empty has an item and a rest
pub not_few : (h : Head) (ks : List Plain) → length ks < 2 → is_some (written_at h (all_written (plains ks))).items ≡ true → NotNil h → ⊥
not_few (Nil s) ks b e n = n s refl
not_few (Operator o.Cons) ks b e n = true≢false (sym e ∙ few ks b)
not_few h ks b e n = true≢false (sym e)

pub not_many : (h : Head) (ks : List Plain) → 3 ≤ length ks → is_some (written_at h (all_written (plains ks))).items ≡ true → NotNil h → ⊥
not_many (Nil s) ks b e n = n s refl
not_many (Operator o.Cons) ks b e n = true≢false (sym e ∙ many ks b)
not_many h ks b e n = true≢false (sym e)

onto_two : (i : Option (List (List ℕ))) (x l : Written) → is_some (cons_onto i x l).items ≡ true → (is_some i ≡ true) × (unwrap_or (cons_onto i x l).items [] ≡ x.text ∷ unwrap_or i [])
onto_two (Some ts) x l e = (refl, refl)
onto_two None x l e = absurd (true≢false (sym e))

two_items : (h : Head) (x l : Written) → is_some (written_at h (x ∷ l ∷ [])).items ≡ true → NotNil h → (is_some l.items ≡ true) × (unwrap_or (written_at h (x ∷ l ∷ [])).items [] ≡ x.text ∷ unwrap_or l.items [])
two_items (Nil s) x l e n = absurd (n s refl)
two_items (Operator o.Cons) x l e n = onto_two l.items x l e
two_items h x l e n = absurd (true≢false (sym e))

-- the rest of a literal list is one, and its items stand behind the first
pub items_two : (t : Plain) (h : Head) (x l : Plain) → head_of t ≡ h → kids_of t ≡ x ∷ l ∷ [] → is_some (written t).items ≡ true → NotNil h → (is_some (written l).items ≡ true) × (items_of t ≡ term_text x ∷ items_of l)
items_two t h x l e k lit n =
    let m = made_of t h (x ∷ l ∷ []) e k in
    let p = two_items h (written x) (written l) (sym (ap (λ (w : Written). is_some w.items) m) ∙ lit) n in
    (p.0, ap (λ (w : Written). unwrap_or w.items []) m ∙ p.1)

pub no_items : (t : Plain) (s : Sort) (opens : Bool) → head_of t ≡ Nil s → bracketed opens (items_of t) ≡ codes "]"
no_items t s opens e = ap (λ (w : Written). bracketed opens (unwrap_or w.items [])) (made_of t (Nil s) (kids_of t) e refl)

following_closed : (ts : List (List ℕ)) → following (codes ", ") ts ++ codes "]" ≡ bracketed false ts
following_closed [] = refl
following_closed (t ∷ ts) = ap (λ y. codes ", " ++ y) (append_assoc t (following (codes ", ") ts) (codes "]") ∙ ap (λ y. t ++ y) (following_closed ts))

onto_text : (i : Option (List (List ℕ))) (x l : Written) → is_some (cons_onto i x l).items ≡ true → (cons_onto i x l).text ≡ bracketed true (unwrap_or (cons_onto i x l).items [])
onto_text (Some ts) x l e = ap (λ y. codes "[" ++ y) (append_assoc x.text (following (codes ", ") ts) (codes "]") ∙ ap (λ y. x.text ++ y) (following_closed ts))
onto_text None x l e = absurd (true≢false (sym e))

literal_at : (h : Head) (ws : List Written) → is_some (written_at h ws).items ≡ true → NotNil h → (written_at h ws).text ≡ bracketed true (unwrap_or (written_at h ws).items [])
literal_at (Nil s) ws e n = absurd (n s refl)
literal_at (Operator o.Cons) (x ∷ l ∷ []) e n = onto_text l.items x l e
literal_at h ws e n = absurd (true≢false (sym e))

-- a literal list, in brackets
pub literal_text : (t : Plain) (h : Head) → head_of t ≡ h → is_some (written t).items ≡ true → NotNil h → term_text t ≡ bracketed true (items_of t)
literal_text t h e lit n =
    let m = made_of t h (kids_of t) e refl in
    ap (λ (w : Written). w.text) m ∙ literal_at h (all_written (plains (kids_of t))) (sym (ap (λ (w : Written). is_some w.items) m) ∙ lit) n ∙ sym (ap (λ (w : Written). bracketed true (unwrap_or w.items [])) m)

onto_framed : (i : Option (List (List ℕ))) (x l : Written) → is_some (cons_onto i x l).items ≡ false → (cons_onto i x l).text ≡ (framed (infixed (codes " :: ")) (x ∷ l ∷ [])).text
onto_framed (Some ts) x l e = absurd (true≢false e)
onto_framed None x l e = refl

framed_at : (h : Head) (ws : List Written) → is_some (written_at h ws).items ≡ false → NotDefault h → (written_at h ws).text ≡ (framed (frame h) ws).text
framed_at (Nil s) ws e d = absurd (true≢false e)
framed_at (Default shape s) ws e d = absurd (d shape s refl)
framed_at (Operator o.Cons) (x ∷ l ∷ []) e d = onto_framed l.items x l e
framed_at h ws e d = refl

-- a term that is no literal list and no default value stands in the frame of its head
pub framed_text : (t : Plain) (h : Head) (ks : List Plain) → head_of t ≡ h → kids_of t ≡ ks → is_some (written t).items ≡ false → NotDefault h → term_text t ≡ (framed (frame h) (all_written (plains ks))).text
framed_text t h ks e k lit d =
    let m = made_of t h ks e k in
    ap (λ (w : Written). w.text) m ∙ framed_at h (all_written (plains ks)) (sym (ap (λ (w : Written). is_some w.items) m) ∙ lit) d

-- a default value
pub default_text : (t : Plain) (shape : Shape) (s : Sort) (ks : List Plain) → head_of t ≡ Default shape s → kids_of t ≡ ks → term_text t ≡ codes "default(" ++ type_text shape (term_texts (plains ks)) ++ codes ")"
default_text t shape s ks e k = ap (λ (w : Written). w.text) (made_of t (Default shape s) ks e k)
