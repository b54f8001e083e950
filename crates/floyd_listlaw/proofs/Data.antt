-- The laws over lists of data, with whole numbers as places.
use Rattle.std.proofs.Common.{◌≡◌, ℕ, zero, suc, ◌+◌, ◌-◌, ◌≤◌, ◌^◌, false, ℤ, pos, negsuc, ◌+ℤ◌, ◌-ℤ◌, List, [], ◌∷◌, ◌++◌, map, length, take, drop, IsTrue, int_le, refl, sym, ap, ◌∙◌, ◌⊎◌, inl, inr, ⊎_elim, arith}
use Rattle.std.proofs.lemmas.Bool.{leb-true, cases_Bool}
use Rattle.std.proofs.lemmas.Int.{ints}
use Rattle.std.proofs.lemmas.List.{length-set, length-take-le, length-drop, take-append-drop, get_or-set_same, get_or-set_other, take_all, take-take, take-map, drop-map, take_more}
use Rattle.std.proofs.Math.IntN.{+ℤ_assoc, +ℤ_idl, +ℤ_idr}
use Rattle.floyd_int.specs.declared.kinds.Value.TheVariants.{Vint}
use Rattle.floyd_int.specs.declared.kinds.IntKind.TheVariants.{I32}
use Rattle.floyd_int.specs.Kind.{modulo, repr_of}
use Rattle.floyd_int.proofs.KindLaws.{repr-value}
use Rattle.floyd_int.proofs.Modulo.{modulo-below, modulo-small}
use Rattle.floyd_tree_sorts.specs.declared.heads.Width.TheVariants.{Bits32}
use Rattle.floyd_tree_values.specs.Data.{Datum, number_in}
use Rattle.floyd_tree_values.specs.Lists.{at_least_zero, nth, upd, sublist, sum}
use Rattle.floyd_tree_values.specs.Numbers.{signed, unsigned}
use Rattle.floyd_tree_values.specs.Values.{vint}

abbrev pub Le : ℤ → ℤ → Type 0
Le a b = IsTrue (int_le a b)

places_keep : (a b : ℤ) → Le a b → at_least_zero a ≤ at_least_zero b
places_keep (pos m) (pos n) h = leb-true m n h
places_keep (pos m) (negsuc n) h = absurd cc
places_keep (negsuc m) b h = omega arith

-- sublists
nothing_left : (n : ℕ) (xs : List Datum) → drop n (take n xs) ≡ []
nothing_left zero [] = refl
nothing_left zero (x ∷ xs) = refl
nothing_left (suc n) [] = refl
nothing_left (suc n) (x ∷ xs) = nothing_left n xs

pub sublist_none : (z : ℤ) (xs : List Datum) → sublist z z xs ≡ []
sublist_none z xs = nothing_left (at_least_zero z) xs

pub sublist_all : (xs : List Datum) → sublist (pos 0) (pos (length xs)) xs ≡ xs
sublist_all xs = take_all (length xs) xs (omega arith)

pub sublist_snoc : (z : ℤ) (xs : List Datum) (d : Datum) → Le (pos 0) z → Le (z +ℤ pos 1) (pos (length xs)) → sublist (pos 0) (z +ℤ pos 1) xs ≡ sublist (pos 0) z xs ++ nth d z xs ∷ []
sublist_snoc (pos n) xs d h k = let small : n + 1 ≤ length xs = leb-true (n + 1) (length xs) k in take_more xs n d (omega arith)
sublist_snoc (negsuc n) xs d h k = absurd cc

joined : (a b : ℕ) (xs : List Datum) → a ≤ b → drop a (take b xs) ++ drop b xs ≡ drop a xs
joined zero b xs h = take-append-drop b xs
joined (suc a) zero xs h = absurd (omega (arith, h))
joined (suc a) (suc b) [] h = refl
joined (suc a) (suc b) (x ∷ xs) h = joined a b xs (omega (arith, h))

pub sublist_app : (a b c : ℤ) (xs : List Datum) → Le a b → Le b c → sublist a b xs ++ sublist b c xs ≡ sublist a c xs
sublist_app a b c xs h k =
    let i = at_least_zero a in
    let j = at_least_zero b in
    let l = at_least_zero c in
    ap (λ ys. drop i ys ++ drop j (take l xs)) (sym (take-take j l xs (places_keep b c k))) ∙ joined i j (take l xs) (places_keep a b h)

pub sublist_len : (a b : ℤ) (xs : List Datum) → Le (pos 0) a → Le a b → Le b (pos (length xs)) → pos (length (sublist a b xs)) ≡ b -ℤ a
sublist_len (pos m) (pos n) xs g h k =
    let low : m ≤ n = leb-true m n h in
    let short : length (drop m (take n xs)) ≡ n - m = length-drop m (take n xs) ∙ ap (λ k. k - m) (length-take-le n xs (leb-true n (length xs) k)) in
    ap pos short ∙ omega (arith, ints)
sublist_len (pos m) (negsuc n) xs g h k = absurd cc
sublist_len (negsuc m) b xs g h k = absurd cc

pub sublist_map : (f : Datum → Datum) (a b : ℤ) (xs : List Datum) → sublist a b (map f xs) ≡ map f (sublist a b xs)
sublist_map f a b xs = ap (drop (at_least_zero a)) (take-map f (at_least_zero b) xs) ∙ drop-map f (at_least_zero a) (take (at_least_zero b) xs)

-- sums
pub sum_app : (xs ys : List Datum) → sum (xs ++ ys) ≡ sum xs +ℤ sum ys
sum_app [] ys = sym (+ℤ_idl (sum ys))
sum_app (x ∷ xs) ys = ap (λ z. number_in x +ℤ z) (sum_app xs ys) ∙ sym (+ℤ_assoc (number_in x) (sum xs) (sum ys))

pub sum_snoc : (z : ℤ) (xs : List Datum) (d : Datum) → Le (pos 0) z → Le (z +ℤ pos 1) (pos (length xs)) → sum (sublist (pos 0) (z +ℤ pos 1) xs) ≡ sum (sublist (pos 0) z xs) +ℤ number_in (nth d z xs)
sum_snoc z xs d h k =
    ap sum (sublist_snoc z xs d h k) ∙ sum_app (sublist (pos 0) z xs) (nth d z xs ∷ [])
    ∙ ap (λ s. sum (sublist (pos 0) z xs) +ℤ s) (+ℤ_idr (number_in (nth d z xs)))

-- items
pub upd_len : (z : ℤ) (d : Datum) (xs : List Datum) → length (upd z d xs) ≡ length xs
upd_len (pos i) d xs = length-set xs i d
upd_len (negsuc i) d xs = refl

pub nth_same : (z : ℤ) (x : Datum) (xs : List Datum) (d : Datum) → Le (pos 0) z → Le (z +ℤ pos 1) (pos (length xs)) → nth d z (upd z x xs) ≡ x
nth_same (pos n) x xs d h k = let small : n + 1 ≤ length xs = leb-true (n + 1) (length xs) k in get_or-set_same xs n x d (omega arith)
nth_same (negsuc n) x xs d h k = absurd cc

pub nth_other : (a b : ℤ) (x : Datum) (xs : List Datum) (d : Datum) → ¬ (a ≡ b) → nth d b (upd a x xs) ≡ nth d b xs
nth_other (pos i) (pos j) x xs d differ = get_or-set_other xs i j x d (λ e. differ (ap pos (sym e)))
nth_other (pos i) (negsuc j) x xs d differ = refl
nth_other (negsuc i) b x xs d differ = refl

-- order
not_above : (a b : ℤ) → int_le a b ≡ false → Le (b +ℤ pos 1) a
not_above a b h = grind (arith, ints)

same_from_order : (a b : ℤ) → Le a b → int_le (a +ℤ pos 1) b ≡ false → a ≡ b
same_from_order a b h k = grind (arith, ints)

pub total : (a b : ℤ) → Le a b ⊎ Le (b +ℤ pos 1) a
total a b = ⊎_elim (λ h. inl h) (λ h. inr (not_above a b h)) (cases_Bool (int_le a b))

pub less_or_same : (a b : ℤ) → Le a b → Le (a +ℤ pos 1) b ⊎ (a ≡ b)
less_or_same a b h = ⊎_elim (λ k. inl k) (λ k. inr (same_from_order a b h k)) (cases_Bool (int_le (a +ℤ pos 1) b))

-- values
pub vint_unsigned : (z : ℤ) → vint z ≡ vint (unsigned Bits32 z)
vint_unsigned z = ap Vint (sym (modulo-small (modulo z (2 ^ 32)) (2 ^ 32) (modulo-below z (2 ^ 32) (omega arith))))

pub vint_signed : (z : ℤ) → vint z ≡ vint (signed Bits32 z)
unfolding repr_of
vint_signed z = ap Vint (sym (repr-value I32 (modulo z (2 ^ 32)) (modulo-below z (2 ^ 32) (omega arith))))
