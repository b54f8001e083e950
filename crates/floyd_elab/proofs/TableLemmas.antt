-- Names that are found at once.
use Rattle.std.proofs.Common.{◌≡◌, ℕ, Bool, true, false, ◌||◌, List, [], ◌∷◌, ◌++◌, bytes_eq, refl, ap, sym, ◌∙◌}
use Rattle.std.specs.List.{list_any}
use Rattle.floyd_elab_names.specs.Scopes.{is_among}
use Rattle.floyd_elab.specs.TableClauses.{is_named, AddsName}

exchanged : (a b c : Bool) → (a || (b || c)) ≡ (b || (a || c))
exchanged true true c = refl
exchanged true false c = refl
exchanged false b c = refl

any_last : {A : Type 0} (p : A → Bool) (xs : List A) (x : A) → list_any p (xs ++ x ∷ []) ≡ (p x || list_any p xs)
any_last p [] x = refl
any_last p (y ∷ ys) x = ap (λ b. p y || b) (any_last p ys x) ∙ exchanged (p y) (p x) (list_any p ys)

pub item_added : {A : Type 0} (name_of : A → List ℕ) (keys more : List (List ℕ)) (items now : List A) (item : A) (x : List ℕ)
    → ((q : List ℕ) → is_among q keys ≡ is_named name_of q items) → AddsName x keys more → x ≡ name_of item → now ≡ items ++ item ∷ [] → (q : List ℕ) → is_among q more ≡ is_named name_of q now
item_added name_of keys more items now item x held adds is all q =
    adds q
    ∙ ap (λ b. bytes_eq q x || b) (held q)
    ∙ ap (λ y. bytes_eq q y || is_named name_of q items) is
    ∙ sym (ap (is_named name_of q) all ∙ any_last (λ one. bytes_eq q (name_of one)) items item)
