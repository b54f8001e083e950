-- The calls in a term, by its head and its kids.
use Rattle.std.proofs.Common.{◌≡◌, ℕ, ◌+◌, ◌<◌, Bool, List, ◌∷◌, ◌++◌, length, get_or, drop, ap, sym, ◌∙◌, append_assoc}
use Rattle.std.specs.List.{flat_map}
use Rattle.std.proofs.lemmas.List.{drop_more}
use Rattle.floyd_tree_sorts.specs.declared.heads.Head.{Head}
use Rattle.floyd_tree.specs.Code.{plains-listed}
use Rattle.floyd_tree.specs.Plain.{Plain, At, head_of, kids_of, listed, plains}
use Rattle.floyd_predicates.specs.Calls.{all_calls, call_at, calls_in}

pub calls_by_parts : (own : List ℕ) (parts : List (List ℕ)) (t : Plain) → calls_in own parts t ≡ call_at own parts (head_of t) (kids_of t) ++ all_calls own parts (plains (kids_of t))
calls_by_parts own parts (At head kids) = ap (λ ts. call_at own parts head (listed kids) ++ all_calls own parts ts) (sym (plains-listed kids))

pub calls_told : (own : List ℕ) (parts : List (List ℕ)) (t : Plain) (old mid : List Bool) (terms : List Plain) (head : Head) → terms ≡ kids_of t → head ≡ head_of t → mid ≡ old ++ call_at own parts head terms → mid ++ all_calls own parts (plains terms) ≡ old ++ calls_in own parts t
calls_told own parts t old mid terms head e f h =
    ap (λ m. m ++ all_calls own parts (plains terms)) h
    ∙ append_assoc old (call_at own parts head terms) (all_calls own parts (plains terms))
    ∙ ap (λ ts. old ++ (call_at own parts head ts ++ all_calls own parts (plains ts))) e
    ∙ ap (λ k. old ++ (call_at own parts k (kids_of t) ++ all_calls own parts (plains (kids_of t)))) f
    ∙ ap (λ bs. old ++ bs) (sym (calls_by_parts own parts t))

-- one more of a list is looked at
pub next_of : {X : Type 0} (f : X → List Bool) (xs : List X) (i : ℕ) (x : X) (all more : List Bool) → i < length xs → x ≡ get_or xs i x → more ≡ all ++ f x → more ++ flat_map f (drop (i + 1) xs) ≡ all ++ flat_map f (drop i xs)
next_of f xs i x all more within is e =
    ap (λ m. m ++ flat_map f (drop (i + 1) xs)) e
    ∙ append_assoc all (f x) (flat_map f (drop (i + 1) xs))
    ∙ ap (λ ys. all ++ flat_map f ys) (sym (drop_more xs i x within ∙ ap (λ z. z ∷ drop (i + 1) xs) (sym is)))
