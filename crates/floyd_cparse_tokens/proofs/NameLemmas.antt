-- Names of types as the code has them.
use Rattle.std.proofs.Common.{◌≡◌, ℕ, Bool, false, if◌then◌else◌, List, [], ◌∷◌, ◌++◌, ◌||◌, refl, ◌∙◌, ap}
use Rattle.std.specs.Prelude.{map, bytes_eq, Some}
use Rattle.std.specs.List.{list_any}
use Rattle.floyd_cparse_tokens.specs.Tokens.{Types, is_type_text, with_name}

module _ {K : Type 0} (bytes : K → List ℕ) where
  any_of : (text : List ℕ) (keys : List K) → list_any (λ k. bytes_eq text (bytes k)) keys ≡ is_type_text (map bytes keys) text
  any_of text [] = refl
  any_of text (k ∷ keys) = ap (λ z. bytes_eq text (bytes k) || z) (any_of text keys)

  one_more : (keys : List K) (k : K) → map bytes (keys ++ k ∷ []) ≡ map bytes keys ++ bytes k ∷ []
  one_more [] k = refl
  one_more (x ∷ keys) k = ap (λ z. bytes x ∷ z) (one_more keys k)

  -- a name that is not there goes last
  pub name_added : (keys new : List K) (k : K) (types : Types) (name : List ℕ) → new ≡ (if list_any (λ y. bytes_eq (bytes k) (bytes y)) keys then keys else keys ++ k ∷ []) → map bytes keys ≡ types → bytes k ≡ name → is_type_text types name ≡ false → map bytes new ≡ with_name (Some name) types
  name_added keys new k types name e view same none =
      let absent : list_any (λ y. bytes_eq (bytes k) (bytes y)) keys ≡ false = any_of (bytes k) keys ∙ ap (λ z. is_type_text z (bytes k)) view ∙ ap (is_type_text types) same ∙ none in
      let last : new ≡ keys ++ k ∷ [] = e ∙ ap (λ (b : Bool). if b then keys else keys ++ k ∷ []) absent in
      rw none (ap (map bytes) last ∙ one_more keys k ∙ ap (λ z. z ++ bytes k ∷ []) view ∙ ap (λ z. types ++ z ∷ []) same)
