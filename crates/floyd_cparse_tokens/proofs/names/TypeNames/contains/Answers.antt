use Rattle.std.proofs.Common.{◌≡◌, ℕ, List, [], ◌∷◌, ◌||◌, refl, ◌∙◌, ap}
use Rattle.std.specs.Prelude.{map, bytes_eq}
use Rattle.std.specs.List.{list_any}
use Rattle.floyd_cparse_tokens.proofs.names.TypeNames.contains.Goals as goal

any_of : {K : Type 0} (bytes : K → List ℕ) (text : List ℕ) (keys : List K) → list_any (λ k. bytes_eq text (bytes k)) keys ≡ list_any (λ name. bytes_eq text name) (map bytes keys)
any_of bytes text [] = refl
any_of bytes text (k ∷ keys) = ap (λ z. bytes_eq text (bytes k) || z) (any_of bytes text keys)

pub returns : goal.returns
returns c = rw (← c.self.view_is) (c.contains.ensures ∙ any_of (λ v. v.items) c.args.text.now c.self.inside.names.keys)
