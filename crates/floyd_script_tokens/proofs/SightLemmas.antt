-- Tokens with their numbers, one after the other.
use Rattle.std.proofs.Common.{◌≡◌, ℕ, suc, List, [], ◌∷◌, length, Result, Ok, Err, refl, sym, ◌∙◌, ap}
use Rattle.floyd_lex.specs.Token.{Token}
use Rattle.floyd_grammar.specs.declared.stop.Fault.{Fault}
use Rattle.floyd_grammar.specs.declared.stop.Stop.{Stop}
use Rattle.floyd_grammar.specs.declared.stop.Stop.TheVariants as stop
use Rattle.floyd_grammar.specs.GivesClauses.{Gives}
use Rattle.floyd_grammar.specs.ParseClauses.{Read}
use Rattle.floyd_termread_tokens.specs.SeenClauses as seen
use Rattle.floyd_script_tokens.specs.Sights.{Sight, sights_in}
use Rattle.floyd_script_tokens.specs.SightClauses.{take_as}

count_in : (count : ℕ) (ts : List Token) → length (sights_in count ts) ≡ length ts
count_in count [] = refl
count_in count (t ∷ ts) = ap (λ (n : ℕ). suc n) (count_in count ts)

-- what is read of the tokens is read of them with their numbers
module _ {A : Type 0} (count : ℕ) where
  abbrev numbered : Read Token A → Read Sight A
  numbered (Ok r) = Ok (r.0, sights_in count r.1)
  numbered (Err f) = Err f

  same_read : (found : Result A ℕ) (ts : List Token) → numbered (seen.take_as found ts) ≡ take_as found (sights_in count ts)
  same_read found [] = refl
  same_read (Ok x) (t ∷ ts) = refl
  same_read (Err k) (t ∷ ts) = ap (λ (n : ℕ). let f : Fault = record { left = suc n; cause = k } in let e : Read Sight A = Err f in e) (sym (count_in count ts))

  pub takes_in : (found : Result A ℕ) (result : Result A Stop) (old new : List Token) → Gives result new (seen.take_as found old) → Gives result (sights_in count new) (take_as found (sights_in count old))
  takes_in found (Ok x) old new g = sym (same_read found old) ∙ ap numbered g
  takes_in found (Err (stop.Fault f)) old new g = sym (same_read found old) ∙ ap numbered g
  takes_in found (Err stop.Memory) old new g = tt
