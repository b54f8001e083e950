-- Brackets by the room that is left.
use Rattle.std.proofs.Common.{◌≡◌, ℕ, zero, suc, ◌-◌, true, false, List, [], ◌∷◌, drop, Result, Ok, Err, IfOk, refl, sym, ◌∙◌, ap, subst, true≢false, arith}
use Rattle.floyd_lex.specs.declared.kinds.Punctuator.{Punctuator}
use Rattle.floyd_grammar.specs.declared.stop.Stop.{Stop}
use Rattle.floyd_grammar.specs.GivesClauses.{Gives}
use Rattle.floyd_grammar.specs.ParseClauses.{Parser, one, ◌>>◌}
use Rattle.floyd_grammar.proofs.Exact.{same_value}
use Rattle.floyd_cparse_tokens.proofs.ReadLemmas.{gives_then}
use Rattle.floyd_script_tokens.specs.Heads.{item_of}
use Rattle.floyd_script_tokens.specs.Sights.{Sight, mark}
use Rattle.floyd_script_tokens.specs.SightClauses.{take_as, HasRoom}
use Rattle.floyd_script_tokens.specs.declared.heads.Opening.{Opening}
use Rattle.floyd_script_arguments.specs.Grammar.{Nothing}
use Rattle.floyd_script_arguments.specs.ArgumentClauses as r

pub room_some : (n : ℕ) → (n ≡ 0 → ⊥) → r.has_room n ≡ true
room_some zero h = absurd (h refl)
room_some (suc n) h = refl

one_seen : {A : Type 0} (f : Sight → Result A ℕ) (ts : List Sight) (s : Sight) → ts ≡ s ∷ drop 1 ts → take_as (f s) ts ≡ one f ts
one_seen f ts s e = subst (λ (z : List Sight). take_as (f s) z ≡ one f z) (sym e) refl

found_is : (o : Opening) (found : Result Opening ℕ) (old mid : List Sight) → take_as found old ≡ Ok (o, mid) → found ≡ Ok o
found_is o found [] mid e = absurd cc
found_is o (Ok x) (t ∷ ts) mid e = ap (λ (z : Opening). Ok z) (same_value x o ts mid e)
found_is o (Err k) (t ∷ ts) mid e = absurd cc

-- a bracket that opens in others
pub opened_in : (n : ℕ) (o : Opening) (m : Punctuator) → ((inner : Parser Sight Nothing) → r.after_opening inner o ≡ inner >> one (mark m)) → (HasRoom (r.has_room n) o → r.has_room n ≡ true)
    → (t : Sight) (found : Result Opening ℕ) (old mid new : List Sight) (result : Result Nothing Stop) → old ≡ t ∷ drop 1 old → found ≡ item_of true (r.has_room n) t → IfOk found (HasRoom (r.has_room n))
    → Gives (Ok o) mid (take_as found old) → Gives result new (r.bracketed (n - 1) m mid) → Gives result new (r.item_in n old)
unfolding r.item_in r.item r.bracketed
opened_in zero o m after needs t found old mid new result seen is room took rest =
    absurd (true≢false (sym (needs (subst (λ (z : Result Opening ℕ). IfOk z (HasRoom false)) (found_is o found old mid took) room))))
opened_in (suc k) o m after needs t found old mid new result seen is room took rest =
    gives_then (one (item_of true true)) (r.after_opening (r.contents k)) o old mid new result
    (sym (one_seen (item_of true true) old t seen) ∙ ap (λ (z : Result Opening ℕ). take_as z old) (sym is) ∙ took)
    (subst (λ (q : Parser Sight Nothing). Gives result new (q mid)) (sym (after (r.contents k)))
    (let same : suc k - 1 ≡ k = omega arith in subst (λ (j : ℕ). Gives result new ((r.contents j >> one (mark m)) mid)) same rest))
