-- What the tokens of a script are read as.
use Rattle.std.proofs.Common.{◌≡◌, ℕ, zero, suc, ◌-◌, true, false, List, [], ◌∷◌, length, drop, map, Result, Ok, Err, refl, sym, ◌∙◌, ap, true≢false}
use Rattle.std.specs.Prelude.{codes}
use Rattle.floyd_text.specs.declared.refusal.Refusal.{Refusal}
use Rattle.floyd_text.specs.declared.refusal.Shown.TheVariants.{Nothing}
use Rattle.floyd_text.specs.declared.code.Code.TheVariants as c
use Rattle.floyd_text.specs.Place.{place_at}
use Rattle.floyd_text.specs.Refusals.{refusal_at}
use Rattle.floyd_lex.specs.Token.{Token, TokenList, Lexeme, tokens_in}
use Rattle.floyd_grammar.specs.declared.stop.Fault.{Fault}
use Rattle.floyd_grammar.specs.ParseClauses.{leads, ended_read}
use Rattle.floyd_grammar.proofs.OneFault.{one_refusal}
use Rattle.floyd_grammar.proofs.Whole.{all_found, all_refused, unique, prefix_front}
use Rattle.floyd_script_trees.specs.declared.trees.Proof.{Proof}
use Rattle.floyd_script_tokens.specs.Sights.{Sight, sights_in, sights_of, is_word}
use Rattle.floyd_script_arguments.proofs.PhraseExact.{no}
use Rattle.floyd_script.specs.Reading.{code_of, shown_of, refusal_before, refusal_behind, refusal_of, IsRead, HasOneReading, BeginningsAreFronts}
use Rattle.floyd_script.specs.Scripts.{script}
use Rattle.floyd_script.specs.ScriptClauses as r
use Rattle.floyd_script.proofs.ScriptExact.{script_exact}

pub none_leads : (ts : List Sight) → leads (λ _. true) ts ≡ false → ts ≡ []
none_leads [] e = refl
none_leads (t ∷ ts) e = absurd (true≢false e)

-- the tokens behind so many
drop_in : (count at : ℕ) (ts : List Token) → drop at (sights_in count ts) ≡ sights_in count (drop at ts)
drop_in count zero ts = refl
drop_in count (suc at) [] = refl
drop_in count (suc at) (t ∷ ts) = drop_in count at ts

count_in : (count : ℕ) (ts : List Token) → length (sights_in count ts) ≡ length ts
count_in count [] = refl
count_in count (t ∷ ts) = ap (λ (n : ℕ). suc n) (count_in count ts)

count_mapped : (f : Lexeme → Token) (xs : List Lexeme) → length (map f xs) ≡ length xs
count_mapped f [] = refl
count_mapped f (x ∷ xs) = ap (λ (n : ℕ). suc n) (count_mapped f xs)

module _ (file : ℕ) (bytes : List ℕ) (list : TokenList) (fault : Fault) where
  abbrev number : ℕ
  number = length list.items - fault.left

  counted : length (sights_of bytes list) ≡ length list.items
  counted = count_in (length list.items) (tokens_in bytes list) ∙ count_mapped _ list.items

  refusal_is : refusal_of file bytes (sights_of bytes list) fault ≡ refusal_before file bytes (sights_in (length list.items) (drop number (tokens_in bytes list))) fault.cause
  refusal_is =
      ap (λ (n : ℕ). refusal_behind file bytes (sights_of bytes list) (n - fault.left) fault.cause) counted
      ∙ ap (λ (ss : List Sight). refusal_before file bytes ss fault.cause) (drop_in (length list.items) number (tokens_in bytes list))

  pub refusal_seen : (t : Token) (left : List Token) → drop number (tokens_in bytes list) ≡ t ∷ left → refusal_of file bytes (sights_of bytes list) fault ≡ refusal_at (code_of fault.cause) t.place (shown_of fault.cause t.text)
  refusal_seen t left e = refusal_is ∙ ap (λ (ts : List Token). refusal_before file bytes (sights_in (length list.items) ts) fault.cause) e

  pub refusal_end : drop number (tokens_in bytes list) ≡ [] → refusal_of file bytes (sights_of bytes list) fault ≡ refusal_at c.UnexpectedInScript (place_at file bytes (length bytes)) Nothing
  refusal_end e = refusal_is ∙ ap (λ (ts : List Token). refusal_before file bytes (sights_in (length list.items) ts) fault.cause) e

module _ (file : ℕ) (bytes : List ℕ) (list : TokenList) where
  abbrev ss : List Sight
  ss = sights_of bytes list

  -- what is answered
  pub read_ok : (proofs : List Proof) (left : List Sight) → r.script bytes list ss ≡ Ok (proofs, left) → left ≡ [] → IsRead file bytes list (Ok proofs)
  read_ok proofs left e none =
      all_found (r.script bytes list) (script bytes list) (is_word (codes "PROOF")) no (λ x t. true) (script_exact bytes list) ss proofs
      (ap ended_read e ∙ ap (λ (z : List Sight). ended_read (let o : Result (List Proof × List Sight) Fault = Ok (proofs, z) in o)) none)

  pub read_err : (fault : Fault) (refusal : Refusal) → r.script bytes list ss ≡ Err fault → refusal ≡ refusal_of file bytes ss fault → IsRead file bytes list (Err refusal)
  read_err fault refusal e same = (fault, all_refused (r.script bytes list) (script bytes list) (is_word (codes "PROOF")) no (λ x t. true) (script_exact bytes list) ss fault (ap ended_read e), same)

  same_reading : (a b : Result (List Proof) Refusal) → IsRead file bytes list a → IsRead file bytes list b → a ≡ b
  same_reading (Ok x) (Ok y) d e = ap (λ (z : List Proof). Ok z) (unique (r.script bytes list) (script bytes list) (is_word (codes "PROOF")) no (λ x t. true) (script_exact bytes list) ss x y d e)
  same_reading (Ok x) (Err q) d e = absurd (e.1.no_reading x d)
  same_reading (Err p) (Ok y) d e = absurd (d.1.no_reading y e)
  same_reading (Err p) (Err q) d e =
      ap (λ (z : Refusal). Err z) (d.2 ∙ one_refusal (script bytes list) ss (λ n cause. refusal_behind file bytes ss n cause) d.0 e.0 d.1 e.1 ∙ sym e.2)

pub one_reading : HasOneReading
one_reading file bytes list a b d e = same_reading file bytes list a b d e

pub fronts : BeginningsAreFronts
fronts bytes list u v proofs d = prefix_front (r.script bytes list) (script bytes list) (is_word (codes "PROOF")) no (λ x t. true) (script_exact bytes list) u v proofs d
