-- What comes behind another thing.
use Rattle.std.proofs.Common.{◌≡◌, Result, Ok, Err, IsErrAnd, ap, sym, subst, ◌∙◌}
use Rattle.std.proofs.lemmas.Result.{err_from_is_err_and}
use Rattle.floyd_text.specs.declared.refusal.Halt.{Halt}
use Rattle.floyd_text.specs.declared.refusal.Halt.TheVariants.{Refused, Memory}
use Rattle.floyd_text.specs.declared.refusal.Refusal.{Refusal}
use Rattle.floyd_text.specs.Gives.{Stops, Gives}
use Rattle.floyd_elab_names.specs.declared.tags.Tags.{Tags}
use Rattle.floyd_elab_names.specs.Refusing.{Refusing, and_then, GivesWith}
use Rattle.floyd_elab.specs.declared.file.File.{File}
use Rattle.floyd_elab.specs.Files.{with_tags}

module _ {S A B : Type 0} (k : A → Refusing S B) where
  -- what stops the first stops all
  pub behind_stops : (r : Result (A × S) Refusal) (halt : Halt) → Stops halt r → Stops halt (and_then r k)
  behind_stops r Memory e = tt
  behind_stops r (Refused refusal) e = ap (λ (q : Result (A × S) Refusal). and_then q k) e

  pub behind : (r : Result (A × S) Refusal) (a : A) (s : S) → r ≡ Ok (a, s) → and_then r k ≡ k a s
  behind r a s e = ap (λ (q : Result (A × S) Refusal). and_then q k) e

  -- what stops the second stops all
  pub behind_stops_at : (r : Result (A × S) Refusal) (a : A) (s : S) (halt : Halt) → r ≡ Ok (a, s) → Stops halt (k a s) → Stops halt (and_then r k)
  behind_stops_at r a s halt e stops = subst (λ (q : Result (B × S) Refusal). Stops halt q) (sym (behind r a s e)) stops

  -- what the second gives
  pub behind_gives : {X : Type 0} (view : X → B) (r : Result (A × S) Refusal) (a : A) (s now : S) (answer : Result X Halt) → r ≡ Ok (a, s)
      → GivesWith view answer now (k a s) → GivesWith view answer now (and_then r k)
  behind_gives view r a s now answer e given = subst (λ (q : Result (B × S) Refusal). GivesWith view answer now q) (sym (behind r a s e)) given

-- an answer that is what stopped a call
module _ {X Y : Type 0} (answer : Result X Halt) (halt : Halt) where
  pub stopped_with : {S : Type 0} (view : X → Y) (kept : S) (wanted : Result (Y × S) Refusal) → IsErrAnd answer (λ y. y ≡ halt) → Stops halt wanted → GivesWith view answer kept wanted
  stopped_with view kept wanted is e =
      let p = err_from_is_err_and answer is in
      subst (λ (a : Result X Halt). GivesWith view a kept wanted) (sym (p.1 ∙ ap (λ (h : Halt). Err h) p.2)) e

  pub stopped_by : (view : X → Y) (wanted : Result Y Refusal) → IsErrAnd answer (λ y. y ≡ halt) → Stops halt wanted → Gives view answer wanted
  stopped_by view wanted is e =
      let p = err_from_is_err_and answer is in
      subst (λ (a : Result X Halt). Gives view a wanted) (sym (p.1 ∙ ap (λ (h : Halt). Err h) p.2)) e

-- typing on the way, in the file's scope
pub typing_gives : {A : Type 0} (file : File) (answer : Result A Halt) (tags : Tags) (r : Result (A × Tags) Refusal) → GivesWith (λ a. a) answer tags r
    → GivesWith (λ a. a) answer (record file { tags = tags }) (with_tags file r)
typing_gives file (Ok a) tags r e = ap (with_tags file) e
typing_gives file (Err Memory) tags r e = tt
typing_gives file (Err (Refused refusal)) tags r e = ap (with_tags file) e
