-- A script that was read has no more commands than a file has tokens.
use Rattle.std.proofs.Common.{◌≡◌, ℕ, ◌≤◌, suc, List, [], ◌∷◌, map, length, Option, Some, None, Result, Ok, Err, ap, arith}
use Rattle.std.proofs.lemmas.List.{length-map}
use Rattle.floyd_text.specs.declared.place.Place.{Place}
use Rattle.floyd_text.specs.declared.refusal.Refusal.{Refusal}
use Rattle.floyd_text.specs.Place.{place_at}
use Rattle.floyd_lex.specs.declared.kinds.FileKind.{FileKind}
use Rattle.floyd_lex.specs.declared.kinds.FileKind.TheVariants as kind
use Rattle.floyd_lex.specs.declared.lead.Flaw.{Flaw}
use Rattle.floyd_lex.specs.Cuts.{Cuts, Outcome, ends, skips, takes, is_long, is_full, refuses, IsCut, answer_at}
use Rattle.floyd_lex.specs.Token.{Token, TokenList, placed, token_of, tokens_in}
use Rattle.floyd_stub_goal.specs.declared.script.Command.{Command}
use Rattle.floyd_stub_goal.specs.declared.script.Proof.{Proof}
use Rattle.floyd_check_stub.specs.Forms.{IsScript, AreCommands}
use Rattle.floyd_check.specs.FileReading.{Follows, ReadsTokens, ReadsFile}

-- no file has more tokens than may be left
pieces_few : (kind : FileKind) (bytes : List ℕ) {left at : ℕ} {o : Outcome} → Cuts kind bytes left at o → length o.pieces ≤ left
pieces_few kind bytes (ends e) = omega arith
pieces_few kind bytes (skips e d) = pieces_few kind bytes d
pieces_few kind bytes {left = suc left} (takes e short d) = omega (arith, pieces_few kind bytes d)
pieces_few kind bytes (is_long e long) = omega arith
pieces_few kind bytes (is_full e) = omega arith
pieces_few kind bytes (refuses e) = omega arith

tokens_few : (kind : FileKind) (file : ℕ) (bytes : List ℕ) (list : TokenList) → IsCut kind file bytes (Ok list) → length list.items ≤ 1000000
tokens_few kind file bytes list cut = by_stop cut.outcome.stop cut.same
  where
    by_stop : (stop : Option (Flaw × ℕ)) → Ok list ≡ answer_at file bytes cut.outcome.pieces stop → length list.items ≤ 1000000
    by_stop None same =
        let items = map (placed (place_at file bytes)) cut.outcome.pieces in
        let is : list ≡ record { file = file; items = items } = cc in
        omega (arith, ap (λ (l : TokenList). length l.items) is, length-map cut.outcome.pieces (placed (place_at file bytes)), pieces_few kind bytes cut.cut)
    by_stop (Some s) same = absurd (cc)

commands_few : (ts : List Token) (es : List Command) (end : Place) → AreCommands ts es end → length es ≤ length ts
commands_few [] es end h = absurd h
commands_few (q ∷ ts) [] end h = omega arith
commands_few (c ∷ []) (e ∷ es) end h = absurd h
commands_few (c ∷ s ∷ ts) (e ∷ es) end h = omega (arith, commands_few ts es end h.3)

script_few : (ts : List Token) (s : Proof) → IsScript ts s → length s.commands ≤ length ts
script_few [] s h = absurd h
script_few (p ∷ []) s h = absurd h
script_few (p ∷ n ∷ ts) s h = omega (arith, commands_few ts s.commands s.end h.3)

pub file_few : (bytes : List ℕ) (s : Proof) → ReadsFile IsScript kind.Script 3 bytes (Ok s) → length s.commands ≤ 1000000
file_few bytes s h = by_cut h.first h.is_first h.next
  where
    by_cut : (r : Result TokenList Refusal) → IsCut kind.Script 3 bytes r → Follows (λ list. ReadsTokens IsScript 3 (tokens_in bytes list)) r (Ok s) → length s.commands ≤ 1000000
    by_cut (Ok list) cut read = omega (arith, script_few (tokens_in bytes list) s read, length-map list.items (token_of bytes), tokens_few kind.Script 3 bytes list cut)
    by_cut (Err r) cut read = absurd (cc)
