-- A comment that is open at the end of a line stays open where no `*/` follows.
use Rattle.std.proofs.Common.{◌≡◌, ℕ, ◌+◌, ◌∙◌, ◌<◌, ◌≤◌, ◌&&◌, Bool, true, false, cond, eqb, List, [], ◌∷◌, ◌++◌, length, take, drop, get_or, Option, Some, None, option_map, refl, ap, sym, subst, arith}
use Rattle.std.proofs.lemmas.List.{length-append, take-append-le, drop-append-le, length-drop}
use Rattle.floyd_lex.specs.declared.kinds.FileKind.{FileKind}
use Rattle.floyd_lex.specs.declared.lead.Flaw.{Flaw}
use Rattle.floyd_lex.specs.declared.lead.Flaw.TheVariants.{BadByte, OpenComment, BadNumber, TooManyTokens, LongName}
use Rattle.floyd_lex.specs.declared.lead.Lead.TheVariants as lead
use Rattle.floyd_lex.specs.Front.{front, comment_len}
use Rattle.floyd_lex.specs.Cuts.{Cuts, Outcome, ends, skips, takes, is_long, is_full, refuses}
use Rattle.floyd_lex.proofs.CutLemmas.{skip_within, piece_within}
use Rattle.floyd_lex.proofs.GapLemmas.{OpenHere, open_here, open_rest, open_front}

-- no more of a comment than its rest
none_mapped : (o : Option ℕ) → o ≡ None → option_map (λ n. n + 1) o ≡ None
none_mapped o e = ap (option_map (λ (n : ℕ). n + 1)) e

mapped_none : (o : Option ℕ) → option_map (λ n. n + 1) o ≡ None → o ≡ None
mapped_none None e = refl
mapped_none (Some n) e = absurd cc

not_ended : (b : Bool) (o : Option ℕ) → cond b (Some 2) (option_map (λ n. n + 1) o) ≡ None → (b ≡ false) × (o ≡ None)
not_ended true o e = absurd cc
not_ended false o e = (refl, mapped_none o e)

still_open : (b : Bool) (o : Option ℕ) → b ≡ false → o ≡ None → cond b (Some 2) (option_map (λ n. n + 1) o) ≡ None
still_open b o closed e = rw (closed, e) refl

next_byte : (zs ys : List ℕ) → get_or ((zs ++ 10 ∷ []) ++ ys) 0 0 ≡ get_or (zs ++ 10 ∷ []) 0 0
next_byte [] ys = refl
next_byte (z ∷ zs) ys = refl

pub open_stays : (zs ys : List ℕ) → comment_len (zs ++ 10 ∷ []) ≡ None → comment_len ys ≡ None → comment_len ((zs ++ 10 ∷ []) ++ ys) ≡ None
open_stays [] ys h e = none_mapped (comment_len ys) e
open_stays (z ∷ zs) ys h e =
    let parts = not_ended (eqb z 42 && eqb (get_or (zs ++ 10 ∷ []) 0 0) 47) (comment_len (zs ++ 10 ∷ [])) h in
    still_open (eqb z 42 && eqb (get_or ((zs ++ 10 ∷ []) ++ ys) 0 0) 47) (comment_len ((zs ++ 10 ∷ []) ++ ys)) (ap (λ (c : ℕ). eqb z 42 && eqb c 47) (next_byte zs ys) ∙ parts.0) (open_stays zs ys parts.1 e)

-- a comment that begins on a line
on_line : (rs rest : List ℕ) → rs ++ 10 ∷ [] ≡ 47 ∷ 42 ∷ rest → (zs : List ℕ) × (rs ≡ 47 ∷ 42 ∷ zs) × (rest ≡ zs ++ 10 ∷ [])
on_line [] rest e = absurd cc
on_line (r ∷ []) rest e = absurd cc
on_line (r ∷ s ∷ zs) rest e =
    let first : r ≡ 47 = cc in
    let second : s ≡ 42 = cc in
    let others : zs ++ 10 ∷ [] ≡ rest = cc in
    (zs, rw (first, second) refl, sym others)

line_opens : (kind : FileKind) (before rs ys : List ℕ) → OpenHere (rs ++ 10 ∷ []) → comment_len ys ≡ None → front kind before ((rs ++ 10 ∷ []) ++ ys) ≡ lead.Bad OpenComment 0
line_opens kind before rs ys o e =
    let l = on_line rs o.0 o.1 in
    let stays : comment_len ((l.0 ++ 10 ∷ []) ++ ys) ≡ None = open_stays l.0 ys (subst (λ (z : List ℕ). comment_len z ≡ None) l.2 o.2) e in
    rw l.1 (open_front kind before ((l.0 ++ 10 ∷ []) ++ ys) stays)

-- the flaw and where it stands
same_pair : (f : Flaw) (a b : ℕ) → ◌≡◌ {A = Option (Flaw × ℕ)} (Some (f, a)) (Some (OpenComment, b)) → ◌≡◌ {A = Flaw × ℕ} (f, a) (OpenComment, b)
same_pair f a b e = cc

same_flaw : (f : Flaw) (a b : ℕ) → ◌≡◌ {A = Option (Flaw × ℕ)} (Some (f, a)) (Some (OpenComment, b)) → f ≡ OpenComment
same_flaw f a b e = ap (λ (x : Flaw × ℕ). x.0) (same_pair f a b e)

same_there : (f : Flaw) (a b : ℕ) → ◌≡◌ {A = Option (Flaw × ℕ)} (Some (f, a)) (Some (OpenComment, b)) → a ≡ b
same_there f a b e = ap (λ (x : Flaw × ℕ). x.1) (same_pair f a b e)

-- where the comment begins
pub begins_at : (kind : FileKind) (bytes : List ℕ) {left at : ℕ} {o : Outcome} (to : ℕ) → Cuts kind bytes left at o → at ≤ length bytes → o.stop ≡ Some (OpenComment, to) → (front kind (take to bytes) (drop to bytes) ≡ lead.Bad OpenComment 0) × (to ≤ length bytes)
begins_at kind bytes to (ends e) h s = absurd cc
begins_at kind bytes {at = at} to (skips {n = n} e d) h s = begins_at kind bytes to d (skip_within kind bytes at n e h).1 s
begins_at kind bytes {at = at} to (takes {n = n} {t = t} e short d) h s = begins_at kind bytes to d (piece_within kind bytes at n t e h).1 s
begins_at kind bytes {at = at} to (is_long e long) h s = let f = same_flaw LongName at to s in absurd cc
begins_at kind bytes {at = at} to (is_full e) h s = let f = same_flaw TooManyTokens at to s in absurd cc
begins_at kind bytes {at = at} to (refuses {n = n} {flaw = OpenComment} e) h s =
    let none : n ≡ 0 = open_here kind (take at bytes) (drop at bytes) n e in
    let there : at + n ≡ to = same_there OpenComment (at + n) to s in
    let same : at ≡ to = omega (arith, none, there) in
    (subst (λ (m : ℕ). front kind (take m bytes) (drop m bytes) ≡ lead.Bad OpenComment 0) same (subst (λ (m : ℕ). front kind (take at bytes) (drop at bytes) ≡ lead.Bad OpenComment m) none e), omega (arith, same, h))
begins_at kind bytes {at = at} to (refuses {n = n} {flaw = BadByte} e) h s = let f = same_flaw BadByte (at + n) to s in absurd cc
begins_at kind bytes {at = at} to (refuses {n = n} {flaw = BadNumber} e) h s = let f = same_flaw BadNumber (at + n) to s in absurd cc
begins_at kind bytes {at = at} to (refuses {n = n} {flaw = TooManyTokens} e) h s = let f = same_flaw TooManyTokens (at + n) to s in absurd cc
begins_at kind bytes {at = at} to (refuses {n = n} {flaw = LongName} e) h s = let f = same_flaw LongName (at + n) to s in absurd cc

-- the lines so far, and bytes without `*/` behind them
pub front_opens : (kind : FileKind) (zs ys : List ℕ) (to : ℕ) → front kind (take to (zs ++ 10 ∷ [])) (drop to (zs ++ 10 ∷ [])) ≡ lead.Bad OpenComment 0 → to ≤ length (zs ++ 10 ∷ []) → comment_len ys ≡ None → front kind (take to ((zs ++ 10 ∷ []) ++ ys)) (drop to ((zs ++ 10 ∷ []) ++ ys)) ≡ lead.Bad OpenComment 0
front_opens kind zs ys to e h none =
    let o = open_rest kind (take to (zs ++ 10 ∷ [])) (drop to (zs ++ 10 ∷ [])) 0 e in
    let some : 0 < length (drop to (zs ++ 10 ∷ [])) = rw o.1 (omega arith) in
    let within : to ≤ length zs = omega (arith, some, length-drop to (zs ++ 10 ∷ []), length-append zs (10 ∷ []), h) in
    let short = drop-append-le to zs (10 ∷ []) within in
    rw (take-append-le to (zs ++ 10 ∷ []) ys h, drop-append-le to (zs ++ 10 ∷ []) ys h, short)
    (line_opens kind (take to (zs ++ 10 ∷ [])) (drop to zs) ys (subst OpenHere short o) none)
