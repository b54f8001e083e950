use Rattle.std.proofs.Common.{◌≡◌, ℕ, ◌∙◌, true, false, cond, List, take, refl, ap}
use Rattle.std.specs.Str.{IsUtf8, is_utf8}
use Rattle.std.specs.Str.Lossy.{utf8_valid_len}
use Rattle.std.proofs.lemmas.Str.{is_utf8-from_IsUtf8, IsUtf8-from_is_utf8}
use Rattle.floyd_lex.specs.declared.kinds.FileKind.{FileKind}
use Rattle.floyd_lex.specs.declared.kinds.FileKind.TheVariants.{Source, Spec, Script}
use Rattle.floyd_lex.specs.declared.lead.Lead.TheVariants.{Skip, Bad}
use Rattle.floyd_lex.specs.declared.lead.Flaw.TheVariants.{BadByte}
use Rattle.floyd_lex.specs.Front.{comment_of}
use Rattle.floyd_lex.proofs.front.comment_of.Goals as goal

readable : (kind : FileKind) (n : ℕ) (bytes : List ℕ) → (kind ≡ Source → ⊥) → comment_of kind n bytes ≡ cond (is_utf8 (take n bytes)) (Skip n) (Bad BadByte (utf8_valid_len (take n bytes)))
readable Source n bytes h = absurd (h refl)
readable Spec n bytes h = refl
readable Script n bytes h = refl

not_utf8 : (bytes : List ℕ) → (IsUtf8 bytes → ⊥) → is_utf8 bytes ≡ false
not_utf8 bytes h = elim (is_utf8 bytes) as (λ v. (v ≡ true → IsUtf8 bytes) → v ≡ false) [ true ↦ λ u. absurd (h (u refl)) | false ↦ λ u. refl ] (IsUtf8-from_is_utf8 bytes)

pub returns-in-Ok : goal.returns-in-Ok
returns-in-Ok c = rw (readable c.args.kind c.args.n c.args.bytes.now c.in_default.not-Source, is_utf8-from_IsUtf8 _ c.in-Ok.ensures.cases.1) refl

pub returns-in-Err : goal.returns-in-Err
returns-in-Err c = rw (readable c.args.kind c.args.n c.args.bytes.now c.in_default.not-Source, not_utf8 _ c.in-Err.ensures.cases.0) (ap (λ (k : ℕ). Bad BadByte k) (c.valid_up_to.ensures ∙ c.in-Err.ensures.valid_len))
