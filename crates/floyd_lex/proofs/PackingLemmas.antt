-- What stands in memory keeps its meaning where more comes behind it.
use Rattle.std.proofs.Common.{◌≡◌, ℕ, List, [], ◌∷◌, ◌++◌, zero, suc, take, refl, ap, sym, subst, arith}
use Rattle.std.proofs.lemmas.List.{get_or_append_left, map-append, length-append}
use Rattle.floyd_lex.specs.declared.kinds.TokenKind.TheVariants as k
use Rattle.floyd_lex.specs.declared.list.Form.{Form}
use Rattle.floyd_lex.specs.declared.list.Form.TheVariants.{Name, Keyword, Punctuator, Short, Long, StringLiteral}
use Rattle.floyd_lex.specs.declared.list.Packed.{Packed}
use Rattle.floyd_lex.specs.PackingClauses.{kind_of, lexeme_of, lexemes_of, IsWithin, AreWithin, Grows}

module _ (file : ℕ) (long more : List ℕ) where
  kind_of-more : (f : Form) (n : ℕ) → IsWithin long f n → kind_of (long ++ more) f n ≡ kind_of long f n
  kind_of-more Name n w = refl
  kind_of-more (Keyword x) n w = refl
  kind_of-more (Punctuator x) n w = refl
  kind_of-more (Short t) n w = refl
  kind_of-more (Long t) n w = ap (λ (v : ℕ). k.Literal t v) (get_or_append_left long more 0 n w)
  kind_of-more StringLiteral n w = refl

  IsWithin-more : (f : Form) (n : ℕ) → IsWithin long f n → IsWithin (long ++ more) f n
  IsWithin-more Name n w = tt
  IsWithin-more (Keyword x) n w = tt
  IsWithin-more (Punctuator x) n w = tt
  IsWithin-more (Short t) n w = tt
  IsWithin-more (Long t) n w = omega (arith, w, length-append long more)
  IsWithin-more StringLiteral n w = tt

  lexemes_of-more : (ps : List Packed) → AreWithin long ps → lexemes_of file (long ++ more) ps ≡ lexemes_of file long ps
  lexemes_of-more [] w = refl
  lexemes_of-more (p ∷ ps) w = rw (kind_of-more p.form p.value w.0, lexemes_of-more ps w.1) refl

  AreWithin-more : (ps : List Packed) → AreWithin long ps → AreWithin (long ++ more) ps
  AreWithin-more [] w = tt
  AreWithin-more (p ∷ ps) w = (IsWithin-more p.form p.value w.0, AreWithin-more ps w.1)

-- where the list of long values grew
pub lexemes_of-grows : (file : ℕ) (old new : List ℕ) (ps : List Packed) → Grows old new → AreWithin old ps → lexemes_of file new ps ≡ lexemes_of file old ps
lexemes_of-grows file old new ps g w = subst (λ (z : List ℕ). lexemes_of file z ps ≡ lexemes_of file old ps) (sym g.1) (lexemes_of-more file old g.0 ps w)

pub AreWithin-grows : (old new : List ℕ) (ps : List Packed) → Grows old new → AreWithin old ps → AreWithin new ps
AreWithin-grows old new ps g w = subst (λ (z : List ℕ). AreWithin z ps) (sym g.1) (AreWithin-more 0 old g.0 ps w)

pub AreWithin-push : (long : List ℕ) (ps : List Packed) (p : Packed) → AreWithin long ps → IsWithin long p.form p.value → AreWithin long (ps ++ p ∷ [])
AreWithin-push long [] p w v = (v, tt)
AreWithin-push long (q ∷ ps) p w v = (w.0, AreWithin-push long ps p w.1 v)

pub lexemes_of-push : (file : ℕ) (long : List ℕ) (ps : List Packed) (p : Packed) → lexemes_of file long (ps ++ p ∷ []) ≡ lexemes_of file long ps ++ lexeme_of file long p ∷ []
lexemes_of-push file long ps p = map-append (lexeme_of file long) ps (p ∷ [])

-- where some are left out at the end
pub AreWithin-take : (long : List ℕ) (n : ℕ) (ps : List Packed) → AreWithin long ps → AreWithin long (take n ps)
AreWithin-take long zero ps w = tt
AreWithin-take long (suc n) [] w = tt
AreWithin-take long (suc n) (p ∷ ps) w = (w.0, AreWithin-take long n ps w.1)

pub lexemes_of-take : (file : ℕ) (long : List ℕ) (n : ℕ) (ps : List Packed) → lexemes_of file long (take n ps) ≡ take n (lexemes_of file long ps)
lexemes_of-take file long zero ps = refl
lexemes_of-take file long (suc n) [] = refl
lexemes_of-take file long (suc n) (p ∷ ps) = ap (λ xs. lexeme_of file long p ∷ xs) (lexemes_of-take file long n ps)
