-- Phrases of which each front reads where the text is cut off behind it.
use Rattle.std.proofs.Common.{◌≡◌, ℕ, zero, suc, ◌+◌, inl, inr, List, [], ◌∷◌, ◌++◌, replicate, Result, Ok, refl, sym, ◌∙◌, ap, subst, append_assoc, append-nil, arith}
use Rattle.floyd_lex.specs.Token.{Token}
use Rattle.floyd_grammar.specs.Phrase.{Phrase, Folded, none, then}
use Rattle.floyd_grammar.specs.Phrase as phrase
use Rattle.floyd_termread_tokens.specs.Tokens.{cut}

-- the end of the text so many times
abbrev pub ends : ℕ → List Token
ends n = replicate n cut

pub ends_add : (n m : ℕ) → ends n ++ ends m ≡ ends (n + m)
ends_add zero m = ap ends (omega arith)
ends_add (suc n) m =
    let more : suc (n + m) ≡ suc n + m = omega arith in
    ap (λ (l : List Token). cut ∷ l) (ends_add n m) ∙ ap ends more

-- the tokens read as something, with the end of the text behind them
abbrev pub Filled : {A : Type 0} → Phrase Token A → List Token → Type 0
Filled {A} g u = (n : ℕ) × (x : A) × g.reads (u ++ ends n) x

-- each front but the empty one does
abbrev pub More : {A : Type 0} → Phrase Token A → Type 0
More g = (t : Token) (u : List Token) → g.front (t ∷ u) → Filled g (t ∷ u)

-- each front does
pub record Fills {A : Type 0} (g : Phrase Token A) : Type 0 where
  pub nothing : Filled g []
  pub more : More g

abbrev pub Value : {A : Type 0} → Phrase Token A → A → Type 0
Value g x = (u : List Token) × g.reads u x

pub filled_at : {A : Type 0} (g : Phrase Token A) → Fills g → (v : List Token) → g.front v → Filled g v
filled_at g F [] d = F.nothing
filled_at g F (t ∷ v) d = F.more t v d

-- one token
pub more_one : {A : Type 0} (f : Token → Result A ℕ) → More (phrase.one f)
more_one f t u (inl e) = absurd cc
more_one f t u (inr d) = (0, d.1, (d.0, append-nil (t ∷ u) ∙ d.2, d.3))

pub fills_one : {A : Type 0} (f : Token → Result A ℕ) (a : A) → f cut ≡ Ok a → Fills (phrase.one f)
fills_one f a e = record { nothing = (1, a, (cut, refl, e)); more = more_one f }

-- nothing
pub fills_pure : {A : Type 0} (a : A) → Fills (phrase.pure {T = Token} a)
fills_pure a = record { nothing = (0, a, (refl, refl)); more = λ t u d. absurd cc }

-- one after the other
module _ {A B : Type 0} (g : Phrase Token A) (h : A → Phrase Token B) where
  abbrev both : Phrase Token B
  both = phrase.◌>>=◌ g h

  after : (u v : List Token) (x : A) → g.reads u x → Filled (h x) v → Filled both (u ++ v)
  after u v x d e = (e.0, e.1, (u, v ++ ends e.0, x, append_assoc u v (ends e.0), d, e.2))

  filled_then : (u : List Token) → Filled g u → ((x : A) → Value g x → Filled (h x) []) → Filled both u
  filled_then u d H =
      let e = H d.1 (u ++ ends d.0, d.2) in
      (d.0 + e.0, e.1, (u ++ ends d.0, ends e.0, d.1, ap (λ (l : List Token). u ++ l) (sym (ends_add d.0 e.0)) ∙ sym (append_assoc u (ends d.0) (ends e.0)), d.2, e.2))

  pub more_then : More g → ((x : A) → Value g x → Fills (h x)) → More both
  more_then G H t u (inl d) = filled_then (t ∷ u) (G t u d) (λ x r. (H x r).nothing)
  more_then G H t u (inr d) = subst (Filled both) (sym d.3) (after d.0 d.1 d.2 d.4 (filled_at (h d.2) (H d.2 (d.0, d.4)) d.1 d.5))

  pub fills_then : Fills g → ((x : A) → Value g x → Fills (h x)) → Fills both
  fills_then G H = record { nothing = filled_then [] G.nothing (λ x r. (H x r).nothing); more = more_then G.more H }

-- either
pub more_or : {A : Type 0} (g h : Phrase Token A) → More g → More h → More (phrase.◌or◌ g h)
more_or g h G H t u (inl d) = let e = G t u d in (e.0, e.1, inl e.2)
more_or g h G H t u (inr d) = let e = H t u d in (e.0, e.1, inr e.2)

pub fills_or : {A : Type 0} (g h : Phrase Token A) → More g → Fills h → Fills (phrase.◌or◌ g h)
fills_or g h G H = record { nothing = (H.nothing.0, H.nothing.1, inr H.nothing.2); more = more_or g h G H.more }

-- any number of them
module _ {A B : Type 0} (join : A → B → A) (item : A → Phrase Token B) (start : A) where
  abbrev all : Phrase Token A
  all = phrase.folded join item start

  abbrev Items : List Token → A → Type 0
  Items = Folded join (λ (x : A). (item x).reads) start

  pub one_more : (u v : List Token) (x : A) → Items u x → Filled (item x) v → Filled all (u ++ v)
  one_more u v x d e = (e.0, join x e.1, subst (λ (l : List Token). Items l (join x e.1)) (sym (append_assoc u v (ends e.0))) (then d e.2))

  items_at : ((x : A) → More (item x)) → (u v : List Token) (x : A) → Items u x → (item x).front v → Filled all (u ++ v)
  items_at M u [] x d f = (0, x, subst (λ (l : List Token). Items l x) (sym (append-nil (u ++ []) ∙ append-nil u)) d)
  items_at M u (t ∷ v) x d f = one_more u (t ∷ v) x d (M x t v f)

  pub fills_folded : ((x : A) → More (item x)) → Fills all
  fills_folded M = record {
    nothing = (0, start, none);
    more = λ t u d. subst (Filled all) (sym d.3) (items_at M d.0 d.1 d.2 d.4 d.5);
  }
