-- A conjunction is built from its last formula on.
use Rattle.std.proofs.Common.{◌≡◌, Bool, true, false, cond, not, List, [], ◌∷◌, ◌++◌, Option, Some, None, refl, ◌∙◌, ap}
use Rattle.std.proofs.lemmas.List.{append-nil}
use Rattle.floyd_stub_assert.specs.declared.term.Term.{Term, Vint}
use Rattle.floyd_stub_assert.specs.declared.term.Term.TheBlock.{hidden-the_row-Term-0, shape-the_row-Term-0}
use denote.Hole.Carrier.{hidden}
use Rattle.floyd_stub_assert.specs.declared.formula.Formula.{Formula}
use Rattle.floyd_stub_goal.specs.Sides.{is_vint, is_dropped, kept, joined, conjunction}

pub is_vint_vint : (t : Term) → is_vint (Vint t) ≡ true
unfolding hidden-the_row-Term-0 shape-the_row-Term-0 hidden
is_vint_vint t = refl

-- formulas before those of a conjunction, if any
abbrev pub onto : List Formula → Option Formula → Option Formula
onto [] o = o
onto (f ∷ fs) o = Some (joined f (onto fs o))

pub onto_none : (fs : List Formula) → onto fs None ≡ conjunction fs
onto_none [] = refl
onto_none (f ∷ fs) = ap (λ o. Some (joined f o)) (onto_none fs)

onto_last : (fs : List Formula) (f : Formula) (o : Option Formula) → onto (fs ++ f ∷ []) o ≡ onto fs (Some (joined f o))
onto_last [] f o = refl
onto_last (g ∷ fs) f o = ap (λ p. Some (joined g p)) (onto_last fs f o)

cond_append : (b : Bool) (g : Formula) (xs ys : List Formula) → cond b (g ∷ (xs ++ ys)) (xs ++ ys) ≡ cond b (g ∷ xs) xs ++ ys
cond_append true g xs ys = refl
cond_append false g xs ys = refl

kept_append : (fs gs : List Formula) → kept (fs ++ gs) ≡ kept fs ++ kept gs
kept_append [] gs = refl
kept_append (f ∷ fs) gs =
    ap (λ rs. cond (not (is_dropped f)) (f ∷ rs) rs) (kept_append fs gs) ∙ cond_append (not (is_dropped f)) f (kept fs) (kept gs)

kept_one : (f : Formula) (b : Bool) → is_dropped f ≡ b → kept (f ∷ []) ≡ cond (not b) (f ∷ []) []
kept_one f b e = ap (λ d. cond (not d) (f ∷ []) []) e

-- the last formula is dropped
pub onto_dropped : (fs : List Formula) (f : Formula) (o : Option Formula) → is_dropped f ≡ true → onto (kept (fs ++ f ∷ [])) o ≡ onto (kept fs) o
onto_dropped fs f o e = ap (λ rs. onto rs o) (kept_append fs (f ∷ []) ∙ ap (λ rs. kept fs ++ rs) (kept_one f true e) ∙ append-nil (kept fs))

-- the last formula is kept
pub onto_kept : (fs : List Formula) (f : Formula) (o : Option Formula) → is_dropped f ≡ false → onto (kept (fs ++ f ∷ [])) o ≡ onto (kept fs) (Some (joined f o))
onto_kept fs f o e = ap (λ rs. onto rs o) (kept_append fs (f ∷ []) ∙ ap (λ rs. kept fs ++ rs) (kept_one f false e)) ∙ onto_last (kept fs) f o
