-- Where the side formulas that are kept are true, all are.
use Rattle.std.proofs.Common.{◌≡◌, ◌%◌, ◌^◌, Bool, true, false, cond, not, ◌&&◌, List, [], ◌∷◌, ◌++◌, Option, Some, None, refl, ap, lit<}
use Rattle.std.proofs.Math.Nat.{mod-lt}
use Rattle.std.proofs.lemmas.Bool.{lt-ltb, eqb-true}
use Rattle.floyd_int.specs.declared.kinds.IntKind.TheVariants.{I8, U8, I16, U16, I32, U32, I64, U64}
use Rattle.floyd_int.specs.declared.kinds.Value.TheVariants.{Vint as VintValue}
use Rattle.floyd_ctypes.specs.declared.ctype.CType.{CType, Void, Int, Pointer', Array', Struct, Function'}
use Rattle.floyd_stub_assert.specs.declared.term.Term.{Term, Number, Vint' as Vint_term, more_of-Term, end_of-Term}
use Rattle.floyd_stub_assert.specs.declared.formula.Formula.{Formula, True, False, Equal, Hasty, And, And'}
use Rattle.floyd_stub_assert.specs.declared.formula.Formula.TheBlock.{hidden-the_row-Formula-0, shape-the_row-Formula-0}
use denote.Hole.Carrier.{hidden}
use Rattle.floyd_stub_assert.specs.Terms.{same_term}
use Rattle.floyd_stub_assert.specs.Data.{Env, Num, Val, value, number_of}
use Rattle.floyd_stub_assert.specs.Truth.{IsOfType, Truth, AllTrue}
use Rattle.floyd_stub_goal.specs.Sides.{is_word, is_vint, is_dropped, kept, joined, conjunction}

-- the same terms stand for the same
same_value : (x : Env) (a b : Term) → same_term a b ≡ true → value x a ≡ value x b
same_value x (Number m) (Number n) e = ap Num (eqb-true m n e)
same_value x (Number m) (Vint_term q (more_of-Term b end_of-Term)) e = cc
same_value x (Vint_term p (more_of-Term a end_of-Term)) (Number n) e = cc
same_value x (Vint_term p (more_of-Term a end_of-Term)) (Vint_term q (more_of-Term b end_of-Term)) e = ap (λ d. Val (VintValue (number_of d % 2 ^ 32))) (same_value x a b e)

word_typed : (x : Env) (t : CType) (a : Term) → is_word t ≡ true → is_vint a ≡ true → IsOfType t (value x a)
word_typed x Void a e f = cc
word_typed x (Int I8) a e f = cc
word_typed x (Int U8) a e f = cc
word_typed x (Int I16) a e f = cc
word_typed x (Int U16) a e f = cc
word_typed x (Int I32) (Number n) e f = cc
word_typed x (Int I32) (Vint_term p (more_of-Term a end_of-Term)) e f = lt-ltb (number_of (value x a) % 2 ^ 32) (2 ^ 32) (mod-lt (number_of (value x a)) {m = 2 ^ 32} (lit< tt))
word_typed x (Int U32) (Number n) e f = cc
word_typed x (Int U32) (Vint_term p (more_of-Term a end_of-Term)) e f = lt-ltb (number_of (value x a) % 2 ^ 32) (2 ^ 32) (mod-lt (number_of (value x a)) {m = 2 ^ 32} (lit< tt))
word_typed x (Int I64) a e f = cc
word_typed x (Int U64) a e f = cc
word_typed x (Pointer' p to) a e f = cc
word_typed x (Array' p of n) a e f = cc
word_typed x (Struct tag) a e f = cc
word_typed x (Function' s ps p r) a e f = cc

both : (a b : Bool) → (a && b) ≡ true → (a ≡ true) × (b ≡ true)
both true b e = (refl, e)
both false b e = cc

-- what is dropped is true
pub dropped_true : (x : Env) (f : Formula) → is_dropped f ≡ true → Truth x f
dropped_true x True e = cc
dropped_true x False e = cc
dropped_true x (Equal a b) e = same_value x a b e
dropped_true x (Hasty t a) e = let p = both (is_word t) (is_vint a) e in word_typed x t a p.0 p.1
dropped_true x (And' p f q g) e = cc

kept_true_if : (x : Env) (f : Formula) (gs : List Formula) (b : Bool) → is_dropped f ≡ b → AllTrue x (cond (not b) (f ∷ gs) gs) → Truth x f × AllTrue x gs
kept_true_if x f gs true e p = (dropped_true x f e, p)
kept_true_if x f gs false e p = p

-- where all that are kept are true, all are
pub kept_true : (x : Env) (fs : List Formula) → AllTrue x (kept fs) → AllTrue x fs
kept_true x [] p = tt
kept_true x (f ∷ fs) p =
    let q = kept_true_if x f (kept fs) (is_dropped f) refl p in
    (q.0, kept_true x fs q.1)

truth_and : (x : Env) (f g : Formula) → Truth x (And f g) → Truth x f × Truth x g
unfolding hidden-the_row-Formula-0 shape-the_row-Formula-0 hidden
truth_and x f g p = p

-- a formula, if any, is true
abbrev pub TruthOf : Env → Option Formula → Type 0
TruthOf x None = Unit {0}
TruthOf x (Some f) = Truth x f

joined_true : (x : Env) (f : Formula) (o : Option Formula) → Truth x (joined f o) → Truth x f × TruthOf x o
joined_true x f None p = (p, tt)
joined_true x f (Some g) p = truth_and x f g p

-- where the conjunction is true, all are
pub conjunction_true : (x : Env) (fs : List Formula) → TruthOf x (conjunction fs) → AllTrue x fs
conjunction_true x [] p = tt
conjunction_true x (f ∷ fs) p =
    let q = joined_true x f (conjunction fs) p in
    (q.0, conjunction_true x fs q.1)

pub all_true_append : (x : Env) (fs gs : List Formula) → AllTrue x fs → AllTrue x gs → AllTrue x (fs ++ gs)
all_true_append x [] gs p q = q
all_true_append x (f ∷ fs) gs p q = (p.0, all_true_append x fs gs p.1 q)

pub all_true_front : (x : Env) (fs gs : List Formula) → AllTrue x (fs ++ gs) → AllTrue x fs × AllTrue x gs
all_true_front x [] gs p = (tt, p)
all_true_front x (f ∷ fs) gs p =
    let q = all_true_front x fs gs p.1 in
    ((p.0, q.0), q.1)
