-- The table of the laws: the sorts of the arguments, the premises in order, and the conclusion. `S` stands for any sort.
use Rattle.std.specs.Prelude.{List, [], ◌∷◌, ℤ, pos}
use Rattle.floyd_tree_sorts.specs.declared.heads.Width.TheVariants.{Bits32}
use Rattle.floyd_tree_sorts.specs.declared.operators.Operator.{Operator}
use Rattle.floyd_tree_sorts.specs.declared.operators.Operator.TheVariants as o
use Rattle.floyd_tree_sorts.specs.declared.operators.RowSort.{RowSort}
use Rattle.floyd_tree_sorts.specs.declared.operators.RowSort.TheVariants.{Z, Val, S, ListZ, ListS}
use Rattle.floyd_listlaw.specs.declared.heads.LawForm.TheVariants as f
use Rattle.floyd_listlaw.specs.declared.heads.LawHead.TheVariants as h
use Rattle.floyd_listlaw.specs.declared.list_law.ListLaw.{ListLaw}
use Rattle.floyd_listlaw.specs.declared.list_law.ListLaw.TheVariants as l
use Rattle.floyd_listlaw.specs.Terms.{LawTerm, Argument, Node, NoTerm, Terms, LawFormula, Claim, NoClaim, Claims}

pub record Row : Type 0 where
  pub arguments : List RowSort
  pub premises : List LawFormula
  pub conclusion : LawFormula

-- what the terms and formulas are made of
abbrev pub number : ℤ → LawTerm
number z = Node (h.Literal z) NoTerm

abbrev pub nil : RowSort → LawTerm
nil item = Node (h.Nil item) NoTerm

abbrev pub of_none : Operator → LawTerm
of_none operator = Node (h.Operator operator) NoTerm

abbrev pub of_one : Operator → LawTerm → LawTerm
of_one operator a = Node (h.Operator operator) (Terms a NoTerm)

abbrev pub of_two : Operator → LawTerm → LawTerm → LawTerm
of_two operator a b = Node (h.Operator operator) (Terms a (Terms b NoTerm))

abbrev pub of_three : Operator → LawTerm → LawTerm → LawTerm → LawTerm
of_three operator a b c = Node (h.Operator operator) (Terms a (Terms b (Terms c NoTerm)))

abbrev pub plus : LawTerm → LawTerm → LawTerm
plus a b = of_two o.Add a b

abbrev pub minus : LawTerm → LawTerm → LawTerm
minus a b = of_two o.Sub a b

abbrev pub next : LawTerm → LawTerm
next a = plus a (number (pos 1))

abbrev pub len : LawTerm → LawTerm
len a = of_one o.Len a

abbrev pub rev : LawTerm → LawTerm
rev a = of_one o.Rev a

abbrev pub sum : LawTerm → LawTerm
sum a = of_one o.Sum a

abbrev pub vint : LawTerm → LawTerm
vint a = of_one o.Vint a

abbrev pub vints : LawTerm → LawTerm
vints a = of_one o.Vints a

abbrev pub nullval : LawTerm
nullval = of_none o.Nullval

abbrev pub signed32 : LawTerm → LawTerm
signed32 a = Node (h.Signed Bits32) (Terms a NoTerm)

abbrev pub unsigned32 : LawTerm → LawTerm
unsigned32 a = Node (h.Unsigned Bits32) (Terms a NoTerm)

abbrev pub nth : LawTerm → LawTerm → LawTerm
nth i a = of_two o.Nth i a

abbrev pub cons : LawTerm → LawTerm → LawTerm
cons x a = of_two o.Cons x a

abbrev pub append : LawTerm → LawTerm → LawTerm
append a b = of_two o.Append a b

abbrev pub single : LawTerm → LawTerm
single x = cons x (nil S)

abbrev pub upd : LawTerm → LawTerm → LawTerm → LawTerm
upd i x a = of_three o.Upd i x a

abbrev pub sublist : LawTerm → LawTerm → LawTerm → LawTerm
sublist lo hi a = of_three o.Sublist lo hi a

-- how a row is written: the sorts of its arguments, and with the arguments what it says
pub record Statement : Type 0 where
  pub premises : List LawFormula
  pub conclusion : LawFormula

abbrev pub always : LawFormula → Statement
always conclusion = record { premises = []; conclusion = conclusion }

abbrev pub where1 : LawFormula → LawFormula → Statement
where1 a conclusion = record { premises = a ∷ []; conclusion = conclusion }

abbrev pub where2 : LawFormula → LawFormula → LawFormula → Statement
where2 a b conclusion = record { premises = a ∷ b ∷ []; conclusion = conclusion }

abbrev pub where3 : LawFormula → LawFormula → LawFormula → LawFormula → Statement
where3 a b c conclusion = record { premises = a ∷ b ∷ c ∷ []; conclusion = conclusion }

abbrev pub of_sorts : List RowSort → Statement → Row
of_sorts sorts says = record { arguments = sorts; premises = says.premises; conclusion = says.conclusion }

abbrev pub none : Statement → Row
none says = of_sorts [] says

abbrev pub one : RowSort → (LawTerm → Statement) → Row
one a says = of_sorts (a ∷ []) (says (Argument 0))

abbrev pub two : RowSort → RowSort → (LawTerm → LawTerm → Statement) → Row
two a b says = of_sorts (a ∷ b ∷ []) (says (Argument 0) (Argument 1))

abbrev pub three : RowSort → RowSort → RowSort → (LawTerm → LawTerm → LawTerm → Statement) → Row
three a b c says = of_sorts (a ∷ b ∷ c ∷ []) (says (Argument 0) (Argument 1) (Argument 2))

abbrev pub four : RowSort → RowSort → RowSort → RowSort → (LawTerm → LawTerm → LawTerm → LawTerm → Statement) → Row
four a b c d says = of_sorts (a ∷ b ∷ c ∷ d ∷ []) (says (Argument 0) (Argument 1) (Argument 2) (Argument 3))

abbrev pub never : LawFormula
never = Claim f.False NoTerm NoClaim

abbrev pub is_ptr : LawTerm → LawFormula
is_ptr a = Claim f.IsPtr (Terms a NoTerm) NoClaim

abbrev pub equal : LawTerm → LawTerm → LawFormula
equal a b = Claim f.Equal (Terms a (Terms b NoTerm)) NoClaim

abbrev pub at_most : LawTerm → LawTerm → LawFormula
at_most a b = Claim f.AtMost (Terms a (Terms b NoTerm)) NoClaim

abbrev pub either : LawFormula → LawFormula → LawFormula
either a b = Claim f.Or NoTerm (Claims a (Claims b NoClaim))

abbrev pub implies : LawFormula → LawFormula → LawFormula
implies a b = Claim f.Implies NoTerm (Claims a (Claims b NoClaim))

abbrev pub not_negative : LawTerm → LawFormula
not_negative a = at_most (number (pos 0)) a

abbrev pub below : LawTerm → LawTerm → LawFormula
below a b = at_most (next a) b

-- a <> b
abbrev pub unequal : LawTerm → LawTerm → LawFormula
unequal a b = implies (equal a b) never

abbrev pub row : ListLaw → Row
row l.SublistNone = two Z ListS (λ i a. always (equal (sublist i i a) (nil S)))
row l.SublistAll = one ListS (λ a. always (equal (sublist (number (pos 0)) (len a) a) a))
row l.SublistSnoc = two Z ListS (λ i a. where2 (not_negative i) (below i (len a)) (equal (sublist (number (pos 0)) (next i) a) (append (sublist (number (pos 0)) i a) (single (nth i a)))))
row l.SublistApp = four Z Z Z ListS (λ i j k a. where2 (at_most i j) (at_most j k) (equal (append (sublist i j a) (sublist j k a)) (sublist i k a)))
row l.SublistLen = three Z Z ListS (λ i j a. where3 (not_negative i) (at_most i j) (at_most j (len a)) (equal (len (sublist i j a)) (minus j i)))
row l.SublistVints = three Z Z ListZ (λ i j a. always (equal (sublist i j (vints a)) (vints (sublist i j a))))
row l.VintsApp = two ListZ ListZ (λ a b. always (equal (append (vints a) (vints b)) (vints (append a b))))
row l.LenVints = one ListZ (λ a. always (equal (len (vints a)) (len a)))
row l.SumNil = none (always (equal (sum (nil Z)) (number (pos 0))))
row l.SumApp = two ListZ ListZ (λ a b. always (equal (sum (append a b)) (plus (sum a) (sum b))))
row l.SumSnoc = two Z ListZ (λ i a. where2 (not_negative i) (below i (len a)) (equal (sum (sublist (number (pos 0)) (next i) a)) (plus (sum (sublist (number (pos 0)) i a)) (nth i a))))
row l.LenApp = two ListS ListS (λ a b. always (equal (len (append a b)) (plus (len a) (len b))))
row l.LenRev = one ListS (λ a. always (equal (len (rev a)) (len a)))
row l.LenUpd = three Z S ListS (λ i x a. always (equal (len (upd i x a)) (len a)))
row l.LenNonneg = one ListS (λ a. always (not_negative (len a)))
row l.AppNil = one ListS (λ a. always (equal (append a (nil S)) a))
row l.AppAssoc = three ListS ListS ListS (λ a b c. always (equal (append (append a b) c) (append a (append b c))))
row l.RevCons = two S ListS (λ x a. always (equal (rev (cons x a)) (append (rev a) (single x))))
row l.RevApp = two ListS ListS (λ a b. always (equal (rev (append a b)) (append (rev b) (rev a))))
row l.RevRev = one ListS (λ a. always (equal (rev (rev a)) a))
row l.NthSame = three Z S ListS (λ i x a. where2 (not_negative i) (below i (len a)) (equal (nth i (upd i x a)) x))
row l.NthOther = four Z Z S ListS (λ i j x a. where1 (unequal i j) (equal (nth j (upd i x a)) (nth j a)))
row l.LtOrEq = two Z Z (λ a b. where1 (at_most a b) (either (below a b) (equal a b)))
row l.LeTotal = two Z Z (λ a b. always (either (at_most a b) (below b a)))
row l.VintUnsigned = one Z (λ a. always (equal (vint a) (vint (unsigned32 a))))
row l.VintSigned = one Z (λ a. always (equal (vint a) (vint (signed32 a))))
row l.NullPtr = one Val (λ v. where2 (is_ptr v) (equal v nullval) never)
