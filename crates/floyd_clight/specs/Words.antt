-- What a goal shows of its next statement.
use Rattle.std.specs.Prelude.{ℕ, List, [], ◌∷◌, Option, Some, None}
use Rattle.floyd_clight.specs.declared.syntax.Stmt.{Stmt, Skip, Set, Assign, Call, Seq', If', Loop', Break, Continue, Return, Switch', Row_of-Stmt, end_of-Stmt, more_of-Stmt}
use Rattle.floyd_clight.specs.declared.word.Word as w

pub data Shown : Type 0 where
  SetTo : (x : List ℕ) → Shown
  Store Calls Branches Loops Switches Breaks Continues Returns Ends : Shown

-- a word, by the name that it lends
abbrev pub word_seen : w.Word → Shown
word_seen (w.TheVariants.Set x) = SetTo x.now
word_seen w.TheVariants.Store = Store
word_seen w.TheVariants.Call = Calls
word_seen w.TheVariants.If = Branches
word_seen w.TheVariants.Loop = Loops
word_seen w.TheVariants.Switch = Switches
word_seen w.TheVariants.Break = Breaks
word_seen w.TheVariants.Continue = Continues
word_seen w.TheVariants.Return = Returns
word_seen w.TheVariants.End = Ends

-- the first of two
abbrev pub either : Option Shown → Option Shown → Option Shown
either None b = b
either (Some a) b = Some a

abbrev mutual
  -- the word of a statement; skip has none, and a sequence that of its first statement which has one
  pub first_word : Stmt → Option Shown
  first_word Skip = None
  first_word (Set x e) = Some (SetTo x)
  first_word (Assign p e) = Some Store
  first_word (Call to f es) = Some Calls
  first_word (Seq' shape all) = first_in all
  first_word (If' e p a q b) = Some Branches
  first_word (Loop' p a q b) = Some Loops
  first_word Break = Some Breaks
  first_word Continue = Some Continues
  first_word (Return e) = Some Returns
  first_word (Switch' e shape cases) = Some Switches

  pub first_in : {n : _} → Row_of-Stmt n → Option Shown
  first_in end_of-Stmt = None
  first_in (more_of-Stmt s rest) = either (first_word s) (first_in rest)

-- the word of the first of them that has one
abbrev pub first_of : List Stmt → Option Shown
first_of [] = None
first_of (s ∷ ss) = either (first_word s) (first_of ss)

abbrev pub or_end : Option Shown → Shown
or_end None = Ends
or_end (Some word) = word

abbrev pub next_word : List Stmt → Shown
next_word ss = or_end (first_of ss)
