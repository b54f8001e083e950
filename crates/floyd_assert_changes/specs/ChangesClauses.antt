-- What changes of variables in a program stand for.
use Rattle.std.specs.Prelude.{◌≡◌, ℕ, ◌^◌, Bool, not, ◌&&◌, bit_and, bit_or, Option, Some, None, List, [], ◌∷◌, map, bytes_eq}
use Rattle.std.specs.Map.{lookup}
use Rattle.floyd_tree_sorts.specs.declared.connectives.FormulaHead.{FormulaHead}
use Rattle.floyd_tree_sorts.specs.declared.connectives.FormulaHead.TheVariants.{Forall, Exists}
use Rattle.floyd_tree_sorts.specs.declared.heads.Head.{Head}
use Rattle.floyd_tree_sorts.specs.declared.heads.Head.TheVariants.{Variable}
use Rattle.floyd_tree_sorts.specs.Prints.{slot}
use Rattle.floyd_text.specs.declared.code.Code.TheVariants.{TermTooLarge}
use Rattle.floyd_text.specs.declared.refusal.RuleStop.{RuleStop}
use Rattle.floyd_text.specs.declared.refusal.RuleStop.TheVariants as r
use Rattle.floyd_text.specs.declared.refusal.Shown.TheVariants.{Nothing}
use Rattle.floyd_tree.specs.declared.stop.MakeStop.{MakeStop}
use Rattle.floyd_tree.specs.declared.stop.MakeStop.TheVariants as m
use Rattle.floyd_tree.specs.Formulas.{PlainFormulas, formulas_mention}
use Rattle.floyd_tree.specs.Plain.{Plain}
use Rattle.floyd_truth.specs.Capture.{Changes, Put, Called, brings}
use Rattle.floyd_truth.specs.Capture as c
use Rattle.floyd_assert_changes.specs.declared.changing.Becomes.{Becomes}
use Rattle.floyd_assert_changes.specs.declared.changing.Becomes.TheVariants as b
use Rattle.floyd_assert_changes.specs.declared.changing.Change.{Change}
use Rattle.floyd_assert_changes.specs.declared.changing.Changing.{Changing, All, Under'}
use Rattle.floyd_assert_changes.specs.declared.changing.Fate.{Fate}
use Rattle.floyd_assert_changes.specs.declared.changing.Fate.TheVariants as f

abbrev pub become_of : Becomes → c.Becomes
become_of (b.Put t) = Put t
become_of (b.Called y) = Called y

abbrev pub changes_of : List Change → Changes
changes_of all = map (λ (c : Change). (c.name, become_of c.becomes)) all

abbrev pub changes : Changing → Changes
changes (All all bits) = changes_of all.now
changes (Under' x y p outer bits) = (x.now, Called y.now) ∷ changes outer

abbrev pub bits_of : Changing → ℕ
bits_of (All all bits) = bits
bits_of (Under' x y p outer bits) = bits

abbrev pub becomes_by : Fate → Option c.Becomes
becomes_by (f.Put t) = Some (Put t.now)
becomes_by (f.Called y) = Some (Called y.now)
becomes_by f.Stays = None

-- the variable is replaced by a term in which x is free, and is free in the formulas and another one than x
abbrev pub captures_name : Changes → PlainFormulas → List ℕ → List ℕ → Bool
captures_name whole kids x v = brings x (lookup (bytes_eq v) whole) && (not (bytes_eq x v) && formulas_mention v kids)

abbrev pub capturing : Changes → PlainFormulas → List ℕ → List ℕ × c.Becomes → Bool
capturing whole kids x change = captures_name whole kids x change.0

-- a variable stays as it is
abbrev pub Stays : Option c.Becomes → List ℕ → Type 0
Stays (Some (Put t)) v = ⊥
Stays (Some (Called y)) v = y ≡ v
Stays None v = Unit {0}

-- variables whose bit is not among these stay as they are
abbrev pub IsStill : ℕ → Changes → Type 0
IsStill bits changes = (v : List ℕ) → bit_and bits (2 ^ slot v) ≡ 0 → Stays (lookup (bytes_eq v) changes) v

-- all variables but those of the bits stay as they are
abbrev pub IsChanging : Changing → Type 0
IsChanging changing = IsStill (bits_of changing) (changes changing)

-- the head is that of no variable
abbrev pub IsNode : Head → Type 0
IsNode (Variable x s) = ⊥
IsNode head = Unit {0}

-- the name that a head binds, and the head with another one there
abbrev pub name_bound : FormulaHead → Option (List ℕ)
name_bound (Forall x s) = Some x
name_bound (Exists x s) = Some x
name_bound head = None

abbrev pub head_named : List ℕ → FormulaHead → FormulaHead
head_named y (Forall x s) = Forall y s
head_named y (Exists x s) = Exists y s
head_named y head = head

-- the bits of the variables of these pairs, beside others
abbrev pub bits_onto : ℕ → List (List ℕ × Plain) → ℕ
bits_onto bits [] = bits
bits_onto bits (p ∷ by) = bits_onto (bit_or bits (2 ^ slot p.0)) by

-- what is told where a term or formula could not be made
abbrev pub refusal_of : MakeStop → RuleStop
refusal_of m.TooLarge = r.No (record { code = TermTooLarge; shown = Nothing })
refusal_of stop = r.Memory
