-- Fingerprints of heads, and the bits that stand for variables. Equal heads have equal ones; no more is claimed of them.
use Rattle.std.specs.Prelude.{ℕ, ◌*◌, ◌/◌, ◌%◌, ◌^◌, bit_xor, List, [], ◌∷◌, unsigned_abs}
use Rattle.floyd_tree_sorts.specs.declared.heads.Width.TheVariants.{Bits8, Bits16, Bits32, Bits64}
use Rattle.floyd_tree_sorts.specs.declared.heads.Width.{Width}
use Rattle.floyd_tree_sorts.specs.declared.heads.Head.{Head}
use Rattle.floyd_tree_sorts.specs.declared.heads.Head.TheVariants.{Literal, Variable, Gv, Lv, Nil, Leaf, Signed, Unsigned, Default, Fun, Operator}
use Rattle.floyd_tree_sorts.specs.declared.connectives.FormulaHead.{FormulaHead}
use Rattle.floyd_tree_sorts.specs.declared.connectives.FormulaHead.TheVariants as f
use Rattle.floyd_tree_sorts.specs.Operators.{row}

-- a fingerprint with one more part
unfoldable pub blend : ℕ → ℕ → ℕ
blend print part =
    let mixed = bit_xor print part * 11400714819323198485 % 2 ^ 64 in
    bit_xor mixed (mixed / 2 ^ 32)

abbrev pub bytes_print : ℕ → List ℕ → ℕ
bytes_print print [] = print
bytes_print print (b ∷ more) = bytes_print (blend print b) more

-- of a name
abbrev pub name_print : List ℕ → ℕ
name_print name = bytes_print 14695981039346656037 name

abbrev pub width_number : Width → ℕ
width_number Bits8 = 8
width_number Bits16 = 16
width_number Bits32 = 32
width_number Bits64 = 64

-- the number of a head's kind
abbrev pub kind_number : Head → ℕ
kind_number (Literal n) = 35
kind_number (Variable x s) = 36
kind_number (Gv x) = 37
kind_number (Lv x) = 38
kind_number (Nil s) = 39
kind_number (Leaf s) = 40
kind_number (Signed w) = 41
kind_number (Unsigned w) = 42
kind_number (Default shape s) = 43
kind_number (Fun name arguments s) = 44
kind_number (Operator operator) = (row operator).number

-- what a head holds besides its kind, without sorts and shapes
abbrev pub payload_print : Head → ℕ
payload_print (Literal n) = unsigned_abs n % 2 ^ 64
payload_print (Variable x s) = name_print x
payload_print (Gv x) = name_print x
payload_print (Lv x) = name_print x
payload_print (Signed w) = width_number w
payload_print (Unsigned w) = width_number w
payload_print (Fun name arguments s) = name_print name
payload_print head = 0

abbrev pub head_print : Head → ℕ
head_print head = blend (blend 2166136261 (kind_number head)) (payload_print head)

-- the bit of a variable in a summary
abbrev pub slot : List ℕ → ℕ
slot x = name_print x / 2 ^ 58

abbrev pub head_summary : Head → ℕ
head_summary (Variable x s) = 2 ^ slot x
head_summary head = 0

abbrev pub form_number : FormulaHead → ℕ
form_number f.True = 100
form_number f.False = 101
form_number f.Implies = 102
form_number f.Or = 103
form_number f.And = 104
form_number (f.Forall x s) = 105
form_number (f.Exists x s) = 106
form_number f.Equal = 107
form_number f.AtMost = 108
form_number f.IsPtr = 109
form_number f.Defined = 110
form_number (f.Hasty shape) = 111
form_number (f.Compatible shape path) = 112
form_number (f.FuncPtr name) = 113

abbrev pub form_payload : FormulaHead → ℕ
form_payload (f.Forall x s) = name_print x
form_payload (f.Exists x s) = name_print x
form_payload (f.FuncPtr name) = name_print name
form_payload head = 0

abbrev pub form_print : FormulaHead → ℕ
form_print head = blend (blend 2166136261 (form_number head)) (form_payload head)
