-- How a switch is typed. It looks at a number, which is promoted. Its labels are constants as C computes them, at the
-- promoted kind. No two of them are equal there, and one at most is the default.
use Rattle.std.specs.Prelude.{ℕ, nat_eq, Bool, true, false, not, List, [], ◌∷◌, ◌++◌, codes, Option, Some, None, pos, neg_ℤ}
use Rattle.std.specs.List.{list_any}
use Rattle.floyd_int.specs.declared.kinds.IntKind.{IntKind}
use Rattle.floyd_int.specs.Kind.{repr_of, cast_of}
use Rattle.floyd_text.specs.declared.code.Code.TheVariants as c
use Rattle.floyd_text.specs.declared.place.Place.{Place}
use Rattle.floyd_text.specs.declared.refusal.Refusal.{Refusal}
use Rattle.floyd_text.specs.declared.refusal.Shown.TheVariants.{Name}
use Rattle.floyd_text.specs.Refusals.{refusal_at}
use Rattle.floyd_ctypes.specs.declared.ctype.CType.{CType, Int}
use Rattle.floyd_cparse_trees.specs.declared.types.Literal.{Literal}
use Rattle.floyd_cparse_trees.specs.declared.statements.SwitchLabel.{SwitchLabel}
use Rattle.floyd_cparse_trees.specs.declared.statements.SwitchLabel.TheVariants as label
use Rattle.floyd_elab_names.specs.Refusals.{ill_typed}
use Rattle.floyd_elab_names.specs.Refusing.{◌>>=◌, ◌>>◌, pure, unless, or_refuse}
use Rattle.floyd_elab_names.specs.Typing.{Typing}
use Rattle.floyd_elab_names.specs.Types.{promote}
use Rattle.floyd_ctyping.specs.declared.operand.Operand.{Operand}
use Rattle.floyd_ctyping.specs.Operators.{value_type}

-- the bits of a literal, or of minus it as C computes that
abbrev pub signed_bits : Bool → Literal → ℕ
signed_bits false l = l.value
signed_bits true l = repr_of l.kind (neg_ℤ (pos l.value))

-- the bits of its value at a kind
abbrev pub constant_bits : IntKind → Bool → Literal → ℕ
constant_bits kind negative l = cast_of l.kind kind (signed_bits negative l)

-- the kind of what a switch looks at, which is ill typed at its word where it is no number
abbrev pub promoted_kind : CType → Option IntKind
promoted_kind (Int k) = Some (promote k)
promoted_kind t = None

abbrev pub switch_kind : Place → Operand → Typing IntKind
switch_kind place a = or_refuse (ill_typed place) (promoted_kind (value_type a))

-- the labels of a switch so far
pub record Labels : Type 0 where
  pub cases : List ℕ
  pub default : Bool

abbrev pub no_labels : Labels
no_labels = record { cases = []; default = false }

-- with one more, where None is the default
abbrev pub with_label : Labels → Option ℕ → Labels
with_label before (Some bits) = record { cases = before.cases ++ bits ∷ []; default = before.default }
with_label before None = record { cases = before.cases; default = true }

-- a label that stands there again
abbrev pub repeated_case : Place → List ℕ → Refusal
repeated_case place text = refusal_at c.Redeclared place (Name text)

abbrev pub repeated_default : Place → Refusal
repeated_default place = refusal_at c.Redeclared place (Name (codes "default"))

-- what a label of a switch of that kind stands for, behind others
abbrev pub next_case : Labels → Place → List ℕ → ℕ → Typing (Option ℕ)
next_case before place text bits = do
  unless (repeated_case place text) (not (list_any (nat_eq bits) before.cases))
  pure (Some bits)

abbrev pub next_default : Labels → Place → Typing (Option ℕ)
next_default before place = do
  unless (repeated_default place) (not before.default)
  pure None

abbrev pub next_label : IntKind → Labels → SwitchLabel → Typing (Option ℕ)
next_label kind before (label.Case negative literal text) = next_case before literal.place text (constant_bits kind negative literal)
next_label kind before (label.Default place) = next_default before place
