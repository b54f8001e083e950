-- What the tokens of the two forms read as, one after the other.
use Rattle.std.specs.Prelude.{ℕ, Bool, true, false, ◌==◌, ◌&&◌, not, nat_le, bytes_eq, if◌then◌else◌, List, [], ◌∷◌, ◌++◌, Option, Some, None, codes}
use Rattle.std.specs.List.{list_all}
use Rattle.std.specs.Str.Parse.{digits_value}
use Rattle.floyd_text.specs.declared.place.Place.{Place}
use Rattle.floyd_text.specs.declared.rule.Rule.{Rule}
use Rattle.floyd_lex.specs.Token.{Token}
use Rattle.floyd_stub_goal.specs.declared.script.Command.{Command}
use Rattle.floyd_stub_goal.specs.declared.script.Proof.{Proof}
use Rattle.floyd_check_stub.specs.Forms.{rule_of}

-- what follows these texts
abbrev pub after_all : List (List ℕ) → List (List ℕ) → Option (List (List ℕ))
after_all [] ts = Some ts
after_all (w ∷ ws) [] = None
after_all (w ∷ ws) (t ∷ ts) = if bytes_eq t w then after_all ws ts else None

abbrev pub is_digit : ℕ → Bool
is_digit b = nat_le 48 b && nat_le b 57

-- digits, of which the first is no 0 unless it stands alone
abbrev pub is_numeral : List ℕ → Bool
is_numeral [] = false
is_numeral (d ∷ []) = is_digit d
is_numeral (d ∷ e ∷ ds) = not (d == 48) && list_all is_digit (d ∷ e ∷ ds)

abbrev pub small : ℕ → Option ℕ
small n = if nat_le n 2147483647 then Some n else None

-- the int whose numeral this is
abbrev pub int_of : List ℕ → Option ℕ
int_of text = if is_numeral text then small (digits_value 10 text) else None

abbrev pub is_nil : List (List ℕ) → Bool
is_nil [] = true
is_nil (t ∷ ts) = false

abbrev pub spec_head : List (List ℕ)
spec_head =
    codes "DECLARE" ∷ codes "main" ∷ codes "PRE" ∷ codes "[" ∷ codes "]" ∷ codes "MAIN_PRE" ∷ codes "POST" ∷ codes "[" ∷ codes "int"
    ∷ codes "]" ∷ codes "PROP" ∷ codes "(" ∷ codes ")" ∷ codes "RETURN" ∷ codes "(" ∷ codes "Vint" ∷ codes "(" ∷ []

abbrev pub spec_end : List (List ℕ)
spec_end = codes ")" ∷ codes ")" ∷ codes "SEP" ∷ codes "(" ∷ codes ")" ∷ codes ";" ∷ []

abbrev pub is_end : Option (List (List ℕ)) → Bool
is_end None = false
is_end (Some ts) = is_nil ts

abbrev pub spec_after : Option (List (List ℕ)) → Option ℕ
spec_after None = None
spec_after (Some []) = None
spec_after (Some (n ∷ ts)) = if is_end (after_all spec_end ts) then int_of n else None

abbrev pub spec_of : List (List ℕ) → Option ℕ
spec_of ts = spec_after (after_all spec_head ts)

abbrev pub with_rule : (Rule → Option Proof) → Option Rule → Option Proof
with_rule rest None = None
with_rule rest (Some rule) = rest rule

-- the rule of a command, if its `;` follows
abbrev pub command_of : List ℕ → List ℕ → Option Rule
command_of word semicolon = if bytes_eq semicolon (codes ";") then rule_of word else None

-- the proof of main with these commands, if this word is `QED`
abbrev pub main_proof : List Command → List ℕ → Place → Option Proof
main_proof entries word end = if bytes_eq word (codes "QED") then Some (record { name = codes "main"; commands = entries; end = end }) else None

-- the proof whose commands go on so
abbrev pub commands_of : List Command → List Token → Option Proof
commands_of entries [] = None
commands_of entries (q ∷ []) = main_proof entries q.text q.place
commands_of entries (c ∷ s ∷ ts) =
    with_rule (λ r. commands_of (entries ++ record { rule = r; place = c.place } ∷ []) ts) (command_of c.text s.text)

abbrev pub script_of : List Token → Option Proof
script_of (proof ∷ name ∷ ts) =
    if bytes_eq proof.text (codes "PROOF") && bytes_eq name.text (codes "main") then commands_of [] ts else None
script_of short = None
