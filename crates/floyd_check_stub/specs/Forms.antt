-- The forms of a specification and a script, as relations on the tokens of a file.
use Rattle.std.specs.Prelude.{◌≡◌, ℕ, ◌≤◌, bytes_eq, List, [], ◌∷◌, ◌++◌, map, codes, if◌then◌else◌, Option, Some, None}
use Rattle.std.specs.Fmt.{decimal}
use Rattle.floyd_text.specs.declared.rule.Rule.TheVariants.{Forward, Cancel}
use Rattle.floyd_text.specs.declared.rule.Rule.{Rule}
use Rattle.floyd_text.specs.declared.place.Place.{Place}
use Rattle.floyd_lex.specs.Token.{Token}
use Rattle.floyd_stub_goal.specs.declared.script.Command.{Command}
use Rattle.floyd_stub_goal.specs.declared.script.Proof.{Proof}

-- the texts of tokens
abbrev pub texts : List Token → List (List ℕ)
texts ts = map (λ (t : Token). t.text) ts

-- the texts of `DECLARE main PRE [] MAIN_PRE POST [int] PROP () RETURN (Vint(n)) SEP ();`
abbrev pub spec_texts : ℕ → List (List ℕ)
spec_texts n =
    (codes "DECLARE" ∷ codes "main" ∷ codes "PRE" ∷ codes "[" ∷ codes "]" ∷ codes "MAIN_PRE" ∷ codes "POST" ∷ codes "[" ∷ codes "int"
    ∷ codes "]" ∷ codes "PROP" ∷ codes "(" ∷ codes ")" ∷ codes "RETURN" ∷ codes "(" ∷ codes "Vint" ∷ codes "(" ∷ [])
    ++ decimal n ∷ codes ")" ∷ codes ")" ∷ codes "SEP" ∷ codes "(" ∷ codes ")" ∷ codes ";" ∷ []

-- the tokens are the specification that says that `main` returns this number
abbrev pub IsSpec : List Token → ℕ → Type 0
IsSpec ts n = (texts ts ≡ spec_texts n) × (n ≤ 2147483647)

-- the command of this word
abbrev pub rule_of : List ℕ → Option Rule
rule_of word =
    if bytes_eq word (codes "forward") then Some Forward else (if bytes_eq word (codes "cancel") then Some Cancel else None)

-- The tokens are these commands at their places, each with its `;`, and then `QED` at this place.
abbrev pub AreCommands : List Token → List Command → Place → Type 0
AreCommands [] entries end = ⊥
AreCommands (q ∷ ts) [] end = (ts ≡ []) × (q.text ≡ codes "QED") × (end ≡ q.place)
AreCommands (c ∷ []) (e ∷ es) end = ⊥
AreCommands (c ∷ s ∷ ts) (e ∷ es) end =
    (rule_of c.text ≡ Some e.rule) × (e.place ≡ c.place) × (s.text ≡ codes ";") × AreCommands ts es end

-- the tokens are the script that has this proof alone: `PROOF main`, its commands, `QED`
abbrev pub IsScript : List Token → Proof → Type 0
IsScript [] script = ⊥
IsScript (proof ∷ []) script = ⊥
IsScript (proof ∷ name ∷ ts) script =
    (proof.text ≡ codes "PROOF") × (name.text ≡ codes "main") × (script.name ≡ codes "main") × AreCommands ts script.commands script.end

-- what tokens read as: what the relation holds of, or none where it holds of nothing
abbrev pub ReadsAs : {X : Type 0} → (X → Type 0) → Option X → Type 0
ReadsAs R (Some x) = R x
ReadsAs {X} R None = (x : X) → R x → ⊥
