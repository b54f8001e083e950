-- The texts that a run writes. Each line ends with a line feed.
use Rattle.std.specs.Prelude.{ℕ, ◌==◌, List, [], ◌∷◌, ◌++◌, slice_get, codes, if◌then◌else◌, Option, Some, None}
use Rattle.std.specs.Fmt.{decimal}
use Rattle.floyd_text.specs.declared.place.Place.{Place}
use Rattle.floyd_text.specs.declared.refusal.Refusal.{Refusal}
use Rattle.floyd_text.specs.Codes.{number, name as code_name}
use Rattle.floyd_text.specs.Commands.{command_word}
use Rattle.floyd_text.specs.declared.refusal.Shown.{Shown}
use Rattle.floyd_text.specs.declared.refusal.Shown.TheVariants.{Nothing, Count, Name, Part, Hypothesis}

-- the name of the file of this number
abbrev pub name_in : Option (List ℕ) → List ℕ
name_in None = []
name_in (Some name) = name

abbrev pub file_name : List (List ℕ) → ℕ → List ℕ
file_name names file = name_in (slice_get names file)

-- ` in COMMAND`, where a command was tried
abbrev pub rule_text : Option (List ℕ) → List ℕ
rule_text None = []
rule_text (Some word) = codes " in " ++ word

-- ` at goal G`, where the goal has a number
abbrev pub goal_text : ℕ → List ℕ
goal_text goal = if goal == 0 then [] else codes " at goal " ++ decimal goal

abbrev pub shown_text : Shown → List ℕ
shown_text Nothing = []
shown_text (Count n) = codes " count " ++ decimal n
shown_text (Name name) = codes " name " ++ name
shown_text (Part k) = codes " part " ++ decimal k
shown_text (Hypothesis k) = codes " hypothesis " ++ decimal k

-- FILE:LINE:COLUMN
abbrev pub place_text : List ℕ → Place → List ℕ
place_text file place = file ++ 58 ∷ [] ++ decimal place.line ++ 58 ∷ [] ++ decimal place.column

-- FILE:LINE:COLUMN: CODE NAME
abbrev pub head_text : List ℕ → Refusal → List ℕ
head_text file r = place_text file r.place ++ codes ": " ++ decimal (number r.code) ++ 32 ∷ [] ++ code_name r.code

-- the same, and then the command, the goal and what is shown
abbrev pub line_text : List ℕ → Refusal → List ℕ
line_text file r = head_text file r ++ rule_text (command_word r.rule) ++ goal_text r.goal ++ shown_text r.shown ++ 10 ∷ []

-- the line of a refusal, where the files have these names
abbrev pub refusal_text : List (List ℕ) → Refusal → List ℕ
refusal_text names r = line_text (file_name names r.place.file) r

-- `proved NAME`, a line for each function with a body in the order of the project, then `accepted`
abbrev pub proved_text : List (List ℕ) → List ℕ
proved_text [] = []
proved_text (name ∷ names) = codes "proved " ++ name ++ 10 ∷ proved_text names

abbrev pub accepted_text : List (List ℕ) → List ℕ
accepted_text names = proved_text names ++ codes "accepted" ++ 10 ∷ []

abbrev pub usage_text : ℕ → List ℕ
usage_text word = codes "usage: word " ++ decimal word ++ 10 ∷ []
