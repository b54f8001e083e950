-- A law. Where the tokens from one on are refused, those before the refused one read as what is wanted, with the end of the text
-- for all that is missing, as often as it is wanted.
use Rattle.std.specs.Prelude.{ℕ, ◌≤◌, List, []}
use Rattle.floyd_text.specs.declared.refusal.Refusal.{Refusal}
use Rattle.floyd_lex.specs.Token.{TokenList}
use Rattle.floyd_termread_trees.specs.declared.written.Written.{Written}
use Rattle.floyd_termread_tokens.specs.SeenClauses.{tokens_until}
use Rattle.floyd_termread_tables.specs.declared.values.Want.{Want}
use Rattle.floyd_termread_grammar.specs.Reading.{ReadsUpTo, IsCutOff, refused_number}

abbrev pub FrontsRead : Type 0
FrontsRead =
    (bytes : List ℕ) (list : TokenList) (at depth : ℕ) (wanted : Want) (tree : Written) (refusal : Refusal) → depth ≤ 200 → (d : IsCutOff bytes list at depth wanted tree refusal)
    → (cuts : ℕ) × (front : Written) × ReadsUpTo depth wanted (tokens_until bytes list at (refused_number list at d.fault) cuts) [] front
