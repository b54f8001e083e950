-- Readers of scripts, of the shape of their grammar. They decide by the next token.
use Rattle.std.specs.Prelude.{ℕ, Bool, true, not, List, [], ◌∷◌, ◌++◌, codes}
use Rattle.floyd_text.specs.declared.place.Place.{Place}
use Rattle.floyd_cparse_trees.specs.declared.types.Identifier.{Identifier}
use Rattle.floyd_lex.specs.Token.{TokenList}
use Rattle.floyd_grammar.specs.ParseClauses.{Parser, one, pure, ◌>>=◌, ◌>>◌, folded}
use Rattle.floyd_script_trees.specs.Arguments.{shape_of}
use Rattle.floyd_script_trees.specs.declared.trees.Command.{Command}
use Rattle.floyd_script_trees.specs.declared.trees.Proof.{Proof}
use Rattle.floyd_script_tokens.specs.Heads.{head_of, end_of, place_of, named_of}
use Rattle.floyd_script_tokens.specs.Sights.{Sight, is_word, wants}
use Rattle.floyd_script_tokens.specs.declared.heads.Head.{Head}
use Rattle.floyd_script_arguments.specs.ArgumentClauses.{arguments}
use Rattle.floyd_script.specs.Scripts.{command_of, proof_of}

-- anything but the end of a proof
abbrev pub begins_command : Sight → Bool
begins_command s = not (is_word (codes "QED") s)

abbrev pub begins_proof : Sight → Bool
begins_proof s = true

abbrev pub more_commands : List Command → Command → List Command
more_commands cs c = cs ++ c ∷ []

abbrev pub more_proofs : List Proof → Proof → List Proof
more_proofs ps x = ps ++ x ∷ []

abbrev pub take_head : Parser Sight Head
take_head = one head_of

abbrev pub take_end : Parser Sight ℕ
take_end = one end_of

abbrev pub take_named : Parser Sight Identifier
take_named = one named_of

abbrev pub take_qed : Parser Sight Place
take_qed = one (λ s. place_of (is_word (codes "QED") s) s)

module _ (bytes : List ℕ) (list : TokenList) where
  unfoldable pub command : Parser Sight Command
  command = take_head >>= λ head. arguments (shape_of head.rule) >> (take_end >>= λ end. pure (command_of bytes list head end))

  unfoldable pub commands : Parser Sight (List Command)
  commands = folded (λ _. begins_command) more_commands (λ _. command) []

  unfoldable pub proof : Parser Sight Proof
  proof =
      one (λ s. wants (is_word (codes "PROOF") s))
      >> (take_named >>= λ name. commands >>= λ all. take_qed >>= λ end. pure (proof_of name all end))

  unfoldable pub script : Parser Sight (List Proof)
  script = folded (λ _. begins_proof) more_proofs (λ _. proof) []
