-- The grammar of scripts.
--
--   script  = { proof }
--   proof   = "PROOF" name { command } "QED"
--   command = word arguments ";"
use Rattle.std.specs.Prelude.{ℕ, List, [], ◌∷◌, ◌++◌, codes}
use Rattle.floyd_text.specs.declared.place.Place.{Place}
use Rattle.floyd_lex.specs.Token.{TokenList, part_of}
use Rattle.floyd_cparse_trees.specs.declared.types.Identifier.{Identifier}
use Rattle.floyd_grammar.specs.Phrase.{Phrase, one, pure, ◌>>=◌, ◌>>◌, folded}
use Rattle.floyd_script_trees.specs.Arguments.{shape_of}
use Rattle.floyd_script_trees.specs.declared.trees.Command.{Command}
use Rattle.floyd_script_trees.specs.declared.trees.Proof.{Proof}
use Rattle.floyd_script_tokens.specs.Heads.{head_of, end_of, place_of, named_of}
use Rattle.floyd_script_tokens.specs.Sights.{Sight, is_word}
use Rattle.floyd_script_tokens.specs.declared.heads.Head.{Head}
use Rattle.floyd_script_arguments.specs.Grammar.{word, arguments}

abbrev pub proof_of : Identifier → List Command → Place → Proof
proof_of name commands end = record { name = name.name; place = name.place; commands = commands; end = end }

module _ (bytes : List ℕ) (list : TokenList) where
  -- with the tokens from its word up to and with its `;`
  abbrev pub command_of : Head → ℕ → Command
  command_of head end = record { place = head.place; rule = head.rule; tokens = part_of list head.at end; bytes = bytes }

  abbrev pub command : Phrase Sight Command
  command = one head_of >>= λ head. arguments (shape_of head.rule) >> (one end_of >>= λ end. pure (command_of head end))

  abbrev pub commands : Phrase Sight (List Command)
  commands = folded (λ cs c. cs ++ c ∷ []) (λ _. command) []

  abbrev pub proof : Phrase Sight Proof
  proof =
      word (codes "PROOF")
      >> (one named_of >>= λ name. commands >>= λ all. one (λ s. place_of (is_word (codes "QED") s) s) >>= λ end. pure (proof_of name all end))

  abbrev pub script : Phrase Sight (List Proof)
  script = folded (λ ps x. ps ++ x ∷ []) (λ _. proof) []
