-- Readers of labels, of the shape of their grammar. They decide by the next token.
use Rattle.std.specs.Prelude.{ℕ, Bool, true, false}
use Rattle.floyd_grammar.specs.ParseClauses.{Parser, one, pure, ◌>>=◌, ◌>>◌}
use Rattle.floyd_cparse_trees.specs.declared.statements.SwitchLabel.{SwitchLabel}
use Rattle.floyd_cparse_trees.specs.declared.statements.SwitchLabel.TheVariants as switch
use Rattle.floyd_cparse_statements.specs.declared.values.CaseStart.{CaseStart}
use Rattle.floyd_cparse_statements.specs.declared.values.CaseStart.TheVariants as case
use Rattle.floyd_cparse_statements.specs.declared.values.LabelStart.{LabelStart}
use Rattle.floyd_cparse_statements.specs.declared.values.LabelStart.TheVariants as word
use Rattle.floyd_cparse_tokens.specs.Tokens.{Sight, Types}
use Rattle.floyd_cparse_statements.specs.Labels.{label_token, case_token, literal_token, colon_token, case_label}

module _ (types : Types) where
  -- "case" ["-"] literal ":" | "default" ":"
  unfoldable pub after_case : ℕ → CaseStart → Parser Sight SwitchLabel
  after_case room case.Minus = one (literal_token types room) >>= λ x. pure (case_label true x)
  after_case room (case.Literal x) = pure (case_label false x)

  unfoldable pub after_label_word : ℕ → LabelStart → Parser Sight SwitchLabel
  after_label_word room word.Case = one (case_token types room) >>= after_case room
  after_label_word room (word.Default place) = pure (switch.Default place)

  unfoldable pub label_name : ℕ → Bool → Parser Sight SwitchLabel
  label_name room first = one (label_token types room first) >>= after_label_word room

  unfoldable pub switch_label : ℕ → Bool → Parser Sight SwitchLabel
  switch_label room first = do
    label ← label_name room first
    _ ← one (colon_token types room)
    pure label
