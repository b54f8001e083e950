-- The readers of commands, proofs and scripts are exact for their grammar.
use Rattle.std.proofs.Common.{◌≡◌, ℕ, ◌+◌, Bool, true, false, not, if◌then◌else◌, List, [], Result, Ok, Err, refl, sym, ◌∙◌, ap, true≢false}
use Rattle.std.specs.Prelude.{None, codes}
use Rattle.std.specs.Str.{bytes_eq}
use Rattle.std.proofs.lemmas.Slice.Eq.{bytes_eq-Decides}
use Rattle.floyd_text.specs.declared.place.Place.{Place}
use Rattle.floyd_lex.specs.declared.kinds.Punctuator.TheVariants as p
use Rattle.floyd_lex.specs.Token.{TokenList}
use Rattle.floyd_cparse_trees.specs.declared.types.Identifier.{Identifier}
use Rattle.floyd_grammar.specs.Phrase.{Phrase}
use Rattle.floyd_grammar.specs.Phrase as phrase
use Rattle.floyd_grammar.specs.ParseClauses.{Parser, is_taken, is_blamed}
use Rattle.floyd_grammar.specs.ParseClauses as parse
use Rattle.floyd_grammar.proofs.Exact.{Exact, token_solid, nothing}
use Rattle.floyd_grammar.proofs.Seq.{seq_open, seq_solid, token_then}
use Rattle.floyd_grammar.proofs.Either.{or_right}
use Rattle.floyd_grammar.proofs.Repeat.{repeat}
use Rattle.floyd_cparse_tokens.proofs.Shrinks.{Eats, exact_eats}
use Rattle.floyd_cparse_tokens.proofs.TokenLemmas.{and_right}
use Rattle.floyd_script_trees.specs.Arguments.{shape_of}
use Rattle.floyd_script_trees.specs.Words.{rule_of}
use Rattle.floyd_script_trees.specs.declared.trees.Command.{Command}
use Rattle.floyd_script_trees.specs.declared.trees.Proof.{Proof}
use Rattle.floyd_script_tokens.specs.Heads.{head_by, head_of, end_of, place_of, named_of}
use Rattle.floyd_script_tokens.specs.Sights.{Sight, is_mark, is_name, is_word, unexpected, unknown}
use Rattle.floyd_script_tokens.specs.declared.heads.Head.{Head}
use Rattle.floyd_script_arguments.proofs.ArgumentExact.{no_end, arguments_exact}
use Rattle.floyd_script_arguments.proofs.PhraseExact.{any, no, quiet, led_exact, led_solid}
use Rattle.floyd_script_arguments.specs.Grammar.{arguments}
use Rattle.floyd_script.specs.Scripts.{command_of, proof_of}
use Rattle.floyd_script.specs.Scripts as g
use Rattle.floyd_script.specs.ScriptClauses.{begins_command, begins_proof, more_commands, more_proofs}
use Rattle.floyd_script.specs.ScriptClauses as r

-- what ends a command and a proof
abbrev ended : Sight → Bool → Result ℕ ℕ
ended s b = if b then Ok (s.at + 1) else Err unexpected

abbrev cause_of : Bool → Result Head ℕ
cause_of b = if b then Err unexpected else Err unknown

end_taken : (s : Sight) → is_taken (end_of s) ≡ true → no_end s ≡ false
end_taken s e = go (is_mark p.Semicolon s) e
  where
    go : (b : Bool) → is_taken (ended s b) ≡ true → not b ≡ false
    go true h = refl
    go false h = absurd (true≢false (sym h))

end_mild : {P : Type 0} (s : Sight) → is_blamed (end_of s) ≡ true → P
end_mild {P} s e = go (is_mark p.Semicolon s) e
  where
    go : (b : Bool) → is_blamed (ended s b) ≡ true → P
    go true h = absurd (true≢false (sym h))
    go false h = absurd (true≢false (sym h))

abbrev qed : Sight → Result Place ℕ
qed s = place_of (is_word (codes "QED") s) s

qed_taken : (b : Bool) (s : Sight) → is_taken (place_of b s) ≡ true → not b ≡ false
qed_taken true s e = refl
qed_taken false s e = absurd (true≢false (sym e))

qed_mild : {P : Type 0} (b : Bool) (s : Sight) → is_blamed (place_of b s) ≡ true → P
qed_mild true s e = absurd (true≢false (sym e))
qed_mild false s e = absurd (true≢false (sym e))

-- `QED` is no command
no_rule : rule_of (codes "QED") ≡ None
unfolding rule_of
no_rule = refl

head_qed : (s : Sight) → is_word (codes "QED") s ≡ true → head_of s ≡ Err unexpected
head_qed s e = go (is_name s)
  where
    text : s.token.text ≡ codes "QED"
    text = (bytes_eq-Decides s.token.text (codes "QED")).0 (and_right (is_name s) (bytes_eq s.token.text (codes "QED")) e)

    go : (b : Bool) → (let o : Result Head ℕ = if b then head_by s (rule_of s.token.text) else Err unexpected in o) ≡ Err unexpected
    go true = ap (head_by s) (ap rule_of text ∙ no_rule) ∙ ap cause_of (or_right (is_word (codes "PROOF") s) (is_word (codes "QED") s) e)
    go false = refl

not_when : (b c : Bool) → (b ≡ true → c ≡ false) → c ≡ true → not b ≡ true
not_when true c h e = absurd (true≢false (sym e ∙ h refl))
not_when false c h e = refl

head_begins : (s : Sight) → is_taken (head_of s) ≡ true → begins_command s ≡ true
head_begins s e = not_when (is_word (codes "QED") s) (is_taken (head_of s)) (λ h. ap (λ (o : Result Head ℕ). is_taken o) (head_qed s h)) e

head_blamed : (s : Sight) → is_blamed (head_of s) ≡ true → begins_command s ≡ true
head_blamed s e = not_when (is_word (codes "QED") s) (is_blamed (head_of s)) (λ h. ap (λ (o : Result Head ℕ). is_blamed o) (head_qed s h)) e

module _ (bytes : List ℕ) (list : TokenList) where
  ended_exact : (head : Head) → Exact (parse.◌>>=◌ (parse.one end_of) (λ end. parse.pure (command_of bytes list head end))) (phrase.◌>>=◌ (phrase.one end_of) (λ end. phrase.pure (command_of bytes list head end))) (λ t. is_taken (end_of t)) (λ t. is_blamed (end_of t)) quiet
  ended_exact head = token_then end_of (λ end. nothing (command_of bytes list head end) quiet)

  ended_solid : (head : Head) (x : Command) → (phrase.◌>>=◌ (phrase.one end_of) (λ end. phrase.pure (command_of bytes list head end))).reads [] x → ⊥
  ended_solid head x d = seq_solid (phrase.one end_of) (λ end. phrase.pure (command_of bytes list head end)) (token_solid end_of) x d

  command_exact : Exact (r.command bytes list) (g.command bytes list) (λ t. is_taken (head_of t)) (λ t. is_blamed (head_of t)) quiet
  unfolding r.command
  command_exact =
      token_then head_of
      (λ head. seq_open (arguments_exact (shape_of head.rule)) (λ _. ended_exact head)
      (λ u x d t e. end_taken t e) (λ u x d t e. end_mild t e) (λ u x y d d' t e. absurd (ended_solid head y d'))
      any any (λ t e. refl) (λ t e. refl) (λ x d t e. refl) (λ x d t e. refl))

  command_solid : (x : Command) → (g.command bytes list).reads [] x → ⊥
  command_solid x d = seq_solid (phrase.one head_of) (λ head. phrase.◌>>◌ (arguments (shape_of head.rule)) (phrase.◌>>=◌ (phrase.one end_of) (λ end. phrase.pure (command_of bytes list head end)))) (token_solid head_of) x d

  commands_exact : Exact (r.commands bytes list) (g.commands bytes list) (λ t. is_taken (head_of t)) (λ t. is_blamed (head_of t)) (λ x t. begins_command t)
  unfolding r.commands
  commands_exact =
      repeat (λ _ t. begins_command t) more_commands (λ x t. begins_command t) (λ _. command_exact) (λ _ y d. command_solid y d)
      (λ _ t e. head_begins t e) (λ _ t e. head_blamed t e) (λ x u y d t e. refl) (λ x t e. e) (λ x u y d t e. refl) []

  closed_exact : (name : Identifier) (all : List Command) → Exact (parse.◌>>=◌ (parse.one qed) (λ end. parse.pure (proof_of name all end))) (phrase.◌>>=◌ (phrase.one qed) (λ end. phrase.pure (proof_of name all end))) (λ t. is_taken (qed t)) (λ t. is_blamed (qed t)) quiet
  closed_exact name all = token_then qed (λ end. nothing (proof_of name all end) quiet)

  closed_solid : (name : Identifier) (all : List Command) (x : Proof) → (phrase.◌>>=◌ (phrase.one qed) (λ end. phrase.pure (proof_of name all end))).reads [] x → ⊥
  closed_solid name all x d = seq_solid (phrase.one qed) (λ end. phrase.pure (proof_of name all end)) (token_solid qed) x d

  abbrev behind_name : Identifier → Phrase Sight Proof
  behind_name name = phrase.◌>>=◌ (g.commands bytes list) (λ all. phrase.◌>>=◌ (phrase.one qed) (λ end. phrase.pure (proof_of name all end)))

  proof_exact : Exact (r.proof bytes list) (g.proof bytes list) (is_word (codes "PROOF")) no quiet
  unfolding r.proof
  proof_exact =
      led_exact (is_word (codes "PROOF"))
      (token_then named_of
      (λ name. seq_open commands_exact (λ all. closed_exact name all)
      (λ u x d t e. qed_taken (is_word (codes "QED") t) t e) (λ u x d t e. qed_mild (is_word (codes "QED") t) t e) (λ u x y d d' t e. absurd (closed_solid name x y d'))
      any any (λ t e. refl) (λ t e. refl) (λ x d t e. refl) (λ x d t e. refl)))

  proof_solid : (x : Proof) → (g.proof bytes list).reads [] x → ⊥
  proof_solid x d = led_solid (is_word (codes "PROOF")) (phrase.◌>>=◌ (phrase.one named_of) behind_name) x d

  pub script_exact : Exact (r.script bytes list) (g.script bytes list) (is_word (codes "PROOF")) no (λ x t. true)
  unfolding r.script
  script_exact =
      repeat (λ _ t. begins_proof t) more_proofs (λ x t. true) (λ _. proof_exact) (λ _ y d. proof_solid y d)
      (λ _ t e. refl) (λ _ t e. refl) (λ x u y d t e. refl) (λ x t e. e) (λ x u y d t e. refl) []

  -- loops take a token at each turn
  pub command_eats : Eats (r.command bytes list)
  command_eats = exact_eats command_exact command_solid

  pub proof_eats : Eats (r.proof bytes list)
  proof_eats = exact_eats proof_exact proof_solid
