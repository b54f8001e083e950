-- A pattern that is no word alone.
use Rattle.std.proofs.Common.{◌≡◌, ℕ, Bool, true, false, List, Result, sym, subst}
use Rattle.floyd_text.specs.declared.refusal.Halt.{Halt}
use Rattle.floyd_lex.specs.Token.{TokenList}
use Rattle.floyd_assert_trees.specs.declared.pattern.Pattern.{Pattern}
use Rattle.floyd_assert_trees.specs.declared.pattern.Pattern.TheVariants.{Nil, Leaf}
use Rattle.floyd_termread_phrases.specs.Reads.{Answers, Reads}
use Rattle.floyd_termread_marks.specs.Marks.{chosen, if_next, is_next}
use Rattle.floyd_specread_words.specs.declared.words.SpecWord.TheVariants as w
use Rattle.floyd_specread_words.specs.Words.{is_word}
use Rattle.floyd_specread_patterns.specs.Patterns.{bare, cons, node, pattern}

module _ (first second : Reads Pattern) (t : Bool) (at : ℕ) (r : Result (Pattern × ℕ) Halt) where
  is_first : t ≡ true → Answers (λ (x : Pattern × ℕ). x) (first at) r → Answers (λ (x : Pattern × ℕ). x) (chosen t first second at) r
  is_first e h = subst (λ (b : Bool). Answers (λ (x : Pattern × ℕ). x) (chosen b first second at) r) (sym e) h

  is_second : t ≡ false → Answers (λ (x : Pattern × ℕ). x) (second at) r → Answers (λ (x : Pattern × ℕ). x) (chosen t first second at) r
  is_second e h = subst (λ (b : Bool). Answers (λ (x : Pattern × ℕ). x) (chosen b first second at) r) (sym e) h

module _ (bytes : List ℕ) (list : TokenList) (at : ℕ) (r : Result (Pattern × ℕ) Halt) (no_nil : is_next bytes list (is_word w.Nil) at ≡ false) (no_leaf : is_next bytes list (is_word w.Leaf) at ≡ false) where
  behind_words : Answers (λ (x : Pattern × ℕ). x) (if_next bytes list (is_word w.Node) (node bytes list) (cons bytes list) at) r → Answers (λ (x : Pattern × ℕ). x) (pattern bytes list at) r
  behind_words h =
      is_second (bare bytes list w.Nil Nil) (if_next bytes list (is_word w.Leaf) (bare bytes list w.Leaf Leaf) (if_next bytes list (is_word w.Node) (node bytes list) (cons bytes list))) (is_next bytes list (is_word w.Nil) at) at r no_nil
      (is_second (bare bytes list w.Leaf Leaf) (if_next bytes list (is_word w.Node) (node bytes list) (cons bytes list)) (is_next bytes list (is_word w.Leaf) at) at r no_leaf h)

  pub is_node : is_next bytes list (is_word w.Node) at ≡ true → Answers (λ (x : Pattern × ℕ). x) (node bytes list at) r → Answers (λ (x : Pattern × ℕ). x) (pattern bytes list at) r
  is_node there h = behind_words (is_first (node bytes list) (cons bytes list) (is_next bytes list (is_word w.Node) at) at r there h)

  pub is_cons : is_next bytes list (is_word w.Node) at ≡ false → Answers (λ (x : Pattern × ℕ). x) (cons bytes list at) r → Answers (λ (x : Pattern × ℕ). x) (pattern bytes list at) r
  is_cons none h = behind_words (is_second (node bytes list) (cons bytes list) (is_next bytes list (is_word w.Node) at) at r none h)
