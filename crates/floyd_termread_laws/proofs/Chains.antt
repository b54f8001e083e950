-- Readings that follow one another, and readings of one token, have one answer.
use Rattle.std.proofs.Common.{◌≡◌, ℕ, Bool, true, false, List, Option, Some, None, Result, Ok, Err, sym, ◌∙◌, subst}
use Rattle.floyd_text.specs.declared.refusal.Refusal.{Refusal}
use Rattle.floyd_lex.specs.declared.kinds.Punctuator.{Punctuator}
use Rattle.floyd_lex.specs.Token.{Token, TokenList}
use Rattle.floyd_tree_sorts.specs.declared.sorts.Sort.{Sort}
use Rattle.floyd_termread_tables.specs.declared.values.Want.TheVariants as want
use Rattle.floyd_termread_scope.specs.Scopes.{Env}
use Rattle.floyd_termread_passages.specs.Passages.{term_passage, formula_passage, type_passage, path_passage}
use Rattle.floyd_termread_phrases.specs.Reads.{Answer, Reads, pure, after, ◌>>=◌, ◌>>◌}
use Rattle.floyd_termread_phrases.specs.Phrases as phrase
use Rattle.floyd_termread_phrases.specs.Laws.{OneAnswer}
use Rattle.floyd_termread_phrases.proofs.PhraseLemmas.{one_answer}
use Rattle.floyd_termread_marks.specs.declared.words.AssertionWord.{AssertionWord}
use Rattle.floyd_termread_marks.specs.Marks.{chosen, one, mark, word, if_next, is_next}
use Rattle.floyd_termread_parts.specs.Objects.{given}
use Rattle.floyd_termread_parts.specs.Parts.{checked}

pub pure_once : {A : Type 0} (x : A) → OneAnswer (pure x)
pure_once x at a b p q = p ∙ sym q

module _ {A B : Type 0} (first : Reads A) (next : A → Reads B) (each : (x : A) → OneAnswer (next x)) where
  behind_once : (middle : Answer A) (a b : Answer B) → after next middle a → after next middle b → a ≡ b
  behind_once (Ok read) a b p q = each read.0 read.1 a b p q
  behind_once (Err refusal) a b p q = p ∙ sym q

  -- one behind the other
  pub in_turn : OneAnswer first → OneAnswer (first >>= next)
  in_turn once at a b p q =
      behind_once p.0 a b p.2 (subst (λ (m : Answer A). after next m b) (once at q.0 p.0 q.1 p.1) q.2)

pub then : {A B : Type 0} (first : Reads A) (second : Reads B) → OneAnswer first → OneAnswer second → OneAnswer (first >> second)
then first second once twice = in_turn first (λ _. second) (λ x. twice) once

pub chosen_once : {A : Type 0} (b : Bool) (first second : Reads A) → OneAnswer first → OneAnswer second → OneAnswer (chosen b first second)
chosen_once true first second once twice = once
chosen_once false first second once twice = twice

pub given_once : {A : Type 0} (refusal : Refusal) (found : Option A) → OneAnswer (given refusal found)
given_once refusal None at a b p q = p ∙ sym q
given_once refusal (Some x) at a b p q = p ∙ sym q

pub checked_once : {A : Type 0} (found : Result A Refusal) → OneAnswer (checked found)
checked_once (Ok x) at a b p q = p ∙ sym q
checked_once (Err refusal) at a b p q = p ∙ sym q

module _ (bytes : List ℕ) (list : TokenList) where
  pub if_next_once : {A : Type 0} (test : Token → Bool) (first second : Reads A) → OneAnswer first → OneAnswer second → OneAnswer (if_next bytes list test first second)
  if_next_once test first second once twice at = chosen_once (is_next bytes list test at) first second once twice at

  module _ (depth : ℕ) where
    pub one_once : {A : Type 0} (find : Token → Option A) → OneAnswer (one bytes list depth find)
    one_once find at a b p q = p ∙ sym q

    pub mark_once : (which : Punctuator) → OneAnswer (mark bytes list depth which)
    mark_once which at a b p q = p ∙ sym q

    pub word_once : (which : AssertionWord) → OneAnswer (word bytes list depth which)
    word_once which at a b p q = p ∙ sym q

    module _ (env : Env) where
      pub term_once : (expected : Option Sort) → OneAnswer (phrase.term bytes list depth env expected)
      term_once expected = one_answer (term_passage env expected) want.Term bytes list depth

      pub formula_once : OneAnswer (phrase.formula bytes list depth env)
      formula_once = one_answer (formula_passage env) want.Formula bytes list depth

      pub type_once : OneAnswer (phrase.type_name bytes list depth env)
      type_once = one_answer (type_passage env) want.Type bytes list depth

      pub path_once : OneAnswer (phrase.path bytes list depth env)
      path_once = one_answer (path_passage env) want.Path bytes list depth
