-- What passages are, by their trees and their ends.
use Rattle.std.proofs.Common.{◌≡◌, ℕ, List, Some, None, Result, Ok, Err, ap, sym, subst, ◌∙◌}
use Rattle.floyd_text.specs.declared.place.Place.{Place}
use Rattle.floyd_text.specs.declared.refusal.Halt.{Halt}
use Rattle.floyd_text.specs.declared.refusal.Halt.TheVariants.{Refused, Memory}
use Rattle.floyd_text.specs.Gives.{Gives}
use Rattle.floyd_lex.specs.Token.{TokenList}
use Rattle.floyd_termread_trees.specs.declared.written.Written.{Written}
use Rattle.floyd_termread_groups.specs.Groups.{grouped}
use Rattle.floyd_termread_tables.specs.declared.values.Want.{Want}
use Rattle.floyd_termread_tables.specs.declared.values.Want.TheVariants as want
use Rattle.floyd_termread_grammar.specs.Reading.{IsRead}
use Rattle.floyd_termread_grammar.proofs.ReadingLemmas.{one_reading}
use Rattle.floyd_termread_wants.specs.Judging.{Judged}
use Rattle.floyd_termread_terms.specs.Terms.{sense_of}
use Rattle.floyd_termread_forms.specs.Making.{same_wanted}
use Rattle.floyd_termread_passages.specs.Passages.{End, passage}
use Rattle.floyd_termread_phrases.specs.Reads.{Answer, Answers}
use Rattle.floyd_termread_phrases.specs.Phrases as phrase
use Rattle.floyd_termread_phrases.specs.Laws.{OneAnswer, TermIsRead}

-- what was read of a passage
pub answers_as : {A : Type 0} (read : Written → End → Answer A) (wanted : Want) (bytes : List ℕ) (list : TokenList) (depth at : ℕ) (tree : Written) (end : End) (r : Result (A × ℕ) Halt)
    → IsRead bytes list at depth wanted tree end → Gives (λ (x : A × ℕ). x) r (read tree end) → Answers (λ (x : A × ℕ). x) (phrase.passage bytes list depth wanted read at) r
answers_as read wanted bytes list depth at tree end (Ok x) is h = (tree, end, is, sym h)
answers_as read wanted bytes list depth at tree end (Err (Refused refusal)) is h = (tree, end, is, sym h)
answers_as read wanted bytes list depth at tree end (Err Memory) is h = tt

pub one_answer : {A : Type 0} (read : Written → End → Answer A) (wanted : Want) (bytes : List ℕ) (list : TokenList) (depth : ℕ) → OneAnswer (phrase.passage bytes list depth wanted read)
one_answer read wanted bytes list depth at a b p q =
    let same : (p.0 ≡ q.0) × (p.1 ≡ q.1) = one_reading bytes list at depth wanted p.0 q.0 p.1 q.1 p.2 q.2 in
    p.3 ∙ ap (λ (t : Written). read t p.1) same.0 ∙ ap (read q.0) same.1 ∙ sym q.3

whole_of : {A : Type 0} (place : Place) (end : End) (w : Judged A) (x : A) (next : ℕ) → Ok (x, next) ≡ passage place end w → (end ≡ Ok next) × (w ≡ Ok x)
whole_of {A} place (Ok n) (Ok y) x next e =
    let pair : (x, next) ≡ (y, n) = cc in
    (ap (λ (p : A × ℕ). Ok p.1) (sym pair), ap (λ (p : A × ℕ). Ok p.0) (sym pair))
whole_of place (Err refusal) (Ok y) x next e = absurd cc
whole_of place end (Err (Some refusal)) x next e = absurd cc
whole_of place end (Err None) x next e = absurd cc

pub term_is_read : TermIsRead
term_is_read bytes list depth e expected at t next = (
  λ p.
      let place : Place = (sense_of (grouped p.0)).place in
      let whole : (p.1 ≡ Ok next) × ((sense_of (grouped p.0)).term e (same_wanted expected) ≡ Ok t) = whole_of place p.1 ((sense_of (grouped p.0)).term e (same_wanted expected)) t next p.3 in
      (p.0, subst (λ (n : End). IsRead bytes list at depth want.Term p.0 n) whole.0 p.2, whole.1),
  λ p.
      (p.0, Ok next, p.1, sym (ap (passage (sense_of (grouped p.0)).place (Ok next)) p.2)),
)
