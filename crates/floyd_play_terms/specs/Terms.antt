-- The terms of a command, from the token of a number on, in what names stand for outside of binders.
--
--   terms    = "(" [term {";" term}] ")"
--   enclosed = "(" term ")"
use Rattle.std.specs.Prelude.{ℕ, List, Option}
use Rattle.floyd_lex.specs.declared.kinds.Punctuator.TheVariants as p
use Rattle.floyd_lex.specs.Token.{TokenList}
use Rattle.floyd_tree_sorts.specs.declared.sorts.Sort.{Sort}
use Rattle.floyd_tree.specs.Plain.{Plain}
use Rattle.floyd_termread_scope.specs.Scopes.{Env}
use Rattle.floyd_termread_phrases.specs.Reads.{Reads, pure, ◌>>=◌}
use Rattle.floyd_termread_phrases.specs.Phrases as phrase
use Rattle.floyd_termread_marks.specs.Lists.{listed}
use Rattle.floyd_termread_marks.specs.Marks.{mark}
use Rattle.floyd_play_terms.specs.declared.expected.Expected.{Expected}
use Rattle.floyd_play_terms.specs.Expected.{expected}

module _ (bytes : List ℕ) (list : TokenList) (env : Env) where
  -- a term behind others
  abbrev pub term_behind : Expected → List Plain → Reads Plain
  term_behind of ts = phrase.term bytes list 1 env (expected of ts)

  abbrev pub terms : Expected → Reads (List Plain)
  terms of = listed bytes list 0 p.Semicolon (term_behind of)

  abbrev pub enclosed : Option Sort → Reads Plain
  enclosed sort = do
    _ ← mark bytes list 0 p.OpenParen
    t ← phrase.term bytes list 1 env sort
    _ ← mark bytes list 1 p.CloseParen
    pure t
