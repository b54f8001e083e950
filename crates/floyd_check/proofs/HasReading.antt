-- The tokens of a source read as a tree or are refused.
use Rattle.std.proofs.Common.{◌≡◌, ℕ, List, Result, Ok, Err, refl}
use Rattle.floyd_text.specs.declared.refusal.Refusal.{Refusal}
use Rattle.floyd_lex.specs.Token.{TokenList}
use Rattle.floyd_grammar.specs.declared.stop.Fault.{Fault}
use Rattle.floyd_grammar.specs.ParseClauses.{whole}
use Rattle.floyd_cparse_trees.specs.declared.declarations.CUnit.{CUnit}
use Rattle.floyd_cparse.specs.Source.{tokens_of, refusal_of, IsRead}
use Rattle.floyd_cparse.specs.UnitClauses as r
use Rattle.floyd_cparse.proofs.SourceLemmas.{reads_all, refuses_all}

pub has_reading : (file : ℕ) (bytes : List ℕ) (list : TokenList) → (answer : Result CUnit Refusal) × IsRead file bytes list answer
has_reading file bytes list = by_read (whole r.unit (tokens_of bytes list)) refl
  where
    by_read : (read : Result CUnit Fault) → whole r.unit (tokens_of bytes list) ≡ read → (answer : Result CUnit Refusal) × IsRead file bytes list answer
    by_read (Ok tree) e = (Ok tree, reads_all (tokens_of bytes list) tree e)
    by_read (Err fault) e = (Err (refusal_of file bytes (tokens_of bytes list) fault), (fault, refuses_all (tokens_of bytes list) fault e, refl))
