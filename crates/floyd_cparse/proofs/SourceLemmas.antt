-- What all tokens of a source read as, and what their refusal is.
use Rattle.std.proofs.Common.{◌≡◌, ℕ, true, List, Result, Ok, Err, sym, ◌∙◌, ap}
use Rattle.floyd_text.specs.declared.refusal.Refusal.{Refusal}
use Rattle.floyd_lex.specs.Token.{TokenList}
use Rattle.floyd_grammar.specs.declared.stop.Fault.{Fault}
use Rattle.floyd_grammar.specs.ParseClauses.{whole}
use Rattle.floyd_grammar.specs.Refused.{IsRefused}
use Rattle.floyd_grammar.proofs.OneFault.{one_refusal}
use Rattle.floyd_grammar.proofs.Whole.{all_found, all_refused, unique, prefix_front}
use Rattle.floyd_cparse_trees.specs.declared.declarations.CUnit.{CUnit}
use Rattle.floyd_cparse_tokens.specs.Tokens.{Sight}
use Rattle.floyd_cparse.specs.Source.{tokens_of, refusal_behind, IsRead, HasOneReading, BeginningsAreFronts}
use Rattle.floyd_cparse.specs.UnitClauses as r
use Rattle.floyd_cparse.specs.Units as g
use Rattle.floyd_cparse.proofs.UnitExact.{unit_exact}

pub reads_all : (ts : List Sight) (tree : CUnit) → whole r.unit ts ≡ Ok tree → g.unit.reads ts tree
reads_all ts tree e = all_found r.unit g.unit (λ s. true) (λ s. true) (λ x s. true) unit_exact ts tree e

pub refuses_all : (ts : List Sight) (fault : Fault) → whole r.unit ts ≡ Err fault → IsRefused g.unit ts fault
refuses_all ts fault e = all_refused r.unit g.unit (λ s. true) (λ s. true) (λ x s. true) unit_exact ts fault e

module _ (file : ℕ) (bytes : List ℕ) (list : TokenList) where
  one_tree : (x y : CUnit) → g.unit.reads (tokens_of bytes list) x → g.unit.reads (tokens_of bytes list) y → x ≡ y
  one_tree x y d e = unique r.unit g.unit (λ s. true) (λ s. true) (λ x s. true) unit_exact (tokens_of bytes list) x y d e

  same_reading : (a b : Result CUnit Refusal) → IsRead file bytes list a → IsRead file bytes list b → a ≡ b
  same_reading (Ok x) (Ok y) d e = ap (λ (z : CUnit). Ok z) (one_tree x y d e)
  same_reading (Ok x) (Err q) d e = absurd (e.1.no_reading x d)
  same_reading (Err p) (Ok y) d e = absurd (d.1.no_reading y e)
  same_reading (Err p) (Err q) d e =
      let one = one_refusal g.unit (tokens_of bytes list) (refusal_behind file bytes (tokens_of bytes list)) d.0 e.0 d.1 e.1 in
      ap (λ (z : Refusal). Err z) (d.2 ∙ one ∙ sym e.2)

pub one_reading : HasOneReading
one_reading = same_reading

pub fronts : BeginningsAreFronts
fronts u v tree d = prefix_front r.unit g.unit (λ s. true) (λ s. true) (λ x s. true) unit_exact u v tree d
