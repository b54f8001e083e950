-- What stands before a refused token reads where the text is cut off.
use Rattle.std.proofs.Common.{◌≡◌, ℕ, suc, ◌-◌, ◌≤◌, List, [], ◌++◌, length, take, refl, sym, ◌∙◌, ap, subst, append-nil, arith}
use Rattle.floyd_lex.specs.Token.{Token, TokenList}
use Rattle.floyd_grammar.specs.declared.stop.Fault.{Fault}
use Rattle.floyd_grammar.specs.Refused.{IsRefused}
use Rattle.floyd_termread_trees.specs.declared.written.Written.{Written}
use Rattle.floyd_termread_tokens.specs.SeenClauses.{tokens_from, tokens_until}
use Rattle.floyd_termread_tokens.proofs.SeenLemmas.{count_from}
use Rattle.floyd_termread_tables.specs.declared.values.Want.{Want}
use Rattle.floyd_termread_grammar.specs.Reading.{ReadsUpTo, refused_number, whole}
use Rattle.floyd_termread_grammar.specs.Terms.{nested}
use Rattle.floyd_termread_fronts.specs.Fronts.{FrontsRead}
use Rattle.floyd_termread_fronts.proofs.Fills.{ends, Filled, Fills, filled_at}
use Rattle.floyd_termread_fronts.proofs.TermFills.{nested_fills}

module _ (bytes : List ℕ) (list : TokenList) (at depth : ℕ) (wanted : Want) (within : depth ≤ 200) where
  abbrev ts : List Token
  ts = tokens_from bytes list at

  room : 201 - depth ≡ suc (200 - depth)
  room = omega (arith, within)

  whole_fills : Fills (whole depth wanted)
  whole_fills = subst (λ (n : ℕ). Fills (nested n wanted 0)) (sym room) (nested_fills (200 - depth) wanted 0)

  -- where so many tokens are a front
  front_reads : (n end : ℕ) → end - at ≡ n → (whole depth wanted).front (take n ts) → (cuts : ℕ) × (front : Written) × ReadsUpTo depth wanted (tokens_until bytes list at end cuts) [] front
  front_reads n end e d =
      let f : Filled (whole depth wanted) (take n ts) = filled_at (whole depth wanted) whole_fills (take n ts) d in (
        f.0,
        (f.1).tree,
        record {
          front = take n ts ++ ends f.0;
          operand = f.1;
          cut = ap (λ (m : ℕ). take m ts ++ ends f.0) e ∙ sym (append-nil (take n ts ++ ends f.0));
          reads = f.2;
          ends = tt;
          same = refl;
        },
      )

  refused_front : (fault : Fault) → IsRefused (whole depth wanted) ts fault → (cuts : ℕ) × (front : Written) × ReadsUpTo depth wanted (tokens_until bytes list at (refused_number list at fault) cuts) [] front
  refused_front fault d =
      front_reads (length ts - fault.left) (refused_number list at fault) (omega (arith, count_from bytes list at)) (d.place.so_far (length ts - fault.left) (omega arith))

pub fronts_read : FrontsRead
fronts_read bytes list at depth wanted tree refusal within d = refused_front bytes list at depth wanted within d.fault d.refused
