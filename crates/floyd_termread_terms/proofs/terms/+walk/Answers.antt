use Rattle.std.proofs.Common.{◌≡◌, max, List, refl, ap, sym, arith}
use Rattle.floyd_termread_groups.specs.declared.grouped.Grouped.{Grouped}
use Rattle.floyd_termread_scope.specs.Scopes.{env}
use Rattle.floyd_termread_wants.proofs.JudgedLists.{judges_as}
use Rattle.floyd_termread_brackets.specs.declared.slots.Part.{Part}
use Rattle.floyd_termread_brackets.specs.Brackets.{closed_type}
use Rattle.floyd_termread_terms.specs.Rows.{negated_all}
use Rattle.floyd_termread_terms.specs.Terms.{sense_of}
use Rattle.floyd_termread_terms.proofs.Chains.{judges_stop, one_stops, one_goes}
use Rattle.floyd_termread_terms.proofs.Heights.{height, highest, highest_link, height_bracket, height_prefixed, height_row, bracket_height}
use Rattle.floyd_termread_terms.proofs.PartLemmas.{part_stops, part_next}
use Rattle.floyd_termread_terms.proofs.RowLemmas.{operand_stops, with_stops, link_next}
use Rattle.floyd_termread_terms.proofs.TermLemmas.{as_bracket, as_prefixed, as_row, type_parts, no_type_prefixed, no_type_row}
use Rattle.floyd_termread_terms.proofs.terms.+walk.Goals as goal

pub judge_term-returns-in-Missing : goal.judge_term-returns-in-Missing
judge_term-returns-in-Missing t c = record { exact = ap (λ (x : Grouped). (sense_of x).term (env c.args.scope.now c.args.bound.now) c.args.wanted.now) c.in-Missing.is }

pub judge_term-returns-in-Struct : goal.judge_term-returns-in-Struct
judge_term-returns-in-Struct t c = record { exact = ap (λ (x : Grouped). (sense_of x).term (env c.args.scope.now c.args.bound.now) c.args.wanted.now) c.in-Struct.is }

pub judge_term-returns-in-Field : goal.judge_term-returns-in-Field
judge_term-returns-in-Field t c = record { exact = ap (λ (x : Grouped). (sense_of x).term (env c.args.scope.now c.args.bound.now) c.args.wanted.now) c.in-Field.is }

pub judge_term-returns-in-Literal : goal.judge_term-returns-in-Literal
judge_term-returns-in-Literal t c = record {
  exact = judges_as _ _ _ _ (ap (λ (x : Grouped). (sense_of x).term (env c.args.scope.now c.args.bound.now) c.args.wanted.now) c.in-Literal.is) c.literal_term.ensures.exact;
}

pub judge_term-returns-in-Name : goal.judge_term-returns-in-Name
judge_term-returns-in-Name t c = record {
  exact = judges_as _ _ _ _ (ap (λ (x : Grouped). (sense_of x).term (env c.args.scope.now c.args.bound.now) c.args.wanted.now) c.in-Name.is) c.variable.ensures.exact;
}

pub judge_term-returns-in-Word : goal.judge_term-returns-in-Word
judge_term-returns-in-Word t c = record {
  exact = judges_as _ _ _ _ (ap (λ (x : Grouped). (sense_of x).term (env c.args.scope.now c.args.bound.now) c.args.wanted.now) c.in-Word.is) c.word_term.ensures.exact;
}

pub judge_term-bracket-requires : goal.judge_term-bracket-requires
judge_term-bracket-requires t c =
    (omega (arith, c.decreases, ap height c.in-Bracket.is, height_bracket c.in-Bracket.opening c.in-Bracket.place c.in-Bracket.items c.in-Bracket.close, ap highest c.as_slice.ensures), tt)

pub judge_term-returns-in-Bracket : goal.judge_term-returns-in-Bracket
judge_term-returns-in-Bracket t c = record {
  exact = judges_as _ _ _ _
      (as_bracket (env c.args.scope.now c.args.bound.now) c.args.wanted.now c.args.tree.now c.in-Bracket.opening c.in-Bracket.place c.in-Bracket.items c.as_slice.result.now c.in-Bracket.close c.in-Bracket.is c.as_slice.ensures)
      c.bracket.ensures.exact;
}

pub judge_term-judge_term-requires : goal.judge_term-judge_term-requires
judge_term-judge_term-requires t c =
    (omega (arith, c.decreases, ap height c.in-Prefixed.is, height_prefixed c.in-Prefixed.prefixes c.in-Prefixed.operand, ap height c.get.ensures), tt)

pub judge_term-returns-in_err-t-in-Prefixed : goal.judge_term-returns-in_err-t-in-Prefixed
judge_term-returns-in_err-t-in-Prefixed t c = record {
  exact = one_stops _ _ _ _ ((sense_of c.get.result.now).term (env c.args.scope.now c.args.bound.now) _) (negated_all c.args.wanted.now c.in-Prefixed.prefixes)
      (as_prefixed (env c.args.scope.now c.args.bound.now) c.args.wanted.now c.args.tree.now c.in-Prefixed.prefixes c.in-Prefixed.prefixes c.in-Prefixed.operand c.get.result.now c.in-Prefixed.is refl c.get.ensures)
      c.from_residual.ensures.1 c.in_err-t-in-Prefixed.ensures.exact;
}

pub judge_term-returns-in_ok-t-in-Prefixed : goal.judge_term-returns-in_ok-t-in-Prefixed
judge_term-returns-in_ok-t-in-Prefixed t c = record {
  exact = one_goes _ _ _ ((sense_of c.get.result.now).term (env c.args.scope.now c.args.bound.now) _) (negated_all c.args.wanted.now c.as_slice-in-Prefixed.result.now) _
      (as_prefixed (env c.args.scope.now c.args.bound.now) c.args.wanted.now c.args.tree.now c.in-Prefixed.prefixes c.as_slice-in-Prefixed.result.now c.in-Prefixed.operand c.get.result.now c.in-Prefixed.is c.as_slice-in-Prefixed.ensures c.get.ensures)
      c.in_ok-t-in-Prefixed.ensures.exact c.negated_all.ensures.exact;
}

pub judge_term-row-requires : goal.judge_term-row-requires
judge_term-row-requires t c =
    (omega (arith, c.decreases, ap height c.in-Row.is, height_row c.in-Row.strength c.in-Row.first c.in-Row.links, ap height c.get-in-Row.ensures, ap highest_link c.as_slice-in-Row.ensures), tt)

pub judge_term-returns-in-Row : goal.judge_term-returns-in-Row
judge_term-returns-in-Row t c = record {
  exact = judges_as _ _ _ _
      (as_row (env c.args.scope.now c.args.bound.now) c.args.wanted.now c.args.tree.now c.in-Row.strength c.in-Row.first c.get-in-Row.result.now c.in-Row.links c.as_slice-in-Row.result.now c.in-Row.is c.get-in-Row.ensures c.as_slice-in-Row.ensures)
      c.row.ensures.exact;
}

pub judge_type-parts-requires : goal.judge_type-parts-requires
judge_type-parts-requires t c = (omega (arith, c.decreases, bracket_height _ _ _ _ _ _ c.in-Bracket.is c.as_slice.ensures), tt)

pub judge_type-returns-in_err-parts-in-Bracket : goal.judge_type-returns-in_err-parts-in-Bracket
judge_type-returns-in_err-parts-in-Bracket t c = record {
  exact = one_stops _ _ _ _ _ (λ xs. closed_type c.in-Bracket.opening xs c.in-Bracket.close)
      (type_parts (env c.args.scope.now c.args.bound.now) c.args.tree.now c.in-Bracket.opening _ c.in-Bracket.items c.as_slice.result.now c.in-Bracket.close c.in_ok-slots-in-Bracket.slots c.in-Bracket.is c.as_slice.ensures c.in_ok-slots-in-Bracket.ensures.exact)
      c.from_residual-in_err-parts-in-Bracket.ensures.1 c.in_err-parts-in-Bracket.ensures.exact;
}

pub judge_type-returns-in_ok-parts-in-Bracket : goal.judge_type-returns-in_ok-parts-in-Bracket
judge_type-returns-in_ok-parts-in-Bracket t c = record {
  exact = one_goes _ _ _ _ (λ xs. closed_type c.in-Bracket.opening xs c.in-Bracket.close) _
      (type_parts (env c.args.scope.now c.args.bound.now) c.args.tree.now c.in-Bracket.opening _ c.in-Bracket.items c.as_slice.result.now c.in-Bracket.close c.in_ok-slots-in-Bracket.slots c.in-Bracket.is c.as_slice.ensures c.in_ok-slots-in-Bracket.ensures.exact)
      c.in_ok-parts-in-Bracket.ensures.exact
      (judges_as _ _ _ _ (ap (λ (xs : List Part). closed_type c.in-Bracket.opening xs c.in-Bracket.close) (sym c.as_slice-given.ensures)) c.closed_type.ensures.exact);
}

pub judge_type-returns-in-Prefixed : goal.judge_type-returns-in-Prefixed
judge_type-returns-in-Prefixed t c = record { exact = no_type_prefixed _ _ _ _ c.in-Prefixed.is }

pub judge_type-returns-in-Row : goal.judge_type-returns-in-Row
judge_type-returns-in-Row t c = record { exact = no_type_row _ _ _ _ _ c.in-Row.is }

pub parts-judge_part-requires : goal.parts-judge_part-requires
parts-judge_part-requires t c =
    let parts : highest c.items.rest.now ≡ max (height c.in-Some.item.now) (highest c.in-Some.behind.now) = ap highest c.in-Some.ensures.cases.0 in
    (omega (arith, c.decreases, c.items.invariant.low, parts), tt)

pub parts-returns-in_err-part : goal.parts-returns-in_err-part
parts-returns-in_err-part t c = record {
  exact = judges_stop _ _ _ _ _ refl c.from_residual-in_err-part.ensures.1
      (part_stops (env c.args.scope.now c.args.bound.now) c.args.slots.now c.items.known c.items.all c.items.rest.now c.in-Some.behind.now c.in-Some.item.now _ c.in-Some.ensures.cases.0 c.items.invariant.done
      c.len-number.result c.in_ok-goal.goal c.len-number.ensures c.in_ok-goal.ensures _ c.in_err-part.ensures.exact);
}

pub parts-items-preserved : goal.parts-items-preserved
parts-items-preserved t c = record {
  done = part_next (env c.args.scope.now c.args.bound.now) c.args.slots.now c.items.known c.items.all c.items.rest.now c.in-Some.behind.now c.in-Some.item.now _ c.in-Some.ensures.cases.0 c.items.invariant.done
      c.len-number.result c.in_ok-goal.goal c.len-number.ensures c.in_ok-goal.ensures c.in_ok-part.part c.len-number.result c.at.result.now c.in_ok-known.known c.push.new.self c.in_ok-part.ensures.exact c.len-number.ensures c.at.ensures c.in_ok-known.ensures c.in_ok-push.ensures.ok;
  low =
      let parts : highest c.items.rest.now ≡ max (height c.in-Some.item.now) (highest c.in-Some.behind.now) = ap highest c.in-Some.ensures.cases.0 in
      omega (arith, c.items.invariant.low, parts);
}

pub rest_of_row-judge_term-requires : goal.rest_of_row-judge_term-requires
rest_of_row-judge_term-requires t c =
    let parts : highest_link c.links.rest.now ≡ max (height c.in-Some.link.now.operand) (highest_link c.in-Some.behind.now) = ap highest_link c.in-Some.ensures.cases.0 in
    (omega (arith, c.decreases, c.links.invariant.low, parts), tt)

pub rest_of_row-returns-in_err-term : goal.rest_of_row-returns-in_err-term
rest_of_row-returns-in_err-term t c = record {
  exact = judges_stop _ _ _ _ _ refl c.from_residual-in_err-term.ensures.1
      (operand_stops (env c.args.scope.now c.args.bound.now) c.args.wanted.now c.links.row c.links.rest.now c.in-Some.behind.now c.in-Some.link.now _ c.in-Some.ensures.cases.0 c.links.invariant.done
      c.is_end-last.result c.in_ok-side.side c.is_end-last.ensures c.in_ok-side.ensures _ c.in_err-term.ensures.exact);
}

pub rest_of_row-returns-in_err-row : goal.rest_of_row-returns-in_err-row
rest_of_row-returns-in_err-row t c = record {
  exact = judges_stop _ _ _ _ _ refl c.from_residual-in_err-row.ensures.1
      (with_stops (env c.args.scope.now c.args.bound.now) c.args.wanted.now c.links.row c.links.rest.now c.in-Some.behind.now c.in-Some.link.now _ c.in-Some.ensures.cases.0 c.links.invariant.done
      c.is_end-last.result c.in_ok-side.side c.is_end-last.ensures c.in_ok-side.ensures c.in_ok-term.term c.first_place-place.result c.first_place-place.ensures c.in_ok-term.ensures.exact _ c.in_err-row.ensures.exact);
}

pub rest_of_row-links-preserved : goal.rest_of_row-links-preserved
rest_of_row-links-preserved t c = record {
  done = link_next (env c.args.scope.now c.args.bound.now) c.args.wanted.now c.links.row c.links.rest.now c.in-Some.behind.now c.in-Some.link.now _ c.in-Some.ensures.cases.0 c.links.invariant.done
      c.is_end-last.result c.in_ok-side.side c.is_end-last.ensures c.in_ok-side.ensures c.in_ok-term.term c.first_place-place.result c.first_place-place.ensures c.in_ok-term.ensures.exact c.in_ok-row.row c.in_ok-row.ensures.exact;
  low =
      let parts : highest_link c.links.rest.now ≡ max (height c.in-Some.link.now.operand) (highest_link c.in-Some.behind.now) = ap highest_link c.in-Some.ensures.cases.0 in
      omega (arith, c.links.invariant.low, parts);
}
