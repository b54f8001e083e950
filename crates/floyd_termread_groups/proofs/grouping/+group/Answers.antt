use Rattle.std.proofs.Common.{◌≡◌, suc, max, List, ◌∷◌, length, IfOk, subst, sym, ap, ◌∙◌, arith}
use Rattle.floyd_termread_groups.specs.declared.grouped.Grouped.{Grouped}
use Rattle.floyd_termread_groups.specs.declared.strengths.Level.{Level}
use Rattle.floyd_termread_groups.specs.HeightClauses.{height, highest, highest_link}
use Rattle.floyd_termread_groups.specs.Groups.{operand_of, grouped}
use Rattle.floyd_termread_groups.proofs.RowLemmas.{row_between, link_turn}
use Rattle.floyd_termread_groups.proofs.Heights.{height_chain, height_prefixed, height_bracket, taken_link}
use Rattle.floyd_termread_groups.proofs.TreeLemmas.{missing_is, literal_is, word_is, name_is, struct_is, field_is, bracket_is, prefixed_is, chain_is}
use Rattle.floyd_termread_groups.proofs.grouping.+group.Goals as goal

pub group-group_all-requires : goal.group-group_all-requires
group-group_all-requires t c =
    (omega (arith, c.decreases, ap height c.in-Bracket.is, height_bracket c.in-Bracket.opening c.in-Bracket.place c.in-Bracket.items c.in-Bracket.close, ap highest c.as_slice.ensures), tt)

pub group-group_row-requires : goal.group-group_row-requires
group-group_row-requires t c =
    (omega (arith, c.decreases, ap height c.in-Prefixed.is, height_prefixed c.in-Prefixed.prefixes c.in-Prefixed.operand, ap height c.get.ensures, ap (λ (l : List Level). length l) c.table.ensures), tt)

pub group-group_operand-requires : goal.group-group_operand-requires
group-group_operand-requires t c =
    (omega (arith, c.decreases, ap height c.in-Chain.is, height_chain c.in-Chain.first c.in-Chain.links, ap height c.get-in-Chain.ensures, ap highest_link c.as_slice-in-Chain.ensures, ap (λ (l : List Level). length l) c.table-in-Chain.ensures), tt)

pub group-returns-in-Missing : goal.group-returns-in-Missing
group-returns-in-Missing t c = record { exact = missing_is c.args.tree.now c.in-Missing.is }

pub group-returns-in-Literal : goal.group-returns-in-Literal
group-returns-in-Literal t c = record { exact = literal_is c.args.tree.now c.in-Literal.value c.in-Literal.place c.in-Literal.is }

pub group-returns-in_ok-copy_identifier-in-Name : goal.group-returns-in_ok-copy_identifier-in-Name
group-returns-in_ok-copy_identifier-in-Name t c = record { exact = name_is c.args.tree.now _ _ c.in-Name.is c.in_ok-copy_identifier-in-Name.ensures }

pub group-returns-in-Word : goal.group-returns-in-Word
group-returns-in-Word t c = record { exact = word_is c.args.tree.now _ _ c.in-Word.is }

pub group-returns-in_ok-copy_identifier-in-Struct : goal.group-returns-in_ok-copy_identifier-in-Struct
group-returns-in_ok-copy_identifier-in-Struct t c = record { exact = struct_is c.args.tree.now _ _ _ c.in-Struct.is c.in_ok-copy_identifier-in-Struct.ensures }

pub group-returns-in_ok-copy_identifier-in-Field : goal.group-returns-in_ok-copy_identifier-in-Field
group-returns-in_ok-copy_identifier-in-Field t c = record { exact = field_is c.args.tree.now _ _ _ c.in-Field.is c.in_ok-copy_identifier-in-Field.ensures }

pub group-returns-in_ok-items-in-Bracket : goal.group-returns-in_ok-items-in-Bracket
group-returns-in_ok-items-in-Bracket t c = record { exact = bracket_is c.args.tree.now _ _ _ _ c.as_slice.result.now _ _ c.in-Bracket.is c.in_ok-opening-in-Bracket.ensures c.as_slice.ensures c.in_ok-items-in-Bracket.ensures.exact }

pub group-returns-in-Prefixed : goal.group-returns-in-Prefixed
group-returns-in-Prefixed t c =
    record {
      exact = subst (λ (y : Grouped). IfOk c.group_row.result (λ x. x ≡ y))
          (prefixed_is c.args.tree.now c.table.result _ c.as_slice-in-Prefixed.result.now _ c.get.result.now c.in-Prefixed.is c.table.ensures c.as_slice-in-Prefixed.ensures c.get.ensures) c.group_row.ensures.exact;
    }

pub group-returns-in-Chain : goal.group-returns-in-Chain
group-returns-in-Chain t c =
    record {
      exact = subst (λ (y : Grouped). IfOk c.group_operand.result (λ x. x ≡ y))
          (chain_is c.args.tree.now c.table-in-Chain.result _ c.get-in-Chain.result.now _ c.as_slice-in-Chain.result.now c.in-Chain.is c.table-in-Chain.ensures c.get-in-Chain.ensures c.as_slice-in-Chain.ensures) c.group_operand.ensures.exact;
    }

pub group_links-group_link-requires : goal.group_links-group_link-requires
group_links-group_link-requires t c =
    let parts : highest_link c.each.rest.now ≡ max (height c.in-Some.link.now.operand) (highest_link c.in-Some.behind.now) = ap highest_link c.in-Some.ensures.cases.0 in
    (omega (arith, c.decreases, c.each.invariant.low, parts, taken_link c.count_until-end.result c.in-Some.behind.now), tt)

pub group_links-each-preserved-in_ok-push : goal.group_links-each-preserved-in_ok-push
group_links-each-preserved-in_ok-push t c =
    let parts : highest_link c.each.rest.now ≡ max (height c.in-Some.link.now.operand) (highest_link c.in-Some.behind.now) = ap highest_link c.in-Some.ensures.cases.0 in
    record {
      done = link_turn c.args.strength c.args.stronger.now c.in-Some.link.now c.in-Some.behind.now c.each.rest.now c.in-Some.ensures.cases.0 (sym c.has_strength.ensures ∙ c.if-has_strength.true)
          c.count_until-end.result c.in_ok-group_link.field-0 c.each.all c.push.new.self _ c.count_until-end.ensures.value c.in_ok-group_link.ensures.exact c.in_ok-push.ensures.ok c.each.invariant.done;
      low = omega (arith, c.each.invariant.low, parts);
    }

pub group_row-group_row-requires-in-Between : goal.group_row-group_row-requires-in-Between
group_row-group_row-requires-in-Between t c =
    let levels : length c.args.levels.now ≡ suc (length c.in-Some.stronger.now) = ap (λ (l : List Level). length l) c.in-Some.ensures.cases.0 in
    (omega (arith, c.decreases, levels, taken_link c.count_until-end.result c.args.links.now), tt)

pub group_row-returns-in_ok-more-in-Between : goal.group_row-returns-in_ok-more-in-Between
group_row-returns-in_ok-more-in-Between t c =
    record {
      exact = subst (λ (y : Grouped). IfOk c.joined.result (λ x. x ≡ y))
          (row_between c.args.levels.now c.in-Between.strength c.in-Some.stronger.now (operand_of c.args.prefixes.now (grouped c.args.atom.now)) c.args.links.now c.count_until-end.result c.in_ok-first-in-Between.first c.in_ok-more-in-Between.more
          (c.in-Some.ensures.cases.0 ∙ ap (λ (l : Level). l ∷ c.in-Some.stronger.now) c.in-Between.is) c.count_until-end.ensures.value c.in_ok-first-in-Between.ensures.exact c.in_ok-more-in-Between.ensures.exact)
          c.joined.ensures;
    }
