use Rattle.std.proofs.Common.{◌≡◌, max, List, map, length, Option, refl, ap, sym, ◌∙◌, arith}
use Rattle.floyd_tree_sorts.specs.declared.sorts.Sort.{Sort}
use Rattle.floyd_termread_groups.specs.declared.grouped.Grouped.{Grouped}
use Rattle.floyd_termread_scope.specs.Scopes.{env, sort_of}
use Rattle.floyd_termread_wants.proofs.JudgedLists.{judges_as}
use Rattle.floyd_termread_terms.proofs.Chains.{judges_stop, one_stops, one_goes}
use Rattle.floyd_termread_terms.proofs.Heights.{height, highest, highest_link, height_prefixed, height_row, bracket_height}
use Rattle.floyd_termread_wants.specs.Judging.{◌>>=◌}
use Rattle.floyd_termread_forms.specs.declared.frames.Frame.{Frame}
use Rattle.floyd_termread_forms.specs.declared.sides.Side.{Side}
use Rattle.floyd_termread_forms.specs.FrameClauses.{behind, bound_by_all, put_back_all}
use Rattle.floyd_termread_forms.specs.Frames.{wrapped}
use Rattle.floyd_termread_forms.specs.Joining.{joined_sides}
use Rattle.floyd_termread_formulas.specs.Formulas.{reading_of, link_reading, sides_of}
use Rattle.floyd_termread_formulas.proofs.FormulaLemmas.{on_ok, as_word, as_lone, as_bracket, as_prefixed, as_row}
use Rattle.floyd_termread_forms.proofs.FrameLemmas.{same_env, hidden_count, under_read, put_back_is}
use Rattle.floyd_termread_formulas.proofs.SideLemmas.{side_is, sides_begin, side_stops, side_next, sides_end}
use Rattle.floyd_termread_formulas.proofs.formulas.+walk.Goals as goal

pub judge_formula-returns-in-Word-clause-exact : goal.judge_formula-returns-in-Word-clause-exact
judge_formula-returns-in-Word-clause-exact t c =
    judges_as _ _ _ _ (as_word (env c.args.scope.now c.args.bound.now) c.args.tree.now c.in-Word.word c.in-Word.place c.in-Word.is) c.word_formula.ensures.exact

pub judge_formula-returns-in-Word-clause-kept : goal.judge_formula-returns-in-Word-clause-kept
judge_formula-returns-in-Word-clause-kept t c = on_ok c.word_formula.result refl

pub judge_formula-returns-in-Bracket-clause-exact : goal.judge_formula-returns-in-Bracket-clause-exact
judge_formula-returns-in-Bracket-clause-exact t c =
    judges_as _ _ _ _
    (as_bracket (env c.args.scope.now c.args.bound.now) c.args.tree.now c.in-Bracket.opening _ c.in-Bracket.items c.as_slice.result.now c.in-Bracket.close c.in-Bracket.is c.as_slice.ensures)
    c.bracket_formula.ensures.exact

pub judge_formula-returns-in-Prefixed-clause-exact : goal.judge_formula-returns-in-Prefixed-clause-exact
judge_formula-returns-in-Prefixed-clause-exact t c =
    judges_as _ _ _ _
    (as_prefixed (env c.args.scope.now c.args.bound.now) c.args.tree.now c.in-Prefixed.prefixes c.as_slice-in-Prefixed.result.now c.in-Prefixed.operand c.get.result.now c.in-Prefixed.is c.as_slice-in-Prefixed.ensures c.get.ensures)
    c.prefixed_formula.ensures.exact

pub judge_formula-returns-in-Row-clause-exact : goal.judge_formula-returns-in-Row-clause-exact
judge_formula-returns-in-Row-clause-exact t c =
    judges_as _ _ _ _
    (as_row (env c.args.scope.now c.args.bound.now) c.args.tree.now c.in-Row.strength c.in-Row.first c.get-in-Row.result.now c.in-Row.links c.as_slice-in-Row.result.now c.in-Row.is c.get-in-Row.ensures c.as_slice-in-Row.ensures)
    c.row_formula.ensures.exact

pub judge_formula-returns-in-Missing-clause-exact : goal.judge_formula-returns-in-Missing-clause-exact
judge_formula-returns-in-Missing-clause-exact t c = ap (λ (x : Grouped). (reading_of x).formula (env c.args.scope.now c.args.bound.now)) c.in-Missing.is

pub judge_formula-returns-in-Literal-clause-exact : goal.judge_formula-returns-in-Literal-clause-exact
judge_formula-returns-in-Literal-clause-exact t c = judges_as _ _ _ _ (as_lone (env c.args.scope.now c.args.bound.now) c.args.tree.now _ c.in-Literal.is refl) c.lone.ensures.exact

pub judge_formula-returns-in-Literal-clause-kept : goal.judge_formula-returns-in-Literal-clause-kept
judge_formula-returns-in-Literal-clause-kept t c = on_ok c.lone.result refl

pub judge_formula-returns-in-Name-clause-exact : goal.judge_formula-returns-in-Name-clause-exact
judge_formula-returns-in-Name-clause-exact t c = judges_as _ _ _ _ (as_lone (env c.args.scope.now c.args.bound.now) c.args.tree.now _ c.in-Name.is refl) c.lone-in-Name.ensures.exact

pub judge_formula-returns-in-Name-clause-kept : goal.judge_formula-returns-in-Name-clause-kept
judge_formula-returns-in-Name-clause-kept t c = on_ok c.lone-in-Name.result refl

pub judge_formula-returns-in-Struct-clause-exact : goal.judge_formula-returns-in-Struct-clause-exact
judge_formula-returns-in-Struct-clause-exact t c = ap (λ (x : Grouped). (reading_of x).formula (env c.args.scope.now c.args.bound.now)) c.in-Struct.is

pub judge_formula-returns-in-Field-clause-exact : goal.judge_formula-returns-in-Field-clause-exact
judge_formula-returns-in-Field-clause-exact t c = ap (λ (x : Grouped). (reading_of x).formula (env c.args.scope.now c.args.bound.now)) c.in-Field.is

pub judge_formula-bracket_formula-requires : goal.judge_formula-bracket_formula-requires
judge_formula-bracket_formula-requires t c = (omega (arith, c.decreases, bracket_height _ _ _ _ _ _ c.in-Bracket.is c.as_slice.ensures), tt)

pub judge_formula-prefixed_formula-requires : goal.judge_formula-prefixed_formula-requires
judge_formula-prefixed_formula-requires t c =
    (omega (arith, c.decreases, ap height c.in-Prefixed.is, height_prefixed c.in-Prefixed.prefixes c.in-Prefixed.operand, ap height c.get.ensures), tt)

pub judge_formula-row_formula-requires : goal.judge_formula-row_formula-requires
judge_formula-row_formula-requires t c =
    (omega (arith, c.decreases, ap height c.in-Row.is, height_row c.in-Row.strength c.in-Row.first c.in-Row.links, ap height c.get-in-Row.ensures, ap highest_link c.as_slice-in-Row.ensures), tt)

pub connective_row-judge_formula-requires-in-Some : goal.connective_row-judge_formula-requires-in-Some
connective_row-judge_formula-requires-in-Some t c =
    let parts : highest_link c.links.rest.now ≡ max (height c.in-Some.link.now.operand) (highest_link c.in-Some.behind.now) = ap highest_link c.in-Some.ensures.cases.0 in
    (omega (arith, c.decreases, c.links.invariant.low, parts), tt)

pub connective_row-links-init : goal.connective_row-links-init
connective_row-links-init t c = record {
  kept = c.in_ok-formula.ensures.kept;
  done = ap (λ (ss : List Side). behind ss (sides_of (env c.args.scope.now c.args.bound.now) (map link_reading c.args.links.now)) >>= joined_sides c.args.head.now) c.in_ok-sides.ensures
      ∙ sides_begin c.args.head.now (env c.args.scope.now c.args.bound.now) (reading_of c.args.first.now) (map link_reading c.args.links.now) _
      (side_is (env c.args.scope.now c.args.bound.now) (env c.args.scope.now c.args.bound.now) c.args.first.now c.in_ok-formula.formula c.first_place-place.result refl c.in_ok-formula.ensures.exact c.first_place-place.ensures);
  low = omega arith;
}

pub connective_row-returns-in_err-formula-2-clause-exact : goal.connective_row-returns-in_err-formula-2-clause-exact
connective_row-returns-in_err-formula-2-clause-exact t c =
    judges_stop _ _ _ _ _ refl c.from_residual-in_err-formula-2.ensures.1
    (side_stops c.args.head.now (env c.args.scope.now c.args.bound.now) c.links.sides c.links.rest.now c.in-Some.behind.now c.in-Some.link.now _ c.in-Some.ensures.cases.0 c.links.invariant.done
    (env c.args.scope.now c.links.bound) _ (same_env c.args.scope.now c.links.bound c.args.bound.now c.links.invariant.kept) c.in_err-formula-2.ensures.exact)

pub connective_row-links-preserved : goal.connective_row-links-preserved
connective_row-links-preserved t c = record {
  kept = c.in_ok-formula-2.ensures.kept ∙ c.links.invariant.kept;
  done = side_next c.args.head.now (env c.args.scope.now c.args.bound.now) c.links.sides c.links.rest.now c.in-Some.behind.now c.in-Some.link.now _ c.in-Some.ensures.cases.0 c.links.invariant.done
      (env c.args.scope.now c.links.bound) c.in_ok-formula-2.formula c.first_place-place-in-Some.result c.push.new.self (same_env c.args.scope.now c.links.bound c.args.bound.now c.links.invariant.kept) c.in_ok-formula-2.ensures.exact c.first_place-place-in-Some.ensures
      c.in_ok-push.ensures.ok;
  low =
      let parts : highest_link c.links.rest.now ≡ max (height c.in-Some.link.now.operand) (highest_link c.in-Some.behind.now) = ap highest_link c.in-Some.ensures.cases.0 in
      omega (arith, c.links.invariant.low, parts);
}

pub connective_row-returns-clause-exact : goal.connective_row-returns-clause-exact
connective_row-returns-clause-exact t c =
    judges_as _ _ _ _ (sides_end c.args.head.now (env c.args.scope.now c.args.bound.now) c.links.sides c.as_slice.result.now c.links.rest.now _ c.in_default.ensures.cases c.links.invariant.done c.as_slice.ensures) c.join_sides.ensures.exact

pub prefixed-returns-in_err-x-clause-exact : goal.prefixed-returns-in_err-x-clause-exact
prefixed-returns-in_err-x-clause-exact t c =
    one_stops _ _ _ _ _ (wrapped c.in_ok-frames.frames)
    (under_read c.args.scope.now c.args.prefixes.now c.in_ok-frames.frames c.args.bound.now c.bind_all.new.bound (reading_of c.args.operand.now).formula c.in_ok-frames.ensures.exact
    (c.in_ok-hidden.ensures.bound ∙ ap (λ (v : List Frame). bound_by_all v (sort_of c.args.bound.now)) c.as_slice-operators.ensures))
    c.from_residual-in_err-x.ensures.1 c.in_err-x.ensures.exact

pub prefixed-put_back_all-requires : goal.prefixed-put_back_all-requires
prefixed-put_back_all-requires t c =
    ap length (c.as_slice.ensures ∙ c.in_ok-hidden.ensures.hidden) ∙ hidden_count c.as_slice-operators.result.now (sort_of c.args.bound.now)

pub prefixed-returns-clause-exact : goal.prefixed-returns-clause-exact
prefixed-returns-clause-exact t c =
    one_goes _ _ _ _ (wrapped c.in_ok-frames.frames) _
    (under_read c.args.scope.now c.args.prefixes.now c.in_ok-frames.frames c.args.bound.now c.bind_all.new.bound (reading_of c.args.operand.now).formula c.in_ok-frames.ensures.exact
    (c.in_ok-hidden.ensures.bound ∙ ap (λ (v : List Frame). bound_by_all v (sort_of c.args.bound.now)) c.as_slice-operators.ensures))
    c.in_ok-x.ensures.exact
    (judges_as _ _ _ _ (ap (λ (v : List Frame). wrapped v c.in_ok-x.x) (sym c.as_slice-operators.ensures)) c.wrap.ensures.exact)

pub prefixed-returns-clause-kept : goal.prefixed-returns-clause-kept
prefixed-returns-clause-kept t c =
    on_ok c.wrap.result
    (put_back_is c.as_slice-operators.result.now c.in_ok-hidden.hidden (sort_of c.args.bound.now) (sort_of c.bind_all.new.bound) (sort_of c.judge_formula.new.bound) (sort_of c.put_back_all.new.bound) c.in_ok-hidden.ensures.bound
    c.in_ok-hidden.ensures.hidden c.in_ok-x.ensures.kept
    (c.in_ok-put_back_all.ensures ∙ ap (λ (hs : List (Option Sort)). put_back_all c.as_slice-operators.result.now hs (sort_of c.judge_formula.new.bound)) c.as_slice.ensures))
