use Rattle.std.proofs.Common.{◌≡◌, ℕ, ◌+◌, ◌-◌, ◌<◌, ◌≤◌, ◌∙◌, List, [], ◌∷◌, length, take, drop, sym, ap, arith}
use Rattle.std.proofs.lemmas.List.{take_rest, length-append}
use Rattle.floyd_lex.specs.Token.{TokenList}
use Rattle.floyd_lex.specs.declared.kinds.FileKind.{FileKind}
use Rattle.floyd_lex.specs.declared.lead.Lead.{Lead}
use Rattle.floyd_lex.specs.declared.lead.Lead.TheVariants as lead
use Rattle.floyd_lex.specs.Front.{front}
use Rattle.floyd_lex.proofs.CutLemmas.{skip_within, piece_within, bad_within, at_end, at_limit, at_long, at_flaw, skip_more, piece_more}
use Rattle.floyd_lex.proofs.cutting.cut_rest.Goals as goal

-- what stood at the front of the slice
here : (kind : FileKind) (bytes : List ℕ) (at : ℕ) (l : Lead) → l ≡ front kind (take at bytes) (take (length bytes - at) (drop at bytes)) → front kind (take at bytes) (drop at bytes) ≡ l
here kind bytes at l e = sym (e ∙ ap (front kind (take at bytes)) (take_rest bytes at))

pub returns-in-End-clause-ok : goal.returns-in-End-clause-ok
returns-in-End-clause-ok c = at_end c.args.kind c.args.bytes.now c.args.tokens.now c.each.tokens c.args.from.at c.each.spot c.each.invariant.so_far c.each.invariant.spot (here c.args.kind c.args.bytes.now c.each.spot.at lead.End c.in-End.ensures)

pub pass-spot-requires-clause-within : goal.pass-spot-requires-clause-within
pass-spot-requires-clause-within c = (skip_within c.args.kind c.args.bytes.now c.each.spot.at c.in-Skip.n (here c.args.kind c.args.bytes.now c.each.spot.at (lead.Skip c.in-Skip.n) c.in-Skip.ensures) c.each.invariant.spot.within).1

pub each-smaller-in-Skip : goal.each-smaller-in-Skip
each-smaller-in-Skip c =
    let w = skip_within c.args.kind c.args.bytes.now c.each.spot.at c.in-Skip.n (here c.args.kind c.args.bytes.now c.each.spot.at (lead.Skip c.in-Skip.n) c.in-Skip.ensures) c.each.invariant.spot.within in
    omega (arith, w.0, w.1, c.pass-spot.ensures.at)

pub each-preserved-in-Skip : goal.each-preserved-in-Skip
each-preserved-in-Skip c = record {
  spot = c.pass-spot.ensures.spot;
  count = c.each.invariant.count;
  so_far = skip_more c.args.kind c.args.bytes.now c.args.tokens.now c.each.tokens c.args.from.at c.each.spot c.each.invariant.so_far c.in-Skip.n c.pass-spot.result.at c.pass-spot.ensures.at (here c.args.kind c.args.bytes.now c.each.spot.at (lead.Skip c.in-Skip.n) c.in-Skip.ensures);
}

pub returns-then-len-eq-TOKEN_LIMIT-clause-ok : goal.returns-then-len-eq-TOKEN_LIMIT-clause-ok
returns-then-len-eq-TOKEN_LIMIT-clause-ok c =
    let e = here c.args.kind c.args.bytes.now c.each.spot.at (lead.Piece c.in-Piece.token c.in-Piece.n) c.in-Piece.ensures in
    rw c.stand_before.ensures (at_limit c.args.kind c.args.bytes.now c.args.tokens.now c.each.tokens c.args.from.at c.each.spot c.each.invariant.so_far c.each.invariant.spot c.in-Piece.token c.in-Piece.n e (sym c.len.ensures ∙ c.if-len-eq-TOKEN_LIMIT.true))

-- there is room for one more
some_room : (n : ℕ) (len : ℕ) → n ≡ len → len ≤ 1000000 → (n ≡ 1000000 → ⊥) → len < 1000000
some_room n len e h other = omega (arith, e, h, other)

pub returns-then-is_long_name-clause-ok : goal.returns-then-is_long_name-clause-ok
returns-then-is_long_name-clause-ok c =
    let e = here c.args.kind c.args.bytes.now c.each.spot.at (lead.Piece c.in-Piece.token c.in-Piece.n) c.in-Piece.ensures in
    let room = some_room c.len.result (length c.each.tokens.items) c.len.ensures c.each.invariant.count c.if-len-eq-TOKEN_LIMIT.false in
    rw c.stand_before-then-is_long_name.ensures (at_long c.args.kind c.args.bytes.now c.args.tokens.now c.each.tokens c.args.from.at c.each.spot c.each.invariant.so_far c.each.invariant.spot c.in-Piece.token c.in-Piece.n e room (sym c.is_long_name.ensures ∙ c.if-is_long_name.true))

pub push_at-requires-clause-small : goal.push_at-requires-clause-small
push_at-requires-clause-small c =
    let e = here c.args.kind c.args.bytes.now c.each.spot.at (lead.Piece c.in-Piece.token c.in-Piece.n) c.in-Piece.ensures in
    omega (arith, (piece_within c.args.kind c.args.bytes.now c.each.spot.at c.in-Piece.n c.in-Piece.token e c.each.invariant.spot.within).1, c.requires.small)

pub pass-spot-requires-in-Piece-clause-within : goal.pass-spot-requires-in-Piece-clause-within
pass-spot-requires-in-Piece-clause-within c =
    let e = here c.args.kind c.args.bytes.now c.each.spot.at (lead.Piece c.in-Piece.token c.in-Piece.n) c.in-Piece.ensures in
    (piece_within c.args.kind c.args.bytes.now c.each.spot.at c.in-Piece.n c.in-Piece.token e c.each.invariant.spot.within).1

pub each-smaller : goal.each-smaller
each-smaller c =
    let e = here c.args.kind c.args.bytes.now c.each.spot.at (lead.Piece c.in-Piece.token c.in-Piece.n) c.in-Piece.ensures in
    let w = piece_within c.args.kind c.args.bytes.now c.each.spot.at c.in-Piece.n c.in-Piece.token e c.each.invariant.spot.within in
    omega (arith, w.0, w.1, c.pass-spot-in-Piece.ensures.at)

pub each-preserved : goal.each-preserved
each-preserved c =
    let e = here c.args.kind c.args.bytes.now c.each.spot.at (lead.Piece c.in-Piece.token c.in-Piece.n) c.in-Piece.ensures in
    let room = some_room c.len.result (length c.each.tokens.items) c.len.ensures c.each.invariant.count c.if-len-eq-TOKEN_LIMIT.false in
    let put = c.in_ok-push_at-in-Piece.ensures.ok in
    let len : length c.push_at.new.tokens.items ≡ length c.each.tokens.items + 1 = ap (λ (l : TokenList). length l.items) put ∙ length-append c.each.tokens.items (_ ∷ []) in
    record {
      spot = c.pass-spot-in-Piece.ensures.spot;
      count = omega (arith, len, room);
      so_far = piece_more c.args.kind c.args.bytes.now c.args.tokens.now c.each.tokens c.args.from.at c.each.spot c.each.invariant.so_far c.each.invariant.spot c.in-Piece.token c.in-Piece.n c.pass-spot-in-Piece.result.at c.push_at.new.tokens c.pass-spot-in-Piece.ensures.at room e (sym c.is_long_name.ensures ∙ c.if-is_long_name.false) put;
    }

pub stand_before-requires-in-Bad : goal.stand_before-requires-in-Bad
stand_before-requires-in-Bad c =
    let e = here c.args.kind c.args.bytes.now c.each.spot.at (lead.Bad c.in-Bad.flaw c.in-Bad.n) c.in-Bad.ensures in
    omega (arith, bad_within c.args.kind c.args.bytes.now c.each.spot.at c.in-Bad.n c.in-Bad.flaw e c.each.invariant.spot.within, c.requires.small)

pub returns-in-Bad-clause-ok : goal.returns-in-Bad-clause-ok
returns-in-Bad-clause-ok c =
    let e = here c.args.kind c.args.bytes.now c.each.spot.at (lead.Bad c.in-Bad.flaw c.in-Bad.n) c.in-Bad.ensures in
    rw c.stand_before-in-Bad.ensures (at_flaw c.args.kind c.args.bytes.now c.args.tokens.now c.each.tokens c.args.from.at c.each.spot c.each.invariant.so_far c.each.invariant.spot c.in-Bad.flaw c.in-Bad.n e)
