-- The tokens with which expressions begin and go on.
use Rattle.std.proofs.Common.{◌≡◌, ℕ, suc, ◌+◌, ◌<◌, ◌≤◌, Bool, true, false, not, ◌&&◌, ◌||◌, if◌then◌else◌, Err, List, [], ◌∷◌, length, refl, sym, ◌∙◌, ap, subst, true≢false, lt-ltb, ltb-false, ltb-true, arith}
use Rattle.std.specs.Prelude.{Option, Some, None, nat_lt}
use Rattle.floyd_int.specs.declared.kinds.IntOp.{IntOp}
use Rattle.floyd_text.specs.declared.place.Place.{Place}
use Rattle.floyd_lex.specs.declared.kinds.TokenKind.{TokenKind}
use Rattle.floyd_lex.specs.declared.kinds.TokenKind.TheVariants as k
use Rattle.floyd_lex.specs.declared.kinds.Punctuator.{Punctuator}
use Rattle.floyd_lex.specs.declared.kinds.Punctuator.TheVariants as p
use Rattle.floyd_lex.specs.declared.kinds.Keyword.TheVariants as w
use Rattle.floyd_lex.specs.Token.{Token}
use Rattle.floyd_grammar.specs.ParseClauses.{is_taken, is_meant}
use Rattle.floyd_grammar.proofs.Either.{or_left, or_right}
use Rattle.floyd_cparse_trees.specs.declared.expressions.BinaryOp.{BinaryOp}
use Rattle.floyd_cparse_trees.specs.declared.expressions.MemberOp.{MemberOp}
use Rattle.floyd_cparse_trees.specs.declared.expressions.StepOp.{StepOp}
use Rattle.floyd_cparse_expressions.specs.declared.values.Chain.{Chain}
use Rattle.floyd_cparse_expressions.specs.declared.values.Ending.{Ending}
use Rattle.floyd_cparse_expressions.specs.declared.values.Infix.{Infix}
use Rattle.floyd_cparse_expressions.specs.declared.values.Operand.{Operand}
use Rattle.floyd_cparse_expressions.specs.declared.values.PostfixStart.TheVariants as postfix_start
use Rattle.floyd_cparse_trees.specs.declared.expressions.Prefix.{Prefix}
use Rattle.floyd_cparse_trees.specs.declared.expressions.Prefix.TheVariants as before
use Rattle.floyd_cparse_expressions.specs.declared.values.Prefixes.{Prefixes}
use Rattle.floyd_cparse_expressions.specs.declared.values.Target.{Target}
use Rattle.floyd_cparse_tokens.specs.Tokens.{is_plain, is_type, identifier_of, literal_of, literal_of_kind, opens_type, begins_type, is_there, Sight, Types, is_mark, is_word, is_name, is_mark_kind, is_word_kind, is_name_kind, offer, demand}
use Rattle.floyd_cparse_trees.specs.declared.expressions.PrefixOp.{PrefixOp}
use Rattle.floyd_cparse_expressions.specs.declared.values.OperandStart.TheVariants as start
use Rattle.floyd_cparse_expressions.specs.declared.values.PrefixStart.TheVariants as prefix_start
use Rattle.floyd_cparse_expressions.specs.Expressions.{start_of_literal, with_place_prefix, Level, Whole, Conditional, prefix_op, step_op, member_op, binary_op, assign_op, is_postfix_op, is_wide, goes_on_unary, goes_on, start_of_prefix, start_of_operand, prefix_token, operand_token, postfix_token, start_of_postfix, start_of_member, infix_at, assigning_at, assigning_of, assign_token, chain_operand, with_prefixes, end_with_prefixes, behind_prefix}
use Rattle.floyd_cparse_expressions.specs.ExpressionClauses.{begins_prefix, is_infix, begins_assignment}
use Rattle.floyd_cparse_tokens.proofs.TokenLemmas.{and_left, and_both, apart, or_cases, or_fails_left, or_fails_right, or_fails, mark_kind, wanted_taken, offered_meant}

-- a token with which an unary expression begins
abbrev pub begins_unary : Types → Sight → Bool
begins_unary types s = is_there (start_of_prefix types s) || is_there (start_of_operand types s)

-- what goes on with what was read at each level
abbrev pub more_unary : Operand → Sight → Bool
more_unary x s = goes_on_unary x.end s

-- a binary operator of that level or a tighter one
abbrev pub below_at : ℕ → Option (ℕ × BinaryOp) → Bool
below_at level None = false
below_at level (Some op) = not (nat_lt level op.0)

abbrev pub below : ℕ → Sight → Bool
below level s = below_at level (binary_op s.token.kind)

abbrev pub more_at : ℕ → Operand → Sight → Bool
more_at level x s = goes_on_unary x.end s || below level s

abbrev pub more_conditional : Operand → Sight → Bool
more_conditional x s = goes_on_unary x.end s || is_there (binary_op s.token.kind) || is_mark p.Question s

abbrev pub more_expr : Operand → Sight → Bool
more_expr x s = goes_on x.end s

abbrev pub more_level : Level → Operand → Sight → Bool
more_level Whole x s = more_expr x s
more_level Conditional x s = more_conditional x s

-- operators, by their kind alone
abbrev pub is_postfix_kind : TokenKind → Bool
is_postfix_kind kind = is_mark_kind p.OpenBracket kind || is_mark_kind p.OpenParen kind || is_there (member_op kind) || is_there (step_op kind)

abbrev pub is_infix_kind : TokenKind → Bool
is_infix_kind kind = is_there (binary_op kind) || is_mark_kind p.Question kind || is_there (assign_op kind)

postfix_infix_kinds : (kind : TokenKind) → (is_postfix_kind kind && is_infix_kind kind) ≡ false
postfix_infix_kinds (k.Punctuator p.Plus) = refl
postfix_infix_kinds kind = refl

binary_question_kinds : (kind : TokenKind) → (is_there (binary_op kind) && is_mark_kind p.Question kind) ≡ false
binary_question_kinds (k.Punctuator p.Question) = refl
binary_question_kinds kind = refl

assign_other_kinds : (kind : TokenKind) → (is_there (assign_op kind) && (is_there (binary_op kind) || is_mark_kind p.Question kind)) ≡ false
assign_other_kinds (k.Punctuator p.Question) = refl
assign_other_kinds kind = refl

not_both : (a b : Bool) → (a && b) ≡ false → b ≡ true → a ≡ false
not_both true b e f = absurd (true≢false (sym f ∙ e))
not_both false b e f = refl

-- an infix operator goes on with no unary expression
pub infix_unary : (end : Ending) (s : Sight) → is_infix_kind s.token.kind ≡ true → goes_on_unary end s ≡ false
infix_unary end s e = rw (not_both (is_postfix_op s) (is_infix_kind s.token.kind) (postfix_infix_kinds s.token.kind) e) refl

-- no operator goes on with no expression
pub ends_unary : (end : Ending) (s : Sight) → is_postfix_kind s.token.kind ≡ false → goes_on_unary end s ≡ false
ends_unary end s e = rw e refl

pub ends_expression : (end : Ending) (s : Sight) → (is_postfix_kind s.token.kind || is_infix_kind s.token.kind) ≡ false → goes_on end s ≡ false
ends_expression end s e =
    let others = or_fails_right (is_postfix_kind s.token.kind) (is_infix_kind s.token.kind) e in
    let first = or_fails_left (is_there (binary_op s.token.kind) || is_mark p.Question s) (is_there (assign_op s.token.kind)) others in
    or_fails (goes_on_unary end s || is_there (binary_op s.token.kind) || is_mark p.Question s) (is_there (assign_op s.token.kind) && not (is_wide end.form))
    (or_fails (goes_on_unary end s || is_there (binary_op s.token.kind)) (is_mark p.Question s)
    (or_fails (goes_on_unary end s) (is_there (binary_op s.token.kind)) (ends_unary end s (or_fails_left (is_postfix_kind s.token.kind) (is_infix_kind s.token.kind) e)) (or_fails_left (is_there (binary_op s.token.kind)) (is_mark p.Question s) first))
    (or_fails_right (is_there (binary_op s.token.kind)) (is_mark p.Question s) first))
    (rw (or_fails_right (is_there (binary_op s.token.kind) || is_mark p.Question s) (is_there (assign_op s.token.kind)) others) refl)

pub mark_ends_expression : (mark : Punctuator) (end : Ending) (s : Sight) → (is_postfix_kind (k.Punctuator mark) || is_infix_kind (k.Punctuator mark)) ≡ false → is_mark mark s ≡ true → goes_on end s ≡ false
mark_ends_expression mark end s e h = ends_expression end s (ap (λ (z : TokenKind). is_postfix_kind z || is_infix_kind z) (mark_kind mark s.token.kind h) ∙ e)

-- levels of binary operators
infix_exact : (n : ℕ) (place : Place) (o : Option (ℕ × BinaryOp)) → is_there (infix_at (suc n) place o) ≡ true → below_at n o ≡ false
infix_exact n place None e = refl
infix_exact n place (Some op) e = go (nat_lt op.0 (suc n)) (nat_lt (suc n) op.0) refl refl e
  where
    go : (a b : Bool) → nat_lt op.0 (suc n) ≡ a → nat_lt (suc n) op.0 ≡ b → is_there (if a || b then None else Some (let x : Infix = record { op = op.1; place = place } in x)) ≡ true → not (nat_lt n op.0) ≡ false
    go true b f h q = absurd (true≢false (sym q))
    go false true f h q = absurd (true≢false (sym q))
    go false false f h q =
        let low : suc n ≤ op.0 = ltb-false op.0 (suc n) f in
        rw (lt-ltb n op.0 low) refl

infix_below : (n : ℕ) (place : Place) (o : Option (ℕ × BinaryOp)) → below_at n o ≡ false → is_there (infix_at n place o) ≡ false
infix_below n place None e = refl
infix_below n place (Some op) e = go (nat_lt op.0 n) (nat_lt n op.0) e
  where
    go : (a b : Bool) → not b ≡ false → is_there (if a || b then None else Some (let x : Infix = record { op = op.1; place = place } in x)) ≡ false
    go true b q = refl
    go false true q = refl
    go false false q = absurd (true≢false q)

below_less : (n : ℕ) (o : Option (ℕ × BinaryOp)) → below_at (suc n) o ≡ false → below_at n o ≡ false
below_less n None e = refl
below_less n (Some op) e = go (nat_lt (suc n) op.0) refl e
  where
    go : (a : Bool) → nat_lt (suc n) op.0 ≡ a → not a ≡ false → not (nat_lt n op.0) ≡ false
    go true f q =
        let high : suc n < op.0 = ltb-true (suc n) op.0 f in
        rw (lt-ltb n op.0 (omega arith)) refl
    go false f q = absurd (true≢false q)

infix_there : (n : ℕ) (place : Place) (o : Option (ℕ × BinaryOp)) → is_there (infix_at n place o) ≡ true → is_there o ≡ true
infix_there n place None e = absurd (true≢false (sym e))
infix_there n place (Some op) e = refl

below_there : (n : ℕ) (o : Option (ℕ × BinaryOp)) → is_there o ≡ false → below_at n o ≡ false
below_there n None e = refl
below_there n (Some op) e = absurd (true≢false e)

pub infix_apart : (n : ℕ) (x : Operand) (s : Sight) → is_infix (suc n) s ≡ true → more_at n x s ≡ false
infix_apart n x s e =
    let there = infix_there (suc n) s.token.place (binary_op s.token.kind) e in
    or_fails (goes_on_unary x.end s) (below n s)
    (infix_unary x.end s (or_left (is_there (binary_op s.token.kind) || is_mark p.Question s) (is_there (assign_op s.token.kind)) (or_left (is_there (binary_op s.token.kind)) (is_mark p.Question s) there)))
    (infix_exact n s.token.place (binary_op s.token.kind) e)

pub infix_stops : (n : ℕ) (x : Operand) (s : Sight) → more_at n x s ≡ false → is_infix n s ≡ false
infix_stops n x s e = infix_below n s.token.place (binary_op s.token.kind) (or_fails_right (goes_on_unary x.end s) (below n s) e)

pub level_ends : (n : ℕ) (x y : Operand) (s : Sight) → x.end.type_name ≡ y.end.type_name → more_at (suc n) x s ≡ false → more_at n y s ≡ false
level_ends n x y s same e =
    or_fails (goes_on_unary y.end s) (below n s) (subst (λ (z : Bool). (is_postfix_op s && not z) ≡ false) same (or_fails_left (goes_on_unary x.end s) (below (suc n) s) e)) (below_less n (binary_op s.token.kind) (or_fails_right (goes_on_unary x.end s) (below (suc n) s) e))

-- "?"
pub question_apart : (n : ℕ) (x : Operand) (s : Sight) → is_mark p.Question s ≡ true → more_at n x s ≡ false
question_apart n x s e =
    or_fails (goes_on_unary x.end s) (below n s)
    (infix_unary x.end s (or_left (is_there (binary_op s.token.kind) || is_mark p.Question s) (is_there (assign_op s.token.kind)) (or_right (is_there (binary_op s.token.kind)) (is_mark p.Question s) e)))
    (below_there n (binary_op s.token.kind) (not_both (is_there (binary_op s.token.kind)) (is_mark p.Question s) (binary_question_kinds s.token.kind) e))

pub conditional_ends : (n : ℕ) (x : Operand) (s : Sight) → more_conditional x s ≡ false → more_at n x s ≡ false
conditional_ends n x s e =
    let first = or_fails_left (goes_on_unary x.end s || is_there (binary_op s.token.kind)) (is_mark p.Question s) e in
    or_fails (goes_on_unary x.end s) (below n s) (or_fails_left (goes_on_unary x.end s) (is_there (binary_op s.token.kind)) first) (below_there n (binary_op s.token.kind) (or_fails_right (goes_on_unary x.end s) (is_there (binary_op s.token.kind)) first))

-- assignments
assigning_there : (place : Place) (o : Option (Option IntOp)) → is_there (assigning_at place o) ≡ true → is_there o ≡ true
assigning_there place None e = absurd (true≢false (sym e))
assigning_there place (Some op) e = refl

assigning_absent : (place : Place) (o : Option (Option IntOp)) → is_there o ≡ false → is_there (assigning_at place o) ≡ false
assigning_absent place None e = refl
assigning_absent place (Some op) e = absurd (true≢false e)

pub assign_infix : (s : Sight) → is_there (assigning_of s) ≡ true → is_infix_kind s.token.kind ≡ true
assign_infix s e = or_right (is_there (binary_op s.token.kind) || is_mark p.Question s) (is_there (assign_op s.token.kind)) (assigning_there s.token.place (assign_op s.token.kind) e)

pub assign_apart : (x : Operand) (s : Sight) → is_there (assigning_of s) ≡ true → more_conditional x s ≡ false
assign_apart x s e =
    let other = apart (is_there (assign_op s.token.kind)) (is_there (binary_op s.token.kind) || is_mark p.Question s) (assign_other_kinds s.token.kind) (assigning_there s.token.place (assign_op s.token.kind) e) in
    or_fails (goes_on_unary x.end s || is_there (binary_op s.token.kind)) (is_mark p.Question s)
    (or_fails (goes_on_unary x.end s) (is_there (binary_op s.token.kind)) (infix_unary x.end s (assign_infix s e)) (or_fails_left (is_there (binary_op s.token.kind)) (is_mark p.Question s) other))
    (or_fails_right (is_there (binary_op s.token.kind)) (is_mark p.Question s) other)

pub assignment_stops : (chain : Chain) (s : Sight) → goes_on chain.last.end s ≡ false → begins_assignment chain s ≡ false
assignment_stops chain s e = go (is_there (assigning_of s)) (not (is_wide chain.last.end.form)) refl (or_fails_right (goes_on_unary chain.last.end s || is_there (binary_op s.token.kind) || is_mark p.Question s) (is_there (assign_op s.token.kind) && not (is_wide chain.last.end.form)) e)
  where
    go : (a b : Bool) → is_there (assigning_of s) ≡ a → (is_there (assign_op s.token.kind) && b) ≡ false → (a && b) ≡ false
    go true b f q = subst (λ (z : Bool). (z && b) ≡ false) (assigning_there s.token.place (assign_op s.token.kind) f) q
    go false b f q = refl

pub expression_conditional : (x : Operand) (s : Sight) → goes_on x.end s ≡ false → more_conditional x s ≡ false
expression_conditional x s e = or_fails_left (goes_on_unary x.end s || is_there (binary_op s.token.kind) || is_mark p.Question s) (is_there (assign_op s.token.kind) && not (is_wide x.end.form)) e

pub assigned_ends : (chain : Chain) (s : Sight) → goes_on (chain_operand chain).end s ≡ false → goes_on chain.last.end s ≡ false
assigned_ends chain s e = go chain.targets e
  where
    go : (ts : List Target) → goes_on (chain_operand (record chain { targets = ts })).end s ≡ false → goes_on chain.last.end s ≡ false
    go [] q = q
    go (t ∷ ts) q = q

pub assign_meant : (room : ℕ) (chain : Chain) (s : Sight) → is_meant (assign_token room chain s) ≡ true → begins_assignment chain s ≡ true
assign_meant room chain s e = go (is_wide chain.last.end.form) e
  where
    go : (a : Bool) → is_meant (if a then Err 0 else offer room chain.last.end.count s (assigning_of s)) ≡ true → (is_there (assigning_of s) && not a) ≡ true
    go true h = absurd (true≢false (sym h))
    go false h = and_both (is_there (assigning_of s)) true (offered_meant room chain.last.end.count s (assigning_of s) h) refl

-- prefixes and operands
pub prefix_meant : (types : Types) (room : ℕ) (all : Prefixes) (s : Sight) → is_meant (prefix_token types room (all.count + length all.items) s) ≡ true → begins_prefix types room all s ≡ true
prefix_meant types room all s e = go (nat_lt room (all.count + length all.items)) e
  where
    go : (a : Bool) → is_meant (if a then Err 0 else offer room (all.count + length all.items) s (start_of_prefix types s)) ≡ true → (is_there (start_of_prefix types s) && not a) ≡ true
    go true h = absurd (true≢false (sym h))
    go false h = and_both (is_there (start_of_prefix types s)) true (offered_meant room (all.count + length all.items) s (start_of_prefix types s) h) refl

pub operand_meant : (types : Types) (cast : Bool) (room count : ℕ) (s : Sight) → is_meant (operand_token types cast room count s) ≡ true → (is_there (start_of_prefix types s) && not (nat_lt room count)) ≡ false
operand_meant types cast room count s e = go (is_there (start_of_prefix types s) && not (nat_lt room count)) e
  where
    go : (a : Bool) → is_meant (if a then Err 0 else demand types room count (behind_prefix cast s) s (start_of_operand types s)) ≡ true → a ≡ false
    go true h = absurd (true≢false (sym h))
    go false h = refl

pub operand_taken : (types : Types) (cast : Bool) (room count : ℕ) (s : Sight) → is_taken (operand_token types cast room count s) ≡ true → is_there (start_of_operand types s) ≡ true
operand_taken types cast room count s e = go (is_there (start_of_prefix types s) && not (nat_lt room count)) e
  where
    go : (a : Bool) → is_taken (if a then Err 0 else demand types room count (behind_prefix cast s) s (start_of_operand types s)) ≡ true → is_there (start_of_operand types s) ≡ true
    go true h = absurd (true≢false (sym h))
    go false h = wanted_taken types room count (behind_prefix cast s) s (start_of_operand types s) h

ends_type : (items : List Prefix) (end : Ending) → (end_with_prefixes items end).type_name ≡ end.type_name
ends_type [] end = refl
ends_type (before.Op op place ∷ items) end = ends_type items end
ends_type (before.Step op place ∷ items) end = ends_type items end
ends_type (before.Cast type place ∷ items) end = ends_type items end

pub prefixed_type : (items : List Prefix) (x : Operand) → (with_prefixes items x).end.type_name ≡ x.end.type_name
prefixed_type [] x = refl
prefixed_type (first ∷ items) x = ends_type (first ∷ items) x.end

-- postfix operators
member_there : (place : Place) (m : Option MemberOp) (o : Option StepOp) → is_there (start_of_member place m o) ≡ true → (is_there m || is_there o) ≡ true
member_there place (Some op) o e = refl
member_there place None (Some op) e = refl
member_there place None None e = absurd (true≢false (sym e))

postfix_there : (s : Sight) → is_there (start_of_postfix s) ≡ true → is_postfix_op s ≡ true
postfix_there s e = go (is_mark p.OpenBracket s) (is_mark p.OpenParen s) e
  where
    from : (a b m o : Bool) → (m || o) ≡ true → (a || b || m || o) ≡ true
    from true b m o e = refl
    from false true m o e = refl
    from false false true o e = refl
    from false false false o e = e

    go : (a b : Bool) → is_there (if a then Some (postfix_start.Index s.token.place) else if b then Some (postfix_start.Call s.token.place) else start_of_member s.token.place (member_op s.token.kind) (step_op s.token.kind)) ≡ true → (a || b || is_there (member_op s.token.kind) || is_there (step_op s.token.kind)) ≡ true
    go true b h = refl
    go false true h = refl
    go false false h = member_there s.token.place (member_op s.token.kind) (step_op s.token.kind) h

pub postfix_meant : (room : ℕ) (end : Ending) (s : Sight) → is_meant (postfix_token room end s) ≡ true → goes_on_unary end s ≡ true
postfix_meant room end s e = go end.type_name e
  where
    go : (a : Bool) → is_meant (if a then Err 0 else offer room end.count s (start_of_postfix s)) ≡ true → (is_postfix_op s && not a) ≡ true
    go true h = absurd (true≢false (sym h))
    go false h = and_both (is_postfix_op s) true (postfix_there s (offered_meant room end.count s (start_of_postfix s) h)) refl

-- a token with which an unary expression begins, by its kind alone
abbrev pub is_literal_kind : TokenKind → Bool
is_literal_kind (k.Literal type value) = true
is_literal_kind kind = false

abbrev pub is_unary_kind : TokenKind → Bool
is_unary_kind kind = is_mark_kind p.OpenParen kind || is_there (prefix_op kind) || is_there (step_op kind) || is_name_kind kind || is_word_kind w.Sizeof kind || is_literal_kind kind

literal_kind : (place : Place) (kind : TokenKind) → is_there (start_of_literal (literal_of_kind place kind)) ≡ true → is_literal_kind kind ≡ true
literal_kind place (k.Literal type value) e = refl
literal_kind place kind e = absurd (true≢false (sym e))

opens_paren : (types : Types) (t : Token) (ts : List Token) → opens_type types (t ∷ ts) ≡ true → is_mark_kind p.OpenParen t.kind ≡ true
opens_paren types t [] e = absurd (true≢false (sym e))
opens_paren types t (u ∷ ts) e = and_left (is_mark_kind p.OpenParen t.kind) (begins_type types u) e

module _ (types : Types) (s : Sight) where
  abbrev paren : Bool
  paren = is_mark_kind p.OpenParen s.token.kind

  abbrev a : Bool
  a = is_there (prefix_op s.token.kind)

  abbrev b : Bool
  b = is_there (step_op s.token.kind)

  abbrev c : Bool
  c = is_name_kind s.token.kind

  abbrev d : Bool
  d = is_word_kind w.Sizeof s.token.kind

  abbrev f : Bool
  f = is_literal_kind s.token.kind

  from_paren : paren ≡ true → (paren || a || b || c || d || f) ≡ true
  from_paren h = rw h refl

  from_ops : (a || b) ≡ true → (paren || a || b || c || d || f) ≡ true
  from_ops h = go paren a b h
    where
      go : (x y z : Bool) → (y || z) ≡ true → (x || y || z || c || d || f) ≡ true
      go true y z h = refl
      go false true z h = refl
      go false false true h = refl
      go false false false h = absurd (true≢false (sym h))

  from_name : c ≡ true → (paren || a || b || c || d || f) ≡ true
  from_name h = or_left (paren || a || b || c || d) f (or_left (paren || a || b || c) d (or_right (paren || a || b) c h))

  ops : (x : Option PrefixOp) (y : Option StepOp) → is_there (with_place_prefix s.token.place x y) ≡ true → (is_there x || is_there y) ≡ true
  ops (Some op) y h = refl
  ops None (Some op) h = refl
  ops None None h = absurd (true≢false (sym h))

  prefix_case : (o : Bool) → opens_type types (s.token ∷ s.behind) ≡ o → is_there (if o then Some (prefix_start.Cast s.token.place) else with_place_prefix s.token.place (prefix_op s.token.kind) (step_op s.token.kind)) ≡ true → (paren || a || b || c || d || f) ≡ true
  prefix_case true q h = from_paren (opens_paren types s.token s.behind q)
  prefix_case false q h = from_ops (ops (prefix_op s.token.kind) (step_op s.token.kind) h)

  operand_case : (x y z : Bool) → is_plain types s ≡ x → is_mark p.OpenParen s ≡ y → (is_word w.Sizeof s && opens_type types s.behind) ≡ z
      → is_there (if x then Some (start.Name (identifier_of s)) else if y then Some (start.Open s.token.place) else if z then Some (start.SizeOf s.token.place) else start_of_literal (literal_of s)) ≡ true → (paren || a || b || c || d || f) ≡ true
  operand_case true y z q q' q'' h = from_name (and_left (is_name s) (not (is_type types s)) q)
  operand_case false true z q q' q'' h = from_paren q'
  operand_case false false true q q' q'' h = or_left (paren || a || b || c || d) f (or_right (paren || a || b || c) d (and_left (is_word w.Sizeof s) (opens_type types s.behind) q''))
  operand_case false false false q q' q'' h = or_right (paren || a || b || c || d) f (literal_kind s.token.place s.token.kind h)

  pub unary_by_kind : begins_unary types s ≡ true → is_unary_kind s.token.kind ≡ true
  unary_by_kind e = or_cases (is_there (start_of_prefix types s)) (is_there (start_of_operand types s)) e (prefix_case (opens_type types (s.token ∷ s.behind)) refl) (operand_case (is_plain types s) (is_mark p.OpenParen s) (is_word w.Sizeof s && opens_type types s.behind) refl refl refl)

-- what is of no such kind begins none
pub mark_begins : (types : Types) (mark : Punctuator) (s : Sight) → is_unary_kind (k.Punctuator mark) ≡ false → begins_unary types s ≡ true → is_mark mark s ≡ false
mark_begins types mark s n e = go (is_mark mark s) refl
  where
    go : (a : Bool) → is_mark mark s ≡ a → a ≡ false
    go true f = absurd (true≢false (sym (unary_by_kind types s e) ∙ ap is_unary_kind (mark_kind mark s.token.kind f) ∙ n))
    go false f = refl
