-- The readers of expressions are exact for their grammar.
use Rattle.std.proofs.Common.{◌≡◌, ℕ, zero, suc, ◌+◌, pred, Bool, true, false, not, ◌&&◌, ◌||◌, if◌then◌else◌, inl, inr, Result, Ok, Err, [], length, refl, sym, ap, subst, true≢false}
use Rattle.std.specs.Prelude.{nat_lt}
use Rattle.floyd_text.specs.declared.place.Place.{Place}
use Rattle.floyd_lex.specs.declared.kinds.Punctuator.TheVariants as p
use Rattle.floyd_grammar.specs.Phrase.{Phrase}
use Rattle.floyd_grammar.specs.Phrase as phrase
use Rattle.floyd_grammar.specs.ParseClauses.{Parser, is_taken, is_blamed, is_meant}
use Rattle.floyd_grammar.proofs.Exact.{Exact, token, token_solid, nothing}
use Rattle.floyd_grammar.proofs.Seq.{seq, seq_open, seq_solid, seq_solid_right, token_then, made}
use Rattle.floyd_grammar.proofs.Either.{either, either_sure, or_left, or_right}
use Rattle.floyd_grammar.proofs.Wider.{wider, loose}
use Rattle.floyd_grammar.proofs.Repeat.{repeat, folded_nil}
use Rattle.floyd_grammar.proofs.Lists.{separated, closed, closed_any, closed_open}
use Rattle.floyd_cparse_trees.specs.declared.types.TypeName.{TypeName}
use Rattle.floyd_cparse_expressions.specs.declared.values.Arguments.{Arguments}
use Rattle.floyd_cparse_expressions.specs.declared.values.Assigning.{Assigning}
use Rattle.floyd_cparse_expressions.specs.declared.values.Chain.{Chain}
use Rattle.floyd_cparse_expressions.specs.declared.values.Comma.{Comma}
use Rattle.floyd_cparse_expressions.specs.declared.values.Comma.TheVariants as comma
use Rattle.floyd_cparse_types.specs.declared.values.Declared.TheVariants as of
use Rattle.floyd_cparse_expressions.specs.declared.values.Ending.{Ending}
use Rattle.floyd_cparse_expressions.specs.declared.values.Infix.{Infix}
use Rattle.floyd_cparse_expressions.specs.declared.values.Operand.{Operand}
use Rattle.floyd_cparse_expressions.specs.declared.values.OperandStart.{OperandStart}
use Rattle.floyd_cparse_expressions.specs.declared.values.OperandStart.TheVariants as start
use Rattle.floyd_cparse_expressions.specs.declared.values.PostfixStart.{PostfixStart}
use Rattle.floyd_cparse_expressions.specs.declared.values.PostfixStart.TheVariants as postfix_start
use Rattle.floyd_cparse_trees.specs.declared.expressions.Prefix.TheVariants as before
use Rattle.floyd_cparse_expressions.specs.declared.values.PrefixStart.{PrefixStart}
use Rattle.floyd_cparse_expressions.specs.declared.values.PrefixStart.TheVariants as prefix_start
use Rattle.floyd_cparse_expressions.specs.declared.values.Prefixes.{Prefixes}
use Rattle.floyd_cparse_types.specs.declared.values.ReadDeclarator.{ReadDeclarator}
use Rattle.floyd_cparse_types.specs.declared.values.ReadSpecifiers.{ReadSpecifiers}
use Rattle.floyd_cparse_tokens.specs.Tokens.{without_room, is_there, Sight, Types, is_mark, is_mark_kind, found_or, place_if}
use Rattle.floyd_cparse_types.specs.Types as tg
use Rattle.floyd_cparse_types.specs.Types.{goes_on_declarator, latest}
use Rattle.floyd_cparse_types.specs.TypeClauses as tr
use Rattle.floyd_cparse_expressions.specs.Expressions as g
use Rattle.floyd_cparse_expressions.specs.Expressions.{Level, Whole, Conditional, goes_on, goes_on_unary, is_separator, is_postfix_op, binary_op, is_wide, assign_op}
use Rattle.floyd_cparse_expressions.specs.ExpressionClauses as r
use Rattle.floyd_cparse_expressions.specs.ExpressionClauses.{begins_prefix, is_infix, begins_assignment}
use Rattle.floyd_cparse_tokens.proofs.TokenLemmas.{and_left, or_cases, or_fails_left, or_fails_right, or_fails, not_true, not_false, mark_kind, there_place, closing_taken, closing_unless, offered_meant}
use Rattle.floyd_cparse_types.proofs.TypeSets.{is_specifier, is_specifier_kind, begins_specs, begins_dtor, more_dtor, specifier_dtor, more_specifier, mark_ends, bare_specifier}
use Rattle.floyd_cparse_types.proofs.TypeExact.{InnerExact, meant_taken, meant_blamed, offered_place, closing_place}
use Rattle.floyd_cparse_types.proofs.DeclaratorExact.{within_exact}
use Rattle.floyd_cparse_expressions.proofs.ExpressionSets.{begins_unary, more_unary, more_at, more_conditional, more_expr, more_level, mark_ends_expression, infix_apart, infix_stops, level_ends, question_apart, conditional_ends, assign_apart, assignment_stops, expression_conditional, assigned_ends, assign_meant, prefix_meant, operand_meant, operand_taken, prefixed_type, postfix_meant, mark_begins}

-- what the readers one bracket or `?` further in keep to
pub record NestedExact (types : Types) (ri : Level → Comma → ℕ → Parser Sight Operand) (gi : Level → Comma → ℕ → Phrase Sight Operand) : Type 0 where
  pub exact : (level : Level) (c : Comma) (count : ℕ) → Exact (ri level c count) (gi level c count) (begins_unary types) (λ s. true) (more_level level)
  pub solid : (level : Level) (c : Comma) (count : ℕ) (x : Operand) → (gi level c count).reads [] x → ⊥

-- what closes is taken behind an expression that it does not go on with
closing_ends : (mark_end cause : ℕ) (test other : Bool) (s : Sight) (end : Ending) → is_meant (found_or (if goes_on end s || other then 0 else cause) (place_if test s)) ≡ true → (test ≡ true → goes_on end s ≡ false) → goes_on end s ≡ false
closing_ends n cause test other s end e h =
    or_cases (is_taken (found_or (if goes_on end s || other then 0 else cause) (place_if test s))) (is_blamed (found_or (if goes_on end s || other then 0 else cause) (place_if test s))) e
    (λ t. h (there_place test s (closing_taken _ (place_if test s) t)))
    (λ b. or_fails_left (goes_on end s) other (closing_unless (goes_on end s || other) cause (place_if test s) b))

module _ (types : Types) (room : ℕ) (ri : Level → Comma → ℕ → Parser Sight Operand) (gi : Level → Comma → ℕ → Phrase Sight Operand) (N : NestedExact types ri gi) where
  abbrev W : InnerExact types (tr.within types room) (tg.within types room)
  W = within_exact types room

  -- typename ")"
  typename_end_meant : (x : ReadDeclarator) (s : Sight) → is_meant (g.typename_end types (pred room) x s) ≡ true → more_dtor of.Nothing x s ≡ false
  typename_end_meant x s e =
      or_cases (is_taken (g.typename_end types (pred room) x s)) (is_blamed (g.typename_end types (pred room) x s)) e
      (λ t. mark_ends p.CloseParen of.Nothing x.end s refl (there_place (is_mark p.CloseParen s) s (closing_taken _ (g.close_paren s) t)))
      (λ b. closing_unless (goes_on_declarator of.Nothing x.end s) _ (g.close_paren s) b)

  begins_typename : Sight → Bool
  begins_typename s = begins_dtor s || is_mark p.CloseParen s

  bad_typename : ℕ → Sight → Bool
  bad_typename count s = W.bad_dtor of.Nothing count s || not (is_specifier s)

  typename_declarator_exact : (count : ℕ) (x : ReadSpecifiers) → Exact (r.typename_declarator types room ri count x) (g.typename_declarator types room gi count x) begins_typename (bad_typename count) (λ y s. false)
  unfolding r.typename_declarator begins_typename bad_typename
  typename_declarator_exact count x =
      closed_open (g.typename_end types (pred room)) (g.type_name x) (λ y s. false) (W.dtor of.Nothing count) (λ u y d s e. typename_end_meant y s e)
      (λ s. begins_dtor s || is_mark p.CloseParen s) (λ s. W.bad_dtor of.Nothing count s || not (is_specifier s))
      (λ s e. or_left (begins_dtor s) (is_mark p.CloseParen s) e) (λ s e. or_left (W.bad_dtor of.Nothing count s) (not (is_specifier s)) e)
      (λ y d s e. or_right (begins_dtor s) (is_mark p.CloseParen s) (there_place (is_mark p.CloseParen s) s (closing_taken _ (g.close_paren s) e)))
      (λ y d s e.
      let end = W.bare of.Nothing count y d in
      or_right (W.bad_dtor of.Nothing count s) (not (is_specifier s))
      (not_false (is_specifier s) (bare_specifier of.Nothing y.end s end.0 end.1 (typename_end_meant y s (meant_blamed (g.typename_end types (pred room) y s) e)))))

  typename_exact : (count : ℕ) → Exact (r.typename types room ri count) (g.typename types room gi count) (begins_specs types) (W.bad_specs count) (λ y s. false)
  unfolding r.typename begins_typename bad_typename
  typename_exact count =
      seq (W.specs count) (typename_declarator_exact count) (W.specs_solid count)
      (λ u x d s e. more_specifier x s (or_cases (begins_dtor s) (is_mark p.CloseParen s) e (λ h. specifier_dtor s h) (λ h. ap is_specifier_kind (mark_kind p.CloseParen s.token.kind h))))
      (λ u x d s e. or_cases (W.bad_dtor of.Nothing count s) (not (is_specifier s)) e (λ h. W.clear count u x d of.Nothing s h) (λ h. more_specifier x s (not_true (is_specifier s) h)))
      (λ u x y d d' s e. absurd (seq_solid_right ((tg.within types room).dtor of.Nothing count) (λ z. phrase.◌>>=◌ (phrase.one (g.typename_end types (pred room) z)) (λ _. phrase.pure (g.type_name x z))) (λ z w q. seq_solid (phrase.one (g.typename_end types (pred room) z)) (λ _. phrase.pure (g.type_name x z)) (token_solid (g.typename_end types (pred room) z)) w q) y d'))

  -- prefixes
  after_prefix_exact : (count : ℕ) (x : PrefixStart) → Exact (r.after_prefix_start types room ri count x) (g.after_prefix_start types room gi count x) (λ s. true) (λ s. true) (λ y s. false)
  unfolding r.after_prefix_start
  after_prefix_exact count (prefix_start.Op op place) = loose (nothing (g.one_prefix_of (before.Op op place) count false) (λ y s. false))
  after_prefix_exact count (prefix_start.Step op place) = loose (nothing (g.one_prefix_of (before.Step op place) count false) (λ y s. false))
  after_prefix_exact count (prefix_start.Cast place) = loose (made (λ (type : TypeName × ℕ). g.one_prefix_of (before.Cast type.0 place) type.1 true) (λ y s. false) (typename_exact count) (λ u x d s e. refl))

  one_prefix_exact : (all : Prefixes) → Exact (r.one_prefix types room ri all) (g.one_prefix types room gi all) (λ s. is_taken (g.prefix_token types room (all.count + length all.items) s)) (λ s. is_blamed (g.prefix_token types room (all.count + length all.items) s)) (λ y s. false)
  unfolding r.one_prefix
  one_prefix_exact all = token_then (g.prefix_token types room (all.count + length all.items)) (after_prefix_exact all.count)

  one_prefix_solid : (all x : Prefixes) → (g.one_prefix types room gi all).reads [] x → ⊥
  one_prefix_solid all x d = seq_solid (phrase.one (g.prefix_token types room (all.count + length all.items))) (g.after_prefix_start types room gi all.count) (token_solid (g.prefix_token types room (all.count + length all.items))) x d

  prefixes_exact : (count : ℕ) → Exact (r.prefixes types room ri count) (g.prefixes types room gi count) (begins_prefix types room (g.no_prefixes count)) (begins_prefix types room (g.no_prefixes count)) (begins_prefix types room)
  unfolding r.prefixes
  prefixes_exact count =
      wider
      (repeat (begins_prefix types room) g.plus_prefix (begins_prefix types room) one_prefix_exact one_prefix_solid
      (λ all s e. prefix_meant types room all s (meant_taken (g.prefix_token types room (all.count + length all.items) s) e)) (λ all s e. prefix_meant types room all s (meant_blamed (g.prefix_token types room (all.count + length all.items) s) e))
      (λ all u x d s e. refl) (λ all s e. e) (λ all u x d s e. refl) (g.no_prefixes count))
      (begins_prefix types room (g.no_prefixes count)) (begins_prefix types room (g.no_prefixes count)) (begins_prefix types room)
      (λ s e. prefix_meant types room (g.no_prefixes count) s (meant_taken (g.prefix_token types room (count + 0) s) e)) (λ s e. prefix_meant types room (g.no_prefixes count) s (meant_blamed (g.prefix_token types room (count + 0) s) e)) (λ x s e. e)

  prefixes_nil : (count : ℕ) (x : Prefixes) → (g.prefixes types room gi count).reads [] x → x ≡ g.no_prefixes count
  prefixes_nil count x d = folded_nil g.plus_prefix (λ all. (g.one_prefix types room gi all).reads) one_prefix_solid (g.no_prefixes count) [] x d refl

  -- arguments
  more_arguments : Arguments → Sight → Bool
  more_arguments all s = is_mark p.Comma s || goes_on all.end s

  argument_list_exact : (count : ℕ) → Exact (r.argument_list types room ri count) (g.argument_list types room gi count) (begins_unary types) (λ s. true) more_arguments
  unfolding r.argument_list more_arguments
  argument_list_exact count =
      separated (g.argument_comma (pred room)) (λ _. is_mark p.Comma) g.plus_argument g.first_argument (λ (all : Arguments) s. is_mark p.Comma s || goes_on all.end s)
      (N.exact Whole comma.Separates count) (λ all. N.exact Whole comma.Separates all.end.count) (N.solid Whole comma.Separates count)
      (λ all s e. offered_place (pred room) all.end.count (is_mark p.Comma s) s e)
      (λ u x d s e. mark_ends_expression p.Comma x.end s refl e) (λ all u x d s e. mark_ends_expression p.Comma x.end s refl e)
      (λ all s e. or_fails_left (is_mark p.Comma s) (goes_on all.end s) e)
      (λ u x d s e. or_fails_right (is_mark p.Comma s) (goes_on x.end s) e) (λ all u x d s e. or_fails_right (is_mark p.Comma s) (goes_on x.end s) e)

  argument_list_solid : (count : ℕ) (x : Arguments) → (g.argument_list types room gi count).reads [] x → ⊥
  argument_list_solid count x d = seq_solid (gi Whole comma.Separates count) (λ first. phrase.folded g.plus_argument (λ all. phrase.◌>>◌ (phrase.one (g.argument_comma (pred room) all)) (gi Whole comma.Separates all.end.count)) (g.first_argument first)) (N.solid Whole comma.Separates count) x d

  arguments_end_meant : (all : Arguments) (s : Sight) → is_meant (g.arguments_end types (pred room) all s) ≡ true → more_arguments all s ≡ false
  unfolding more_arguments
  arguments_end_meant all s e =
      or_cases (is_taken (g.arguments_end types (pred room) all s)) (is_blamed (g.arguments_end types (pred room) all s)) e
      (λ t.
      let close = there_place (is_mark p.CloseParen s) s (closing_taken _ (g.close_paren s) t) in
      or_fails (is_mark p.Comma s) (goes_on all.end s) (ap (is_mark_kind p.Comma) (mark_kind p.CloseParen s.token.kind close)) (mark_ends_expression p.CloseParen all.end s refl close))
      (λ b.
      let d = closing_unless (goes_on all.end s || is_mark p.Comma s) _ (g.close_paren s) b in
      or_fails (is_mark p.Comma s) (goes_on all.end s) (or_fails_right (goes_on all.end s) (is_mark p.Comma s) d) (or_fails_left (goes_on all.end s) (is_mark p.Comma s) d))

  some_arguments_exact : (count : ℕ) → Exact (r.some_arguments types room ri count) (g.some_arguments types room gi count) (begins_unary types) (λ s. true) (λ y s. false)
  unfolding r.some_arguments
  some_arguments_exact count = closed (g.arguments_end types (pred room)) (λ (all : Arguments). all) (λ y s. false) (argument_list_exact count) (argument_list_solid count) (λ u x d s e. arguments_end_meant x s e)

  no_arguments_exact : (count : ℕ) → Exact (r.no_arguments types room ri count) (g.no_arguments types room gi count) (λ s. is_taken (g.no_arguments_end s)) (λ s. is_blamed (g.no_arguments_end s)) (λ y s. false)
  unfolding r.no_arguments
  no_arguments_exact count = token_then g.no_arguments_end (λ _. nothing (g.nothing_given count) (λ y s. false))

  arguments_exact : (count : ℕ) → Exact (r.arguments types room ri count) (g.arguments types room gi count) (λ s. true) (λ s. true) (λ y s. false)
  unfolding r.arguments
  arguments_exact count =
      loose
      (either_sure (is_mark p.CloseParen) (no_arguments_exact count) (some_arguments_exact count)
      (λ x d. seq_solid (phrase.one g.no_arguments_end) (λ _. phrase.pure (g.nothing_given count)) (token_solid g.no_arguments_end) x d)
      (λ s e. closing_place (is_mark p.CloseParen s) s (meant_taken (g.no_arguments_end s) e)) (λ s e. closing_place (is_mark p.CloseParen s) s (meant_blamed (g.no_arguments_end s) e))
      (λ s e. inl (inr (s, s.token.place, refl, rw e refl)))
      (λ s e. mark_begins types p.CloseParen s refl e)
      (λ x d. absurd (seq_solid (g.argument_list types room gi count) (λ all. phrase.◌>>=◌ (phrase.one (g.arguments_end types (pred room) all)) (λ _. phrase.pure all)) (argument_list_solid count) x d)))

  -- postfix operators
  index_end_meant : (x : Operand) (s : Sight) → is_meant (g.index_end types (pred room) x s) ≡ true → more_expr x s ≡ false
  index_end_meant x s e = closing_ends 0 _ (is_mark p.CloseBracket s) (is_separator comma.Plain s) s x.end e (λ h. mark_ends_expression p.CloseBracket x.end s refl h)

  inner_end_meant : (x : Operand) (s : Sight) → is_meant (g.inner_end types (pred room) x s) ≡ true → more_expr x s ≡ false
  inner_end_meant x s e = closing_ends 0 _ (is_mark p.CloseParen s) (is_separator comma.LeftOut s) s x.end e (λ h. mark_ends_expression p.CloseParen x.end s refl h)

  after_postfix_exact : (x : Operand) (z : PostfixStart) → Exact (r.after_postfix_start types room ri x z) (g.after_postfix_start types room gi x z) (λ s. true) (λ s. true) (λ y s. false)
  unfolding r.after_postfix_start
  after_postfix_exact x (postfix_start.Index place) = closed_any (g.index_end types (pred room)) (g.subscript_of x place) (λ y s. false) (N.exact Whole comma.Plain (x.end.count + 1)) (λ u y d s e. index_end_meant y s e)
  after_postfix_exact x (postfix_start.Call place) = made (g.call_of x place) (λ y s. false) (arguments_exact (x.end.count + 1)) (λ u y d s e. refl)
  after_postfix_exact x (postfix_start.Member op place) = loose (token_then (g.field_token types room (x.end.count + 1)) (λ field. nothing (g.member_of x op place field) (λ y s. false)))
  after_postfix_exact x (postfix_start.Step op place) = loose (nothing (g.step_of x op place) (λ y s. false))

  one_postfix_exact : (x : Operand) → Exact (r.one_postfix types room ri x) (g.one_postfix types room gi x) (λ s. is_taken (g.postfix_token room x.end s)) (λ s. is_blamed (g.postfix_token room x.end s)) (λ y s. false)
  unfolding r.one_postfix
  one_postfix_exact x = token_then (g.postfix_token room x.end) (after_postfix_exact x)

  one_postfix_solid : (x y : Operand) → (g.one_postfix types room gi x).reads [] y → ⊥
  one_postfix_solid x y d = seq_solid (phrase.one (g.postfix_token room x.end)) (g.after_postfix_start types room gi x) (token_solid (g.postfix_token room x.end)) y d

  postfixes_exact : (x : Operand) → Exact (r.postfixes types room ri x) (g.postfixes types room gi x) (λ s. true) (λ s. true) more_unary
  unfolding r.postfixes
  postfixes_exact x =
      loose
      (repeat (λ (y : Operand). goes_on_unary y.end) latest more_unary one_postfix_exact one_postfix_solid
      (λ y s e. postfix_meant room y.end s (meant_taken (g.postfix_token room y.end s) e)) (λ y s e. postfix_meant room y.end s (meant_blamed (g.postfix_token room y.end s) e))
      (λ y u z d s e. refl) (λ y s e. e) (λ y u z d s e. refl) x)

  inner_expr_exact : (count : ℕ) → Exact (r.inner_expr types room ri count) (g.inner_expr types room gi count) (λ s. true) (λ s. true) (λ y s. false)
  unfolding r.inner_expr
  inner_expr_exact count = closed_any (g.inner_end types (pred room)) g.parentheses_of (λ y s. false) (N.exact Whole comma.LeftOut count) (λ u y d s e. inner_end_meant y s e)

  inner_expr_solid : (count : ℕ) (x : Operand) → (g.inner_expr types room gi count).reads [] x → ⊥
  inner_expr_solid count x d = seq_solid (gi Whole comma.LeftOut count) (λ y. phrase.◌>>=◌ (phrase.one (g.inner_end types (pred room) y)) (λ _. phrase.pure (g.parentheses_of y))) (N.solid Whole comma.LeftOut count) x d

  size_exact : (place : Place) (count : ℕ) → Exact (r.size types room ri place count) (g.size types room gi place count) (λ s. true) (λ s. true) more_unary
  unfolding r.size
  size_exact place count = loose (token_then (g.open_token types room count) (λ _. made (g.size_operand place) more_unary (typename_exact count) (λ u x d s e. refl)))

  -- an operand
  after_operand_exact : (count : ℕ) (x : OperandStart) → Exact (r.after_operand_start types room ri count x) (g.after_operand_start types room gi count x) (λ s. true) (λ s. true) more_unary
  unfolding r.after_operand_start
  after_operand_exact count (start.Name name) = postfixes_exact (g.name_operand name count)
  after_operand_exact count (start.Literal literal) = postfixes_exact (g.constant literal count)
  after_operand_exact count (start.Open place) = seq (inner_expr_exact count) postfixes_exact (inner_expr_solid count) (λ u x d s e. refl) (λ u x d s e. refl) (λ u x y d d' s e. refl)
  after_operand_exact count (start.SizeOf place) = size_exact place count

  operand_exact : (all : Prefixes) → Exact (r.operand types room ri all) (g.operand types room gi all) (λ s. is_taken (g.operand_token types all.cast room (all.count + length all.items) s)) (λ s. is_blamed (g.operand_token types all.cast room (all.count + length all.items) s)) more_unary
  unfolding r.operand
  operand_exact all = token_then (g.operand_token types all.cast room (all.count + length all.items)) (after_operand_exact all.count)

  operand_solid : (all : Prefixes) (x : Operand) → (g.operand types room gi all).reads [] x → ⊥
  operand_solid all x d = seq_solid (phrase.one (g.operand_token types all.cast room (all.count + length all.items))) (g.after_operand_start types room gi all.count) (token_solid (g.operand_token types all.cast room (all.count + length all.items))) x d

  -- unary
  unfoldable pub bad_unary : ℕ → Sight → Bool
  bad_unary count s = begins_prefix types room (g.no_prefixes count) s || is_blamed (g.operand_token types false room (count + 0) s)

  pub unary_exact : (count : ℕ) → Exact (r.unary types room ri count) (g.unary types room gi count) (begins_unary types) (bad_unary count) more_unary
  unfolding r.unary bad_unary
  unary_exact count =
      seq_open (prefixes_exact count)
      (λ all. made (g.with_prefixes all.items) more_unary (operand_exact all) (λ u x d s e. subst (λ (z : Bool). (is_postfix_op s && not z) ≡ false) (prefixed_type all.items x) e))
      (λ u all d s e. operand_meant types all.cast room (all.count + length all.items) s (meant_taken (g.operand_token types all.cast room (all.count + length all.items) s) e))
      (λ u all d s e. operand_meant types all.cast room (all.count + length all.items) s (meant_blamed (g.operand_token types all.cast room (all.count + length all.items) s) e))
      (λ u all y d d' s e. absurd (seq_solid (g.operand types room gi all) (λ x. phrase.pure (g.with_prefixes all.items x)) (operand_solid all) y d'))
      (begins_unary types) (λ s. begins_prefix types room (g.no_prefixes count) s || is_blamed (g.operand_token types false room (count + 0) s))
      (λ s e. or_left (is_there (g.start_of_prefix types s)) (is_there (g.start_of_operand types s)) (and_left (is_there (g.start_of_prefix types s)) _ e))
      (λ s e. or_left (begins_prefix types room (g.no_prefixes count) s) _ e)
      (λ all d s e. or_right (is_there (g.start_of_prefix types s)) (is_there (g.start_of_operand types s)) (operand_taken types all.cast room (all.count + length all.items) s e))
      (λ all d s e. or_right (begins_prefix types room (g.no_prefixes count) s) _ (subst (λ (z : Prefixes). is_blamed (g.operand_token types z.cast room (z.count + length z.items) s) ≡ true) (prefixes_nil count all d) e))

  pub unary_solid : (count : ℕ) (x : Operand) → (g.unary types room gi count).reads [] x → ⊥
  unary_solid count x d =
      seq_solid_right (g.prefixes types room gi count) (λ all. phrase.◌>>=◌ (g.operand types room gi all) (λ y. phrase.pure (g.with_prefixes all.items y)))
      (λ all y e. seq_solid (g.operand types room gi all) (λ z. phrase.pure (g.with_prefixes all.items z)) (operand_solid all) y e) x d

  -- binary operators
  operators_solid : (level count : ℕ) (x : Operand) → (g.operators types room gi level count).reads [] x → ⊥
  operators_solid zero count x d = unary_solid count x d
  operators_solid (suc level) count x d =
      seq_solid (g.operators types room gi level count) (λ first. phrase.folded r.join (λ left. phrase.◌>>=◌ (phrase.one (g.infix_token room (suc level) left)) (λ op. phrase.◌>>=◌ (g.operators types room gi level (left.end.count + 1)) (λ right. phrase.pure {A = Infix × Operand} (op, right)))) first) (operators_solid level count) x d

  module _ (level : ℕ) (H : (count : ℕ) → Exact (r.operators types room ri level count) (g.operators types room gi level count) (begins_unary types) (bad_unary count) (more_at level)) where
    item_solid : (left : Operand) (x : Infix × Operand) → (phrase.◌>>=◌ (phrase.one (g.infix_token room (suc level) left)) (λ op. phrase.◌>>=◌ (g.operators types room gi level (left.end.count + 1)) (λ right. phrase.pure {A = Infix × Operand} (op, right)))).reads [] x → ⊥
    item_solid left x d = seq_solid (phrase.one (g.infix_token room (suc level) left)) (λ op. phrase.◌>>=◌ (g.operators types room gi level (left.end.count + 1)) (λ right. phrase.pure {A = Infix × Operand} (op, right))) (token_solid (g.infix_token room (suc level) left)) x d

    infix_meant : (x : Operand) (s : Sight) → is_meant (g.infix_token room (suc level) x s) ≡ true → is_infix (suc level) s ≡ true
    infix_meant x s e = offered_meant room x.end.count s _ e

    level_exact : (count : ℕ) → Exact (r.operators types room ri (suc level) count) (g.operators types room gi (suc level) count) (begins_unary types) (bad_unary count) (more_at (suc level))
    unfolding r.operators
    level_exact count =
        seq (H count)
        (λ x. repeat (λ _. is_infix (suc level)) r.join (more_at (suc level))
        (λ left. token_then (g.infix_token room (suc level) left) (λ op. made (λ (right : Operand). (op, right)) (λ (z : Infix × Operand) s. more_at level z.1 s) (H (left.end.count + 1)) (λ u y d s e. e)))
        item_solid
        (λ y s e. infix_meant y s (meant_taken (g.infix_token room (suc level) y s) e)) (λ y s e. infix_meant y s (meant_blamed (g.infix_token room (suc level) y s) e))
        (λ y u z d s e. infix_apart level z.1 s e)
        (λ y s e. infix_stops (suc level) y s e)
        (λ y u z d s e. level_ends level (r.join y z) z.1 s refl e) x)
        (operators_solid level count)
        (λ u x d s e. infix_apart level x s (infix_meant x s (meant_taken (g.infix_token room (suc level) x s) e)))
        (λ u x d s e. infix_apart level x s (infix_meant x s (meant_blamed (g.infix_token room (suc level) x s) e)))
        (λ u x y d d' s e. level_ends level x x s refl (subst (λ (z : Operand). more_at (suc level) z s ≡ false) (folded_nil r.join (λ z. (phrase.◌>>=◌ (phrase.one (g.infix_token room (suc level) z)) (λ op. phrase.◌>>=◌ (g.operators types room gi level (z.end.count + 1)) (λ right. phrase.pure {A = Infix × Operand} (op, right)))).reads) item_solid x [] y d' refl) e))

  operators_exact : (level count : ℕ) → Exact (r.operators types room ri level count) (g.operators types room gi level count) (begins_unary types) (bad_unary count) (more_at level)
  unfolding r.operators
  operators_exact zero count = wider (unary_exact count) (begins_unary types) (bad_unary count) (more_at 0) (λ s e. e) (λ s e. e) (λ x s e. or_left (goes_on_unary x.end s) _ e)
  operators_exact (suc level) count = level_exact level (operators_exact level) count

  -- "?" expr ":" conditional
  colon_meant : (c : Comma) (x : Operand) (s : Sight) → is_meant (g.colon_token types c (pred room) x s) ≡ true → more_expr x s ≡ false
  colon_meant c x s e = go (is_mark p.Colon s) refl e
    where
      blamed : (a b : Bool) (cause : ℕ) → is_meant (let z : Result Place ℕ = Err (if a || b then 0 else cause) in z) ≡ true → a ≡ false
      blamed true b cause h = absurd (true≢false (sym h))
      blamed false b cause h = refl

      go : (a : Bool) → is_mark p.Colon s ≡ a → is_meant (if a then (if nat_lt (pred room) x.end.count then Err 3 else Ok s.token.place) else Err (g.after_expression types (g.inside c) (pred room) x.end s)) ≡ true → more_expr x s ≡ false
      go true f h = mark_ends_expression p.Colon x.end s refl f
      go false f h = blamed (goes_on x.end s) (is_separator (g.inside c) s) _ h

  otherwise_exact : (c : Comma) (condition : Operand) (place : Place) (middle : Operand) → Exact (r.otherwise types room ri c condition place middle) (g.otherwise types room gi c condition place middle) (λ s. is_taken (g.colon_token types c (pred room) middle s)) (λ s. is_blamed (g.colon_token types c (pred room) middle s)) more_conditional
  unfolding r.otherwise
  otherwise_exact c condition place middle =
      token_then (g.colon_token types c (pred room) middle) (λ _. made (g.choice_of condition place middle) more_conditional (N.exact Conditional c middle.end.count) (λ u x d s e. e))

  otherwise_solid : (c : Comma) (condition : Operand) (place : Place) (middle x : Operand) → (g.otherwise types room gi c condition place middle).reads [] x → ⊥
  otherwise_solid c condition place middle x d = seq_solid (phrase.one (g.colon_token types c (pred room) middle)) (λ _. phrase.◌>>=◌ (gi Conditional c middle.end.count) (λ last. phrase.pure (g.choice_of condition place middle last))) (token_solid (g.colon_token types c (pred room) middle)) x d

  choice_exact : (c : Comma) (condition : Operand) → Exact (r.choice types room ri c condition) (g.choice types room gi c condition) (λ s. is_taken (g.question_token room condition s)) (λ s. is_blamed (g.question_token room condition s)) more_conditional
  unfolding r.choice
  choice_exact c condition =
      token_then (g.question_token room condition)
      (λ place. seq (N.exact Whole (g.inside c) condition.end.count) (otherwise_exact c condition place) (N.solid Whole (g.inside c) condition.end.count)
      (λ u x d s e. colon_meant c x s (meant_taken (g.colon_token types c (pred room) x s) e))
      (λ u x d s e. colon_meant c x s (meant_blamed (g.colon_token types c (pred room) x s) e))
      (λ u x y d d' s e. absurd (otherwise_solid c condition place x y d')))

  choice_solid : (c : Comma) (condition x : Operand) → (g.choice types room gi c condition).reads [] x → ⊥
  choice_solid c condition x d = seq_solid (phrase.one (g.question_token room condition)) (λ place. phrase.◌>>=◌ (gi Whole (g.inside c) condition.end.count) (g.otherwise types room gi c condition place)) (token_solid (g.question_token room condition)) x d

  -- conditional
  question_meant : (condition : Operand) (s : Sight) → is_meant (g.question_token room condition s) ≡ true → is_mark p.Question s ≡ true
  question_meant condition s e = offered_place room condition.end.count (is_mark p.Question s) s e

  after_condition_exact : (c : Comma) (condition : Operand) → Exact (r.after_condition types room ri c condition) (g.after_condition types room gi c condition) (is_mark p.Question) (is_mark p.Question) more_conditional
  unfolding r.after_condition
  after_condition_exact c condition =
      wider
      (either (is_mark p.Question) (choice_exact c condition) (nothing condition more_conditional) (choice_solid c condition)
      (λ s e. question_meant condition s (meant_taken (g.question_token room condition s) e)) (λ s e. question_meant condition s (meant_blamed (g.question_token room condition s) e))
      (λ s e. absurd (true≢false (sym e))) (λ s e. absurd (true≢false (sym e)))
      (λ x d s e. or_fails_right (goes_on_unary x.end s || is_there (binary_op s.token.kind)) (is_mark p.Question s) e))
      (is_mark p.Question) (is_mark p.Question) more_conditional
      (λ s e. or_cases (is_taken (g.question_token room condition s)) false e (λ h. question_meant condition s (meant_taken (g.question_token room condition s) h)) (λ h. absurd (true≢false (sym h))))
      (λ s e. or_cases (is_blamed (g.question_token room condition s)) false e (λ h. question_meant condition s (meant_blamed (g.question_token room condition s) h)) (λ h. absurd (true≢false (sym h))))
      (λ x s e. e)

  conditional_exact : (c : Comma) (count : ℕ) → Exact (r.conditional types room ri c count) (g.conditional types room gi c count) (begins_unary types) (bad_unary count) more_conditional
  unfolding r.conditional
  conditional_exact c count =
      seq (operators_exact 10 count) (after_condition_exact c) (operators_solid 10 count)
      (λ u x d s e. question_apart 10 x s e) (λ u x d s e. question_apart 10 x s e)
      (λ u x y d d' s e. conditional_ends 10 x s (nil x y d' s e))
    where
      nil : (x y : Operand) → (g.after_condition types room gi c x).reads [] y → (s : Sight) → more_conditional y s ≡ false → more_conditional x s ≡ false
      nil x y (inl d) s e = absurd (choice_solid c x y d)
      nil x y (inr d) s e = subst (λ (z : Operand). more_conditional z s ≡ false) d.1 e

  conditional_solid : (c : Comma) (count : ℕ) (x : Operand) → (g.conditional types room gi c count).reads [] x → ⊥
  conditional_solid c count x d = seq_solid (g.operators types room gi 10 count) (g.after_condition types room gi c) (operators_solid 10 count) x d

  -- assignments
  more_chain : Chain → Sight → Bool
  more_chain chain s = goes_on chain.last.end s

  assignment_exact : (c : Comma) (chain : Chain) → Exact (r.assignment types room ri c chain) (g.assignment types room gi c chain) (λ s. is_taken (g.assign_token room chain s)) (λ s. is_blamed (g.assign_token room chain s)) (λ (z : Assigning × Operand) s. more_conditional z.1 s)
  unfolding r.assignment
  assignment_exact c chain =
      token_then (g.assign_token room chain) (λ by. made (λ (value : Operand). (by, value)) (λ (z : Assigning × Operand) s. more_conditional z.1 s) (conditional_exact c (chain.last.end.count + 1)) (λ u x d s e. e))

  assignment_solid : (c : Comma) (chain : Chain) (x : Assigning × Operand) → (g.assignment types room gi c chain).reads [] x → ⊥
  assignment_solid c chain x d = seq_solid (phrase.one (g.assign_token room chain)) (λ by. phrase.◌>>=◌ (g.conditional types room gi c (chain.last.end.count + 1)) (λ value. phrase.pure {A = Assigning × Operand} (by, value))) (token_solid (g.assign_token room chain)) x d

  chain_exact : (c : Comma) (count : ℕ) → Exact (r.chain types room ri c count) (g.chain types room gi c count) (begins_unary types) (bad_unary count) more_chain
  unfolding r.chain more_chain
  chain_exact c count =
      let meant : (chain : Chain) (s : Sight) → is_meant (g.assign_token room chain s) ≡ true → begins_assignment chain s ≡ true = λ chain s e. assign_meant room chain s e in
      seq (conditional_exact c count)
      (λ first. repeat begins_assignment g.plus_target (λ (chain : Chain) s. goes_on chain.last.end s) (assignment_exact c) (assignment_solid c)
      (λ chain s e. meant chain s (meant_taken (g.assign_token room chain s) e)) (λ chain s e. meant chain s (meant_blamed (g.assign_token room chain s) e))
      (λ chain u z d s e. assign_apart z.1 s (and_left (is_there (g.assigning_of s)) _ e))
      (λ chain s e. assignment_stops chain s e)
      (λ chain u z d s e. expression_conditional z.1 s e)
      (g.first_target first))
      (conditional_solid c count)
      (λ u x d s e. assign_apart x s (and_left (is_there (g.assigning_of s)) _ (meant (g.first_target x) s (meant_taken (g.assign_token room (g.first_target x) s) e))))
      (λ u x d s e. assign_apart x s (and_left (is_there (g.assigning_of s)) _ (meant (g.first_target x) s (meant_blamed (g.assign_token room (g.first_target x) s) e))))
      (λ u x y d d' s e. expression_conditional x s (subst (λ (z : Chain). goes_on z.last.end s ≡ false) (folded_nil g.plus_target (λ z. (g.assignment types room gi c z).reads) (assignment_solid c) (g.first_target x) [] y d' refl) e))

  expr_exact : (c : Comma) (count : ℕ) → Exact (r.expr types room ri c count) (g.expr types room gi c count) (begins_unary types) (bad_unary count) more_expr
  unfolding r.expr more_chain
  expr_exact c count = made g.chain_operand more_expr (chain_exact c count) (λ u x d s e. assigned_ends x s e)

  chain_solid : (c : Comma) (count : ℕ) (x : Chain) → (g.chain types room gi c count).reads [] x → ⊥
  chain_solid c count x d = seq_solid (g.conditional types room gi c count) (λ first. phrase.folded g.plus_target (g.assignment types room gi c) (g.first_target first)) (conditional_solid c count) x d

  expr_solid : (c : Comma) (count : ℕ) (x : Operand) → (g.expr types room gi c count).reads [] x → ⊥
  expr_solid c count x d = seq_solid (g.chain types room gi c count) (λ all. phrase.pure (g.chain_operand all)) (chain_solid c count) x d

  at_level_exact : (level : Level) (c : Comma) (count : ℕ) → Exact (r.at_level types room ri level c count) (g.at_level types room gi level c count) (begins_unary types) (bad_unary count) (more_level level)
  unfolding r.at_level
  at_level_exact Whole c count = expr_exact c count
  at_level_exact Conditional c count = conditional_exact c count

  at_level_solid : (level : Level) (c : Comma) (count : ℕ) (x : Operand) → (g.at_level types room gi level c count).reads [] x → ⊥
  at_level_solid Whole c count x d = expr_solid c count x d
  at_level_solid Conditional c count x d = conditional_solid c count x d

-- Expressions at each depth.
pub nested_exact : (types : Types) (n : ℕ) → NestedExact types (r.nested types n) (g.nested types n)
unfolding r.nested g.nested
nested_exact types zero = record {
  exact = λ level c count. wider (token (λ s. Err (without_room count s))) (begins_unary types) (λ s. true) (more_level level) (λ s e. absurd (true≢false (sym e))) (λ s e. refl) (λ x s e. absurd (true≢false (sym e)));
  solid = λ level c count x d. token_solid (λ s. Err (without_room count s)) x d;
}
nested_exact types (suc room) =
    let N = nested_exact types room in
    record {
      exact = λ level c count. wider (at_level_exact types room (r.nested types room) (g.nested types room) N level c count) (begins_unary types) (λ s. true) (more_level level) (λ s e. e) (λ s e. refl) (λ x s e. e);
      solid = at_level_solid types room (r.nested types room) (g.nested types room) N;
    }
