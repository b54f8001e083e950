-- The readers of terms, formulas, types and paths are exact for their grammar.
use Rattle.std.proofs.Common.{◌≡◌, ℕ, zero, suc, ◌+◌, pred, Bool, true, false, ◌&&◌, ◌||◌, inl, inr, Result, Err, List, [], refl, sym, subst, true≢false}
use Rattle.floyd_text.specs.declared.place.Place.{Place}
use Rattle.floyd_lex.specs.declared.kinds.Punctuator.TheVariants as p
use Rattle.floyd_lex.specs.Token.{Token}
use Rattle.floyd_grammar.specs.Phrase.{Phrase}
use Rattle.floyd_grammar.specs.Phrase as phrase
use Rattle.floyd_grammar.specs.ParseClauses.{Parser, is_taken, is_blamed, is_meant}
use Rattle.floyd_grammar.specs.ParseClauses as parse
use Rattle.floyd_grammar.proofs.Exact.{Exact, token, token_solid, nothing}
use Rattle.floyd_grammar.proofs.Seq.{seq, seq_open, seq_solid, seq_solid_right, token_then, made}
use Rattle.floyd_grammar.proofs.Either.{either, either_sure, or_left, or_right}
use Rattle.floyd_grammar.proofs.Wider.{wider, loose}
use Rattle.floyd_grammar.proofs.Repeat.{repeat, folded_nil}
use Rattle.floyd_grammar.proofs.Lists.{separated}
use Rattle.floyd_cparse_trees.specs.declared.types.Identifier.{Identifier}
use Rattle.floyd_cparse_tokens.specs.Tokens.{is_there}
use Rattle.floyd_cparse_tokens.proofs.TokenLemmas.{or_fails_left, or_fails_right, closing_meant}
use Rattle.floyd_termread_trees.specs.declared.words.Word.{Word}
use Rattle.floyd_termread_trees.specs.declared.written.Opening.TheVariants as opening
use Rattle.floyd_termread_trees.specs.declared.written.Prefix.{Prefix}
use Rattle.floyd_termread_trees.specs.declared.written.Prefix.TheVariants as prefix
use Rattle.std.specs.Prelude.{Ok, Option, Some, None, if◌then◌else◌}
use Rattle.floyd_termread_tokens.specs.Tokens.{is_mark, is_cut, place_if, blame, without_room}
use Rattle.floyd_termread_tokens.proofs.TakeLemmas.{there_place, offered_meant, cut_taken}
use Rattle.floyd_termread_sorts.proofs.SortExact.{quantified_exact}
use Rattle.floyd_termread_grammar.specs.declared.values.Atom.{Atom}
use Rattle.floyd_termread_grammar.specs.declared.values.Chain.{Chain}
use Rattle.floyd_termread_tables.specs.declared.values.Class.{Class}
use Rattle.floyd_termread_tables.specs.declared.values.Class.TheVariants as class
use Rattle.floyd_termread_grammar.specs.declared.values.Contents.{Contents}
use Rattle.floyd_termread_grammar.specs.declared.values.Filled.{Filled}
use Rattle.floyd_termread_tables.specs.declared.values.Form.{Form}
use Rattle.floyd_termread_tables.specs.declared.values.Form.TheVariants as form
use Rattle.floyd_termread_tables.specs.declared.values.LinkStart.{LinkStart}
use Rattle.floyd_termread_grammar.specs.declared.values.Operand.{Operand}
use Rattle.floyd_termread_grammar.specs.declared.values.Prefixes.{Prefixes}
use Rattle.floyd_termread_tables.specs.declared.values.PrefixStart.{PrefixStart}
use Rattle.floyd_termread_tables.specs.declared.values.PrefixStart.TheVariants as prefix_start
use Rattle.floyd_termread_tables.specs.declared.values.Start.{Start}
use Rattle.floyd_termread_tables.specs.declared.values.Start.TheVariants as start
use Rattle.floyd_termread_grammar.specs.declared.values.StepStart.{StepStart}
use Rattle.floyd_termread_grammar.specs.declared.values.StepStart.TheVariants as step_start
use Rattle.floyd_termread_tables.specs.declared.values.Want.{Want}
use Rattle.floyd_termread_tables.specs.declared.values.Want.TheVariants as want
use Rattle.floyd_termread_tables.specs.Operators.{infix_for, want_behind, must_relate}
use Rattle.floyd_termread_tables.specs.Brackets.{first_want}
use Rattle.floyd_termread_tables.specs.Tables.{prefix_of, start_of}
use Rattle.floyd_termread_grammar.specs.Terms as g
use Rattle.floyd_termread_tables.specs.Operators.{goes_on}
use Rattle.floyd_termread_grammar.specs.Terms.{more_items}
use Rattle.floyd_termread_grammar.specs.TermClauses as r
use Rattle.floyd_termread_grammar.specs.TermClauses.{begins_link}
use Rattle.floyd_termread_grammar.proofs.TokenSets.{opens, begins, cut_stops, more_operand, more_chain, more_nested, blamed_unless, link_stops, link_meant, separator_meant, more_items_stop, bracket_end_meant, empty_apart, prefix_meant, operand_meant, operand_taken, step_meant, steps_end_meant}

-- what is taken or blamed is meant
meant_taken : {A : Type 0} (o : Result A ℕ) → is_taken o ≡ true → is_meant o ≡ true
meant_taken o e = or_left (is_taken o) (is_blamed o) e

meant_blamed : {A : Type 0} (o : Result A ℕ) → is_blamed o ≡ true → is_meant o ≡ true
meant_blamed o e = or_right (is_taken o) (is_blamed o) e

-- A part and the token behind it, of both of which a value is made.
closed_at : {T A B C : Type 0} {p : Parser T A} {g : Phrase T A} {first bad : T → Bool} {more : A → T → Bool} (f : A → T → Result C ℕ) (make : A → C → B) (after : B → T → Bool)
    → Exact p g first bad more → ((x : A) → g.reads [] x → ⊥)
    → ((u : List T) (x : A) → g.reads u x → (t : T) → is_meant (f x t) ≡ true → more x t ≡ false)
    → Exact (parse.◌>>=◌ p (λ x. parse.◌>>=◌ (parse.one (f x)) (λ c. parse.pure (make x c)))) (phrase.◌>>=◌ g (λ x. phrase.◌>>=◌ (phrase.one (f x)) (λ c. phrase.pure (make x c)))) first bad after
closed_at f make after E solid meant =
    seq E (λ x. token_then (f x) (λ c. nothing (make x c) after)) solid
    (λ u x d t e. meant u x d t (meant_taken (f x t) e))
    (λ u x d t e. meant u x d t (meant_blamed (f x t) e))
    (λ u x y d d' t e. absurd (seq_solid (phrase.one (f x)) (λ c. phrase.pure (make x c)) (token_solid (f x)) y d'))

-- the same where the part may be nothing
closed_any_at : {T A B C : Type 0} {p : Parser T A} {g : Phrase T A} {first bad : T → Bool} {more : A → T → Bool} (f : A → T → Result C ℕ) (make : A → C → B) (after : B → T → Bool)
    → Exact p g first bad more
    → ((u : List T) (x : A) → g.reads u x → (t : T) → is_meant (f x t) ≡ true → more x t ≡ false)
    → Exact (parse.◌>>=◌ p (λ x. parse.◌>>=◌ (parse.one (f x)) (λ c. parse.pure (make x c)))) (phrase.◌>>=◌ g (λ x. phrase.◌>>=◌ (phrase.one (f x)) (λ c. phrase.pure (make x c)))) (λ t. true) (λ t. true) after
closed_any_at f make after E meant =
    seq_open E (λ x. token_then (f x) (λ c. nothing (make x c) after))
    (λ u x d t e. meant u x d t (meant_taken (f x t) e))
    (λ u x d t e. meant u x d t (meant_blamed (f x t) e))
    (λ u x y d d' t e. absurd (seq_solid (phrase.one (f x)) (λ c. phrase.pure (make x c)) (token_solid (f x)) y d'))
    (λ t. true) (λ t. true) (λ t e. refl) (λ t e. refl) (λ x d t e. refl) (λ x d t e. refl)

abbrev more_atom : Atom → Token → Bool
more_atom x t = x.bare && is_mark p.OpenParen t

-- what the readers one bracket further in keep to
pub record InnerExact (ri : Want → ℕ → Parser Token Operand) (gi : Want → ℕ → Phrase Token Operand) : Type 0 where
  pub exact : (wanted : Want) (count : ℕ) → Exact (ri wanted count) (gi wanted count) (begins wanted) (λ t. true) (more_nested wanted)
  pub solid : (wanted : Want) (count : ℕ) (x : Operand) → (gi wanted count).reads [] x → ⊥

pub nested_chain : (wanted : Want) (x : Operand) (t : Token) → more_nested wanted x t ≡ true → goes_on x.end t ≡ true
nested_chain (want.Steps place) x t e = absurd (true≢false (sym e))
nested_chain other x t e = e

module _ (room : ℕ) (ri : Want → ℕ → Parser Token Operand) (gi : Want → ℕ → Phrase Token Operand) (N : InnerExact ri gi) where
  inner_exact : (wanted : Want) (count : ℕ) → Exact (ri wanted count) (gi wanted count) (begins wanted) (λ t. true) more_chain
  inner_exact wanted count = wider (N.exact wanted count) (begins wanted) (λ t. true) more_chain (λ t e. e) (λ t e. e) (λ x t e. nested_chain wanted x t e)

  -- brackets
  abbrev more_contents : Form → Contents → Token → Bool
  more_contents of all t = more_items of all t || goes_on all.end t

  contents_exact : (of : Form) (count : ℕ) → Exact (r.contents room ri of count) (g.contents room gi of count) (begins (first_want of)) (λ t. true) (more_contents of)
  unfolding r.contents
  contents_exact of count =
      separated (g.separator_token of) (more_items of) g.plus_item g.first_item (more_contents of)
      (inner_exact (first_want of) count) (λ (all : Contents). inner_exact (g.want_of_next of all) all.end.count) (N.solid (first_want of) count)
      (λ all t e. separator_meant of all t e)
      (λ u x d t e. more_items_stop of (g.first_item x) x.end t e) (λ all u x d t e. more_items_stop of (g.plus_item all x) x.end t e)
      (λ all t e. or_fails_left (more_items of all t) (goes_on all.end t) e)
      (λ u x d t e. or_fails_right (more_items of (g.first_item x) t) (goes_on x.end t) e) (λ all u x d t e. or_fails_right (more_items of (g.plus_item all x) t) (goes_on x.end t) e)

  contents_solid : (of : Form) (count : ℕ) (x : Contents) → (g.contents room gi of count).reads [] x → ⊥
  contents_solid of count x d =
      seq_solid (gi (first_want of) count) (λ first. phrase.folded g.plus_item (λ (all : Contents). phrase.◌>>◌ (phrase.one (g.separator_token of all)) (gi (g.want_of_next of all) all.end.count)) (g.first_item first)) (N.solid (first_want of) count) x d

  some_exact : (of : Form) (count : ℕ) → Exact (r.some_contents room ri of count) (g.some_contents room gi of count) (begins (first_want of)) (λ t. true) (λ x t. false)
  unfolding r.some_contents
  some_exact of count = closed_at (g.bracket_end (pred room) of) g.filled (λ x t. false) (contents_exact of count) (contents_solid of count) (λ u all d t e. bracket_end_meant (pred room) of all t e)

  empty_exact : (of : Form) (count : ℕ) → Exact (r.no_contents room ri of count) (g.no_contents room gi of count) (λ t. is_taken (g.empty_end of t)) (λ t. is_blamed (g.empty_end of t)) (λ x t. false)
  unfolding r.no_contents
  empty_exact of count = token_then (g.empty_end of) (λ close. nothing (g.filled (g.no_items count) (Some close)) (λ x t. false))

  empty_meant : (of : Form) (t : Token) → is_meant (g.empty_end of t) ≡ true → g.is_empty_end of t ≡ true
  empty_meant of t e = there_place (g.is_empty_end of t) t (closing_meant (place_if (g.is_empty_end of t) t) e)

  pub bracket_exact : (of : Form) (count : ℕ) → Exact (r.bracket room ri of count) (g.bracket room gi of count) (λ t. true) (λ t. true) (λ x t. false)
  unfolding r.bracket
  bracket_exact of count =
      loose
      (either_sure (g.is_empty_end of) (empty_exact of count) (some_exact of count)
      (λ x d. seq_solid (phrase.one (g.empty_end of)) (λ close. phrase.pure (g.filled (g.no_items count) (Some close))) (token_solid (g.empty_end of)) x d)
      (λ t e. empty_meant of t (meant_taken (g.empty_end of t) e)) (λ t e. empty_meant of t (meant_blamed (g.empty_end of t) e))
      (λ t e. inl (inr (t, t.place, refl, rw e refl)))
      (λ t e. empty_apart of t e)
      (λ x d. absurd (seq_solid (g.contents room gi of count) (λ all. phrase.◌>>=◌ (phrase.one (g.bracket_end (pred room) of all)) (λ close. phrase.pure (g.filled all close))) (contents_solid of count) x d)))

  -- atoms
  call_exact : (name : Identifier) (count : ℕ) → Exact (r.call room ri name count) (g.call room gi name count) (λ t. is_taken (g.call_token room count t)) (λ t. is_blamed (g.call_token room count t)) more_atom
  unfolding r.call
  call_exact name count =
      token_then (g.call_token room count)
      (λ place. made (λ (all : Filled). g.bracket_atom (opening.Call name) class.Term place all) more_atom (bracket_exact form.Terms (g.count_in class.Term count)) (λ u x d t e. refl))

  call_meant : (count : ℕ) (t : Token) → is_meant (g.call_token room count t) ≡ true → is_mark p.OpenParen t ≡ true
  call_meant count t e = there_place (is_mark p.OpenParen t) t (offered_meant room count t (place_if (is_mark p.OpenParen t) t) e)

  name_exact : (name : Identifier) (count : ℕ) → Exact (r.name_or_call room ri name count) (phrase.◌or◌ (g.call room gi name count) (phrase.pure (g.name_atom name count))) (λ t. true) (λ t. true) more_atom
  unfolding r.name_or_call
  name_exact name count =
      loose
      (either (is_mark p.OpenParen) (call_exact name count) (nothing (g.name_atom name count) more_atom)
      (λ x d. seq_solid (phrase.one (g.call_token room count)) (λ place. phrase.◌>>=◌ (g.bracket room gi form.Terms (g.count_in class.Term count)) (λ all. phrase.pure (g.bracket_atom (opening.Call name) class.Term place all))) (token_solid (g.call_token room count)) x d)
      (λ t e. call_meant count t (meant_taken (g.call_token room count t) e)) (λ t e. call_meant count t (meant_blamed (g.call_token room count t) e))
      (λ t e. absurd (true≢false (sym e))) (λ t e. absurd (true≢false (sym e)))
      (λ x d t e. subst (λ (z : Atom). more_atom z t ≡ false) d.1 e))

  after_open_exact : (word : Word) (of : Form) (is : Class) (place : Place) (count : ℕ) (opened : Option Place) → Exact (r.after_open room ri word of is place count opened) (g.after_open room gi word of is place count opened) (λ t. true) (λ t. true) more_atom
  unfolding r.after_open
  after_open_exact word of is place count None = loose (nothing (g.missing_atom count) more_atom)
  after_open_exact word of is place count (Some opened) = made (λ (all : Filled). g.bracket_atom (opening.Word word place) is opened all) more_atom (bracket_exact of (g.count_in is count)) (λ u x d t e. refl)

  form_exact : (word : Word) (of : Form) (is : Class) (place : Place) (count : ℕ) → Exact (r.form_of room ri word of is place count) (g.form_of room gi word of is place count) (λ t. is_taken (g.open_token room count t)) (λ t. is_blamed (g.open_token room count t)) more_atom
  unfolding r.form_of
  form_exact word of is place count =
      token_then (g.open_token room count) (after_open_exact word of is place count)

  start_exact : (count : ℕ) (x : Start) → Exact (r.after_start room ri count x) (g.after_start room gi count x) (λ t. true) (λ t. true) more_atom
  unfolding r.after_start
  start_exact count (start.Alone tree of) = loose (nothing (g.atom tree of count) more_atom)
  start_exact count (start.Name name) = name_exact name count
  start_exact count (start.Open opens of is place) = made (λ (all : Filled). g.bracket_atom opens is place all) more_atom (bracket_exact of count) (λ u x d t e. refl)
  start_exact count (start.Word word of is place) = loose (form_exact word of is place count)
  start_exact count (start.Path place) = loose (made g.path_atom more_atom (N.exact (want.Steps place) count) (λ u x d t e. refl))
  start_exact count (start.Struct place) = loose (token_then (g.tag_token room count) (λ tag. nothing (g.struct_atom place count tag) more_atom))

  atom_exact : (all : Prefixes) → Exact (r.one_atom room ri all) (g.one_atom room gi all) (λ t. is_taken (g.operand_token room all t)) (λ t. is_blamed (g.operand_token room all t)) more_atom
  unfolding r.one_atom
  atom_exact all = token_then (g.operand_token room all) (start_exact all.count)

  atom_solid : (all : Prefixes) (x : Atom) → (g.one_atom room gi all).reads [] x → ⊥
  atom_solid all x d = seq_solid (phrase.one (g.operand_token room all)) (g.after_start room gi all.count) (token_solid (g.operand_token room all)) x d

  -- operators before an operand
  after_prefix_exact : (all : Prefixes) (x : PrefixStart) → Exact (r.after_prefix room ri all x) (g.after_prefix room gi all x) (λ t. true) (λ t. true) (λ y t. false)
  unfolding r.after_prefix
  after_prefix_exact all (prefix_start.Minus place) = loose (nothing (prefix.Minus place) (λ y t. false))
  after_prefix_exact all (prefix_start.Not place) = loose (nothing (prefix.Not place) (λ y t. false))
  after_prefix_exact all (prefix_start.Forall place) = loose (made (λ binders. prefix.Forall place binders) (λ y t. false) (quantified_exact room all.count (all.count + all.run + 1)) (λ u x d t e. refl))
  after_prefix_exact all (prefix_start.Exists place) = loose (made (λ binders. prefix.Exists place binders) (λ y t. false) (quantified_exact room all.count (all.count + all.run + 1)) (λ u x d t e. refl))

  pub one_prefix_exact : (all : Prefixes) → Exact (r.one_prefix room ri all) (g.one_prefix room gi all) (λ t. is_taken (g.prefix_token room all t)) (λ t. is_blamed (g.prefix_token room all t)) (λ y t. false)
  unfolding r.one_prefix
  one_prefix_exact all = token_then (g.prefix_token room all) (after_prefix_exact all)

  pub one_prefix_solid : (all : Prefixes) (x : Prefix) → (g.one_prefix room gi all).reads [] x → ⊥
  one_prefix_solid all x d = seq_solid (phrase.one (g.prefix_token room all)) (g.after_prefix room gi all) (token_solid (g.prefix_token room all)) x d

  prefixes_exact : (wanted : Want) (count : ℕ) → Exact (r.prefixes room ri wanted count) (g.prefixes room gi wanted count) (g.begins_prefix (g.no_prefixes wanted count)) (λ t. true) g.begins_prefix
  unfolding r.prefixes
  prefixes_exact wanted count =
      wider
      (repeat g.begins_prefix g.plus_prefix g.begins_prefix one_prefix_exact one_prefix_solid
      (λ all t e. prefix_meant room all t (meant_taken (g.prefix_token room all t) e)) (λ all t e. prefix_meant room all t (meant_blamed (g.prefix_token room all t) e))
      (λ all u x d t e. refl) (λ all t e. e) (λ all u x d t e. refl) (g.no_prefixes wanted count))
      (g.begins_prefix (g.no_prefixes wanted count)) (λ t. true) g.begins_prefix
      (λ t e. prefix_meant room (g.no_prefixes wanted count) t (meant_taken (g.prefix_token room (g.no_prefixes wanted count) t) e)) (λ t e. refl) (λ x t e. e)

  prefixes_nil : (wanted : Want) (count : ℕ) (x : Prefixes) → (g.prefixes room gi wanted count).reads [] x → x ≡ g.no_prefixes wanted count
  prefixes_nil wanted count x d = folded_nil g.plus_prefix (λ all. (g.one_prefix room gi all).reads) one_prefix_solid (g.no_prefixes wanted count) [] x d refl

  -- operands
  pub operand_exact : (wanted : Want) (count : ℕ) → Exact (r.operand room ri wanted count) (g.operand room gi wanted count) (opens wanted) (λ t. true) more_operand
  unfolding r.operand
  operand_exact wanted count =
      seq_open (prefixes_exact wanted count)
      (λ all. made (g.with_prefixes all) more_operand (atom_exact all) (λ u x d t e. e))
      (λ u all d t e. operand_meant room all t (meant_taken (g.operand_token room all t) e))
      (λ u all d t e. operand_meant room all t (meant_blamed (g.operand_token room all t) e))
      (λ u all y d d' t e. absurd (seq_solid (g.one_atom room gi all) (λ x. phrase.pure (g.with_prefixes all x)) (atom_solid all) y d'))
      (opens wanted) (λ t. true)
      (λ t e. or_left (is_there (prefix_of wanted false t)) (is_there (start_of wanted false t) || is_cut t) e) (λ t e. refl)
      (λ all d t e. or_right (is_there (prefix_of wanted false t)) (is_there (start_of wanted false t) || is_cut t) (operand_taken room (g.no_prefixes wanted count) t (subst (λ (z : Prefixes). is_taken (g.operand_token room z t) ≡ true) (prefixes_nil wanted count all d) e)))
      (λ all d t e. refl)

  pub operand_solid : (wanted : Want) (count : ℕ) (x : Operand) → (g.operand room gi wanted count).reads [] x → ⊥
  operand_solid wanted count x d =
      seq_solid_right (g.prefixes room gi wanted count) (λ all. phrase.◌>>=◌ (g.one_atom room gi all) (λ y. phrase.pure (g.with_prefixes all y)))
      (λ all y e. seq_solid (g.one_atom room gi all) (λ z. phrase.pure (g.with_prefixes all z)) (atom_solid all) y e) x d

  -- chains
  abbrev more_pair : LinkStart × Operand → Token → Bool
  more_pair y t = more_operand y.1 t

  pub link_exact : (chain : Chain) → Exact (r.one_link room ri chain) (g.one_link room gi chain) (λ t. is_taken (g.link_token room chain t)) (λ t. is_blamed (g.link_token room chain t)) more_pair
  unfolding r.one_link
  link_exact chain =
      token_then (g.link_token room chain)
      (λ next. made (λ (x : Operand). (next, x)) more_pair (operand_exact (want_behind next.op) (chain.end.count + 1)) (λ u x d t e. e))

  pub link_solid : (chain : Chain) (x : LinkStart × Operand) → (g.one_link room gi chain).reads [] x → ⊥
  link_solid chain x d =
      seq_solid (phrase.one (g.link_token room chain)) (λ next. phrase.◌>>=◌ (g.operand room gi (want_behind next.op) (chain.end.count + 1)) (λ y. phrase.pure {A = LinkStart × Operand} (next, y))) (token_solid (g.link_token room chain)) x d

  abbrev more_links : Chain → Token → Bool
  more_links chain t = goes_on chain.end t

  rest_exact : (chain : Chain) → Exact (parse.folded begins_link g.plus_link (r.one_link room ri) chain) (phrase.folded g.plus_link (g.one_link room gi) chain) (λ t. is_taken (g.link_token room chain t)) (λ t. is_blamed (g.link_token room chain t)) more_links
  rest_exact chain =
      repeat begins_link g.plus_link more_links link_exact link_solid
      (λ x t e. link_meant room x t (meant_taken (g.link_token room x t) e)) (λ x t e. link_meant room x t (meant_blamed (g.link_token room x t) e))
      (λ x u y d t e. link_stops (y.1).end (g.plus_link x y).end.kind t e)
      (λ x t e. or_fails_right (x.end.bare && is_mark p.OpenParen t) (is_there (infix_for x.end.kind t)) e)
      (λ x u y d t e. or_fails_left ((y.1).end.bare && is_mark p.OpenParen t) (is_there (infix_for (g.plus_link x y).end.kind t)) e)
      chain

  links_exact : (wanted : Want) (count : ℕ) → Exact (r.links room ri wanted count) (g.links room gi wanted count) (opens wanted) (λ t. true) more_links
  unfolding r.links
  links_exact wanted count =
      seq (operand_exact wanted count) (λ first. rest_exact (g.first_link first)) (operand_solid wanted count)
      (λ u x d t e. link_stops x.end x.end.kind t (link_meant room (g.first_link x) t (meant_taken (g.link_token room (g.first_link x) t) e)))
      (λ u x d t e. link_stops x.end x.end.kind t (link_meant room (g.first_link x) t (meant_blamed (g.link_token room (g.first_link x) t) e)))
      (λ u x y d d' t e.
      or_fails_left (x.end.bare && is_mark p.OpenParen t) (is_there (infix_for x.end.kind t))
      (subst (λ (z : Chain). more_links z t ≡ false) (folded_nil g.plus_link (λ chain. (g.one_link room gi chain).reads) link_solid (g.first_link x) [] y d' refl) e))

  links_solid : (wanted : Want) (count : ℕ) (x : Chain) → (g.links room gi wanted count).reads [] x → ⊥
  links_solid wanted count x d = seq_solid (g.operand room gi wanted count) (λ first. phrase.folded g.plus_link (g.one_link room gi) (g.first_link first)) (operand_solid wanted count) x d

  side_taken : (all : Chain) (t : Token) → is_taken (g.side_end room all t) ≡ true → is_cut t ≡ true
  side_taken all t e =
      cut_taken t (g.cut_side all) (Err (if goes_on all.end t then 0 else blame room all.end.count t)) e (λ h. h) (λ h. absurd (true≢false (sym h)))

  side_blamed : (all : Chain) (t : Token) → is_blamed (g.side_end room all t) ≡ true → goes_on all.end t ≡ false
  side_blamed all t e = go (is_cut t) e
    where
      go : (b : Bool) → is_blamed (if b then Ok (g.cut_side all) else Err (if goes_on all.end t then 0 else blame room all.end.count t)) ≡ true → goes_on all.end t ≡ false
      go true h = absurd (true≢false (sym h))
      go false h = blamed_unless Operand (goes_on all.end t) _ h

  finish_exact : (all : Chain) → Exact (r.finish_chain room ri all) (g.finish_chain room gi all) is_cut (λ t. is_blamed (g.side_end room all t)) more_chain
  unfolding r.finish_chain
  finish_exact all = go (must_relate all.end.kind)
    where
      go : (b : Bool) → Exact (r.chain_read room all b) (g.whole_chain room all b) is_cut (λ t. is_blamed (g.side_end room all t)) more_chain
      go true = wider (token (g.side_end room all)) is_cut (λ t. is_blamed (g.side_end room all t)) more_chain (λ t e. side_taken all t e) (λ t e. e) (λ x t e. absurd (true≢false (sym e)))
      go false = wider (nothing (g.chain_operand all) more_chain) is_cut (λ t. is_blamed (g.side_end room all t)) more_chain (λ t e. absurd (true≢false (sym e))) (λ t e. absurd (true≢false (sym e))) (λ x t e. e)

  finish_end : (all : Chain) (y : Operand) → (g.finish_chain room gi all).reads [] y → y ≡ g.chain_operand all
  finish_end all y d = go (must_relate all.end.kind) d
    where
      go : (b : Bool) → (g.whole_chain room all b).reads [] y → y ≡ g.chain_operand all
      go true d = absurd (token_solid (g.side_end room all) y d)
      go false d = d.1

  pub chain_exact : (wanted : Want) (count : ℕ) → Exact (r.chain room ri wanted count) (g.chain room gi wanted count) (opens wanted) (λ t. true) more_chain
  unfolding r.chain
  chain_exact wanted count =
      seq (links_exact wanted count) finish_exact (links_solid wanted count)
      (λ u x d t e. cut_stops x.end t e)
      (λ u x d t e. side_blamed x t e)
      (λ u x y d d' t e. subst (λ (z : Operand). goes_on z.end t ≡ false) (finish_end x y d') e)

  pub chain_solid : (wanted : Want) (count : ℕ) (x : Operand) → (g.chain room gi wanted count).reads [] x → ⊥
  chain_solid wanted count x d = seq_solid (g.links room gi wanted count) (g.finish_chain room gi) (links_solid wanted count) x d

  -- paths
  after_step_exact : (count : ℕ) (x : StepStart) → Exact (r.after_step room ri count x) (g.after_step room gi count x) (λ t. true) (λ t. true) (λ y t. false)
  unfolding r.after_step
  after_step_exact count (step_start.Dot place) = loose (token_then (g.tag_token room count) (λ name. nothing (g.field_operand place count name) (λ y t. false)))
  after_step_exact count (step_start.Open place) = made (λ (all : Filled). g.bracket_operand opening.Subscript place all) (λ y t. false) (bracket_exact form.Subscript count) (λ u x d t e. refl)

  pub step_exact : (all : Contents) → Exact (r.one_step room ri all) (g.one_step room gi all) (λ t. is_taken (g.step_token room all t)) (λ t. is_blamed (g.step_token room all t)) (λ y t. false)
  unfolding r.one_step
  step_exact all = token_then (g.step_token room all) (after_step_exact all.end.count)

  pub step_solid : (all : Contents) (x : Operand) → (g.one_step room gi all).reads [] x → ⊥
  step_solid all x d = seq_solid (phrase.one (g.step_token room all)) (g.after_step room gi all.end.count) (token_solid (g.step_token room all)) x d

  step_list_exact : (count : ℕ) → Exact (r.step_list room ri count) (phrase.folded g.plus_item (g.one_step room gi) (g.no_items count)) (λ t. true) (λ t. true) (λ all t. is_there (g.step_at t))
  unfolding r.step_list
  step_list_exact count =
      loose
      (repeat (λ (all : Contents) t. is_there (g.step_at t)) g.plus_item (λ (all : Contents) t. is_there (g.step_at t)) step_exact step_solid
      (λ all t e. step_meant room all t (meant_taken (g.step_token room all t) e)) (λ all t e. step_meant room all t (meant_blamed (g.step_token room all t) e))
      (λ all u x d t e. refl) (λ all t e. e) (λ all u x d t e. refl) (g.no_items count))

  pub steps_exact : (place : Place) (count : ℕ) → Exact (r.steps room ri place count) (g.steps room gi place count) (λ t. true) (λ t. true) (λ x t. false)
  unfolding r.steps
  steps_exact place count =
      closed_any_at (g.steps_end room) (λ (all : Contents) close. g.bracket_operand opening.Path place (g.filled all close)) (λ x t. false) (step_list_exact count) (λ u all d t e. steps_end_meant room all t e)

  pub steps_solid : (place : Place) (count : ℕ) (x : Operand) → (g.steps room gi place count).reads [] x → ⊥
  steps_solid place count x d =
      seq_solid_right (phrase.folded g.plus_item (g.one_step room gi) (g.no_items count)) (λ all. phrase.◌>>=◌ (phrase.one (g.steps_end room all)) (λ close. phrase.pure (g.bracket_operand opening.Path place (g.filled all close))))
      (λ all y e. seq_solid (phrase.one (g.steps_end room all)) (λ close. phrase.pure (g.bracket_operand opening.Path place (g.filled all close))) (token_solid (g.steps_end room all)) y e) x d

  reading_exact : (wanted : Want) (count : ℕ) → Exact (r.reading room ri wanted count) (g.reading room gi wanted count) (begins wanted) (λ t. true) (more_nested wanted)
  unfolding r.reading
  reading_exact (want.Steps place) count = steps_exact place count
  reading_exact want.Term count = chain_exact want.Term count
  reading_exact want.Formula count = chain_exact want.Formula count
  reading_exact want.Either count = chain_exact want.Either count
  reading_exact want.Type count = chain_exact want.Type count
  reading_exact want.Path count = chain_exact want.Path count
  reading_exact want.Given count = chain_exact want.Given count
  reading_exact want.Free count = chain_exact want.Free count

  reading_solid : (wanted : Want) (count : ℕ) (x : Operand) → (g.reading room gi wanted count).reads [] x → ⊥
  reading_solid (want.Steps place) count x d = steps_solid place count x d
  reading_solid want.Term count x d = chain_solid want.Term count x d
  reading_solid want.Formula count x d = chain_solid want.Formula count x d
  reading_solid want.Either count x d = chain_solid want.Either count x d
  reading_solid want.Type count x d = chain_solid want.Type count x d
  reading_solid want.Path count x d = chain_solid want.Path count x d
  reading_solid want.Given count x d = chain_solid want.Given count x d
  reading_solid want.Free count x d = chain_solid want.Free count x d

  pub reading_law : InnerExact (r.reading room ri) (g.reading room gi)
  reading_law = record { exact = reading_exact; solid = reading_solid }

nothing_left : (wanted : Want) (count : ℕ) → Exact (parse.one {A = Operand} (λ t. Err (without_room count t))) (phrase.one (λ t. Err (without_room count t))) (begins wanted) (λ t. true) (more_nested wanted)
nothing_left wanted count = wider (token (λ t. Err (without_room count t))) (begins wanted) (λ t. true) (more_nested wanted) (λ t e. absurd (true≢false (sym e))) (λ t e. refl) (λ x t e. absurd (true≢false (sym e)))

pub nested_exact : (room : ℕ) → InnerExact (r.nested room) (g.nested room)
unfolding r.nested g.nested
nested_exact zero = record {
  exact = λ wanted count. nothing_left wanted count;
  solid = λ wanted count x d. token_solid {T = Token} {A = Operand} (λ t. Err (without_room count t)) x d;
}
nested_exact (suc room) = record {
  exact = λ wanted count. (reading_law room (r.nested room) (g.nested room) (nested_exact room)).exact wanted count;
  solid = λ wanted count x d. (reading_law room (r.nested room) (g.nested room) (nested_exact room)).solid wanted count x d;
}
