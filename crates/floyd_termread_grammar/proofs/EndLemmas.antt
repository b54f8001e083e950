-- The readers stop where nothing goes on with what was read.
use Rattle.std.proofs.Common.{◌≡◌, ℕ, zero, suc, ◌≤◌, Bool, true, false, ◌&&◌, if◌then◌else◌, Ok, Err, List, [], ◌∷◌, length, refl, sym, ◌∙◌, ap, subst, le_refl, ◌+◌, arith}
use Rattle.std.specs.Prelude.{Option, Some, None}
use Rattle.floyd_text.specs.declared.place.Place.{Place}
use Rattle.floyd_lex.specs.declared.kinds.Punctuator.TheVariants as p
use Rattle.floyd_lex.specs.Token.{Token}
use Rattle.floyd_grammar.specs.ParseClauses.{Parser, Read, leads, fold_at, folded, taken, bind}
use Rattle.floyd_grammar.specs.ParseClauses as parse
use Rattle.floyd_grammar.proofs.Exact.{same_value, same_rest}
use Rattle.floyd_cparse_tokens.specs.Tokens.{is_there}
use Rattle.floyd_cparse_tokens.proofs.Shrinks.{Eats, bind_cases}
use Rattle.floyd_cparse_tokens.proofs.TokenLemmas.{or_fails, and-false_right}
use Rattle.floyd_cparse_trees.specs.declared.types.Identifier.{Identifier}
use Rattle.floyd_termread_trees.specs.declared.words.Word.{Word}
use Rattle.floyd_termread_trees.specs.declared.written.Infix.{Infix}
use Rattle.floyd_termread_trees.specs.declared.written.Infix.TheVariants as i
use Rattle.floyd_termread_trees.specs.declared.written.Opening.TheVariants as opening
use Rattle.floyd_termread_tokens.specs.Tokens.{is_mark, is_cut, blame, without_room}
use Rattle.floyd_termread_grammar.specs.declared.values.Atom.{Atom}
use Rattle.floyd_termread_grammar.specs.declared.values.Chain.{Chain}
use Rattle.floyd_termread_tables.specs.declared.values.Class.{Class}
use Rattle.floyd_termread_tables.specs.declared.values.Class.TheVariants as class
use Rattle.floyd_termread_grammar.specs.declared.values.Contents.{Contents}
use Rattle.floyd_termread_tables.specs.declared.values.End.{End}
use Rattle.floyd_termread_grammar.specs.declared.values.Filled.{Filled}
use Rattle.floyd_termread_tables.specs.declared.values.Form.{Form}
use Rattle.floyd_termread_tables.specs.declared.values.Form.TheVariants as form
use Rattle.floyd_termread_tables.specs.declared.values.Kind.TheVariants as kind
use Rattle.floyd_termread_tables.specs.declared.values.LinkStart.{LinkStart}
use Rattle.floyd_termread_grammar.specs.declared.values.Operand.{Operand}
use Rattle.floyd_termread_tables.specs.declared.values.Start.{Start}
use Rattle.floyd_termread_tables.specs.declared.values.Start.TheVariants as start
use Rattle.floyd_termread_tables.specs.declared.values.Want.{Want}
use Rattle.floyd_termread_tables.specs.declared.values.Want.TheVariants as want
use Rattle.floyd_termread_grammar.specs.Reading.{Ends}
use Rattle.floyd_termread_tables.specs.Operators.{allowed, infix_of, infix_for, must_relate, want_behind}
use Rattle.floyd_termread_grammar.specs.Terms as g
use Rattle.floyd_termread_tables.specs.Operators.{goes_on}
use Rattle.floyd_termread_grammar.specs.TermClauses as r
use Rattle.floyd_termread_grammar.specs.TermClauses.{begins_link}
use Rattle.floyd_termread_grammar.proofs.TermShrinks.{link_eats}

-- A loop stops where no item begins, and keeps what each item keeps.
module _ {T A B : Type 0} (first : A → T → Bool) (join : A → B → A) (p : A → Parser T B) (Q : A → List T → Type 0) (eats : (x : A) → Eats (p x)) (step : (x : A) (ts : List T) (y : B) (r : List T) → p x ts ≡ Ok (y, r) → Q (join x y) r) where
  no_turn : (x : A) (ts : List T) → length ts ≤ 0 → leads (first x) ts ≡ false
  no_turn x [] le = refl
  no_turn x (t ∷ ts) le = absurd (omega (arith, le))

  kept : (x z : A) (ts r : List T) → Q x ts → leads (first x) ts ≡ false → parse.pure {T = T} x ts ≡ Ok (z, r) → Q z r × (leads (first z) r ≡ false)
  kept x z ts r q none e = subst (λ (y : A). Q y r × (leads (first y) r ≡ false)) (same_value x z ts r e) (subst (λ (s : List T). Q x s × (leads (first x) s ≡ false)) (same_rest x z ts r e) (q, none))

  -- what so many turns at most keep
  abbrev Ended : ℕ → Type 0
  Ended n = (x : A) (ts : List T) → Q x ts → length ts ≤ n → (z : A) (r : List T) → fold_at first join p n x ts ≡ Ok (z, r) → Q z r × (leads (first z) r ≡ false)

  turn_end : (n : ℕ) → Ended n → (x : A) (ts : List T) → Q x ts → length ts ≤ suc n → (z : A) (r : List T) → (b : Bool) → leads (first x) ts ≡ b → (if b then bind (p x ts) (λ y. fold_at first join p n (join x y)) else Ok (x, ts)) ≡ Ok (z, r) → Q z r × (leads (first z) r ≡ false)
  turn_end n again x ts q le z r true h e =
      let d = bind_cases (p x ts) (λ y. fold_at first join p n (join x y)) z r e in
      again (join x d.0) d.1 (step x ts d.0 d.1 d.2) (omega (arith, le, (eats x).law ts d.0 d.1 d.2)) z r d.3
  turn_end n again x ts q le z r false h e = kept x z ts r q h e

  times_end : (n : ℕ) → Ended n
  times_end zero x ts q le z r e = kept x z ts r q (no_turn x ts le) e
  times_end (suc n) x ts q le z r e = turn_end n (times_end n) x ts q le z r (leads (first x) ts) refl e

  pub folded_end : (x : A) (ts : List T) → Q x ts → (z : A) (r : List T) → folded first join p x ts ≡ Ok (z, r) → Q z r × (leads (first z) r ≡ false)
  folded_end x ts q z r e = times_end (length ts) x ts q (le_refl (length ts)) z r e

-- a name at the end is not called
abbrev Uncalled : Bool → List Token → Type 0
Uncalled bare rest = (bare && leads (is_mark p.OpenParen) rest) ≡ false

lone : (x y : Atom) (s rest : List Token) → x.bare ≡ false → parse.pure {T = Token} x s ≡ Ok (y, rest) → Uncalled y.bare rest
lone x y s rest b e = ap (λ (z : Bool). z && leads (is_mark p.OpenParen) rest) (ap (λ (z : Atom). z.bare) (sym (same_value x y s rest e)) ∙ b)

struct_lone : (place : Place) (count : ℕ) (tag : Option Identifier) → (g.struct_atom place count tag).bare ≡ false
struct_lone place count None = refl
struct_lone place count (Some tag) = refl

never_read : {A : Type 0} (f : Token → ℕ) (ts : List Token) (y : A) (rest : List Token) → parse.one {A = A} (λ t. Err (f t)) ts ≡ Ok (y, rest) → ⊥
never_read f [] y rest e = cc
never_read f (t ∷ ts) y rest e = cc

module _ (room : ℕ) where
  abbrev ri : Want → ℕ → Parser Token Operand
  ri = r.nested room

  name_end : (name : Identifier) (count : ℕ) (ts : List Token) (y : Atom) (rest : List Token) → r.name_or_call room ri name count ts ≡ Ok (y, rest) → Uncalled y.bare rest
  unfolding r.name_or_call r.call
  name_end name count ts y rest e = go (leads (is_mark p.OpenParen) ts) refl e
    where
      go : (b : Bool) → leads (is_mark p.OpenParen) ts ≡ b → (if b then r.call room ri name count ts else parse.pure (g.name_atom name count) ts) ≡ Ok (y, rest) → Uncalled y.bare rest
      go true h e =
          let d = bind_cases (parse.one (g.call_token room count) ts) (λ place. parse.◌>>=◌ (r.bracket room ri form.Terms (g.count_in class.Term count)) (λ (all : Filled). parse.pure (g.bracket_atom (opening.Call name) class.Term place all))) y rest e in
          let d' = bind_cases (r.bracket room ri form.Terms (g.count_in class.Term count) d.1) (λ (all : Filled). parse.pure (g.bracket_atom (opening.Call name) class.Term d.0 all)) y rest d.3 in
          lone (g.bracket_atom (opening.Call name) class.Term d.0 d'.0) y d'.1 rest refl d'.3
      go false h e =
          ap (λ (z : Bool). y.bare && z) (ap (leads (is_mark p.OpenParen)) (sym (same_rest (g.name_atom name count) y ts rest e)) ∙ h) ∙ and-false_right y.bare

  open_end : (word : Word) (of : Form) (is : Class) (place : Place) (count : ℕ) (opened : Option Place) (ts : List Token) (y : Atom) (rest : List Token) → r.after_open room ri word of is place count opened ts ≡ Ok (y, rest) → Uncalled y.bare rest
  unfolding r.after_open
  open_end word of is place count None ts y rest e = lone (g.missing_atom count) y ts rest refl e
  open_end word of is place count (Some opened) ts y rest e =
      let d = bind_cases (r.bracket room ri of (g.count_in is count) ts) (λ (all : Filled). parse.pure (g.bracket_atom (opening.Word word place) is opened all)) y rest e in
      lone (g.bracket_atom (opening.Word word place) is opened d.0) y d.1 rest refl d.3

  start_end : (count : ℕ) (x : Start) (ts : List Token) (y : Atom) (rest : List Token) → r.after_start room ri count x ts ≡ Ok (y, rest) → Uncalled y.bare rest
  unfolding r.after_start r.form_of
  start_end count (start.Alone tree of) ts y rest e = lone (g.atom tree of count) y ts rest refl e
  start_end count (start.Name name) ts y rest e = name_end name count ts y rest e
  start_end count (start.Open opens of is place) ts y rest e =
      let d = bind_cases (r.bracket room ri of count ts) (λ (all : Filled). parse.pure (g.bracket_atom opens is place all)) y rest e in
      lone (g.bracket_atom opens is place d.0) y d.1 rest refl d.3
  start_end count (start.Word word of is place) ts y rest e =
      let d = bind_cases (parse.one (g.open_token room count) ts) (r.after_open room ri word of is place count) y rest e in
      open_end word of is place count d.0 d.1 y rest d.3
  start_end count (start.Path place) ts y rest e =
      let d = bind_cases (ri (want.Steps place) count ts) (λ x. parse.pure (g.path_atom x)) y rest e in
      lone (g.path_atom d.0) y d.1 rest refl d.3
  start_end count (start.Struct place) ts y rest e =
      let d = bind_cases (parse.one (g.tag_token room count) ts) (λ tag. parse.pure (g.struct_atom place count tag)) y rest e in
      lone (g.struct_atom place count d.0) y d.1 rest (struct_lone place count d.0) d.3

  operand_end : (wanted : Want) (count : ℕ) (ts : List Token) (y : Operand) (rest : List Token) → r.operand room ri wanted count ts ≡ Ok (y, rest) → Uncalled y.end.bare rest
  unfolding r.operand r.one_atom
  operand_end wanted count ts y rest e =
      let d = bind_cases (r.prefixes room ri wanted count ts) (λ all. parse.◌>>=◌ (r.one_atom room ri all) (λ x. parse.pure (g.with_prefixes all x))) y rest e in
      let a = bind_cases (r.one_atom room ri d.0 d.1) (λ x. parse.pure (g.with_prefixes d.0 x)) y rest d.3 in
      let s = bind_cases (parse.one (g.operand_token room d.0) d.1) (r.after_start room ri d.0.count) a.0 a.1 a.2 in
      let same = same_value (g.with_prefixes d.0 a.0) y a.1 rest a.3 in
      let left = same_rest (g.with_prefixes d.0 a.0) y a.1 rest a.3 in
      subst (λ (z : Operand). Uncalled z.end.bare rest) same (subst (λ (z : List Token). Uncalled (a.0).bare z) left (start_end d.0.count s.0 s.1 a.0 a.1 s.3))

  link_end : (chain : Chain) (ts : List Token) (y : LinkStart × Operand) (rest : List Token) → r.one_link room ri chain ts ≡ Ok (y, rest) → Uncalled (g.plus_link chain y).end.bare rest
  unfolding r.one_link
  link_end chain ts y rest e =
      let d = bind_cases (parse.one (g.link_token room chain) ts) (λ next. parse.◌>>=◌ (r.operand room ri (want_behind next.op) (chain.end.count + 1)) (λ x. parse.pure {A = LinkStart × Operand} (next, x))) y rest e in
      let a = bind_cases (r.operand room ri (want_behind (d.0).op) (chain.end.count + 1) d.1) (λ x. parse.pure {A = LinkStart × Operand} (d.0, x)) y rest d.3 in
      let pair : LinkStart × Operand = (d.0, a.0) in
      subst (λ (z : LinkStart × Operand). Uncalled (z.1).end.bare rest) (same_value pair y a.1 rest a.3)
      (subst (λ (z : List Token). Uncalled (a.0).end.bare z) (same_rest pair y a.1 rest a.3) (operand_end (want_behind (d.0).op) (chain.end.count + 1) d.1 a.0 a.1 a.2))

  links_end : (wanted : Want) (count : ℕ) (ts : List Token) (y : Chain) (rest : List Token) → r.links room ri wanted count ts ≡ Ok (y, rest) → Uncalled y.end.bare rest × (leads (begins_link y) rest ≡ false)
  unfolding r.links
  links_end wanted count ts y rest e =
      let d = bind_cases (r.operand room ri wanted count ts) (λ first. folded begins_link g.plus_link (r.one_link room ri) (g.first_link first)) y rest e in
      folded_end begins_link g.plus_link (r.one_link room ri) (λ (chain : Chain) z. Uncalled chain.end.bare z) (link_eats room) link_end (g.first_link d.0) d.1 (operand_end wanted count ts d.0 d.1 d.2) y rest d.3

  ends_here : (end : End) (x : Operand) (rest : List Token) → x.end ≡ end → Uncalled end.bare rest → leads (λ t. is_there (infix_for end.kind t)) rest ≡ false → Ends x rest
  ends_here end x [] same a b = tt
  ends_here end x (t ∷ ts) same a b = subst (λ (z : End). goes_on z t ≡ false) (sym same) (or_fails (end.bare && is_mark p.OpenParen t) (is_there (infix_for end.kind t)) a b)

  no_operator : (o : Option Infix) → is_there (allowed kind.Other o) ≡ false
  no_operator None = refl
  no_operator (Some i.Cons) = refl
  no_operator (Some i.Append) = refl
  no_operator (Some i.Add) = refl
  no_operator (Some i.Sub) = refl
  no_operator (Some i.Mul) = refl
  no_operator (Some i.Equal) = refl
  no_operator (Some i.Unequal) = refl
  no_operator (Some i.AtMost) = refl
  no_operator (Some i.Less) = refl
  no_operator (Some i.AtLeast) = refl
  no_operator (Some i.Greater) = refl
  no_operator (Some i.Implies) = refl
  no_operator (Some i.Or) = refl
  no_operator (Some i.And) = refl

  none_leads : (rest : List Token) → leads (λ t. is_there (infix_for kind.Other t)) rest ≡ false
  none_leads [] = refl
  none_leads (t ∷ ts) = no_operator (infix_of t)

  -- a side whose relation is missing
  side_ends : (all : Chain) (ts : List Token) (y : Operand) (rest : List Token) → parse.one (g.side_end room all) ts ≡ Ok (y, rest) → Ends y rest
  side_ends all [] y rest e = absurd cc
  side_ends all (t ∷ ts) y rest e = go (is_cut t) e
    where
      cut_ends : (x : Operand) → x ≡ y → x.end ≡ g.other_end all.end.count → Ends y rest
      cut_ends x same at_end = ends_here (g.other_end all.end.count) y rest (ap (λ (z : Operand). z.end) (sym same) ∙ at_end) refl (none_leads rest)

      go : (b : Bool) → taken ts (if b then Ok (g.cut_side all) else Err (if goes_on all.end t then 0 else blame room all.end.count t)) ≡ Ok (y, rest) → Ends y rest
      go true h = cut_ends (g.cut_side all) (same_value (g.cut_side all) y ts rest h) refl
      go false h = absurd cc

  chain_end : (wanted : Want) (count : ℕ) (ts : List Token) (y : Operand) (rest : List Token) → r.chain room ri wanted count ts ≡ Ok (y, rest) → Ends y rest
  unfolding r.chain r.finish_chain
  chain_end wanted count ts y rest e =
      let d = bind_cases (r.links room ri wanted count ts) (r.finish_chain room ri) y rest e in
      go d.0 d.1 (links_end wanted count ts d.0 d.1 d.2) (must_relate d.0.end.kind) d.3
    where
      go : (all : Chain) (s : List Token) → (Uncalled all.end.bare s × (leads (begins_link all) s ≡ false)) → (b : Bool) → (r.chain_read room all b) s ≡ Ok (y, rest) → Ends y rest
      go all s q true e = side_ends all s y rest e
      go all s q false e =
          ends_here all.end y rest (ap (λ (z : Operand). z.end) (sym (same_value (g.chain_operand all) y s rest e)))
          (subst (λ (z : List Token). Uncalled all.end.bare z) (same_rest (g.chain_operand all) y s rest e) q.0)
          (subst (λ (z : List Token). leads (begins_link all) z ≡ false) (same_rest (g.chain_operand all) y s rest e) q.1)

  steps_end : (place : Place) (count : ℕ) (ts : List Token) (y : Operand) (rest : List Token) → r.steps room ri place count ts ≡ Ok (y, rest) → Ends y rest
  unfolding r.steps
  steps_end place count ts y rest e =
      let d = bind_cases (r.step_list room ri count ts) (λ (all : Contents). parse.◌>>=◌ (parse.one (g.steps_end room all)) (λ close. parse.pure (g.bracket_operand opening.Path place (g.filled all close)))) y rest e in
      let a = bind_cases (parse.one (g.steps_end room d.0) d.1) (λ close. parse.pure (g.bracket_operand opening.Path place (g.filled d.0 close))) y rest d.3 in
      ends_here (g.other_end d.0.end.count) y rest (ap (λ (z : Operand). z.end) (sym (same_value (g.bracket_operand opening.Path place (g.filled d.0 a.0)) y a.1 rest a.3))) refl (none_leads rest)

  reading_end : (wanted : Want) (count : ℕ) (ts : List Token) (y : Operand) (rest : List Token) → r.reading room ri wanted count ts ≡ Ok (y, rest) → Ends y rest
  unfolding r.reading
  reading_end (want.Steps place) count ts y rest e = steps_end place count ts y rest e
  reading_end want.Term count ts y rest e = chain_end want.Term count ts y rest e
  reading_end want.Formula count ts y rest e = chain_end want.Formula count ts y rest e
  reading_end want.Either count ts y rest e = chain_end want.Either count ts y rest e
  reading_end want.Type count ts y rest e = chain_end want.Type count ts y rest e
  reading_end want.Path count ts y rest e = chain_end want.Path count ts y rest e
  reading_end want.Given count ts y rest e = chain_end want.Given count ts y rest e
  reading_end want.Free count ts y rest e = chain_end want.Free count ts y rest e

pub nested_end : (room : ℕ) (wanted : Want) (count : ℕ) (ts : List Token) (y : Operand) (rest : List Token) → r.nested room wanted count ts ≡ Ok (y, rest) → Ends y rest
unfolding r.nested
nested_end zero wanted count ts y rest e = absurd (never_read (without_room count) ts y rest e)
nested_end (suc room) wanted count ts y rest e = reading_end room wanted count ts y rest e
