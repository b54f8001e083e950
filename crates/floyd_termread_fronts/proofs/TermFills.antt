-- Terms, formulas, types and paths that are cut off.
use Rattle.std.proofs.Common.{◌≡◌, ℕ, zero, suc, ◌+◌, pred, Bool, true, false, ◌&&◌, not, if◌then◌else◌, List, Result, Ok, Err, refl, sym, ◌∙◌, ap, true≢false}
use Rattle.std.specs.Prelude.{Option, Some, None}
use Rattle.floyd_text.specs.declared.place.Place.{Place}
use Rattle.floyd_lex.specs.declared.kinds.Punctuator.TheVariants as p
use Rattle.floyd_lex.specs.Token.{Token}
use Rattle.floyd_grammar.specs.Phrase.{Phrase}
use Rattle.floyd_grammar.specs.Phrase as phrase
use Rattle.floyd_cparse_trees.specs.declared.types.Identifier.{Identifier}
use Rattle.floyd_cparse_tokens.specs.Tokens.{is_there}
use Rattle.floyd_termread_trees.specs.declared.words.Word.{Word}
use Rattle.floyd_termread_trees.specs.declared.written.Opening.TheVariants as opening
use Rattle.floyd_termread_trees.specs.declared.written.Prefix.{Prefix}
use Rattle.floyd_termread_trees.specs.declared.written.Prefix.TheVariants as prefix
use Rattle.floyd_termread_trees.specs.declared.written.Binder.{Binder}
use Rattle.floyd_termread_trees.specs.declared.written.Written.TheVariants as written
use Rattle.floyd_termread_tokens.specs.Tokens.{is_mark, cut, demand, place_if, unless_cut}
use Rattle.floyd_termread_sorts.specs.Sorts.{quantified}
use Rattle.floyd_termread_tables.specs.declared.values.Class.{Class}
use Rattle.floyd_termread_tables.specs.declared.values.Class.TheVariants as class
use Rattle.floyd_termread_tables.specs.declared.values.Form.{Form}
use Rattle.floyd_termread_tables.specs.declared.values.Form.TheVariants as form
use Rattle.floyd_termread_tables.specs.declared.values.LinkStart.{LinkStart}
use Rattle.floyd_termread_tables.specs.declared.values.PrefixStart.{PrefixStart}
use Rattle.floyd_termread_tables.specs.declared.values.PrefixStart.TheVariants as prefix_start
use Rattle.floyd_termread_tables.specs.declared.values.Start.{Start}
use Rattle.floyd_termread_tables.specs.declared.values.Start.TheVariants as start
use Rattle.floyd_termread_tables.specs.declared.values.Want.{Want}
use Rattle.floyd_termread_tables.specs.declared.values.Want.TheVariants as want
use Rattle.floyd_termread_tables.specs.Tables.{prefix_of, start_of, takes_formulas, quantifier_of}
use Rattle.floyd_termread_tables.specs.Operators.{want_behind, must_relate}
use Rattle.floyd_termread_tables.specs.Brackets.{first_want}
use Rattle.floyd_termread_grammar.specs.declared.values.Chain.{Chain}
use Rattle.floyd_termread_grammar.specs.declared.values.Contents.{Contents}
use Rattle.floyd_termread_grammar.specs.declared.values.Filled as declared
use Rattle.floyd_termread_grammar.specs.declared.values.Operand.{Operand}
use Rattle.floyd_termread_grammar.specs.declared.values.Prefixes.{Prefixes}
use Rattle.floyd_termread_grammar.specs.declared.values.StepStart.{StepStart}
use Rattle.floyd_termread_grammar.specs.declared.values.StepStart.TheVariants as step_start
use Rattle.floyd_termread_grammar.specs.Terms as g
use Rattle.floyd_termread_fronts.proofs.Fills.{More, Fills, Value, more_one, fills_one, fills_pure, more_then, fills_then, fills_or, fills_folded}
use Rattle.floyd_termread_fronts.proofs.StartLemmas.{Room, room_left, offered, demanded, taken_or, mark_there, parenthesis_opens, bracket_opens}
use Rattle.floyd_termread_fronts.proofs.StartFacts.{opens, start_opens}
use Rattle.floyd_termread_fronts.proofs.SortFills.{quantified_fills}

-- an operand that the end of the text stands for
no_prefix : (wanted : Want) (minus : Bool) → prefix_of wanted minus cut ≡ None
no_prefix wanted minus = go (takes_formulas wanted && not minus)
  where
    go : (b : Bool) → (if b then quantifier_of cut.place None else None) ≡ None
    go true = refl
    go false = refl

missing_operand : (room : ℕ) (all : Prefixes) → g.operand_token room all cut ≡ Ok (start.Alone written.Missing class.Other)
missing_operand room all = go (prefix_of all.want all.minus cut) (no_prefix all.want all.minus)
  where
    go : (o : Option PrefixStart) → o ≡ None → (if is_there o then (let z : Result Start ℕ = Err 0 in z) else Ok (start.Alone written.Missing class.Other)) ≡ Ok (start.Alone written.Missing class.Other)
    go None e = refl
    go (Some x) e = absurd cc

module _ (room : ℕ) (inner : Want → ℕ → Phrase Token Operand) (F : Room room → (wanted : Want) (count : ℕ) → Fills (inner wanted count)) where
  -- brackets, where there is room
  module _ (some : Room room) where
    item_more : (of : Form) (all : Contents) → More (phrase.◌>>◌ (phrase.one (g.separator_token of all)) (inner (g.want_of_next of all) all.end.count))
    item_more of all = more_then (phrase.one (g.separator_token of all)) (λ at. inner (g.want_of_next of all) all.end.count) (more_one (g.separator_token of all)) (λ at d. F some (g.want_of_next of all) all.end.count)

    contents_fill : (of : Form) (count : ℕ) → Fills (g.contents room inner of count)
    contents_fill of count =
        fills_then (inner (first_want of) count) (λ first. phrase.folded g.plus_item (λ (all : Contents). phrase.◌>>◌ (phrase.one (g.separator_token of all)) (inner (g.want_of_next of all) all.end.count)) (g.first_item first))
        (F some (first_want of) count)
        (λ first d. fills_folded g.plus_item (λ (all : Contents). phrase.◌>>◌ (phrase.one (g.separator_token of all)) (inner (g.want_of_next of all) all.end.count)) (g.first_item first) (item_more of))

    some_fill : (of : Form) (count : ℕ) → Fills (g.some_contents room inner of count)
    some_fill of count =
        fills_then (g.contents room inner of count) (λ all. phrase.◌>>=◌ (phrase.one (g.bracket_end (pred room) of all)) (λ close. phrase.pure (g.filled all close))) (contents_fill of count)
        (λ all d. fills_then (phrase.one (g.bracket_end (pred room) of all)) (λ close. phrase.pure (g.filled all close)) (fills_one (g.bracket_end (pred room) of all) None refl) (λ close d. fills_pure (g.filled all close)))

    none_more : (of : Form) (count : ℕ) → More (g.no_contents room inner of count)
    none_more of count = more_then (phrase.one (g.empty_end of)) (λ close. phrase.pure (g.filled (g.no_items count) (Some close))) (more_one (g.empty_end of)) (λ close d. fills_pure (g.filled (g.no_items count) (Some close)))

    bracket_fills : (of : Form) (count : ℕ) → Fills (g.bracket room inner of count)
    bracket_fills of count = fills_or (g.no_contents room inner of count) (g.some_contents room inner of count) (none_more of count) (some_fill of count)

    made_fills : {B : Type 0} (of : Form) (count : ℕ) (make : declared.Filled → B) → Fills (phrase.◌>>=◌ (g.bracket room inner of count) (λ all. phrase.pure (make all)))
    made_fills of count make = fills_then (g.bracket room inner of count) (λ all. phrase.pure (make all)) (bracket_fills of count) (λ all d. fills_pure (make all))

  -- a name or word with its bracket
  call_room : (count : ℕ) (t : Token) (place : Place) → g.call_token room count t ≡ Ok place → Room room
  call_room count t place e =
      let d = offered room count t (place_if (is_mark p.OpenParen t) t) place e in
      room_left room count t (parenthesis_opens t (mark_there p.OpenParen t place d.0)) d.1

  call_more : (name : Identifier) (count : ℕ) → More (g.call room inner name count)
  call_more name count =
      more_then (phrase.one (g.call_token room count)) (λ opened. phrase.◌>>=◌ (g.bracket room inner form.Terms (g.count_in class.Term count)) (λ all. phrase.pure (g.bracket_atom (opening.Call name) class.Term opened all)))
      (more_one (g.call_token room count))
      (λ opened d. made_fills (call_room count d.1.0 opened d.1.2) form.Terms (g.count_in class.Term count) (g.bracket_atom (opening.Call name) class.Term opened))

  known_opens : (t : Token) (place : Place) (o : Option Place) → g.known_place o ≡ Some (Some place) → o ≡ Some place
  known_opens t place None e = absurd cc
  known_opens t place (Some at) e = cc

  open_room : (count : ℕ) (t : Token) (place : Place) → g.open_token room count t ≡ Ok (Some place) → Room room
  open_room count t place e =
      taken_or t None (demand room count t (g.known_place (place_if (is_mark p.OpenParen t) t))) (Some place) e (λ h. absurd cc)
      (λ h.
      let d = demanded room count t (g.known_place (place_if (is_mark p.OpenParen t) t)) (Some place) h in
      room_left room count t (parenthesis_opens t (mark_there p.OpenParen t place (known_opens t place (place_if (is_mark p.OpenParen t) t) d.0))) d.1)

  opened_fills : (word : Word) (of : Form) (is : Class) (place : Place) (count : ℕ) (opened : Option Place) → Value (phrase.one (g.open_token room count)) opened → Fills (g.after_open room inner word of is place count opened)
  opened_fills word of is place count None d = fills_pure (g.missing_atom count)
  opened_fills word of is place count (Some opened) d = made_fills (open_room count d.1.0 opened d.1.2) of (g.count_in is count) (g.bracket_atom (opening.Word word place) is opened)

  form_fills : (word : Word) (of : Form) (is : Class) (place : Place) (count : ℕ) → Fills (g.form_of room inner word of is place count)
  form_fills word of is place count =
      fills_then (phrase.one (g.open_token room count)) (g.after_open room inner word of is place count) (fills_one (g.open_token room count) None refl) (opened_fills word of is place count)

  -- atoms
  operand_room : (all : Prefixes) (t : Token) (x : Start) → opens x ≡ true → g.operand_token room all t ≡ Ok x → Room room
  operand_room all t x o e = go (g.begins_prefix all t) e
    where
      found : demand room (all.count + all.run) t (start_of all.want all.minus t) ≡ Ok x → Room room
      found q =
          let d = demanded room (all.count + all.run) t (start_of all.want all.minus t) x q in
          room_left room (all.count + all.run) t (start_opens all.want all.minus t x d.0 o) d.1

      go : (b : Bool) → (if b then Err 0 else unless_cut t (start.Alone written.Missing class.Other) (demand room (all.count + all.run) t (start_of all.want all.minus t))) ≡ Ok x → Room room
      go true q = absurd cc
      go false q =
          taken_or t (start.Alone written.Missing class.Other) (demand room (all.count + all.run) t (start_of all.want all.minus t)) x q
          (λ h. absurd (true≢false (sym o ∙ ap opens (sym h)))) found

  start_fills : (all : Prefixes) (x : Start) → Value (phrase.one (g.operand_token room all)) x → Fills (g.after_start room inner all.count x)
  start_fills all (start.Alone tree of) d = fills_pure (g.atom tree of all.count)
  start_fills all (start.Name name) d = fills_or (g.call room inner name all.count) (phrase.pure (g.name_atom name all.count)) (call_more name all.count) (fills_pure (g.name_atom name all.count))
  start_fills all (start.Open opening of is place) d = made_fills (operand_room all d.1.0 (start.Open opening of is place) refl d.1.2) of all.count (g.bracket_atom opening is place)
  start_fills all (start.Word word of is place) d = form_fills word of is place all.count
  start_fills all (start.Path place) d =
      fills_then (inner (want.Steps place) all.count) (λ x. phrase.pure (g.path_atom x)) (F (operand_room all d.1.0 (start.Path place) refl d.1.2) (want.Steps place) all.count) (λ x d. fills_pure (g.path_atom x))
  start_fills all (start.Struct place) d =
      fills_then (phrase.one (g.tag_token room all.count)) (λ tag. phrase.pure (g.struct_atom place all.count tag)) (fills_one (g.tag_token room all.count) None refl) (λ tag d. fills_pure (g.struct_atom place all.count tag))

  atom_fills : (all : Prefixes) → Fills (g.one_atom room inner all)
  atom_fills all = fills_then (phrase.one (g.operand_token room all)) (g.after_start room inner all.count) (fills_one (g.operand_token room all) (start.Alone written.Missing class.Other) (missing_operand room all)) (start_fills all)

  -- operators before an operand
  binders_fill : (all : Prefixes) (make : List Binder → Prefix) → Fills (phrase.◌>>=◌ (quantified room all.count (all.count + all.run + 1)) (λ binders. phrase.pure (make binders)))
  binders_fill all make =
      fills_then (quantified room all.count (all.count + all.run + 1)) (λ binders. phrase.pure (make binders)) (quantified_fills room all.count (all.count + all.run + 1)) (λ binders d. fills_pure (make binders))

  prefix_fills : (all : Prefixes) (x : PrefixStart) → Fills (g.after_prefix room inner all x)
  prefix_fills all (prefix_start.Minus place) = fills_pure (prefix.Minus place)
  prefix_fills all (prefix_start.Not place) = fills_pure (prefix.Not place)
  prefix_fills all (prefix_start.Forall place) = binders_fill all (prefix.Forall place)
  prefix_fills all (prefix_start.Exists place) = binders_fill all (prefix.Exists place)

  prefix_more : (all : Prefixes) → More (g.one_prefix room inner all)
  prefix_more all = more_then (phrase.one (g.prefix_token room all)) (g.after_prefix room inner all) (more_one (g.prefix_token room all)) (λ x d. prefix_fills all x)

  operand_fills : (wanted : Want) (count : ℕ) → Fills (g.operand room inner wanted count)
  operand_fills wanted count =
      fills_then (g.prefixes room inner wanted count) (λ all. phrase.◌>>=◌ (g.one_atom room inner all) (λ x. phrase.pure (g.with_prefixes all x)))
      (fills_folded g.plus_prefix (g.one_prefix room inner) (g.no_prefixes wanted count) prefix_more)
      (λ all d. fills_then (g.one_atom room inner all) (λ x. phrase.pure (g.with_prefixes all x)) (atom_fills all) (λ x d. fills_pure (g.with_prefixes all x)))

  -- chains
  link_more : (chain : Chain) → More (g.one_link room inner chain)
  link_more chain =
      more_then (phrase.one (g.link_token room chain)) (λ next. phrase.◌>>=◌ (g.operand room inner (want_behind next.op) (chain.end.count + 1)) (λ x. phrase.pure (next, x))) (more_one (g.link_token room chain))
      (λ next d. fills_then (g.operand room inner (want_behind next.op) (chain.end.count + 1)) (λ x. phrase.pure {A = LinkStart × Operand} (next, x)) (operand_fills (want_behind next.op) (chain.end.count + 1)) (λ x d. fills_pure {A = LinkStart × Operand} (next, x)))

  links_fill : (wanted : Want) (count : ℕ) → Fills (g.links room inner wanted count)
  links_fill wanted count =
      fills_then (g.operand room inner wanted count) (λ first. phrase.folded g.plus_link (g.one_link room inner) (g.first_link first)) (operand_fills wanted count)
      (λ first d. fills_folded g.plus_link (g.one_link room inner) (g.first_link first) link_more)

  whole_fills : (chain : Chain) (b : Bool) → Fills (g.whole_chain room chain b)
  whole_fills chain true = fills_one (g.side_end room chain) (g.cut_side chain) refl
  whole_fills chain false = fills_pure (g.chain_operand chain)

  chain_fills : (wanted : Want) (count : ℕ) → Fills (g.chain room inner wanted count)
  chain_fills wanted count = fills_then (g.links room inner wanted count) (g.finish_chain room inner) (links_fill wanted count) (λ all d. whole_fills all (must_relate all.end.kind))

  -- steps of a path
  step_opens : (t : Token) (place : Place) → g.step_at t ≡ Some (step_start.Open place) → is_mark p.OpenBracket t ≡ true
  step_opens t place e = dots (is_mark p.Dot t) e
    where
      brackets : (b : Bool) → (if b then Some (step_start.Open t.place) else None) ≡ Some (step_start.Open place) → b ≡ true
      brackets true q = refl
      brackets false q = absurd cc

      dots : (b : Bool) → (if b then Some (step_start.Dot t.place) else if is_mark p.OpenBracket t then Some (step_start.Open t.place) else None) ≡ Some (step_start.Open place) → is_mark p.OpenBracket t ≡ true
      dots true q = absurd cc
      dots false q = brackets (is_mark p.OpenBracket t) q

  step_room : (all : Contents) (t : Token) (place : Place) → g.step_token room all t ≡ Ok (step_start.Open place) → Room room
  step_room all t place e =
      let d = offered room all.end.count t (g.step_at t) (step_start.Open place) e in
      room_left room all.end.count t (bracket_opens t (step_opens t place d.0)) d.1

  after_fills : (all : Contents) (x : StepStart) → Value (phrase.one (g.step_token room all)) x → Fills (g.after_step room inner all.end.count x)
  after_fills all (step_start.Dot place) d =
      fills_then (phrase.one (g.tag_token room all.end.count)) (λ name. phrase.pure (g.field_operand place all.end.count name)) (fills_one (g.tag_token room all.end.count) None refl) (λ name d. fills_pure (g.field_operand place all.end.count name))
  after_fills all (step_start.Open place) d = made_fills (step_room all d.1.0 place d.1.2) form.Subscript all.end.count (g.bracket_operand opening.Subscript place)

  step_more : (all : Contents) → More (g.one_step room inner all)
  step_more all = more_then (phrase.one (g.step_token room all)) (g.after_step room inner all.end.count) (more_one (g.step_token room all)) (after_fills all)

  steps_fill : (place : Place) (count : ℕ) → Fills (g.steps room inner place count)
  steps_fill place count =
      fills_then (phrase.folded g.plus_item (g.one_step room inner) (g.no_items count)) (λ all. phrase.◌>>=◌ (phrase.one (g.steps_end room all)) (λ close. phrase.pure (g.bracket_operand opening.Path place (g.filled all close))))
      (fills_folded g.plus_item (g.one_step room inner) (g.no_items count) step_more)
      (λ all d. fills_then (phrase.one (g.steps_end room all)) (λ close. phrase.pure (g.bracket_operand opening.Path place (g.filled all close))) (fills_one (g.steps_end room all) None refl) (λ close d. fills_pure (g.bracket_operand opening.Path place (g.filled all close))))

  pub reading_fills : (wanted : Want) (count : ℕ) → Fills (g.reading room inner wanted count)
  reading_fills (want.Steps place) count = steps_fill place count
  reading_fills want.Term count = chain_fills want.Term count
  reading_fills want.Formula count = chain_fills want.Formula count
  reading_fills want.Either count = chain_fills want.Either count
  reading_fills want.Type count = chain_fills want.Type count
  reading_fills want.Path count = chain_fills want.Path count
  reading_fills want.Given count = chain_fills want.Given count
  reading_fills want.Free count = chain_fills want.Free count

-- where there is some room
pub nested_fills : (room : ℕ) (wanted : Want) (count : ℕ) → Fills (g.nested (suc room) wanted count)
unfolding g.nested
nested_fills zero wanted count = reading_fills zero (g.nested zero) (λ some w c. absurd (let e = some.1 in cc)) wanted count
nested_fills (suc room) wanted count = reading_fills (suc room) (g.nested (suc room)) (λ some w c. nested_fills room w c) wanted count
