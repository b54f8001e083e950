-- Sorts and binders that are cut off.
use Rattle.std.proofs.Common.{◌≡◌, ℕ, zero, suc, ◌+◌, ◌==◌, pred, inl, inr, Bool, true, false, if◌then◌else◌, List, [], ◌∷◌, ◌++◌, Ok, Err, refl, sym, ◌∙◌, ap, subst, append_assoc, append-nil, eqb-true, arith}
use Rattle.std.specs.Prelude.{Option, Some, None}
use Rattle.floyd_text.specs.declared.place.Place.{Place}
use Rattle.floyd_lex.specs.declared.kinds.Punctuator.TheVariants as p
use Rattle.floyd_lex.specs.Token.{Token}
use Rattle.floyd_grammar.specs.Phrase.{Phrase, Folded, none, then as joined}
use Rattle.floyd_grammar.specs.Phrase as phrase
use Rattle.floyd_termread_trees.specs.declared.words.Word.{Word}
use Rattle.floyd_termread_trees.specs.declared.words.Word.TheVariants as w
use Rattle.floyd_termread_trees.specs.declared.words.SortWord.TheVariants as s
use Rattle.floyd_termread_trees.specs.declared.written.SortItem.{SortItem}
use Rattle.floyd_termread_trees.specs.declared.written.SortItem.TheVariants as item
use Rattle.floyd_termread_tokens.specs.Tokens.{is_mark, word_at, unless_cut, demand, cut, identifier_of}
use Rattle.floyd_termread_sorts.specs.declared.values.SortParts.{SortParts}
use Rattle.floyd_termread_sorts.specs.declared.values.SortStart.{SortStart}
use Rattle.floyd_termread_sorts.specs.declared.values.SortStart.TheVariants as start
use Rattle.floyd_termread_sorts.specs.declared.values.Binders.{Binders}
use Rattle.floyd_termread_sorts.specs.Sorts as g
use Rattle.floyd_termread_fronts.proofs.Fills.{ends, ends_add, Filled, More, Fills, Value, more_one, fills_one, fills_pure, more_then, fills_then, fills_folded}
use Rattle.floyd_termread_fronts.proofs.StartLemmas.{Room, room_left, demanded, taken_or, parenthesis_opens}

-- a token that opens a parenthesis
word_opens_none : (place at : Place) (o : Option Word) → g.start_of_word place o ≡ Some (start.Open at) → ⊥
word_opens_none place at (Some (w.Sort word)) e = absurd cc
word_opens_none place at (Some (w.Type word)) e = absurd cc
word_opens_none place at (Some (w.Formula word)) e = absurd cc
word_opens_none place at (Some (w.Term word)) e = absurd cc
word_opens_none place at (Some w.Item) e = absurd cc
word_opens_none place at None e = absurd cc

start_opens : (t : Token) (place : Place) → g.sort_start t ≡ Some (start.Open place) → is_mark p.OpenParen t ≡ true
start_opens t place e = go (is_mark p.OpenParen t) e
  where
    go : (b : Bool) → (if b then Some (start.Open t.place) else g.start_of_word t.place (word_at t)) ≡ Some (start.Open place) → b ≡ true
    go true q = refl
    go false q = absurd (word_opens_none t.place place (word_at t) q)

sort_room : (room count : ℕ) (parts : SortParts) (t : Token) (place : Place) → g.sort_token room count parts t ≡ Ok (start.Open place) → Room room
sort_room room count parts t place e = go (g.wants_none parts) e
  where
    found : demand room (count + parts.run) t (g.sort_start t) ≡ Ok (start.Open place) → Room room
    found q =
        let d = demanded room (count + parts.run) t (g.sort_start t) (start.Open place) q in
        room_left room (count + parts.run) t (parenthesis_opens t (start_opens t place d.0)) d.1

    go : (b : Bool) → (if b then Err 0 else unless_cut t (start.Word s.Z t.place) (demand room (count + parts.run) t (g.sort_start t))) ≡ Ok (start.Open place) → Room room
    go true q = absurd cc
    go false q = taken_or t (start.Word s.Z t.place) (demand room (count + parts.run) t (g.sort_start t)) (start.Open place) q (λ h. absurd cc) found

some_wanted : (n k : ℕ) → k ≡ suc n → (k == 0) ≡ false
some_wanted n k e = go (k == 0) refl
  where
    go : (b : Bool) → (k == 0) ≡ b → b ≡ false
    go true h = absurd (omega (arith, e, eqb-true k 0 h))
    go false h = refl

-- where a sort is wanted, the end of the text is one
missing_sort : (room count n : ℕ) (parts : SortParts) → parts.wanted ≡ suc n → g.sort_token room count parts cut ≡ Ok (start.Word s.Z cut.place)
missing_sort room count n parts e = ap (λ (b : Bool). if b then Err 0 else Ok (start.Word s.Z cut.place)) (some_wanted n parts.wanted e)

module _ (room : ℕ) (inner : ℕ → Phrase Token (List SortItem)) (F : Room room → (count : ℕ) → Fills (inner count)) where
  parenthesised_fills : Room room → (count : ℕ) (place : Place) → Fills (g.parenthesised room inner count place)
  parenthesised_fills some count place =
      fills_then (inner count) (λ items. phrase.◌>>=◌ (phrase.one (g.sort_end (pred room) count)) (λ at. phrase.pure (item.Parenthesised place items))) (F some count)
      (λ items d. fills_then (phrase.one (g.sort_end (pred room) count)) (λ at. phrase.pure (item.Parenthesised place items)) (fills_one (g.sort_end (pred room) count) cut.place refl) (λ at d. fills_pure (item.Parenthesised place items)))

  after_fills : (count : ℕ) (parts : SortParts) (x : SortStart) → Value (phrase.one (g.sort_token room count parts)) x → Fills (g.after_sort_start room inner count x)
  after_fills count parts (start.Word word place) d = fills_pure (item.Word word place)
  after_fills count parts (start.Open place) d = parenthesised_fills (sort_room room count parts d.1.0 place d.1.2) count place

  item_more : (count : ℕ) (parts : SortParts) → More (g.sort_item room inner count parts)
  item_more count parts = more_then (phrase.one (g.sort_token room count parts)) (g.after_sort_start room inner count) (more_one (g.sort_token room count parts)) (after_fills count parts)

  module _ (count : ℕ) where
    abbrev Row : List Token → SortParts → Type 0
    Row = Folded g.plus_sort (λ (x : SortParts). (g.sort_item room inner count x).reads) g.no_sort

    abbrev whole : Phrase Token (List SortItem)
    whole = g.sort room inner count

    -- a row that still wants so many sorts
    row_fills : (n : ℕ) (u : List Token) (parts : SortParts) → parts.wanted ≡ n → Row u parts → Filled whole u
    row_fills zero u parts e d =
        (0, parts.items, (u, [], parts, refl, d, subst (λ (b : Bool). (g.whole_row b parts.items).reads [] parts.items) (sym (ap (λ (n : ℕ). n == 0) e)) (refl, refl)))
    row_fills (suc n) u parts e d =
        let one : (g.sort_item room inner count parts).reads (cut ∷ []) (item.Word s.Z cut.place) = (cut ∷ [], [], start.Word s.Z cut.place, refl, (cut, refl, missing_sort room count n parts e), (refl, refl)) in
        let more = row_fills n (u ++ cut ∷ []) (g.plus_sort parts (item.Word s.Z cut.place)) (ap pred e) (joined d one) in
        (suc more.0, more.1, subst (λ (l : List Token). whole.reads l more.1) (append_assoc u (cut ∷ []) (ends more.0)) more.2)

    filled_row : (u v : List Token) (parts : SortParts) → Row u parts → Filled (g.sort_item room inner count parts) v → Filled whole (u ++ v)
    filled_row u v parts d e =
        let last : Row (u ++ (v ++ ends e.0)) (g.plus_sort parts e.1) = joined d e.2 in
        let more = row_fills (g.plus_sort parts e.1).wanted (u ++ (v ++ ends e.0)) (g.plus_sort parts e.1) refl last in (
          e.0 + more.0,
          more.1,
          subst (λ (l : List Token). whole.reads l more.1)
              (append_assoc u (v ++ ends e.0) (ends more.0) ∙ ap (λ (l : List Token). u ++ l) (append_assoc v (ends e.0) (ends more.0)) ∙ ap (λ (l : List Token). u ++ (v ++ l)) (ends_add e.0 more.0) ∙ sym (append_assoc u v (ends (e.0 + more.0))))
              more.2,
        )

    row_at : (u v : List Token) (parts : SortParts) → Row u parts → (g.sort_item room inner count parts).front v → Filled whole (u ++ v)
    row_at u [] parts d f = subst (Filled whole) (sym (append-nil u)) (row_fills parts.wanted u parts refl d)
    row_at u (t ∷ v) parts d f = filled_row u (t ∷ v) parts d (item_more count parts t v f)

    finished_at : (u v : List Token) (parts : SortParts) → Row u parts → (b : Bool) → (g.whole_row b parts.items).front v → Filled whole (u ++ v)
    finished_at u v parts d true f = subst (Filled whole) (sym (ap (λ (l : List Token). u ++ l) f ∙ append-nil u)) (row_fills parts.wanted u parts refl d)
    finished_at u v parts d false (inl f) = subst (Filled whole) (sym (ap (λ (l : List Token). u ++ l) f ∙ append-nil u)) (row_fills parts.wanted u parts refl d)
    finished_at u v parts d false (inr f) = absurd (let e = f.3 in cc)

    pub sort_fills : Fills (g.sort room inner count)
    sort_fills = record {
      nothing = row_fills 1 [] g.no_sort refl none;
      more = λ t u d. elim d [
        | inl f ↦ subst (Filled whole) (sym f.3) (row_at f.0 f.1 f.2 f.4 f.5)
        | inr f ↦ subst (Filled whole) (sym f.3) (finished_at f.0 f.1 f.2 f.4 (g.wants_none f.2) f.5)
      ];
    }

pub sorts_fill : (room count : ℕ) → Fills (g.sorts (suc room) count)
unfolding g.sorts
sorts_fill zero count = sort_fills zero (g.sorts zero) (λ some c. absurd (let e = some.1 in cc)) count
sorts_fill (suc room) count = sort_fills (suc room) (g.sorts (suc room)) (λ some c. sorts_fill room c) count

module _ (room count : ℕ) where
  binder_fills : (depth : ℕ) (names : List (List ℕ)) → Fills (g.binder room count depth names)
  binder_fills depth names =
      fills_then (phrase.one (g.binder_name room depth names)) (λ name. phrase.◌>>=◌ (phrase.one (g.colon_token room count)) (λ at. phrase.◌>>=◌ (g.sorts (suc room) count) (λ sort. phrase.pure (g.binder_of name sort))))
      (fills_one (g.binder_name room depth names) (identifier_of cut) refl)
      (λ name d.
      fills_then (phrase.one (g.colon_token room count)) (λ at. phrase.◌>>=◌ (g.sorts (suc room) count) (λ sort. phrase.pure (g.binder_of name sort))) (fills_one (g.colon_token room count) cut.place refl)
      (λ at d. fills_then (g.sorts (suc room) count) (λ sort. phrase.pure (g.binder_of name sort)) (sorts_fill room count) (λ sort d. fills_pure (g.binder_of name sort))))

  next_more : (all : Binders) → More (phrase.◌>>◌ (phrase.one g.comma_token) (g.binder room count count all.names))
  next_more all = more_then (phrase.one g.comma_token) (λ at. g.binder room count count all.names) (more_one g.comma_token) (λ at d. binder_fills count all.names)

  binders_fill : (depth : ℕ) → Fills (g.binders room count depth)
  binders_fill depth =
      fills_then (g.binder room count depth []) (λ first. phrase.folded g.plus_binder (λ (all : Binders). phrase.◌>>◌ (phrase.one g.comma_token) (g.binder room count count all.names)) (g.first_binder first)) (binder_fills depth [])
      (λ first d. fills_folded g.plus_binder (λ (all : Binders). phrase.◌>>◌ (phrase.one g.comma_token) (g.binder room count count all.names)) (g.first_binder first) next_more)

  pub quantified_fills : (depth : ℕ) → Fills (g.quantified room count depth)
  quantified_fills depth =
      fills_then (g.binders room count depth) (λ (all : Binders). phrase.◌>>=◌ (phrase.one (g.dot_token room count)) (λ at. phrase.pure all.items)) (binders_fill depth)
      (λ (all : Binders) d. fills_then (phrase.one (g.dot_token room count)) (λ at. phrase.pure all.items) (fills_one (g.dot_token room count) cut.place refl) (λ at d. fills_pure all.items))
