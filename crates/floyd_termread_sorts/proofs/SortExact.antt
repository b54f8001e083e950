-- The readers of sorts and binders are exact for their grammar.
use Rattle.std.proofs.Common.{◌≡◌, ℕ, zero, suc, ◌+◌, pred, Bool, true, false, not, if◌then◌else◌, Result, Ok, Err, List, [], ◌∷◌, refl, sym, ◌∙◌, ap, subst, true≢false}
use Rattle.floyd_lex.specs.declared.kinds.Punctuator.TheVariants as p
use Rattle.floyd_lex.specs.Token.{Token}
use Rattle.floyd_text.specs.declared.place.Place.{Place}
use Rattle.floyd_grammar.specs.Phrase.{Phrase}
use Rattle.floyd_grammar.specs.Phrase as phrase
use Rattle.floyd_grammar.specs.ParseClauses.{Parser, is_taken, is_blamed, is_meant}
use Rattle.floyd_grammar.specs.ParseClauses as parse
use Rattle.floyd_grammar.proofs.Exact.{Exact, nil_left, nil_right, token, token_solid, nothing}
use Rattle.floyd_grammar.proofs.Either.{or_left, or_right}
use Rattle.floyd_grammar.proofs.Seq.{seq, seq_open, seq_solid, token_then, made}
use Rattle.floyd_grammar.proofs.Wider.{wider, loose}
use Rattle.floyd_grammar.proofs.Repeat.{repeat, folded_nil}
use Rattle.floyd_grammar.proofs.Lists.{separated, closed, closed_any}
use Rattle.floyd_cparse_tokens.specs.Tokens.{found_or}
use Rattle.floyd_cparse_tokens.proofs.TokenLemmas.{or_cases, not_true, not_false, closing_meant, closing_taken, closing_unless, mark_kind}
use Rattle.floyd_termread_trees.specs.declared.words.SortWord.TheVariants as s
use Rattle.floyd_termread_trees.specs.declared.written.Binder.{Binder}
use Rattle.floyd_termread_trees.specs.declared.written.SortItem.{SortItem}
use Rattle.floyd_termread_trees.specs.declared.written.SortItem.TheVariants as item
use Rattle.floyd_termread_tokens.specs.Tokens.{is_mark, place_if, blame, demand, unless_cut, without_room}
use Rattle.floyd_termread_tokens.proofs.TakeLemmas.{there_place, mark_apart, cut_cases, cut_no_mark}
use Rattle.floyd_termread_sorts.specs.declared.values.Binders.{Binders}
use Rattle.floyd_termread_sorts.specs.declared.values.SortParts.{SortParts}
use Rattle.floyd_termread_sorts.specs.declared.values.SortStart.{SortStart}
use Rattle.floyd_termread_sorts.specs.declared.values.SortStart.TheVariants as start
use Rattle.floyd_termread_sorts.specs.Sorts as g
use Rattle.floyd_termread_sorts.specs.SortClauses as r
use Rattle.floyd_termread_sorts.specs.SortClauses.{wants_more}

-- a token is taken or refused for a row that wants a sort
guarded : {A : Type 0} (b : Bool) (o : Result A ℕ) → is_meant (if b then Err 0 else o) ≡ true → not b ≡ true
guarded true o e = absurd (true≢false (sym e))
guarded false o e = refl

sort_meant : (room count : ℕ) (parts : SortParts) (t : Token) → is_meant (g.sort_token room count parts t) ≡ true → wants_more parts t ≡ true
sort_meant room count parts t e = guarded (g.wants_none parts) (unless_cut t (start.Word s.Z t.place) (demand room (count + parts.run) t (g.sort_start t))) e

-- what the readers one bracket further in keep to
pub record InnerSorts (ri : ℕ → Parser Token (List SortItem)) (gi : ℕ → Phrase Token (List SortItem)) : Type 0 where
  pub exact : (count : ℕ) → Exact (ri count) (gi count) (λ t. true) (λ t. true) (λ x t. false)
  pub solid : (count : ℕ) (x : List SortItem) → (gi count).reads [] x → ⊥

module _ (room : ℕ) (ri : ℕ → Parser Token (List SortItem)) (gi : ℕ → Phrase Token (List SortItem)) (N : InnerSorts ri gi) where
  parenthesised_exact : (count : ℕ) (place : Place) → Exact (r.parenthesised room ri count place) (g.parenthesised room gi count place) (λ t. true) (λ t. true) (λ x t. false)
  unfolding r.parenthesised
  parenthesised_exact count place = closed_any (λ _. g.sort_end (pred room) count) (λ items. item.Parenthesised place items) (λ x t. false) (N.exact count) (λ u x d t e. refl)

  after_start_exact : (count : ℕ) (x : SortStart) → Exact (r.after_sort_start room ri count x) (g.after_sort_start room gi count x) (λ t. true) (λ t. true) (λ y t. false)
  unfolding r.after_sort_start
  after_start_exact count (start.Word word place) = loose (nothing (item.Word word place) (λ y t. false))
  after_start_exact count (start.Open place) = parenthesised_exact count place

  pub item_exact : (count : ℕ) (parts : SortParts) → Exact (r.sort_item room ri count parts) (g.sort_item room gi count parts) (λ t. is_taken (g.sort_token room count parts t)) (λ t. is_blamed (g.sort_token room count parts t)) (λ y t. false)
  unfolding r.sort_item
  item_exact count parts = token_then (g.sort_token room count parts) (after_start_exact count)

  pub item_solid : (count : ℕ) (parts : SortParts) (x : SortItem) → (g.sort_item room gi count parts).reads [] x → ⊥
  item_solid count parts x d = seq_solid (phrase.one (g.sort_token room count parts)) (g.after_sort_start room gi count) (token_solid (g.sort_token room count parts)) x d

  parts_exact : (count : ℕ) → Exact (r.sort_parts room ri count) (phrase.folded g.plus_sort (g.sort_item room gi count) g.no_sort) (λ t. true) (λ t. true) wants_more
  unfolding r.sort_parts
  parts_exact count =
      loose
      (repeat wants_more g.plus_sort wants_more (item_exact count) (item_solid count)
      (λ x t e. sort_meant room count x t (or_left (is_taken (g.sort_token room count x t)) (is_blamed (g.sort_token room count x t)) e))
      (λ x t e. sort_meant room count x t (or_right (is_taken (g.sort_token room count x t)) (is_blamed (g.sort_token room count x t)) e))
      (λ x u y d t e. refl) (λ x t e. e) (λ x u y d t e. refl) g.no_sort)

  finish_exact : (parts : SortParts) → Exact (r.finish_sort room ri parts) (g.finish_sort room gi parts) (λ t. false) (λ t. false) (λ x t. false)
  unfolding r.finish_sort
  finish_exact parts = go (g.wants_none parts)
    where
      go : (b : Bool) → Exact (r.row_read b parts.items) (g.whole_row b parts.items) (λ t. false) (λ t. false) (λ x t. false)
      go true = nothing parts.items (λ x t. false)
      go false = token (λ t. Err 0)

  finish_whole : (b : Bool) (items x : List SortItem) → (g.whole_row b items).reads [] x → b ≡ true
  finish_whole true items x d = refl
  finish_whole false items x d = absurd (token_solid {T = Token} {A = List SortItem} (λ t. Err 0) x d)

  pub sort_exact : (count : ℕ) → Exact (r.sort room ri count) (g.sort room gi count) (λ t. true) (λ t. true) (λ x t. false)
  unfolding r.sort
  sort_exact count =
      seq_open (parts_exact count) finish_exact
      (λ u x d t e. absurd (true≢false (sym e))) (λ u x d t e. absurd (true≢false (sym e)))
      (λ u x y d d' t e. ap not (finish_whole (g.wants_none x) x.items y d'))
      (λ t. true) (λ t. true) (λ t e. refl) (λ t e. refl) (λ x d t e. refl) (λ x d t e. refl)

  pub sort_solid : (count : ℕ) (x : List SortItem) → (g.sort room gi count).reads [] x → ⊥
  sort_solid count x d =
      let begun = folded_nil g.plus_sort (λ parts. (g.sort_item room gi count parts).reads) (item_solid count) g.no_sort d.0 d.2 d.4 (nil_left d.0 d.1 (sym d.3)) in
      let rest : (g.finish_sort room gi d.2).reads [] x = subst (λ (u : List Token). (g.finish_sort room gi d.2).reads u x) (nil_right d.0 d.1 (sym d.3)) d.5 in
      true≢false (sym (finish_whole (g.wants_none d.2) d.2.items x rest) ∙ ap g.wants_none begun)

pub sorts_exact : (room : ℕ) → InnerSorts (r.sorts room) (g.sorts room)
unfolding r.sorts g.sorts
sorts_exact zero = record {
  exact = λ count. loose (wider (token (λ t. Err (without_room count t))) (λ t. true) (λ t. true) (λ x t. false) (λ t e. refl) (λ t e. refl) (λ x t e. e));
  solid = λ count x d. token_solid {T = Token} {A = List SortItem} (λ t. Err (without_room count t)) x d;
}
sorts_exact (suc room) = record {
  exact = λ count. sort_exact room (r.sorts room) (g.sorts room) (sorts_exact room) count;
  solid = λ count x d. sort_solid room (r.sorts room) (g.sorts room) (sorts_exact room) count x d;
}

module _ (room count : ℕ) where
  pub binder_exact : (depth : ℕ) (names : List (List ℕ)) → Exact (r.binder room count depth names) (g.binder room count depth names) (λ t. is_taken (g.binder_name room depth names t)) (λ t. is_blamed (g.binder_name room depth names t)) (λ x t. false)
  unfolding r.binder
  binder_exact depth names =
      token_then (g.binder_name room depth names)
      (λ name. token_then (g.colon_token room count) (λ _. made (g.binder_of name) (λ x t. false) ((sorts_exact (suc room)).exact count) (λ u x d t e. refl)))

  pub binder_solid : (depth : ℕ) (names : List (List ℕ)) (x : Binder) → (g.binder room count depth names).reads [] x → ⊥
  binder_solid depth names x d =
      seq_solid (phrase.one (g.binder_name room depth names)) (λ name. phrase.◌>>=◌ (phrase.one (g.colon_token room count)) (λ _. phrase.◌>>=◌ (g.sorts (suc room) count) (λ sort. phrase.pure (g.binder_of name sort)))) (token_solid (g.binder_name room depth names)) x d

  comma_meant : (t : Token) → is_meant (g.comma_token t) ≡ true → is_mark p.Comma t ≡ true
  comma_meant t e = there_place (is_mark p.Comma t) t (closing_meant (place_if (is_mark p.Comma t) t) e)

  pub binders_exact : (depth : ℕ) → Exact (r.binders room count depth) (g.binders room count depth) (λ t. is_taken (g.binder_name room depth [] t)) (λ t. is_blamed (g.binder_name room depth [] t)) (λ x t. is_mark p.Comma t)
  unfolding r.binders
  binders_exact depth =
      separated (λ (all : Binders). g.comma_token) (λ all. is_mark p.Comma) g.plus_binder g.first_binder (λ (all : Binders) t. is_mark p.Comma t)
      (binder_exact depth []) (λ (all : Binders). binder_exact count all.names) (binder_solid depth [])
      (λ all t e. comma_meant t e) (λ u x d t e. refl) (λ all u x d t e. refl) (λ all t e. e) (λ u x d t e. refl) (λ all u x d t e. refl)

  binders_solid : (depth : ℕ) (x : Binders) → (g.binders room count depth).reads [] x → ⊥
  binders_solid depth x d =
      seq_solid (g.binder room count depth []) (λ first. phrase.folded g.plus_binder (λ (all : Binders). phrase.◌>>=◌ (phrase.one g.comma_token) (λ _. g.binder room count count all.names)) (g.first_binder first)) (binder_solid depth []) x d

  abbrev dot_of : Token → Result Place ℕ
  dot_of t = found_or (if is_mark p.Comma t then 0 else blame room count t) (place_if (is_mark p.Dot t) t)

  dot_found : (t : Token) → is_meant (dot_of t) ≡ true → is_mark p.Comma t ≡ false
  dot_found t e =
      or_cases (is_taken (dot_of t)) (is_blamed (dot_of t)) e
      (λ h. mark_apart p.Dot p.Comma t refl (there_place (is_mark p.Dot t) t (closing_taken _ (place_if (is_mark p.Dot t) t) h)))
      (λ h. closing_unless (is_mark p.Comma t) _ (place_if (is_mark p.Dot t) t) h)

  dot_meant : (t : Token) → is_meant (g.dot_token room count t) ≡ true → is_mark p.Comma t ≡ false
  dot_meant t e =
      cut_cases t t.place (dot_of t) e
      (λ h. cut_no_mark p.Comma t h) (λ h. dot_found t h)

  pub quantified_exact : (depth : ℕ) → Exact (r.quantified room count depth) (g.quantified room count depth) (λ t. is_taken (g.binder_name room depth [] t)) (λ t. is_blamed (g.binder_name room depth [] t)) (λ x t. false)
  unfolding r.quantified
  quantified_exact depth = closed (λ (all : Binders). g.dot_token room count) (λ (all : Binders). all.items) (λ x t. false) (binders_exact depth) (binders_solid depth) (λ u x d t e. dot_meant t e)

  pub quantified_solid : (depth : ℕ) (x : List Binder) → (g.quantified room count depth).reads [] x → ⊥
  quantified_solid depth x d = seq_solid (g.binders room count depth) (λ (all : Binders). phrase.◌>>=◌ (phrase.one (g.dot_token room count)) (λ _. phrase.pure all.items)) (binders_solid depth) x d
