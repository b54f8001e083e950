-- Below existentials with their new names, what becomes of each variable is well formed in the new scope.
use Rattle.std.proofs.Common.{◌≡◌, ℕ, ◌+◌, ◌<◌, ◌≤◌, ◌^◌, Bool, true, false, not, ◌&&◌, ◌||◌, ◌⊎◌, inl, inr, List, [], ◌∷◌, ◌++◌, length, Option, Some, None, refl, sym, ◌∙◌, ap, subst, arith, true≢false, append_assoc, append-nil}
use Rattle.std.specs.Prelude.{bytes_eq, cond}
use Rattle.std.specs.Map.{lookup}
use Rattle.std.proofs.lemmas.List.{length-append}
use Rattle.std.proofs.lemmas.List.Folds.{list_any-append}
use Rattle.std.proofs.lemmas.Slice.Eq.{bytes_eq-Decides}
use Rattle.floyd_tree_sorts.specs.declared.sorts.Sort.{Sort}
use Rattle.floyd_tree.specs.Formulas.{formulas, formula_sizes}
use Rattle.floyd_tree.specs.Plain.{Plain, mentions, plains, sizes}
use Rattle.floyd_tree_values.specs.Rules.{AreDistinct, CallsOf, IsOneOf, Scope}
use Rattle.floyd_truth.specs.Capture.{Becomes, Put, Called, Changes, brings, marked}
use Rattle.floyd_truth.proofs.Fresh.{at_found, neither, not_true, or_left, or_right, weight}
use Rattle.floyd_assert_trees.specs.declared.assertion.Assertion.{Assertion}
use Rattle.floyd_assert_trees.specs.declared.binder.Binder.{Binder}
use Rattle.floyd_assert_trees.specs.declared.items.Defs.{Defs}
use Rattle.floyd_assert_trees.specs.Meanings.{value_defs}
use Rattle.floyd_assert_changes.specs.Changed.{below_existentials, body_binds, body_mentions, existential_name, has_name, inside, new_existentials, terms_in}
use Rattle.floyd_assert_laws.proofs.NewNames.{covers, IsNewName, is_new_name}
use Rattle.floyd_assert_laws.proofs.Renamed.{names_from, new_is}
use Rattle.floyd_goal_forms.specs.Terms.{names_with, scope_with}
use Rattle.floyd_import_laws.proofs.Distinct.{renamed_by, stay_apart}
use Rattle.floyd_formed_quantifiers.proofs.Leading.{IsApart, Leads, LeadsBy, Ready, itself, term_stays}

apart : (x y : List ℕ) → (x ≡ y → ⊥) → bytes_eq x y ≡ false
apart x y h = not_true (bytes_eq x y) (λ e. h ((bytes_eq-Decides x y).0 e))

unlike : (x y : List ℕ) → bytes_eq x y ≡ false → x ≡ y → ⊥
unlike x y h e = true≢false (sym ((bytes_eq-Decides x y).1 e) ∙ h)

both_false : (a b : Bool) → a ≡ false → b ≡ false → (a || b) ≡ false
both_false true b h k = absurd cc
both_false false b h k = k

covered : (t o m : Bool) → t ≡ true → o ≡ false → m ≡ false → (t && not (o || m)) ≡ true
covered true true m h k i = absurd cc
covered true false true h k i = absurd cc
covered true false false h k i = refl
covered false o m h k i = absurd cc

not_left : (a b c : Bool) → (a && (b && c)) ≡ false → b ≡ true → c ≡ true → a ≡ false
not_left true true true h k i = h
not_left true true false h k i = absurd cc
not_left true false c h k i = absurd cc
not_left false b c h k i = refl

pub name_append : (v : List ℕ) (bs cs : List Binder) → has_name v (bs ++ cs) ≡ (has_name v bs || has_name v cs)
name_append v bs cs = list_any-append (λ (b : Binder). bytes_eq v b.name) bs cs

-- ---- scopes with a binder more

-- the last binder is found where it is none of those before it
last_found : (xs : List Binder) (b : Binder) (scope : Scope) → has_name b.name xs ≡ false → lookup (bytes_eq b.name) (scope_with (xs ++ b ∷ []) ++ scope) ≡ Some b.sort
last_found [] b scope e = ap (λ t. cond t (Some b.sort) (lookup (bytes_eq b.name) scope)) (itself b.name)
last_found (x ∷ xs) b scope e =
    let p = neither (bytes_eq b.name x.name) (has_name b.name xs) e in
    ap (λ t. cond t (Some x.sort) (lookup (bytes_eq b.name) (scope_with (xs ++ b ∷ []) ++ scope))) p.0 ∙ last_found xs b scope p.1

-- other names are found as before
other_found : (xs : List Binder) (b : Binder) (scope : Scope) (v : List ℕ) → bytes_eq v b.name ≡ false → lookup (bytes_eq v) (scope_with (xs ++ b ∷ []) ++ scope) ≡ lookup (bytes_eq v) (scope_with xs ++ scope)
other_found [] b scope v e = ap (λ t. cond t (Some b.sort) (lookup (bytes_eq v) scope)) e
other_found (x ∷ xs) b scope v e = ap (cond (bytes_eq v x.name) (Some x.sort)) (other_found xs b scope v e)

in_middle : (xs : List Binder) (b : Binder) (more : List Binder) → IsOneOf (names_with (xs ++ b ∷ more)) b.name
in_middle [] b more = inl refl
in_middle (x ∷ xs) b more = inr (in_middle xs b more)

pub not_before : (xs : List Binder) (b : Binder) (more : List Binder) → AreDistinct (names_with (xs ++ b ∷ more)) → has_name b.name xs ≡ false
not_before [] b more d = refl
not_before (x ∷ xs) b more d =
    both_false (bytes_eq b.name x.name) (has_name b.name xs) (apart b.name x.name (λ e. d.0 (subst (IsOneOf (names_with (xs ++ b ∷ more))) e (in_middle xs b more)))) (not_before xs b more d.1)

-- ---- the new names in turn

module _ (defs : Defs) (ch : Changes) (a : Assertion) (old new : Scope) where
  abbrev Marked : List Binder → List ℕ → List ℕ → Type 0
  Marked more v z = IsApart (body_mentions a) (body_binds a) v z × (has_name z more ≡ false)

  -- once the existentials `before` have the names `done`, and `more` are left
  pub record State (before done more : List Binder) (now : Changes) : Type 0 where
    pub leads : (v : List ℕ) → body_mentions a v ≡ true → has_name v more ≡ false → Leads defs now (scope_with before ++ old) (scope_with done ++ new) v
    pub called : (v z : List ℕ) → lookup (bytes_eq v) now ≡ Some (Called z) → (has_name z done ≡ true) × ((v ≡ z) ⊎ Marked more v z)
    pub put' : (v : List ℕ) (t : Plain) → lookup (bytes_eq v) now ≡ Some (Put t) → (lookup (bytes_eq v) ch ≡ Some (Put t)) × (has_name v before ≡ false)

  module _ (before done more : List Binder) (b c : Binder) (sort_is : c.sort ≡ b.sort) (now : Changes) (whole : a.existentials ≡ before ++ b ∷ more) (is_new : IsNewName ch a (done ++ more) b.name c.name) (s : State before done (b ∷ more) now) (own : has_name b.name before ≡ false) (fresh : has_name c.name done ≡ false) where
    -- c is no variable that is free below, but b itself
    not_free : (v : List ℕ) → body_mentions a v ≡ true → bytes_eq v b.name ≡ false → bytes_eq v c.name ≡ false
    not_free v m e = by is_new
      where
        by : IsNewName ch a (done ++ more) b.name c.name → bytes_eq v c.name ≡ false
        by (inl p) = subst (λ z. bytes_eq v z ≡ false) (sym p.0) e
        by (inr p) = apart v c.name (λ q. true≢false (sym (subst (λ z. body_mentions a z ≡ true) q m) ∙ p.free))

    -- nor a name that was given before
    not_given : (v z : List ℕ) → bytes_eq v b.name ≡ false → has_name z done ≡ true → (v ≡ z) ⊎ Marked (b ∷ more) v z → bytes_eq z c.name ≡ false
    not_given v z e h k = apart z c.name (λ i. true≢false (sym (subst (λ y. has_name y done ≡ true) i h) ∙ fresh))

    -- nor free in a new term that is put for what is free below
    not_put : (v : List ℕ) (t : Plain) → body_mentions a v ≡ true → has_name v more ≡ false → bytes_eq v b.name ≡ false → (lookup (bytes_eq v) ch ≡ Some (Put t)) × (has_name v before ≡ false) → mentions c.name t ≡ false
    not_put v t m n e l = by is_new
      where
        other_way : bytes_eq b.name v ≡ false
        other_way = apart b.name v (λ q. unlike v b.name e (sym q))

        none : covers a v ≡ true
        none = ap (λ bs. body_mentions a v && not (has_name v bs)) whole ∙ ap (λ k. body_mentions a v && not k) (name_append v before (b ∷ more)) ∙ covered (body_mentions a v) (has_name v before) (has_name v (b ∷ more)) m l.1 (both_false (bytes_eq v b.name) (has_name v more) e n)

        by : IsNewName ch a (done ++ more) b.name c.name → mentions c.name t ≡ false
        by (inl p) =
            let h = at_found (λ (x : List ℕ × Becomes). brings b.name (lookup (bytes_eq x.0) ch) && (not (bytes_eq b.name x.0) && covers a x.0)) ch v (Put t) p.1 l.0 in
            subst (λ z. mentions z t ≡ false) (sym p.0)
            (ap (brings b.name) (sym l.0) ∙ not_left (brings b.name (lookup (bytes_eq v) ch)) (not (bytes_eq b.name v)) (covers a v) h (ap not other_way) none)
        by (inr p) = at_found (λ (x : List ℕ × Becomes). brings c.name (Some x.1)) ch v (Put t) p.terms l.0

    leads_next : (v : List ℕ) → body_mentions a v ≡ true → has_name v more ≡ false → Leads defs ((b.name, Called c.name) ∷ now) (scope_with (before ++ b ∷ []) ++ old) (scope_with (done ++ c ∷ []) ++ new) v
    leads_next v m n r e = by (bytes_eq v b.name) refl
      where
        still : (w : List ℕ) → bytes_eq w c.name ≡ false → (q : Sort) → lookup (bytes_eq w) (scope_with done ++ new) ≡ Some q → lookup (bytes_eq w) (scope_with (done ++ c ∷ []) ++ new) ≡ Some q
        still w i q j = other_found done c new w i ∙ j

        found : (o : Option Becomes) → lookup (bytes_eq v) now ≡ o → bytes_eq v b.name ≡ false → LeadsBy defs (scope_with done ++ new) o v r → LeadsBy defs (scope_with (done ++ c ∷ []) ++ new) o v r
        found (Some (Put t)) l i k =
            let absent = not_put v t m n i (s.put' v t l) in
            let stays : (w : List ℕ) → mentions w t ≡ true → (q : Sort) → lookup (bytes_eq w) (scope_with done ++ new) ≡ Some q → lookup (bytes_eq w) (scope_with (done ++ c ∷ []) ++ new) ≡ Some q =
            λ w j q u. still w (apart w c.name (λ z. true≢false (sym (subst (λ y. mentions y t ≡ true) z j) ∙ absent))) q u in
            record { fits = record { sorted = k.fits.sorted; allowed = term_stays defs.structs (CallsOf (value_defs defs).funs) (scope_with done ++ new) (scope_with (done ++ c ∷ []) ++ new) t stays k.fits.allowed }; known = k.known }
        found (Some (Called z)) l i k = let q = s.called v z l in still z (not_given v z i q.0 q.1) r k
        found None l i k = still v (not_free v m i) r k

        by : (t : Bool) → bytes_eq v b.name ≡ t → LeadsBy defs (scope_with (done ++ c ∷ []) ++ new) (cond t (Some (Called c.name)) (lookup (bytes_eq v) now)) v r
        by true i =
            let here : lookup (bytes_eq b.name) (scope_with (before ++ b ∷ []) ++ old) ≡ Some r = subst (λ y. lookup (bytes_eq y) (scope_with (before ++ b ∷ []) ++ old) ≡ Some r) ((bytes_eq-Decides v b.name).0 i) e in
            last_found done c new fresh ∙ ap (λ q. Some q) sort_is ∙ sym (last_found before b old own) ∙ here
        by false i =
            found (lookup (bytes_eq v) now) refl i (s.leads v m (both_false (bytes_eq v b.name) (has_name v more) i n) r (sym (other_found before b old v i) ∙ e))

    given : has_name c.name (done ++ c ∷ []) ≡ true
    given = name_append c.name done (c ∷ []) ∙ or_right (has_name c.name done) (bytes_eq c.name c.name || false) (or_left (bytes_eq c.name c.name) false (itself c.name))

    still_given : (z : List ℕ) → has_name z done ≡ true → has_name z (done ++ c ∷ []) ≡ true
    still_given z h = name_append z done (c ∷ []) ∙ or_left (has_name z done) (has_name z (c ∷ [])) h

    called_next : (v z : List ℕ) → lookup (bytes_eq v) ((b.name, Called c.name) ∷ now) ≡ Some (Called z) → (has_name z (done ++ c ∷ []) ≡ true) × ((v ≡ z) ⊎ Marked more v z)
    called_next v z l = by (bytes_eq v b.name) refl l
      where
        here : v ≡ b.name → c.name ≡ z → IsNewName ch a (done ++ more) b.name c.name → (v ≡ z) ⊎ Marked more v z
        here q e (inl p) = inl (q ∙ sym p.0 ∙ e)
        here q e (inr p) =
            inr (
              record {
                number = p.number;
                small = p.small;
                is = sym e ∙ p.is ∙ ap (λ n. marked n p.number) (sym q);
                not_free = subst (λ n. body_mentions a n ≡ false) e p.free;
                not_bound = subst (λ n. body_binds a n ≡ false) e p.bound;
              },
              subst (λ n. has_name n more ≡ false) e (neither (has_name c.name done) (has_name c.name more) (sym (name_append c.name done more) ∙ p.other)).1,
            )

        further : (v ≡ z) ⊎ Marked (b ∷ more) v z → (v ≡ z) ⊎ Marked more v z
        further (inl q) = inl q
        further (inr q) = inr (q.0, (neither (bytes_eq z b.name) (has_name z more) q.1).1)

        by : (t : Bool) → bytes_eq v b.name ≡ t → cond t (Some (Called c.name)) (lookup (bytes_eq v) now) ≡ Some (Called z) → (has_name z (done ++ c ∷ []) ≡ true) × ((v ≡ z) ⊎ Marked more v z)
        by true q e =
            let p : c.name ≡ z = cc in
            (subst (λ n. has_name n (done ++ c ∷ []) ≡ true) p given, here ((bytes_eq-Decides v b.name).0 q) p is_new)
        by false q e = let k = s.called v z e in (still_given z k.0, further k.1)

    put_next : (v : List ℕ) (t : Plain) → lookup (bytes_eq v) ((b.name, Called c.name) ∷ now) ≡ Some (Put t) → (lookup (bytes_eq v) ch ≡ Some (Put t)) × (has_name v (before ++ b ∷ []) ≡ false)
    put_next v t l = by (bytes_eq v b.name) refl l
      where
        by : (q : Bool) → bytes_eq v b.name ≡ q → cond q (Some (Called c.name)) (lookup (bytes_eq v) now) ≡ Some (Put t) → (lookup (bytes_eq v) ch ≡ Some (Put t)) × (has_name v (before ++ b ∷ []) ≡ false)
        by true q e = absurd cc
        by false q e =
            let k = s.put' v t e in
            (k.0, name_append v before (b ∷ []) ∙ both_false (has_name v before) (has_name v (b ∷ [])) k.1 (both_false (bytes_eq v b.name) false q refl))

    pub next : State (before ++ b ∷ []) (done ++ c ∷ []) more ((b.name, Called c.name) ∷ now)
    next = record { leads = leads_next; called = called_next; put' = put_next }

  pub all_done : (before done : List Binder) (now : Changes) → State before done [] now → Ready defs now (scope_with before ++ old) (scope_with done ++ new) (body_mentions a) (body_binds a)
  all_done before done now s = record { leads = λ v e. s.leads v e refl; kept = λ v z l. last v z (s.called v z l).1 }
    where
      last : (v z : List ℕ) → (v ≡ z) ⊎ Marked [] v z → (v ≡ z) ⊎ IsApart (body_mentions a) (body_binds a) v z
      last v z (inl q) = inl q
      last v z (inr q) = inr q.0

  go : (before done more : List Binder) (now : Changes) → weight ch + formula_sizes (formulas a.props) + sizes (plains (terms_in a)) + (length done + length more) < 2 ^ 63 → a.existentials ≡ before ++ more → AreDistinct (names_with (before ++ more)) → AreDistinct (names_with (done ++ names_from ch a done more)) → State before done more now →
      Ready defs (below_existentials now more (names_from ch a done more)) (scope_with (before ++ more) ++ old) (scope_with (done ++ names_from ch a done more) ++ new) (body_mentions a) (body_binds a)
  go before done [] now l e d f s =
      subst (λ xs. Ready defs now (scope_with xs ++ old) (scope_with (done ++ []) ++ new) (body_mentions a) (body_binds a)) (sym (append-nil before))
      (subst (λ xs. Ready defs now (scope_with before ++ old) (scope_with xs ++ new) (body_mentions a) (body_binds a)) (sym (append-nil done)) (all_done before done now s))
  go before done (b ∷ more) now l e d f s =
      let c : Binder = record { name = existential_name ch a (done ++ more) b.name; sort = b.sort } in
      let rest = names_from ch a (done ++ c ∷ []) more in
      let changes = below_existentials ((b.name, Called c.name) ∷ now) more rest in
      let olds = append_assoc before (b ∷ []) more in
      let news = append_assoc done (c ∷ []) rest in
      let inner = next before done more b c refl now e (is_new_name ch a (done ++ more) b.name (omega (arith, l, length-append done more))) s (not_before before b more d) (not_before done c rest f) in
      subst (λ xs. Ready defs changes (scope_with xs ++ old) (scope_with (done ++ c ∷ rest) ++ new) (body_mentions a) (body_binds a)) olds
      (subst (λ xs. Ready defs changes (scope_with ((before ++ b ∷ []) ++ more) ++ old) (scope_with xs ++ new) (body_mentions a) (body_binds a)) news
      (go (before ++ b ∷ []) (done ++ c ∷ []) more ((b.name, Called c.name) ∷ now)
      (omega (arith, l, length-append done (c ∷ [])))
      (e ∙ sym olds)
      (subst (λ xs. AreDistinct (names_with xs)) (sym olds) d)
      (subst (λ xs. AreDistinct (names_with xs)) (sym news) f)
      inner))

-- ---- all of them

module _ (ch : Changes) (a : Assertion) where
  in_turn : (done more : List Binder) → names_from ch a done more ≡ renamed_by (existential_name ch a) done more
  in_turn done [] = refl
  in_turn done (b ∷ more) =
      let c : Binder = record { name = existential_name ch a (done ++ more) b.name; sort = b.sort } in
      ap (λ xs. c ∷ xs) (in_turn (done ++ c ∷ []) more)

  module _ (small : weight ch + formula_sizes (formulas a.props) + sizes (plains (terms_in a)) + length a.existentials < 2 ^ 63) (distinct : AreDistinct (names_with a.existentials)) where
    new_names : (others : List Binder) (x : List ℕ) → length others ≤ length a.existentials → (existential_name ch a others x ≡ x) ⊎ (has_name (existential_name ch a others x) others ≡ false)
    new_names others x k = by (is_new_name ch a others x (omega (arith, small, k)))
      where
        by : IsNewName ch a others x (existential_name ch a others x) → (existential_name ch a others x ≡ x) ⊎ (has_name (existential_name ch a others x) others ≡ false)
        by (inl p) = inl p.0
        by (inr p) = inr p.other

    names_distinct : AreDistinct (names_with (names_from ch a [] a.existentials))
    names_distinct = subst (λ xs. AreDistinct (names_with xs)) (sym (in_turn [] a.existentials)) (stay_apart (existential_name ch a) (length a.existentials) new_names [] a.existentials (omega arith) distinct)

    -- the new existentials have names of their own
    pub new_distinct : AreDistinct (names_with (new_existentials ch a))
    new_distinct = subst (λ xs. AreDistinct (names_with xs)) (sym (new_is ch a)) names_distinct

    -- the changes below the existentials lead to the scope with their new names
    pub ready_inside : (defs : Defs) (old new : Scope) → ((v : List ℕ) → Leads defs ch old new v) → ((v z : List ℕ) → lookup (bytes_eq v) ch ≡ Some (Called z) → ⊥) →
        Ready defs (inside ch a) (scope_with a.existentials ++ old) (scope_with (new_existentials ch a) ++ new) (body_mentions a) (body_binds a)
    ready_inside defs old new leads none =
        subst (λ bs. Ready defs (below_existentials ch a.existentials bs) (scope_with a.existentials ++ old) (scope_with bs ++ new) (body_mentions a) (body_binds a)) (sym (new_is ch a))
        (go defs ch a old new [] [] a.existentials ch (omega (arith, small)) refl distinct names_distinct
        (record { leads = λ v m e. leads v; called = λ v z e. absurd (none v z e); put' = λ v t e. (e, refl) }))
