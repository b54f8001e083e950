-- Changes of the names in scope, done and undone.
use Rattle.std.proofs.Common.{◌≡◌, IsSome, OnSome, ℕ, ◌+◌, ◌-◌, ◌<◌, ◌≤◌, ◌==◌, suc, Bool, true, false, ◌&&◌, ◌||◌, not, nat_lt, List, [], ◌∷◌, ◌++◌, length, map, Option, None, Some, option_map, is_some, cond, bytes_eq, true≢false, refl, ap, sym, ◌∙◌, subst, arith}
use Rattle.std.specs.Option.{option_or}
use Rattle.std.specs.List.{list_any}
use Rattle.std.specs.Map.{lookup}
use Rattle.std.proofs.lemmas.Bool.{eqb-true, eq-eqb, lt-ltb}
use Rattle.std.proofs.lemmas.Slice.Eq.{bytes_eq-Decides}
use Rattle.floyd_elab_names.specs.declared.meaning.Meaning.{Meaning}
use Rattle.floyd_elab_names.specs.declared.names.Seen.{Seen}
use Rattle.floyd_elab_names.specs.declared.names.Change.{Change}
use Rattle.floyd_elab_names.specs.declared.names.Change.TheVariants.{Entered, Declared}
use Rattle.floyd_elab_names.specs.Scopes.{Scope, Scopes, meaning_of, leave, with_meaning, names_in, is_among}
use Rattle.floyd_elab_names.specs.ChangeClauses.{after, after_all, seen_in, is_new, Keeps, KeepAll, IsKept}

-- Changes at the end.

pub after_last : (scopes : Scopes) (cs : List Change) (c : Change) → after_all scopes (cs ++ c ∷ []) ≡ after (after_all scopes cs) c
after_last scopes [] c = refl
after_last scopes (x ∷ cs) c = after_last (after scopes x) cs c

keep_last : (scopes : Scopes) (cs : List Change) (c : Change) → KeepAll scopes cs → Keeps (after_all scopes cs) c → KeepAll scopes (cs ++ c ∷ [])
keep_last scopes [] c all last = (last, tt)
keep_last scopes (x ∷ cs) c all last = (all.0, keep_last (after scopes x) cs c all.1 last)

kept_last : (scopes : Scopes) (cs : List Change) (c : Change) → KeepAll scopes (cs ++ c ∷ []) → KeepAll scopes cs × Keeps (after_all scopes cs) c
kept_last scopes [] c all = (tt, all.0)
kept_last scopes (x ∷ cs) c all = let rest = kept_last (after scopes x) cs c all.1 in ((all.0, rest.0), rest.1)

same_depth : (scopes : Scopes) (name : List ℕ) (meaning : Meaning) → length (with_meaning name meaning scopes) ≡ length scopes
same_depth [] name meaning = refl
same_depth (scope ∷ outer) name meaning = refl

no_deeper : (scopes : Scopes) (c : Change) → length (after scopes c) ≤ length scopes + 1
no_deeper scopes Entered = omega arith
no_deeper scopes (Declared name meaning before) = omega (arith, same_depth scopes name meaning)

few_from : (scopes : Scopes) (cs : List Change) → length (after_all scopes cs) ≤ length scopes + length cs
few_from scopes [] = omega arith
few_from scopes (c ∷ cs) = omega (arith, few_from (after scopes c) cs, no_deeper scopes c)

-- there are no more scopes than changes
pub few_scopes : (cs : List Change) (visible : List ℕ → Option Seen) (depth : ℕ) → IsKept cs visible depth → depth ≤ length cs
few_scopes cs visible depth kept = omega (arith, few_from [] cs, kept.deep)

-- What a name stands for.

pub meaning_seen : (scopes : Scopes) (q : List ℕ) → option_map (λ (s : Seen). s.meaning) (seen_in scopes q) ≡ meaning_of scopes q
meaning_seen [] q = refl
meaning_seen (scope ∷ outer) q = by (meaning_seen outer q) (lookup (bytes_eq q) scope)
  where
    by : option_map (λ (s : Seen). s.meaning) (seen_in outer q) ≡ meaning_of outer q → (found : Option Meaning) → option_map (λ (s : Seen). s.meaning) (option_or (option_map (λ m. record { depth = length (scope ∷ outer); meaning = m }) found) (seen_in outer q)) ≡ option_or found (meaning_of outer q)
    by more None = more
    by more (Some m) = refl

seen_within : (scopes : Scopes) (q : List ℕ) (s : Seen) → seen_in scopes q ≡ Some s → s.depth ≤ length scopes
seen_within [] q s e = cc
seen_within (scope ∷ outer) q s e = by (seen_within outer q s) (lookup (bytes_eq q) scope) e
  where
    by : (seen_in outer q ≡ Some s → s.depth ≤ length outer) → (found : Option Meaning) → option_or (option_map (λ m. record { depth = length (scope ∷ outer); meaning = m }) found) (seen_in outer q) ≡ Some s → s.depth ≤ length (scope ∷ outer)
    by more None e = omega (arith, more e)
    by more (Some m) e =
        let same : s.depth ≡ length (scope ∷ outer) = cc in
        omega arith

among_is : (q : List ℕ) (scope : Scope) → list_any (bytes_eq q) (map (λ e. e.0) scope) ≡ is_some (lookup (bytes_eq q) scope)
among_is q [] = refl
among_is q (e ∷ es) = by (among_is q es) (bytes_eq q e.0)
  where
    by : list_any (bytes_eq q) (map (λ e. e.0) es) ≡ is_some (lookup (bytes_eq q) es) → (b : Bool) → (b || list_any (bytes_eq q) (map (λ e. e.0) es)) ≡ is_some (cond b (Some e.1) (lookup (bytes_eq q) es))
    by more true = refl
    by more false = more

-- whether a name was declared in as many scopes
abbrev pub is_at : ℕ → Option Seen → Bool
is_at depth None = false
is_at depth (Some s) = s.depth == depth

not_here : (scopes : Scopes) (q : List ℕ) (o : Option Seen) → seen_in scopes q ≡ o → is_at (suc (length scopes)) o ≡ false
not_here scopes q None e = refl
not_here scopes q (Some s) e = by (s.depth == suc (length scopes)) refl
  where
    by : (b : Bool) → (s.depth == suc (length scopes)) ≡ b → b ≡ false
    by true h = absurd (omega (arith, seen_within scopes q s e, eqb-true s.depth (suc (length scopes)) h))
    by false h = refl

pub here : (scopes : Scopes) (q : List ℕ) → is_among q (names_in scopes) ≡ is_at (length scopes) (seen_in scopes q)
here [] q = refl
here (scope ∷ outer) q = among_is q scope ∙ by (lookup (bytes_eq q) scope)
  where
    by : (found : Option Meaning) → is_some found ≡ is_at (length (scope ∷ outer)) (option_or (option_map (λ m. record { depth = length (scope ∷ outer); meaning = m }) found) (seen_in outer q))
    by None = sym (not_here outer q (seen_in outer q) refl)
    by (Some m) = sym (eq-eqb (length (scope ∷ outer)) (length (scope ∷ outer)) refl)

-- A name more.

in_more : (q name : List ℕ) (m : Meaning) (scope : Scope) → lookup (bytes_eq q) (scope ++ (name, m) ∷ []) ≡ option_or (lookup (bytes_eq q) scope) (cond (bytes_eq q name) (Some m) None)
in_more q name m [] = refl
in_more q name m (e ∷ es) = by (in_more q name m es) (bytes_eq q e.0)
  where
    by : lookup (bytes_eq q) (es ++ (name, m) ∷ []) ≡ option_or (lookup (bytes_eq q) es) (cond (bytes_eq q name) (Some m) None) → (b : Bool) → cond b (Some e.1) (lookup (bytes_eq q) (es ++ (name, m) ∷ [])) ≡ option_or (cond b (Some e.1) (lookup (bytes_eq q) es)) (cond (bytes_eq q name) (Some m) None)
    by more true = refl
    by more false = more

pub turned : (a b : List ℕ) → bytes_eq a b ≡ bytes_eq b a
turned a b = by (bytes_eq a b) (bytes_eq b a) refl refl
  where
    by : (x y : Bool) → bytes_eq a b ≡ x → bytes_eq b a ≡ y → x ≡ y
    by true true e f = refl
    by true false e f = sym ((bytes_eq-Decides b a).1 (sym ((bytes_eq-Decides a b).0 e))) ∙ f
    by false true e f = sym e ∙ (bytes_eq-Decides a b).1 (sym ((bytes_eq-Decides b a).0 f))
    by false false e f = refl

-- other names stand for what they stood for
pub others : (scopes : Scopes) (name q : List ℕ) (m : Meaning) → bytes_eq name q ≡ false → seen_in (with_meaning name m scopes) q ≡ seen_in scopes q
others [] name q m e = refl
others (scope ∷ outer) name q m e =
    ap (λ (found : Option Meaning). option_or (option_map (λ m. record { depth = length (scope ∷ outer); meaning = m }) found) (seen_in outer q))
    (in_more q name m scope ∙ ap (λ b. option_or (lookup (bytes_eq q) scope) (cond b (Some m) None)) (turned q name ∙ e) ∙ by (lookup (bytes_eq q) scope))
  where
    by : (o : Option Meaning) → option_or o None ≡ o
    by None = refl
    by (Some m) = refl

some_scope : (n : ℕ) → nat_lt 0 (suc n) ≡ true
some_scope n = lt-ltb 0 (suc n) (omega arith)

not_false : (b : Bool) → not b ≡ false → b ≡ true
not_false true e = refl
not_false false e = cc

not_true : (b : Bool) → not b ≡ true → b ≡ false
not_true true e = cc
not_true false e = refl

-- a name that the innermost scope has stands there for what it stood for
again : (scopes : Scopes) (name q : List ℕ) (m : Meaning) → is_new scopes name ≡ false → seen_in (with_meaning name m scopes) q ≡ seen_in scopes q
again [] name q m old = refl
again (scope ∷ outer) name q m old = by (bytes_eq name q) refl
  where
    found : (o : Option Meaning) (w : Option Meaning) → is_some o ≡ true → option_or o w ≡ o
    found None w h = absurd (true≢false (sym h))
    found (Some x) w h = refl

    by : (b : Bool) → bytes_eq name q ≡ b → seen_in (with_meaning name m (scope ∷ outer)) q ≡ seen_in (scope ∷ outer) q
    by false e = others (scope ∷ outer) name q m e
    by true e =
        ap (λ (found : Option Meaning). option_or (option_map (λ m. record { depth = length (scope ∷ outer); meaning = m }) found) (seen_in outer q))
        (in_more q name m scope
        ∙ found (lookup (bytes_eq q) scope) (cond (bytes_eq q name) (Some m) None)
        (ap (λ x. is_some (lookup (bytes_eq x) scope)) (sym ((bytes_eq-Decides name q).0 e)) ∙ sym (among_is name scope) ∙ not_false (is_among name (names_in (scope ∷ outer))) (ap (λ b. b && not (is_among name (names_in (scope ∷ outer)))) (sym (some_scope (length outer))) ∙ old)))

-- a new name stands for what it was declared as
fresh : (scopes : Scopes) (name q : List ℕ) (m : Meaning) → is_new scopes name ≡ true →
    seen_in (with_meaning name m scopes) q ≡ cond (bytes_eq name q) (Some (record { depth = length scopes; meaning = m })) (seen_in scopes q)
fresh [] name q m new = cc
fresh (scope ∷ outer) name q m new = by (bytes_eq name q) refl
  where
    found : (o : Option Meaning) (w : Option Meaning) → is_some o ≡ false → option_or o w ≡ w
    found None w h = refl
    found (Some x) w h = absurd (true≢false h)

    by : (b : Bool) → bytes_eq name q ≡ b → seen_in (with_meaning name m (scope ∷ outer)) q ≡ cond b (Some (record { depth = length (scope ∷ outer); meaning = m })) (seen_in (scope ∷ outer) q)
    by false e = others (scope ∷ outer) name q m e
    by true e =
        ap (λ (found : Option Meaning). option_or (option_map (λ m. record { depth = length (scope ∷ outer); meaning = m }) found) (seen_in outer q))
        (in_more q name m scope
        ∙ found (lookup (bytes_eq q) scope) (cond (bytes_eq q name) (Some m) None)
        (ap (λ x. is_some (lookup (bytes_eq x) scope)) (sym ((bytes_eq-Decides name q).0 e)) ∙ sym (among_is name scope) ∙ not_true (is_among name (names_in (scope ∷ outer))) (ap (λ b. b && not (is_among name (names_in (scope ∷ outer)))) (sym (some_scope (length outer))) ∙ new))
        ∙ ap (λ b. cond b (Some m) None) (turned q name ∙ e))

-- What is kept.

pub kept_entered : (cs all : List Change) (visible : List ℕ → Option Seen) (depth : ℕ) → IsKept cs visible depth → all ≡ cs ++ Entered ∷ [] → IsKept all visible (depth + 1)
kept_entered cs all visible depth kept is =
    subst (λ xs. IsKept xs visible (depth + 1)) (sym is)
    (record {
      deep = ap (λ n. n + 1) kept.deep ∙ omega arith ∙ sym (ap length (after_last [] cs Entered));
      found = λ q. kept.found q ∙ sym (ap (λ s. seen_in s q) (after_last [] cs Entered));
      undone = keep_last [] cs Entered kept.undone tt;
    })

pub kept_again : (cs all : List Change) (visible : List ℕ → Option Seen) (depth : ℕ) (name : List ℕ) (m : Meaning) (before : Option Seen) → IsKept cs visible depth
    → all ≡ cs ++ Declared name m before ∷ [] → before ≡ visible name → is_new (after_all [] cs) name ≡ false → IsKept all visible depth
kept_again cs all visible depth name m before kept is was old =
    subst (λ xs. IsKept xs visible depth) (sym is)
    (record {
      deep = kept.deep ∙ sym (same_depth (after_all [] cs) name m) ∙ sym (ap length (after_last [] cs (Declared name m before)));
      found = λ q.
          kept.found q ∙ sym (again (after_all [] cs) name q m old) ∙ sym (ap (λ s. seen_in s q) (after_last [] cs (Declared name m before)));
      undone = keep_last [] cs (Declared name m before) kept.undone (was ∙ kept.found name);
    })

pub kept_fresh : (cs all : List Change) (visible now : List ℕ → Option Seen) (depth : ℕ) (name : List ℕ) (m : Meaning) (before : Option Seen) → IsKept cs visible depth
    → all ≡ cs ++ Declared name m before ∷ [] → before ≡ visible name → is_new (after_all [] cs) name ≡ true
    → ((q : List ℕ) → now q ≡ cond (bytes_eq name q) (Some (record { depth = depth; meaning = m })) (visible q)) → IsKept all now depth
kept_fresh cs all visible now depth name m before kept is was new put =
    subst (λ xs. IsKept xs now depth) (sym is)
    (record {
      deep = kept.deep ∙ sym (same_depth (after_all [] cs) name m) ∙ sym (ap length (after_last [] cs (Declared name m before)));
      found = λ q.
          put q
          ∙ ap (λ n. cond (bytes_eq name q) (Some (record { depth = n; meaning = m })) (visible q)) kept.deep
          ∙ ap (λ o. cond (bytes_eq name q) (Some (record { depth = length (after_all [] cs); meaning = m })) o) (kept.found q)
          ∙ sym (fresh (after_all [] cs) name q m new)
          ∙ sym (ap (λ s. seen_in s q) (after_last [] cs (Declared name m before)));
      undone = keep_last [] cs (Declared name m before) kept.undone (was ∙ kept.found name);
    })

pub left_entered : (cs all : List Change) (visible : List ℕ → Option Seen) (depth : ℕ) → IsKept all visible depth → all ≡ cs ++ Entered ∷ [] → (0 < depth) × IsKept cs visible (depth - 1)
left_entered cs all visible depth kept is =
    let whole = subst (λ xs. IsKept xs visible depth) is kept in
    let deep : depth ≡ length (after_all [] cs) + 1 = whole.deep ∙ ap length (after_last [] cs Entered) ∙ omega arith in (
      omega arith,
      record {
        deep = omega arith;
        found = λ q. whole.found q ∙ ap (λ s. seen_in s q) (after_last [] cs Entered);
        undone = (kept_last [] cs Entered whole.undone).0;
      },
    )

pub left_declared : (cs all : List Change) (visible now : List ℕ → Option Seen) (depth : ℕ) (name : List ℕ) (m : Meaning) (before : Option Seen) → IsKept all visible depth
    → all ≡ cs ++ Declared name m before ∷ [] → ((q : List ℕ) → now q ≡ cond (bytes_eq name q) before (visible q)) → IsKept cs now depth
left_declared cs all visible now depth name m before kept is put =
    let whole = subst (λ xs. IsKept xs visible depth) is kept in
    let last = kept_last [] cs (Declared name m before) whole.undone in
    record {
      deep = whole.deep ∙ ap length (after_last [] cs (Declared name m before)) ∙ same_depth (after_all [] cs) name m;
      found = λ q. put q ∙ by q (bytes_eq name q) refl last.1 (whole.found q);
      undone = last.0;
    }
  where
    by : (q : List ℕ) (b : Bool) → bytes_eq name q ≡ b → before ≡ seen_in (after_all [] cs) name → visible q ≡ seen_in (after_all [] (cs ++ Declared name m before ∷ [])) q
        → cond b before (visible q) ≡ seen_in (after_all [] cs) q
    by q true e was at = was ∙ ap (seen_in (after_all [] cs)) ((bytes_eq-Decides name q).0 e)
    by q false e was at = at ∙ ap (λ s. seen_in s q) (after_last [] cs (Declared name m before)) ∙ others (after_all [] cs) name q m e

some_seen : (scope : Scope) (outer : Scopes) (q : List ℕ) → is_some (lookup (bytes_eq q) scope) ≡ true → is_some (seen_in (scope ∷ outer) q) ≡ true
some_seen scope outer q h = by (lookup (bytes_eq q) scope) h
  where
    by : (found : Option Meaning) → is_some found ≡ true → is_some (option_or (option_map (λ m. record { depth = length (scope ∷ outer); meaning = m }) found) (seen_in outer q)) ≡ true
    by None h = absurd (true≢false (sym h))
    by (Some m) h = refl

some_more : (name : List ℕ) (m : Meaning) (scope : Scope) → is_some (lookup (bytes_eq name) (scope ++ (name, m) ∷ [])) ≡ true
some_more name m scope =
    ap is_some (in_more name name m scope ∙ ap (λ b. option_or (lookup (bytes_eq name) scope) (cond b (Some m) None)) ((bytes_eq-Decides name name).1 refl))
    ∙ by (lookup (bytes_eq name) scope)
  where
    by : (o : Option Meaning) → is_some (option_or o (Some m)) ≡ true
    by None = refl
    by (Some x) = refl

-- a declared name that stood for something before is found
pub found_declared : (cs all : List Change) (visible : List ℕ → Option Seen) (depth : ℕ) (name : List ℕ) (m : Meaning) (before : Option Seen) → IsKept all visible depth
    → all ≡ cs ++ Declared name m before ∷ [] → OnSome before (IsSome (visible name))
found_declared cs all visible depth name m before kept is =
    let whole = subst (λ xs. IsKept xs visible depth) is kept in
    let last = kept_last [] cs (Declared name m before) whole.undone in
    by before (after_all [] cs) last.1 (whole.found name ∙ ap (λ s. seen_in s name) (after_last [] cs (Declared name m before)))
  where
    by : (before : Option Seen) (scopes : Scopes) → before ≡ seen_in scopes name → visible name ≡ seen_in (with_meaning name m scopes) name → OnSome before (IsSome (visible name))
    by None scopes was at = tt
    by (Some s) [] was at = cc
    by (Some s) (scope ∷ outer) was at = ap is_some at ∙ some_seen (scope ++ (name, m) ∷ []) outer name (some_more name m scope)

-- What is known of the names, by what is found.

module _ (cs : List Change) (visible : List ℕ → Option Seen) (depth : ℕ) (scopes : Scopes) (name : List ℕ) (o : Option Seen) where
  pub meaning_kept : IsKept cs visible depth → after_all [] cs ≡ scopes → visible name ≡ o → option_map (λ (s : Seen). s.meaning) o ≡ meaning_of scopes name
  meaning_kept kept is e =
      ap (option_map (λ (s : Seen). s.meaning)) (sym e ∙ kept.found name ∙ ap (λ s. seen_in s name) is) ∙ meaning_seen scopes name

  pub here_kept : IsKept cs visible depth → after_all [] cs ≡ scopes → visible name ≡ o → is_at depth o ≡ is_among name (names_in scopes)
  here_kept kept is e =
      ap (λ n. is_at n o) (kept.deep ∙ ap length is)
      ∙ ap (is_at (length scopes)) (sym e ∙ kept.found name ∙ ap (λ s. seen_in s name) is)
      ∙ sym (here scopes name)

-- The scopes outside stay.

pub left_inner : (cs all : List Change) → all ≡ cs ++ Entered ∷ [] → leave (after_all [] all) ≡ after_all [] cs
left_inner cs all is = ap (λ xs. leave (after_all [] xs)) is ∙ ap leave (after_last [] cs Entered)

pub declared_last : (cs all : List Change) (scopes : Scopes) (name : List ℕ) (m : Meaning) (before : Option Seen) → all ≡ cs ++ Declared name m before ∷ [] → after_all [] cs ≡ scopes → after_all [] all ≡ with_meaning name m scopes
declared_last cs all scopes name m before is view = ap (after_all []) is ∙ after_last [] cs (Declared name m before) ∙ ap (with_meaning name m) view

same_outer : (scopes : Scopes) (name : List ℕ) (m : Meaning) → leave (with_meaning name m scopes) ≡ leave scopes
same_outer [] name m = refl
same_outer (scope ∷ outer) name m = refl

pub left_same : (cs all : List Change) (name : List ℕ) (m : Meaning) (before : Option Seen) → all ≡ cs ++ Declared name m before ∷ [] → leave (after_all [] all) ≡ leave (after_all [] cs)
left_same cs all name m before is =
    ap (λ xs. leave (after_all [] xs)) is ∙ ap leave (after_last [] cs (Declared name m before)) ∙ same_outer (after_all [] cs) name m
