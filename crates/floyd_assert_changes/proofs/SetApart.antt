-- Existentials that are renamed apart from names, as the program does it.
use Rattle.std.proofs.Common.{◌≡◌, ℕ, ◌+◌, ◌<◌, Bool, true, false, cond, ◌||◌, List, [], ◌∷◌, ◌++◌, Some, None, refl, sym, ◌∙◌, ap, append_assoc, append-nil, subst, length, drop, get_or}
use Rattle.std.proofs.lemmas.List.{drop_more}
use Rattle.std.specs.Prelude.{if◌then◌else◌, bytes_eq}
use Rattle.std.specs.Map.{lookup}
use Rattle.std.proofs.lemmas.List.Folds.{list_any-append}
use Rattle.std.proofs.lemmas.Slice.Eq.{bytes_eq-Decides}
use Rattle.floyd_text.specs.Gives.{RuleGives}
use Rattle.floyd_text.specs.declared.refusal.RuleStop.{RuleStop}
use Rattle.floyd_tree.specs.declared.stop.MakeStop.{MakeStop}
use Rattle.floyd_tree.specs.Formulas.{PlainFormula, PlainFormulas, Says, NoFormula, MoreFormulas, formulas, formulas_mention}
use Rattle.floyd_tree.specs.Plain.{Plain, Plains, At, Done, More, mentions, mentions_in, plains}
use Rattle.floyd_tree_sorts.specs.declared.connectives.FormulaHead.TheVariants.{Forall, Exists}
use Rattle.floyd_tree_sorts.specs.declared.heads.Head.TheVariants.{Variable}
use Rattle.floyd_tree_sorts.specs.declared.sorts.Sort.{Sort}
use Rattle.floyd_truth.specs.Capture.{Called, Changes, bound_in_some, most_marks, renamed, unmarked_from}
use Rattle.floyd_truth.specs.Replace.{AllSortsAgree, FormulaSortsAgree, FormulasSortsAgree, HasSortOf, SortsAgree}
use Rattle.floyd_assert_trees.specs.declared.assertion.Assertion.{Assertion}
use Rattle.floyd_assert_trees.specs.declared.binder.Binder.{Binder}
use Rattle.std.specs.Prelude.{Result}
use Rattle.floyd_assert_changes.specs.Apart.{apart, apart_existentials, apart_from, apart_name, is_taken, set_apart}
use Rattle.floyd_assert_changes.specs.ApartClauses.{named_from, next_name, whole_names}
use Rattle.floyd_assert_changes.specs.BodyClauses.{binders_names}
use Rattle.floyd_assert_changes.specs.Changed.{assertion_fits, below_existentials, body_after, body_binds, body_mentions, has_name, terms_in}
use Rattle.floyd_assert_changes.specs.Substituted.{within_limits}
use Rattle.floyd_assert_changes.specs.NamesClauses.{Names, formulas_names, has, term_names, terms_names, with_name}
use Rattle.floyd_assert_changes.proofs.Existentials.{has_binders}
use Rattle.floyd_assert_changes.proofs.Marking.{same_marks}
use Rattle.floyd_assert_changes.proofs.Naming.{has_formulas, has_term, has_terms, has_with}
use Rattle.floyd_assert_changes.proofs.Stopping.{Tells}

-- ---- tests

or_true : (b : Bool) → (b || true) ≡ true
or_true true = refl
or_true false = refl

or_none : (b : Bool) → (b || false) ≡ b
or_none true = refl
or_none false = refl

-- where what goes is to be avoided, the others are all
but_one : (a m d u e v : Bool) → (e ≡ true → a ≡ true) → (a || (m || (d || (u || (e || v))))) ≡ (a || (m || (d || (u || v))))
but_one true m d u e v h = refl
but_one false true d u e v h = refl
but_one false false true u e v h = refl
but_one false false false true e v h = refl
but_one false false false false true v h = absurd (let no : false ≡ true = h refl in cc)
but_one false false false false false v h = refl

-- one name more, in the place of one that is to be avoided or the same
instead : (a m d u e v w : Bool) → (e ≡ true → (a || w) ≡ true) → ((a || (m || (d || (u || (e || v))))) || w) ≡ (a || (m || (d || ((u || (w || false)) || v))))
instead true m d u e v w h = refl
instead false true d u e v w h = refl
instead false false true u e v w h = refl
instead false false false true e v w h = refl
instead false false false false e v true h = or_true (e || v)
instead false false false false true v false h = absurd (let no : false ≡ true = h refl in cc)
instead false false false false false v false h = or_none v

gather : (n f b m e : Bool) → (((n || (f || b)) || m) || e) ≡ (n || ((f || m) || (b || e)))
gather true f b m e = refl
gather false true b m e = refl
gather false false true true e = refl
gather false false true false e = refl
gather false false false m e = refl

-- ---- names

named_so : (y : List ℕ) (done more : List Binder) → has_name y (done ++ more) ≡ (has_name y done || has_name y more)
named_so y done more = list_any-append (λ (b : Binder). bytes_eq y b.name) done more

-- the names to be avoided and those of the assertion are those that are taken
pub whole_is : (avoid : Names) (a : Assertion) (y : List ℕ) → has (whole_names a avoid) y ≡ is_taken (has avoid) a a.existentials y
whole_is avoid a y =
    has_binders y a.existentials (terms_names (plains (terms_in a)) (formulas_names (formulas a.props) avoid))
    ∙ ap (λ b. b || has_name y a.existentials) (has_terms y (plains (terms_in a)) (formulas_names (formulas a.props) avoid))
    ∙ ap (λ b. (b || mentions_in y (plains (terms_in a))) || has_name y a.existentials) (has_formulas y (formulas a.props) avoid)
    ∙ gather (has avoid y) (formulas_mention y (formulas a.props)) (bound_in_some y (formulas a.props)) (mentions_in y (plains (terms_in a))) (has_name y a.existentials)

module _ (avoid : Names) (a : Assertion) where
  abbrev Taken : List Binder → Names → Type 0
  Taken others names = (y : List ℕ) → has names y ≡ is_taken (has avoid) a others y

  abbrev named : Names → Binder → Binder
  named names b = record { name = next_name avoid names b.name; sort = b.sort }

  avoided : (y : List ℕ) (b : Binder) → has avoid b.name ≡ true → bytes_eq y b.name ≡ true → has avoid y ≡ true
  avoided y b h e = ap (has avoid) ((bytes_eq-Decides y b.name).0 e) ∙ h

  -- the others are taken as all are, where the name goes
  others_taken : (done more : List Binder) (b : Binder) (names : Names) → has avoid b.name ≡ true → Taken (done ++ b ∷ more) names → Taken (done ++ more) names
  others_taken done more b names h all y =
      all y
      ∙ ap (λ t. has avoid y || (body_mentions a y || (body_binds a y || t))) (named_so y done (b ∷ more))
      ∙ but_one (has avoid y) (body_mentions a y) (body_binds a y) (has_name y done) (bytes_eq y b.name) (has_name y more) (avoided y b h)
      ∙ sym (ap (λ t. has avoid y || (body_mentions a y || (body_binds a y || t))) (named_so y done more))

  -- the next name is that of the definition
  name_is : (done more : List Binder) (b : Binder) (names : Names) → Taken (done ++ b ∷ more) names → next_name avoid names b.name ≡ apart_name (has avoid) a (done ++ more) b.name
  name_is done more b names all = by (has avoid b.name) refl
    where
      by : (t : Bool) → has avoid b.name ≡ t → (if t then unmarked_from (has names) b.name most_marks 1 else b.name) ≡ (if t then unmarked_from (is_taken (has avoid) a (done ++ more)) b.name most_marks 1 else b.name)
      by true h = same_marks (has names) (is_taken (has avoid) a (done ++ more)) b.name most_marks 1 (others_taken done more b names h all)
      by false h = refl

  -- a name goes only where it is to be avoided, and else stays
  goes : (y : List ℕ) (b : Binder) (names : Names) → bytes_eq y b.name ≡ true → (has avoid y || bytes_eq y (next_name avoid names b.name)) ≡ true
  goes y b names e = by (has avoid b.name) refl
    where
      by : (t : Bool) → has avoid b.name ≡ t → (has avoid y || bytes_eq y (if t then unmarked_from (has names) b.name most_marks 1 else b.name)) ≡ true
      by true h = ap (λ s. s || bytes_eq y (unmarked_from (has names) b.name most_marks 1)) (avoided y b h e)
      by false h = ap (λ s. has avoid y || s) e ∙ or_true (has avoid y)

  -- with the next name they are taken again
  next_taken : (done more : List Binder) (b : Binder) (names : Names) → Taken (done ++ b ∷ more) names → Taken ((done ++ named names b ∷ []) ++ more) (with_name (next_name avoid names b.name) names)
  next_taken done more b names all y =
      let n = next_name avoid names b.name in
      has_with names y n
      ∙ ap (λ t. t || bytes_eq y n) (all y ∙ ap (λ t. has avoid y || (body_mentions a y || (body_binds a y || t))) (named_so y done (b ∷ more)))
      ∙ instead (has avoid y) (body_mentions a y) (body_binds a y) (has_name y done) (bytes_eq y b.name) (has_name y more) (bytes_eq y n) (goes y b names)
      ∙ sym (ap (λ t. has avoid y || (body_mentions a y || (body_binds a y || t)))
      (named_so y (done ++ named names b ∷ []) more ∙ ap (λ t. t || has_name y more) (named_so y done (named names b ∷ []))))

  pub apart_is : (done bs : List Binder) (names : Names) → Taken (done ++ bs) names → apart_from (has avoid) a done bs ≡ done ++ named_from avoid names bs
  apart_is done [] names all = sym (append-nil done)
  apart_is done (b ∷ more) names all =
      ap (λ x. apart_from (has avoid) a (done ++ record { name = x; sort = b.sort } ∷ []) more) (sym (name_is done more b names all))
      ∙ apart_is (done ++ named names b ∷ []) more (with_name (next_name avoid names b.name) names) (next_taken done more b names all)
      ∙ append_assoc done (named names b ∷ []) (named_from avoid (with_name (next_name avoid names b.name) names) more)

  pub existentials_are : named_from avoid (whole_names a avoid) a.existentials ≡ apart_existentials (has avoid) a
  existentials_are = sym (apart_is [] a.existentials (whole_names a avoid) (whole_is avoid a))

-- ---- tests that agree set apart alike

module _ (f g : List ℕ → Bool) (same : (y : List ℕ) → f y ≡ g y) (a : Assertion) where
  same_name : (others : List Binder) (x : List ℕ) → apart_name f a others x ≡ apart_name g a others x
  same_name others x =
      ap (λ b. if b then unmarked_from (is_taken f a others) x most_marks 1 else x) (same x)
      ∙ ap (λ n. if g x then n else x)
      (same_marks (is_taken f a others) (is_taken g a others) x most_marks 1 (λ y. ap (λ b. b || (body_mentions a y || (body_binds a y || has_name y others))) (same y)))

  same_from : (done bs : List Binder) → apart_from f a done bs ≡ apart_from g a done bs
  same_from done [] = refl
  same_from done (b ∷ more) =
      ap (λ x. apart_from f a (done ++ record { name = x; sort = b.sort } ∷ []) more) (same_name (done ++ more) b.name)
      ∙ same_from (done ++ record { name = apart_name g a (done ++ more) b.name; sort = b.sort } ∷ []) more

  pub same_apart : set_apart f a ≡ set_apart g a
  same_apart =
      ap (λ new. within_limits assertion_fits (body_after (below_existentials [] a.existentials new) a new)) (same_from [] a.existentials)

-- what is answered of one test is so of another
answered : (r : Result Assertion RuleStop) (f g : List ℕ → Bool) (a : Assertion) → ((y : List ℕ) → f y ≡ g y) → RuleGives (λ (made : Assertion). made) r (set_apart f a) → RuleGives (λ (made : Assertion). made) r (set_apart g a)
answered r f g a same told = subst (RuleGives (λ (made : Assertion). made) r) (same_apart f g same a) told

pub of_variables : (r : Result Assertion RuleStop) (avoid : Names) (bs : List Binder) (a : Assertion) → avoid ≡ binders_names bs [] → RuleGives (λ (made : Assertion). made) r (set_apart (has avoid) a) → RuleGives (λ (made : Assertion). made) r (set_apart (λ x. has_name x bs) a)
of_variables r avoid bs a e told = answered r (has avoid) (λ x. has_name x bs) a (λ y. ap (λ n. has n y) e ∙ has_binders y bs []) told

pub of_term : (r : Result Assertion RuleStop) (avoid : Names) (t : Plain) (a : Assertion) → avoid ≡ term_names t [] → RuleGives (λ (made : Assertion). made) r (set_apart (has avoid) a) → RuleGives (λ (made : Assertion). made) r (set_apart (λ x. mentions x t) a)
of_term r avoid t a e told = answered r (has avoid) (λ x. mentions x t) a (λ y. ap (λ n. has n y) e ∙ has_term y t []) told

-- ---- names put no terms

abbrev pub AreNames : Changes → Type 0
AreNames changes = (v : List ℕ) (s : Sort) → HasSortOf (lookup (bytes_eq v) changes) s

called : (changes : Changes) (x y : List ℕ) → AreNames changes → AreNames ((x, Called y) ∷ changes)
called changes x y h v s = by (bytes_eq v x)
  where
    by : (t : Bool) → HasSortOf (cond t (Some (Called y)) (lookup (bytes_eq v) changes)) s
    by true = tt
    by false = h v s

below_names : (old new : List Binder) (changes : Changes) → AreNames changes → AreNames (below_existentials changes old new)
below_names [] new changes h = h
below_names (b ∷ old) [] changes h = h
below_names (b ∷ old) (c ∷ new) changes h = below_names old new ((b.name, Called c.name) ∷ changes) (called changes b.name c.name h)

pub are_names : (old new : List Binder) → AreNames (below_existentials [] old new)
are_names old new = below_names old new [] (λ v s. tt)

mutual
  term_agrees : (changes : Changes) → AreNames changes → (t : Plain) → SortsAgree changes t
  term_agrees changes h (At (Variable x s) ts) = (h x s, terms_agree changes h ts)
  term_agrees changes h (At head ts) = (tt, terms_agree changes h ts)

  pub terms_agree : (changes : Changes) → AreNames changes → (ts : Plains) → AllSortsAgree changes ts
  terms_agree changes h Done = tt
  terms_agree changes h (More t ts) = (term_agrees changes h t, terms_agree changes h ts)

mutual
  formula_agrees : (changes : Changes) → AreNames changes → (f : PlainFormula) → FormulaSortsAgree changes f
  formula_agrees changes h (Says (Forall x s) ts fs) = (terms_agree changes h ts, formulas_agree ((x, Called (renamed changes fs x)) ∷ changes) (called changes x (renamed changes fs x) h) fs)
  formula_agrees changes h (Says (Exists x s) ts fs) = (terms_agree changes h ts, formulas_agree ((x, Called (renamed changes fs x)) ∷ changes) (called changes x (renamed changes fs x) h) fs)
  formula_agrees changes h (Says head ts fs) = (terms_agree changes h ts, formulas_agree changes h fs)

  pub formulas_agree : (changes : Changes) → AreNames changes → (fs : PlainFormulas) → FormulasSortsAgree changes fs
  formulas_agree changes h NoFormula = tt
  formulas_agree changes h (MoreFormulas f fs) = (formula_agrees changes h f, formulas_agree changes h fs)

-- ---- what the program tells

-- one existential more has its name
pub next_existential : (avoid names more : Names) (bs done : List Binder) (i : ℕ) (b : Binder) (x : List ℕ) (s : Sort) → i < length bs → b ≡ get_or bs i b → x ≡ next_name avoid names b.name → more ≡ with_name x names → s ≡ b.sort →
    (done ++ record { name = x; sort = s } ∷ []) ++ named_from avoid more (drop (i + 1) bs) ≡ done ++ named_from avoid names (drop i bs)
next_existential avoid names more bs done i b x s within is so after sorted =
    let c : Binder = record { name = x; sort = s } in
    let here : drop i bs ≡ b ∷ drop (i + 1) bs = drop_more bs i b within ∙ ap (λ y. y ∷ drop (i + 1) bs) (sym is) in
    append_assoc done (c ∷ []) (named_from avoid more (drop (i + 1) bs))
    ∙ ap (λ ns. done ++ c ∷ named_from avoid ns (drop (i + 1) bs)) after
    ∙ ap (λ n. done ++ record { name = n; sort = s } ∷ named_from avoid (with_name n names) (drop (i + 1) bs)) so
    ∙ ap (λ r. done ++ record { name = next_name avoid names b.name; sort = r } ∷ named_from avoid (with_name (next_name avoid names b.name) names) (drop (i + 1) bs)) sorted
    ∙ sym (ap (λ cs. done ++ named_from avoid names cs) here)

pub told_apart : (r : Result Assertion MakeStop) (avoid : Names) (a : Assertion) (inner : Changes) (new : List Binder) → inner ≡ below_existentials [] a.existentials new → new ≡ apart_existentials (has avoid) a →
    Tells r (body_after inner a new) (assertion_fits (body_after inner a new)) → Tells r (apart (has avoid) a) (assertion_fits (apart (has avoid) a))
told_apart r avoid a inner new e n told =
    subst (λ bs. Tells r (body_after (below_existentials [] a.existentials bs) a bs) (assertion_fits (body_after (below_existentials [] a.existentials bs) a bs))) n
    (subst (λ c. Tells r (body_after c a new) (assertion_fits (body_after c a new))) e told)
