-- The names and the changes of existentials.
use Rattle.std.proofs.Common.{◌≡◌, ℕ, zero, suc, ◌+◌, ◌-◌, ◌<◌, Bool, true, false, not, ◌&&◌, ◌||◌, List, [], ◌∷◌, ◌++◌, length, get_or, drop, take, map, Some, refl, sym, ◌∙◌, ap, append_assoc, subst, arith}
use Rattle.std.specs.Prelude.{if◌then◌else◌, bytes_eq, slice_get, IfOk, Result}
use Rattle.std.specs.List.{flat_map, list_any, list_all}
use Rattle.std.proofs.Math.Bool.{or_assoc}
use Rattle.std.proofs.lemmas.List.{map-append}
use Rattle.std.proofs.lemmas.List.Folds.{list_any-append}
use Rattle.floyd_tree.specs.declared.stop.MakeStop.{MakeStop}
use Rattle.floyd_tree.specs.Formulas.{PlainFormula, formulas, formulas_mention}
use Rattle.floyd_tree.specs.Made.{fits}
use Rattle.floyd_tree.specs.MadeFormulas.{formula_fits}
use Rattle.floyd_tree.specs.Plain.{Plain, mentions_in, plains}
use Rattle.floyd_truth.specs.Capture.{Called, Changes, bound_in_some, in_new_terms, most_marks, unmarked_from}
use Rattle.floyd_truth.specs.Replace.{AllSortsAgree, SortsAgree, replaced, replaced_formula}
use Rattle.floyd_tree_sorts.specs.declared.sorts.Sort.{Sort}
use Rattle.floyd_assert_trees.specs.declared.assertion.Assertion.{Assertion}
use Rattle.floyd_assert_trees.specs.declared.assertion.Local.{Local}
use Rattle.floyd_assert_trees.specs.declared.binder.Binder.{Binder}
use Rattle.floyd_assert_changes.specs.BodyClauses.{binders_names, body_capturing}
use Rattle.floyd_assert_changes.specs.Changed.{assertion_after, assertion_fits, below_existentials, body_after, body_binds, body_mentions, existential_name, has_name, inside, local_after, local_terms, new_existentials, part_after, part_terms, renamed_from, terms_in}
use Rattle.floyd_assert_changes.specs.ChangesClauses.{become_of, changes_of}
use Rattle.floyd_assert_changes.specs.declared.changing.Becomes.TheVariants as b
use Rattle.floyd_assert_changes.specs.declared.changing.Change.{Change}
use Rattle.floyd_assert_changes.specs.FittingClauses.{fit_after}
use Rattle.floyd_assert_changes.specs.NamesClauses.{Names, formulas_names, has, new_term_names, terms_names, with_name}
use Rattle.floyd_assert_changes.proofs.Marking.{quiet, same_marks}
use Rattle.floyd_assert_changes.proofs.Naming.{has_formulas, has_new_terms, has_terms, has_with}
use Rattle.floyd_assert_changes.proofs.Parting.{fit_append, item_there, left_at, parts_terms_after, rest_taken}
use Rattle.floyd_assert_changes.proofs.Stopping.{Tells}

or_false : (b : Bool) → b ≡ (b || false)
or_false true = refl
or_false false = refl

pub has_binders : (y : List ℕ) (bs : List Binder) (names : Names) → has (binders_names bs names) y ≡ (has names y || has_name y bs)
has_binders y [] names = or_false (has names y)
has_binders y (b ∷ bs) names =
    has_binders y bs (with_name b.name names)
    ∙ ap (λ a. a || has_name y bs) (has_with names y b.name)
    ∙ or_assoc (has names y) (bytes_eq y b.name) (has_name y bs)

-- the name is free in a new term, or free or bound in the assertion, or another existential has it
abbrev taken : Changes → Assertion → List Binder → List ℕ → Bool
taken ch a others name = in_new_terms ch name || (body_mentions a name || (body_binds a name || has_name name others))

abbrev covers : Assertion → List ℕ → Bool
covers a y = body_mentions a y && not (has_name y a.existentials)

pub kept_existential : (ch : Changes) (a : Assertion) (others : List Binder) (x : List ℕ) → list_any (body_capturing ch a x) ch ≡ false → x ≡ existential_name ch a others x
kept_existential ch a others x h = sym (ap (λ b. if b then unmarked_from (taken ch a others) x most_marks 1 else x) h)

pub quiet_existential : (ch : Changes) (a : Assertion) (others : List Binder) (x : List ℕ) → in_new_terms ch x ≡ false → x ≡ existential_name ch a others x
quiet_existential ch a others x h = kept_existential ch a others x (quiet ch (covers a) x h)

shuffle : (n f b m d e : Bool) → (((((n || (f || b)) || m) || d) || e)) ≡ (n || ((f || m) || (b || (d || e))))
shuffle true f b m d e = refl
shuffle false true b m d e = refl
shuffle false false b true d e = any b
  where
    any : (b : Bool) → (((b || true) || d) || e) ≡ true
    any true = refl
    any false = refl
shuffle false false true false d e = refl
shuffle false false false false d e = refl

abbrev pub collected : Changes → Assertion → List Binder → List Binder → Names
collected ch a done more = binders_names more (binders_names done (terms_names (plains (terms_in a)) (formulas_names (formulas a.props) (new_term_names ch []))))

collected_is : (ch : Changes) (a : Assertion) (done more : List Binder) (y : List ℕ) → has (collected ch a done more) y ≡ taken ch a (done ++ more) y
collected_is ch a done more y =
    let n = in_new_terms ch y in
    let f = formulas_mention y (formulas a.props) in
    let b = bound_in_some y (formulas a.props) in
    let m = mentions_in y (plains (terms_in a)) in
    let props = formulas_names (formulas a.props) (new_term_names ch []) in
    let terms = terms_names (plains (terms_in a)) props in
    has_binders y more (binders_names done terms)
    ∙ ap (λ v. v || has_name y more) (has_binders y done terms)
    ∙ ap (λ v. (v || has_name y done) || has_name y more) (has_terms y (plains (terms_in a)) props)
    ∙ ap (λ v. ((v || m) || has_name y done) || has_name y more) (has_formulas y (formulas a.props) (new_term_names ch []))
    ∙ ap (λ v. (((v || (f || b)) || m) || has_name y done) || has_name y more) (has_new_terms y ch [])
    ∙ shuffle n f b m (has_name y done) (has_name y more)
    ∙ ap (λ v. n || ((f || m) || (b || v))) (sym (list_any-append (λ (c : Binder). bytes_eq y c.name) done more))

pub new_existential : (ch : Changes) (a : Assertion) (done more : List Binder) (x : List ℕ) → list_any (body_capturing ch a x) ch ≡ true → unmarked_from (has (collected ch a done more)) x most_marks 1 ≡ existential_name ch a (done ++ more) x
new_existential ch a done more x h =
    same_marks (has (collected ch a done more)) (taken ch a (done ++ more)) x most_marks 1 (collected_is ch a done more)
    ∙ sym (ap (λ b. if b then unmarked_from (taken ch a (done ++ more)) x most_marks 1 else x) h)

-- the parts of an assertion after changes
local_terms_after : (ch : Changes) (locals : List Local) → local_terms (map (local_after ch) locals) ≡ map (replaced ch) (local_terms locals)
local_terms_after ch [] = refl
local_terms_after ch (l ∷ locals) = ap (λ ts. replaced ch l.term ∷ ts) (local_terms_after ch locals)

pub body_fits : (ch : Changes) (a : Assertion) (new : List Binder) → assertion_fits (body_after ch a new) ≡ (list_all formula_fits (map (replaced_formula ch) a.props) && (fit_after ch (local_terms a.locals) && fit_after ch (flat_map part_terms a.parts)))
body_fits ch a new =
    ap (λ b. list_all formula_fits (map (replaced_formula ch) a.props) && b)
    (ap (λ ts. list_all fits (ts ++ flat_map part_terms (map (part_after ch) a.parts))) (local_terms_after ch a.locals)
    ∙ ap (λ ts. list_all fits (map (replaced ch) (local_terms a.locals) ++ ts)) (parts_terms_after ch a.parts)
    ∙ ap (list_all fits) (sym (map-append (replaced ch) (local_terms a.locals) (flat_map part_terms a.parts)))
    ∙ fit_append ch (local_terms a.locals) (flat_map part_terms a.parts))

all_true : (p l s : Bool) → p ≡ true → l ≡ true → s ≡ true → (p && (l && s)) ≡ true
all_true true true true p l s = refl
all_true true true false p l s = s
all_true true false b p l s = absurd cc
all_true false l b p h s = absurd cc

second_false : (p l s : Bool) → l ≡ false → (p && (l && s)) ≡ false
second_false true l s h = ap (λ b. b && s) h
second_false false l s h = refl

third_false : (p l s : Bool) → s ≡ false → (p && (l && s)) ≡ false
third_false true true s h = h
third_false true false s h = refl
third_false false l s h = refl

pub whole_fits : (ch : Changes) (a : Assertion) (new : List Binder) → list_all formula_fits (map (replaced_formula ch) a.props) ≡ true → fit_after ch (local_terms a.locals) ≡ true → fit_after ch (flat_map part_terms a.parts) ≡ true → assertion_fits (body_after ch a new) ≡ true
whole_fits ch a new p l s = body_fits ch a new ∙ all_true (list_all formula_fits (map (replaced_formula ch) a.props)) (fit_after ch (local_terms a.locals)) (fit_after ch (flat_map part_terms a.parts)) p l s

pub unfit_props : (ch : Changes) (a : Assertion) (new : List Binder) → list_all formula_fits (map (replaced_formula ch) a.props) ≡ false → assertion_fits (body_after ch a new) ≡ false
unfit_props ch a new h = body_fits ch a new ∙ ap (λ b. b && (fit_after ch (local_terms a.locals) && fit_after ch (flat_map part_terms a.parts))) h

pub unfit_locals : (ch : Changes) (a : Assertion) (new : List Binder) → fit_after ch (local_terms a.locals) ≡ false → assertion_fits (body_after ch a new) ≡ false
unfit_locals ch a new h = body_fits ch a new ∙ second_false (list_all formula_fits (map (replaced_formula ch) a.props)) (fit_after ch (local_terms a.locals)) (fit_after ch (flat_map part_terms a.parts)) h

pub unfit_parts : (ch : Changes) (a : Assertion) (new : List Binder) → fit_after ch (flat_map part_terms a.parts) ≡ false → assertion_fits (body_after ch a new) ≡ false
unfit_parts ch a new h = body_fits ch a new ∙ third_false (list_all formula_fits (map (replaced_formula ch) a.props)) (fit_after ch (local_terms a.locals)) (fit_after ch (flat_map part_terms a.parts)) h

-- the change of one existential more
pub below_step : (ch : Changes) (old new : List Binder) (i j : ℕ) (b c : Binder) → j ≡ i + 1 → slice_get old i ≡ Some b → slice_get new i ≡ Some c → below_existentials ch (take j old) (take j new) ≡ (b.name, Called c.name) ∷ below_existentials ch (take i old) (take i new)
below_step ch old new i zero b c n e h = absurd (omega arith)
below_step ch [] new zero (suc j) b c n e h = absurd cc
below_step ch [] new (suc i) (suc j) b c n e h = absurd cc
below_step ch (o ∷ old) [] zero (suc j) b c n e h = absurd cc
below_step ch (o ∷ old) [] (suc i) (suc j) b c n e h = absurd cc
below_step ch (o ∷ old) (w ∷ new) zero (suc zero) b c n e h =
    ap (λ (x : Binder). (x.name, Called w.name) ∷ ch) (let same : o ≡ b = cc in same) ∙ ap (λ (x : Binder). (b.name, Called x.name) ∷ ch) (let same : w ≡ c = cc in same)
below_step ch (o ∷ old) (w ∷ new) zero (suc (suc j)) b c n e h = absurd (omega arith)
below_step ch (o ∷ old) (w ∷ new) (suc i) (suc j) b c n e h = below_step ((o.name, Called w.name) ∷ ch) old new i j b c (omega arith) e h

pub one_more_change : (ch done : Changes) (old new : List Binder) (i j : ℕ) (b c : Binder) (x y : List ℕ) → j ≡ i + 1 → slice_get old i ≡ Some b → slice_get new i ≡ Some c → x ≡ b.name → y ≡ c.name → (done ++ (x, Called y) ∷ []) ++ below_existentials ch (take i old) (take i new) ≡ done ++ below_existentials ch (take j old) (take j new)
one_more_change ch done old new i j b c x y n e h p q =
    append_assoc done ((x, Called y) ∷ []) (below_existentials ch (take i old) (take i new))
    ∙ ap (λ z. done ++ (z, Called y) ∷ below_existentials ch (take i old) (take i new)) p
    ∙ ap (λ z. done ++ (b.name, Called z) ∷ below_existentials ch (take i old) (take i new)) q
    ∙ ap (λ d. done ++ d) (sym (below_step ch old new i j b c n e h))

-- the next existential gets its name
pub next_existential : (ch : Changes) (a : Assertion) (done : List Binder) (i j : ℕ) (b d : Binder) → j ≡ i + 1 → slice_get a.existentials i ≡ Some b → d.name ≡ existential_name ch a (done ++ drop j a.existentials) b.name → d.sort ≡ b.sort → renamed_from ch a done (drop i a.existentials) ≡ renamed_from ch a (done ++ d ∷ []) (drop j a.existentials)
next_existential ch a done i j b d n e h k =
    ap (renamed_from ch a done) (left_at a.existentials i j b n e)
    ∙ ap (λ y. renamed_from ch a (done ++ record { name = y; sort = b.sort } ∷ []) (drop j a.existentials)) (sym h)
    ∙ ap (λ s. renamed_from ch a (done ++ record { name = d.name; sort = s } ∷ []) (drop j a.existentials)) (sym k)

-- a change more in the program's list
pub pushed_change : (done all : List Change) (x y : List ℕ) → all ≡ done ++ record { name = x; becomes = b.Called y } ∷ [] → changes_of all ≡ changes_of done ++ (x, Called y) ∷ []
pushed_change done all x y e = ap changes_of e ∙ map-append (λ (c : Change). (c.name, become_of c.becomes)) done (record { name = x; becomes = b.Called y } ∷ [])

-- an assertion after changes, by what is below its existentials
pub inside_is : (ch inner : Changes) (a : Assertion) (old new : List Binder) → inner ≡ below_existentials ch old new → old ≡ a.existentials → new ≡ new_existentials ch a → inner ≡ inside ch a
inside_is ch inner a old new e o n = e ∙ ap (λ bs. below_existentials ch bs new) o ∙ ap (below_existentials ch a.existentials) n

pub assertion_told : (r : Result Assertion MakeStop) (ch inner : Changes) (a : Assertion) (new : List Binder) → inner ≡ inside ch a → new ≡ new_existentials ch a → Tells r (body_after inner a new) (assertion_fits (body_after inner a new)) → Tells r (assertion_after ch a) (assertion_fits (assertion_after ch a))
assertion_told r ch inner a new e n told =
    subst (λ bs. Tells r (body_after (inside ch a) a bs) (assertion_fits (body_after (inside ch a) a bs))) n
    (subst (λ c. Tells r (body_after c a new) (assertion_fits (body_after c a new))) e told)

pub existential_told : {E : Type 0} (r : Result (List ℕ) E) (ch : Changes) (a : Assertion) (done more : List Binder) (x : List ℕ) (n0 n1 n2 n3 n4 n5 : Names) (fs : List PlainFormula) (ts : List Plain) → n0 ≡ [] → n1 ≡ new_term_names ch n0 → fs ≡ a.props → n2 ≡ formulas_names (formulas fs) n1 → ts ≡ terms_in a → n3 ≡ terms_names (plains ts) n2 → n4 ≡ binders_names done n3 → n5 ≡ binders_names more n4 → list_any (body_capturing ch a x) ch ≡ true → IfOk r (λ name. name ≡ unmarked_from (has n5) x most_marks 1) → IfOk r (λ name. name ≡ existential_name ch a (done ++ more) x)
existential_told r ch a done more x n0 n1 n2 n3 n4 n5 fs ts e0 e1 ef e2 et e3 e4 e5 h told =
    let props : n2 ≡ formulas_names (formulas a.props) (new_term_names ch []) = e2 ∙ ap (λ g. formulas_names (formulas g) n1) ef ∙ ap (formulas_names (formulas a.props)) (e1 ∙ ap (new_term_names ch) e0) in
    let terms : n3 ≡ terms_names (plains (terms_in a)) (formulas_names (formulas a.props) (new_term_names ch [])) = e3 ∙ ap (λ s. terms_names (plains s) n2) et ∙ ap (terms_names (plains (terms_in a))) props in
    let all : n5 ≡ collected ch a done more = e5 ∙ ap (binders_names more) (e4 ∙ ap (binders_names done) terms) in
    subst (λ y. IfOk r (λ name. name ≡ y)) (ap (λ n. unmarked_from (has n) x most_marks 1) all ∙ new_existential ch a done more x h) told

pub next_told : (ch : Changes) (a : Assertion) (done : List Binder) (i : ℕ) (xs ys : List Binder) (r : Binder) (x : List ℕ) (s : Sort) → xs ≡ a.existentials → ys ≡ a.existentials → i < length a.existentials → r ≡ get_or xs i r → x ≡ existential_name ch a (done ++ take (length ys - (i + 1)) (drop (i + 1) ys)) r.name → s ≡ r.sort → renamed_from ch a done (drop i a.existentials) ≡ renamed_from ch a (done ++ record { name = x; sort = s } ∷ []) (drop (i + 1) a.existentials)
next_told ch a done i xs ys r x s p q l e h k =
    next_existential ch a done i (i + 1) r (record { name = x; sort = s }) refl (item_there a.existentials i r l (e ∙ ap (λ zs. get_or zs i r) p))
    (h ∙ ap (λ zs. existential_name ch a (done ++ zs) r.name) (rest_taken ys (i + 1) ∙ ap (drop (i + 1)) q)) k

pub local_agree : (ch : Changes) (locals : List Local) (i : ℕ) (d : Local) → i < length locals → AllSortsAgree ch (plains (local_terms locals)) → SortsAgree ch (get_or locals i d).term
local_agree ch [] i d l h = absurd (omega arith)
local_agree ch (x ∷ locals) zero d l h = h.0
local_agree ch (x ∷ locals) (suc i) d l h = local_agree ch locals i d (omega arith) h.1
