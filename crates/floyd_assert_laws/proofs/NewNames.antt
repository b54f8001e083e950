-- The new name of an existential: it stays where it captures nothing, and else is fresh.
use Rattle.std.proofs.Common.{◌≡◌, ℕ, suc, ◌+◌, ◌<◌, ◌≤◌, ◌^◌, Bool, true, false, not, ◌&&◌, ◌||◌, ◌⊎◌, inl, inr, List, [], ◌∷◌, ◌++◌, length, map, Option, Some, None, refl, sym, ◌∙◌, ap, arith}
use Rattle.std.specs.Prelude.{if◌then◌else◌, bytes_eq, cond, is_some}
use Rattle.std.specs.List.{list_any}
use Rattle.std.specs.Map.{lookup}
use Rattle.std.proofs.lemmas.List.{length-append}
use Rattle.std.proofs.Math.Bool.{or_assoc}
use Rattle.floyd_tree_sorts.specs.declared.connectives.FormulaHead.{FormulaHead}
use Rattle.floyd_tree_sorts.specs.declared.connectives.FormulaHead.TheVariants.{Forall, Exists}
use Rattle.floyd_tree_sorts.specs.declared.heads.Head.{Head}
use Rattle.floyd_tree_sorts.specs.declared.heads.Head.TheVariants.{Variable}
use Rattle.floyd_tree.specs.Formulas.{PlainFormula, PlainFormulas, Says, NoFormula, MoreFormulas, formula_size, formula_sizes, formulas, formulas_mention}
use Rattle.floyd_tree.specs.Plain.{Plain, Plains, At, Done, More, mentions_in, plains, size, sizes}
use Rattle.floyd_truth.specs.Capture.{Becomes, Put, Called, Changes, bound_in_some, captures, in_new_terms, marked, most_marks, unmarked_from}
use Rattle.floyd_truth.proofs.Fresh.{weight, neither}
use Rattle.floyd_truth.proofs.Marks.{Has, Found, finds}
use Rattle.floyd_assert_trees.specs.declared.assertion.Assertion.{Assertion}
use Rattle.floyd_assert_trees.specs.declared.binder.Binder.{Binder}
use Rattle.floyd_assert_changes.specs.BodyClauses.{binders_names}
use Rattle.floyd_assert_changes.specs.Changed.{body_binds, body_mentions, existential_name, has_name, terms_in}
use Rattle.floyd_assert_changes.specs.NamesClauses.{Names, has, with_name, head_names, term_names, terms_names, binder_names, formula_names, formulas_names, become_names, new_term_names}
use Rattle.floyd_assert_changes.proofs.Naming.{has_formulas, has_new_terms, has_terms, has_with}

-- ---- few names are collected

with_few_by : (b : Bool) (x : List ℕ) (names : Names) → length (if b then names else names ++ (x, tt) ∷ []) ≤ length names + 1
with_few_by true x names = omega arith
with_few_by false x names = omega (arith, length-append names ((x, tt) ∷ []))

with_few : (x : List ℕ) (names : Names) → length (with_name x names) ≤ length names + 1
with_few x names = with_few_by (has names x) x names

head_few : (head : Head) (names : Names) → length (head_names head names) ≤ length names + 1
head_few (Variable x s) names = with_few x names
head_few head names = omega arith

mutual
  term_few : (t : Plain) (names : Names) → length (term_names t names) ≤ length names + size t
  term_few (At head kids) names = omega (arith, head_few head names, terms_few kids (head_names head names))

  terms_few : (ts : Plains) (names : Names) → length (terms_names ts names) ≤ length names + sizes ts
  terms_few Done names = omega arith
  terms_few (More t ts) names = omega (arith, term_few t names, terms_few ts (term_names t names))

binder_few : (head : FormulaHead) (names : Names) → length (binder_names head names) ≤ length names + 1
binder_few (Forall x s) names = with_few x names
binder_few (Exists x s) names = with_few x names
binder_few head names = omega arith

mutual
  formula_few : (f : PlainFormula) (names : Names) → length (formula_names f names) ≤ length names + formula_size f
  formula_few (Says head terms kids) names =
      omega (arith, binder_few head names, terms_few terms (binder_names head names), formulas_few kids (terms_names terms (binder_names head names)))

  formulas_few : (fs : PlainFormulas) (names : Names) → length (formulas_names fs names) ≤ length names + formula_sizes fs
  formulas_few NoFormula names = omega arith
  formulas_few (MoreFormulas f fs) names = omega (arith, formula_few f names, formulas_few fs (formula_names f names))

new_terms_few : (ch : Changes) (names : Names) → length (new_term_names ch names) ≤ length names + weight ch
new_terms_few [] names = omega arith
new_terms_few ((v, Put t) ∷ ch) names = omega (arith, term_few t names, new_terms_few ch (term_names t names))
new_terms_few ((v, Called y) ∷ ch) names = new_terms_few ch names

binders_few : (bs : List Binder) (names : Names) → length (binders_names bs names) ≤ length names + length bs
binders_few [] names = omega arith
binders_few (b ∷ bs) names = omega (arith, with_few b.name names, binders_few bs (with_name b.name names))

-- ---- what is collected

or_false : (b : Bool) → b ≡ (b || false)
or_false true = refl
or_false false = refl

has_binders : (y : List ℕ) (bs : List Binder) (names : Names) → has (binders_names bs names) y ≡ (has names y || has_name y bs)
has_binders y [] names = or_false (has names y)
has_binders y (b ∷ bs) names =
    has_binders y bs (with_name b.name names)
    ∙ ap (λ a. a || has_name y bs) (has_with names y b.name)
    ∙ or_assoc (has names y) (bytes_eq y b.name) (has_name y bs)

all_names : Changes → Assertion → List Binder → Names
all_names ch a others = binders_names others (terms_names (plains (terms_in a)) (formulas_names (formulas a.props) (new_term_names ch [])))

abbrev taken : Changes → Assertion → List Binder → List ℕ → Bool
taken ch a others name = in_new_terms ch name || (body_mentions a name || (body_binds a name || has_name name others))

shuffle : (n f b m d : Bool) → (((n || (f || b)) || m) || d) ≡ (n || ((f || m) || (b || d)))
shuffle true f b m d = refl
shuffle false true b m d = refl
shuffle false false true true d = refl
shuffle false false true false d = refl
shuffle false false false m d = refl

all_is : (ch : Changes) (a : Assertion) (others : List Binder) (y : List ℕ) → has (all_names ch a others) y ≡ taken ch a others y
unfolding all_names
all_is ch a others y =
    let props = formulas_names (formulas a.props) (new_term_names ch []) in
    let terms = terms_names (plains (terms_in a)) props in
    has_binders y others terms
    ∙ ap (λ v. v || has_name y others) (has_terms y (plains (terms_in a)) props)
    ∙ ap (λ v. (v || mentions_in y (plains (terms_in a))) || has_name y others) (has_formulas y (formulas a.props) (new_term_names ch []))
    ∙ ap (λ v. ((v || (formulas_mention y (formulas a.props) || bound_in_some y (formulas a.props))) || mentions_in y (plains (terms_in a))) || has_name y others) (has_new_terms y ch [])
    ∙ shuffle (in_new_terms ch y) (formulas_mention y (formulas a.props)) (bound_in_some y (formulas a.props)) (mentions_in y (plains (terms_in a))) (has_name y others)

all_few : (ch : Changes) (a : Assertion) (others : List Binder) → length (all_names ch a others) ≤ weight ch + formula_sizes (formulas a.props) + sizes (plains (terms_in a)) + length others
unfolding all_names
all_few ch a others =
    omega (arith, new_terms_few ch [], formulas_few (formulas a.props) (new_term_names ch []), terms_few (plains (terms_in a)) (formulas_names (formulas a.props) (new_term_names ch [])), binders_few others (terms_names (plains (terms_in a)) (formulas_names (formulas a.props) (new_term_names ch []))))

abbrev listed_names : Names → List (List ℕ)
listed_names names = map (λ p. p.0) names

some_by : {V : Type 0} (b : Bool) (v : V) (o : Option V) → is_some (cond b (Some v) o) ≡ (b || is_some o)
some_by true v o = refl
some_by false v o = refl

has_listed : (names : Names) (y : List ℕ) → has names y ≡ list_any (bytes_eq y) (listed_names names)
has_listed [] y = refl
has_listed (n ∷ names) y = some_by (bytes_eq y n.0) n.1 (lookup (bytes_eq y) names) ∙ ap (λ b. bytes_eq y n.0 || b) (has_listed names y)

listed_length : (names : Names) → length (listed_names names) ≡ length names
listed_length [] = refl
listed_length (n ∷ names) = ap suc (listed_length names)

-- ---- the new name

-- marked, in no new term, neither free nor bound in what stands below, and of no other existential
pub record IsFreshName (ch : Changes) (a : Assertion) (others : List Binder) (x y : List ℕ) : Type 0 where
  pub number : ℕ
  pub small : number < 2 ^ 64
  pub is : y ≡ marked x number
  pub terms : in_new_terms ch y ≡ false
  pub free : body_mentions a y ≡ false
  pub bound : body_binds a y ≡ false
  pub other : has_name y others ≡ false

abbrev pub covers : Assertion → List ℕ → Bool
covers a y = body_mentions a y && not (has_name y a.existentials)

abbrev pub IsNewName : Changes → Assertion → List Binder → List ℕ → List ℕ → Type 0
IsNewName ch a others x y = ((y ≡ x) × (captures ch (covers a) x ≡ false)) ⊎ IsFreshName ch a others x y

fresh_name : (ch : Changes) (a : Assertion) (others : List Binder) (x y : List ℕ) → Found (taken ch a others) x y → IsFreshName ch a others x y
fresh_name ch a others x y found =
    let p = neither (in_new_terms ch y) (body_mentions a y || (body_binds a y || has_name y others)) found.free in
    let q = neither (body_mentions a y) (body_binds a y || has_name y others) p.1 in
    let r = neither (body_binds a y) (has_name y others) q.1 in
    record { number = found.number; small = found.small; is = found.is; terms = p.0; free = q.0; bound = r.0; other = r.1 }

most_is : most_marks ≡ 2 ^ 63
unfolding most_marks
most_is = refl

pub is_new_name : (ch : Changes) (a : Assertion) (others : List Binder) (x : List ℕ) → weight ch + formula_sizes (formulas a.props) + sizes (plains (terms_in a)) + length others < 2 ^ 63 → IsNewName ch a others x (existential_name ch a others x)
is_new_name ch a others x l = by (captures ch (covers a) x) refl
  where
    by : (b : Bool) → captures ch (covers a) x ≡ b → IsNewName ch a others x (if b then unmarked_from (taken ch a others) x most_marks 1 else x)
    by true e =
        inr (fresh_name ch a others x _
        (finds (taken ch a others) x most_marks 1 (listed_names (all_names ch a others))
        (omega (arith, most_is, l, all_few ch a others, listed_length (all_names ch a others)))
        (omega (arith, most_is))
        (λ j low high t. sym (has_listed (all_names ch a others) (marked x j)) ∙ all_is ch a others (marked x j) ∙ t)))
    by false e = inl (refl, e)
