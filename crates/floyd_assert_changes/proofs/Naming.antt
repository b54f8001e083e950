-- What is collected is what occurs or is bound.
use Rattle.std.proofs.Common.{◌≡◌, ℕ, Bool, true, false, not, ◌&&◌, ◌||◌, List, [], ◌∷◌, ◌++◌, Option, Some, None, refl, sym, ◌∙◌, ap}
use Rattle.std.specs.Prelude.{if◌then◌else◌, bytes_eq, cond, is_some}
use Rattle.std.specs.Map.{lookup}
use Rattle.std.proofs.Math.Bool.{or_assoc}
use Rattle.std.proofs.lemmas.Slice.Eq.{bytes_eq-Decides}
use Rattle.floyd_tree_sorts.specs.declared.connectives.FormulaHead.{FormulaHead}
use Rattle.floyd_tree_sorts.specs.declared.connectives.FormulaHead.TheVariants.{Forall, Exists}
use Rattle.floyd_tree_sorts.specs.declared.heads.Head.{Head}
use Rattle.floyd_tree_sorts.specs.declared.heads.Head.TheVariants.{Variable}
use Rattle.floyd_tree_sorts.specs.Heads.{is_variable, binds}
use Rattle.floyd_tree.specs.Code.{plains-listed}
use Rattle.floyd_tree.specs.FormulaCode.{formulas-listed}
use Rattle.floyd_tree.specs.Formulas.{PlainFormula, PlainFormulas, Says, NoFormula, MoreFormulas, form_of, formula_mentions, formulas, formulas_mention, formulas_of, terms_of}
use Rattle.floyd_tree.specs.Plain.{Plain, Plains, At, Done, More, head_of, kids_of, mentions, mentions_in, plains}
use Rattle.floyd_truth.specs.Capture.{Becomes, Put, Called, Changes, bound_in, bound_in_some, brings, in_new_terms}
use Rattle.floyd_assert_changes.specs.NamesClauses.{Names, become_names, binder_names, formula_names, formulas_names, has, head_names, new_term_names, term_names, terms_names, with_name}

some_or : {V : Type 0} (b : Bool) (v : V) (o : Option V) → is_some (cond b (Some v) o) ≡ (b || is_some o)
some_or true v o = refl
some_or false v o = refl

or_false : (b : Bool) → b ≡ (b || false)
or_false true = refl
or_false false = refl

or_swap : (a b : Bool) → (a || b) ≡ (b || a)
or_swap true true = refl
or_swap true false = refl
or_swap false true = refl
or_swap false false = refl

has_last : (y x : List ℕ) (names : Names) → has (names ++ (x, tt) ∷ []) y ≡ (has names y || bytes_eq y x)
has_last y x [] = some_or (bytes_eq y x) tt None ∙ or_swap (bytes_eq y x) false
has_last y x (n ∷ names) =
    some_or (bytes_eq y n.0) n.1 (lookup (bytes_eq y) (names ++ (x, tt) ∷ []))
    ∙ ap (λ b. bytes_eq y n.0 || b) (has_last y x names)
    ∙ sym (or_assoc (bytes_eq y n.0) (has names y) (bytes_eq y x))
    ∙ ap (λ b. b || bytes_eq y x) (sym (some_or (bytes_eq y n.0) n.1 (lookup (bytes_eq y) names)))

there : (names : Names) (y x : List ℕ) (b : Bool) → bytes_eq y x ≡ b → has names x ≡ true → has names y ≡ (has names y || b)
there names y x true e h =
    let same : has names y ≡ true = ap (has names) ((bytes_eq-Decides y x).0 e) ∙ h in
    same ∙ sym (ap (λ b. b || true) same)
there names y x false e h = or_false (has names y)

with_by : (names : Names) (y x : List ℕ) (b : Bool) → has names x ≡ b → has (if b then names else names ++ (x, tt) ∷ []) y ≡ (has names y || bytes_eq y x)
with_by names y x true h = there names y x (bytes_eq y x) refl h
with_by names y x false h = has_last y x names

pub has_with : (names : Names) (y x : List ℕ) → has (with_name x names) y ≡ (has names y || bytes_eq y x)
has_with names y x = with_by names y x (has names x) refl

has_head : (y : List ℕ) (head : Head) (names : Names) → has (head_names head names) y ≡ (has names y || is_variable y head)
has_head y (Variable x s) names = has_with names y x
has_head y head names = or_false (has names y)

mutual
  pub has_term : (y : List ℕ) (t : Plain) (names : Names) → has (term_names t names) y ≡ (has names y || mentions y t)
  has_term y (At head kids) names =
      has_terms y kids (head_names head names)
      ∙ ap (λ b. b || mentions_in y kids) (has_head y head names)
      ∙ or_assoc (has names y) (is_variable y head) (mentions_in y kids)

  pub has_terms : (y : List ℕ) (ts : Plains) (names : Names) → has (terms_names ts names) y ≡ (has names y || mentions_in y ts)
  has_terms y Done names = or_false (has names y)
  has_terms y (More t ts) names =
      has_terms y ts (term_names t names)
      ∙ ap (λ b. b || mentions_in y ts) (has_term y t names)
      ∙ or_assoc (has names y) (mentions y t) (mentions_in y ts)

has_binder : (y : List ℕ) (head : FormulaHead) (names : Names) → has (binder_names head names) y ≡ (has names y || binds y head)
has_binder y (Forall x s) names = has_with names y x
has_binder y (Exists x s) names = has_with names y x
has_binder y head names = or_false (has names y)

shuffle : (h b m f s : Bool) → (((h || b) || m) || (f || s)) ≡ (h || ((m || (not b && f)) || (b || s)))
shuffle true b m f s = refl
shuffle false true true f s = refl
shuffle false true false f s = refl
shuffle false false true f s = refl
shuffle false false false f s = refl

in_order : (h f b fs bs : Bool) → ((h || (f || b)) || (fs || bs)) ≡ (h || ((f || fs) || (b || bs)))
in_order true f b fs bs = refl
in_order false true b fs bs = refl
in_order false false true true bs = refl
in_order false false true false bs = refl
in_order false false false fs bs = refl

mutual
  pub has_formula : (y : List ℕ) (f : PlainFormula) (names : Names) → has (formula_names f names) y ≡ (has names y || (formula_mentions y f || bound_in y f))
  has_formula y (Says head terms kids) names =
      has_formulas y kids (terms_names terms (binder_names head names))
      ∙ ap (λ b. b || (formulas_mention y kids || bound_in_some y kids)) (has_terms y terms (binder_names head names))
      ∙ ap (λ b. (b || mentions_in y terms) || (formulas_mention y kids || bound_in_some y kids)) (has_binder y head names)
      ∙ shuffle (has names y) (binds y head) (mentions_in y terms) (formulas_mention y kids) (bound_in_some y kids)

  pub has_formulas : (y : List ℕ) (fs : PlainFormulas) (names : Names) → has (formulas_names fs names) y ≡ (has names y || (formulas_mention y fs || bound_in_some y fs))
  has_formulas y NoFormula names = or_false (has names y)
  has_formulas y (MoreFormulas f fs) names =
      has_formulas y fs (formula_names f names)
      ∙ ap (λ b. b || (formulas_mention y fs || bound_in_some y fs)) (has_formula y f names)
      ∙ in_order (has names y) (formula_mentions y f) (bound_in y f) (formulas_mention y fs) (bound_in_some y fs)

has_become : (y : List ℕ) (b : Becomes) (names : Names) → has (become_names b names) y ≡ (has names y || brings y (Some b))
has_become y (Put t) names = has_term y t names
has_become y (Called z) names = or_false (has names y)

pub has_new_terms : (y : List ℕ) (ch : Changes) (names : Names) → has (new_term_names ch names) y ≡ (has names y || in_new_terms ch y)
has_new_terms y [] names = or_false (has names y)
has_new_terms y (c ∷ ch) names =
    has_new_terms y ch (become_names c.1 names)
    ∙ ap (λ b. b || in_new_terms ch y) (has_become y c.1 names)
    ∙ or_assoc (has names y) (brings y (Some c.1)) (in_new_terms ch y)

-- by head and kids
pub term_names_parts : (t : Plain) (names : Names) → term_names t names ≡ terms_names (plains (kids_of t)) (head_names (head_of t) names)
term_names_parts (At head kids) names = ap (λ ts. terms_names ts (head_names head names)) (sym (plains-listed kids))

pub formula_names_parts : (f : PlainFormula) (names : Names) → formula_names f names ≡ formulas_names (formulas (formulas_of f)) (terms_names (plains (terms_of f)) (binder_names (form_of f) names))
formula_names_parts (Says head terms kids) names =
    ap (λ ts. formulas_names kids (terms_names ts (binder_names head names))) (sym (plains-listed terms))
    ∙ ap (λ fs. formulas_names fs (terms_names (plains (terms_of (Says head terms kids))) (binder_names head names))) (sym (formulas-listed kids))
