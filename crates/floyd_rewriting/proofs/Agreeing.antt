-- A term of the hole's sort may be put into the holes.
use Rattle.std.proofs.Common.{◌≡◌, ℕ, Bool, true, false, not, ◌&&◌, cond, List, [], ◌∷◌, ◌++◌, map, Option, Some, None, refl, sym, ap, subst, ◌∙◌, true≢false}
use Rattle.std.specs.Prelude.{bytes_eq}
use Rattle.std.specs.List.{flat_map}
use Rattle.std.specs.Map.{lookup}
use Rattle.std.proofs.lemmas.List.{map-append}
use Rattle.std.proofs.lemmas.Slice.Eq.{bytes_eq-Decides}
use Rattle.floyd_tree_sorts.specs.declared.connectives.FormulaHead.{FormulaHead}
use Rattle.floyd_tree_sorts.specs.declared.connectives.FormulaHead.TheVariants.{Forall, Exists}
use Rattle.floyd_tree_sorts.specs.declared.heads.Head.{Head}
use Rattle.floyd_tree_sorts.specs.declared.heads.Head.TheVariants.{Variable}
use Rattle.floyd_tree_sorts.specs.declared.sorts.Sort.{Sort}
use Rattle.floyd_tree_sorts.specs.Heads.{binds}
use Rattle.floyd_tree.specs.declared.paths.PathStep.{PathStep}
use Rattle.floyd_tree.specs.declared.paths.PathStep.TheVariants.{Field, Subscript}
use Rattle.floyd_tree.specs.Formulas.{PlainFormula, PlainFormulas, Says, NoFormula, MoreFormulas, formula_mentions, formulas, formulas_mention}
use Rattle.floyd_tree.specs.Plain.{Plain, Plains, At, Done, More, mentions, mentions_in, plains}
use Rattle.floyd_tree.specs.WellSorted.{sort_of}
use Rattle.floyd_truth.specs.Capture.{Becomes, Put, Called, Changes, bound_in, bound_in_some}
use Rattle.floyd_truth.specs.Replace.{HasSortOf, SortsAgree, AllSortsAgree, FormulaSortsAgree, FormulasSortsAgree, changes_below, puts}
use Rattle.floyd_truth.proofs.Fresh.{neither}
use Rattle.floyd_arith.specs.Same.{same_term}
use Rattle.floyd_assert_trees.specs.declared.assertion.Assertion.{Assertion}
use Rattle.floyd_assert_trees.specs.declared.assertion.Local.{Local}
use Rattle.floyd_assert_trees.specs.declared.binder.Binder.{Binder}
use Rattle.floyd_assert_trees.specs.declared.sep.Region.{Region}
use Rattle.floyd_assert_trees.specs.declared.sep.Sep.{Sep}
use Rattle.floyd_assert_trees.specs.declared.sep.Sep.TheVariants.{FieldAt, Padding, Valid, Anything, Predicate}
use Rattle.floyd_assert_changes.specs.Changed.{AssertionSortsAgree, below_existentials, inside, local_terms, new_existentials, part_terms, region_terms, step_terms, terms_in}
use Rattle.floyd_assert_terms.specs.Mapped.{body_mapped, local_mapped, part_mapped, region_mapped, step_mapped}
use Rattle.floyd_rewriting.specs.Holes.{assertion_opened, formula_opened, formulas_opened, hole_for, opened, opened_in}
use Rattle.floyd_rewriting.specs.Occurrences.{hides}
use Rattle.floyd_rewriting.specs.Rewritten.{into_holes}
use Rattle.floyd_rewriting.proofs.FormulasOpened.{formulas_opened_plain}
use Rattle.floyd_rewriting.proofs.HoleNames.{IsNowhere}
use Rattle.floyd_rewriting.proofs.TermsOpened.{opened_plains}

unlike : (x y : List ℕ) → bytes_eq x y ≡ false → bytes_eq y x ≡ false
unlike x y h = by (bytes_eq y x) refl
  where
    by : (b : Bool) → bytes_eq y x ≡ b → bytes_eq y x ≡ false
    by false e = e
    by true e = absurd (true≢false (sym ((bytes_eq-Decides x y).1 (sym ((bytes_eq-Decides y x).0 e))) ∙ h))

-- a variable of that name becomes a term of the sort, or a bound one, and no other one becomes a term
record Agrees (changes : Changes) (name : List ℕ) (s : Sort) : Type 0 where
  pub own : HasSortOf (lookup (bytes_eq name) changes) s
  pub others : (v : List ℕ) (r : Sort) → bytes_eq v name ≡ false → HasSortOf (lookup (bytes_eq v) changes) r

module _ (name : List ℕ) (s : Sort) where
  called_by : (b : Bool) (y : List ℕ) (o : Option Becomes) (r : Sort) → HasSortOf o r → HasSortOf (cond b (Some (Called y)) o) r
  called_by true y o r h = tt
  called_by false y o r h = h

  called : (changes : Changes) (x y : List ℕ) → Agrees changes name s → Agrees ((x, Called y) ∷ changes) name s
  called changes x y a = record {
    own = called_by (bytes_eq name x) y (lookup (bytes_eq name) changes) s a.own;
    others = λ v r e. called_by (bytes_eq v x) y (lookup (bytes_eq v) changes) r (a.others v r e);
  }

  below : (changes : Changes) (head : FormulaHead) (kids : PlainFormulas) → Agrees changes name s → Agrees (changes_below changes head kids) name s
  below changes (Forall x r) kids a = called changes x _ a
  below changes (Exists x r) kids a = called changes x _ a
  below changes head kids a = a

  existentials : (changes : Changes) (old new : List Binder) → Agrees changes name s → Agrees (below_existentials changes old new) name s
  existentials changes [] new a = a
  existentials changes (b ∷ old) [] a = a
  existentials changes (b ∷ old) (c ∷ new) a = existentials ((b.name, Called c.name) ∷ changes) old new (called changes b.name c.name a)

  -- what has no variable of that name
  mutual
    term_agrees : (changes : Changes) → Agrees changes name s → (t : Plain) → mentions name t ≡ false → SortsAgree changes t
    term_agrees changes a (At (Variable x r) kids) e =
        let p = neither (bytes_eq name x) (mentions_in name kids) e in
        (a.others x r (unlike name x p.0), terms_agree changes a kids p.1)
    term_agrees changes a (At head kids) e = (tt, terms_agree changes a kids e)

    terms_agree : (changes : Changes) → Agrees changes name s → (ts : Plains) → mentions_in name ts ≡ false → AllSortsAgree changes ts
    terms_agree changes a Done e = tt
    terms_agree changes a (More t ts) e =
        let p = neither (mentions name t) (mentions_in name ts) e in
        (term_agrees changes a t p.0, terms_agree changes a ts p.1)

  free_below : (head : FormulaHead) (kids : PlainFormulas) → binds name head ≡ false → (not (binds name head) && formulas_mention name kids) ≡ false → formulas_mention name kids ≡ false
  free_below head kids b e = ap (λ c. not c && formulas_mention name kids) (sym b) ∙ e

  mutual
    formula_agrees : (changes : Changes) → Agrees changes name s → (f : PlainFormula) → formula_mentions name f ≡ false → bound_in name f ≡ false → FormulaSortsAgree changes f
    formula_agrees changes a (Says head terms kids) e b =
        let p = neither (mentions_in name terms) (not (binds name head) && formulas_mention name kids) e in
        let q = neither (binds name head) (bound_in_some name kids) b in
        (terms_agree changes a terms p.0, formulas_agree (changes_below changes head kids) (below changes head kids a) kids (free_below head kids q.0 p.1) q.1)

    formulas_agree : (changes : Changes) → Agrees changes name s → (fs : PlainFormulas) → formulas_mention name fs ≡ false → bound_in_some name fs ≡ false → FormulasSortsAgree changes fs
    formulas_agree changes a NoFormula e b = tt
    formulas_agree changes a (MoreFormulas f fs) e b =
        let p = neither (formula_mentions name f) (formulas_mention name fs) e in
        let q = neither (bound_in name f) (bound_in_some name fs) b in
        (formula_agrees changes a f p.0 q.0, formulas_agree changes a fs p.1 q.1)

  -- with holes
  module _ (from : Plain) where
    abbrev hole : Plain
    hole = At (Variable name s) Done

    node_agrees : (changes : Changes) → Agrees changes name s → (head : Head) (kids news : Plains) → mentions name (At head kids) ≡ false → (mentions_in name kids ≡ false → AllSortsAgree changes news) → SortsAgree changes (At head news)
    node_agrees changes a (Variable x r) kids news e k =
        let p = neither (bytes_eq name x) (mentions_in name kids) e in
        (a.others x r (unlike name x p.0), k p.1)
    node_agrees changes a head kids news e k = (tt, k e)

    mutual
      opened_agrees : (changes : Changes) → Agrees changes name s → (t : Plain) → mentions name t ≡ false → SortsAgree changes (opened from hole t)
      opened_agrees changes a (At head kids) e = by (same_term (At head kids) from) (node_agrees changes a head kids (opened_in from hole kids) e (λ i. all_opened_agree changes a kids i))
        where
          by : (b : Bool) → SortsAgree changes (At head (opened_in from hole kids)) → SortsAgree changes (cond b hole (At head (opened_in from hole kids)))
          by true node = (a.own, tt)
          by false node = node

      all_opened_agree : (changes : Changes) → Agrees changes name s → (ts : Plains) → mentions_in name ts ≡ false → AllSortsAgree changes (opened_in from hole ts)
      all_opened_agree changes a Done e = tt
      all_opened_agree changes a (More t ts) e =
          let p = neither (mentions name t) (mentions_in name ts) e in
          (opened_agrees changes a t p.0, all_opened_agree changes a ts p.1)

    mutual
      opened_formula_agrees : (changes : Changes) → Agrees changes name s → (f : PlainFormula) → formula_mentions name f ≡ false → bound_in name f ≡ false → FormulaSortsAgree changes (formula_opened from hole f)
      opened_formula_agrees changes a (Says head terms kids) e b =
          let p = neither (mentions_in name terms) (not (binds name head) && formulas_mention name kids) e in
          let q = neither (binds name head) (bound_in_some name kids) b in
          let free : formulas_mention name kids ≡ false = free_below head kids q.0 p.1 in (
            all_opened_agree changes a terms p.0,
            by (hides from head) (formulas_agree (changes_below changes head kids) (below changes head kids a) kids free q.1)
                (opened_formulas_agree (changes_below changes head (formulas_opened from hole kids)) (below changes head (formulas_opened from hole kids) a) kids free q.1),
          )
        where
          by : (c : Bool) → FormulasSortsAgree (changes_below changes head kids) kids → FormulasSortsAgree (changes_below changes head (formulas_opened from hole kids)) (formulas_opened from hole kids) → FormulasSortsAgree (changes_below changes head (cond c kids (formulas_opened from hole kids))) (cond c kids (formulas_opened from hole kids))
          by true same new = same
          by false same new = new

      opened_formulas_agree : (changes : Changes) → Agrees changes name s → (fs : PlainFormulas) → formulas_mention name fs ≡ false → bound_in_some name fs ≡ false → FormulasSortsAgree changes (formulas_opened from hole fs)
      opened_formulas_agree changes a NoFormula e b = tt
      opened_formulas_agree changes a (MoreFormulas f fs) e b =
          let p = neither (formula_mentions name f) (formulas_mention name fs) e in
          let q = neither (bound_in name f) (bound_in_some name fs) b in
          (opened_formula_agrees changes a f p.0 q.0, opened_formulas_agree changes a fs p.1 q.1)

-- the terms of an assertion that is mapped
module _ (f : Plain → Plain) where
  flat_mapped : {T : Type 0} (terms : T → List Plain) (mapped : T → T) → ((x : T) → terms (mapped x) ≡ map f (terms x)) → (xs : List T) → flat_map terms (map mapped xs) ≡ map f (flat_map terms xs)
  flat_mapped terms mapped h [] = refl
  flat_mapped terms mapped h (x ∷ xs) =
      ap (λ l. l ++ flat_map terms (map mapped xs)) (h x) ∙ ap (λ l. map f (terms x) ++ l) (flat_mapped terms mapped h xs) ∙ sym (map-append f (terms x) (flat_map terms xs))

  step_mapped_terms : (step : PathStep) → step_terms (step_mapped f step) ≡ map f (step_terms step)
  step_mapped_terms (Field x) = refl
  step_mapped_terms (Subscript t) = refl

  region_mapped_terms : (r : Region) → region_terms (region_mapped f r) ≡ map f (region_terms r)
  region_mapped_terms r =
      ap (λ l. f r.share ∷ map f r.ty.sizes ++ (l ++ f r.root ∷ [])) (flat_mapped step_terms (step_mapped f) step_mapped_terms r.path)
      ∙ ap (λ l. f r.share ∷ map f r.ty.sizes ++ l) (sym (map-append f (flat_map step_terms r.path) (r.root ∷ [])))
      ∙ ap (λ l. f r.share ∷ l) (sym (map-append f r.ty.sizes (flat_map step_terms r.path ++ r.root ∷ [])))

  part_mapped_terms : (part : Sep) → part_terms (part_mapped f part) ≡ map f (part_terms part)
  part_mapped_terms (FieldAt region value) = ap (λ l. l ++ f value ∷ []) (region_mapped_terms region) ∙ sym (map-append f (region_terms region) (value ∷ []))
  part_mapped_terms (Padding region) = region_mapped_terms region
  part_mapped_terms (Valid address) = refl
  part_mapped_terms Anything = refl
  part_mapped_terms (Predicate x terms) = refl

  local_mapped_terms : (locals : List Local) → local_terms (map (local_mapped f) locals) ≡ map f (local_terms locals)
  local_mapped_terms [] = refl
  local_mapped_terms (l ∷ locals) = ap (λ ts. f l.term ∷ ts) (local_mapped_terms locals)

  pub mapped_terms : (props : List PlainFormula) (a : Assertion) → terms_in (body_mapped f props a) ≡ map f (terms_in a)
  mapped_terms props a =
      ap (λ l. l ++ flat_map part_terms (map (part_mapped f) a.parts)) (local_mapped_terms a.locals)
      ∙ ap (λ l. map f (local_terms a.locals) ++ l) (flat_mapped part_terms (part_mapped f) part_mapped_terms a.parts)
      ∙ sym (map-append f (local_terms a.locals) (flat_map part_terms a.parts))

-- the pair of terms that is put into the holes
into_agrees : (name : List ℕ) (from to : Plain) (s : Sort) → sort_of to ≡ Some s → Agrees (puts (into_holes name from to)) name s
into_agrees name from to s e = record { own = own (bytes_eq name name) ((bytes_eq-Decides name name).1 refl); others = λ v r i. other (bytes_eq v name) r i }
  where
    own : (b : Bool) → b ≡ true → HasSortOf (cond b (Some (Put to)) (cond b (Some (Put from)) None)) s
    own true i = e
    own false i = absurd cc

    other : (b : Bool) (r : Sort) → b ≡ false → HasSortOf (cond b (Some (Put to)) (cond b (Some (Put from)) None)) r
    other true r i = absurd cc
    other false r i = tt

pub formula_holes_agree : (name : List ℕ) (from to : Plain) (s : Sort) (f : PlainFormula) → sort_of from ≡ Some s → sort_of to ≡ Some s → formula_mentions name f ≡ false → bound_in name f ≡ false → FormulaSortsAgree (puts (into_holes name from to)) (formula_opened from (hole_for name (sort_of from)) f)
formula_holes_agree name from to s f i j e b =
    subst (λ o. FormulaSortsAgree (puts (into_holes name from to)) (formula_opened from (hole_for name o) f)) (sym i)
    (opened_formula_agrees name s from (puts (into_holes name from to)) (into_agrees name from to s j) f e b)

pub assertion_holes_agree : (name : List ℕ) (from to : Plain) (s : Sort) (a : Assertion) → sort_of from ≡ Some s → sort_of to ≡ Some s → IsNowhere from a.existentials a.props (terms_in a) name → AssertionSortsAgree (puts (into_holes name from to)) (assertion_opened from (hole_for name (sort_of from)) a)
assertion_holes_agree name from to s a i j e =
    let here : Plain = At (Variable name s) Done in
    let within : Changes = inside (puts (into_holes name from to)) (assertion_opened from here a) in
    let agree : Agrees within name s = existentials name s (puts (into_holes name from to)) a.existentials (new_existentials (puts (into_holes name from to)) (assertion_opened from here a)) (into_agrees name from to s j) in
    subst (λ o. AssertionSortsAgree (puts (into_holes name from to)) (assertion_opened from (hole_for name o) a)) (sym i) (
      subst (FormulasSortsAgree within) (formulas_opened_plain from here a.props) (opened_formulas_agree name s from within agree (formulas a.props) e.free e.bound),
      subst (AllSortsAgree within) (opened_plains from here (terms_in a) ∙ ap plains (sym (mapped_terms (opened from here) (map (formula_opened from here) a.props) a))) (all_opened_agree name s from within agree (plains (terms_in a)) e.in_terms),
    )
