-- A term that another one becomes, which keeps its sort and its value.
use Rattle.std.proofs.Common.{◌≡◌, ℤ, false, List, [], ◌∷◌, Some, refl, sym, ap, ◌∙◌, subst}
use Rattle.std.specs.Prelude.{option_and_then}
use Rattle.floyd_tree_sorts.specs.declared.heads.Head.{Head}
use Rattle.floyd_tree_sorts.specs.declared.heads.Head.TheVariants.{Fun}
use Rattle.floyd_tree_sorts.specs.declared.heads.Head.TheVariants as h
use Rattle.floyd_tree_sorts.specs.declared.operators.Operator.{Operator}
use Rattle.floyd_tree_sorts.specs.declared.sorts.Sort.{Sort, Z}
use Rattle.floyd_tree_sorts.specs.Table.{sort_at}
use Rattle.floyd_tree.specs.Plain.{Plain, Plains, At, Done, More}
use Rattle.floyd_tree.specs.WellSorted.{sort_of, sorts_of, with_first}
use Rattle.floyd_tree_values.specs.BuiltIns.{Env, applied, operator_value}
use Rattle.floyd_tree_values.specs.Data.{Datum, Number}
use Rattle.floyd_tree_values.specs.Defaults.{undefined}
use Rattle.floyd_tree_values.specs.Means.{Defs, Means, AllMean, built_in, call, is_fun, none, more}
use Rattle.floyd_tree_values.proofs.OneValue.{applies, calls, no_data, split}
use Rattle.floyd_fieldpath.specs.Nested.{literal}
use Rattle.floyd_fieldpath.specs.Sums.{literal_in, two}
use Rattle.floyd_simplifying.proofs.Sorting.{number_is}

module _ (defs : Defs) (env : Env) where
  pub record Kept (s : Sort) (t u : Plain) : Type 0 where
    pub sort : sort_of u ≡ Some s
    pub means : (d : Datum) → Means defs env t d → Means defs env u d

  pub record AllKept (ss : List Sort) (ts us : Plains) : Type 0 where
    pub sorts : sorts_of us ≡ Some ss
    pub mean : (ds : List Datum) → AllMean defs env ts ds → AllMean defs env us ds

  pub itself : (s : Sort) (t : Plain) → sort_of t ≡ Some s → Kept s t t
  itself s t e = record { sort = e; means = λ d m. m }

  pub onwards : (s : Sort) (t u v : Plain) → Kept s t u → Kept s u v → Kept s t v
  onwards s t u v a b = record { sort = b.sort; means = λ d m. b.means d (a.means d m) }

  pub all_itself : (ss : List Sort) (ts : Plains) → sorts_of ts ≡ Some ss → AllKept ss ts ts
  all_itself ss ts e = record { sorts = e; mean = λ ds m. m }

  pub more_kept : (s : Sort) (ss : List Sort) (t u : Plain) (ts us : Plains) → Kept s t u → AllKept ss ts us → AllKept (s ∷ ss) (More t ts) (More u us)
  more_kept s ss t u ts us a b = record {
    sorts = ap (λ o. with_first o (sorts_of us)) a.sort ∙ ap (with_first (Some s)) b.sorts;
    mean = λ ds m.
        let p = split m in
        subst (AllMean defs env (More u us)) (sym p.is) (more (a.means p.datum p.first) (b.mean p.data' p.rest));
  }

  -- a node over kids that become others
  node_means : (head : Head) (ts us : Plains) (d : Datum) → ((s : Sort) → sort_of (At head ts) ≡ Some s → sort_of (At head us) ≡ Some s) → ((ds : List Datum) → AllMean defs env ts ds → AllMean defs env us ds) → Means defs env (At head ts) d → Means defs env (At head us) d
  node_means (Fun name sorts s) ts us d i k m =
      let p = calls m in
      call {bindings = p.opened.bindings} {term = p.opened.term} (k p.data' p.mean) p.is p.term
  node_means head ts us d i k m =
      let p = applies {head = head} refl m in
      subst (Means defs env (At head us)) (sym p.is) (built_in {head = head} refl (i p.sort p.sorted) (k p.data' p.mean))

  pub node_kept : (head : Head) (ss : List Sort) (s : Sort) (ts us : Plains) → sorts_of ts ≡ Some ss → sort_at head ss ≡ Some s → AllKept ss ts us → Kept s (At head ts) (At head us)
  node_kept head ss s ts us e f k =
      let same : sort_of (At head us) ≡ sort_of (At head ts) = ap (option_and_then (sort_at head)) (k.sorts ∙ sym e) in
      record {
        sort = same ∙ ap (option_and_then (sort_at head)) e ∙ f;
        means = λ d m. node_means head ts us d (λ r i. same ∙ i) k.mean m;
      }

  -- the data of one kid, and of two
  pub record AppliesOne (head : Head) (a : Plain) (d : Datum) : Type 0 where
    pub sort : Sort
    pub datum : Datum
    pub means : Means defs env a datum
    pub is : d ≡ applied defs.structs env head sort (datum ∷ [])

  pub applies_one : (head : Head) (a : Plain) (d : Datum) → is_fun head ≡ false → Means defs env (At head (More a Done)) d → AppliesOne head a d
  applies_one head a d f m =
      let p = applies {head = head} f m in
      let q = split p.mean in
      record {
        sort = p.sort;
        datum = q.datum;
        means = q.first;
        is = p.is ∙ ap (applied defs.structs env head p.sort) (q.is ∙ ap (λ ds. q.datum ∷ ds) (no_data q.rest));
      }

  pub record AppliesTwo (operator : Operator) (a b : Plain) (d : Datum) : Type 0 where
    pub sort : Sort
    pub first : Datum
    pub second : Datum
    pub left : Means defs env a first
    pub right : Means defs env b second
    pub both : AllMean defs env (More a (More b Done)) (first ∷ second ∷ [])
    pub sorted : sort_of (two operator a b) ≡ Some sort
    pub is : d ≡ operator_value operator sort first second undefined

  pub applies_two : (operator : Operator) (a b : Plain) (d : Datum) → Means defs env (two operator a b) d → AppliesTwo operator a b d
  applies_two operator a b d m =
      let p = applies {head = h.Operator operator} refl m in
      let q = split p.mean in
      let r = split q.rest in
      record {
        sort = p.sort;
        first = q.datum;
        second = r.datum;
        left = q.first;
        right = r.first;
        both = more q.first (more r.first none);
        sorted = p.sorted;
        is = p.is ∙ ap (applied defs.structs env (h.Operator operator) p.sort) (q.is ∙ ap (λ ds. q.datum ∷ ds) (r.is ∙ ap (λ ds. r.datum ∷ ds) (no_data r.rest)));
      }

  -- literals
  pub literal_means : (a : Plain) (z : ℤ) (d : Datum) → literal_in a ≡ Some z → Means defs env a d → d ≡ Number z
  literal_means (At (h.Literal y) kids) z d e m =
      let p = applies {head = h.Literal y} refl m in
      p.is ∙ ap Number (number_is y z e)
  literal_means (At head kids) z d e m = absurd cc

  pub means_literal : (z : ℤ) → Means defs env (literal z) (Number z)
  means_literal z = built_in {head = h.Literal z} {s = Z} refl refl none
