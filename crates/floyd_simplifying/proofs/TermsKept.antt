-- A term keeps its sort and its value as what it is simplified to.
use Rattle.std.proofs.Common.{◌≡◌, List, [], ◌∷◌, Option, Some, None, Result, Ok, Err, refl, sym, ap, subst}
use Rattle.std.specs.Option.{unwrap_or}
use Rattle.floyd_text.specs.declared.refusal.No.{No}
use Rattle.floyd_tree_sorts.specs.declared.sorts.Sort.{Sort}
use Rattle.floyd_tree_sorts.specs.Table.{sort_at}
use Rattle.floyd_tree.specs.Plain.{Plain, Plains, At, Done, More}
use Rattle.floyd_tree.specs.WellSorted.{sort_of, sorts_of}
use Rattle.floyd_tree_values.specs.BuiltIns.{Env}
use Rattle.floyd_tree_values.specs.Data.{Datum, HaveSorts}
use Rattle.floyd_tree_values.specs.Means.{Defs, AllMean, more, none}
use Rattle.floyd_tree_values.specs.Rules.{Scope, Suits, CallsOf, EachAllowed, AllAllowed, DefsKeep}
use Rattle.floyd_tree_values.proofs.OneValue.{one_list}
use Rattle.floyd_goal_formulas.proofs.Values.{first_some, valued}
use Rattle.floyd_fieldpath.specs.Written.{written}
use Rattle.floyd_simplifying.specs.Simplified.{Step, behind, both, over_kids, simplified, simplified_in, step}
use Rattle.floyd_simplifying.proofs.Keeping.{AllKept, Kept, all_itself, more_kept, node_kept, onwards}
use Rattle.floyd_simplifying.proofs.ListsKept.{on_ok_some, written_is}
use Rattle.floyd_simplifying.proofs.Sorting.{kids_sorted}
use Rattle.floyd_simplifying.proofs.StepsKept.{step_kept}

-- what a first one and others become together
pub record Both {A B C : Type 0} (make : A → B → C) (a : A) (b : B) (x : Result (Option A) No) (y : Result (Option B) No) (r : Option C) : Type 0 where
  pub first : Option A
  pub rest : Option B
  pub first_is : x ≡ Ok first
  pub rest_is : y ≡ Ok rest
  pub is : make (unwrap_or first a) (unwrap_or rest b) ≡ unwrap_or r (make a b)

pub both_are : {A B C : Type 0} (make : A → B → C) (a : A) (b : B) (x : Result (Option A) No) (y : Result (Option B) No) (r : Option C) → both make a b x y ≡ Ok r → Both make a b x y r
both_are make a b (Ok None) (Ok None) r e =
    let same : None ≡ r = cc in
    record { first = None; rest = None; first_is = refl; rest_is = refl; is = ap (λ q. unwrap_or q (make a b)) same }
both_are make a b (Ok None) (Ok (Some u)) r e =
    let same : Some (make a u) ≡ r = cc in
    record { first = None; rest = Some u; first_is = refl; rest_is = refl; is = ap (λ q. unwrap_or q (make a b)) same }
both_are make a b (Ok (Some t)) (Ok rest) r e =
    let same : Some (make t (unwrap_or rest b)) ≡ r = cc in
    record { first = Some t; rest = rest; first_is = refl; rest_is = refl; is = ap (λ q. unwrap_or q (make a b)) same }
both_are make a b (Ok None) (Err refusal) r e = absurd cc
both_are make a b (Ok (Some t)) (Err refusal) r e = absurd cc
both_are make a b (Err refusal) y r e = absurd cc

-- a node, and what takes its place
behind_is : (node : Plain) (x : Step) (r : Option Plain) → behind node x ≡ Ok r → (q : Option Plain) × (x ≡ Ok q) × (Some (unwrap_or q node) ≡ r)
behind_is node (Ok None) r e = (None, refl, cc)
behind_is node (Ok (Some t)) r e = (Some t, refl, cc)
behind_is node (Err refusal) r e = absurd cc

module _ (defs : Defs) (scope : Scope) (env : Env) (keeps : DefsKeep defs) (suits : Suits scope env) where
  abbrev pub Allowed : Plain → Type 0
  Allowed t = EachAllowed defs.structs scope (CallsOf defs.funs) t

  abbrev pub AreAllowed : Plains → Type 0
  AreAllowed ts = AllAllowed defs.structs scope (CallsOf defs.funs) ts

  pub values : (ts : Plains) (ss : List Sort) → AreAllowed ts → sorts_of ts ≡ Some ss → (ds : List Datum) × AllMean defs env ts ds × HaveSorts ss ds
  values Done ss a e = let nothing : [] ≡ ss = cc in ([], none, subst (λ rs. HaveSorts rs []) nothing tt)
  values (More t ts) ss a e =
      let p = first_some (sort_of t) (sorts_of ts) ss e in
      let v = valued defs scope env keeps suits t p.0 a.0 p.2 in
      let w = values ts p.1 a.1 p.3 in
      (v.0 ∷ w.0, more v.1 w.1, subst (λ rs. HaveSorts rs (v.0 ∷ w.0)) (sym p.4) (v.2, w.2))

  -- the data of what kids become have the sorts of the kids
  typed : (ts us : Plains) (ss : List Sort) → AreAllowed ts → sorts_of ts ≡ Some ss → AllKept defs env ss ts us → (ds : List Datum) → AllMean defs env us ds → HaveSorts ss ds
  typed ts us ss a e k ds m =
      let v = values ts ss a e in
      subst (HaveSorts ss) (one_list defs (k.mean v.0 v.1) ds m) v.2

  mutual
    pub term_kept : (t : Plain) (s : Sort) → Allowed t → sort_of t ≡ Some s → (r : Option Plain) → simplified t ≡ Ok r → Kept defs env s t (unwrap_or r t)
    term_kept (At head kids) s a e r i =
        let k = kids_sorted head (sorts_of kids) s e in
        by k.0 k.1 k.2 (λ us j. terms_kept kids k.0 a.1 k.1 (Some us) j) (simplified_in kids) refl i
      where
        by : (ss : List Sort) → sorts_of kids ≡ Some ss → sort_at head ss ≡ Some s → ((us : Plains) → simplified_in kids ≡ Ok (Some us) → AllKept defs env ss kids us) → (x : Result (Option Plains) No) → simplified_in kids ≡ x → over_kids head kids x ≡ Ok r → Kept defs env s (At head kids) (unwrap_or r (At head kids))
        by ss f g all (Ok None) j i = step_kept defs env s head kids ss f g (typed kids kids ss a.1 f (all_itself defs env ss kids f)) r i
        by ss f g all (Ok (Some us)) j i =
            let p = on_ok_some (written (At head us)) (λ node. behind node (step node)) r i in
            let node : At head us ≡ p.0 = written_is (At head us) p.0 p.1 in
            let q = behind_is (At head us) (step (At head us)) r (subst (λ u. behind u (step u) ≡ Ok r) (sym node) p.2) in
            subst (λ o. Kept defs env s (At head kids) (unwrap_or o (At head kids))) q.2
            (onwards defs env s (At head kids) (At head us) (unwrap_or q.0 (At head us)) (node_kept defs env head ss s kids us f g (all us j))
            (step_kept defs env s head us ss (all us j).sorts g (typed kids us ss a.1 f (all us j)) q.0 q.1))
        by ss f g all (Err refusal) j i = absurd cc

    pub terms_kept : (ts : Plains) (ss : List Sort) → AreAllowed ts → sorts_of ts ≡ Some ss → (r : Option Plains) → simplified_in ts ≡ Ok r → AllKept defs env ss ts (unwrap_or r ts)
    terms_kept Done ss a e r i =
        let nothing : None ≡ r = cc in
        subst (λ q. AllKept defs env ss Done (unwrap_or q Done)) nothing (all_itself defs env ss Done e)
    terms_kept (More t ts) ss a e r i =
        let p = first_some (sort_of t) (sorts_of ts) ss e in
        let b = both_are More t ts (simplified t) (simplified_in ts) r i in
        subst (λ rs. AllKept defs env rs (More t ts) (unwrap_or r (More t ts))) (sym p.4)
        (subst (AllKept defs env (p.0 ∷ p.1) (More t ts)) b.is
        (more_kept defs env p.0 p.1 t (unwrap_or b.first t) ts (unwrap_or b.rest ts) (term_kept t p.0 a.0 p.2 b.first b.first_is) (terms_kept ts p.1 a.1 p.3 b.rest b.rest_is)))
