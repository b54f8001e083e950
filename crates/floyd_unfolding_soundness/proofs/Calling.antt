-- What a call of a FUN is replaced by has the sort and the value of the call, and is well formed.
use Rattle.std.proofs.Common.{◌≡◌, ℕ, Bool, true, false, cond, List, [], ◌∷◌, length, Option, Some, None, Result, Ok, Err, refl, sym, ◌∙◌, ap, subst, arith}
use Rattle.std.specs.Prelude.{bytes_eq, option_and_then}
use Rattle.std.specs.List.{AllByRecursion}
use Rattle.std.specs.Map.{lookup}
use Rattle.std.proofs.lemmas.Bool.{and_parts}
use Rattle.floyd_text.specs.declared.refusal.No.{No}
use Rattle.floyd_tree_sorts.specs.declared.sorts.Sort.{Sort}
use Rattle.floyd_tree.specs.Made.{fits}
use Rattle.floyd_tree.specs.Plain.{Plain, kids_of, plains}
use Rattle.floyd_tree.specs.WellSorted.{sort_of}
use Rattle.floyd_tree_values.specs.BuiltIns.{Env}
use Rattle.floyd_tree_values.specs.Data.{Datum}
use Rattle.floyd_tree_values.specs.Funs as f
use Rattle.floyd_tree_values.specs.Means.{AllMean, Defs, Means, datum_of, inside}
use Rattle.floyd_tree_values.specs.Rules.{CallsFrom, DefsKeep, Scope, Suits}
use Rattle.floyd_tree_values.proofs.OneValue.{one_list}
use Rattle.floyd_truth.specs.Laws.{Changed}
use Rattle.floyd_truth.specs.Capture.{Becomes, Put}
use Rattle.floyd_truth.specs.Replace.{puts, replaced}
use Rattle.floyd_truth.proofs.InChanged.{means_in_changed, sort_after}
use Rattle.floyd_truth.proofs.OneTruth.{giving}
use Rattle.floyd_truth.proofs.Tracks.{means_like}
use Rattle.floyd_assert_trees.specs.declared.binder.Binder.{Binder}
use Rattle.floyd_assert_trees.specs.declared.items.Fun.{Fun}
use Rattle.floyd_assert_trees.specs.declared.items.FunBody.{FunBody}
use Rattle.floyd_assert_trees.specs.declared.items.FunBody.TheVariants.{Whole, Cases}
use Rattle.floyd_assert_trees.specs.Meanings.{fun_of}
use Rattle.floyd_assert_instances.specs.Instances.{have_sorts, is_sort, pairs, taken}
use Rattle.floyd_goal_forms.specs.Items.{sorts_with}
use Rattle.floyd_goal_scopes.proofs.Terms.{term_known}
use Rattle.floyd_funspec_laws.proofs.Made.{goes, sort_is, taken_is, within}
use Rattle.floyd_clause_forms.proofs.Leading.{counted}
use Rattle.floyd_clause_laws.specs.Laws.{AllFit}
use Rattle.floyd_clause_laws.proofs.Entries.{Entry, after, arguments, data_of, known, put_data, scope_of, terms_of}
use Rattle.floyd_simplifying.specs.Simplified.{some_of}
use Rattle.floyd_unfolding.specs.Calls.{Opening, TakesTerms, meaning, meaning_at, meaning_by, opened_by, term_with}
use Rattle.floyd_unfolding_soundness.proofs.Opening.{opens, the_case}
use Rattle.floyd_unfolding_soundness.proofs.Putting.{Allowed, IsPut, PutAllowed, both_allowed, kids_allowed, parts_allowed, placed, term_put}

-- ---- what a meaning is made of

pub record Meant (own : Fun) (ts : List Plain) (made : Plain) : Type 0 where
  pub by : List (List ℕ × Plain)
  pub taken_by : taken own.arguments ts ≡ Ok by
  pub opening : Opening
  pub opened_is : opened_by own.body ts by ≡ Some opening
  pub is : made ≡ replaced (puts opening.0) opening.1

pub meant : (own : Fun) (ts : List Plain) (made : Plain) → meaning own ts ≡ Ok (Some made) → Meant own ts made
meant own ts made e =
    let g = goes (taken own.arguments ts) (meaning_by own.body ts) (Some made) e in
    by g.value g.first (opened_by own.body ts g.value) refl g.then'
  where
    of_term : (x : Result Plain No) → some_of x ≡ Ok (Some made) → x ≡ Ok made
    of_term (Ok t) i = ap Ok (same t made i)
      where
        same : (t u : Plain) → ◌≡◌ {A = Result (Option Plain) No} (Ok (Some t)) (Ok (Some u)) → t ≡ u
        same t u i = cc
    of_term (Err why) i = absurd cc

    by : (pairs : List (List ℕ × Plain)) → taken own.arguments ts ≡ Ok pairs → (o : Option Opening) → opened_by own.body ts pairs ≡ o → meaning_at o ≡ Ok (Some made) → Meant own ts made
    by pairs i None j k = absurd cc
    by pairs i (Some o) j k = record { by = pairs; taken_by = i; opening = o; opened_is = j; is = within fits (replaced (puts o.0) o.1) made (of_term (term_with o.0 o.1) k) }

module _ (defs : Defs) (env : Env) (scope : Scope) (suits : Suits scope env) (keeps : DefsKeep defs) (name : List ℕ) (own : Fun) (takes : TakesTerms own) (there : f.fun_of defs.funs name ≡ Some (fun_of (name, own))) where
  abbrev IsPutThere : Option Becomes → Type 0
  IsPutThere o = IsPut defs.structs scope defs.funs o

  abbrev Fine : Plain → Type 0
  Fine t = Allowed defs.structs scope defs.funs t

  -- the terms have the sorts of the arguments
  all_fit : (bs : List Binder) (ts : List Plain) → length ts ≡ length bs → have_sorts bs ts ≡ true → AllByRecursion Fine ts → AllFit defs scope (sorts_with bs) ts
  all_fit [] [] l h k = tt
  all_fit [] (t ∷ ts) l h k = absurd (omega (arith, l))
  all_fit (b ∷ bs) [] l h k = absurd (omega (arith, l))
  all_fit (b ∷ bs) (t ∷ ts) l h k =
      let p = and_parts (is_sort b.sort (sort_of t)) (have_sorts bs ts) h in
      (record { sorted = sort_is b.sort (sort_of t) p.0; allowed = k.0 }, all_fit bs ts (omega (arith, l)) p.1 k.1)

  pairs_allowed : (bs : List Binder) (ts : List Plain) → AllByRecursion Fine ts → PutAllowed defs.structs scope defs.funs (pairs bs ts)
  pairs_allowed [] ts h = tt
  pairs_allowed (b ∷ bs) [] h = tt
  pairs_allowed (b ∷ bs) (t ∷ ts) h = (h.0, pairs_allowed bs ts h.1)

  opened_allowed : (b : FunBody) (ts : List Plain) (by : List (List ℕ × Plain)) (o : Opening) → opened_by b ts by ≡ Some o → AllByRecursion Fine ts → PutAllowed defs.structs scope defs.funs by → PutAllowed defs.structs scope defs.funs o.0
  opened_allowed (Whole t) ts by o e h k = subst (λ (x : Opening). PutAllowed defs.structs scope defs.funs x.0) (same (by, t) o e) k
    where
      same : (x y : Opening) → opened_by (Whole x.1) ts x.0 ≡ Some y → x ≡ y
      same x y i = cc
  opened_allowed (Cases cases) [] by o e h k = absurd cc
  opened_allowed (Cases cases) (t ∷ ts) by o e h k =
      let c = the_case by cases t o e in
      subst (λ (x : Opening). PutAllowed defs.structs scope defs.funs x.0) c.is
      (both_allowed defs.structs scope defs.funs _ by (parts_allowed defs.structs scope defs.funs c.case.pattern (kids_of t) (kids_allowed defs.structs scope defs.funs t h.0)) k)

  -- each name of the scope has an allowed term
  entries_lead : (es : List (Entry defs env)) → PutAllowed defs.structs scope defs.funs (terms_of defs env es) → (v : List ℕ) (s : Sort) → lookup (bytes_eq v) (scope_of defs env es) ≡ Some s → IsPutThere (lookup (bytes_eq v) (puts (terms_of defs env es)))
  entries_lead [] h v s e = absurd cc
  entries_lead (x ∷ es) h v s e = by (entries_lead es h.1 v s) (bytes_eq v x.name) e
    where
      by : (lookup (bytes_eq v) (scope_of defs env es) ≡ Some s → IsPutThere (lookup (bytes_eq v) (puts (terms_of defs env es)))) → (c : Bool) → cond c (Some x.sort) (lookup (bytes_eq v) (scope_of defs env es)) ≡ Some s →
          IsPutThere (cond c (Some (Put x.term)) (lookup (bytes_eq v) (puts (terms_of defs env es))))
      by go true i = h.0
      by go false i = go i

  -- ---- the meaning

  pub record Replaces (ts : List Plain) (made : Plain) : Type 0 where
    pub sort : sort_of made ≡ Some own.result
    pub allowed : Allowed defs.structs scope defs.funs made
    pub means : (ds : List Datum) → AllMean defs env (plains ts) ds → (o : f.Opened) → f.called defs.funs name ds ≡ Some o → (d : Datum) → Means defs (inside env o.bindings) o.term d → Means defs env made d

  pub replaces : (ts : List Plain) (made : Plain) → AllByRecursion Fine ts → meaning own ts ≡ Ok (Some made) → Replaces ts made
  replaces ts made allowed e =
      let q = meant own ts made e in
      let o = q.opening in
      let t = taken_is own.arguments ts q.by q.taken_by in
      let fit = all_fit own.arguments ts (counted own.arguments ts q.by q.taken_by) t.sorts allowed in
      let args = arguments defs env scope suits keeps own.arguments ts fit in
      let at = placed defs.structs name (fun_of (name, own)) defs.funs keeps there in
      let x = opens defs env scope suits keeps at.before name own ts args at.keeps.body fit q.by (t.is ∙ args.terms) o q.opened_is in
      let bindings = data_of defs env x.entries in
      let data' = put_data defs env bindings in
      let agrees = takes ts q.by q.taken_by o q.opened_is in
      let changed : Changed defs env o.0 data' = subst (λ by. Changed defs env by data') (sym x.terms_are) (after defs env x.entries) in
      let by_allowed = subst (PutAllowed defs.structs scope defs.funs) (sym t.is) (pairs_allowed own.arguments ts allowed) in
      let put_allowed = subst (PutAllowed defs.structs scope defs.funs) x.terms_are (opened_allowed own.body ts q.by o q.opened_is allowed by_allowed) in
      let leads : (v : List ℕ) (s : Sort) → lookup (bytes_eq v) (scope_of defs env x.entries) ≡ Some s → IsPutThere (lookup (bytes_eq v) (puts o.0)) =
      λ v s i. subst (λ by. IsPutThere (lookup (bytes_eq v) (puts by))) (sym x.terms_are) (entries_lead x.entries put_allowed v s i) in
      record {
        sort = subst (λ u. sort_of u ≡ Some own.result) (sym q.is) (sort_after (puts o.0) o.1 own.result x.fits.fits.sorted agrees);
        allowed = subst (Allowed defs.structs scope defs.funs) (sym q.is)
            (term_put defs.structs (scope_of defs env x.entries) scope at.before defs.funs (fun_of (name, own)) x.parts at.known there o.0 leads o.1 x.fits.fits.allowed);
        means = λ ds m p k d n.
            let same : args.data' ≡ ds = one_list defs args.mean ds m in
            let here : f.called defs.funs name args.data' ≡ Some (record { bindings = bindings; term = o.1 }) = ap (option_and_then (λ (g : f.Fun). f.opened g args.data')) there ∙ x.stands_for in
            let is : p ≡ record { bindings = bindings; term = o.1 } = one p (record { bindings = bindings; term = o.1 }) (sym k ∙ ap (f.called defs.funs name) (sym same) ∙ here) in
            let own_term : Means defs (inside env bindings) o.1 d = subst (λ (y : f.Opened). Means defs (inside env y.bindings) y.term d) is n in
            let put_term : Means defs (giving env data') o.1 d = means_like defs env (datum_of bindings) data' o.1 (λ y i. known defs env x.entries y (term_known y defs.structs (scope_of defs env x.entries) (CallsFrom at.before (fun_of (name, own)) x.parts) o.1 x.fits.fits.allowed i)) d own_term in
            subst (λ u. Means defs env u d) (sym q.is) ((means_in_changed defs env o.0 data' changed o.1 own.result d x.fits.fits.sorted agrees).1 put_term);
      }
    where
      one : (a b : f.Opened) → Some a ≡ Some b → a ≡ b
      one a b e = cc
