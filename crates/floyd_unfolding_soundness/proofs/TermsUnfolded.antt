-- A term keeps its sort and its value with what calls mean in their place, and stays well formed.
use Rattle.std.proofs.Common.{◌≡◌, ℕ, Bool, true, false, List, ◌∷◌, Option, Some, None, Result, Ok, Err, refl, sym, ◌∙◌, ap, subst}
use Rattle.std.specs.Option.{unwrap_or}
use Rattle.std.specs.Prelude.{bytes_eq, if◌then◌else◌, option_and_then}
use Rattle.std.proofs.lemmas.Slice.Eq.{bytes_eq-Decides}
use Rattle.floyd_text.specs.declared.refusal.No.{No}
use Rattle.floyd_tree_sorts.specs.declared.heads.Head.{Head}
use Rattle.floyd_tree_sorts.specs.declared.heads.Head.TheVariants as h
use Rattle.floyd_tree_sorts.specs.declared.sorts.Sort.{Sort}
use Rattle.floyd_tree_sorts.specs.Sorts.{same_sorts}
use Rattle.floyd_tree_sorts.specs.Table.{sort_at, when}
use Rattle.floyd_tree.specs.Plain.{At, Done, More, Plain, Plains, listed}
use Rattle.floyd_tree.specs.WellSorted.{sort_of, sorts_of}
use Rattle.floyd_tree_values.specs.BuiltIns.{Env}
use Rattle.floyd_tree_values.specs.Funs as f
use Rattle.floyd_tree_values.specs.Means.{AllMean, Defs}
use Rattle.floyd_tree_values.specs.Rules.{CallsOf, DefsKeep, IsAllowed, Scope, Suits}
use Rattle.floyd_tree_values.proofs.OneValue.{calls}
use Rattle.floyd_assert_trees.specs.declared.items.Fun.{Fun}
use Rattle.floyd_assert_trees.specs.Meanings.{fun_of}
use Rattle.floyd_fieldpath.specs.Written.{written}
use Rattle.floyd_goal_formulas.proofs.Values.{first_some}
use Rattle.floyd_rewriting.proofs.TermsOpened.{plains_listed}
use Rattle.floyd_simplifying.specs.Simplified.{Step, some_of}
use Rattle.floyd_simplifying.proofs.Keeping.{AllKept, Kept, all_itself, itself, more_kept, node_kept, onwards}
use Rattle.floyd_simplifying.proofs.ListsKept.{written_is}
use Rattle.floyd_simplifying.proofs.Sorting.{kids_sorted}
use Rattle.floyd_simplifying.proofs.TermsKept.{both_are}
use Rattle.floyd_unfolding.specs.Calls.{TakesTerms, meaning}
use Rattle.floyd_unfolding.specs.Unfolded.{node_over, or_node, over_kids, step, unfolded, unfolded_in}
use Rattle.floyd_unfolding_soundness.proofs.Calling.{replaces}
use Rattle.floyd_unfolding_soundness.proofs.Putting.{Allowed, AreAllowed, head_allowed, list_allowed}

abbrev step_ok : Option Plain → Step
step_ok r = Ok r

same_step : (a b : Option Plain) → step_ok a ≡ step_ok b → a ≡ b
same_step a b e = cc

when_is : (test : Bool) (a s : Sort) → when test a ≡ Some s → a ≡ s
when_is true a s e = cc
when_is false a s e = absurd cc

module _ (defs : Defs) (env : Env) (scope : Scope) (suits : Suits scope env) (keeps : DefsKeep defs) (name : List ℕ) (own : Fun) (takes : TakesTerms own) (there : f.fun_of defs.funs name ≡ Some (fun_of (name, own))) where
  abbrev pub Fine : Plain → Type 0
  Fine t = Allowed defs.structs scope defs.funs t

  abbrev pub AreFine : Plains → Type 0
  AreFine ts = AreAllowed defs.structs scope defs.funs ts

  pub record Good (s : Sort) (t u : Plain) : Type 0 where
    pub kept : Kept defs env s t u
    pub allowed : Allowed defs.structs scope defs.funs u

  pub record AllGood (ss : List Sort) (ts us : Plains) : Type 0 where
    pub kept : AllKept defs env ss ts us
    pub allowed : AreAllowed defs.structs scope defs.funs us

  as_it_is : (s : Sort) (t : Plain) → sort_of t ≡ Some s → Fine t → Good s t t
  as_it_is s t e a = record { kept = itself defs env s t e; allowed = a }

  -- ---- one node

  -- a call of the FUN
  called : (s : Sort) (n : List ℕ) (sorts : List Sort) (r : Sort) (us : Plains) (ss : List Sort) (made : Plain) → n ≡ name → sort_at (h.Fun n sorts r) ss ≡ Some s → Fine (At (h.Fun n sorts r) us) → meaning own (listed us) ≡ Ok (Some made) → Good s (At (h.Fun n sorts r) us) made
  called s n sorts r us ss made same g a e =
      let k = replaces defs env scope suits keeps name own takes there (listed us) made (list_allowed defs.structs scope defs.funs us a.1) e in
      let own_is : a.0.0 ≡ fun_of (name, own) = one a.0.0 (fun_of (name, own)) (sym a.0.1 ∙ ap (f.fun_of defs.funs) same ∙ there) in
      let result : own.result ≡ s = ap (λ (x : f.Fun). x.result) (sym own_is) ∙ a.0.3 ∙ when_is (same_sorts sorts ss) r s g in
      record {
        kept = record {
          sort = k.sort ∙ ap Some result;
          means = λ d m.
              let p = calls m in
              k.means p.data' (subst (λ ts. AllMean defs env ts p.data') (sym (plains_listed us)) p.mean) p.opened (ap (λ x. f.called defs.funs x p.data') (sym same) ∙ p.is) d p.term;
        };
        allowed = k.allowed;
      }
    where
      one : (x y : f.Fun) → Some x ≡ Some y → x ≡ y
      one x y i = cc

  step_good : (s : Sort) (head : Head) (us : Plains) (ss : List Sort) → sorts_of us ≡ Some ss → sort_at head ss ≡ Some s → Fine (At head us) → (r : Option Plain) → step name own head (listed us) ≡ Ok r → Good s (At head us) (unwrap_or r (At head us))
  step_good s (h.Fun n sorts q) us ss e g a r i = by (bytes_eq n name) refl i
    where
      sorted : sort_of (At (h.Fun n sorts q) us) ≡ Some s
      sorted = ap (option_and_then (sort_at (h.Fun n sorts q))) e ∙ g

      of_meaning : n ≡ name → (o : Option Plain) → meaning own (listed us) ≡ Ok o → Good s (At (h.Fun n sorts q) us) (unwrap_or o (At (h.Fun n sorts q) us))
      of_meaning same None j = as_it_is s (At (h.Fun n sorts q) us) sorted a
      of_meaning same (Some made) j = called s n sorts q us ss made same g a j

      by : (b : Bool) → bytes_eq n name ≡ b → (if b then meaning own (listed us) else Ok None) ≡ Ok r → Good s (At (h.Fun n sorts q) us) (unwrap_or r (At (h.Fun n sorts q) us))
      by true j k = of_meaning ((bytes_eq-Decides n name).0 j) r k
      by false j k = subst (λ o. Good s (At (h.Fun n sorts q) us) (unwrap_or o (At (h.Fun n sorts q) us))) (same_step None r k) (as_it_is s (At (h.Fun n sorts q) us) sorted a)
  step_good s head us ss e g a r i =
      subst (λ o. Good s (At head us) (unwrap_or o (At head us))) (same_step None r i) (as_it_is s (At head us) (ap (option_and_then (sort_at head)) e ∙ g) a)

  -- a node over other kids
  over_good : (s : Sort) (head : Head) (kids us : Plains) (ss : List Sort) → sorts_of kids ≡ Some ss → sort_at head ss ≡ Some s → IsAllowed defs.structs scope (CallsOf defs.funs) head kids → AllGood ss kids us → (r : Option Plain) → node_over name own head us ≡ Ok r → Good s (At head kids) (unwrap_or r (At head kids))
  over_good s head kids us ss e g a all r i = by (step name own head (listed us)) refl i
    where
      node : Good s (At head kids) (At head us)
      node = record { kept = node_kept defs env head ss s kids us e g all.kept; allowed = (head_allowed defs.structs scope defs.funs head kids us a, all.allowed) }

      of_written : (x : Result Plain No) → written (At head us) ≡ x → some_of x ≡ Ok r → Good s (At head kids) (unwrap_or r (At head kids))
      of_written (Ok t) j k =
          let same : Some t ≡ r = same_step (Some t) r k in
          subst (λ o. Good s (At head kids) (unwrap_or o (At head kids))) same (subst (Good s (At head kids)) (written_is (At head us) t j) node)
      of_written (Err why) j k = absurd cc

      by : (x : Step) → step name own head (listed us) ≡ x → or_node (At head us) x ≡ Ok r → Good s (At head kids) (unwrap_or r (At head kids))
      by (Ok None) j k = of_written (written (At head us)) refl k
      by (Ok (Some made)) j k =
          let same : Some made ≡ r = same_step (Some made) r k in
          let q = step_good s head us ss all.kept.sorts g node.allowed (Some made) j in
          subst (λ o. Good s (At head kids) (unwrap_or o (At head kids))) same (record { kept = onwards defs env s (At head kids) (At head us) made node.kept q.kept; allowed = q.allowed })
      by (Err why) j k = absurd cc

  -- ---- terms

  mutual
    pub term_good : (t : Plain) (s : Sort) → Fine t → sort_of t ≡ Some s → (r : Option Plain) → unfolded name own t ≡ Ok r → Good s t (unwrap_or r t)
    term_good (At head kids) s a e r i =
        let k = kids_sorted head (sorts_of kids) s e in
        by k.0 k.1 k.2 (λ us j. terms_good kids k.0 a.1 k.1 (Some us) j) (unfolded_in name own kids) refl i
      where
        by : (ss : List Sort) → sorts_of kids ≡ Some ss → sort_at head ss ≡ Some s → ((us : Plains) → unfolded_in name own kids ≡ Ok (Some us) → AllGood ss kids us) → (x : Result (Option Plains) No) → unfolded_in name own kids ≡ x → over_kids name own head kids x ≡ Ok r → Good s (At head kids) (unwrap_or r (At head kids))
        by ss p g all (Ok None) j i = step_good s head kids ss p g a r i
        by ss p g all (Ok (Some us)) j i = over_good s head kids us ss p g a.0 (all us j) r i
        by ss p g all (Err refusal) j i = absurd cc

    pub terms_good : (ts : Plains) (ss : List Sort) → AreFine ts → sorts_of ts ≡ Some ss → (r : Option Plains) → unfolded_in name own ts ≡ Ok r → AllGood ss ts (unwrap_or r ts)
    terms_good Done ss a e r i =
        let nothing : None ≡ r = cc in
        subst (λ q. AllGood ss Done (unwrap_or q Done)) nothing (record { kept = all_itself defs env ss Done e; allowed = tt })
    terms_good (More t ts) ss a e r i =
        let p = first_some (sort_of t) (sorts_of ts) ss e in
        let b = both_are More t ts (unfolded name own t) (unfolded_in name own ts) r i in
        let x = term_good t p.0 a.0 p.2 b.first b.first_is in
        let y = terms_good ts p.1 a.1 p.3 b.rest b.rest_is in
        subst (λ rs. AllGood rs (More t ts) (unwrap_or r (More t ts))) (sym p.4)
        (subst (AllGood (p.0 ∷ p.1) (More t ts)) b.is
        (record { kept = more_kept defs env p.0 p.1 t (unwrap_or b.first t) ts (unwrap_or b.rest ts) x.kept y.kept; allowed = (x.allowed, y.allowed) }))
