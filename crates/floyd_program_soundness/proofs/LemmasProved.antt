-- Each lemma that is proved is true.
use Rattle.std.proofs.Common.{◌≡◌, inl, inr, ℕ, Bool, true, false, cond, List, [], ◌∷◌, ◌++◌, map, Option, Some, refl, sym, subst}
use Rattle.std.specs.Prelude.{bytes_eq}
use Rattle.std.specs.List.{AllByRecursion}
use Rattle.std.specs.Map.{lookup}
use Rattle.std.proofs.lemmas.Slice.Eq.{bytes_eq-Decides}
use Rattle.floyd_clight_memory.specs.Memory.{nth}
use Rattle.floyd_assert_trees.specs.declared.items.Defs.{Defs}
use Rattle.floyd_assert_trees.specs.declared.items.Lemma.{Lemma}
use Rattle.floyd_assert_trees.specs.declared.spec.SpecTable.{SpecTable}
use Rattle.floyd_assert_meaning.specs.Assertions.{LemmaIsTrue}
use Rattle.floyd_assert_meaning.specs.Settings.{Setting}
use Rattle.floyd_goal_forms.specs.Items.{LemmaFits}
use Rattle.floyd_goal_trees.specs.declared.goal.Goal.{Goal}
use Rattle.floyd_goal_meaning.specs.declared.linked.Linked.{Linked}
use Rattle.floyd_goal_meaning.specs.declared.linked.Module.{Module}
use Rattle.floyd_goal_meaning.specs.GoalHolds.{HoldsFor, LemmasAreTrue}
use Rattle.floyd_goal_meaning.specs.Links.{AreApart, Has}
use Rattle.floyd_goal_meaning.specs.Programs.{Places, setting}
use Rattle.floyd_links.specs.Links.{Links}
use Rattle.floyd_start_laws.proofs.LemmaStarts.{lemma_true}
use Rattle.floyd_program_soundness.specs.Proofs.{AreProofs, IsImportProved, IsProof, IsProvedBy, Kind, OfImport, OfLemma, Proof, StartsWith, with_proved}
use Rattle.floyd_program_soundness.proofs.Lists.{each_and, each_named, each_nth, module_at, one_lemma}

-- lemmas that are proved are no part of what a program must have
pub has_proved : (L : Linked) (defs : Defs) (specs : SpecTable) (names : List (List ℕ)) → Has L defs specs → Has L (with_proved defs names) specs
has_proved L defs specs names h = record {
  rules = h.rules;
  structs = h.structs;
  globals = h.globals;
  funs = h.funs;
  preds = h.preds;
  functions = h.functions;
  declared = h.declared;
  items = h.items;
}

abbrev names_proved : List (List ℕ) → List (List ℕ × Unit {0})
names_proved names = map (λ y. (y, tt)) names

abbrev yes : Option (Unit {0})
yes = Some tt

among_names : (P : List ℕ → Type 0) (names : List (List ℕ)) (x : List ℕ) → AllByRecursion P names → lookup (bytes_eq x) (names_proved names) ≡ yes → P x
among_names P [] x h e = absurd cc
among_names P (y ∷ names) x h e = by (among_names P names x h.1) (bytes_eq x y) refl e
  where
    by : (lookup (bytes_eq x) (names_proved names) ≡ yes → P x) → (t : Bool) → bytes_eq x y ≡ t → cond t yes (lookup (bytes_eq x) (names_proved names)) ≡ yes → P x
    by go true i k = subst P (sym ((bytes_eq-Decides x y).0 i)) h.0
    by go false i k = go k

module _ (L : Linked) (links : Links L) (place : Places) (apart : AreApart L [] place) (has : AllByRecursion (λ (m : Module). Has L m.defs m.specs) L.modules) where
  abbrev S : Setting
  S = setting L [] place

  -- a proof whose lemmas are true
  pub record Done (p : Proof) : Type 0 where
    pub module' : Module
    pub at : nth L.modules p.number ≡ Some module'
    pub goals : List Goal
    pub starts : StartsWith L module' p.kind p.name goals
    pub holds : (n : ℕ) → AllByRecursion (HoldsFor (with_proved module'.defs p.before) module'.specs n) goals
    pub lemmas : LemmasAreTrue S (with_proved module'.defs p.before)

  pub record IsTrueLemma (x : List ℕ) : Type 0 where
    pub number : ℕ
    pub module' : Module
    pub at : nth L.modules number ≡ Some module'
    pub lemma : Lemma
    pub is : lookup (bytes_eq x) module'.defs.lemmas ≡ Some lemma
    pub holds : LemmaIsTrue S lemma

  abbrev TrueIfLemma : Proof → Type 0
  TrueIfLemma p = p.kind ≡ OfLemma → IsTrueLemma p.name

  true_among : (proofs : List Proof) (x : List ℕ) → AllByRecursion TrueIfLemma proofs → IsProvedBy proofs OfLemma x → IsTrueLemma x
  true_among [] x h k = absurd k
  true_among (p ∷ proofs) x h (inl k) = subst IsTrueLemma k.1 (h.0 k.0)
  true_among (p ∷ proofs) x h (inr k) = true_among proofs x h.1 k

  lemmas_true : (earlier : List Proof) (names : List (List ℕ)) (i : ℕ) (m : Module) → nth L.modules i ≡ Some m → AllByRecursion TrueIfLemma earlier → AllByRecursion (IsProvedBy earlier OfLemma) names → LemmasAreTrue S (with_proved m.defs names)
  lemmas_true earlier names i m at h k = λ x l e f.
      let t = true_among earlier x h (among_names (IsProvedBy earlier OfLemma) names x k e) in
      subst (LemmaIsTrue S) (one_lemma L.modules t.number i t.module' m x t.lemma l links.agree t.at at t.is f) t.holds

  done_true : (p : Proof) → Done p → TrueIfLemma p
  done_true p d e =
      let m = d.module' in
      let s : StartsWith L m OfLemma p.name d.goals = subst (λ k. StartsWith L m k p.name d.goals) e d.starts in
      let links' = module_at L 0 L.modules p.number m links.modules d.at in
      let fit : LemmaFits m.defs m.specs s.0 = each_named (LemmaFits m.defs m.specs) m.defs.lemmas p.name s.0 links'.1.items.lemmas s.1 in
      record {
        number = p.number;
        module' = m;
        at = d.at;
        lemma = s.0;
        is = s.1;
        holds = lemma_true L [] place (with_proved m.defs p.before) m.specs 0 p.name s.0
            (has_proved L m.defs m.specs p.before (each_nth (λ (a : Module). Has L a.defs a.specs) L.modules p.number m has d.at)) apart d.lemmas fit.with fit.none
            (subst (AllByRecursion (HoldsFor (with_proved m.defs p.before) m.specs 0)) s.2 (d.holds 0)).0;
      }

  done_one : (earlier : List Proof) (p : Proof) → AllByRecursion TrueIfLemma earlier → IsProof L earlier p → Done p
  done_one earlier p h k = record {
    module' = k.module';
    at = k.at;
    goals = k.goals;
    starts = k.starts;
    holds = k.holds;
    lemmas = lemmas_true earlier p.before p.number k.module' k.at h k.before;
  }

  pub all_done : (earlier proofs : List Proof) → AllByRecursion TrueIfLemma earlier → AreProofs L earlier proofs → AllByRecursion Done proofs
  all_done earlier [] h k = tt
  all_done earlier (p ∷ proofs) h k =
      let d = done_one earlier p h k.0 in
      (d, all_done (earlier ++ p ∷ []) proofs (each_and TrueIfLemma earlier p h (done_true p d)) k.1)

  pub done_among : (proofs : List Proof) (kind : Kind) (x : List ℕ) → AllByRecursion Done proofs → IsProvedBy proofs kind x → (p : Proof) × Done p × (p.kind ≡ kind) × (p.name ≡ x)
  done_among [] kind x h k = absurd k
  done_among (p ∷ proofs) kind x h (inl k) = (p, h.0, k.0, k.1)
  done_among (p ∷ proofs) kind x h (inr k) = done_among proofs kind x h.1 k

  -- the proof of an import
  pub import_among : (proofs : List Proof) (number : ℕ) (x : List ℕ) → AllByRecursion Done proofs → IsImportProved proofs number x → (p : Proof) × Done p × (p.kind ≡ OfImport) × (p.number ≡ number) × (p.name ≡ x)
  import_among [] number x h k = absurd k
  import_among (p ∷ proofs) number x h (inl k) = (p, h.0, k.0, k.1, k.2)
  import_among (p ∷ proofs) number x h (inr k) = import_among proofs number x h.1 k
