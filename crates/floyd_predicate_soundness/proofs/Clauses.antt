-- What the clause of a predicate says in a program.
use Rattle.std.proofs.Common.{◌≡◌, ◌↔◌, ℕ, ◌+◌, ◌<◌, ◌^◌, Bool, true, List, [], ◌∷◌, length}
use Rattle.std.specs.Prelude.{bytes_eq}
use Rattle.std.specs.List.{list_any}
use Rattle.floyd_clight_heap.specs.Heaplet.{Heaplet}
use Rattle.floyd_tree_sorts.specs.declared.sorts.Sort.{Sort}
use Rattle.floyd_tree.specs.Plain.{Plain}
use Rattle.floyd_tree_values.specs.BuiltIns.{Env}
use Rattle.floyd_tree_values.specs.Rules.{Scope, Suits}
use Rattle.floyd_assert_trees.specs.declared.assertion.Assertion.{Assertion}
use Rattle.floyd_assert_trees.specs.declared.items.Defs.{Defs}
use Rattle.floyd_assert_trees.specs.declared.sep.Sep.TheVariants.{Predicate}
use Rattle.floyd_assert_trees.specs.declared.spec.SpecTable.{SpecTable}
use Rattle.floyd_assert_changes.specs.Apart.{apart}
use Rattle.floyd_assert_laws.specs.InChanged.{body_nodes}
use Rattle.floyd_assert_meaning.specs.Parts.{BodyHolds, PartHolds}
use Rattle.floyd_assert_meaning.specs.Settings.{Setting}
use Rattle.floyd_assert_meaning.proofs.AlikeLaws.{alike_bodies}
use Rattle.floyd_goal_forms.specs.Assertions.{AssertionFits}
use Rattle.floyd_goal_forms.specs.Items.{PredsFit, sorts_with}
use Rattle.floyd_goal_forms.specs.Terms.{TermsFit}
use Rattle.floyd_goal_laws.proofs.Growing.{term_fits_program}
use Rattle.floyd_goal_meaning.specs.declared.linked.Linked.{Linked}
use Rattle.floyd_goal_meaning.specs.Links.{Has}
use Rattle.floyd_goal_meaning.specs.Programs.{Further, Places, defs_of, setting}
use Rattle.floyd_import_laws.proofs.Freed.{freed_alike}
use Rattle.floyd_import_laws.proofs.Sorted.{formed_sorted}
use Rattle.floyd_clause_laws.specs.Laws.{AllFit, ClauseFits}
use Rattle.floyd_clause_laws.proofs.Meeting.{meets}
use Rattle.floyd_clause_forms.specs.Laws.{HasFewNodes}
use Rattle.floyd_clause_forms.proofs.Forming.{Found}

module _ (L : Linked) (more : List Further) (place : Places) (defs : Defs) (specs : SpecTable) (has : Has L defs specs) (scope : Scope) (env : Env) (suits : Suits scope env) where
  abbrev S : Setting
  S = setting L more place

  -- well-formed terms are so in the program
  all_there : (sorts : List Sort) (ts : List Plain) → TermsFit defs scope sorts ts → AllFit (defs_of L) scope sorts ts
  all_there [] [] h = tt
  all_there [] (t ∷ ts) h = absurd h
  all_there (s ∷ sorts) [] h = absurd h
  all_there (s ∷ sorts) (t ∷ ts) h = (term_fits_program L defs specs has scope s t h.0.fits, all_there sorts ts h.1)

  module _ (name : List ℕ) (terms : List Plain) (others : ℕ) (clause : Assertion) (preds : PredsFit defs specs [] defs.preds) (few : HasFewNodes defs name terms others) (f : Found defs name terms clause) (fit : TermsFit defs scope (sorts_with f.pred.arguments) terms) where
    clause_fits : ClauseFits S env name f.pred terms
    clause_fits = record {
      defs = defs;
      specs = specs;
      preds = preds;
      own = f.there;
      there = has.preds name f.pred f.there;
      keeps = has.rules;
      scope = scope;
      suits = suits;
      terms_fit = all_there (sorts_with f.pred.arguments) terms fit;
      small = λ o e. few.opened f.pred o f.there e;
    }

    -- a predicate holds exactly where its clause does
    pub stands_for : (h : Heaplet) → PartHolds S env (Predicate name terms) h ↔ BodyHolds S env clause h
    stands_for h = meets S env name f.pred terms clause_fits h clause f.is

-- a well-formed assertion holds with its existentials set apart from names
pub apart_holds : (S : Setting) (env : Env) (defs : Defs) (specs : SpecTable) (scope : Scope) (avoided : List ℕ → Bool) (avoid : List (List ℕ)) → ((y : List ℕ) → avoided y ≡ true → list_any (bytes_eq y) avoid ≡ true) → (a : Assertion) → AssertionFits defs specs scope a →
    length avoid + body_nodes a < 2 ^ 63 → (h : Heaplet) → BodyHolds S env a h → BodyHolds S env (apart avoided a) h
apart_holds S env defs specs scope avoided avoid among a fits small h b =
    (alike_bodies S env env.variables env.variables (apart avoided a) a (freed_alike S env avoided avoid among a (formed_sorted defs specs scope a fits) small) h).1 b
