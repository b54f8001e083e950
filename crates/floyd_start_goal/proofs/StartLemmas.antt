-- What is looked up where a proof may start.
use Rattle.std.proofs.Common.{◌≡◌, ℕ, inl, inr, ◌+◌, List, [], ◌∷◌, Option, Some, Ok, Err, sym, ap, ◌∙◌}
use Rattle.std.specs.Prelude.{IfOk, Result}
use Rattle.std.proofs.lemmas.Option.{same_Some}
use Rattle.floyd_tree.specs.Plain.{Plain}
use Rattle.floyd_assert_trees.specs.declared.items.Defs.{Defs}
use Rattle.floyd_assert_trees.specs.declared.sep.Sep.{Sep}
use Rattle.floyd_assert_trees.specs.declared.spec.Funspec.{Funspec}
use Rattle.floyd_assert_trees.specs.declared.spec.SpecTable.{SpecTable}
use Rattle.floyd_assert_instances.specs.Specifications.{TakesTerms}
use Rattle.floyd_funspec_laws.proofs.Made.{takes}
use Rattle.floyd_goal_forms.specs.Items.{FunspecFits}
use Rattle.floyd_goal_trees.specs.declared.goal.Goal.{Goal}
use Rattle.floyd_goal_trees.specs.declared.goal.Goal.TheVariants.{Entail}
use Rattle.floyd_goal_meaning.specs.declared.linked.ImportBy.{ImportBy}
use Rattle.floyd_goal_meaning.specs.declared.linked.Linked.{Linked}
use Rattle.floyd_goal_meaning.specs.declared.linked.Module.{Module}
use Rattle.floyd_links.specs.Imports.{first_goal, second_goal}
use Rattle.floyd_links.specs.Links.{IsDeclaredBy, Links, ModulesLink, OwnLinks}
use Rattle.floyd_links.proofs.Having.{each_found}
use Rattle.floyd_program_soundness.specs.Proofs.{ImportOf}
use Rattle.floyd_program_soundness.proofs.Lists.{each_named}

-- what is looked up twice is the same
pub one : {A : Type 0} (o : Option A) (a b : A) → o ≡ Some a → Some b ≡ o → a ≡ b
one o a b e f = sym (same_Some b a (f ∙ e))

own_fits : (L : Linked) (number : ℕ) (modules : List Module) → ModulesLink L number modules → (f : List ℕ) (own : Funspec) → IsDeclaredBy f own modules → (d : Defs) × (t : SpecTable) × FunspecFits d t own
own_fits L number [] h f own k = absurd k
own_fits L number (m ∷ modules) h f own (inl k) = (m.defs, m.specs, each_named (FunspecFits m.defs m.specs) m.specs.functions f own h.0.items.functions k.0)
own_fits L number (m ∷ modules) h f own (inr k) = own_fits L (number + 1) modules h.1 f own k

-- the own specification takes the terms of an import
pub takes_terms : (L : Linked) (m : Module) (name : List ℕ) → Links L → (i : ImportOf L m name) → TakesTerms i.own i.by'.import.terms
takes_terms L m name links i =
    let declared : IsDeclaredBy i.function.name i.own L.modules = each_found L (OwnLinks L) L.functions name i.function links.own i.is i.own i.has_own in
    let fits = own_fits L 0 L.modules links.modules i.function.name i.own declared in
    takes fits.0 fits.1 i.own fits.2 i.by'.import.terms

-- what a call gives is that too
pub if_ok : {A E : Type 0} (r : Result A E) (P Q : A → Type 0) → ((a : A) → P a → Q a) → IfOk r P → IfOk r Q
if_ok (Ok a) P Q f h = f a h
if_ok (Err e) P Q f h = h

-- the start goals of an import
abbrev pub goals_of : Funspec → Funspec → List Plain → List Sep → List Goal
goals_of spec own terms frame = Entail (first_goal spec own terms frame) ∷ Entail (second_goal spec own terms frame) ∷ []

-- the same of what is looked up
pub goals_are : (spec spec' own own' : Funspec) (import import' : ImportBy) (frame : List Sep) → spec ≡ spec' → own ≡ own' → import ≡ import' → frame ≡ import'.frame → goals_of spec' own' import'.terms frame ≡ goals_of spec own import.terms import.frame
goals_are spec spec' own own' import import' frame s o i f =
    ap (goals_of spec' own' import'.terms) f
    ∙ ap (λ (x : ImportBy). goals_of spec' own' x.terms x.frame) (sym i)
    ∙ ap (λ x. goals_of spec' x import.terms import.frame) (sym o)
    ∙ ap (λ x. goals_of x own import.terms import.frame) (sym s)
