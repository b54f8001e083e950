-- The specification of an import follows from the function's own where the import is proved.
use Rattle.std.proofs.Common.{◌≡◌, inl, inr, ℕ, zero, suc, ◌+◌, List, [], ◌∷◌, length, map, Some, sym, ap, subst, ◌∙◌, arith}
use Rattle.std.specs.Prelude.{bytes_eq}
use Rattle.std.specs.List.{AllByRecursion}
use Rattle.std.specs.Map.{lookup}
use Rattle.std.proofs.lemmas.List.{length-map}
use Rattle.std.proofs.lemmas.Option.{same_Some}
use Rattle.floyd_clight_memory.specs.Memory.{nth}
use Rattle.floyd_clight_machine.specs.Looking.{Ident}
use Rattle.floyd_tree_sorts.specs.declared.sorts.Sort.{Val}
use Rattle.floyd_tree_values.specs.Rules.{IsOneOf}
use Rattle.floyd_assert_trees.specs.declared.items.Defs.{Defs}
use Rattle.floyd_assert_trees.specs.declared.spec.Funspec.{Funspec}
use Rattle.floyd_assert_trees.specs.declared.spec.SpecTable.{SpecTable}
use Rattle.floyd_assert_meaning.specs.Settings.{Setting}
use Rattle.floyd_goal_forms.specs.Items.{FunspecFits}
use Rattle.floyd_goal_forms.specs.Terms.{scope_with}
use Rattle.floyd_goal_meaning.specs.declared.linked.ImportBy.{ImportBy}
use Rattle.floyd_goal_meaning.specs.declared.linked.Linked.{Linked}
use Rattle.floyd_goal_meaning.specs.declared.linked.LinkedFunction.{LinkedFunction}
use Rattle.floyd_goal_meaning.specs.declared.linked.Module.{Module}
use Rattle.floyd_goal_meaning.specs.GoalHolds.{HoldsFor}
use Rattle.floyd_goal_meaning.specs.Links.{AreApart, Has, IsOfFunction}
use Rattle.floyd_goal_meaning.specs.Programs.{Places, linked_function, setting}
use Rattle.floyd_links.specs.Links.{ImportsBy, IsDeclaredBy, IsImportBy, Links, ModuleLinks, ModulesLink, OwnLinks}
use Rattle.floyd_links.proofs.Having.{each_found, name_found}
use Rattle.floyd_import_laws.specs.Laws.{Follows, ImportFits, IsSmall}
use Rattle.floyd_import_laws.proofs.Served.{import_follows}
use Rattle.floyd_program_soundness.specs.Proofs.{AreImportsProved, AreImportsSmall, ImportOf, IsImportProved, OfImport, Proof, StartsWith, with_proved}
use Rattle.floyd_program_soundness.proofs.Bodies.{terms_count, types_count}
use Rattle.floyd_program_soundness.proofs.LemmasProved.{Done, has_proved, import_among}
use Rattle.floyd_program_soundness.proofs.Lists.{each_named, each_nth, module_at}

-- an import that stands at a number is one of the imports
pub imports_by : (m : Module) (f : Ident) (spec own : Funspec) → IsImportBy m f spec own → ImportsBy m f
imports_by m f spec own b = go m.imports b.among.0 b.among.1
  where
    go : (all : List ImportBy) (i : ℕ) → nth all i ≡ Some b.import → IsOneOf (map (λ (a : ImportBy). a.name) all) f
    go [] i e = absurd cc
    go (a ∷ all) zero e = inl (sym (ap (λ (x : ImportBy). x.name) (same_Some a b.import e) ∙ b.name))
    go (a ∷ all) (suc i) e = inr (go all i e)

-- ---- each import has a proof

among_imports : (P : List ℕ → Type 0) (all : List ImportBy) (f : List ℕ) → AllByRecursion (λ (i : ImportBy). P i.name) all → IsOneOf (map (λ (a : ImportBy). a.name) all) f → P f
among_imports P [] f h k = absurd k
among_imports P (a ∷ all) f h (inl e) = subst P (sym e) h.0
among_imports P (a ∷ all) f h (inr k) = among_imports P all f h.1 k

import_proved : (proofs : List Proof) (number : ℕ) (modules : List Module) (i j : ℕ) (m : Module) (f : Ident) → AreImportsProved proofs number modules → nth modules i ≡ Some m → ImportsBy m f → number + i ≡ j → IsImportProved proofs j f
import_proved proofs number [] i j m f h e k q = absurd cc
import_proved proofs number (a ∷ modules) zero j m f h e k q =
    let same : number ≡ j = omega (arith, q) in
    subst (λ x. IsImportProved proofs x f) same
    (among_imports (IsImportProved proofs number) a.imports f h.0 (subst (λ (b : Module). ImportsBy b f) (sym (same_Some a m e)) k))
import_proved proofs number (a ∷ modules) (suc i) j m f h e k q = import_proved proofs (number + 1) modules i j m f h.1 e k (omega (arith, q))

-- ---- what is well formed

-- the own specification is well formed over what some module stands on, and is of the function
record OwnFits (L : Linked) (f : Ident) (own : Funspec) : Type 0 where
  pub defs : Defs
  pub specs : SpecTable
  pub fits : FunspecFits defs specs own
  pub function : LinkedFunction
  pub is : linked_function L f ≡ Some function
  pub types : IsOfFunction own function

own_fits : (L : Linked) (number : ℕ) (modules : List Module) → ModulesLink L number modules → (f : Ident) (own : Funspec) → IsDeclaredBy f own modules → OwnFits L f own
own_fits L number [] h f own k = absurd k
own_fits L number (m ∷ modules) h f own (inl k) =
    let s = h.0.specs f own k.0 in
    record {
      defs = m.defs;
      specs = m.specs;
      fits = each_named (FunspecFits m.defs m.specs) m.specs.functions f own h.0.items.functions k.0;
      function = s.function;
      is = s.is;
      types = s.types;
    }
own_fits L number (m ∷ modules) h f own (inr k) = own_fits L (number + 1) modules h.1 f own k

-- as many terms of PARAMS as the function has parameters
params_count : (defs : Defs) (specs : SpecTable) (spec : Funspec) (g : LinkedFunction) → FunspecFits defs specs spec → IsOfFunction spec g → length spec.pre.params ≡ length g.parameters
params_count defs specs spec g fit types =
    terms_count defs (scope_with spec.with) (map (λ t. Val) spec.params) spec.pre.params fit.pre.terms ∙ length-map spec.params (λ t. Val) ∙ types_count spec.params g.parameters types.params

fits_import : (L : Linked) (m : Module) (number : ℕ) → ModuleLinks L number m → (f : Ident) (spec own : Funspec) (b : IsImportBy m f spec own) → lookup (bytes_eq f) m.specs.functions ≡ Some spec → IsSmall spec own b.import.terms → OwnFits L f own → ImportFits m.defs m.specs spec own b.import.terms b.import.frame
fits_import L m number h f spec own b e small theirs =
    let s = h.specs f spec e in
    let fit : FunspecFits m.defs m.specs spec = each_named (FunspecFits m.defs m.specs) m.specs.functions f spec h.items.functions e in
    let types : IsOfFunction spec theirs.function = subst (IsOfFunction spec) (same_Some s.function theirs.function (sym s.is ∙ theirs.is)) s.types in
    record {
      import_fits = fit;
      their = theirs.defs;
      their_specs = theirs.specs;
      own_fits = theirs.fits;
      params = params_count m.defs m.specs spec theirs.function fit types ∙ sym (params_count theirs.defs theirs.specs own theirs.function theirs.fits theirs.types);
      result = types.result.shape ∙ sym theirs.types.result.shape;
      terms_fit = b.terms;
      frame_fit = b.frame;
      small = small;
    }

-- ---- the proof of an import

module _ (L : Linked) (links : Links L) (small : AreImportsSmall L) (place : Places) (apart : AreApart L [] place) (has : AllByRecursion (λ (m : Module). Has L m.defs m.specs) L.modules) where
  abbrev S : Setting
  S = setting L [] place

  import_goals : (q : Proof) (d : Done L links place apart has q) (f : Ident) → q.kind ≡ OfImport → q.name ≡ f → (o : ImportOf L d.module' f) × Follows S o.spec o.own
  import_goals q d f kind name =
      let n = d.module' in
      let s : StartsWith L n OfImport f d.goals = subst (λ k. StartsWith L n k f d.goals) kind (subst (λ x. StartsWith L n q.kind x d.goals) name d.starts) in
      let o = s.0 in
      let l = module_at L 0 L.modules q.number n links.modules d.at in
      let holds = subst (AllByRecursion (HoldsFor (with_proved n.defs q.before) n.specs 0)) s.1 (d.holds 0) in
      let has' = has_proved L n.defs n.specs q.before (each_nth (λ (a : Module). Has L a.defs a.specs) L.modules q.number n has d.at) in
      let few = each_nth (λ (a : Module). (x : Ident) (t u : Funspec) (b : IsImportBy a x t u) → IsSmall t u b.import.terms) L.modules q.number n small d.at f o.spec o.own o.by' in
      let declared = each_found L (OwnLinks L) L.functions f o.function links.own o.is o.own o.has_own in
      let theirs = own_fits L 0 L.modules links.modules f o.own (subst (λ x. IsDeclaredBy x o.own L.modules) (sym (name_found L L.functions f o.function o.is)) declared) in
      let fits = fits_import L n l.0 l.1 f o.spec o.own o.by' o.seen few theirs in
      (o, λ ds args h pre. import_follows L [] place n.defs n.specs (map (λ x. (x, tt)) q.before) 0 o.spec o.own o.by'.import.terms o.by'.import.frame fits holds.0 holds.1.0 has' apart d.lemmas ds args h pre)

  -- the specification that a module gives an import follows from the function's own
  pub import_gives : (proofs : List Proof) → AreImportsProved proofs 0 L.modules → AllByRecursion (Done L links place apart has) proofs → (m : Module) (i : ℕ) → nth L.modules i ≡ Some m → (f : Ident) (spec : Funspec) (g : LinkedFunction) (own : Funspec) → lookup (bytes_eq f) m.specs.functions ≡ Some spec → linked_function L f ≡ Some g → g.own ≡ Some own → IsImportBy m f spec own → Follows S spec own
  import_gives proofs imported done m i at f spec g own e is has_own b =
      let q = import_among L links place apart has proofs i f done (import_proved proofs 0 L.modules i i m f imported at (imports_by m f spec own b) (omega arith)) in
      let d = q.1 in
      let r = import_goals q.0 d f q.2 q.4 in
      let same : d.module' ≡ m = same_Some d.module' m (sym d.at ∙ ap (nth L.modules) q.3 ∙ at) in
      let spec_is : r.0.spec ≡ spec = same_Some r.0.spec spec (sym r.0.seen ∙ ap (λ (a : Module). lookup (bytes_eq f) a.specs.functions) same ∙ e) in
      let function_is : r.0.function ≡ g = same_Some r.0.function g (sym r.0.is ∙ is) in
      let own_is : r.0.own ≡ own = same_Some r.0.own own (sym r.0.has_own ∙ ap (λ (x : LinkedFunction). x.own) function_is ∙ has_own) in
      subst (λ t. Follows S t own) spec_is (subst (Follows S r.0.spec) own_is r.1)
