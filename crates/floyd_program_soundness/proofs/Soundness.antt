-- A linked program whose bodies are proved is sound.
use Rattle.std.proofs.Common.{◌≡◌, ◌⊎◌, inl, inr, ℕ, true, List, [], ◌∷◌, Option, Some, None, refl, sym, ap, subst, ◌∙◌}
use Rattle.std.specs.Prelude.{IsSomeAnd, bytes_eq, is_some}
use Rattle.std.specs.List.{AllByRecursion}
use Rattle.std.specs.Map.{lookup}
use Rattle.std.proofs.lemmas.Option.{same_Some}
use Rattle.floyd_int.specs.declared.kinds.Value.{Value}
use Rattle.floyd_ctypes.specs.Has.{has}
use Rattle.floyd_clight.specs.declared.unit.Defined.{Defined}
use Rattle.floyd_clight_heap.specs.Heaplet.{Heaplet}
use Rattle.floyd_clight_memory.specs.Memory.{nth}
use Rattle.floyd_clight_machine.specs.Looking.{Ident}
use Rattle.floyd_clight_machine.specs.Machine.{Fun, FunctionBlock, Own, function_named, signature}
use Rattle.floyd_clight_runs.specs.Calls.{AllHold, BodyHolds, CallExits, IsProved}
use Rattle.floyd_clight_runs.specs.World.{World, is_result}
use Rattle.floyd_clight_runs.proofs.Adequate.{EndsWell, int_ends_well, sound}
use Rattle.floyd_assert_trees.specs.declared.spec.Funspec.{Funspec}
use Rattle.floyd_assert_laws.specs.Bare.{IsBare}
use Rattle.floyd_assert_meaning.specs.Same.{SameFunspec}
use Rattle.floyd_assert_meaning.specs.Settings.{Setting}
use Rattle.floyd_assert_meaning.specs.Specifications.{Post, Pre}
use Rattle.floyd_assert_meaning.proofs.Sames.{same_post, same_pre}
use Rattle.floyd_goal_forms.specs.Items.{FunspecFits}
use Rattle.floyd_goal_forms.specs.Starts.{function_start}
use Rattle.floyd_goal_meaning.specs.declared.linked.Linked.{Linked}
use Rattle.floyd_goal_meaning.specs.declared.linked.LinkedFunction.{LinkedFunction}
use Rattle.floyd_goal_meaning.specs.declared.linked.Module.{Module}
use Rattle.floyd_goal_meaning.specs.GoalHolds.{HoldsFor, LemmasAreTrue}
use Rattle.floyd_goal_meaning.specs.Links.{AreApart, Has, IsOfFunction}
use Rattle.floyd_goal_meaning.specs.Programs.{Places, def_of, function_block, int, linked_function, main, program, setting}
use Rattle.floyd_goal_meaning.specs.Worlds.{Sound, Use, sight, world}
use Rattle.floyd_links.specs.Laws.{BodiesAreDeclared}
use Rattle.floyd_links.specs.Links.{FunctionLinks, ImportsBy, IsBodyOf, IsImportBy, Links, ModuleLinks}
use Rattle.floyd_links.proofs.FunsBare.{funs_bare}
use Rattle.floyd_links.proofs.Having.{each_found, links_have, name_found, own_of, rules_keep}
use Rattle.floyd_links.proofs.PredsBare.{preds_bare}
use Rattle.floyd_goal_meaning.specs.Programs as programs
use Rattle.floyd_start_laws.proofs.BodyStarts.{body_starts, no_local}
use Rattle.floyd_import_laws.specs.Laws.{Follows}
use Rattle.floyd_program_soundness.specs.Laws.{ProvedProgramsAreSound}
use Rattle.floyd_program_soundness.specs.Proofs as p
use Rattle.floyd_program_soundness.proofs.Bodies.{enters}
use Rattle.floyd_program_soundness.proofs.Functions.{has_body, is_named, named_is, no_way, none_unless_linked, one_way, own_alone}
use Rattle.floyd_program_soundness.proofs.Imported.{import_gives, imports_by}
use Rattle.floyd_program_soundness.proofs.LemmasProved.{Done, all_done, done_among, has_proved}
use Rattle.floyd_program_soundness.proofs.Lists.{each_named, each_nth, module_at}
use Rattle.floyd_program_soundness.proofs.Seen.{SeesWhatFollows, given, same_follows}

-- each function with a body has a specification of its own
declared : (functions : List LinkedFunction) (proofs : List p.Proof) → AllByRecursion (λ (f : LinkedFunction). (d : Defined) → f.body ≡ Some d → (is_some f.own ≡ true) × p.IsProvedBy proofs p.OfBody f.name) functions → AllByRecursion (λ (f : LinkedFunction). (d : Defined) → f.body ≡ Some d → is_some f.own ≡ true) functions
declared [] proofs h = tt
declared (f ∷ functions) proofs h = (λ d e. (h.0 d e).0, declared functions proofs h.1)

module _ (L : Linked) (proofs : List p.Proof) (links : Links L) (small : p.AreImportsSmall L) (are : p.AreProofs L [] proofs) (bodies : p.AreBodiesProved L proofs) (imported : p.AreImportsProved proofs 0 L.modules) where
  named_all : BodiesAreDeclared L
  named_all = declared L.functions proofs bodies

  has_each : AllByRecursion (λ (m : Module). Has L m.defs m.specs) L.modules
  has_each = links_have L links named_all

  bare : (place : Places) → IsBare (setting L [] place)
  bare place = record {
    funs = λ name ds o e. funs_bare L.structs (programs.funs_of L) name ds o (rules_keep L links) e;
    preds = λ name ds o e. preds_bare L links name ds o e;
  }

  -- a specification that is not that of an import is the function's own
  own_of_spec : (m : Module) (k : ℕ) → ModuleLinks L k m → (f : Ident) (g : LinkedFunction) (spec : Funspec) → (ImportsBy m f → ⊥) → lookup (bytes_eq f) m.specs.functions ≡ Some spec → linked_function L f ≡ Some g → (own : Funspec) × (g.own ≡ Some own) × SameFunspec own spec
  own_of_spec m k h f g spec none e is =
      let o = own_of L named_all m f spec (h.specs f spec e) g is in
      (o.0, o.1, by o.0 o.2)
    where
      by : (own : Funspec) → SameFunspec own spec ⊎ IsImportBy m f spec own → SameFunspec own spec
      by own (inl same) = same
      by own (inr b) = absurd (none (imports_by m f spec own b))

  module _ (place : Places) (apart : AreApart L [] place) where
    abbrev W : World
    W = world L [] place

    abbrev S : Setting
    S = setting L [] place

    done : AllByRecursion (Done L links place apart has_each) proofs
    done = all_done L links place apart has_each [] proofs tt are

    -- what a module sees follows from what the functions ask and give of their own
    sees_one : (m : Module) (i : ℕ) → nth L.modules i ≡ Some m → (f : Ident) (spec : Funspec) (g : LinkedFunction) (own : Funspec) → lookup (bytes_eq f) m.specs.functions ≡ Some spec → linked_function L f ≡ Some g → g.own ≡ Some own → SameFunspec own spec ⊎ IsImportBy m f spec own → Follows S spec own
    sees_one m i at f spec g own e is has_own (inl same) = same_follows S spec own same
    sees_one m i at f spec g own e is has_own (inr b) = import_gives L links small place apart has_each proofs imported done m i at f spec g own e is has_own b

    sees : (m : Module) (i : ℕ) → nth L.modules i ≡ Some m → SeesWhatFollows L place m.specs
    sees m i at f spec e =
        let h = module_at L 0 L.modules i m links.modules at in
        let s = h.1.specs f spec e in
        let o = own_of L named_all m f spec s s.function s.is in
        (s.function, o.0, s.is, o.1, sees_one m i at f spec s.function o.0 e s.is o.1 o.2)

    -- a body, proved in one of the modules
    record Proved (f : Ident) (g : LinkedFunction) (d : Defined) : Type 0 where
      pub module' : Module
      pub number : ℕ
      pub at : nth L.modules number ≡ Some module'
      pub before : List (List ℕ)
      pub spec : Funspec
      pub seen : lookup (bytes_eq f) module'.specs.functions ≡ Some spec
      pub declared : ImportsBy module' f → ⊥
      pub lemmas : LemmasAreTrue S (p.with_proved module'.defs before)
      pub holds : (n : ℕ) → HoldsFor (p.with_proved module'.defs before) module'.specs n (function_start L.structs spec d)

    proved_by : (f : Ident) (g : LinkedFunction) (d : Defined) → linked_function L f ≡ Some g → g.body ≡ Some d → (q : p.Proof) → Done L links place apart has_each q → q.kind ≡ p.OfBody → q.name ≡ f → Proved f g d
    proved_by f g d is body q done kind name =
        let m = done.module' in
        let s : p.StartsWith L m p.OfBody f done.goals = subst (λ k. p.StartsWith L m k f done.goals) kind (subst (λ x. p.StartsWith L m q.kind x done.goals) name done.starts) in
        let same : s.0.function ≡ g = same_Some s.0.function g (sym s.0.is ∙ is) in
        let one : s.0.body ≡ d = same_Some s.0.body d (sym s.0.has_body ∙ ap (λ (x : LinkedFunction). x.body) same ∙ body) in
        let goals : done.goals ≡ function_start L.structs s.0.spec d ∷ [] = s.1 ∙ ap (λ b. function_start L.structs s.0.spec b ∷ []) one in
        record {
          module' = m;
          number = q.number;
          at = done.at;
          before = q.before;
          spec = s.0.spec;
          seen = s.0.seen;
          declared = s.0.declared;
          lemmas = done.lemmas;
          holds = λ n. (subst (AllByRecursion (HoldsFor (p.with_proved m.defs q.before) m.specs n)) goals (done.holds n)).0;
        }

    proved : (f : Ident) (g : LinkedFunction) (d : Defined) → linked_function L f ≡ Some g → g.body ≡ Some d → Proved f g d
    proved f g d is body =
        let k = each_found L (λ (h : LinkedFunction). (b : Defined) → h.body ≡ Some b → (is_some h.own ≡ true) × p.IsProvedBy proofs p.OfBody h.name) L.functions f g bodies is d body in
        let name : f ≡ g.name = name_found L L.functions f g is in
        let q = done_among L links place apart has_each proofs p.OfBody g.name done k.1 in
        proved_by f g d is body q.0 q.1 q.2 (q.3 ∙ sym name)

    -- ---- it meets its own specification

    abbrev function : Defined → Fun
    function d = record { params = d.parameters; result = d.result; locals = d.blocks; body = d.body }

    body_keeps : (f : Ident) (g : LinkedFunction) (d : Defined) → linked_function L f ≡ Some g → g.body ≡ Some d → (q : Proved f g d) → (n : ℕ) → BodyHolds W (sight L [] place q.module'.specs) f (function d) n
    body_keeps f g d is body q n keeps x args h pre =
        let m = q.module' in
        let defs = p.with_proved m.defs q.before in
        let l = module_at L 0 L.modules q.number m links.modules q.at in
        let s = l.1.specs f q.spec q.seen in
        let of_g : s.function ≡ g = same_Some s.function g (sym s.is ∙ is) in
        let o = own_of_spec m l.0 l.1 f g q.spec q.declared q.seen is in
        let alone' = own_alone L f g o.0 is o.1 in
        let fit : FunspecFits m.defs m.specs q.spec = each_named (FunspecFits m.defs m.specs) m.specs.functions f q.spec l.1.items.functions q.seen in
        let b : IsBodyOf L g d = each_found L (FunctionLinks L) L.functions f g links.functions is d body in
        let e = enters L m.defs m.specs g d q.spec b fit (subst (λ k. IsOfFunction q.spec k) of_g s.types) in
        let own = one_way o.0 x.way (λ k. Pre S k x.data' args h) (subst (λ all. IsSomeAnd (nth all x.way) (λ k. Pre S k x.data' args h)) alone' pre) in
        let seen = (same_pre S o.0 q.spec x.data' o.2 args h).0 own.0 in
        let has' = has_proved L m.defs m.specs q.before (each_nth (λ (a : Module). Has L a.defs a.specs) L.modules q.number m has_each q.at) in
        body_starts L [] place m.specs n q.spec d (bare place) (no_local q.spec e.no_local) x.data' defs has' apart q.lemmas e.withs e.parameters e.blocks e.count e.sized (q.holds n) keeps args h seen (CallExits W.program W.own f x)
        (λ v k typed post. (
          ap (λ z. is_result z v) (is_named L place f g is) ∙ ap (λ z. has (signature (def_of g z)).result v) body ∙ typed,
          subst (λ all. IsSomeAnd (nth all x.way) (λ z. Post S z x.data' v k)) (sym alone') (own.1 (λ z. Post S z x.data' v k) ((same_post S o.0 q.spec x.data' o.2 v k own.0.sorted).1 post)),
        ))

    is_proved : (f : Ident) (b : FunctionBlock) (fn : Fun) → function_named W.program f ≡ Some b → b.def ≡ Own fn → IsProved W f fn
    is_proved f b fn e d =
        let r = named_is L place f b e in
        let own : def_of r.function r.function.body ≡ Own fn = sym (ap (λ (z : FunctionBlock). z.def) r.block) ∙ d in
        let body = has_body r.function fn own in
        let q = proved f r.function body.body r.is body.is in
        record {
          calls = sight L [] place q.module'.specs;
          given = given L place q.module'.specs (sees q.module' q.number q.at);
          body = λ n. subst (λ z. BodyHolds W (sight L [] place q.module'.specs) f z n) body.same (body_keeps f r.function body.body r.is body.is q n);
        }

    known : (f : Ident) (x : Use) (args : List Value) (h : Heaplet) → W.own.pre f x args h → (g : FunctionBlock) × (function_named W.program f ≡ Some g)
    known f x args h pre = by (linked_function L f) refl
      where
        by : (o : Option LinkedFunction) → linked_function L f ≡ o → (g : FunctionBlock) × (function_named W.program f ≡ Some g)
        by None e = absurd (no_way x.way (λ k. Pre S k x.data' args h) (subst (λ all. IsSomeAnd (nth all x.way) (λ k. Pre S k x.data' args h)) (none_unless_linked L f e) pre))
        by (Some g) e = (function_block place g, is_named L place f g e)

    all_hold : AllHold W
    all_hold = record { known = known; bodies = is_proved }

  main_ends : (place : Places) (x : Use) → EndsWell (CallExits (world L [] place).program (world L [] place).own main x)
  main_ends place x =
      let m = links.main in
      let b : IsBodyOf L m.function m.body = each_found L (FunctionLinks L) L.functions main m.function links.functions m.is m.body m.has_body in
      int_ends_well (world L [] place) main (function_block place m.function) x (is_named L place main m.function m.is)
      (ap (λ z. (signature (def_of m.function z)).result) m.has_body ∙ b.result ∙ m.result)

  pub is_sound : Sound L
  is_sound = λ place m start n answers lawful. sound (world L [] place) main (all_hold place start.distinct) (main_ends place) m start n answers lawful

pub proved_sound : ProvedProgramsAreSound
proved_sound L proofs links small are bodies imported = is_sound L proofs links small are bodies imported
