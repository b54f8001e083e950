-- `forward` on a set to what is read from memory is sound.
use Rattle.std.proofs.Common.{◌≡◌, ◌≢◌, ◌⊎◌, inl, inr, ℕ, true, List, [], ◌∷◌, ◌++◌, Some, Result, Ok, slice_get, is_some, refl, sym, ap, subst, ◌∙◌}
use Rattle.std.specs.List.{AllByRecursion}
use Rattle.std.proofs.lemmas.Bool.{and_parts}
use Rattle.floyd_text.specs.declared.refusal.No.{No}
use Rattle.floyd_int.specs.declared.kinds.Value.{Value}
use Rattle.floyd_int.specs.declared.kinds.Value.TheVariants.{Vundef}
use Rattle.floyd_ctypes.specs.declared.ctype.CType.{CType, Void, Int, Pointer', Array', Struct, Function', more_of-CType, end_of-CType}
use Rattle.floyd_ctypes.specs.Has.{has}
use Rattle.floyd_ctypes.specs.Structs.{Structs}
use Rattle.floyd_memval.specs.Chunks.{chunk_of}
use Rattle.floyd_clight.specs.declared.syntax.Expr.{Expr}
use Rattle.floyd_clight.specs.declared.syntax.Stmt.{Stmt, Set}
use Rattle.floyd_clight.specs.Types.{type_of}
use Rattle.floyd_clight_heap.specs.Heaplet.{Heaplet}
use Rattle.floyd_clight_machine.specs.Machine.{Act}
use Rattle.floyd_clight_runs.specs.Calls.{KeepsBelow, SafeAll}
use Rattle.floyd_clight_runs.specs.Seen.{seen}
use Rattle.floyd_clight_typing.specs.Bodies.{names_in}
use Rattle.floyd_clight_typing.specs.Expressions.{IsTyped, is_place}
use Rattle.floyd_tree_sorts.specs.Rows.{is_scalar}
use Rattle.floyd_tree.specs.Formulas.{PlainFormula}
use Rattle.floyd_tree.specs.Plain.{Plain, Done, More}
use Rattle.floyd_tree_values.specs.BuiltIns.{Env}
use Rattle.floyd_tree_values.specs.Data.{Datum, Val}
use Rattle.floyd_tree_values.specs.Means.{AllMean, Means, more, none}
use Rattle.floyd_tree_values.specs.Rules.{Scope}
use Rattle.floyd_tree_values.proofs.OneValue.{one_value}
use Rattle.floyd_truth.specs.Truth.{AllTrue, Truth}
use Rattle.floyd_assert_cells.specs.Scalars.{Address, Integer, Scalar, scalar_of}
use Rattle.floyd_assert_cells.specs.Types.{shape_of}
use Rattle.floyd_assert_trees.specs.declared.assertion.Assertion.{Assertion}
use Rattle.floyd_assert_trees.specs.declared.items.Defs.{Defs}
use Rattle.floyd_assert_trees.specs.declared.sep.Region.{Region}
use Rattle.floyd_assert_trees.specs.declared.sep.Sep.TheVariants.{FieldAt}
use Rattle.floyd_assert_trees.specs.declared.spec.SpecTable.{SpecTable}
use Rattle.floyd_assert_trees.specs.Meanings.{value_defs}
use Rattle.floyd_assert_meaning.specs.Parts.{PartsHold}
use Rattle.floyd_assert_meaning.specs.Settings.{Setting}
use Rattle.floyd_assert_meaning.proofs.Inversions.{object_of}
use Rattle.floyd_fieldpath.specs.Nested.{sized_type}
use Rattle.floyd_fieldpath.specs.Projections.{project}
use Rattle.floyd_fieldpath.specs.Written.{on_ok}
use Rattle.floyd_fieldpath_laws.proofs.Meanings.{on_ok_is}
use Rattle.floyd_goal.specs.Goals.{enriched, intros_first, some_left}
use Rattle.floyd_goal.specs.Rows.{Answer}
use Rattle.floyd_goal_formulas.specs.Fits.{Fits}
use Rattle.floyd_goal_formulas.specs.Keeping.{Kept}
use Rattle.floyd_goal_formulas.proofs.Keepings.{kept_of_true}
use Rattle.floyd_goal_truth.specs.Scopes.{AllFit}
use Rattle.floyd_goal_truth.proofs.Uses.{all_true}
use Rattle.floyd_goal_trees.specs.Contexts.{scope_of, with_hypotheses}
use Rattle.floyd_goal_trees.specs.declared.context.Context.{Context}
use Rattle.floyd_goal_trees.specs.declared.goal.Goal.{Goal}
use Rattle.floyd_goal_trees.specs.declared.goal.Goal.TheVariants.{Run}
use Rattle.floyd_goal_trees.specs.declared.goal.Run as r
use Rattle.floyd_goal_forms.specs.Goals.{RunFits}
use Rattle.floyd_goal_meaning.specs.declared.linked.Linked.{Linked}
use Rattle.floyd_goal_meaning.specs.GoalHolds.{Given, HoldsFor, LemmasAreTrue, Stands, goal_exits}
use Rattle.floyd_goal_meaning.specs.Links.{AreApart, Has}
use Rattle.floyd_goal_meaning.specs.Programs.{Further, Places, program, setting}
use Rattle.floyd_goal_meaning.specs.Worlds.{sight, world}
use Rattle.floyd_symexpr_rows.specs.declared.needs.Needs.{Needs}
use Rattle.floyd_symexpr_rows.specs.Formulas.{of_type, saying}
use Rattle.floyd_symexpr_laws.proofs.SideTruths.{all_true_first, all_true_second, saying_is}
use Rattle.floyd_symexpr_pointer_laws.specs.Laws.{AllValid, IsMet}
use Rattle.floyd_symexpr_paths.specs.declared.location.Located.{Located}
use Rattle.floyd_symexpr.specs.Locate.{locate}
use Rattle.floyd_symexpr_forms.proofs.Answers.{both}
use Rattle.floyd_symexpr_soundness.specs.Laws.{AreLaidOut, IsLoaded, IsLocated, LiesIn, PartIsSorted}
use Rattle.floyd_symexpr_soundness.proofs.Locating.{objects_lie_in_parts, scalar_sort, shows_part}
use Rattle.floyd_state_laws.proofs.Forms.{parts_are_sorted}
use Rattle.floyd_state_laws.proofs.States.{run_meets}
use Rattle.floyd_state_laws.proofs.Statements.{AreTyped, flat_typed, part_typed}
use Rattle.floyd_forward.specs.Forward.{OfNext, Row}
use Rattle.floyd_forward.specs.Objects.{item_in, region_at}
use Rattle.floyd_forward.specs.Set.{SetsBy, SetsRead, SetsTyped, Sets, is_defined, is_read, read_at, read_from, read_needs, runs_on, set_to, with_temp}
use Rattle.floyd_forward_soundness.specs.Laws.{IsSoundOn}
use Rattle.floyd_forward_soundness.proofs.Needs.{Needed, all_of, needed_of, needs_met}
use Rattle.floyd_forward_soundness.proofs.Setting.{no_more, of_result, passed, same_goals, set_on}
use Rattle.floyd_forward_soundness.proofs.Typed.{type_true}
use Rattle.floyd_read_soundness.specs.Laws.{IsSetFromMemory}
use Rattle.floyd_read_soundness.proofs.Objects.{defined_fits, item_good, lies, location}
use Rattle.floyd_read_soundness.proofs.Parts.{item_is, one_part, region_there}

-- ---- scalars

-- a type of which something is loaded is a scalar
pub scalar_from : (t : CType) → is_some (chunk_of t) ≡ true → (s : Scalar) × (scalar_of t ≡ Some s)
scalar_from Void e = absurd cc
scalar_from (Int k) e = (Integer k, refl)
scalar_from (Pointer' p to) e = (Address, refl)
scalar_from (Array' p to n) e = absurd cc
scalar_from (Struct tag) e = absurd cc
scalar_from (Function' shape ps p result) e = absurd cc

pub scalar_shaped : (t : CType) (s : Scalar) → scalar_of t ≡ Some s → is_scalar (shape_of t) ≡ true
scalar_shaped Void s e = absurd cc
scalar_shaped (Int k) s e = refl
scalar_shaped (Pointer' p (more_of-CType to end_of-CType)) s e = refl
scalar_shaped (Array' p to n) s e = absurd cc
scalar_shaped (Struct tag) s e = absurd cc
scalar_shaped (Function' shape ps p result) s e = absurd cc

-- ---- what the row reads

pub same_answer : {A : Type 0} (x y : A) → ◌≡◌ {A = Result A No} (Ok x) (Ok y) → x ≡ y
same_answer x y e = cc

-- where the object lies, its value, and what was said
pub record IsRead (structs : Structs) (source : Assertion) (e : Expr) (v : Plain × Needs) : Type 0 where
  pub l : Located
  pub found : locate source structs e ≡ Ok l
  pub part : Region × Plain
  pub region : region_at source.parts l.part ≡ Ok part
  pub item : item_in structs l.path part ≡ Ok v.0
  pub sides : v.1.sides ≡ l.sides ++ is_defined v.0 ∷ []
  pub valid : v.1.valid ≡ l.valid

pub what_is_read : (structs : Structs) (source : Assertion) (e : Expr) (v : Plain × Needs) → read_from source structs e ≡ Ok v → IsRead structs source e v
what_is_read structs source e v f =
    let a = on_ok_is {B = Plain × Needs} (locate source structs e) (read_at source structs) v f in
    let l = a.0 in
    let b = on_ok_is {B = Plain × Needs} (region_at source.parts l.part) (λ (part : Region × Plain). on_ok (item_in structs l.path part) (λ u. on_ok (read_needs l u) (λ needs. Ok (u, needs)))) v a.2 in
    let c = on_ok_is {B = Plain × Needs} (item_in structs l.path b.0) (λ (u : Plain). on_ok (read_needs l u) (λ needs. Ok (u, needs))) v b.2 in
    let d = on_ok_is {B = Plain × Needs} (read_needs l c.0) (λ (needs : Needs). Ok (c.0, needs)) v c.2 in
    let pair : ◌≡◌ {A = Plain × Needs} (c.0, d.0) v = same_answer {A = Plain × Needs} (c.0, d.0) v d.2 in
    let s = on_ok_is {B = Needs} (saying l.sides (is_defined c.0 ∷ [])) (λ (sides : List PlainFormula). Ok (record { sides = sides; valid = l.valid })) d.0 d.1 in
    let needs : ◌≡◌ {A = Needs} (record { sides = s.0; valid = l.valid }) d.0 = same_answer {A = Needs} (record { sides = s.0; valid = l.valid }) d.0 s.2 in
    let value : c.0 ≡ v.0 = ap (λ (p : Plain × Needs). p.0) pair in
    let behind : d.0 ≡ v.1 = ap (λ (p : Plain × Needs). p.1) pair in
    record {
      l = l;
      found = a.1;
      part = b.0;
      region = b.1;
      item = subst (λ (u : Plain). item_in structs l.path b.0 ≡ Ok u) value c.1;
      sides = ap (λ (k : Needs). k.sides) (sym behind) ∙ ap (λ (k : Needs). k.sides) (sym needs) ∙ saying_is l.sides (is_defined c.0 ∷ []) s.0 s.1 ∙ ap (λ u. l.sides ++ is_defined u ∷ []) value;
      valid = ap (λ (k : Needs). k.valid) (sym behind) ∙ ap (λ (k : Needs). k.valid) (sym needs);
    }

-- the value that is read is that of the object, where the object lies so in the part
pub item_of : (structs other : Structs) (source : Assertion) (e : Expr) (v : Plain × Needs) (read : IsRead structs source e v) → structs ≡ other → (lies' : LiesIn other source.parts read.l (type_of e)) → project other lies'.type lies'.rest lies'.value ≡ Ok v.0
item_of structs other source e v read same lies' =
    let part : read.part ≡ (lies'.region, lies'.value) = same_answer {A = Region × Plain} read.part (lies'.region, lies'.value) (sym read.region ∙ region_there other source.parts read.l (type_of e) lies') in
    sym (item_is other source.parts read.l (type_of e) lies')
    ∙ subst (λ (p : Region × Plain). item_in other read.l.path p ≡ Ok v.0) part (subst (λ z. item_in z read.l.path read.part ≡ Ok v.0) same read.item)

-- ---- truth

module _ (S : Setting) (env : Env) where
  one_datum : {a : Plain} {d : Datum} → AllMean S.defs env (More a Done) (d ∷ []) → Means S.defs env a d
  one_datum (more m none) = m

  -- the value of a term that is said to be defined is
  defined_is : (u : Plain) (x : Value) → Truth S.defs S.has_spec env (is_defined u) → Means S.defs env u (Val x) → x ≢ Vundef
  defined_is u x (w, one, some) m =
      let d : Val w ≡ Val x = one_value S.defs (one_datum one) (Val x) m in
      let same : w ≡ x = cc in
      λ e. some (same ∙ e)

  given_with : (defs : Defs) (context : Context) (fs : List PlainFormula) → Given S defs context env → AllTrue S.defs S.has_spec env fs → Given S defs (with_hypotheses context fs) env
  given_with defs context fs g t = record { suits = g.suits; global = g.global; hypotheses = all_true S.defs S.has_spec env context.hypotheses fs g.hypotheses t; mark = g.mark }

held_type : (t : CType) (x : Value) → (x ≡ Vundef) ⊎ (has t x ≡ true) → x ≢ Vundef → has t x ≡ true
held_type t x (inl e) some = absurd (some e)
held_type t x (inr good) some = good

-- ---- the row

module _ (defs : Defs) (specs : SpecTable) (n : ℕ) (run : r.Run) (y : List ℕ) (ex : Expr) (rest : List Stmt) (laid : AreLaidOut defs.structs) (fits : RunFits defs specs run) (next : run.rest ≡ Set y ex ∷ rest) (bare : run.source.existentials ≡ []) (memory : is_read ex ≡ true)
    (v : Plain × Needs) (from : read_from run.source defs.structs ex ≡ Ok v) (typed more' : List PlainFormula) (said : saying [] (of_type (sized_type (type_of ex)) v.0 ∷ []) ≡ Ok typed) (kept : Kept run.context.hypotheses typed more') where
  abbrev scope : Scope
  scope = scope_of run.context

  abbrev claim : PlainFormula
  claim = of_type (sized_type (type_of ex)) v.0

  read : IsRead defs.structs run.source ex v
  read = what_is_read defs.structs run.source ex v from

  scalar : (s : Scalar) × (scalar_of (type_of ex) ≡ Some s)
  scalar = scalar_from (type_of ex) (and_parts (is_place ex) (is_some (chunk_of (type_of ex))) memory).1

  types : IsTyped defs.structs (names_in fits.statements.file fits.statements.function) ex
  types =
      let names = names_in fits.statements.file fits.statements.function in
      let result = fits.statements.function.result in
      (subst (AreTyped defs.structs names result) next (part_typed defs.structs names result fits.statements.part (flat_typed defs.structs names result fits.statements.function.body fits.statements.body.typed))).0.value.typed

  typed_is : typed ≡ claim ∷ []
  typed_is = saying_is [] (claim ∷ []) typed said

  sides_fit : AllFit (value_defs defs) run.context v.1.sides
  sides_fit =
      let made = item_of defs.structs defs.structs run.source ex v read refl (lies defs specs run fits bare ex read.l read.found) in
      let good = item_good defs specs run fits bare ex read.l read.found v.0 (scalar_sort defs.structs (type_of ex) scalar.0 scalar.1) made in
      all_of (Fits (value_defs defs) scope) v.1.sides
      (subst (AllByRecursion (Fits (value_defs defs) scope)) (sym read.sides)
      (both (Fits (value_defs defs) scope) read.l.sides (is_defined v.0 ∷ []) (location defs specs run fits bare ex read.l read.found).needs.sides (defined_fits (value_defs defs) scope v.0 good, tt)))

  abbrev behind : Context → Answer
  behind context = set_to run y v.0 (with_hypotheses context more')

  module _ (goals : List Goal) (w : Needed run.context run.source v.1 behind goals) (hold : AllByRecursion (HoldsFor defs specs n) goals)
      (L : Linked) (more : List Further) (place : Places) (has' : Has L defs specs) (apart : AreApart L more place) (lemmas : LemmasAreTrue (setting L more place) defs) (env : Env) (given : Given (setting L more place) defs run.context env)
      (keeps : KeepsBelow (world L more place) (sight L more place specs) n) (act : Act) (h : Heaplet) (stands : Stands (setting L more place) env run.exits.ret run.source act h) where
    abbrev T : Setting
    T = setting L more place

    pub safe : SafeAll (world L more place) n (Set y ex ∷ rest) (goal_exits T env run.exits) act h
    safe =
        let look = seen (program L more place) act.blocks h in
        let names = names_in fits.statements.file fits.statements.function in
        let met = needs_met defs specs n L more place has' apart lemmas env run.context run.source v.1 behind goals act.blocks act.temps h sides_fit w hold given stands.holds in
        let said' : AllTrue T.defs T.has_spec env (read.l.sides ++ is_defined v.0 ∷ []) = subst (AllTrue T.defs T.has_spec env) read.sides met.0.sides in
        let own : IsMet T env look (record { sides = read.l.sides; valid = read.l.valid }) =
        record { sides = all_true_first T.defs T.has_spec env read.l.sides (is_defined v.0 ∷ []) said'; valid = subst (AllValid T.defs env look) read.valid met.0.valid } in
        let defined : Truth T.defs T.has_spec env (is_defined v.0) = (all_true_second T.defs T.has_spec env read.l.sides (is_defined v.0 ∷ []) said').0 in
        let meets = run_meets L more place defs specs run env act h has' (subst AreLaidOut (sym has'.structs) laid) given fits bare stands in
        let located : IsLocated T env look act.temps run.source.parts ex read.l =
        objects_lie_in_parts T env look act.temps run.source h names meets ex read.l (subst (λ s. IsTyped s names ex) (sym has'.structs) types)
        (subst (λ s. AllByRecursion (PartIsSorted s) run.source.parts) (sym has'.structs) (parts_are_sorted defs specs scope run.source fits.source))
        (subst (λ s. locate run.source s ex ≡ Ok read.l) (sym has'.structs) read.found) own in
        let region = located.lies.region in
        let value = located.lies.value in
        let one = one_part T env located.lies.before (FieldAt region value) located.lies.behind h (subst (λ ps. PartsHold T env ps h) located.lies.parts_are meets.parts) in
        let loaded : IsLoaded T env look act.temps ex v.0 one.here = (located.stands one.here (object_of one.holds)).loaded scalar.0 v.0 scalar.1 (item_of defs.structs T.defs.structs run.source ex v read (sym has'.structs) located.lies) in
        let some = defined_is T env v.0 loaded.value defined loaded.means in
        let evaluates = loaded.is some (shows_part look.byte_at one.here one.others h one.joins (λ b o byte e. e)) in
        let claimed : Truth T.defs T.has_spec env claim = type_true T env (type_of ex) v.0 loaded.value (scalar_shaped (type_of ex) scalar.0 scalar.1) (held_type (type_of ex) loaded.value loaded.typed some) loaded.means in
        let more_true : AllTrue T.defs T.has_spec env more' = kept_of_true T.defs T.has_spec env run.context.hypotheses typed more' kept (subst (AllTrue T.defs T.has_spec env) (sym typed_is) (claimed, tt)) in
        let context = with_hypotheses (enriched run.context w.sides.kept) more' in
        let next_goal = runs_on run context (with_temp y v.0 run.source) in
        let left : HoldsFor defs specs n next_goal = (subst (AllByRecursion (HoldsFor defs specs n)) (sym (same_goals (next_goal ∷ []) w.rest w.behind_is)) met.2).0 in
        set_on defs specs n run y ex rest next bare fits.source.temporaries v.0 context left L more place has' apart lemmas env (given_with T env defs (enriched run.context w.sides.kept) more' met.1 more_true)
        keeps act h stands loaded.value loaded.means evaluates

pub read_sound : (defs : Defs) (specs : SpecTable) (n : ℕ) (run : r.Run) (y : List ℕ) (ex : Expr) (rest : List Stmt) (goals : List Goal) → AreLaidOut defs.structs → RunFits defs specs run → run.rest ≡ Set y ex ∷ rest → is_read ex ≡ true → Row defs.structs (Run run) (Ok goals) →
    AllByRecursion (HoldsFor defs specs n) goals → HoldsFor defs specs n (Run run)
read_sound defs specs n run y ex rest goals laid fits next memory row hold =
    let structs = defs.structs in
    let of_set = passed (some_left run.source.existentials) intros_first (Sets structs run y ex) goals (subst (λ ss. OfNext structs run (slice_get ss 0) (Ok goals)) next row) in
    let bare = no_more run.source.existentials of_set.0 in
    let found = of_result (read_from run.source structs ex) (SetsRead run y (type_of ex)) goals (subst (λ b. SetsBy b structs run y ex (Ok goals)) memory of_set.1) in
    let v = found.0 in
    let typed = of_result (saying [] (of_type (sized_type (type_of ex)) v.0 ∷ [])) (SetsTyped run y v) goals found.2 in
    let more = typed.2.0 in
    let w = needed_of run.context run.source v.1 (λ context. set_to run y v.0 (with_hypotheses context more)) goals typed.2.2 in
    record {
      in_each = λ L further place has' apart lemmas env given keeps act h stands.
          subst (λ ss. SafeAll (world L further place) n ss (goal_exits (setting L further place) env run.exits) act h) (sym next)
          (safe defs specs n run y ex rest laid fits next bare memory v found.1 typed.0 more typed.1 typed.2.1 goals w hold L further place has' apart lemmas env given keeps act h stands);
    }

pub of_read : IsSoundOn IsSetFromMemory
of_read defs specs n run (Set x e) rest goals laid fits next is row hold = read_sound defs specs n run x e rest goals laid fits next is row hold
of_read defs specs n run s rest goals laid fits next is row hold = absurd is
