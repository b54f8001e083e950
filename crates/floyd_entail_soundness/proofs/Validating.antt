-- `valid`: a part says that its address is valid, and a hypothesis that a value is.
use Rattle.std.proofs.Common.{◌≡◌, ◌⊎◌, inl, inr, ℕ, Bool, true, false, ◌&&◌, ℤ, pos, List, [], ◌∷◌, ◌++◌, map, Option, Some, None, Ok, All, refl, sym, ap, subst, ◌∙◌, cond, eq-eqb, eqb-true}
use Rattle.std.specs.Prelude.{if◌then◌else◌, ◌==◌, find, int_le, is_some, slice_get}
use Rattle.std.specs.List.{AllByRecursion, list_any}
use Rattle.std.proofs.lemmas.Bool.{and_parts, or_cases}
use Rattle.std.proofs.lemmas.List.Elements.{All-cons, All-nil}
use Rattle.std.proofs.lemmas.Option.{same_Some}
use Rattle.floyd_int.specs.declared.kinds.Value.{Value}
use Rattle.floyd_int.specs.declared.kinds.Value.TheVariants.{Vundef, Vint, Vlong, Vptr}
use Rattle.floyd_text.specs.declared.refusal.No.{No}
use Rattle.floyd_ctypes.specs.Structs.{Structs}
use Rattle.floyd_clight_heap.specs.Heaplet.{Heaplet, empty}
use Rattle.floyd_clight_heap.proofs.Sums.{right_empty}
use Rattle.floyd_clight_machine.specs.Programs.{FunctionBlock}
use Rattle.floyd_tree_sorts.specs.declared.connectives.FormulaHead.TheVariants.{True, False, Implies, Or, And, Forall, Exists, Equal, AtMost, IsPtr, Defined, Hasty, Compatible, FuncPtr}
use Rattle.floyd_tree_sorts.specs.declared.heads.Head.TheVariants.{Operator}
use Rattle.floyd_tree_sorts.specs.declared.operators.Operator.TheVariants.{Nullval}
use Rattle.floyd_tree_sorts.specs.declared.sorts.Sort.{Z}
use Rattle.floyd_tree.specs.Formulas.{PlainFormula, Says, form_of, terms_of}
use Rattle.floyd_tree.specs.Plain.{Plain, Plains, At, Done, More, head_of, listed}
use Rattle.floyd_tree.specs.Types.{SizedType}
use Rattle.floyd_tree_values.specs.BuiltIns.{Env}
use Rattle.floyd_tree_values.specs.Data.{Datum, Number, Val}
use Rattle.floyd_tree_values.specs.Means.{Means, AllMean}
use Rattle.floyd_tree_values.specs.Rules.{CallsOf, EachAllowed, Scope}
use Rattle.floyd_tree_values.proofs.OneValue.{applies, one_value, split}
use Rattle.floyd_truth.specs.Truth.{AllTrue, Truth}
use Rattle.floyd_assert_trees.specs.declared.assertion.Assertion.{Assertion}
use Rattle.floyd_assert_trees.specs.declared.binder.Binder.{Binder}
use Rattle.floyd_assert_trees.specs.declared.items.Defs.{Defs}
use Rattle.floyd_assert_trees.specs.declared.sep.Region.{Region}
use Rattle.floyd_assert_trees.specs.declared.sep.Sep.{Sep}
use Rattle.floyd_assert_trees.specs.declared.sep.Sep.TheVariants.{FieldAt, Padding, Valid, Anything, Predicate}
use Rattle.floyd_assert_trees.specs.declared.spec.SpecTable.{SpecTable}
use Rattle.floyd_assert_trees.specs.Meanings.{value_defs}
use Rattle.floyd_assert_meaning.specs.Parts.{PartHolds, PartsHold, ValidHolds, address as address_part}
use Rattle.floyd_assert_meaning.specs.Settings.{Setting, with_data}
use Rattle.floyd_assert_meaning.proofs.Inversions.{object_of}
use Rattle.floyd_assert_meaning.proofs.Orders.{together}
use Rattle.floyd_fieldpath.specs.Addresses.{address, size_term}
use Rattle.floyd_fieldpath.specs.Nested.{literal, nested_type, type_at}
use Rattle.floyd_fieldpath_laws.proofs.AddressMeanings.{answered}
use Rattle.floyd_fieldpath_laws.proofs.Meanings.{literal_means, on_ok_is}
use Rattle.floyd_fieldpath_laws.proofs.SortedAddresses.{size_sort}
use Rattle.floyd_fieldpath_laws.proofs.TypeSorts.{types_have_sorts}
use Rattle.floyd_part_laws.specs.Laws.{IsPlace}
use Rattle.floyd_part_laws.proofs.Regions.{valid_address}
use Rattle.floyd_goal.specs.Goals.{hypothesis_at, intros_first, some_left}
use Rattle.floyd_goal_formulas.specs.Fits.{Fits}
use Rattle.floyd_goal_truth.proofs.Uses.{hypothesis_true}
use Rattle.floyd_goal_truth.specs.Scopes.{AllFit}
use Rattle.floyd_goal_trees.specs.Contexts.{scope_of}
use Rattle.floyd_goal_trees.specs.declared.args.Args.{Args}
use Rattle.floyd_goal_trees.specs.declared.args.Target as t
use Rattle.floyd_goal_trees.specs.declared.context.Context.{Context}
use Rattle.floyd_goal_trees.specs.declared.goal.Entail as e
use Rattle.floyd_goal_trees.specs.declared.goal.Goal.{Goal}
use Rattle.floyd_goal_trees.specs.declared.goal.Goal.TheVariants.{Run, Entail, Pure}
use Rattle.floyd_goal_forms.specs.Assertions.{PartFits, PredicatesOf, RegionFits}
use Rattle.floyd_goal_forms.specs.Goals.{IsWellFormed}
use Rattle.floyd_goal_forms.specs.Terms.{TermFits}
use Rattle.floyd_goal_meaning.specs.declared.linked.Linked.{Linked}
use Rattle.floyd_goal_meaning.specs.declared.linked.LinkedFunction.{LinkedFunction}
use Rattle.floyd_goal_meaning.specs.GoalHolds.{HoldsFor}
use Rattle.floyd_goal_meaning.specs.Programs.{Further, Places, function_block, further_block, has_name, has_spec, setting}
use Rattle.floyd_goal_laws.proofs.Givens.{given_after}
use Rattle.floyd_goal_parts.specs.declared.placing.Plan.{Plan}
use Rattle.floyd_goal_parts.specs.Rows.{Answer, Unless}
use Rattle.floyd_goal_parts.specs.Writing.{at_most}
use Rattle.floyd_entail.specs.Valid.{ByTarget, ByValue, OfHypothesis, Row, is_null, null_value, one_at_least, only_valid, some_byte, valid_at, valid_in, valid_plan, valid_value, value_by, with_valid}
use Rattle.floyd_entail_soundness.proofs.InPlace.{is_place, typed_at}
use Rattle.floyd_entail_soundness.proofs.Placing.{alone, same_Ok}
use Rattle.floyd_entail_soundness.proofs.Sizes.{bound_fits, path_good, size_good}
use Rattle.floyd_entail_soundness.proofs.UnderSides.{KeepsUnder, under_sound}
use Rattle.floyd_entail_soundness.proofs.Written.{all_written_is}

-- ---- a part

-- what is planned for a part at a path
record Planned (structs : Structs) (r : Region) (plan : Plan) : Type 0 where
  pub type : SizedType
  pub typed : type_at structs r.ty r.path ≡ Some type
  pub root : Plain
  pub rooted : address structs r.ty r.path r.root ≡ Ok root
  pub bytes : Plain
  pub sized : size_term structs type.shape type.sizes ≡ Ok bytes
  pub sides : at_most (literal (pos 1)) bytes ∷ [] ≡ plan.sides
  pub new : Valid root ∷ [] ≡ plan.new

planned : (structs : Structs) (r : Region) (v : Plain) (plan : Plan) → valid_plan structs (FieldAt r v) ≡ Ok plan → Planned structs r plan
planned structs r v plan made =
    let a = on_ok_is (nested_type structs r.ty r.path) (valid_in structs r) plan made in
    let b = on_ok_is (address structs r.ty r.path r.root) (valid_at structs a.0) plan a.2 in
    let c = on_ok_is (some_byte structs a.0) (only_valid b.0) plan b.2 in
    let d = on_ok_is (size_term structs a.0.shape a.0.sizes) one_at_least c.0 c.1 in
    let same : ◌≡◌ {A = Plan} (record { sides = c.0; new = Valid b.0 ∷ [] }) plan = same_Ok {A = Plan} (record { sides = c.0; new = Valid b.0 ∷ [] }) plan c.2 in
    record {
      type = a.0;
      typed = typed_at structs r.ty a.0 r.path a.1;
      root = b.0;
      rooted = b.1;
      bytes = d.0;
      sized = d.1;
      sides = all_written_is (at_most (literal (pos 1)) d.0 ∷ []) c.0 d.2 ∙ ap (λ (p : Plan). p.sides) same;
      new = ap (λ (p : Plan). p.new) same;
    }

module _ (defs : Defs) (scope : Scope) where
  sizes_good : (ts : List Plain) → AllByRecursion (TermFits defs scope Z) ts → AllByRecursion (EachAllowed defs.structs scope (CallsOf (value_defs defs).funs)) ts
  sizes_good [] h = tt
  sizes_good (u ∷ ts) h = (h.0.fits.allowed, sizes_good ts h.1)

  -- the bound on the number of bytes is well formed
  side_fits : (r : Region) (plan : Plan) → RegionFits defs scope r → Planned defs.structs r plan → All (Fits (value_defs defs) scope) plan.sides
  side_fits r plan f p =
      let place = is_place defs scope r f in
      let nested = types_have_sorts defs.structs r.ty p.type r.path place.sort place.sizes place.path p.typed place.has in
      let number = answered Z (size_term defs.structs p.type.shape p.type.sizes) p.bytes (size_sort defs.structs p.type.shape p.type.sizes nested.sizes.numbers) p.sized in
      let calls = CallsOf (value_defs defs).funs in
      let good = size_good defs.structs scope calls p.type.shape p.type.sizes p.bytes (path_good defs.structs scope calls r.path r.ty p.type (sizes_good r.ty.sizes f.type.sizes.sizes) p.typed) p.sized in
      subst (All (Fits (value_defs defs) scope)) p.sides
      (All-cons (Fits (value_defs defs) scope) (at_most (literal (pos 1)) p.bytes) [] (bound_fits (value_defs defs) scope (pos 1) p.bytes number good) (All-nil (Fits (value_defs defs) scope)))

number_is : (x y : ℤ) → Number x ≡ Number y → x ≡ y
number_is x y e = cc

-- where the bound is true the address is valid
part_valid : (S : Setting) (env : Env) (r : Region) (v : Plain) (plan : Plan) (h : Heaplet) → IsPlace S.defs.structs r → Planned S.defs.structs r plan → AllTrue S.defs S.has_spec env plan.sides → PartHolds S env (FieldAt r v) h → PartsHold S env plan.new h
part_valid S env r v plan h place p sides holds =
    let bound : AllTrue S.defs S.has_spec env (at_most (literal (pos 1)) p.bytes ∷ []) = subst (AllTrue S.defs S.has_spec env) (sym p.sides) sides in
    by bound.0
  where
    by : Truth S.defs S.has_spec env (at_most (literal (pos 1)) p.bytes) → PartsHold S env plan.new h
    by (least, count, mean, e) =
        let a = split mean in
        let b = split a.rest in
        let one : a.datum ≡ Number least = (let q = a.is in cc) in
        let two : b.datum ≡ Number count = (let q = a.is in let w = b.is in cc) in
        let low : pos 1 ≡ least = number_is (pos 1) least (one_value S.defs (literal_means S.defs env (pos 1)) (Number least) (subst (Means S.defs env (literal (pos 1))) one a.first)) in
        let valid : ValidHolds S env p.root h = valid_address S env r p.type v p.root p.bytes count h place p.typed p.rooted p.sized (subst (Means S.defs env p.bytes) two b.first) (ap (λ z. int_le z count) low ∙ e) (object_of holds) in
        subst (λ ps. PartsHold S env ps h) p.new (alone S env (Valid p.root) h (address_part valid))

pub valid_keeps : (defs : Defs) (specs : SpecTable) (context : Context) → KeepsUnder defs specs context (valid_plan defs.structs)
valid_keeps defs specs context = record {
  fit = λ p plan fits made. fit p plan fits made;
  keeps = λ L more place has p plan fits made env h sides holds. keeps L more place (sym has.structs) p plan fits made env h sides holds;
}
  where
    fit : (p : Sep) (plan : Plan) → PartFits defs (scope_of context) (PredicatesOf defs (scope_of context)) p → valid_plan defs.structs p ≡ Ok plan → AllFit (value_defs defs) context plan.sides
    fit (FieldAt r v) plan fits made = side_fits defs (scope_of context) r plan fits.region (planned defs.structs r v plan made)
    fit (Padding r) plan fits made = absurd cc
    fit (Valid u) plan fits made = absurd cc
    fit Anything plan fits made = absurd cc
    fit (Predicate name terms) plan fits made = absurd cc

    keeps : (L : Linked) (more : List Further) (place : Places) → defs.structs ≡ (setting L more place).defs.structs → (p : Sep) (plan : Plan) → PartFits defs (scope_of context) (PredicatesOf defs (scope_of context)) p → valid_plan defs.structs p ≡ Ok plan →
        (env : Env) (h : Heaplet) → AllTrue (setting L more place).defs (setting L more place).has_spec env plan.sides → PartHolds (setting L more place) env p h → PartsHold (setting L more place) env plan.new h
    keeps L more place same (FieldAt r v) plan fits made env h sides holds =
        part_valid (setting L more place) env r v plan h (subst (λ s. IsPlace s r) same (is_place defs (scope_of context) r fits.region)) (subst (λ s. Planned s r plan) same (planned defs.structs r v plan made)) sides holds
    keeps L more place same (Padding r) plan fits made env h sides holds = absurd cc
    keeps L more place same (Valid u) plan fits made env h sides holds = absurd cc
    keeps L more place same Anything plan fits made env h sides holds = absurd cc
    keeps L more place same (Predicate name terms) plan fits made env h sides holds = absurd cc

-- ---- a hypothesis

module _ (L : Linked) (more : List Further) (place : Places) where
  abbrev S : Setting
  S = setting L more place

  -- the block of a function that was declared with a SPEC is a function's
  abbrev IsDeclared : ℕ → List ℕ → List LinkedFunction → Type 0
  IsDeclared block name fs = list_any (λ (f : LinkedFunction). place f.name == block && has_name name f.own) fs ≡ true

  abbrev IsFound : ℕ → List FunctionBlock → Type 0
  IsFound block fs = is_some (find (λ (g : FunctionBlock). block == g.block) fs) ≡ true

  found_later : (block : ℕ) (g : FunctionBlock) (fs : List FunctionBlock) (b : Bool) → IsFound block fs → is_some (cond b (Some g) (find (λ (g : FunctionBlock). block == g.block) fs)) ≡ true
  found_later block g fs true h = refl
  found_later block g fs false h = h

  found_now : (block : ℕ) (f : LinkedFunction) (name : List ℕ) (fs : List FunctionBlock) → (place f.name == block && has_name name f.own) ≡ true → IsFound block (function_block place f ∷ fs)
  found_now block f name fs h =
      let same : place f.name ≡ block = eqb-true (place f.name) block (and_parts (place f.name == block) (has_name name f.own) h).0 in
      ap (λ b. is_some (cond b (Some (function_block place f)) (find (λ (g : FunctionBlock). block == g.block) fs))) (eq-eqb block (place f.name) (sym same))

  declared : (block : ℕ) (name : List ℕ) (fs : List LinkedFunction) (rest : List FunctionBlock) → IsDeclared block name fs → IsFound block (map (function_block place) fs ++ rest)
  declared block name [] rest e = absurd cc
  declared block name (f ∷ fs) rest e = by (declared block name fs rest) (or_cases (place f.name == block && has_name name f.own) (list_any (λ (g : LinkedFunction). place g.name == block && has_name name g.own) fs) e)
    where
      by : (IsDeclared block name fs → IsFound block (map (function_block place) fs ++ rest)) → ((place f.name == block && has_name name f.own) ≡ true) ⊎ IsDeclared block name fs → IsFound block (map (function_block place) (f ∷ fs) ++ rest)
      by next (inl h) = found_now block f name (map (function_block place) fs ++ rest) h
      by next (inr h) = found_later block (function_block place f) (map (function_block place) fs ++ rest) (block == place f.name) (next h)

  function_valid : (env : Env) (v : Plain) (name : List ℕ) (value : Value) → Means S.defs env v (Val value) → has_spec L place name value ≡ true → ValidHolds S env v empty
  function_valid env v name Vundef means e = absurd cc
  function_valid env v name (Vint bits) means e = absurd cc
  function_valid env v name (Vlong bits) means e = absurd cc
  function_valid env v name (Vptr block offset) means e =
      let p = and_parts (offset == 0) (list_any (λ (f : LinkedFunction). place f.name == block && has_name name f.own) L.functions) e in
      (Vptr block offset, means, inl (declared block name L.functions (map (further_block place) more) p.1, eqb-true offset 0 p.0))

  null_valid : (env : Env) (v : Plain) (d : Datum) → Means S.defs env v d → d ≡ Val (Vlong 0) → ValidHolds S env v empty
  null_valid env v d means e = (Vlong 0, subst (Means S.defs env v) e means, refl)

  -- a null term means null
  null_means : (env : Env) (w : Plain) (d : Datum) → is_null (head_of w) ≡ true → Means S.defs env w d → d ≡ Val (Vlong 0)
  null_means env (At (Operator Nullval) kids) d e means = (applies refl means).is
  null_means env (At head kids) d e means = absurd cc

  equal_valid : (env : Env) (terms : Plains) (v : Plain) (d : Datum) → null_value (listed terms) ≡ Some v → AllMean S.defs env terms (d ∷ d ∷ []) → ValidHolds S env v empty
  equal_valid env Done v d e mean = absurd cc
  equal_valid env (More a Done) v d e mean = absurd cc
  equal_valid env (More a (More w rest)) v d e mean = by (is_null (head_of w)) refl e
    where
      by : (b : Bool) → is_null (head_of w) ≡ b → (if b then Some a else None) ≡ Some v → ValidHolds S env v empty
      by true f g =
          let p = split mean in
          let q = split p.rest in
          let first : p.datum ≡ d = (let x = p.is in cc) in
          let second : q.datum ≡ d = (let x = p.is in let y = q.is in cc) in
          let value : Means S.defs env a d = subst (Means S.defs env a) first p.first in
          null_valid env v d (subst (λ x. Means S.defs env x d) (same_Some {A = Plain} a v g) value) (null_means env w d f (subst (Means S.defs env w) second q.first))
      by false f g = absurd cc

  pointer_valid : (env : Env) (terms : Plains) (v : Plain) (name : List ℕ) (value : Value) → slice_get (listed terms) 0 ≡ Some v → AllMean S.defs env terms (Val value ∷ []) → has_spec L place name value ≡ true → ValidHolds S env v empty
  pointer_valid env Done v name value e mean h = absurd cc
  pointer_valid env (More a rest) v name value e mean h =
      let p = split mean in
      let first : p.datum ≡ Val value = (let x = p.is in cc) in
      function_valid env v name value (subst (λ x. Means S.defs env x (Val value)) (same_Some {A = Plain} a v e) (subst (Means S.defs env a) first p.first)) h

  formula_valid : (env : Env) (f : PlainFormula) (v : Plain) → valid_value (form_of f) (terms_of f) ≡ Some v → Truth S.defs S.has_spec env f → ValidHolds S env v empty
  formula_valid env (Says Equal terms kids) v e h = equal_valid env terms v h.0 e h.1
  formula_valid env (Says (FuncPtr name) terms kids) v e h = pointer_valid env terms v name h.0 e h.1 h.2
  formula_valid env (Says True terms kids) v e h = absurd cc
  formula_valid env (Says False terms kids) v e h = absurd cc
  formula_valid env (Says Implies terms kids) v e h = absurd cc
  formula_valid env (Says Or terms kids) v e h = absurd cc
  formula_valid env (Says And terms kids) v e h = absurd cc
  formula_valid env (Says (Forall x s) terms kids) v e h = absurd cc
  formula_valid env (Says (Exists x s) terms kids) v e h = absurd cc
  formula_valid env (Says AtMost terms kids) v e h = absurd cc
  formula_valid env (Says IsPtr terms kids) v e h = absurd cc
  formula_valid env (Says Defined terms kids) v e h = absurd cc
  formula_valid env (Says (Hasty shape) terms kids) v e h = absurd cc
  formula_valid env (Says (Compatible shape steps) terms kids) v e h = absurd cc

  hypothesis_valid : (env : Env) (o : Option PlainFormula) (v : Plain) → value_by o ≡ Some v → ((f : PlainFormula) → o ≡ Some f → Truth S.defs S.has_spec env f) → ValidHolds S env v empty
  hypothesis_valid env None v e h = absurd cc
  hypothesis_valid env (Some f) v e h = formula_valid env f v e (h f refl)

  -- a part more that holds of no memory
  part_more : (env : Env) (parts : List Sep) (v : Plain) (h : Heaplet) → ValidHolds S env v empty → PartsHold S env parts h → PartsHold S env (parts ++ Valid v ∷ []) h
  part_more env parts v h valid holds = together S env parts (Valid v ∷ []) h empty h (right_empty h) holds (alone S env (Valid v) empty (address_part valid))

pub passed : (b : Bool) (why : No) (Next : Answer → Type 0) (goals : List Goal) → Unless b why Next (Ok goals) → (b ≡ false) × Next (Ok goals)
passed true why Next goals h = absurd cc
passed false why Next goals h = (refl, h)

pub no_more : (a : Assertion) → some_left a.existentials ≡ false → a.existentials ≡ []
no_more a e = by a.existentials e
  where
    by : (bs : List Binder) → some_left bs ≡ false → bs ≡ []
    by [] f = refl
    by (b ∷ bs) f = absurd cc

pub by_hypothesis : (defs : Defs) (specs : SpecTable) (n : ℕ) (entail : e.Entail) (k : ℕ) (goals : List Goal) → Unless (some_left entail.source.existentials) intros_first (OfHypothesis entail k) (Ok goals) → AllByRecursion (HoldsFor defs specs n) goals → HoldsFor defs specs n (Entail entail)
by_hypothesis defs specs n entail k goals row h =
    let p = passed (some_left entail.source.existentials) intros_first (OfHypothesis entail k) goals row in
    by (no_more entail.source p.0) (value_by (hypothesis_at entail.context.hypotheses k)) refl p.1
  where
    by : entail.source.existentials ≡ [] → (o : Option Plain) → value_by (hypothesis_at entail.context.hypotheses k) ≡ o → ByValue entail k o (Ok goals) → HoldsFor defs specs n (Entail entail)
    by bare None f g = absurd cc
    by bare (Some v) f g =
        let same : goals ≡ with_valid entail v ∷ [] = same_Ok {A = List Goal} goals (with_valid entail v ∷ []) g in
        let one : HoldsFor defs specs n (with_valid entail v) = (subst (AllByRecursion (HoldsFor defs specs n)) same h).0 in
        record {
          in_each = λ L more place has apart lemmas env given temps m x.
              let S = setting L more place in
              let valid = hypothesis_valid L more place env (hypothesis_at entail.context.hypotheses k) v f (λ q i. hypothesis_true S.defs S.has_spec env entail.context.hypotheses k q i given.hypotheses) in
              one.in_each L more place has apart lemmas env (given_after S defs env entail.context given) temps m
              (record {
                witnesses = x.witnesses;
                sorted = x.sorted;
                props = x.props;
                locals = x.locals;
                parts = subst (λ bs. PartsHold S (with_data env bs x.witnesses) (entail.source.parts ++ Valid v ∷ []) m) (sym bare)
                    (part_more L more place env entail.source.parts v m valid (subst (λ bs. PartsHold S (with_data env bs x.witnesses) entail.source.parts m) bare x.parts));
              });
        }

-- ---- the command

pub valid_sound : (defs : Defs) (specs : SpecTable) (n : ℕ) (goal : Goal) (args : Args) (goals : List Goal) → IsWellFormed defs specs goal → Row defs.structs goal args (Ok goals) → AllByRecursion (HoldsFor defs specs n) goals → HoldsFor defs specs n goal
valid_sound defs specs n (Run run) args goals formed row h = absurd cc
valid_sound defs specs n (Pure pure) args goals formed row h = absurd cc
valid_sound defs specs n (Entail entail) args goals formed row h = by args.target row
  where
    by : (target : t.Target) → ByTarget defs.structs entail target (Ok goals) → HoldsFor defs specs n (Entail entail)
    by t.TheVariants.Nothing r = absurd cc
    by (t.TheVariants.Part k) r = under_sound defs specs n (Entail entail) k (valid_plan defs.structs) goals formed (valid_keeps defs specs entail.context) r h
    by (t.TheVariants.Hypothesis k) r = by_hypothesis defs specs n entail k goals r h
