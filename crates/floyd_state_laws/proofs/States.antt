-- What is seen of a heaplet meets the source of a goal.
use Rattle.std.proofs.Common.{◌≡◌, ℕ, inl, inr, ◌||◌, if◌then◌else◌, ◌&&◌, Bool, true, false, List, [], ◌∷◌, ◌++◌, Option, Some, None, is_some, refl, sym, ap, ap₂, subst, ◌∙◌, bytes_eq}
use Rattle.std.specs.List.{AllByRecursion}
use Rattle.std.specs.Map.{lookup}
use Rattle.std.proofs.lemmas.Bool.{eq-eqb}
use Rattle.std.proofs.lemmas.Slice.Eq.{bytes_eq-Decides}
use Rattle.floyd_int.specs.declared.kinds.Value.{Value}
use Rattle.floyd_int.specs.declared.kinds.Value.TheVariants as v
use Rattle.floyd_ctypes.specs.declared.ctype.CType.{CType}
use Rattle.floyd_clight.specs.declared.syntax.Binding.{Binding}
use Rattle.floyd_clight.specs.declared.syntax.Binding.TheVariants.{Block, File}
use Rattle.floyd_clight_heap.specs.Heaplet.{Cell, Heaplet, Joins, JoinsAt, both}
use Rattle.floyd_clight_machine.specs.Machine.{Act, LocalBlock, block_named}
use Rattle.floyd_clight_runs.specs.Seen.{is_function_start, seen}
use Rattle.floyd_clight_typing.specs.Bodies.{names_in}
use Rattle.floyd_clight_typing.specs.Expressions.{local_type, type_named}
use Rattle.floyd_tree_sorts.specs.declared.sorts.Sort.{Val as ValSort}
use Rattle.floyd_tree.specs.Plain.{Plain}
use Rattle.floyd_tree_values.specs.BuiltIns.{Env}
use Rattle.floyd_tree_values.specs.Data.{HasSort, IsValue, Val}
use Rattle.floyd_tree_values.specs.Means.{Means}
use Rattle.floyd_tree_values.specs.Rules.{Scope, Suits}
use Rattle.floyd_tree_values.proofs.AllFuns.{a_value}
use Rattle.floyd_tree_values.proofs.OneValue.{one_value}
use Rattle.floyd_assert_cells.specs.Cells.{ValidPart}
use Rattle.floyd_assert_trees.specs.declared.assertion.Local.{Local}
use Rattle.floyd_assert_trees.specs.declared.items.Defs.{Defs}
use Rattle.floyd_assert_trees.specs.declared.sep.Sep.TheVariants.{Anything, Valid}
use Rattle.floyd_assert_trees.specs.declared.spec.SpecTable.{SpecTable}
use Rattle.floyd_assert_meaning.specs.Assertions.{LocalsHold}
use Rattle.floyd_assert_meaning.specs.Parts.{PartHolds, PartsHold, address}
use Rattle.floyd_assert_meaning.specs.Parts as parts
use Rattle.floyd_assert_meaning.specs.Settings.{Setting, with_data}
use Rattle.floyd_goal_trees.specs.Contexts.{scope_of}
use Rattle.floyd_goal_trees.specs.declared.goal.Run as r
use Rattle.floyd_goal_meaning.specs.declared.linked.Linked.{Linked}
use Rattle.floyd_goal_meaning.specs.GoalHolds.{Given, Stands}
use Rattle.floyd_goal_meaning.specs.Links.{Has}
use Rattle.floyd_goal_meaning.specs.Programs.{Further, Places, defs_of, program, setting}
use Rattle.floyd_goal_forms.specs.Assertions.{inner_scope}
use Rattle.floyd_goal_forms.specs.Goals.{RunFits}
use Rattle.floyd_goal_forms.specs.Terms.{TermFits, scope_with}
use Rattle.floyd_goal_laws.proofs.Growing.{term_fits_program}
use Rattle.floyd_symexpr_pointer_laws.specs.Laws.{IsValidIn}
use Rattle.floyd_symexpr_soundness.specs.Laws.{AreLaidOut, Meets, block_in}
use Rattle.floyd_state_laws.proofs.Places.{file_stands, local_stands}

-- ---- what is seen

sees_some : (o : Option Cell) (c : Cell) (b : Bool) → o ≡ Some c → (is_some o || b) ≡ true
sees_some o c b e = ap (λ p. is_some p || b) e

sees_start : (o : Option Cell) (b : Bool) → b ≡ true → (is_some o || b) ≡ true
sees_start None b e = e
sees_start (Some c) b e = refl

first_cell : (g k h : Option Cell) (c : Cell) → JoinsAt g k h → g ≡ Some c → (d : Cell) × (h ≡ Some d)
first_cell None k h c j e = absurd cc
first_cell (Some x) None h c j e = (x, j)
first_cell (Some x) (Some y) h c j e = (both x y, j.2)

module _ (L : Linked) (more : List Further) (place : Places) where
  seen_valid : (blocks : List LocalBlock) (g k h : Heaplet) (x : Value) → Joins g k h → ValidPart (λ block. (setting L more place).is_function block ≡ true) x g → IsValidIn (seen (program L more place) blocks h) x
  seen_valid blocks g k h v.Vundef j p = absurd p
  seen_valid blocks g k h (v.Vint n) j p = absurd p
  seen_valid blocks g k h (v.Vlong n) j p = p
  seen_valid blocks g k h (v.Vptr b o) j (inl (f, e)) = sees_start (h b o) (is_function_start (program L more place) b o) (ap₂ (λ p q. p && q) (eq-eqb o 0 e) f)
  seen_valid blocks g k h (v.Vptr b o) j (inr w) =
      let c = first_cell (g b o) (k b o) (h b o) w.cell (j.at b o) w.has in
      sees_some (h b o) c.0 (is_function_start (program L more place) b o) c.1

  part_valid : (env : Env) (blocks : List LocalBlock) (t : Plain) (g k h : Heaplet) → Joins g k h → PartHolds (setting L more place) env (Valid t) g → (x : Value) × Means (defs_of L) env t (Val x) × IsValidIn (seen (program L more place) blocks h) x
  part_valid env blocks t g k h j (address (x, mean, valid)) = (x, mean, seen_valid blocks g k h x j valid)

  pub valid_parts_seen : (env : Env) (blocks : List LocalBlock) (t : Plain) (h : Heaplet) → PartsHold (setting L more place) env (Valid t ∷ Anything ∷ []) h → (x : Value) × Means (defs_of L) env t (Val x) × IsValidIn (seen (program L more place) blocks h) x
  valid_parts_seen env blocks t h (parts.more {g = g} {k = k} j first rest) = part_valid env blocks t g k h j first

-- ---- values of temporaries

module _ (L : Linked) (defs : Defs) (specs : SpecTable) (has : Has L defs specs) (scope : Scope) (env : Env) (suits : Suits scope env) (temps : List ℕ → Value) where
  value_is : (t : Plain) (x : Value) → TermFits defs scope ValSort t → Means (defs_of L) env t (Val x) → IsValue x
  value_is t x fits mean =
      let w = a_value (defs_of L) scope env ValSort t has.rules suits (term_fits_program L defs specs has scope ValSort t fits.fits) in
      subst (HasSort ValSort) (one_value (defs_of L) w.1 (Val x) mean) w.2

  values_are : (locals : List Local) → AllByRecursion (λ (l : Local). TermFits defs scope ValSort l.term) locals → LocalsHold (defs_of L) env temps locals → AllByRecursion (λ (l : Local). IsValue (temps l.name)) locals
  values_are [] fits hold = tt
  values_are (l ∷ locals) fits hold = (value_is l.term (temps l.name) fits.0 hold.0, values_are locals fits.1 hold.1)

-- ---- states

known_in : (defs : Defs) (file : List (List ℕ × CType)) (x : List ℕ) (t : CType) → AllByRecursion (λ y. is_some (lookup (bytes_eq y.0) defs.globals) ≡ true) file → lookup (bytes_eq x) file ≡ Some t → is_some (lookup (bytes_eq x) defs.globals) ≡ true
known_in defs [] x t k e = absurd cc
known_in defs (y ∷ file) x t k e = by (bytes_eq x y.0) refl e (λ f. known_in defs file x t k.1 f)
  where
    by : (b : Bool) → bytes_eq x y.0 ≡ b → (if b then Some y.1 else lookup (bytes_eq x) file) ≡ Some t → (lookup (bytes_eq x) file ≡ Some t → is_some (lookup (bytes_eq x) defs.globals) ≡ true) → is_some (lookup (bytes_eq x) defs.globals) ≡ true
    by true f g later = subst (λ z. is_some (lookup (bytes_eq z) defs.globals) ≡ true) (sym ((bytes_eq-Decides x y.0).0 f)) k.0
    by false f g later = later g

module _ (L : Linked) (more : List Further) (place : Places) (defs : Defs) (specs : SpecTable) (run : r.Run) (env : Env) (act : Act) (h : Heaplet) (has : Has L defs specs) (laid : AreLaidOut L.structs) (given : Given (setting L more place) defs run.context env)
    (fits : RunFits defs specs run) (bare : run.source.existentials ≡ []) (stands : Stands (setting L more place) env run.exits.ret run.source act h) where
  abbrev S : Setting
  S = setting L more place

  named : (binding : Binding) (x : List ℕ) (t : CType) → type_named (names_in fits.statements.file fits.statements.function) binding x ≡ Some t → block_named (program L more place) act.blocks binding x ≡ Some (block_in env binding x)
  named Block x t e = local_stands L.structs env run.exits.ret.blocks act.blocks x t stands.blocks stands.places (subst (λ ls. local_type ls x ≡ Some t) (sym fits.statements.blocks) e)
  named File x t e =
      file_stands L more place x (has.globals x (known_in defs fits.statements.file x t fits.statements.known e))
      ∙ ap (λ (p : List ℕ → ℕ). Some (p x)) (sym given.global)

  same_env : with_data env run.source.existentials stands.holds.witnesses ≡ env
  same_env = ap (λ bs. with_data env bs stands.holds.witnesses) bare

  locals : LocalsHold S.defs env act.temps run.source.locals
  locals = subst (λ e. LocalsHold S.defs e act.temps run.source.locals) same_env stands.holds.locals

  same_scope : inner_scope run.source (scope_of run.context) ≡ scope_of run.context
  same_scope = ap (λ bs. scope_with bs ++ scope_of run.context) bare

  pub run_meets : Meets S env (seen (program L more place) act.blocks h) act.temps run.source h (names_in fits.statements.file fits.statements.function)
  run_meets = record {
    locals = locals;
    values = values_are L defs specs has (scope_of run.context) env given.suits act.temps run.source.locals
        (subst (λ s. AllByRecursion (λ (l : Local). TermFits defs s ValSort l.term) run.source.locals) same_scope fits.source.locals) locals;
    parts = subst (λ e. PartsHold S e run.source.parts h) same_env stands.holds.parts;
    sees = record { valid = λ b o c e. sees_some (h b o) c (is_function_start (program L more place) b o) e };
    names = record { stand = named };
    structs = laid;
  }
