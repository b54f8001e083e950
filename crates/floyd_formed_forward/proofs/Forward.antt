-- `forward` keeps goals well formed.
use Rattle.std.proofs.Common.{◌≡◌, ℕ, zero, suc, Bool, true, false, List, [], ◌∷◌, Option, Some, None, Result, Ok, Err, slice_get, is_some, refl, sym, ap, subst}
use Rattle.std.specs.Prelude.{if◌then◌else◌, position, remove}
use Rattle.std.specs.List.{AllByRecursion}
use Rattle.std.proofs.lemmas.Bool.{and_parts}
use Rattle.floyd_text.specs.declared.refusal.No.{No}
use Rattle.floyd_memval.specs.Chunks.{chunk_of}
use Rattle.floyd_clight.specs.declared.syntax.Expr.{Expr}
use Rattle.floyd_clight.specs.declared.syntax.Stmt.{Stmt, Skip, Set, Assign, Call, Seq', If', Loop', Break, Continue, Return, Switch'}
use Rattle.floyd_clight.specs.declared.unit.Local.{Local}
use Rattle.floyd_clight.specs.Types.{type_of}
use Rattle.floyd_clight_typing.specs.Expressions.{is_place}
use Rattle.floyd_tree_sorts.specs.declared.heads.Head.TheVariants.{Lv}
use Rattle.floyd_tree.specs.Formulas.{PlainFormula}
use Rattle.floyd_tree.specs.Plain.{At, Done}
use Rattle.floyd_tree_values.specs.Rules.{Scope}
use Rattle.floyd_assert_trees.specs.declared.items.Defs.{Defs}
use Rattle.floyd_assert_trees.specs.declared.sep.Sep.{Sep}
use Rattle.floyd_assert_trees.specs.declared.spec.SpecTable.{SpecTable}
use Rattle.floyd_fieldpath.specs.Nested.{sized_type}
use Rattle.floyd_fieldpath.specs.Written.{on_ok}
use Rattle.floyd_fieldpath_laws.proofs.Meanings.{on_ok_is}
use Rattle.floyd_goal.specs.Goals.{enriched, intros_first, some_left}
use Rattle.floyd_goal_forms.specs.Assertions.{AssertionFits, PartFits, PredicatesOf, inner_scope}
use Rattle.floyd_goal_forms.specs.Goals.{ExitFits, IsWellFormed, RunFits}
use Rattle.floyd_goal_parts.specs.Sources.{with_parts}
use Rattle.floyd_goal_trees.specs.Contexts.{after_command, scope_of}
use Rattle.floyd_goal_trees.specs.declared.args.Args.{Args}
use Rattle.floyd_goal_trees.specs.declared.exits.Exit as e
use Rattle.floyd_goal_trees.specs.declared.exits.Exit.TheVariants as x
use Rattle.floyd_goal_trees.specs.declared.goal.Goal.{Goal}
use Rattle.floyd_goal_trees.specs.declared.goal.Goal.TheVariants.{Entail, Pure, Run}
use Rattle.floyd_goal_trees.specs.declared.goal.Run as r
use Rattle.floyd_symexpr_rows.specs.Formulas.{of_type, saying}
use Rattle.floyd_symexpr_rows.specs.Rows.{nothing_needed}
use Rattle.floyd_symexpr.specs.Expressions.{evaluate}
use Rattle.floyd_forward.specs.Assign.{Assigns, AssignsTo, assigned}
use Rattle.floyd_forward.specs.Forward.{AtEnd, OfNext}
use Rattle.floyd_forward.specs.Leave.{Leaves}
use Rattle.floyd_forward.specs.Return.{GivesBack, given_back, is_whole, returned, without_at, without_block, without_blocks}
use Rattle.floyd_forward.specs.Set.{Sets, SetsBy, SetsRead, SetsTerm, SetsTyped, is_read, read_from}
use Rattle.floyd_forward_soundness.proofs.Needs.{needed_of}
use Rattle.floyd_forward_soundness.proofs.Setting.{no_more, of_result, passed, same_goals}
use Rattle.floyd_read_soundness.proofs.Reading.{same_answer, scalar_from}
use Rattle.floyd_formed_pure.specs.Rows.{AreWellFormed}
use Rattle.floyd_formed_pure.proofs.Contexts.{after_formed}
use Rattle.floyd_formed_forward.specs.Laws.{IsNoValueReturn, NoValueReturned, ForwardRow}
use Rattle.floyd_formed_forward.proofs.Rows.{assign_forms, of_statement, read_forms, set_forms}
use Rattle.floyd_formed_forward.proofs.Running.{context_with, needing_formed}

-- ---- parts taken out

module _ (P : Sep → Type 0) where
  removed_all : (parts : List Sep) (i : ℕ) → AllByRecursion P parts → AllByRecursion P (remove parts i)
  removed_all [] zero h = tt
  removed_all [] (suc i) h = tt
  removed_all (p ∷ parts) zero h = h.1
  removed_all (p ∷ parts) (suc i) h = (h.0, removed_all parts i h.1)

  block_out : (x : List ℕ) (parts rest : List Sep) (o : Option ℕ) → without_at x parts o ≡ Ok rest → AllByRecursion P parts → AllByRecursion P rest
  block_out x parts rest (Some i) e h = subst (AllByRecursion P) (same_answer {A = List Sep} (remove parts i) rest e) (removed_all parts i h)
  block_out x parts rest None e h = absurd cc

  pub blocks_out : (blocks : List Local) (parts rest : List Sep) → without_blocks blocks parts ≡ Ok rest → AllByRecursion P parts → AllByRecursion P rest
  blocks_out [] parts rest e h = subst (AllByRecursion P) (same_answer {A = List Sep} parts rest e) h
  blocks_out (b ∷ blocks) parts rest e h =
      let w = on_ok_is {B = List Sep} (without_block b parts) (without_blocks blocks) rest e in
      blocks_out blocks w.0 rest w.2 (block_out b.name parts w.0 (position (is_whole (sized_type b.ctype) (At (Lv b.name) Done)) parts) w.1 h)

-- ---- the rows

module _ (defs : Defs) (specs : SpecTable) (run : r.Run) (formed : RunFits defs specs run) (goals : List Goal) where
  abbrev scope : Scope
  scope = scope_of run.context

  leave_forms : (exit : e.Exit) → ExitFits defs specs scope exit → Leaves run exit (Ok goals) → AreWellFormed defs specs goals
  leave_forms (x.To target) k row =
      let goal = Entail (record { context = after_command run.context; source = run.source; target = target }) in
      let one : IsWellFormed defs specs goal = record { context = after_formed defs specs (Run run) goal run.context formed.context; source = formed.source; target = k } in
      subst (AreWellFormed defs specs) (sym (same_goals goals (goal ∷ []) row)) (one, tt)
  leave_forms x.None k row = absurd cc
  leave_forms x.End k row = absurd cc

  -- nothing is returned
  end_forms : GivesBack run None nothing_needed (Ok goals) → AreWellFormed defs specs goals
  end_forms row =
      let post = run.exits.ret.post in
      let blocks = run.exits.ret.blocks in
      let w = needed_of run.context run.source nothing_needed (given_back run None) goals row in
      let made = λ (kept : List PlainFormula) (parts : List Sep). Entail (record { context = enriched run.context kept; source = with_parts run.source parts; target = post }) in
      let p = on_ok_is {B = List Goal} (without_blocks blocks run.source.parts) (λ (parts : List Sep). on_ok (returned None post run.exits.ret.value) (λ target. Ok (Entail (record { context = enriched run.context w.sides.kept; source = with_parts run.source parts; target = target }) ∷ []))) w.rest w.behind_is in
      let inner = inner_scope run.source scope in
      let source : AssertionFits defs specs scope (with_parts run.source p.0) = record {
        existentials = formed.source.existentials;
        props = formed.source.props;
        temporaries = formed.source.temporaries;
        locals = formed.source.locals;
        parts = blocks_out (PartFits defs inner (PredicatesOf defs inner)) blocks run.source.parts p.0 p.1 formed.source.parts;
      } in
      needing_formed defs specs run formed nothing_needed (given_back run None) (λ kept. made kept p.0 ∷ []) goals tt tt
      (λ kept. ap (λ (d : Result (List Sep) No). on_ok d (λ parts. on_ok (returned None post run.exits.ret.value) (λ target. Ok (Entail (record { context = enriched run.context kept; source = with_parts run.source parts; target = target }) ∷ [])))) p.1)
      (λ kept h. (record { context = context_with defs specs run formed kept h (made kept p.0); source = source; target = formed.exits.ret.post }, tt)) row

  set_by : (y : List ℕ) (ex : Expr) (rest : List Stmt) → run.rest ≡ Set y ex ∷ rest → run.source.existentials ≡ [] → (b : Bool) → is_read ex ≡ b → SetsBy b defs.structs run y ex (Ok goals) → AreWellFormed defs specs goals
  set_by y ex rest next bare true memory row =
      let typed = (of_statement defs specs run formed bare (Set y ex) rest next).value.typed in
      let s = scalar_from (type_of ex) (and_parts (is_place ex) (is_some (chunk_of (type_of ex))) memory).1 in
      let found = of_result (read_from run.source defs.structs ex) (SetsRead run y (type_of ex)) goals row in
      let v = found.0 in
      let claims = of_result (saying [] (of_type (sized_type (type_of ex)) v.0 ∷ [])) (SetsTyped run y v) goals found.2 in
      read_forms defs specs run formed bare y ex rest next typed s.0 s.1 v found.1 claims.0 claims.2.0 claims.1 claims.2.1 goals claims.2.2
  set_by y ex rest next bare false memory row =
      let typed = (of_statement defs specs run formed bare (Set y ex) rest next).value.typed in
      let found = of_result (evaluate run.source defs.structs ex) (SetsTerm run y) goals row in
      set_forms defs specs run formed bare y ex rest found.0 goals next typed found.1 found.2

  of_next : (ss : List Stmt) → run.rest ≡ ss → NoValueReturned ss → OfNext defs.structs run (slice_get ss 0) (Ok goals) → AreWellFormed defs specs goals
  of_next [] next asks row = by run.exits.normal row
    where
      by : (exit : e.Exit) → AtEnd defs.structs run exit (Ok goals) → AreWellFormed defs specs goals
      by x.End r' = end_forms (passed (some_left run.source.existentials) intros_first (GivesBack run None nothing_needed) goals r').1
      by x.None r' = absurd cc
      by (x.To a) r' = absurd cc
  of_next (Set y ex ∷ rest) next asks row =
      let named = passed (some_left run.source.existentials) intros_first (Sets defs.structs run y ex) goals row in
      set_by y ex rest next (no_more run.source.existentials named.0) (is_read ex) refl named.1
  of_next (Assign p e ∷ rest) next asks row =
      let named = passed (some_left run.source.existentials) intros_first (Assigns defs.structs run p e) goals row in
      let bare = no_more run.source.existentials named.0 in
      let typed = of_statement defs specs run formed bare (Assign p e) rest next in
      let s = scalar_from (type_of p) typed.scalar in
      let found = of_result (assigned run.source defs.structs p e) (AssignsTo run) goals named.1 in
      assign_forms defs specs run formed bare p e rest next typed.place typed.value.typed s.0 s.1 found.0 found.1 (ap (λ (b : Bool). if b then Err intros_first else Ok run.source) named.0) goals found.2
  of_next (Return None ∷ rest) next asks row = end_forms (passed (some_left run.source.existentials) intros_first (GivesBack run None nothing_needed) goals row).1
  of_next (Return (Some e) ∷ rest) next asks row = absurd asks
  of_next (Break ∷ rest) next asks row = leave_forms run.exits.brk formed.exits.brk (passed (some_left run.source.existentials) intros_first (Leaves run run.exits.brk) goals row).1
  of_next (Continue ∷ rest) next asks row = leave_forms run.exits.cont formed.exits.cont (passed (some_left run.source.existentials) intros_first (Leaves run run.exits.cont) goals row).1
  of_next (Skip ∷ rest) next asks row = absurd cc
  of_next (Call to g es ∷ rest) next asks row = absurd cc
  of_next (Seq' shape all ∷ rest) next asks row = absurd cc
  of_next (If' e p a q b ∷ rest) next asks row = absurd cc
  of_next (Loop' p a q b ∷ rest) next asks row = absurd cc
  of_next (Switch' e shape cases ∷ rest) next asks row = absurd cc

pub forward_forms : (defs : Defs) (specs : SpecTable) (goal : Goal) (args : Args) (goals : List Goal) → IsWellFormed defs specs goal → IsNoValueReturn defs goal args → ForwardRow defs.structs goal args (Ok goals) → AreWellFormed defs specs goals
forward_forms defs specs (Run run) args goals formed asks row = of_next defs specs run formed goals run.rest refl asks row
forward_forms defs specs (Entail entail) args goals formed asks row = absurd cc
forward_forms defs specs (Pure pure) args goals formed asks row = absurd cc
