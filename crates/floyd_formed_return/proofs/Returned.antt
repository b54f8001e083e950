-- `forward` keeps goals well formed, also where a value is returned.
use Rattle.std.proofs.Common.{◌≡◌, ℕ, ◌+◌, ◌<◌, ◌^◌, ◌&&◌, Bool, true, false, List, [], ◌∷◌, ◌++◌, length, Option, Some, None, Result, Ok, refl, sym, ◌∙◌, ap, ap₂, subst, arith, slice_get, true≢false}
use Rattle.std.specs.Prelude.{bytes_eq, cond}
use Rattle.std.specs.List.{list_any}
use Rattle.std.specs.Map.{lookup}
use Rattle.floyd_text.specs.declared.refusal.No.{No}
use Rattle.floyd_ctypes.specs.declared.ctype.CType.{CType, Void, Int, Pointer', Array', Struct, Function', more_of-CType, end_of-CType}
use Rattle.floyd_clight.specs.declared.syntax.Expr.{Expr}
use Rattle.floyd_clight.specs.declared.syntax.Stmt.{Stmt, Skip, Set, Assign, Call, Seq', If', Loop', Break, Continue, Return, Switch'}
use Rattle.floyd_tree_sorts.specs.declared.connectives.FormulaHead.TheVariants.{Equal}
use Rattle.floyd_tree_sorts.specs.declared.sorts.Sort.{Sort, Val}
use Rattle.floyd_tree_sorts.specs.Rows.{is_scalar}
use Rattle.floyd_tree.specs.Formulas.{PlainFormula, takes_all}
use Rattle.floyd_tree.specs.Plain.{Plain, mentions, size}
use Rattle.floyd_tree.specs.WellSorted.{with_first}
use Rattle.floyd_tree_values.specs.Rules.{CallsOf, Scope}
use Rattle.floyd_truth.specs.Replace.{replaced}
use Rattle.floyd_truth.proofs.Fresh.{neither, not_true}
use Rattle.floyd_assert_cells.specs.Scalars.{Address, Integer, Scalar, scalar_of}
use Rattle.floyd_assert_cells.specs.Types.{shape_of}
use Rattle.floyd_assert_trees.specs.declared.assertion.Assertion.{Assertion}
use Rattle.floyd_assert_trees.specs.declared.binder.Binder.{Binder}
use Rattle.floyd_assert_trees.specs.declared.items.Defs.{Defs}
use Rattle.floyd_assert_trees.specs.declared.sep.Sep.{Sep}
use Rattle.floyd_assert_trees.specs.declared.spec.SpecTable.{SpecTable}
use Rattle.floyd_assert_trees.specs.Meanings.{value_defs}
use Rattle.floyd_assert_changes.specs.Apart.{apart, apart_existentials, set_apart}
use Rattle.floyd_assert_changes.specs.Changed.{assertion_fits, below_existentials, has_name}
use Rattle.floyd_assert_changes.proofs.Naming.{has_term}
use Rattle.floyd_assert_changes.specs.NamesClauses.{term_names}
use Rattle.floyd_assert_laws.specs.InChanged.{body_nodes}
use Rattle.floyd_fieldpath.specs.Nested.{sized_type}
use Rattle.floyd_fieldpath.specs.Written.{on_ok}
use Rattle.floyd_fieldpath_laws.proofs.Meanings.{on_ok_is}
use Rattle.floyd_goal.specs.Goals.{enriched, intros_first, some_left}
use Rattle.floyd_goal_changes.specs.Changed.{covering, first_term}
use Rattle.floyd_goal_forms.specs.Assertions.{AssertionFits, PartFits, PredicatesOf, inner_scope}
use Rattle.floyd_goal_forms.specs.Goals.{IsWellFormed, ResultFits, RunFits}
use Rattle.floyd_goal_forms.specs.Terms.{FormulaFits, FormulasFit, TermFits, scope_with}
use Rattle.floyd_goal_parts.specs.Sources.{with_parts}
use Rattle.floyd_goal_trees.specs.Contexts.{scope_of}
use Rattle.floyd_goal_trees.specs.declared.args.Args.{Args}
use Rattle.floyd_goal_trees.specs.declared.goal.Goal.{Goal}
use Rattle.floyd_goal_trees.specs.declared.goal.Goal.TheVariants.{Entail, Pure, Run}
use Rattle.floyd_goal_trees.specs.declared.goal.Run as r
use Rattle.floyd_import_laws.proofs.Collected.{has_listed, listed_length, listed_names, term_few}
use Rattle.floyd_symexpr_rows.specs.declared.needs.Needs.{Needs}
use Rattle.floyd_symexpr_rows.specs.Formulas.{equal, of_type, saying}
use Rattle.floyd_symexpr_laws.proofs.SideTruths.{saying_is}
use Rattle.floyd_symexpr.specs.declared.evaluation.Evaluated.{Evaluated}
use Rattle.floyd_symexpr.specs.Expressions.{evaluate}
use Rattle.floyd_forward.specs.Forward.{OfNext}
use Rattle.floyd_forward.specs.Return.{GivesBack, ReturnsTerm, claim, claimed, given_back, of_value, result_needs, result_of, returned, with_claim, without_blocks}
use Rattle.floyd_forward.specs.Return as row
use Rattle.floyd_forward_soundness.proofs.Needs.{needed_of}
use Rattle.floyd_forward_soundness.proofs.Setting.{no_more, of_result, passed}
use Rattle.floyd_return_soundness.specs.Laws.{IsPlain}
use Rattle.floyd_return_soundness.proofs.Posts.{within_is}
use Rattle.floyd_read_soundness.proofs.Reading.{same_answer}
use Rattle.floyd_formed_pure.specs.Rows.{AreWellFormed}
use Rattle.floyd_formed_pure.proofs.Contexts.{both_all}
use Rattle.floyd_formed_quantifiers.proofs.Leading.{term_stays}
use Rattle.floyd_formed_forward.specs.Laws.{ForwardRow, NoValueReturned}
use Rattle.floyd_formed_forward.proofs.Forward.{blocks_out, forward_forms}
use Rattle.floyd_formed_forward.proofs.Rows.{claim_fits, of_statement, value_fits}
use Rattle.floyd_formed_forward.proofs.Running.{context_with, needing_formed}
use Rattle.floyd_formed_return.specs.Laws.{IsPlainNext, PlainIfReturned}
use Rattle.floyd_formed_return.proofs.Apart.{apart_formed, new_names}

-- ---- the claim that the value is the term of RETURN

-- other names are found as before
found_behind : (bs : List Binder) (scope : Scope) (x : List ℕ) → has_name x bs ≡ false → lookup (bytes_eq x) (scope_with bs ++ scope) ≡ lookup (bytes_eq x) scope
found_behind [] scope x e = refl
found_behind (b ∷ bs) scope x e =
    let p = neither (bytes_eq x b.name) (has_name x bs) e in
    ap (λ t. cond t (Some b.sort) (lookup (bytes_eq x) (scope_with bs ++ scope))) p.0 ∙ found_behind bs scope x p.1

equal_formed : (defs : Defs) (specs : SpecTable) (scope : Scope) (v t : Plain) → TermFits defs scope Val v → TermFits defs scope Val t → FormulaFits defs specs scope (equal v t)
equal_formed defs specs scope v t h k = record {
  fits = record { sorted = ap₂ (λ s q. takes_all Equal (with_first s (with_first q (Some []))) 0 && true) h.fits.sorted k.fits.sorted; allowed = ((h.fits.allowed, (k.fits.allowed, tt)), tt) };
  known = (tt, (h.known, (k.known, tt)), tt);
}

module _ (defs : Defs) (specs : SpecTable) (scope : Scope) (v t : Plain) (post : Assertion) (few : size v + body_nodes (covering post (Some t)) < 2 ^ 63) (fit : TermFits defs scope Val v) (whole_fits : AssertionFits defs specs scope (covering post (Some t))) where
  abbrev whole : Assertion
  whole = covering post (Some t)

  abbrev avoid : List ℕ → Bool
  avoid x = mentions x v

  names : List (List ℕ)
  names = listed_names (term_names v [])

  among : (y : List ℕ) → avoid y ≡ true → list_any (bytes_eq y) names ≡ true
  unfolding names
  among y e = sym (has_listed (term_names v []) y) ∙ has_term y v [] ∙ e

  few_names : length names + body_nodes whole < 2 ^ 63
  unfolding names
  few_names = omega (arith, few, term_few v [], listed_length (term_names v []))

  abbrev made : Assertion
  made = apart avoid whole

  abbrev term : Plain
  term = replaced (below_existentials [] whole.existentials (apart_existentials avoid whole)) t

  made_fits : AssertionFits defs specs scope made
  made_fits = apart_formed defs specs scope avoid names among whole few_names whole_fits

  value_below : TermFits defs (scope_with made.existentials ++ scope) Val v
  value_below =
      let inner = scope_with made.existentials ++ scope in
      let stays : (x : List ℕ) → mentions x v ≡ true → (s : Sort) → lookup (bytes_eq x) scope ≡ Some s → lookup (bytes_eq x) inner ≡ Some s =
      λ x i s e. found_behind made.existentials scope x (not_true (has_name x made.existentials) (λ q. true≢false (sym i ∙ new_names defs specs scope avoid names among whole few_names whole_fits x q))) ∙ e in
      record { fits = record { sorted = fit.fits.sorted; allowed = term_stays defs.structs (CallsOf (value_defs defs).funs) scope inner v stays fit.fits.allowed }; known = fit.known }

  claimed_formed : AssertionFits defs specs scope (with_claim made (equal v term ∷ []))
  claimed_formed =
      let inner = scope_with made.existentials ++ scope in
      record {
        existentials = made_fits.existentials;
        props = both_all (FormulaFits defs specs inner) made.props (equal v term ∷ []) made_fits.props (equal_formed defs specs inner v term value_below made_fits.parts.0, tt);
        temporaries = made_fits.temporaries;
        locals = made_fits.locals;
        parts = made_fits.parts.1;
      }

  of_value_formed : (target : Assertion) → of_value v post t ≡ Ok target → AssertionFits defs specs scope target
  of_value_formed target e =
      let p = on_ok_is {B = Assertion} (set_apart avoid whole) (claimed v) target e in
      let is_made : made ≡ p.0 = within_is assertion_fits made p.0 p.1 in
      let again : claimed v made ≡ Ok target = ap (claimed v) is_made ∙ p.2 in
      let q = on_ok_is {B = Assertion} (saying [] (claim v (first_term made.parts))) (λ (fs : List PlainFormula). Ok (with_claim made fs)) target again in
      let said : q.0 ≡ equal v term ∷ [] = saying_is [] (claim v (first_term made.parts)) q.0 q.1 in
      let same : with_claim made (equal v term ∷ []) ≡ target = ap (with_claim made) (sym said) ∙ same_answer {A = Assertion} (with_claim made q.0) target q.2 in
      subst (AssertionFits defs specs scope) same claimed_formed

-- ---- the row

scalar_by : (t : CType) → is_scalar (shape_of t) ≡ true → (s : Scalar) × (scalar_of t ≡ Some s)
scalar_by Void e = absurd cc
scalar_by (Int k) e = (Integer k, refl)
scalar_by (Pointer' p (more_of-CType to end_of-CType)) e = (Address, refl)
scalar_by (Array' p (more_of-CType to end_of-CType) n) e = absurd cc
scalar_by (Struct tag) e = absurd cc
scalar_by (Function' shape ps p (more_of-CType result end_of-CType)) e = absurd cc

term_fits : (defs : Defs) (scope : Scope) (result : CType) (t : Plain) → is_scalar (shape_of result) ≡ true → ResultFits defs scope result (Some t) → TermFits defs scope Val t
term_fits defs scope Void t e k = absurd k
term_fits defs scope (Int kind) t e k = k
term_fits defs scope (Pointer' p (more_of-CType to end_of-CType)) t e k = k
term_fits defs scope (Array' p (more_of-CType to end_of-CType) n) t e k = absurd cc
term_fits defs scope (Struct tag) t e k = absurd cc
term_fits defs scope (Function' shape ps p (more_of-CType result end_of-CType)) t e k = absurd cc

module _ (defs : Defs) (specs : SpecTable) (run : r.Run) (formed : RunFits defs specs run) (bare : run.source.existentials ≡ []) (e : Expr) (rest : List Stmt) (next : run.rest ≡ Return (Some e) ∷ rest) (plain : IsPlain defs.structs run e)
    (v : Evaluated) (is : evaluate run.source defs.structs e ≡ Ok v) (sides : List PlainFormula) (are : sides ≡ v.sides ++ of_type (sized_type run.exits.ret.result) v.term ∷ []) (goals : List Goal) where
  abbrev scope : Scope
  scope = scope_of run.context

  abbrev post : Assertion
  post = run.exits.ret.post

  value : TermFits defs scope Val v.term × FormulasFit defs specs scope v.sides
  value = let k = value_fits defs specs run formed bare e v (of_statement defs specs run formed bare (Return (Some e)) rest next).1.typed is in (k.term, k.sides)

  all_sides : FormulasFit defs specs scope sides
  all_sides =
      let result = run.exits.ret.result in
      let s = scalar_by result plain.scalar in
      subst (FormulasFit defs specs scope) (sym are) (both_all (FormulaFits defs specs scope) v.sides (of_type (sized_type result) v.term ∷ []) value.1 (claim_fits defs specs run formed bare result s.0 v.term s.1 value.0))

  target_formed : (o : Option Plain) → run.exits.ret.value ≡ o → (target : Assertion) → returned (Some v.term) post o ≡ Ok target → AssertionFits defs specs scope target
  target_formed None f target g = subst (AssertionFits defs specs scope) (same_answer {A = Assertion} post target g) formed.exits.ret.post
  target_formed (Some t) f target g =
      let inner = inner_scope post scope in
      let term : TermFits defs inner Val t = term_fits defs inner run.exits.ret.result t plain.scalar (subst (ResultFits defs inner run.exits.ret.result) f formed.exits.ret.value) in
      let h = formed.exits.ret.post in
      let whole : AssertionFits defs specs scope (covering post (Some t)) = record { existentials = h.existentials; props = h.props; temporaries = h.temporaries; locals = h.locals; parts = (term, h.parts) } in
      let few : size v.term + body_nodes (covering post (Some t)) < 2 ^ 63 = subst (λ o. size v.term + body_nodes (covering post o) < 2 ^ 63) f (plain.few v is) in
      of_value_formed defs specs scope v.term t post few value.0 whole target g

  pub returned_forms : GivesBack run (Some v.term) (record { sides = sides; valid = v.valid }) (Ok goals) → AreWellFormed defs specs goals
  returned_forms row' =
      let needs : Needs = record { sides = sides; valid = v.valid } in
      let blocks = run.exits.ret.blocks in
      let w = needed_of run.context run.source needs (given_back run (Some v.term)) goals row' in
      let made = λ (kept : List PlainFormula) (parts : List Sep) (target : Assertion). Entail (record { context = enriched run.context kept; source = with_parts run.source parts; target = target }) in
      let p = on_ok_is {B = List Goal} (without_blocks blocks run.source.parts) (λ (parts : List Sep). on_ok (returned (Some v.term) post run.exits.ret.value) (λ target. Ok (Entail (record { context = enriched run.context w.sides.kept; source = with_parts run.source parts; target = target }) ∷ []))) w.rest w.behind_is in
      let q = on_ok_is {B = List Goal} (returned (Some v.term) post run.exits.ret.value) (λ (target : Assertion). Ok (Entail (record { context = enriched run.context w.sides.kept; source = with_parts run.source p.0; target = target }) ∷ [])) w.rest p.2 in
      let inner = inner_scope run.source scope in
      let source : AssertionFits defs specs scope (with_parts run.source p.0) = record {
        existentials = formed.source.existentials;
        props = formed.source.props;
        temporaries = formed.source.temporaries;
        locals = formed.source.locals;
        parts = blocks_out (PartFits defs inner (PredicatesOf defs inner)) blocks run.source.parts p.0 p.1 formed.source.parts;
      } in
      needing_formed defs specs run formed needs (given_back run (Some v.term)) (λ kept. made kept p.0 q.0 ∷ []) goals all_sides
      (value_fits defs specs run formed bare e v (of_statement defs specs run formed bare (Return (Some e)) rest next).1.typed is).valid
      (λ kept.
      ap (λ (d : Result (List Sep) No). on_ok d (λ parts. on_ok (returned (Some v.term) post run.exits.ret.value) (λ target. Ok (Entail (record { context = enriched run.context kept; source = with_parts run.source parts; target = target }) ∷ [])))) p.1
      ∙ ap (λ (d : Result Assertion No). on_ok d (λ target. Ok (Entail (record { context = enriched run.context kept; source = with_parts run.source p.0; target = target }) ∷ []))) q.1)
      (λ kept h. (record { context = context_with defs specs run formed kept h (made kept p.0 q.0); source = source; target = target_formed run.exits.ret.value refl q.0 q.1 }, tt)) row'

-- ---- all rows

module _ (defs : Defs) (specs : SpecTable) (run : r.Run) (formed : RunFits defs specs run) (args : Args) (goals : List Goal) where
  of_value_return : (e : Expr) (rest : List Stmt) → run.rest ≡ Return (Some e) ∷ rest → IsPlain defs.structs run e → OfNext defs.structs run (Some (Return (Some e))) (Ok goals) → AreWellFormed defs specs goals
  of_value_return e rest next plain row' =
      let named = passed (some_left run.source.existentials) intros_first (row.Returns defs.structs run (Some e)) goals row' in
      let bare = no_more run.source.existentials named.0 in
      let result = of_result (result_of defs.structs run e) (ReturnsTerm run) goals named.1 in
      let a = on_ok_is {B = Plain × Needs} (evaluate run.source defs.structs e) (result_needs run.exits.ret.result) result.0 result.1 in
      let v = a.0 in
      let claims = of_type (sized_type run.exits.ret.result) v.term ∷ [] in
      let b = on_ok_is {B = Plain × Needs} (saying v.sides claims) (λ (sides : List PlainFormula). Ok (v.term, record { sides = sides; valid = v.valid })) result.0 a.2 in
      let same = same_answer {A = Plain × Needs} (v.term, record { sides = b.0; valid = v.valid }) result.0 b.2 in
      let gives : GivesBack run (Some v.term) (record { sides = b.0; valid = v.valid }) (Ok goals) = subst (λ (w : Plain × Needs). ReturnsTerm run w (Ok goals)) (sym same) result.2 in
      returned_forms defs specs run formed bare e rest next plain v a.1 b.0 (saying_is v.sides claims b.0 b.1) goals gives

  others : NoValueReturned run.rest → ForwardRow defs.structs (Run run) args (Ok goals) → AreWellFormed defs specs goals
  others none row' = forward_forms defs specs (Run run) args goals formed none row'

  of_rest : (ss : List Stmt) → run.rest ≡ ss → PlainIfReturned defs.structs run ss → ForwardRow defs.structs (Run run) args (Ok goals) → AreWellFormed defs specs goals
  of_rest (Return (Some e) ∷ rest) next plain row' = of_value_return e rest next plain (subst (λ ss. OfNext defs.structs run (slice_get ss 0) (Ok goals)) next row')
  of_rest [] next plain row' = others (subst NoValueReturned (sym next) tt) row'
  of_rest (Skip ∷ rest) next plain row' = others (subst NoValueReturned (sym next) tt) row'
  of_rest (Set x ex ∷ rest) next plain row' = others (subst NoValueReturned (sym next) tt) row'
  of_rest (Assign p ex ∷ rest) next plain row' = others (subst NoValueReturned (sym next) tt) row'
  of_rest (Call to f es ∷ rest) next plain row' = others (subst NoValueReturned (sym next) tt) row'
  of_rest (Seq' shape all ∷ rest) next plain row' = others (subst NoValueReturned (sym next) tt) row'
  of_rest (If' ex p a q b ∷ rest) next plain row' = others (subst NoValueReturned (sym next) tt) row'
  of_rest (Loop' p a q b ∷ rest) next plain row' = others (subst NoValueReturned (sym next) tt) row'
  of_rest (Break ∷ rest) next plain row' = others (subst NoValueReturned (sym next) tt) row'
  of_rest (Continue ∷ rest) next plain row' = others (subst NoValueReturned (sym next) tt) row'
  of_rest (Return None ∷ rest) next plain row' = others (subst NoValueReturned (sym next) tt) row'
  of_rest (Switch' ex shape cases ∷ rest) next plain row' = others (subst NoValueReturned (sym next) tt) row'

pub all_forms : (defs : Defs) (specs : SpecTable) (goal : Goal) (args : Args) (goals : List Goal) → IsWellFormed defs specs goal → IsPlainNext defs goal args → ForwardRow defs.structs goal args (Ok goals) → AreWellFormed defs specs goals
all_forms defs specs (Run run) args goals formed plain row' = of_rest defs specs run formed args goals run.rest refl plain row'
all_forms defs specs (Entail entail) args goals formed plain row' = absurd cc
all_forms defs specs (Pure pure) args goals formed plain row' = absurd cc
