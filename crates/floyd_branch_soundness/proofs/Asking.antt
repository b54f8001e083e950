-- What a test needs, in a goal whose source has no existentials.
use Rattle.std.proofs.Common.{◌≡◌, true, [], ◌++◌, Result, Ok, All, sym, ap, subst, ◌∙◌, if◌then◌else◌}
use Rattle.floyd_text.specs.declared.refusal.No.{No}
use Rattle.floyd_ctypes.specs.Structs.{Structs}
use Rattle.floyd_clight.specs.declared.syntax.Expr.{Expr}
use Rattle.floyd_clight_typing.specs.Statements.{is_test}
use Rattle.floyd_tree_values.specs.Rules.{Scope}
use Rattle.floyd_assert_trees.specs.declared.assertion.Assertion.{Assertion}
use Rattle.floyd_assert_trees.specs.declared.items.Defs.{Defs}
use Rattle.floyd_assert_trees.specs.declared.spec.SpecTable.{SpecTable}
use Rattle.floyd_assert_trees.specs.Meanings.{value_defs}
use Rattle.floyd_fieldpath.specs.Written.{on_ok}
use Rattle.floyd_goal_formulas.specs.Fits.{Fits}
use Rattle.floyd_goal_forms.specs.Assertions.{AssertionFits, PredicatesOf, inner_scope}
use Rattle.floyd_goal_forms.specs.Terms.{scope_with}
use Rattle.floyd_symexpr_rows.specs.declared.needs.Needs.{Needs}
use Rattle.floyd_symexpr.specs.declared.evaluation.Evaluated.{Evaluated}
use Rattle.floyd_symexpr.specs.Expressions.{evaluate}
use Rattle.floyd_symexpr_forms.specs.Laws.{SourceFits}
use Rattle.floyd_symexpr_forms.proofs.Readings.{evaluation_fits}
use Rattle.floyd_symexpr_laws.proofs.TermMeanings.{ok_parts}
use Rattle.floyd_forward_soundness.proofs.Needs.{all_of}
use Rattle.floyd_forward_soundness.proofs.Setting.{locals_in, parts_sized}
use Rattle.floyd_conditions.specs.declared.branches.Condition.{Condition}
use Rattle.floyd_conditions.specs.Conditions.{branches_of, condition, needs_of, test_needs, zero_needs}
use Rattle.floyd_condition_laws.proofs.Deciding.{same_tests}

-- what a test needs is what its expression needs
pub record Asks (source : Assertion) (structs : Structs) (e : Expr) (needs : Needs) : Type 0 where
  pub found : Evaluated
  pub is : evaluate source structs e ≡ Ok found
  pub sides : found.sides ≡ needs.sides

pub asks : (source : Assertion) (structs : Structs) (e : Expr) (given : Condition) → is_test e ≡ true → condition source structs e ≡ Ok given → Asks source structs e given.needs
asks source structs e given test is =
    let p = ok_parts (needs_of source structs e) (λ needs. on_ok (branches_of source structs e) (λ b. Ok (record { branches = b; needs = needs }))) given is in
    let q = ok_parts (branches_of source structs e) (λ b. Ok (record { branches = b; needs = p.0 })) given p.2 in
    let same : ◌≡◌ {A = Condition} (record { branches = q.0; needs = p.0 }) given = let i = q.2 in cc in
    let x = ok_parts (evaluate source structs e) (test_needs e) p.0 p.1 in
    let tested : ◌≡◌ {A = Result Needs No} (Ok (record { sides = x.0.sides; valid = x.0.valid })) (Ok p.0) =
    sym (ap (λ s. if s then Ok (record { sides = x.0.sides; valid = x.0.valid }) else zero_needs e x.0) (same_tests e test)) ∙ x.2 in
    let needs : ◌≡◌ {A = Needs} (record { sides = x.0.sides; valid = x.0.valid }) p.0 = cc in
    record { found = x.0; is = x.1; sides = ap (λ (w : Needs). w.sides) needs ∙ ap (λ (w : Condition). w.needs.sides) same }

-- the side formulas of a test are well formed
pub sides_fit : (defs : Defs) (specs : SpecTable) (scope : Scope) (source : Assertion) (e : Expr) (given : Condition) → AssertionFits defs specs scope source → source.existentials ≡ [] → is_test e ≡ true → condition source defs.structs e ≡ Ok given →
    All (Fits (value_defs defs) scope) given.needs.sides
sides_fit defs specs scope source e given fits bare test is =
    let inner = inner_scope source scope in
    let same : inner ≡ scope = ap (λ bs. scope_with bs ++ scope) bare in
    let known : SourceFits (value_defs defs) scope source = subst (λ s. SourceFits (value_defs defs) s source) same (record {
      locals = locals_in defs inner source.locals fits.locals;
      parts = parts_sized defs inner (PredicatesOf defs inner) source.parts fits.parts;
    }) in
    let a = asks source defs.structs e given test is in
    subst (All (Fits (value_defs defs) scope)) a.sides
    (all_of (Fits (value_defs defs) scope) a.found.sides (evaluation_fits (value_defs defs) scope source known e a.found a.is).1.sides)
