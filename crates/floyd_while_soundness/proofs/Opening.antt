-- The goal from an assertion whose existentials are new variables.
use Rattle.std.proofs.Common.{◌≡◌, ◌⊎◌, inl, inr, ℕ, Bool, true, false, cond, List, [], ◌∷◌, ◌++◌, Some, refl, ap, ◌∙◌}
use Rattle.std.specs.Prelude.{bytes_eq}
use Rattle.std.specs.Map.{lookup}
use Rattle.std.proofs.lemmas.Bool.{or_left, or_parts, or_right}
use Rattle.floyd_tree_sorts.specs.declared.sorts.Sort.{Sort, Val}
use Rattle.floyd_tree_values.specs.Rules.{Scope}
use Rattle.floyd_assert_trees.specs.declared.assertion.Assertion.{Assertion}
use Rattle.floyd_assert_trees.specs.declared.assertion.Local.{Local}
use Rattle.floyd_assert_trees.specs.declared.binder.Binder.{Binder}
use Rattle.floyd_assert_trees.specs.declared.items.Defs.{Defs}
use Rattle.floyd_assert_trees.specs.declared.spec.SpecTable.{SpecTable}
use Rattle.floyd_assert_changes.specs.Changed.{has_name}
use Rattle.floyd_goal_trees.specs.Contexts.{scope_of}
use Rattle.floyd_goal_trees.specs.declared.context.Mark.{Mark}
use Rattle.floyd_goal_trees.specs.declared.context.Mark.TheVariants as m
use Rattle.floyd_goal_trees.specs.declared.goal.Goal.TheVariants.{Run}
use Rattle.floyd_goal_trees.specs.declared.goal.Run as r
use Rattle.floyd_goal_forms.specs.Assertions.{AssertionFits}
use Rattle.floyd_goal_forms.specs.Goals.{MarkFits, RunFits}
use Rattle.floyd_goal_forms.specs.Terms.{FormulaFits, TermFits, scope_with}
use Rattle.floyd_formed_pure.proofs.Contexts.{AreIn, both_all, mark_after}
use Rattle.floyd_formed_quantifiers.proofs.Growing.{each_grows, exits_grow, fits_grow, parts_grow, props_grow}
use Rattle.floyd_formed_entail.proofs.NewNames.{distinct_both, more_in}
use Rattle.floyd_control.specs.ForwardWhile.{body_exits, inside, memory_of}

-- ---- scopes

named_has : (bs : List Binder) (x : List ℕ) (s : Sort) → lookup (bytes_eq x) (scope_with bs) ≡ Some s → has_name x bs ≡ true
named_has [] x s e = absurd cc
named_has (b ∷ bs) x s e = by (λ i. named_has bs x s i) (bytes_eq x b.name) refl e
  where
    by : (lookup (bytes_eq x) (scope_with bs) ≡ Some s → has_name x bs ≡ true) → (t : Bool) → bytes_eq x b.name ≡ t → cond t (Some b.sort) (lookup (bytes_eq x) (scope_with bs)) ≡ Some s → has_name x (b ∷ bs) ≡ true
    by next true f i = or_left (bytes_eq x b.name) (has_name x bs) f
    by next false f i = or_right (bytes_eq x b.name) (has_name x bs) (next i)

-- what is none of the variables is found behind them
behind : (vars bs : List Binder) (x : List ℕ) → has_name x vars ≡ false → lookup (bytes_eq x) (scope_with (vars ++ bs)) ≡ lookup (bytes_eq x) (scope_with bs)
behind [] bs x e = refl
behind (b ∷ vars) bs x e =
    let p = or_parts (bytes_eq x b.name) (has_name x vars) e in
    ap (λ t. cond t (Some b.sort) (lookup (bytes_eq x) (scope_with (vars ++ bs)))) p.0 ∙ behind vars bs x p.1

-- in front or behind
split : (bs : List Binder) (scope : Scope) (x : List ℕ) (s : Sort) → lookup (bytes_eq x) (scope_with bs ++ scope) ≡ Some s → (lookup (bytes_eq x) (scope_with bs) ≡ Some s) ⊎ (lookup (bytes_eq x) scope ≡ Some s)
split [] scope x s e = inr e
split (b ∷ bs) scope x s e = by (λ i. split bs scope x s i) (bytes_eq x b.name) refl e
  where
    further : bytes_eq x b.name ≡ false → (lookup (bytes_eq x) (scope_with bs) ≡ Some s) ⊎ (lookup (bytes_eq x) scope ≡ Some s) → (lookup (bytes_eq x) (scope_with (b ∷ bs)) ≡ Some s) ⊎ (lookup (bytes_eq x) scope ≡ Some s)
    further f (inl i) = inl (ap (λ t. cond t (Some b.sort) (lookup (bytes_eq x) (scope_with bs))) f ∙ i)
    further f (inr i) = inr i

    by : (lookup (bytes_eq x) (scope_with bs ++ scope) ≡ Some s → (lookup (bytes_eq x) (scope_with bs) ≡ Some s) ⊎ (lookup (bytes_eq x) scope ≡ Some s)) → (t : Bool) → bytes_eq x b.name ≡ t → cond t (Some b.sort) (lookup (bytes_eq x) (scope_with bs ++ scope)) ≡ Some s →
        (lookup (bytes_eq x) (scope_with (b ∷ bs)) ≡ Some s) ⊎ (lookup (bytes_eq x) scope ≡ Some s)
    by next true f i = inl (ap (λ t. cond t (Some b.sort) (lookup (bytes_eq x) (scope_with bs))) f ∙ i)
    by next false f i = further f (next i)

-- existentials that are no variables may stand behind these
pub in_turn : (vars bs : List Binder) → ((x : List ℕ) → has_name x bs ≡ true → has_name x vars ≡ false) → AreIn (scope_with bs ++ scope_with vars) (scope_with (vars ++ bs))
in_turn vars bs k x s e = by (split bs (scope_with vars) x s e)
  where
    by : (lookup (bytes_eq x) (scope_with bs) ≡ Some s) ⊎ (lookup (bytes_eq x) (scope_with vars) ≡ Some s) → lookup (bytes_eq x) (scope_with (vars ++ bs)) ≡ Some s
    by (inl i) = behind vars bs x (k x (named_has bs x s i)) ∙ i
    by (inr i) = more_in vars bs x s i

-- ---- goals

module _ (defs : Defs) (specs : SpecTable) (run : r.Run) (fits : RunFits defs specs run) where
  mark_moves : (other : r.Run) (mark : Mark) → MarkFits defs (Run run) run.context mark → MarkFits defs (Run other) run.context mark
  mark_moves other m.Plain h = tt
  mark_moves other (m.Start name) h = (let e = h.2 in absurd cc)
  mark_moves other (m.Induction name place names) h = h

  -- the goal with the exits of a body
  pub body_fits : (invariant : Assertion) → AssertionFits defs specs (scope_of run.context) invariant → RunFits defs specs (record run { exits = body_exits run.exits invariant })
  body_fits invariant a = record {
    context = record { variables = fits.context.variables; hypotheses = fits.context.hypotheses; mark = mark_moves (record run { exits = body_exits run.exits invariant }) run.context.mark fits.context.mark };
    source = fits.source;
    statements = fits.statements;
    exits = record { normal = a; is_normal = tt; brk = tt; brk_no_end = tt; cont = a; cont_no_end = tt; ret = fits.exits.ret };
  }

  module _ (a : Assertion) (a_fits : AssertionFits defs specs (scope_of run.context) a) (differ : (x : List ℕ) → has_name x a.existentials ≡ true → has_name x run.context.variables ≡ false) where
    abbrev opened : r.Run
    opened = record run { context = inside run.context a; source = memory_of a }

    abbrev small : Scope
    small = scope_with a.existentials ++ scope_with run.context.variables

    abbrev large : Scope
    large = scope_with (run.context.variables ++ a.existentials)

    all_in : AreIn small large
    all_in = in_turn run.context.variables a.existentials differ

    larger : AreIn (scope_of run.context) large
    larger = more_in run.context.variables a.existentials

    pub memory_fits : AssertionFits defs specs (scope_of (inside run.context a)) (memory_of a)
    memory_fits = record {
      existentials = tt;
      props = tt;
      temporaries = a_fits.temporaries;
      locals = each_grows (λ (l : Local). TermFits defs small Val l.term) (λ (l : Local). TermFits defs large Val l.term) (λ l. fits_grow defs small large all_in Val l.term) a.locals a_fits.locals;
      parts = parts_grow defs small large all_in a.parts a_fits.parts;
    }

    pub opened_fits : RunFits defs specs opened
    opened_fits = record {
      context = record {
        variables = distinct_both run.context.variables a.existentials fits.context.variables a_fits.existentials differ;
        hypotheses = both_all (FormulaFits defs specs large) run.context.hypotheses a.props (props_grow defs (scope_of run.context) large larger specs run.context.hypotheses fits.context.hypotheses) (props_grow defs small large all_in specs a.props a_fits.props);
        mark = mark_after defs run.context (inside run.context a) larger (Run run) (Run opened) run.context.mark fits.context.mark;
      };
      source = memory_fits;
      statements = fits.statements;
      exits = exits_grow defs specs (scope_of run.context) large larger run.exits fits.exits;
    }
