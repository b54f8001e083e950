-- Equations that no data make true.
use Rattle.std.proofs.Common.{◌≡◌, Bool, true, false, not, List, [], Ok, Err, refl, sym, ap, ◌∙◌, cond, true≢false}
use Rattle.std.proofs.lemmas.Bool.Decides.{Decides-int_eq}
use Rattle.floyd_tree_sorts.specs.declared.heads.Head.TheVariants as h
use Rattle.floyd_tree_sorts.specs.declared.operators.Operator.TheVariants as o
use Rattle.floyd_tree.specs.Formulas.{PlainFormula}
use Rattle.floyd_tree.specs.Plain.{Plain, At, head_of}
use Rattle.floyd_tree_values.specs.BuiltIns.{Env}
use Rattle.floyd_tree_values.specs.Data.{Datum, Data, DataTree, Seq, Tree, Empty, Item, Leaf, Node}
use Rattle.floyd_tree_values.specs.Means.{Defs, Means}
use Rattle.floyd_tree_values.proofs.OneValue.{applies}
use Rattle.floyd_goal_trees.specs.declared.args.Args.{Args}
use Rattle.floyd_goal_trees.specs.declared.goal.Goal.{Goal}
use Rattle.floyd_goal.specs.Goals.{intros_first, is_pending, number_of}
use Rattle.floyd_goal.specs.Sides.{context_of}
use Rattle.floyd_goal_formulas.specs.Said.{Saying, Equation, said}
use Rattle.floyd_goal_formulas.proofs.Literals.{number_is}
use Rattle.floyd_goal_formulas.proofs.Sayings.{SaidTrue, truth_said}
use Rattle.floyd_goal_truth.proofs.Uses.{hypothesis_true}
use Rattle.floyd_pure_formulas.specs.Discriminate.{ClosesRefuted, DiscriminateRow, differ, is_refuted}
use Rattle.floyd_pure_formulas.specs.Holds.{Specs, Refutes}
use Rattle.floyd_pure_formulas.specs.Keeps.{KeepsTruth}
use Rattle.floyd_pure_formulas.specs.Rows.{OfHypothesis, no_such}
use Rattle.floyd_pure_formulas.proofs.Enriching.{keeps_by_refuting}
use Rattle.floyd_pure_formulas.proofs.Rowing.{found, goals_are, no_goals, passed}

no_list : (d : Datum) (i : Datum) → d ≡ Seq Empty → (r : Data) → d ≡ Seq (Item i r) → ⊥
no_list d i e r g = cc

no_tree : (d : Datum) (i : Datum) (l r : DataTree) → d ≡ Tree Leaf → d ≡ Tree (Node l i r) → ⊥
no_tree d i l r e g = cc

module _ (defs : Defs) (env : Env) where
  -- terms with heads that differ have different values
  no_value : (a b : Plain) (d : Datum) → differ (head_of a) (head_of b) ≡ true → Means defs env a d → Means defs env b d → ⊥
  no_value (At (h.Literal m) ts) (At (h.Literal n) us) d e p q =
      let same : m ≡ n = number_is m n (sym (applies refl p).is ∙ (applies refl q).is) in
      true≢false (sym e ∙ ap not ((Decides-int_eq m n).1 same))
  no_value (At (h.Nil s) ts) (At (h.Operator o.Cons) us) d e p q = no_list d _ (applies refl p).is _ (applies refl q).is
  no_value (At (h.Operator o.Cons) ts) (At (h.Nil s) us) d e p q = no_list d _ (applies refl q).is _ (applies refl p).is
  no_value (At (h.Leaf s) ts) (At (h.Operator o.Node) us) d e p q = no_tree d _ _ _ (applies refl p).is (applies refl q).is
  no_value (At (h.Operator o.Node) ts) (At (h.Leaf s) us) d e p q = no_tree d _ _ _ (applies refl q).is (applies refl p).is
  no_value (At a ts) (At b us) d e p q = absurd cc

  refuted : (specs : Specs) (s : Saying) → is_refuted s ≡ true → SaidTrue defs specs env (Unit {0}) s → ⊥
  refuted specs (Equation a b) e t = no_value a b t.0 e t.1 t.2
  refuted specs s e t = absurd cc

closed : (args : Args) (a : PlainFormula) (goals : List Goal) → ClosesRefuted args a (Ok goals) → (is_refuted (said a) ≡ true) × (goals ≡ [])
closed args a goals row = by (is_refuted (said a)) refl row
  where
    by : (b : Bool) → is_refuted (said a) ≡ b → Ok goals ≡ cond b (Ok []) (Err (no_such args)) → (is_refuted (said a) ≡ true) × (goals ≡ [])
    by true e row = (e, goals_are goals [] row)
    by false e row = absurd (no_goals goals _ row)

pub discriminate_refuting : Refutes DiscriminateRow
discriminate_refuting defs specs goal args goals row =
    let hs = (context_of goal).hypotheses in
    let n = number_of args.target in
    let p = found _ (no_such args) (ClosesRefuted args) goals (passed (is_pending goal) intros_first (OfHypothesis goal args (ClosesRefuted args)) goals row) in
    let q = closed args p.0 goals p.2 in
    (q.1, λ env suits hyps. refuted defs env specs (said p.0) q.0 (truth_said defs specs env p.0 (hypothesis_true defs specs env hs n p.0 p.1 hyps)))

pub discriminate_true : KeepsTruth DiscriminateRow
discriminate_true = keeps_by_refuting DiscriminateRow discriminate_refuting
