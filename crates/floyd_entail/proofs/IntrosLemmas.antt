-- Names one after the other, and what `Intros` answers.
use Rattle.std.proofs.Common.{◌≡◌, ℕ, ◌+◌, ◌<◌, Bool, true, false, cond, not, List, [], ◌∷◌, ◌++◌, length, take, drop, get_or, Option, Some, None, Result, Ok, Err, sym, ap, subst, ◌∙◌, append_assoc, eq-eqb}
use Rattle.std.proofs.lemmas.List.{drop_more, take_more}
use Rattle.floyd_text.specs.declared.refusal.RuleStop.{RuleStop}
use Rattle.floyd_text.specs.Gives.{RuleStops}
use Rattle.floyd_tree.specs.Formulas.{PlainFormula}
use Rattle.floyd_tree.specs.Plain.{Plain, At, Done}
use Rattle.floyd_tree_sorts.specs.declared.heads.Head.TheVariants.{Variable}
use Rattle.floyd_assert_trees.specs.declared.assertion.Assertion.{Assertion}
use Rattle.floyd_assert_trees.specs.declared.binder.Binder.{Binder}
use Rattle.floyd_assert_changes.specs.Changed.{assertion_with}
use Rattle.floyd_assert_changes.specs.Substituted.{formulas_with}
use Rattle.floyd_goal_trees.specs.declared.args.Args.{Args}
use Rattle.floyd_goal_trees.specs.declared.goal.Entail as e
use Rattle.floyd_goal_trees.specs.declared.goal.Goal.{Goal}
use Rattle.floyd_goal_trees.specs.declared.goal.Goal.TheVariants.{Run, Entail}
use Rattle.floyd_goal_trees.specs.declared.goal.Run as r
use Rattle.floyd_goal.specs.Answers.{IsAnswer}
use Rattle.floyd_goal.specs.Sides.{context_of}
use Rattle.floyd_goal_parts.specs.Rows.{Unless}
use Rattle.floyd_goal_parts.proofs.RowLemmas.{row_goes, row_stops}
use Rattle.floyd_entail.specs.Intros.{ByNames, IsOpened, Opens, OpensWith, Row, UnlessTaken, WithMemory, bare, by_names, first_taken, is_taken, new_variables, wrong_names}

pub next_name : (variables : List Binder) (names : List (List ℕ)) (i : ℕ) (x : List ℕ) → i < length names → x ≡ get_or names i x → is_taken variables (take i names) x ≡ false → first_taken variables (take (i + 1) names) (drop (i + 1) names) ≡ first_taken variables (take i names) (drop i names)
next_name variables names i x within is free =
    let here : drop i names ≡ x ∷ drop (i + 1) names = drop_more names i x within ∙ ap (λ y. y ∷ drop (i + 1) names) (sym is) in
    let before : take (i + 1) names ≡ take i names ++ x ∷ [] = take_more names i x within ∙ ap (λ y. take i names ++ y ∷ []) (sym is) in
    ap (λ ys. first_taken variables ys (drop (i + 1) names)) before
    ∙ sym (ap (first_taken variables (take i names)) here ∙ ap (λ b. cond b (Some x) (first_taken variables (take i names ++ x ∷ []) (drop (i + 1) names))) free)

-- an existential beside the variable of its name, before the others
pub next_pair : (bs : List Binder) (names : List (List ℕ)) (i : ℕ) (b : Binder) (x : List ℕ) → i < length bs → i < length names → b ≡ get_or bs i b → x ≡ get_or names i x → by_names (drop i bs) (drop i names) ≡ (b.name, At (Variable x b.sort) Done) ∷ by_names (drop (i + 1) bs) (drop (i + 1) names)
next_pair bs names i b x within also is so =
    let here : drop i bs ≡ b ∷ drop (i + 1) bs = drop_more bs i b within ∙ ap (λ y. y ∷ drop (i + 1) bs) (sym is) in
    let there : drop i names ≡ x ∷ drop (i + 1) names = drop_more names i x also ∙ ap (λ y. y ∷ drop (i + 1) names) (sym so) in
    ap (λ ys. by_names ys (drop i names)) here ∙ ap (λ ys. by_names (b ∷ drop (i + 1) bs) ys) there

pub pair_step : (bs : List Binder) (names : List (List ℕ)) (i : ℕ) (b : Binder) (x : List ℕ) (all : List (List ℕ × Plain)) → i < length bs → i < length names → b ≡ get_or bs i b → x ≡ get_or names i x → (all ++ (b.name, At (Variable x b.sort) Done) ∷ []) ++ by_names (drop (i + 1) bs) (drop (i + 1) names) ≡ all ++ by_names (drop i bs) (drop i names)
pair_step bs names i b x all within also is so =
    append_assoc all ((b.name, At (Variable x b.sort) Done) ∷ []) (by_names (drop (i + 1) bs) (drop (i + 1) names))
    ∙ ap (λ ps. all ++ ps) (sym (next_pair bs names i b x within also is so))

pub next_variable : (bs : List Binder) (names : List (List ℕ)) (i : ℕ) (b : Binder) (x : List ℕ) → i < length bs → i < length names → b ≡ get_or bs i b → x ≡ get_or names i x → new_variables (drop i bs) (drop i names) ≡ record { name = x; sort = b.sort } ∷ new_variables (drop (i + 1) bs) (drop (i + 1) names)
next_variable bs names i b x within also is so =
    let here : drop i bs ≡ b ∷ drop (i + 1) bs = drop_more bs i b within ∙ ap (λ y. y ∷ drop (i + 1) bs) (sym is) in
    let there : drop i names ≡ x ∷ drop (i + 1) names = drop_more names i x also ∙ ap (λ y. y ∷ drop (i + 1) names) (sym so) in
    ap (λ ys. new_variables ys (drop i names)) here ∙ ap (λ ys. new_variables (b ∷ drop (i + 1) bs) ys) there

pub variable_step : (bs : List Binder) (names : List (List ℕ)) (i : ℕ) (b : Binder) (x : List ℕ) (all : List Binder) → i < length bs → i < length names → b ≡ get_or bs i b → x ≡ get_or names i x → (all ++ record { name = x; sort = b.sort } ∷ []) ++ new_variables (drop (i + 1) bs) (drop (i + 1) names) ≡ all ++ new_variables (drop i bs) (drop i names)
variable_step bs names i b x all within also is so =
    append_assoc all (record { name = x; sort = b.sort } ∷ []) (new_variables (drop (i + 1) bs) (drop (i + 1) names))
    ∙ ap (λ ps. all ++ ps) (sym (next_variable bs names i b x within also is so))

-- what `Intros` answers of formulas and of memory with these terms
pub memory_stops : (goal : Goal) (source : Assertion) (names : List (List ℕ)) (pairs : List (List ℕ × Plain)) (props : List PlainFormula) (stop : RuleStop) → formulas_with pairs source.props ≡ Ok props → RuleStops stop (assertion_with pairs (bare source)) → IsAnswer (OpensWith goal source names pairs) (Err stop)
memory_stops goal source names pairs props stop e h =
    row_goes (formulas_with pairs source.props) props (WithMemory goal source names pairs) (Err stop) e
    (row_stops (assertion_with pairs (bare source)) (IsOpened goal source names props) stop h)

pub opens_goes : (goal : Goal) (source : Assertion) (names : List (List ℕ)) (pairs : List (List ℕ × Plain)) (props : List PlainFormula) (memory : Assertion) (goals : List Goal) → formulas_with pairs source.props ≡ Ok props → assertion_with pairs (bare source) ≡ Ok memory → IsOpened goal source names props memory (Ok goals) → IsAnswer (OpensWith goal source names pairs) (Ok goals)
opens_goes goal source names pairs props memory goals e f h =
    row_goes (formulas_with pairs source.props) props (WithMemory goal source names pairs) (Ok goals) e
    (row_goes (assertion_with pairs (bare source)) memory (IsOpened goal source names props) (Ok goals) f h)

-- names that are as many as the existentials, and free
pub names_free : (goal : Goal) (source : Assertion) (names : List (List ℕ)) (x : Result (List Goal) RuleStop) → length names ≡ length source.existentials → first_taken (context_of goal).variables [] names ≡ None → IsAnswer (Opens goal source names) x → IsAnswer (ByNames goal source names) x
names_free goal source names x e f h =
    subst (λ (b : Bool). IsAnswer (Unless (not b) wrong_names (UnlessTaken (first_taken (context_of goal).variables [] names) (Opens goal source names))) x)
    (sym (eq-eqb (length names) (length source.existentials) e))
    (subst (λ (o : Option (List ℕ)). IsAnswer (UnlessTaken o (Opens goal source names)) x) (sym f) h)

-- the row of each kind of goal
pub of_run : (goal : Goal) (run : r.Run) (args : Args) (source : Assertion) (names : List (List ℕ)) (x : Result (List Goal) RuleStop) → goal ≡ Run run → source ≡ run.source → names ≡ args.names → IsAnswer (ByNames goal source names) x → IsAnswer (Row goal args) x
of_run goal run args source names x e f h is =
    subst (λ (y : Goal). IsAnswer (Row y args) x) (sym e)
    (subst (λ ns. IsAnswer (ByNames (Run run) run.source ns) x) h
    (subst (λ (s : Assertion). IsAnswer (ByNames (Run run) s names) x) f (subst (λ (y : Goal). IsAnswer (ByNames y source names) x) e is)))

pub of_entail : (goal : Goal) (entail : e.Entail) (args : Args) (source : Assertion) (names : List (List ℕ)) (x : Result (List Goal) RuleStop) → goal ≡ Entail entail → source ≡ entail.source → names ≡ args.names → IsAnswer (ByNames goal source names) x → IsAnswer (Row goal args) x
of_entail goal entail args source names x e f h is =
    subst (λ (y : Goal). IsAnswer (Row y args) x) (sym e)
    (subst (λ ns. IsAnswer (ByNames (Entail entail) entail.source ns) x) h
    (subst (λ (s : Assertion). IsAnswer (ByNames (Entail entail) s names) x) f (subst (λ (y : Goal). IsAnswer (ByNames y source names) x) e is)))
