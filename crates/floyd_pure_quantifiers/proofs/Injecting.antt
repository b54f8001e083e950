-- The arguments of equal terms with the same constructor are equal.
use Rattle.std.proofs.Common.{◌≡◌, Bool, true, false, List, [], ◌∷◌, Some, None, Ok, refl, sym, ap, ap₂, subst, ◌∙◌, cond}
use Rattle.floyd_ctypes.specs.Structs.{Structs}
use Rattle.floyd_tree_sorts.specs.declared.connectives.FormulaHead.TheVariants as f
use Rattle.floyd_tree_sorts.specs.declared.heads.Head.{Head}
use Rattle.floyd_tree_sorts.specs.declared.heads.Head.TheVariants as h
use Rattle.floyd_tree_sorts.specs.declared.operators.Operator.TheVariants as o
use Rattle.floyd_tree_sorts.specs.declared.sorts.Sort.{Sort}
use Rattle.floyd_tree_sorts.specs.Operators.{row}
use Rattle.floyd_tree_sorts.specs.Sorts.{list_sort, tree_sort}
use Rattle.floyd_tree_sorts.specs.Table.{alone, sort_at}
use Rattle.floyd_tree_sorts.proofs.RowLemmas.{row_taken}
use Rattle.floyd_tree.specs.Formulas.{PlainFormula, Says}
use Rattle.floyd_tree.specs.Plain.{Plain, Plains, At, Done, More, head_of, kids_of, listed}
use Rattle.floyd_tree.specs.WellSorted.{sort_of, sorts_of}
use Rattle.floyd_tree_values.specs.BuiltIns.{Env, applied}
use Rattle.floyd_tree_values.specs.Data.{Datum, Data, DataTree, Number, Val, Seq, Tree, Pair, Empty, Item, Node, HasSort, HaveSorts, seq, data_of}
use Rattle.floyd_tree_values.specs.Data as d
use Rattle.floyd_tree_values.specs.Means.{Defs, Means, AllMean, is_fun, more, none}
use Rattle.floyd_tree_values.specs.Rules.{DefsKeep, Scope, Suits, CallsOf, EachAllowed, AllAllowed}
use Rattle.floyd_tree_values.proofs.OneValue.{applies, no_data, one_value, split}
use Rattle.floyd_truth.specs.Truth.{AllTrue}
use Rattle.floyd_goal_trees.specs.declared.args.Args.{Args}
use Rattle.floyd_goal_trees.specs.declared.goal.Goal.{Goal}
use Rattle.floyd_goal.specs.Goals.{intros_first, is_pending, number_of}
use Rattle.floyd_goal.specs.Sides.{context_of}
use Rattle.floyd_goal_formulas.specs.Fits.{Fits}
use Rattle.floyd_goal_formulas.specs.Said.{Saying, Equation, said}
use Rattle.floyd_goal_formulas.proofs.Sayings.{SaidTrue, truth_said}
use Rattle.floyd_goal_formulas.proofs.Values.{first_some, valued}
use Rattle.floyd_goal_truth.specs.Scopes.{scope_of}
use Rattle.floyd_goal_truth.proofs.Uses.{hypothesis_fits, hypothesis_true}
use Rattle.floyd_pure_formulas.specs.Holds.{Specs, AddsTrue}
use Rattle.floyd_pure_formulas.specs.Keeps.{KeepsTruth}
use Rattle.floyd_pure_quantifiers.specs.Inject.{InjectRow, are_alike, equations, goals_by, injected}
use Rattle.floyd_pure_formulas.specs.Rows.{OfHypothesis, no_such, with_more}
use Rattle.floyd_pure_formulas.proofs.Enriching.{keeps_by_adding}
use Rattle.floyd_pure_quantifiers.proofs.Equating.{Alike, nils, leaves, conses, nodes, pairs, alike, alike_sorts, kid_sorts, sides_sorted}
use Rattle.floyd_pure_formulas.proofs.Rowing.{found, goals_are, no_goals, passed}
use Rattle.floyd_pure_formulas.proofs.Shapes.{equation}

data_listed : (i : Data) → data_of (d.listed i) ≡ i
data_listed Empty = refl
data_listed (Item a i) = ap (Item a) (data_listed i)

list_shape : (s : Sort) (a : Datum) → HasSort (list_sort s) a → (i : Data) × (a ≡ Seq i)
list_shape s (Seq i) k = (i, refl)
list_shape s (Number z) k = absurd k
list_shape s (Val v) k = absurd k
list_shape s (Tree t) k = absurd k
list_shape s (Pair a b) k = absurd k

tree_shape : (s : Sort) (a : Datum) → HasSort (tree_sort s) a → (t : DataTree) × (a ≡ Tree t)
tree_shape s (Tree t) k = (t, refl)
tree_shape s (Number z) k = absurd k
tree_shape s (Val v) k = absurd k
tree_shape s (Seq i) k = absurd k
tree_shape s (Pair a b) k = absurd k

none_shape : (ds : List Datum) → HaveSorts [] ds → ds ≡ []
none_shape [] k = refl
none_shape (a ∷ ds) k = absurd k

two_shape : (s r : Sort) (ds : List Datum) → HaveSorts (s ∷ r ∷ []) ds → (a : Datum) × (b : Datum) × HasSort r b × (ds ≡ a ∷ b ∷ [])
two_shape s r [] k = absurd k
two_shape s r (a ∷ []) k = absurd k.1
two_shape s r (a ∷ b ∷ []) k = (a, b, k.1.0, refl)
two_shape s r (a ∷ b ∷ c ∷ ds) k = absurd k.1.1

three_shape : (s r t : Sort) (ds : List Datum) → HaveSorts (s ∷ r ∷ t ∷ []) ds → (a : Datum) × (b : Datum) × (c : Datum) × HasSort s a × HasSort t c × (ds ≡ a ∷ b ∷ c ∷ [])
three_shape s r t [] k = absurd k
three_shape s r t (a ∷ []) k = absurd k.1
three_shape s r t (a ∷ b ∷ []) k = absurd k.1.1
three_shape s r t (a ∷ b ∷ c ∷ []) k = (a, b, c, k.0, k.1.1.0, refl)
three_shape s r t (a ∷ b ∷ c ∷ e ∷ ds) k = absurd k.1.1.1

cons_made : (a b : Datum) (i j : Data) → seq (a ∷ d.listed i) ≡ seq (b ∷ d.listed j) → (a ≡ b) × (i ≡ j)
cons_made a b i j e =
    let rest : data_of (d.listed i) ≡ data_of (d.listed j) = cc in
    (cc, sym (data_listed i) ∙ rest ∙ data_listed j)

-- heads that are alike are constructors: what they make of data says which data
module _ (structs : Structs) (env : Env) where
  cons_data : (s t u : Sort) (ds es : List Datum) → HaveSorts (s ∷ list_sort s ∷ []) ds → HaveSorts (s ∷ list_sort s ∷ []) es → applied structs env (h.Operator o.Cons) t ds ≡ applied structs env (h.Operator o.Cons) u es → ds ≡ es
  cons_data s t u ds es p q e =
      let k = two_shape s (list_sort s) ds p in
      let l = two_shape s (list_sort s) es q in
      let i = list_shape s k.1 k.2 in
      let j = list_shape s l.1 l.2 in
      let left : ds ≡ k.0 ∷ Seq i.0 ∷ [] = k.3 ∙ ap (λ x. k.0 ∷ x ∷ []) i.1 in
      let right : es ≡ l.0 ∷ Seq j.0 ∷ [] = l.3 ∙ ap (λ x. l.0 ∷ x ∷ []) j.1 in
      let made : seq (k.0 ∷ d.listed i.0) ≡ seq (l.0 ∷ d.listed j.0) =
      sym (ap (applied structs env (h.Operator o.Cons) t) left) ∙ e ∙ ap (applied structs env (h.Operator o.Cons) u) right in
      let same = cons_made k.0 l.0 i.0 j.0 made in
      left ∙ ap₂ (λ x y. x ∷ Seq y ∷ []) same.0 same.1 ∙ sym right

  node_data : (s t u : Sort) (ds es : List Datum) → HaveSorts (tree_sort s ∷ s ∷ tree_sort s ∷ []) ds → HaveSorts (tree_sort s ∷ s ∷ tree_sort s ∷ []) es → applied structs env (h.Operator o.Node) t ds ≡ applied structs env (h.Operator o.Node) u es → ds ≡ es
  node_data s t u ds es p q e =
      let k = three_shape (tree_sort s) s (tree_sort s) ds p in
      let l = three_shape (tree_sort s) s (tree_sort s) es q in
      let ka = tree_shape s k.0 k.3 in
      let kc = tree_shape s k.2 k.4 in
      let la = tree_shape s l.0 l.3 in
      let lc = tree_shape s l.2 l.4 in
      let left : ds ≡ Tree ka.0 ∷ k.1 ∷ Tree kc.0 ∷ [] = k.5 ∙ ap₂ (λ x y. x ∷ k.1 ∷ y ∷ []) ka.1 kc.1 in
      let right : es ≡ Tree la.0 ∷ l.1 ∷ Tree lc.0 ∷ [] = l.5 ∙ ap₂ (λ x y. x ∷ l.1 ∷ y ∷ []) la.1 lc.1 in
      let made : Tree (Node ka.0 k.1 kc.0) ≡ Tree (Node la.0 l.1 lc.0) =
      sym (ap (applied structs env (h.Operator o.Node) t) left) ∙ e ∙ ap (applied structs env (h.Operator o.Node) u) right in
      let first : ka.0 ≡ la.0 = cc (made) in
      let item : k.1 ≡ l.1 = cc (made) in
      let last : kc.0 ≡ lc.0 = cc (made) in
      left ∙ ap₂ (λ x y. Tree x ∷ y ∷ Tree kc.0 ∷ []) first item ∙ ap (λ x. Tree la.0 ∷ l.1 ∷ Tree x ∷ []) last ∙ sym right

  pair_data : (s r t u : Sort) (ds es : List Datum) → HaveSorts (s ∷ r ∷ []) ds → HaveSorts (s ∷ r ∷ []) es → applied structs env (h.Operator o.Pair) t ds ≡ applied structs env (h.Operator o.Pair) u es → ds ≡ es
  pair_data s r t u ds es p q e =
      let k = two_shape s r ds p in
      let l = two_shape s r es q in
      let made : Pair k.0 k.1 ≡ Pair l.0 l.1 =
      sym (ap (applied structs env (h.Operator o.Pair) t) k.3) ∙ e ∙ ap (applied structs env (h.Operator o.Pair) u) l.3 in
      let first : k.0 ≡ l.0 = cc (made) in
      let second : k.1 ≡ l.1 = cc (made) in
      k.3 ∙ ap₂ (λ x y. x ∷ y ∷ []) first second ∙ sym l.3

  none_data : (s r : Sort) (ss : List Sort) (ds es : List Datum) → alone s ss ≡ Some r → HaveSorts ss ds → HaveSorts ss es → ds ≡ es
  none_data s r [] ds es e p q = none_shape ds p ∙ sym (none_shape es q)
  none_data s r (a ∷ ss) ds es e p q = absurd cc

  same_data : {a b : Head} → Alike a b → (ss : List Sort) (t : Sort) (r u : Sort) (ds es : List Datum) → sort_at a ss ≡ Some t → HaveSorts ss ds → HaveSorts ss es → applied structs env a r ds ≡ applied structs env b u es → ds ≡ es
  same_data (nils {s = s}) ss t r u ds es k p q e = none_data (list_sort s) t ss ds es k p q
  same_data (leaves {s = s}) ss t r u ds es k p q e = none_data (tree_sort s) t ss ds es k p q
  same_data conses ss t r u ds es k p q e =
      let w = row_taken (row o.Cons) ss t k in
      cons_data w.0 r u ds es (subst (λ x. HaveSorts x ds) (sym w.2) p) (subst (λ x. HaveSorts x es) (sym w.2) q) e
  same_data nodes ss t r u ds es k p q e =
      let w = row_taken (row o.Node) ss t k in
      node_data w.0 r u ds es (subst (λ x. HaveSorts x ds) (sym w.2) p) (subst (λ x. HaveSorts x es) (sym w.2) q) e
  same_data pairs ss t r u ds es k p q e =
      let w = row_taken (row o.Pair) ss t k in
      pair_data w.0 w.1 r u ds es (subst (λ x. HaveSorts x ds) (sym w.2) p) (subst (λ x. HaveSorts x es) (sym w.2) q) e

module _ (defs : Defs) (specs : Specs) (scope : Scope) (env : Env) (keeps : DefsKeep defs) (suits : Suits scope env) where
  -- the values of terms have the sorts of the terms
  data_have : (ts : Plains) → AllAllowed defs.structs scope (CallsOf defs.funs) ts → (ss : List Sort) → sorts_of ts ≡ Some ss → (ds : List Datum) → AllMean defs env ts ds → HaveSorts ss ds
  data_have Done a ss e ds m =
      let one : [] ≡ ss = cc in
      subst (λ x. HaveSorts x ds) one (subst (HaveSorts []) (sym (no_data m)) tt)
  data_have (More t ts) a ss e ds m =
      let p = first_some (sort_of t) (sorts_of ts) ss e in
      let q = split m in
      let v = valued defs scope env keeps suits t p.0 a.0 p.2 in
      let same : v.0 ≡ q.datum = one_value defs v.1 q.datum q.first in
      subst (λ x. HaveSorts x ds) (sym p.4)
      (subst (HaveSorts (p.0 ∷ p.1)) (sym q.is) (subst (HasSort p.0) same v.2, data_have ts a.1 p.1 p.3 q.data' q.rest))

  -- where terms mean the same data, their equations are true
  equations_true : (ts us : Plains) (ds : List Datum) → AllMean defs env ts ds → AllMean defs env us ds → AllTrue defs specs env (equations (listed ts) (listed us))
  equations_true Done us ds m n = tt
  equations_true (More t ts) Done ds m n = tt
  equations_true (More t ts) (More u us) ds m n =
      let p = split m in
      let q = split n in
      let both : p.datum ∷ p.data' ≡ q.datum ∷ q.data' = sym p.is ∙ q.is in
      let first : q.datum ≡ p.datum = cc (both) in
      let rest : q.data' ≡ p.data' = cc (both) in
      ((p.datum, more p.first (more (subst (Means defs env u) first q.first) none)), equations_true ts us p.data' p.rest (subst (AllMean defs env us) rest q.rest))

  alike_no_fun : {a b : Head} → Alike a b → (is_fun a ≡ false) × (is_fun b ≡ false)
  alike_no_fun nils = (refl, refl)
  alike_no_fun leaves = (refl, refl)
  alike_no_fun conses = (refl, refl)
  alike_no_fun nodes = (refl, refl)
  alike_no_fun pairs = (refl, refl)

  -- the arguments of terms with the same constructor that mean the same
  pub arguments_true : (u v : Plain) (s : Sort) → sort_of u ≡ Some s → sort_of v ≡ Some s → EachAllowed defs.structs scope (CallsOf defs.funs) u → EachAllowed defs.structs scope (CallsOf defs.funs) v → Alike (head_of u) (head_of v) → (x : Datum) → Means defs env u x → Means defs env v x → AllTrue defs specs env (equations (kids_of u) (kids_of v))
  arguments_true (At a ts) (At b us) s e g ka kb al x m n =
      let plain = alike_no_fun al in
      let i = applies plain.0 m in
      let j = applies plain.1 n in
      let k = kid_sorts a ts s e in
      let l = kid_sorts b us s g in
      let sorts : l.0 ≡ k.0 = sym (alike_sorts al k.0 l.0 s k.2 l.2) in
      let left = data_have ts ka.1 k.0 k.1 i.data' i.mean in
      let right = data_have us kb.1 k.0 (l.1 ∙ ap (λ q. Some q) sorts) j.data' j.mean in
      let same : i.data' ≡ j.data' = same_data defs.structs env al k.0 s i.sort j.sort i.data' j.data' k.2 left right (sym i.is ∙ j.is) in
      equations_true ts us i.data' i.mean (subst (AllMean defs env us) (sym same) j.mean)

record Injected (goal : Goal) (a : PlainFormula) (goals : List Goal) : Type 0 where
  pub left : Plain
  pub right : Plain
  pub says : said a ≡ Equation left right
  pub alike : are_alike (head_of left) (head_of right) ≡ true
  pub made : goals ≡ with_more goal (equations (kids_of left) (kids_of right)) ∷ []

injected_by : (goal : Goal) (args : Args) (a : PlainFormula) (goals : List Goal) (s : Saying) → said a ≡ s → Ok goals ≡ goals_by goal args (injected s) → Injected goal a goals
injected_by goal args a goals (Equation u v) e row = by (are_alike (head_of u) (head_of v)) refl row
  where
    by : (c : Bool) → are_alike (head_of u) (head_of v) ≡ c → Ok goals ≡ goals_by goal args (cond c (Some (equations (kids_of u) (kids_of v))) None) → Injected goal a goals
    by true k row = record { left = u; right = v; says = e; alike = k; made = goals_are goals _ row }
    by false k row = absurd (no_goals goals _ row)
injected_by goal args a goals s e row = absurd (no_goals goals _ row)

pub inject_adding : AddsTrue InjectRow
inject_adding defs specs goal args goals keeps hyps_fit args_fit row =
    let scope = scope_of (context_of goal) in
    let hs = (context_of goal).hypotheses in
    let n = number_of args.target in
    let p = found _ (no_such args) (λ h a. a ≡ goals_by goal args (injected (said h))) goals
    (passed (is_pending goal) intros_first (OfHypothesis goal args (λ h a. a ≡ goals_by goal args (injected (said h)))) goals row) in
    let q = injected_by goal args p.0 goals (said p.0) refl p.2 in
    let i = equation q.left q.right p.0 q.says in
    let fit : Fits defs scope (Says f.Equal (More q.left (More q.right Done)) i.kids) = subst (Fits defs scope) i.is (hypothesis_fits defs scope hs n p.0 p.1 hyps_fit) in
    let s = sides_sorted q.left q.right i.kids fit.sorted in
    record {
      asked = [];
      added = equations (kids_of q.left) (kids_of q.right);
      made = q.made;
      hold = λ env suits hyps asked.
          let same : SaidTrue defs specs env (Unit {0}) (Equation q.left q.right) = subst (SaidTrue defs specs env (Unit {0})) q.says (truth_said defs specs env p.0 (hypothesis_true defs specs env hs n p.0 p.1 hyps)) in
          arguments_true defs specs scope env keeps suits q.left q.right s.0 s.1 s.2 fit.allowed.0.0 fit.allowed.0.1.0 (alike (head_of q.left) (head_of q.right) q.alike) same.0 same.1 same.2;
    }

pub inject_true : KeepsTruth InjectRow
inject_true = keeps_by_adding InjectRow inject_adding
