-- Calls of FUNs that keep the rules have values.
use Rattle.std.proofs.Common.{◌≡◌, ◌⊎◌, inl, inr, ⊎_elim, ℕ, Bool, true, false, cond, List, [], ◌∷◌, ◌++◌, map, Option, Some, None, All, refl, sym, ap, subst, ◌∙◌, pos}
use Rattle.std.specs.Prelude.{option_and_then, option_map, bytes_eq, unwrap_or}
use Rattle.std.specs.Map.{lookup}
use Rattle.std.proofs.lemmas.List.Elements.{All-head, All-tail}
use Rattle.std.proofs.lemmas.Slice.Eq.{bytes_eq-Decides}
use Rattle.floyd_ctypes.specs.Structs.{Structs}
use Rattle.floyd_tree_sorts.specs.declared.sorts.Sort.{Sort, Z, Val as ValSort, ListOf', TreeOf', Prod', more_of-Sort, end_of-Sort}
use Rattle.floyd_tree_sorts.specs.declared.heads.Head.TheVariants.{Variable, Fun as FunHead}
use Rattle.floyd_tree_sorts.specs.Sorts.{list_sort, tree_sort}
use Rattle.floyd_tree.specs.Plain.{Plain, Plains, At, Done, More}
use Rattle.floyd_tree_values.specs.Data.{Datum, Number, Seq, Tree, Data, Empty, Item, DataTree, Leaf, Node, listed, HasSort, HaveSorts}
use Rattle.floyd_tree_values.specs.Funs.{Fun, Case, Body, Whole, ByCases, Pattern, NilPattern, ConsPattern, LeafPattern, NodePattern, Bindings, Opened, argument_sorts, fun_of, bound, parts, first_of, chosen, opened_by, opened}
use Rattle.floyd_tree_values.specs.BuiltIns.{Env, applied}
use Rattle.floyd_tree_values.specs.Means.{Defs, Means, AllMean, call, datum_of, inside}
use Rattle.floyd_tree_values.specs.Rules.{Scope, Suits, Calls, Fits, CallsOf, IsOneOf, CallsFrom, smaller, NamesDiffer, pattern_scope, CaseKeeps, Constructor, OfNil, OfCons, OfLeaf, OfNode, constructor_of, constructors, OneEach, CasesKeep, FirstKeeps, BodyKeeps}
use Rattle.floyd_tree_values.proofs.OneValue.{applies, no_data, split}
use Rattle.floyd_tree_values.proofs.TermValues.{Valued, Answers, value_of}

-- names
same_name : (x : List ℕ) → bytes_eq x x ≡ true
same_name x = (bytes_eq-Decides x x).1 refl

not_true : (b : Bool) → (b ≡ true → ⊥) → b ≡ false
not_true true h = absurd (h refl)
not_true false h = refl

other_name : (x y : List ℕ) → ¬ (x ≡ y) → bytes_eq x y ≡ false
other_name x y h = not_true (bytes_eq x y) (λ e. h ((bytes_eq-Decides x y).0 e))

-- data that agree with a scope, name by name
abbrev Agree : Scope → Bindings → Type 0
Agree [] [] = Unit {0}
Agree (a ∷ scope) (b ∷ bindings) = (a.0 ≡ b.0) × HasSort a.1 b.1 × Agree scope bindings
Agree scope bindings = ⊥

zero_datum : Datum
zero_datum = Number (pos 0)

picked : (t : Bool) (a s : Sort) (o : Option Sort) (d : Datum) (p : Option Datum) → cond t (Some a) o ≡ Some s → HasSort a d → (o ≡ Some s → HasSort s (unwrap_or p (Number (pos 0)))) → HasSort s (unwrap_or (cond t (Some d) p) (Number (pos 0)))
picked true a s o d p e h f = let same : a ≡ s = cc in subst (λ x. HasSort x d) same h
picked false a s o d p e h f = f e

agree_at : (scope : Scope) (bindings : Bindings) → Agree scope bindings → (x : List ℕ) (s : Sort) → lookup (bytes_eq x) scope ≡ Some s → HasSort s (datum_of bindings x)
agree_at [] [] h x s e = absurd cc
agree_at [] (b ∷ bindings) h x s e = absurd h
agree_at (a ∷ scope) [] h x s e = absurd h
agree_at (a ∷ scope) (b ∷ bindings) h x s e =
    subst (λ y. HasSort s (unwrap_or (cond (bytes_eq x y) (Some b.1) (lookup (bytes_eq x) bindings)) (Number (pos 0)))) h.0
    (picked (bytes_eq x a.0) a.1 s (lookup (bytes_eq x) scope) b.1 (lookup (bytes_eq x) bindings) e h.1 (agree_at scope bindings h.2 x s))

agree_append : (a b : Scope) (c d : Bindings) → Agree a c → Agree b d → Agree (a ++ b) (c ++ d)
agree_append [] b [] d h g = g
agree_append [] b (y ∷ c) d h g = absurd h
agree_append (x ∷ a) b [] d h g = absurd h
agree_append (x ∷ a) b (y ∷ c) d h g = (h.0, h.1, agree_append a b c d h.2 g)

agree_bound : (arguments : Scope) (ds : List Datum) → HaveSorts (map (λ a. a.1) arguments) ds → Agree arguments (bound arguments ds)
agree_bound [] [] h = tt
agree_bound [] (d ∷ ds) h = absurd h
agree_bound (a ∷ arguments) [] h = absurd h
agree_bound (a ∷ arguments) (d ∷ ds) h = (refl, h.0, agree_bound arguments ds h.1)

suits_from : (scope : Scope) (env : Env) (bindings : Bindings) → Agree scope bindings → Suits scope (inside env bindings)
suits_from scope env bindings h = record { each = agree_at scope bindings h }

-- which case is chosen
made_by : Datum → Option Constructor
made_by (Seq Empty) = Some OfNil
made_by (Seq (Item d ds)) = Some OfCons
made_by (Tree Leaf) = Some OfLeaf
made_by (Tree (Node l x r)) = Some OfNode
made_by d = None

fit_parts : (p : Pattern) (d : Datum) → made_by d ≡ Some (constructor_of p) → (own : Bindings) × (parts p d ≡ Some own)
unfolding made_by
fit_parts NilPattern (Seq Empty) e = ([], refl)
fit_parts (ConsPattern x r) (Seq (Item d rest)) e = ((x, d) ∷ (r, Seq rest) ∷ [], refl)
fit_parts LeafPattern (Tree Leaf) e = ([], refl)
fit_parts (NodePattern l x r) (Tree (Node a d b)) e = ((l, Tree a) ∷ (x, d) ∷ (r, Tree b) ∷ [], refl)
fit_parts NilPattern (Tree Leaf) e = absurd cc
fit_parts NilPattern (Tree (Node a d b)) e = absurd cc
fit_parts (ConsPattern x r) (Tree Leaf) e = absurd cc
fit_parts (ConsPattern x r) (Tree (Node a d b)) e = absurd cc
fit_parts LeafPattern (Seq Empty) e = absurd cc
fit_parts LeafPattern (Seq (Item d rest)) e = absurd cc
fit_parts (NodePattern l x r) (Seq Empty) e = absurd cc
fit_parts (NodePattern l x r) (Seq (Item d rest)) e = absurd cc
fit_parts p d e = absurd cc

no_parts : (p : Pattern) (d : Datum) (k : Constructor) → made_by d ≡ Some k → ¬ (k ≡ constructor_of p) → parts p d ≡ None
unfolding made_by
no_parts NilPattern (Seq Empty) k e n = absurd (n cc)
no_parts (ConsPattern x r) (Seq (Item d rest)) k e n = absurd (n cc)
no_parts LeafPattern (Tree Leaf) k e n = absurd (n cc)
no_parts (NodePattern l x r) (Tree (Node a d b)) k e n = absurd (n cc)
no_parts p d k e n = refl

record Choice (structs : Structs) (before : List Fun) (f : Fun) (s item : Sort) (cases : List Case) (d : Datum) (arguments : Bindings) : Type 0 where
  case : Case
  own : Bindings
  keeps : CaseKeeps structs before f s item case
  fits : parts case.pattern d ≡ Some own
  is : chosen cases d arguments ≡ Some (record { bindings = own ++ arguments; term = case.term })

module _ (structs : Structs) (before : List Fun) (f : Fun) (s item : Sort) (d : Datum) (arguments : Bindings) where
  choose_two : (c e : Case) (k j : Constructor) → All (CaseKeeps structs before f s item) (c ∷ e ∷ []) → constructor_of c.pattern ≡ k → constructor_of e.pattern ≡ j → ¬ (k ≡ j) → (made_by d ≡ Some k) ⊎ (made_by d ≡ Some j) → Choice structs before f s item (c ∷ e ∷ []) d arguments
  choose_two c e k j all p q n (inl m) =
      let g = fit_parts c.pattern d (m ∙ ap Option.Some (sym p)) in
      record {
        case = c;
        own = g.0;
        keeps = All-head (CaseKeeps structs before f s item) c (e ∷ []) all;
        fits = g.1;
        is = ap (λ o. first_of (option_map (λ own. record { bindings = own ++ arguments; term = c.term }) o) (chosen (e ∷ []) d arguments)) g.1;
      }
  choose_two c e k j all p q n (inr m) =
      let g = fit_parts e.pattern d (m ∙ ap Option.Some (sym q)) in
      let none = no_parts c.pattern d j m (λ same. n (sym (same ∙ p))) in
      record {
        case = e;
        own = g.0;
        keeps = All-head (CaseKeeps structs before f s item) e [] (All-tail (CaseKeeps structs before f s item) c (e ∷ []) all);
        fits = g.1;
        is =
            ap (λ o. first_of (option_map (λ own. record { bindings = own ++ arguments; term = c.term }) o) (chosen (e ∷ []) d arguments)) none
            ∙ ap (λ o. first_of (option_map (λ own. record { bindings = own ++ arguments; term = e.term }) o) None) g.1;
      }

  choose_from : (cases : List Case) (k j : Constructor) → All (CaseKeeps structs before f s item) cases → constructors cases ≡ k ∷ j ∷ [] → ¬ (k ≡ j) → (made_by d ≡ Some k) ⊎ (made_by d ≡ Some j) → Choice structs before f s item cases d arguments
  choose_from [] k j all e n m = absurd cc
  choose_from (c ∷ []) k j all e n m = absurd cc
  choose_from (c ∷ g ∷ []) k j all e n m = choose_two c g k j all (cc) (cc) n m
  choose_from (c ∷ g ∷ h ∷ cases) k j all e n m = absurd cc

  choose : (cases : List Case) (k j : Constructor) → OneEach k j cases → All (CaseKeeps structs before f s item) cases → ¬ (k ≡ j) → (made_by d ≡ Some k) ⊎ (made_by d ≡ Some j) → Choice structs before f s item cases d arguments
  choose cases k j (inl e) all n m = choose_from cases k j all e n m
  choose cases k j (inr e) all n m = choose_from cases j k all e (λ same. n (sym same)) (⊎_elim (λ x. inr x) (λ x. inl x) m)

-- the parts of a list or a tree are of the pattern's sorts
list_parts : (item : Sort) (p : Pattern) (d : Datum) (own : Bindings) → HasSort (list_sort item) d → parts p d ≡ Some own → Agree (pattern_scope p (list_sort item) item) own
list_parts item NilPattern (Seq Empty) own h e = let same : [] ≡ own = cc in subst (Agree []) same tt
list_parts item (ConsPattern x r) (Seq (Item d rest)) own h e =
    let same : (x, d) ∷ (r, Seq rest) ∷ [] ≡ own = cc in
    subst (Agree ((x, item) ∷ (r, list_sort item) ∷ [])) same (refl, All-head (HasSort item) d (listed rest) h, (refl, All-tail (HasSort item) d (listed rest) h, tt))
list_parts item LeafPattern (Tree Leaf) own h e = absurd h
list_parts item (NodePattern l x r) (Tree (Node a d b)) own h e = absurd h
list_parts item p d own h e = absurd cc

tree_parts : (item : Sort) (p : Pattern) (d : Datum) (own : Bindings) → HasSort (tree_sort item) d → parts p d ≡ Some own → Agree (pattern_scope p (tree_sort item) item) own
tree_parts item NilPattern (Seq Empty) own h e = absurd h
tree_parts item (ConsPattern x r) (Seq (Item d rest)) own h e = absurd h
tree_parts item LeafPattern (Tree Leaf) own h e = let same : [] ≡ own = cc in subst (Agree []) same tt
tree_parts item (NodePattern l x r) (Tree (Node a d b)) own h e =
    let same : (l, Tree a) ∷ (x, d) ∷ (r, Tree b) ∷ [] ≡ own = cc in
    subst (Agree ((l, tree_sort item) ∷ (x, item) ∷ (r, tree_sort item) ∷ [])) same (refl, h.0, (refl, h.1, (refl, h.2, tt)))
tree_parts item p d own h e = absurd cc

-- the sublist or a subtree
abbrev IsPart : Datum → Datum → Type 0
IsPart e (Seq (Item d rest)) = e ≡ Seq rest
IsPart e (Tree (Node l d r)) = (e ≡ Tree l) ⊎ (e ≡ Tree r)
IsPart e d = ⊥

-- what a bound name stands for
module _ (arguments : Bindings) where
  at_first : (x : List ℕ) (d : Datum) (more : Bindings) → datum_of ((x, d) ∷ more) x ≡ d
  at_first x d more = ap (λ t. unwrap_or (cond t (Some d) (lookup (bytes_eq x) more)) (Number (pos 0))) (same_name x)

  past : (x y : List ℕ) (d : Datum) (more : Bindings) → ¬ (x ≡ y) → datum_of ((y, d) ∷ more) x ≡ datum_of more x
  past x y d more n = ap (λ t. unwrap_or (cond t (Some d) (lookup (bytes_eq x) more)) (Number (pos 0))) (other_name x y n)

  smaller_is_part : (p : Pattern) (d : Datum) (own : Bindings) (x : List ℕ) → NamesDiffer p → parts p d ≡ Some own → IsOneOf (smaller p) x → IsPart (datum_of (own ++ arguments) x) d
  smaller_is_part (ConsPattern y r) (Seq (Item d rest)) own x n e (inl same) =
      let own_is : (y, d) ∷ (r, Seq rest) ∷ [] ≡ own = cc in
      let all = (y, d) ∷ (r, Seq rest) ∷ arguments in
      let at_r : datum_of all r ≡ Seq rest = past r y d ((r, Seq rest) ∷ arguments) (λ q. n (sym q)) ∙ at_first r (Seq rest) arguments in
      ap (λ b. datum_of (b ++ arguments) x) (sym own_is) ∙ ap (datum_of all) same ∙ at_r
  smaller_is_part (ConsPattern y r) (Seq (Item d rest)) own x n e (inr i) = absurd i
  smaller_is_part (NodePattern l y r) (Tree (Node a d b)) own x n e (inl same) =
      let own_is : (l, Tree a) ∷ (y, d) ∷ (r, Tree b) ∷ [] ≡ own = cc in
      let all = (l, Tree a) ∷ (y, d) ∷ (r, Tree b) ∷ arguments in
      let at_l : datum_of all l ≡ Tree a = at_first l (Tree a) ((y, d) ∷ (r, Tree b) ∷ arguments) in
      inl (ap (λ z. datum_of (z ++ arguments) x) (sym own_is) ∙ ap (datum_of all) same ∙ at_l)
  smaller_is_part (NodePattern l y r) (Tree (Node a d b)) own x n e (inr (inl same)) =
      let own_is : (l, Tree a) ∷ (y, d) ∷ (r, Tree b) ∷ [] ≡ own = cc in
      let all = (l, Tree a) ∷ (y, d) ∷ (r, Tree b) ∷ arguments in
      let at_r : datum_of all r ≡ Tree b =
      past r l (Tree a) ((y, d) ∷ (r, Tree b) ∷ arguments) (λ q. n.1 (sym q))
      ∙ past r y d ((r, Tree b) ∷ arguments) (λ q. n.2 (sym q))
      ∙ at_first r (Tree b) arguments in
      inr (ap (λ z. datum_of (z ++ arguments) x) (sym own_is) ∙ ap (datum_of all) same ∙ at_r)
  smaller_is_part (NodePattern l y r) (Tree (Node a d b)) own x n e (inr (inr i)) = absurd i
  smaller_is_part NilPattern d own x n e i = absurd i
  smaller_is_part LeafPattern d own x n e i = absurd i
  smaller_is_part p d own x n e i = absurd cc

-- a call's value
pub record Answer (defs : Defs) (env : Env) (f : Fun) (ds : List Datum) : Type 0 where
  pub open' : Opened
  pub is : opened f ds ≡ Some open'
  pub datum : Datum
  pub means : Means defs (inside env open'.bindings) open'.term datum
  pub sorted : HasSort f.result datum

-- the FUNs in the list have values at data of their sorts
abbrev pub Complete : Defs → List Fun → Type 0
Complete defs funs =
    (name : List ℕ) (f : Fun) → fun_of funs name ≡ Some f → (fun_of defs.funs name ≡ Some f) × ((env : Env) (ds : List Datum) → HaveSorts (argument_sorts f) ds → Answer defs env f ds)

-- a call of a FUN that has values
call_value : (defs : Defs) (env : Env) (name : List ℕ) (arguments : List Sort) (s : Sort) (kids : Plains) (ds : List Datum) (f : Fun) → fun_of defs.funs name ≡ Some f → f.result ≡ s → AllMean defs env kids ds → Answer defs env f ds → Valued defs env (At (FunHead name arguments s) kids) s
call_value defs env name arguments s kids ds f found result m a =
    (a.datum, call {bindings = a.open'.bindings} {term = a.open'.term} m (ap (option_and_then (λ g. opened g ds)) found ∙ a.is) a.means, subst (λ x. HasSort x a.datum) result a.sorted)

pub answers_of : (defs : Defs) (funs : List Fun) → Complete defs funs → (env : Env) → Answers defs env (CallsOf funs)
answers_of defs funs complete env name arguments s kids ds c m h =
    let all = complete name c.0 c.1 in
    call_value defs env name arguments s kids ds c.0 all.0 c.3 m (all.1 env ds (subst (λ x. HaveSorts x ds) (sym c.2) h))

-- the datum of a variable
variable_datum : {defs : Defs} {env : Env} {x : List ℕ} {s : Sort} {d : Datum} → Means defs env (At (Variable x s) Done) d → d ≡ env.variables x
variable_datum {defs} {env} {x} {s} {d} m =
    let a = applies refl m in
    let nothing = no_data a.mean in
    a.is ∙ ap (λ ds. applied defs.structs env (Variable x s) a.sort ds) nothing

module _ (defs : Defs) (before : List Fun) (f : Fun) (complete : Complete defs before) (found : fun_of defs.funs f.name ≡ Some f) where
  -- where the FUN has values at the parts of d, so have its calls on them
  part_answers : (env : Env) (names : List (List ℕ)) (d : Datum) → ((x : List ℕ) → IsOneOf names x → IsPart (env.variables x) d) → ((e : Datum) → IsPart e d → (es : List Datum) → HaveSorts (argument_sorts f) (e ∷ es) → Answer defs env f (e ∷ es)) → Answers defs env (CallsFrom before f names)
  part_answers env names d part smaller_has name arguments s kids ds (inl c) m h = answers_of defs before complete env name arguments s kids ds c m h
  part_answers env names d part smaller_has name arguments s Done ds (inr c) m h = absurd c.3
  part_answers env names d part smaller_has name arguments s (More (At (Variable x a) Done) kids) ds (inr c) m h =
      let p = split m in
      let first : p.datum ≡ env.variables x = variable_datum p.first in
      let is_part : IsPart p.datum d = subst (λ e. IsPart e d) (sym first) (part x c.3) in
      let sorted : HaveSorts (argument_sorts f) (p.datum ∷ p.data') = subst (λ es. HaveSorts (argument_sorts f) es) p.is (subst (λ x. HaveSorts x ds) (sym c.1) h) in
      let answer : Answer defs env f ds = subst (Answer defs env f) (sym p.is) (smaller_has p.datum is_part p.data' sorted) in
      call_value defs env name arguments s (More (At (Variable x a) Done) kids) ds f (ap (fun_of defs.funs) c.0 ∙ found) c.2 m answer
  part_answers env names d part smaller_has name arguments s (More t kids) ds (inr c) m h = absurd c.3

  -- a term of the FUN, opened
  term_answer : (env : Env) (ds : List Datum) (scope : Scope) (calls : Calls) (o : Opened) → opened f ds ≡ Some o → Agree scope o.bindings → Fits defs.structs scope calls f.result o.term → Answers defs (inside env o.bindings) calls → Answer defs env f ds
  term_answer env ds scope calls o e agree fits answers =
      let v = value_of defs scope (inside env o.bindings) calls (suits_from scope env o.bindings agree) answers o.term fits.allowed f.result fits.sorted in
      record { open' = o; is = e; datum = v.0; means = v.1; sorted = v.2 }

  -- without cases
  whole_answer : (t : Plain) → f.body ≡ Whole t → BodyKeeps defs.structs before f (Whole t) → (env : Env) (ds : List Datum) → HaveSorts (argument_sorts f) ds → Answer defs env f ds
  whole_answer t b keeps env ds h =
      let arguments = bound f.arguments ds in
      term_answer env ds f.arguments (CallsFrom before f []) (record { bindings = arguments; term = t }) (ap (λ x. opened_by x ds arguments) b) (agree_bound f.arguments ds h) keeps.fits
      (part_answers (inside env arguments) [] (Number (pos 0)) (λ x i. absurd i) (λ e p es g. absurd p))

  -- a case, where the FUN has values at the parts of its first argument
  case_answer : (cases : List Case) → f.body ≡ ByCases cases → (s item : Sort) (d : Datum) (ds : List Datum) → ((p : Pattern) (own : Bindings) → parts p d ≡ Some own → Agree (pattern_scope p s item) own) → (env : Env) → HaveSorts (argument_sorts f) (d ∷ ds) → Choice defs.structs before f s item cases d (bound f.arguments (d ∷ ds)) → ((e : Datum) → IsPart e d → (env : Env) (es : List Datum) → HaveSorts (argument_sorts f) (e ∷ es) → Answer defs env f (e ∷ es)) → Answer defs env f (d ∷ ds)
  case_answer cases b s item d ds agree env h c smaller_has =
      let arguments = bound f.arguments (d ∷ ds) in
      let all = c.own ++ arguments in
      let p = c.case.pattern in
      term_answer env (d ∷ ds) (pattern_scope p s item ++ f.arguments) (CallsFrom before f (smaller p)) (record { bindings = all; term = c.case.term })
      (ap (λ x. opened_by x (d ∷ ds) arguments) b ∙ c.is)
      (agree_append (pattern_scope p s item) f.arguments c.own arguments (agree p c.own c.fits) (agree_bound f.arguments (d ∷ ds) h))
      c.keeps.term.fits
      (part_answers (inside env all) (smaller p) d (λ x i. smaller_is_part arguments p d c.own x c.keeps.names c.fits i) (λ e q es g. smaller_has e q (inside env all) es g))

  -- the FUN's first argument is of that sort
  abbrev FirstIs : Sort → Type 0
  FirstIs s = (d : Datum) (ds : List Datum) → HaveSorts (argument_sorts f) (d ∷ ds) → HasSort s d

  module _ (cases : List Case) (b : f.body ≡ ByCases cases) (item : Sort) where
    list_answer : OneEach OfNil OfCons cases → All (CaseKeeps defs.structs before f (list_sort item) item) cases → FirstIs (list_sort item) → (items : Data) (env : Env) (ds : List Datum) → HaveSorts (argument_sorts f) (Seq items ∷ ds) → Answer defs env f (Seq items ∷ ds)
    unfolding made_by
    list_answer each all first Empty env ds h =
        case_answer cases b (list_sort item) item (Seq Empty) ds (λ p own e. list_parts item p (Seq Empty) own (first (Seq Empty) ds h) e) env h
        (choose defs.structs before f (list_sort item) item (Seq Empty) (bound f.arguments (Seq Empty ∷ ds)) cases OfNil OfCons each all (λ e. cc) (inl refl))
        (λ e p v es g. absurd p)
    list_answer each all first (Item x rest) env ds h =
        let d = Seq (Item x rest) in
        case_answer cases b (list_sort item) item d ds (λ p own e. list_parts item p d own (first d ds h) e) env h
        (choose defs.structs before f (list_sort item) item d (bound f.arguments (d ∷ ds)) cases OfNil OfCons each all (λ e. cc) (inr refl))
        (λ e p v es g. subst (λ z. Answer defs v f (z ∷ es)) (sym p) (list_answer each all first rest v es (subst (λ z. HaveSorts (argument_sorts f) (z ∷ es)) p g)))

    tree_answer : OneEach OfLeaf OfNode cases → All (CaseKeeps defs.structs before f (tree_sort item) item) cases → FirstIs (tree_sort item) → (t : DataTree) (env : Env) (ds : List Datum) → HaveSorts (argument_sorts f) (Tree t ∷ ds) → Answer defs env f (Tree t ∷ ds)
    unfolding made_by
    tree_answer each all first Leaf env ds h =
        case_answer cases b (tree_sort item) item (Tree Leaf) ds (λ p own e. tree_parts item p (Tree Leaf) own (first (Tree Leaf) ds h) e) env h
        (choose defs.structs before f (tree_sort item) item (Tree Leaf) (bound f.arguments (Tree Leaf ∷ ds)) cases OfLeaf OfNode each all (λ e. cc) (inl refl))
        (λ e p v es g. absurd p)
    tree_answer each all first (Node l x r) env ds h =
        let d = Tree (Node l x r) in
        case_answer cases b (tree_sort item) item d ds (λ p own e. tree_parts item p d own (first d ds h) e) env h
        (choose defs.structs before f (tree_sort item) item d (bound f.arguments (d ∷ ds)) cases OfLeaf OfNode each all (λ e. cc) (inr refl))
        (λ e p v es g. ⊎_elim
        (λ q. subst (λ z. Answer defs v f (z ∷ es)) (sym q) (tree_answer each all first l v es (subst (λ z. HaveSorts (argument_sorts f) (z ∷ es)) q g)))
        (λ q. subst (λ z. Answer defs v f (z ∷ es)) (sym q) (tree_answer each all first r v es (subst (λ z. HaveSorts (argument_sorts f) (z ∷ es)) q g))) p)

  cases_answer : (cases : List Case) → f.body ≡ ByCases cases → (s : Sort) → CasesKeep defs.structs before f s cases → FirstIs s → (d : Datum) (env : Env) (ds : List Datum) → HasSort s d → HaveSorts (argument_sorts f) (d ∷ ds) → Answer defs env f (d ∷ ds)
  cases_answer cases b (ListOf' p (more_of-Sort a end_of-Sort)) keeps first (Seq items) env ds k h = list_answer cases b a keeps.0 keeps.1 first items env ds h
  cases_answer cases b (TreeOf' p (more_of-Sort a end_of-Sort)) keeps first (Tree t) env ds k h = tree_answer cases b a keeps.0 keeps.1 first t env ds h
  cases_answer cases b (ListOf' p (more_of-Sort a end_of-Sort)) keeps first d env ds k h = absurd k
  cases_answer cases b (TreeOf' p (more_of-Sort a end_of-Sort)) keeps first d env ds k h = absurd k
  cases_answer cases b Z keeps first d env ds k h = absurd keeps
  cases_answer cases b ValSort keeps first d env ds k h = absurd keeps
  cases_answer cases b (Prod' p x q y) keeps first d env ds k h = absurd keeps

  sorted_first : (scope : Scope) (a : List ℕ × Sort) (rest : Scope) → scope ≡ a ∷ rest → (d : Datum) (ds : List Datum) → HaveSorts (map (λ x. x.1) scope) (d ∷ ds) → HasSort a.1 d
  sorted_first scope a rest e d ds h =
      let k : HaveSorts (a.1 ∷ map (λ x. x.1) rest) (d ∷ ds) = subst (λ xs. HaveSorts (map (λ x. x.1) xs) (d ∷ ds)) e h in
      k.0

  by_cases_answer : (cases : List Case) → f.body ≡ ByCases cases → (scope : Scope) → f.arguments ≡ scope → FirstKeeps defs.structs before f scope cases → (env : Env) (ds : List Datum) → HaveSorts (argument_sorts f) ds → Answer defs env f ds
  by_cases_answer cases b [] e keeps env ds h = absurd keeps
  by_cases_answer cases b (a ∷ scope) e keeps env [] h =
      let none : HaveSorts (a.1 ∷ map (λ x. x.1) scope) [] = subst (λ xs. HaveSorts (map (λ x. x.1) xs) []) e h in
      absurd none
  by_cases_answer cases b (a ∷ scope) e keeps env (d ∷ ds) h =
      cases_answer cases b a.1 keeps (λ x xs g. sorted_first f.arguments a scope e x xs g) d env ds (sorted_first f.arguments a scope e d ds h) h

  pub body_answer : (body : Body) → f.body ≡ body → BodyKeeps defs.structs before f body → (env : Env) (ds : List Datum) → HaveSorts (argument_sorts f) ds → Answer defs env f ds
  body_answer (Whole t) b keeps env ds h = whole_answer t b keeps env ds h
  body_answer (ByCases cases) b keeps env ds h = by_cases_answer cases b f.arguments refl keeps env ds h
