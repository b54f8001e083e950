-- A term with a constructor at its head: its parts have values, and the patterns of its constructor alone fit its value.
use Rattle.std.proofs.Common.{◌≡◌, ℕ, Bool, true, false, List, [], ◌∷◌, Option, Some, None, refl, sym, ◌∙◌, ap, subst}
use Rattle.std.specs.Prelude.{◌&&◌, is_some, option_and_then}
use Rattle.floyd_tree_sorts.specs.declared.heads.Head.TheVariants as h
use Rattle.floyd_tree_sorts.specs.declared.operators.Operator.TheVariants as o
use Rattle.floyd_tree_sorts.specs.declared.sorts.Sort.{Sort}
use Rattle.floyd_tree_sorts.specs.Operators.{row}
use Rattle.floyd_tree_sorts.specs.Sorts.{item_sort, list_sort, node_sort, same_sort, tree_sort}
use Rattle.floyd_tree_sorts.specs.Table.{by_row, forms, found, s_in, sort_at, when}
use Rattle.floyd_tree_sorts.proofs.SortLemmas.{both_true, same_sort_true}
use Rattle.floyd_tree.specs.Plain as t
use Rattle.floyd_tree.specs.Plain.{At, Done, More, Plain, Plains, head_of, kids_of}
use Rattle.floyd_tree.specs.WellSorted.{sort_of, sorts_of, with_first}
use Rattle.floyd_tree_values.specs.BuiltIns.{Env}
use Rattle.floyd_tree_values.specs.Data as d
use Rattle.floyd_tree_values.specs.Data.{Data, DataTree, Datum, HasSort, Item, Seq, Tree, listed}
use Rattle.floyd_tree_values.specs.Funs.{parts}
use Rattle.floyd_tree_values.specs.Means.{AllMean, Defs, Means, built_in, more, none}
use Rattle.floyd_tree_values.specs.Rules.{AllAllowed, CallsOf, DefsKeep, Fits, Scope, Suits, pattern_scope}
use Rattle.floyd_tree_values.proofs.AllFuns.{a_value}
use Rattle.floyd_tree_values.proofs.OneValue.{applies, one_value}
use Rattle.floyd_assert_trees.specs.declared.pattern.Pattern.{Pattern}
use Rattle.floyd_assert_trees.specs.declared.pattern.Pattern.TheVariants.{Nil, Cons, Leaf, Node}
use Rattle.floyd_assert_trees.specs.Meanings.{pattern_of}
use Rattle.floyd_clauses.specs.Patterns.{is_of, named_parts}
use Rattle.floyd_clause_laws.proofs.Entries.{Entry, data_of, scope_of, terms_of}

-- ---- sorts of kids

pub and_then_some : (f : List Sort → Option Sort) (o : Option (List Sort)) (s : Sort) → option_and_then f o ≡ Some s → (ss : List Sort) × (o ≡ Some ss) × (f ss ≡ Some s)
and_then_some f (Some ss) s e = (ss, refl, e)
and_then_some f None s e = absurd cc

when_gives : (test : Bool) (a s : Sort) → when test a ≡ Some s → (test ≡ true) × (a ≡ s)
when_gives true a s e = (refl, cc)
when_gives false a s e = absurd cc

first_some : (o : Option Sort) (p : Option (List Sort)) (s : Sort) (ss : List Sort) → with_first o p ≡ Some (s ∷ ss) → (o ≡ Some s) × (p ≡ Some ss)
first_some (Some a) (Some rest) s ss e = (cc, cc)
first_some (Some a) None s ss e = absurd cc
first_some None p s ss e = absurd cc

pub record Kids (kids : Plains) (s : Sort) (ss : List Sort) : Type 0 where
  pub first : Plain
  pub rest : Plains
  pub are : kids ≡ More first rest
  pub sorted : sort_of first ≡ Some s
  pub others : sorts_of rest ≡ Some ss

pub kids_some : (kids : Plains) (s : Sort) (ss : List Sort) → sorts_of kids ≡ Some (s ∷ ss) → Kids kids s ss
kids_some Done s ss e = absurd cc
kids_some (More t ts) s ss e = let p = first_some (sort_of t) (sorts_of ts) s ss e in record { first = t; rest = ts; are = refl; sorted = p.0; others = p.1 }

pub no_more : (kids : Plains) → sorts_of kids ≡ Some [] → kids ≡ Done
no_more Done e = refl
no_more (More t ts) e = absurd (by (sort_of t) (sorts_of ts) e)
  where
    by : (a : Option Sort) (b : Option (List Sort)) → with_first a b ≡ Some [] → ⊥
    by (Some a) (Some b) e = cc
    by (Some a) None e = cc
    by None b e = cc

pub cons_row : (ss : List Sort) (s : Sort) → by_row (row o.Cons) ss ≡ Some s → (a : Sort) × (ss ≡ a ∷ list_sort a ∷ []) × (list_sort a ≡ s)
cons_row [] s e = absurd cc
cons_row (a ∷ []) s e = absurd cc
cons_row (a ∷ b ∷ []) s e =
    let w = when_gives (same_sort a a && same_sort (list_sort a) b) (list_sort a) s e in
    let k = both_true (same_sort a a) (same_sort (list_sort a) b) w.0 in
    (a, ap (λ x. a ∷ x ∷ []) (sym (same_sort_true (list_sort a) b k.1)), w.1)
cons_row (a ∷ b ∷ c ∷ ss) s e = absurd cc

pub node_row : (ss : List Sort) (s : Sort) → by_row (row o.Node) ss ≡ Some s → (a : Sort) × (ss ≡ tree_sort a ∷ a ∷ tree_sort a ∷ []) × (tree_sort a ≡ s)
node_row [] s e = absurd cc
node_row (a ∷ []) s e = absurd cc
node_row (a ∷ b ∷ []) s e = absurd cc
node_row (a ∷ b ∷ c ∷ []) s e =
    let i = found s_in (forms (row o.Node).takes) (a ∷ b ∷ c ∷ []) in
    let w = when_gives (same_sort (tree_sort i) a && (same_sort i b && same_sort (tree_sort i) c)) (tree_sort i) s e in
    let k = both_true (same_sort (tree_sort i) a) (same_sort i b && same_sort (tree_sort i) c) w.0 in
    let n = both_true (same_sort i b) (same_sort (tree_sort i) c) k.1 in
    (i, three a b c (tree_sort i) i (same_sort_true (tree_sort i) a k.0) (same_sort_true i b n.0) (same_sort_true (tree_sort i) c n.1), w.1)
  where
    three : (a b c x i : Sort) → x ≡ a → i ≡ b → x ≡ c → a ∷ b ∷ c ∷ [] ≡ x ∷ i ∷ x ∷ []
    three a b c x i p q r = cc
node_row (a ∷ b ∷ c ∷ x ∷ ss) s e = absurd cc

pub list_item : (a b : Sort) → list_sort a ≡ list_sort b → a ≡ b
list_item a b e = let same : Some a ≡ Some b = ap item_sort e in cc

pub tree_item : (a b : Sort) → tree_sort a ≡ tree_sort b → a ≡ b
tree_item a b e = let same : Some a ≡ Some b = ap node_sort e in cc

-- ---- data

a_seq : (s : Sort) (d : Datum) → HasSort (list_sort s) d → (items : Data) × (d ≡ Seq items)
a_seq s (Seq items) h = (items, refl)
a_seq s d h = absurd h

a_tree : (s : Sort) (d : Datum) → HasSort (tree_sort s) d → (t : DataTree) × (d ≡ Tree t)
a_tree s (Tree t) h = (t, refl)
a_tree s d h = absurd h

data_listed : (items : Data) → d.data_of (listed items) ≡ items
data_listed d.Empty = refl
data_listed (Item x items) = ap (Item x) (data_listed items)

-- the pattern of a constructor alone fits its data
nil_agrees : (s : Sort) (q : Pattern) → is_of q (h.Nil s) ≡ is_some (parts (pattern_of q) (Seq d.Empty))
nil_agrees s Nil = refl
nil_agrees s (Cons x r) = refl
nil_agrees s Leaf = refl
nil_agrees s (Node l x r) = refl

cons_agrees : (a : Datum) (items : Data) (q : Pattern) → is_of q (h.Operator o.Cons) ≡ is_some (parts (pattern_of q) (Seq (Item a items)))
cons_agrees a items Nil = refl
cons_agrees a items (Cons x r) = refl
cons_agrees a items Leaf = refl
cons_agrees a items (Node l x r) = refl

leaf_agrees : (s : Sort) (q : Pattern) → is_of q (h.Leaf s) ≡ is_some (parts (pattern_of q) (Tree d.Leaf))
leaf_agrees s Nil = refl
leaf_agrees s (Cons x r) = refl
leaf_agrees s Leaf = refl
leaf_agrees s (Node l x r) = refl

node_agrees : (a : DataTree) (b : Datum) (c : DataTree) (q : Pattern) → is_of q (h.Operator o.Node) ≡ is_some (parts (pattern_of q) (Tree (d.Node a b c)))
node_agrees a b c Nil = refl
node_agrees a b c (Cons x r) = refl
node_agrees a b c Leaf = refl
node_agrees a b c (Node l x r) = refl

-- ---- terms with a constructor

module _ (defs : Defs) (env : Env) where
  pub record Parted (q : Pattern) (t : Plain) (v : Datum) (s item : Sort) : Type 0 where
    pub entries : List (Entry defs env)
    pub terms : named_parts q (kids_of t) ≡ terms_of defs env entries
    pub data_is : parts (pattern_of q) v ≡ Some (data_of defs env entries)
    pub scope_is : pattern_scope (pattern_of q) s item ≡ scope_of defs env entries
    pub agree : (r : Pattern) → is_of r (head_of t) ≡ is_some (parts (pattern_of r) v)

  nil_parted : (x : Sort) (kids : Plains) (v : Datum) (s item : Sort) → Means defs env (At (h.Nil x) kids) v → Parted Nil (At (h.Nil x) kids) v s item
  nil_parted x kids v s item m =
      let p = applies {head = h.Nil x} refl m in
      record {
        entries = [];
        terms = refl;
        data_is = ap (parts (pattern_of Nil)) p.is;
        scope_is = refl;
        agree = λ r. nil_agrees x r ∙ ap (λ e. is_some (parts (pattern_of r) e)) (sym p.is);
      }

  leaf_parted : (x : Sort) (kids : Plains) (v : Datum) (s item : Sort) → Means defs env (At (h.Leaf x) kids) v → Parted Leaf (At (h.Leaf x) kids) v s item
  leaf_parted x kids v s item m =
      let p = applies {head = h.Leaf x} refl m in
      record {
        entries = [];
        terms = refl;
        data_is = ap (parts (pattern_of Leaf)) p.is;
        scope_is = refl;
        agree = λ r. leaf_agrees x r ∙ ap (λ e. is_some (parts (pattern_of r) e)) (sym p.is);
      }

  module _ (scope : Scope) (suits : Suits scope env) (keeps : DefsKeep defs) where
    abbrev pub Good : Sort → Plain → Type 0
    Good s t = Fits defs.structs scope (CallsOf defs.funs) s t

    cons_of : (item : Sort) (x r : List ℕ) (a b : Plain) (kids : Plains) (v : Datum) → kids ≡ More a (More b Done) → sort_of a ≡ Some item → sort_of b ≡ Some (list_sort item) → Good (list_sort item) (At (h.Operator o.Cons) kids) → Means defs env (At (h.Operator o.Cons) kids) v → Parted (Cons x r) (At (h.Operator o.Cons) kids) v (list_sort item) item
    cons_of item x r a b kids v are sa sb f m =
        let allowed = subst (AllAllowed defs.structs scope (CallsOf defs.funs)) are f.allowed.1 in
        let first = a_value defs scope env item a keeps suits (record { sorted = sa; allowed = allowed.0 }) in
        let rest = a_value defs scope env (list_sort item) b keeps suits (record { sorted = sb; allowed = allowed.1.0 }) in
        let seq = a_seq item rest.0 rest.2 in
        let mb : Means defs env b (Seq seq.0) = subst (Means defs env b) seq.1 rest.1 in
        let both : AllMean defs env kids (first.0 ∷ Seq seq.0 ∷ []) = subst (λ k. AllMean defs env k (first.0 ∷ Seq seq.0 ∷ [])) (sym are) (more first.1 (more mb none)) in
        let made : Means defs env (At (h.Operator o.Cons) kids) (Seq (Item first.0 (d.data_of (listed seq.0)))) = built_in {head = h.Operator o.Cons} {s = list_sort item} refl f.sorted both in
        let is : v ≡ Seq (Item first.0 seq.0) = one_value defs m (Seq (Item first.0 (d.data_of (listed seq.0)))) made ∙ ap (λ y. Seq (Item first.0 y)) (data_listed seq.0) in
        record {
          entries =
              record { name = x; term = a; datum = first.0; sort = item; mean = first.1 }
              ∷ record { name = r; term = b; datum = Seq seq.0; sort = list_sort item; mean = mb }
              ∷ [];
          terms = ap (λ k. named_parts (Cons x r) (t.listed k)) are;
          data_is = ap (parts (pattern_of (Cons x r))) is;
          scope_is = refl;
          agree = λ q. cons_agrees first.0 seq.0 q ∙ ap (λ e. is_some (parts (pattern_of q) e)) (sym is);
        }

    cons_parted : (item : Sort) (x r : List ℕ) (kids : Plains) (v : Datum) → Good (list_sort item) (At (h.Operator o.Cons) kids) → Means defs env (At (h.Operator o.Cons) kids) v → Parted (Cons x r) (At (h.Operator o.Cons) kids) v (list_sort item) item
    cons_parted item x r kids v f m =
        let s = and_then_some (sort_at (h.Operator o.Cons)) (sorts_of kids) (list_sort item) f.sorted in
        let c = cons_row s.0 (list_sort item) s.2 in
        let same : c.0 ≡ item = list_item c.0 item c.2 in
        let sorts : sorts_of kids ≡ Some (item ∷ list_sort item ∷ []) = s.1 ∙ ap Option.Some c.1 ∙ ap (λ a. Some (a ∷ list_sort a ∷ [])) same in
        let one = kids_some kids item (list_sort item ∷ []) sorts in
        let two = kids_some one.rest (list_sort item) [] one.others in
        let are : kids ≡ More one.first (More two.first Done) = one.are ∙ ap (More one.first) (two.are ∙ ap (More two.first) (no_more two.rest two.others)) in
        cons_of item x r one.first two.first kids v are one.sorted two.sorted f m

    node_of : (item : Sort) (l x r : List ℕ) (a b c : Plain) (kids : Plains) (v : Datum) → kids ≡ More a (More b (More c Done)) → sort_of a ≡ Some (tree_sort item) → sort_of b ≡ Some item → sort_of c ≡ Some (tree_sort item) → Good (tree_sort item) (At (h.Operator o.Node) kids) → Means defs env (At (h.Operator o.Node) kids) v → Parted (Node l x r) (At (h.Operator o.Node) kids) v (tree_sort item) item
    node_of item l x r a b c kids v are sa sb sc f m =
        let allowed = subst (AllAllowed defs.structs scope (CallsOf defs.funs)) are f.allowed.1 in
        let left = a_value defs scope env (tree_sort item) a keeps suits (record { sorted = sa; allowed = allowed.0 }) in
        let middle = a_value defs scope env item b keeps suits (record { sorted = sb; allowed = allowed.1.0 }) in
        let right = a_value defs scope env (tree_sort item) c keeps suits (record { sorted = sc; allowed = allowed.1.1.0 }) in
        let p = a_tree item left.0 left.2 in
        let q = a_tree item right.0 right.2 in
        let ma : Means defs env a (Tree p.0) = subst (Means defs env a) p.1 left.1 in
        let mc : Means defs env c (Tree q.0) = subst (Means defs env c) q.1 right.1 in
        let all : AllMean defs env kids (Tree p.0 ∷ middle.0 ∷ Tree q.0 ∷ []) = subst (λ k. AllMean defs env k (Tree p.0 ∷ middle.0 ∷ Tree q.0 ∷ [])) (sym are) (more ma (more middle.1 (more mc none))) in
        let made : Means defs env (At (h.Operator o.Node) kids) (Tree (d.Node p.0 middle.0 q.0)) = built_in {head = h.Operator o.Node} {s = tree_sort item} refl f.sorted all in
        let is : v ≡ Tree (d.Node p.0 middle.0 q.0) = one_value defs m (Tree (d.Node p.0 middle.0 q.0)) made in
        record {
          entries =
              record { name = l; term = a; datum = Tree p.0; sort = tree_sort item; mean = ma }
              ∷ record { name = x; term = b; datum = middle.0; sort = item; mean = middle.1 }
              ∷ record { name = r; term = c; datum = Tree q.0; sort = tree_sort item; mean = mc }
              ∷ [];
          terms = ap (λ k. named_parts (Node l x r) (t.listed k)) are;
          data_is = ap (parts (pattern_of (Node l x r))) is;
          scope_is = refl;
          agree = λ y. node_agrees p.0 middle.0 q.0 y ∙ ap (λ e. is_some (parts (pattern_of y) e)) (sym is);
        }

    node_parted : (item : Sort) (l x r : List ℕ) (kids : Plains) (v : Datum) → Good (tree_sort item) (At (h.Operator o.Node) kids) → Means defs env (At (h.Operator o.Node) kids) v → Parted (Node l x r) (At (h.Operator o.Node) kids) v (tree_sort item) item
    node_parted item l x r kids v f m =
        let s = and_then_some (sort_at (h.Operator o.Node)) (sorts_of kids) (tree_sort item) f.sorted in
        let c = node_row s.0 (tree_sort item) s.2 in
        let same : c.0 ≡ item = tree_item c.0 item c.2 in
        let sorts : sorts_of kids ≡ Some (tree_sort item ∷ item ∷ tree_sort item ∷ []) = s.1 ∙ ap Option.Some c.1 ∙ ap (λ a. Some (tree_sort a ∷ a ∷ tree_sort a ∷ [])) same in
        let one = kids_some kids (tree_sort item) (item ∷ tree_sort item ∷ []) sorts in
        let two = kids_some one.rest item (tree_sort item ∷ []) one.others in
        let three = kids_some two.rest (tree_sort item) [] two.others in
        let are : kids ≡ More one.first (More two.first (More three.first Done)) = one.are ∙ ap (More one.first) (two.are ∙ ap (More two.first) (three.are ∙ ap (More three.first) (no_more three.rest three.others))) in
        node_of item l x r one.first two.first three.first kids v are one.sorted two.sorted three.sorted f m

    no_node : (item : Sort) (kids : Plains) → Good (list_sort item) (At (h.Operator o.Node) kids) → ⊥
    no_node item kids f =
        let s = and_then_some (sort_at (h.Operator o.Node)) (sorts_of kids) (list_sort item) f.sorted in
        let c = node_row s.0 (list_sort item) s.2 in
        differ c.0 item c.2
      where
        differ : (a b : Sort) → tree_sort a ≡ list_sort b → ⊥
        differ a b e = cc

    no_cons : (item : Sort) (kids : Plains) → Good (tree_sort item) (At (h.Operator o.Cons) kids) → ⊥
    no_cons item kids f =
        let s = and_then_some (sort_at (h.Operator o.Cons)) (sorts_of kids) (tree_sort item) f.sorted in
        let c = cons_row s.0 (tree_sort item) s.2 in
        differ c.0 item c.2
      where
        differ : (a b : Sort) → list_sort a ≡ tree_sort b → ⊥
        differ a b e = cc

    -- of a list
    pub list_parted : (item : Sort) (q : Pattern) (t : Plain) (v : Datum) → is_of q (head_of t) ≡ true → Good (list_sort item) t → Means defs env t v → Parted q t v (list_sort item) item
    list_parted item Nil (At (h.Nil x) kids) v e f m = nil_parted x kids v (list_sort item) item m
    list_parted item Nil (At head kids) v e f m = absurd cc
    list_parted item (Cons x r) (At (h.Operator o.Cons) kids) v e f m = cons_parted item x r kids v f m
    list_parted item (Cons x r) (At head kids) v e f m = absurd cc
    list_parted item Leaf (At (h.Leaf x) kids) v e f m = leaf_parted x kids v (list_sort item) item m
    list_parted item Leaf (At head kids) v e f m = absurd cc
    list_parted item (Node l x r) (At (h.Operator o.Node) kids) v e f m = absurd (no_node item kids f)
    list_parted item (Node l x r) (At head kids) v e f m = absurd cc

    -- of a tree
    pub tree_parted : (item : Sort) (q : Pattern) (t : Plain) (v : Datum) → is_of q (head_of t) ≡ true → Good (tree_sort item) t → Means defs env t v → Parted q t v (tree_sort item) item
    tree_parted item Nil (At (h.Nil x) kids) v e f m = nil_parted x kids v (tree_sort item) item m
    tree_parted item Nil (At head kids) v e f m = absurd cc
    tree_parted item (Cons x r) (At (h.Operator o.Cons) kids) v e f m = absurd (no_cons item kids f)
    tree_parted item (Cons x r) (At head kids) v e f m = absurd cc
    tree_parted item Leaf (At (h.Leaf x) kids) v e f m = leaf_parted x kids v (tree_sort item) item m
    tree_parted item Leaf (At head kids) v e f m = absurd cc
    tree_parted item (Node l x r) (At (h.Operator o.Node) kids) v e f m = node_parted item l x r kids v f m
    tree_parted item (Node l x r) (At head kids) v e f m = absurd cc
