-- A linked program has what the proofs of each module stand on.
use Rattle.std.proofs.Common.{◌≡◌, ◌⊎◌, inl, inr, ℕ, ◌+◌, Bool, true, false, cond, List, [], ◌∷◌, ◌++◌, map, Option, Some, None, refl, sym, ap, subst, ◌∙◌}
use Rattle.std.specs.Prelude.{bytes_eq, find, is_some}
use Rattle.std.specs.List.{AllByRecursion}
use Rattle.std.specs.Map.{lookup}
use Rattle.std.proofs.lemmas.Slice.Eq.{bytes_eq-Decides}
use Rattle.floyd_clight.specs.declared.unit.Defined.{Defined}
use Rattle.floyd_clight_machine.specs.Looking.{Ident}
use Rattle.floyd_tree_values.specs.Funs as values
use Rattle.floyd_tree_values.specs.Rules.{AllKeep, DefsKeep}
use Rattle.floyd_assert_trees.specs.declared.items.Fun.{Fun}
use Rattle.floyd_assert_trees.specs.declared.items.Pred.{Pred}
use Rattle.floyd_assert_trees.specs.declared.spec.Funspec.{Funspec}
use Rattle.floyd_assert_trees.specs.Meanings.{fun_of, value_defs}
use Rattle.floyd_assert_meaning.specs.Same.{SameFunspec}
use Rattle.floyd_goal_forms.specs.Items.{PredsFit}
use Rattle.floyd_assert_trees.specs.declared.items.Defs.{Defs}
use Rattle.floyd_assert_trees.specs.declared.spec.SpecTable.{SpecTable}
use Rattle.floyd_goal_meaning.specs.declared.linked.Linked.{Linked}
use Rattle.floyd_goal_meaning.specs.declared.linked.LinkedFunction.{LinkedFunction}
use Rattle.floyd_goal_meaning.specs.declared.linked.Module.{Module}
use Rattle.floyd_goal_meaning.specs.Links.{Has, named}
use Rattle.floyd_goal_meaning.specs.Programs.{defs_of, funs_of, linked_function, preds_of}
use Rattle.floyd_links.specs.Laws.{BodiesAreDeclared}
use Rattle.floyd_links.specs.Links.{Agree, AllAgree, IsDeclaredBy, IsImportBy, IsNamed, Links, ModuleLinks, ModulesLink, OwnLinks, SpecLinks}
use Rattle.floyd_links.proofs.FunUnions.{keep_apart, union_keep}
use Rattle.floyd_links.proofs.Unions as u

-- ---- tables as lists of named items

abbrev fun_items : Module → List values.Fun
fun_items m = (value_defs m.defs).funs

abbrev fun_name : values.Fun → List ℕ
fun_name f = f.name

abbrev pub pred_items : Module → List (List ℕ × Pred)
pred_items m = m.defs.preds

abbrev pub pred_name : List ℕ × Pred → List ℕ
pred_name p = p.0

in_table : (table : List (List ℕ × Fun)) (x : List ℕ) (a : values.Fun) → u.named fun_name (map fun_of table) x ≡ Some a → (f : Fun) × (lookup (bytes_eq x) table ≡ Some f) × (fun_of (x, f) ≡ a)
in_table [] x a e = absurd cc
in_table (p ∷ table) x a e = by (in_table table x a) (bytes_eq x p.0) refl e
  where
    by : (u.named fun_name (map fun_of table) x ≡ Some a → (f : Fun) × (lookup (bytes_eq x) table ≡ Some f) × (fun_of (x, f) ≡ a)) → (t : Bool) → bytes_eq x p.0 ≡ t → cond t (Some (fun_of p)) (u.named fun_name (map fun_of table) x) ≡ Some a → (f : Fun) × (cond (bytes_eq x p.0) (Some p.1) (lookup (bytes_eq x) table) ≡ Some f) × (fun_of (x, f) ≡ a)
    by go true i q =
        let same : fun_of p ≡ a = cc in
        (p.1, ap (λ t. cond t (Some p.1) (lookup (bytes_eq x) table)) i, ap (λ y. fun_of (y, p.1)) ((bytes_eq-Decides x p.0).0 i) ∙ same)
    by go false i q = let r = go q in (r.0, ap (λ t. cond t (Some p.1) (lookup (bytes_eq x) table)) i ∙ r.1, r.2)

pub pair_in : (table : List (List ℕ × Pred)) (x : List ℕ) (a : List ℕ × Pred) → u.named pred_name table x ≡ Some a → (lookup (bytes_eq x) table ≡ Some a.1) × (x ≡ a.0)
pair_in [] x a e = absurd cc
pair_in (p ∷ table) x a e = by (pair_in table x a) (bytes_eq x p.0) refl e
  where
    by : (u.named pred_name table x ≡ Some a → (lookup (bytes_eq x) table ≡ Some a.1) × (x ≡ a.0)) → (t : Bool) → bytes_eq x p.0 ≡ t → cond t (Some p) (u.named pred_name table x) ≡ Some a → (cond (bytes_eq x p.0) (Some p.1) (lookup (bytes_eq x) table) ≡ Some a.1) × (x ≡ a.0)
    by go true i q =
        let same : p ≡ a = cc in
        (ap (λ t. cond t (Some p.1) (lookup (bytes_eq x) table)) i ∙ ap (λ (r : List ℕ × Pred). Option.Some r.1) same, (bytes_eq-Decides x p.0).0 i ∙ ap (λ (r : List ℕ × Pred). r.0) same)
    by go false i q = let r = go q in (ap (λ t. cond t (Some p.1) (lookup (bytes_eq x) table)) i ∙ r.0, r.1)

pub pair_of : (table : List (List ℕ × Pred)) (x : List ℕ) (p : Pred) → lookup (bytes_eq x) table ≡ Some p → (a : List ℕ × Pred) × (u.named pred_name table x ≡ Some a) × (a.1 ≡ p)
pair_of [] x p e = absurd cc
pair_of (q ∷ table) x p e = by (pair_of table x p) (bytes_eq x q.0) refl e
  where
    by : (lookup (bytes_eq x) table ≡ Some p → (a : List ℕ × Pred) × (u.named pred_name table x ≡ Some a) × (a.1 ≡ p)) → (t : Bool) → bytes_eq x q.0 ≡ t → cond t (Some q.1) (lookup (bytes_eq x) table) ≡ Some p → (a : List ℕ × Pred) × (cond (bytes_eq x q.0) (Some q) (u.named pred_name table x) ≡ Some a) × (a.1 ≡ p)
    by go true i r = (q, ap (λ t. cond t (Some q) (u.named pred_name table x)) i, cc)
    by go false i r = let s = go r in (s.0, ap (λ t. cond t (Some q) (u.named pred_name table x)) i ∙ s.1, s.2)

-- ---- modules agree

funs_alike : (m n : Module) → Agree m n → u.Alike fun_name (fun_items m) (fun_items n)
funs_alike m n k x a b e q =
    let f = in_table m.defs.funs x a e in
    let g = in_table n.defs.funs x b q in
    sym f.2 ∙ ap (λ h. fun_of (x, h)) (k.funs x f.0 g.0 f.1 g.1) ∙ g.2

same_pair : (a b : List ℕ × Pred) → a.0 ≡ b.0 → a.1 ≡ b.1 → a ≡ b
same_pair a b e q = ap (λ x. (x, a.1)) e ∙ ap (λ p. (b.0, p)) q

preds_alike : (m n : Module) → Agree m n → u.Alike pred_name (pred_items m) (pred_items n)
preds_alike m n k x a b e q =
    let p = pair_in m.defs.preds x a e in
    let r = pair_in n.defs.preds x b q in
    same_pair a b (sym p.1 ∙ r.1) (k.preds x a.1 b.1 p.0 r.0)

all_alike : {A : Type 0} (name : A → List ℕ) (items : Module → List A) → ((m n : Module) → Agree m n → u.Alike name (items m) (items n)) → (modules : List Module) → AllAgree modules → u.AllAlike name items modules
all_alike name items k [] h = tt
all_alike name items k (m ∷ modules) h = (one modules h.0, all_alike name items k modules h.1)
  where
    one : (others : List Module) → AllByRecursion (Agree m) others → AllByRecursion (λ n. u.Alike name (items m) (items n)) others
    one [] q = tt
    one (n ∷ others) q = (k m n q.0, one others q.1)

-- ---- names are new in each module

pred_clash : (o : Option Pred) (p : Pred) → o ≡ None → o ≡ Some p → ⊥
pred_clash o p e q = absurd cc

lookup_append : (before more : List (List ℕ × Pred)) (x : List ℕ) (p : Pred) → lookup (bytes_eq x) before ≡ Some p → lookup (bytes_eq x) (before ++ more) ≡ Some p
lookup_append [] more x p e = absurd cc
lookup_append (q ∷ before) more x p e = by (lookup_append before more x p) (bytes_eq x q.0) refl e
  where
    by : (lookup (bytes_eq x) before ≡ Some p → lookup (bytes_eq x) (before ++ more) ≡ Some p) → (t : Bool) → bytes_eq x q.0 ≡ t → cond t (Some q.1) (lookup (bytes_eq x) before) ≡ Some p → cond (bytes_eq x q.0) (Some q.1) (lookup (bytes_eq x) (before ++ more)) ≡ Some p
    by go true i r = ap (λ t. cond t (Some q.1) (lookup (bytes_eq x) (before ++ more))) i ∙ r
    by go false i r = ap (λ t. cond t (Some q.1) (lookup (bytes_eq x) (before ++ more))) i ∙ go r

lookup_last : (before : List (List ℕ × Pred)) (p : List ℕ × Pred) → (q : Pred) × (lookup (bytes_eq p.0) (before ++ p ∷ []) ≡ Some q)
lookup_last [] p = (p.1, ap (λ t. cond t (Some p.1) None) ((bytes_eq-Decides p.0 p.0).1 refl))
lookup_last (b ∷ before) p = by (lookup_last before p) (bytes_eq p.0 b.0) refl
  where
    by : ((q : Pred) × (lookup (bytes_eq p.0) (before ++ p ∷ []) ≡ Some q)) → (t : Bool) → bytes_eq p.0 b.0 ≡ t → (q : Pred) × (cond (bytes_eq p.0 b.0) (Some b.1) (lookup (bytes_eq p.0) (before ++ p ∷ [])) ≡ Some q)
    by go true i = (b.1, ap (λ t. cond t (Some b.1) (lookup (bytes_eq p.0) (before ++ p ∷ []))) i)
    by go false i = let r = go in (r.0, ap (λ t. cond t (Some b.1) (lookup (bytes_eq p.0) (before ++ p ∷ []))) i ∙ r.1)

none_behind : (defs : Defs) (specs : SpecTable) (before preds : List (List ℕ × Pred)) (x : List ℕ) (q : Pred) → PredsFit defs specs before preds → lookup (bytes_eq x) before ≡ Some q → u.named pred_name preds x ≡ None
none_behind defs specs before [] x q h e = refl
none_behind defs specs before (p ∷ preds) x q h e = by (none_behind defs specs (before ++ p ∷ []) preds x q h.1) (bytes_eq x p.0) refl
  where
    by : (lookup (bytes_eq x) (before ++ p ∷ []) ≡ Some q → u.named pred_name preds x ≡ None) → (t : Bool) → bytes_eq x p.0 ≡ t → cond (bytes_eq x p.0) (Some p) (u.named pred_name preds x) ≡ None
    by go true i = absurd (pred_clash (lookup (bytes_eq p.0) before) q h.0.name (ap (λ y. lookup (bytes_eq y) before) (sym ((bytes_eq-Decides x p.0).0 i)) ∙ e))
    by go false i = ap (λ t. cond t (Some p) (u.named pred_name preds x)) i ∙ go (lookup_append before (p ∷ []) x q e)

preds_apart : (defs : Defs) (specs : SpecTable) (before preds : List (List ℕ × Pred)) → PredsFit defs specs before preds → u.Apart pred_name preds
preds_apart defs specs before [] h = tt
preds_apart defs specs before (p ∷ preds) h =
    let l = lookup_last before p in
    (none_behind defs specs (before ++ p ∷ []) preds p.0 l.0 h.1 l.1, preds_apart defs specs (before ++ p ∷ []) preds h.1)

-- ---- each module

module _ (L : Linked) where
  keep_each : (number : ℕ) (modules : List Module) → ModulesLink L number modules → AllByRecursion (λ m. AllKeep L.structs [] (fun_items m)) modules
  keep_each number [] h = tt
  keep_each number (m ∷ modules) h = (subst (λ structs. AllKeep structs [] (fun_items m)) h.0.structs h.0.items.funs, keep_each (number + 1) modules h.1)

  apart_funs : (modules : List Module) → AllByRecursion (λ m. AllKeep L.structs [] (fun_items m)) modules → AllByRecursion (λ m. u.Apart fun_name (fun_items m)) modules
  apart_funs [] h = tt
  apart_funs (m ∷ modules) h = (keep_apart L.structs [] (fun_items m) h.0, apart_funs modules h.1)

  pub apart_preds : (number : ℕ) (modules : List Module) → ModulesLink L number modules → AllByRecursion (λ m. u.Apart pred_name (pred_items m)) modules
  apart_preds number [] h = tt
  apart_preds number (m ∷ modules) h = (preds_apart m.defs m.specs [] m.defs.preds h.0.items.preds, apart_preds (number + 1) modules h.1)

  pub rules_keep : Links L → DefsKeep (defs_of L)
  rules_keep links =
      union_keep L.structs fun_items [] L.modules tt (keep_each 0 L.modules links.modules) (u.none_alike fun_name fun_items L.modules) (all_alike fun_name fun_items funs_alike L.modules links.agree)

  -- what each module holds, the program has
  abbrev HasFuns : Module → Type 0
  HasFuns m = (x : List ℕ) (f : values.Fun) → u.named fun_name (fun_items m) x ≡ Some f → u.named fun_name (funs_of L) x ≡ Some f

  abbrev HasPreds : Module → Type 0
  HasPreds m = (x : List ℕ) (p : List ℕ × Pred) → u.named pred_name (pred_items m) x ≡ Some p → u.named pred_name (preds_of L) x ≡ Some p

  has_funs : Links L → AllByRecursion HasFuns L.modules
  has_funs links =
      u.union_has fun_name fun_items [] L.modules (apart_funs L.modules (keep_each 0 L.modules links.modules)) (u.none_alike fun_name fun_items L.modules) (all_alike fun_name fun_items funs_alike L.modules links.agree)

  has_preds : Links L → AllByRecursion HasPreds L.modules
  has_preds links =
      u.union_has pred_name pred_items [] L.modules (apart_preds 0 L.modules links.modules) (u.none_alike pred_name pred_items L.modules) (all_alike pred_name pred_items preds_alike L.modules links.agree)

  -- ---- the SPECs of own specifications

  abbrev SameItem : Module → Funspec → Type 0
  SameItem m own = (name : List ℕ) (item : Funspec) → own.name ≡ Some name → lookup (bytes_eq name) m.specs.items ≡ Some item → SameFunspec own (named name item)

  -- from the module that declares it to one that holds the SPEC
  to_other : (m n : Module) (own : Funspec) → ((x : List ℕ) (s t : Funspec) → lookup (bytes_eq x) m.specs.items ≡ Some s → lookup (bytes_eq x) n.specs.items ≡ Some t → s ≡ t) → IsNamed m own → SameItem n own
  to_other m n own k h name item e q =
      let p = h name e in
      subst (λ i. SameFunspec own (named name i)) (k name p.0 item p.1 q) p.2

  itself_agrees : (m : Module) (x : List ℕ) (s t : Funspec) → lookup (bytes_eq x) m.specs.items ≡ Some s → lookup (bytes_eq x) m.specs.items ≡ Some t → s ≡ t
  itself_agrees m x s t e q = cc

  -- the declaring module is one of the list; the other may be any that agrees with all
  abbrev AgreesWith : Module → List Module → Type 0
  AgreesWith n modules = AllByRecursion (λ m. (x : List ℕ) (s t : Funspec) → lookup (bytes_eq x) m.specs.items ≡ Some s → lookup (bytes_eq x) n.specs.items ≡ Some t → s ≡ t) modules

  declared_same : (n : Module) (f : Ident) (own : Funspec) (number : ℕ) (modules : List Module) → ModulesLink L number modules → AgreesWith n modules → IsDeclaredBy f own modules → SameItem n own
  declared_same n f own number [] h k d = absurd d
  declared_same n f own number (m ∷ modules) h k (inl e) = to_other m n own k.0 (h.0.named f own e.0)
  declared_same n f own number (m ∷ modules) h k (inr d) = declared_same n f own (number + 1) modules h.1 k.1 d

  -- each module of a list agrees with all of it, if all agree in pairs
  before_agrees : (n : Module) (modules : List Module) → AllByRecursion (Agree n) modules → AgreesWith n modules
  before_agrees n [] h = tt
  before_agrees n (m ∷ modules) h = (λ x s t e q. sym (h.0.specs x t s q e), before_agrees n modules h.1)

  with_first : (m : Module) (modules others : List Module) → AllByRecursion (Agree m) modules → AllByRecursion (λ n. AgreesWith n others) modules → AllByRecursion (λ n. AgreesWith n (m ∷ others)) modules
  with_first m [] others h k = tt
  with_first m (n ∷ modules) others h k = ((h.0.specs, k.0), with_first m modules others h.1 k.1)

  all_agree_with : (modules : List Module) → AllAgree modules → AllByRecursion (λ n. AgreesWith n modules) modules
  all_agree_with [] h = tt
  all_agree_with (m ∷ modules) h = ((itself_agrees m, before_agrees m modules h.0), with_first m modules modules h.0 (all_agree_with modules h.1))

  -- ---- functions by name

  pub name_found : (functions : List LinkedFunction) (f : Ident) (g : LinkedFunction) → find (λ (h : LinkedFunction). bytes_eq f h.name) functions ≡ Some g → (f ≡ g.name)
  name_found [] f g e = absurd cc
  name_found (h ∷ functions) f g e = by (name_found functions f g) (bytes_eq f h.name) refl e
    where
      by : (find (λ (k : LinkedFunction). bytes_eq f k.name) functions ≡ Some g → f ≡ g.name) → (t : Bool) → bytes_eq f h.name ≡ t → cond t (Some h) (find (λ (k : LinkedFunction). bytes_eq f k.name) functions) ≡ Some g → f ≡ g.name
      by go true i q = let same : h ≡ g = cc in (bytes_eq-Decides f h.name).0 i ∙ ap (λ (k : LinkedFunction). k.name) same
      by go false i q = go q

  -- each of the functions, by its name
  pub each_found : (P : LinkedFunction → Type 0) (functions : List LinkedFunction) (f : Ident) (g : LinkedFunction) → AllByRecursion P functions → find (λ (h : LinkedFunction). bytes_eq f h.name) functions ≡ Some g → P g
  each_found P [] f g k e = absurd cc
  each_found P (h ∷ functions) f g k e = by (each_found P functions f g k.1) (bytes_eq f h.name) e
    where
      by : (find (λ (k : LinkedFunction). bytes_eq f k.name) functions ≡ Some g → P g) → (t : Bool) → cond t (Some h) (find (λ (k : LinkedFunction). bytes_eq f k.name) functions) ≡ Some g → P g
      by go true q = let same : h ≡ g = cc in subst P same k.0
      by go false q = go q

  -- ---- all together

  there : (o : Option Funspec) → is_some o ≡ true → (own : Funspec) × (o ≡ Some own)
  there (Some own) e = (own, refl)
  there None e = absurd cc

  own_name : (m : Module) (f : Ident) (spec own : Funspec) (name : List ℕ) → spec.name ≡ Some name → SameFunspec own spec ⊎ IsImportBy m f spec own → own.name ≡ Some name
  own_name m f spec own name e (inl same) = same.name ∙ e
  own_name m f spec own name e (inr by) = absurd (none_some spec.name name by.unnamed e)
    where
      none_some : (o : Option (List ℕ)) (x : List ℕ) → o ≡ None → o ≡ Some x → ⊥
      none_some o x p q = absurd cc

  -- a function to which a module gives a specification has one of its own
  owns : (g : LinkedFunction) → ((d : Defined) → g.body ≡ Some d → is_some g.own ≡ true) → (g.body ≡ None → is_some g.own ≡ true) → (own : Funspec) × (g.own ≡ Some own)
  owns g with without = by g.body refl
    where
      by : (o : Option Defined) → g.body ≡ o → (own : Funspec) × (g.own ≡ Some own)
      by None e = there g.own (without e)
      by (Some d) e = there g.own (with d e)

  pub own_of : BodiesAreDeclared L → (m : Module) (f : Ident) (spec : Funspec) → SpecLinks L m f spec → (g : LinkedFunction) → linked_function L f ≡ Some g → (own : Funspec) × (g.own ≡ Some own) × (SameFunspec own spec ⊎ IsImportBy m f spec own)
  own_of k m f spec s g i =
      let same : s.function ≡ g = cc (s.is, i) in
      let own = owns g (each_found (λ (h : LinkedFunction). (d : Defined) → h.body ≡ Some d → is_some h.own ≡ true) L.functions f g k i)
      (λ e. ap (λ (h : LinkedFunction). is_some h.own) (sym same) ∙ s.external (ap (λ (h : LinkedFunction). h.body) same ∙ e)) in
      (own.0, own.1, s.own own.0 (ap (λ (h : LinkedFunction). h.own) same ∙ own.1))

  is_declared : BodiesAreDeclared L → (m : Module) (number : ℕ) → ModuleLinks L number m → (f : Ident) (g : LinkedFunction) (spec : Funspec) (name : List ℕ) → lookup (bytes_eq f) m.specs.functions ≡ Some spec → spec.name ≡ Some name → linked_function L f ≡ Some g → (own : Funspec) × (g.own ≡ Some own) × (own.name ≡ Some name)
  is_declared k m number h f g spec name e q i =
      let own = own_of k m f spec (h.specs f spec e) g i in
      (own.0, own.1, own_name m f spec own.0 name q own.2)

  has_one : (m : Module) (number : ℕ) → Links L → ModuleLinks L number m → BodiesAreDeclared L → HasFuns m → HasPreds m → AgreesWith m L.modules → Has L m.defs m.specs
  has_one m number links h k funs preds agrees = record {
    rules = rules_keep links;
    structs = sym h.structs;
    globals = λ x e. (h.globals x).0 e;
    funs = λ x f e. funs x f e;
    preds = λ x p e.
        let a = pair_of m.defs.preds x p e in
        (pair_in (preds_of L) x a.0 (preds x a.0 a.1)).0 ∙ ap Option.Some a.2;
    functions = λ f spec e. let s = h.specs f spec e in (s.function, s.is, s.types);
    declared = is_declared k m number h;
    items = λ f g own item name e o n i.
        declared_same m g.name own 0 L.modules links.modules agrees (each_found (OwnLinks L) L.functions f g links.own e own o) name item n i;
  }

  pub all_have : (number : ℕ) (modules : List Module) → Links L → ModulesLink L number modules → BodiesAreDeclared L → AllByRecursion HasFuns modules → AllByRecursion HasPreds modules → AllByRecursion (λ m. AgreesWith m L.modules) modules → AllByRecursion (λ (m : Module). Has L m.defs m.specs) modules
  all_have number [] links h k f p a = tt
  all_have number (m ∷ modules) links h k f p a = (has_one m number links h.0 k f.0 p.0 a.0, all_have (number + 1) modules links h.1 k f.1 p.1 a.1)

  pub links_have : Links L → BodiesAreDeclared L → AllByRecursion (λ (m : Module). Has L m.defs m.specs) L.modules
  links_have links own = all_have 0 L.modules links links.modules own (has_funs links) (has_preds links) (all_agree_with L.modules links.agree)
