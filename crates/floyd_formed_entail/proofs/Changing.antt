-- Parts of memory that are well formed stay so with what is put in the place of variables.
use Rattle.std.proofs.Common.{◌≡◌, ℕ, suc, Bool, true, List, [], ◌∷◌, ◌++◌, map, length, Option, Some, None, refl, sym, ap, ◌∙◌}
use Rattle.std.specs.Prelude.{bytes_eq, option_and_then, option_map, ℤ}
use Rattle.std.specs.List.{AllByRecursion, flat_map}
use Rattle.std.specs.Map.{lookup}
use Rattle.floyd_ctypes.specs.Structs.{Structs, field_of}
use Rattle.floyd_ctypes.specs.declared.field.Field as C
use Rattle.floyd_tree_sorts.specs.declared.heads.Head.TheVariants.{Variable}
use Rattle.floyd_tree_sorts.specs.declared.shape.Shape.{Shape, Array', Struct, more_of-Shape, end_of-Shape}
use Rattle.floyd_tree_sorts.specs.declared.sorts.Sort.{Sort, Z, Val}
use Rattle.floyd_tree_sorts.specs.Heads.{is_variable}
use Rattle.floyd_tree.specs.declared.paths.PathStep.{PathStep}
use Rattle.floyd_tree.specs.declared.paths.PathStep.TheVariants.{Field, Subscript}
use Rattle.floyd_tree.specs.Plain.{Plain, Plains, At, Done, More, mentions, mentions_in}
use Rattle.floyd_tree.specs.Types.{SizedType}
use Rattle.floyd_tree_values.specs.Rules.{AllAllowed, CallsOf, EachAllowed, Scope}
use Rattle.floyd_truth.specs.Capture.{Becomes, Put, Called, Changes}
use Rattle.floyd_truth.specs.Replace.{AllSortsAgree, HasSortOf, SortsAgree, replaced}
use Rattle.floyd_truth.proofs.Fresh.{or_left, or_right}
use Rattle.floyd_truth.proofs.InChanged.{sort_after}
use Rattle.floyd_assert_trees.specs.declared.assertion.Local.{Local}
use Rattle.floyd_assert_trees.specs.declared.binder.Binder.{Binder}
use Rattle.floyd_assert_trees.specs.declared.items.Defs.{Defs}
use Rattle.floyd_assert_trees.specs.declared.sep.Region.{Region}
use Rattle.floyd_assert_trees.specs.declared.sep.Sep.{Sep}
use Rattle.floyd_assert_trees.specs.declared.sep.Sep.TheVariants.{FieldAt, Padding, Valid, Anything, Predicate}
use Rattle.floyd_assert_trees.specs.Meanings.{value_defs}
use Rattle.floyd_assert_changes.specs.Changed.{local_after, local_terms, part_after, part_terms, region_after, region_terms, step_after, step_terms}
use Rattle.floyd_assert_cells.specs.Types.{shape_of, sizes_of}
use Rattle.floyd_fieldpath.specs.Nested.{element_type, field_type, literal, sized_type, type_after, type_at}
use Rattle.floyd_goal_forms.specs.Assertions.{PartFits, PartsFit, PredicatesOf, RegionFits, StepFits}
use Rattle.floyd_goal_forms.specs.Terms.{TermFits, TermsFit}
use Rattle.floyd_formed_quantifiers.proofs.Leading.{Leads, LeadsBy, itself}
use Rattle.floyd_formed_quantifiers.proofs.Replacing.{term_formed}

-- ---- types at paths

module _ (structs : Structs) (changes : Changes) where
  abbrev pub type_changed : SizedType → SizedType
  type_changed t = record { shape = t.shape; sizes = map (replaced changes) t.sizes }

  literals_stay : (ns : List ℤ) → map (replaced changes) (map literal ns) ≡ map literal ns
  literals_stay [] = refl
  literals_stay (n ∷ ns) = ap (λ ts. literal n ∷ ts) (literals_stay ns)

  element_after : (shape : Shape) (sizes : List Plain) → element_type shape (map (replaced changes) sizes) ≡ option_map type_changed (element_type shape sizes)
  element_after (Array' p (more_of-Shape element end_of-Shape)) (n ∷ sizes) = refl
  element_after (Array' p (more_of-Shape element end_of-Shape)) [] = refl
  element_after shape sizes = refl

  field_after : (shape : Shape) (name : List ℕ) → field_type structs shape name ≡ option_map type_changed (field_type structs shape name)
  field_after (Struct tag) name = by (field_of structs tag name)
    where
      by : (o : Option C.Field) → option_map (λ (f : C.Field). sized_type f.ty) o ≡ option_map type_changed (option_map (λ (f : C.Field). sized_type f.ty) o)
      by None = refl
      by (Some f) = ap (λ ts. Some (record { shape = shape_of f.ty; sizes = ts })) (sym (literals_stay (sizes_of f.ty)))
  field_after shape name = refl

  step_typed : (t : SizedType) (step : PathStep) → type_after structs (type_changed t) (step_after changes step) ≡ option_map type_changed (type_after structs t step)
  step_typed t (Field name) = field_after t.shape name
  step_typed t (Subscript i) = element_after t.shape t.sizes

  pub path_typed : (t : SizedType) (path : List PathStep) → type_at structs (type_changed t) (map (step_after changes) path) ≡ option_map type_changed (type_at structs t path)
  path_typed t [] = refl
  path_typed t (step ∷ path) =
      ap (option_and_then (λ u. type_at structs u (map (step_after changes) path))) (step_typed t step) ∙ by (λ u. path_typed u path) (type_after structs t step)
    where
      by : ((u : SizedType) → type_at structs (type_changed u) (map (step_after changes) path) ≡ option_map type_changed (type_at structs u path)) → (o : Option SizedType) →
          option_and_then (λ u. type_at structs u (map (step_after changes) path)) (option_map type_changed o) ≡ option_map type_changed (option_and_then (λ u. type_at structs u path) o)
      by further None = refl
      by further (Some u) = further u

-- ---- lists

pub apart : {A : Type 0} (P : A → Type 0) (xs ys : List A) → AllByRecursion P (xs ++ ys) → AllByRecursion P xs × AllByRecursion P ys
apart P [] ys h = (tt, h)
apart P (x ∷ xs) ys h = let p = apart P xs ys h.1 in ((h.0, p.0), p.1)

as_many : {A B : Type 0} (f : A → B) (xs : List A) → length (map f xs) ≡ length xs
as_many f [] = refl
as_many f (x ∷ xs) = ap suc (as_many f xs)

pub names_stay : (changes : Changes) (ls : List Local) → map (λ (l : Local). l.name) (map (local_after changes) ls) ≡ map (λ (l : Local). l.name) ls
names_stay changes [] = refl
names_stay changes (l ∷ ls) = ap (λ ns. l.name ∷ ns) (names_stay changes ls)

-- ---- what is well formed, where each variable that is free in it is led to the new scope

module _ (defs : Defs) (changes : Changes) (old new : Scope) (free : List ℕ → Bool) (leads : (v : List ℕ) → free v ≡ true → Leads defs changes old new v) where
  abbrev pub IsInside : Plain → Type 0
  IsInside t = (v : List ℕ) → mentions v t ≡ true → free v ≡ true

  abbrev pub AreInside : List Plain → Type 0
  AreInside ts = AllByRecursion IsInside ts

  pub suits_by : (o : Option Becomes) (v : List ℕ) (s : Sort) → LeadsBy defs new o v s → HasSortOf o s
  suits_by (Some (Put t)) v s k = k.fits.sorted
  suits_by (Some (Called y)) v s k = tt
  suits_by None v s k = tt

  mutual
    sorts_agree : (t : Plain) → IsInside t → EachAllowed defs.structs old (CallsOf (value_defs defs).funs) t → SortsAgree changes t
    sorts_agree (At (Variable x s) ts) k a =
        (suits_by (lookup (bytes_eq x) changes) x s (leads x (k x (or_left (bytes_eq x x) (mentions_in x ts) (itself x))) s a.0), all_agree ts (λ v i. k v (or_right (bytes_eq v x) (mentions_in v ts) i)) a.1)
    sorts_agree (At head ts) k a = (tt, all_agree ts (λ v i. k v (or_right (is_variable v head) (mentions_in v ts) i)) a.1)

    all_agree : (ts : Plains) → ((v : List ℕ) → mentions_in v ts ≡ true → free v ≡ true) → AllAllowed defs.structs old (CallsOf (value_defs defs).funs) ts → AllSortsAgree changes ts
    all_agree Done k a = tt
    all_agree (More t ts) k a =
        (sorts_agree t (λ v i. k v (or_left (mentions v t) (mentions_in v ts) i)) a.0, all_agree ts (λ v i. k v (or_right (mentions v t) (mentions_in v ts) i)) a.1)

  pub term_changed : (s : Sort) (t : Plain) → IsInside t → TermFits defs old s t → TermFits defs new s (replaced changes t)
  term_changed s t k h =
      let p = term_formed defs changes old new t (λ v i. leads v (k v i)) h.fits.allowed h.known in
      record { fits = record { sorted = sort_after changes t s h.fits.sorted (sorts_agree t k h.fits.allowed); allowed = p.0 }; known = p.1 }

  terms_changed : (sorts : List Sort) (ts : List Plain) → AreInside ts → TermsFit defs old sorts ts → TermsFit defs new sorts (map (replaced changes) ts)
  terms_changed [] [] k h = tt
  terms_changed [] (t ∷ ts) k h = absurd h
  terms_changed (s ∷ sorts) [] k h = absurd h
  terms_changed (s ∷ sorts) (t ∷ ts) k h = (term_changed s t k.0 h.0, terms_changed sorts ts k.1 h.1)

  sizes_changed : (ts : List Plain) → AreInside ts → AllByRecursion (TermFits defs old Z) ts → AllByRecursion (TermFits defs new Z) (map (replaced changes) ts)
  sizes_changed [] k h = tt
  sizes_changed (t ∷ ts) k h = (term_changed Z t k.0 h.0, sizes_changed ts k.1 h.1)

  steps_changed : (path : List PathStep) → AreInside (flat_map step_terms path) → AllByRecursion (StepFits defs old) path → AllByRecursion (StepFits defs new) (map (step_after changes) path)
  steps_changed [] k h = tt
  steps_changed (Field x ∷ path) k h = (tt, steps_changed path k h.1)
  steps_changed (Subscript t ∷ path) k h = (term_changed Z t k.0 h.0, steps_changed path k.1 h.1)

  abbrev region_changed : (r : Region) → AreInside (region_terms r) → RegionFits defs old r → RegionFits defs new (region_after changes r)
  region_changed r k h =
      let p = apart IsInside r.ty.sizes (flat_map step_terms r.path ++ r.root ∷ []) k.1 in
      let q = apart IsInside (flat_map step_terms r.path) (r.root ∷ []) p.1 in
      record {
        share = term_changed Z r.share k.0 h.share;
        type = record {
          sizes = record { count = as_many (replaced changes) r.ty.sizes ∙ h.type.sizes.count; sizes = sizes_changed r.ty.sizes p.0 h.type.sizes.sizes };
          sort = h.type.sort;
        };
        steps = steps_changed r.path q.0 h.steps;
        nested = type_changed defs.structs changes h.nested;
        at = path_typed defs.structs changes r.ty r.path ∙ ap (option_map (type_changed defs.structs changes)) h.at;
        root = term_changed Val r.root q.1.0 h.root;
      }

  part_changed : (p : Sep) → AreInside (part_terms p) → PartFits defs old (PredicatesOf defs old) p → PartFits defs new (PredicatesOf defs new) (part_after changes p)
  part_changed (FieldAt r value) k h =
      let q = apart IsInside (region_terms r) (value ∷ []) k in
      record { region = region_changed r q.0 h.region; sort = h.sort; is = h.is; term = term_changed h.sort value q.1.0 h.term }
  part_changed (Padding r) k h = (region_changed r k h.0, h.1)
  part_changed (Valid t) k h = term_changed Val t k.0 h
  part_changed Anything k h = tt
  part_changed (Predicate name terms) k h = (h.0, h.1, terms_changed (map (λ (b : Binder). b.sort) h.0.arguments) terms k h.2)

  pub parts_changed : (ps : List Sep) → AreInside (flat_map part_terms ps) → PartsFit defs old (PredicatesOf defs old) ps → PartsFit defs new (PredicatesOf defs new) (map (part_after changes) ps)
  parts_changed [] k h = tt
  parts_changed (p ∷ ps) k h =
      let q = apart IsInside (part_terms p) (flat_map part_terms ps) k in
      (part_changed p q.0 h.0, parts_changed ps q.1 h.1)

  pub locals_changed : (ls : List Local) → AreInside (local_terms ls) → AllByRecursion (λ (l : Local). TermFits defs old Val l.term) ls → AllByRecursion (λ (l : Local). TermFits defs new Val l.term) (map (local_after changes) ls)
  locals_changed [] k h = tt
  locals_changed (l ∷ ls) k h = (term_changed Val l.term k.0 h.0, locals_changed ls k.1 h.1)
