-- An assertion is well formed with what a map of terms makes of its terms, where each of these keeps its sort.
use Rattle.std.proofs.Common.{◌≡◌, ℕ, suc, List, [], ◌∷◌, ◌++◌, map, length, Option, Some, None, refl, sym, ap, subst, ◌∙◌, arith}
use Rattle.std.specs.Prelude.{option_and_then}
use Rattle.std.specs.List.{AllByRecursion, flat_map}
use Rattle.floyd_ctypes.specs.Structs.{Structs}
use Rattle.floyd_tree_sorts.specs.declared.shape.Shape.{Shape, Array', more_of-Shape, end_of-Shape}
use Rattle.floyd_tree_sorts.specs.declared.sorts.Sort.{Sort, Z, Val}
use Rattle.floyd_tree.specs.declared.paths.PathStep.{PathStep}
use Rattle.floyd_tree.specs.declared.paths.PathStep.TheVariants.{Field, Subscript}
use Rattle.floyd_tree.specs.Formulas.{PlainFormula}
use Rattle.floyd_tree.specs.Plain.{Plain}
use Rattle.floyd_tree.specs.Types.{SizedType}
use Rattle.floyd_tree_values.specs.Defaults.{value_sort}
use Rattle.floyd_tree_values.specs.Rules.{AreDistinct, Scope}
use Rattle.floyd_assert_trees.specs.declared.assertion.Assertion.{Assertion}
use Rattle.floyd_assert_trees.specs.declared.assertion.Local.{Local}
use Rattle.floyd_assert_trees.specs.declared.binder.Binder.{Binder}
use Rattle.floyd_assert_trees.specs.declared.items.Defs.{Defs}
use Rattle.floyd_assert_trees.specs.declared.sep.Region.{Region}
use Rattle.floyd_assert_trees.specs.declared.sep.Sep.{Sep}
use Rattle.floyd_assert_trees.specs.declared.sep.Sep.TheVariants.{FieldAt, Padding, Valid, Anything, Predicate}
use Rattle.floyd_assert_trees.specs.declared.spec.SpecTable.{SpecTable}
use Rattle.floyd_assert_changes.specs.Changed.{local_terms, part_terms, region_terms, step_terms, terms_in}
use Rattle.floyd_assert_terms.specs.Mapped.{body_mapped, local_mapped, part_mapped, region_mapped, step_mapped}
use Rattle.floyd_fieldpath.specs.Nested.{element_type, field_type, type_after, type_at}
use Rattle.floyd_fieldpath_laws.proofs.TypeSorts.{step_some}
use Rattle.floyd_goal_forms.specs.Assertions.{AssertionFits, IsStruct, PartFits, PartsFit, PredicatesOf, RegionFits, StepFits, inner_scope}
use Rattle.floyd_goal_forms.specs.Terms.{FormulasFit, TermFits, TermsFit}

-- ---- types at paths

-- a type of the same shape, with as many sizes
pub record Like (t u : SizedType) : Type 0 where
  pub shape : u.shape ≡ t.shape
  pub count : length u.sizes ≡ length t.sizes

like_itself : (t : SizedType) → Like t t
like_itself t = record { shape = refl; count = refl }

same_type : (t u : SizedType) → Option.Some t ≡ Option.Some u → t ≡ u
same_type t u e = cc

element_like : (shape : Shape) (ss us : List Plain) → length us ≡ length ss → (a : SizedType) → element_type shape ss ≡ Some a → (b : SizedType) × (element_type shape us ≡ Some b) × Like a b
element_like (Array' p (more_of-Shape element end_of-Shape)) (s ∷ ss) (u ∷ us) l a e =
    let was : SizedType = record { shape = element; sizes = ss } in
    let now : SizedType = record { shape = element; sizes = us } in
    let count : length us ≡ length ss = omega (arith, l) in
    let like : Like was now = record { shape = refl; count = count } in
    (now, refl, subst (λ x. Like x now) (same_type was a e) like)
element_like (Array' p (more_of-Shape element end_of-Shape)) (s ∷ ss) [] l a e = absurd (omega (arith, l))
element_like (Array' p (more_of-Shape element end_of-Shape)) [] us l a e = absurd cc
element_like shape ss us l a e = absurd cc

module _ (structs : Structs) (f : Plain → Plain) where
  after_like : (t u : SizedType) (step : PathStep) → Like t u → (a : SizedType) → type_after structs t step ≡ Some a → (b : SizedType) × (type_after structs u (step_mapped f step) ≡ Some b) × Like a b
  after_like t u (Field x) l a e = (a, ap (λ s. field_type structs s x) l.shape ∙ e, like_itself a)
  after_like t u (Subscript n) l a e =
      let q = element_like t.shape t.sizes u.sizes l.count a e in
      (q.0, ap (λ s. element_type s u.sizes) l.shape ∙ q.1, q.2)

  pub path_like : (path : List PathStep) (t u : SizedType) → Like t u → (a : SizedType) → type_at structs t path ≡ Some a → (b : SizedType) × (type_at structs u (map (step_mapped f) path) ≡ Some b) × Like a b
  path_like [] t u l a e =
      let same : t ≡ a = same_type t a e in
      (u, refl, subst (λ x. Like x u) same l)
  path_like (step ∷ path) t u l a e =
      let p = step_some structs path (type_after structs t step) a e in
      let q = after_like t u step l p.0 p.1 in
      let r = path_like path p.0 q.0 q.2 a p.2 in
      (r.0, ap (option_and_then (λ v. type_at structs v (map (step_mapped f) path))) q.1 ∙ r.1, r.2)

-- ---- lists

apart : {A : Type 0} (P : A → Type 0) (xs ys : List A) → AllByRecursion P (xs ++ ys) → AllByRecursion P xs × AllByRecursion P ys
apart P [] ys h = (tt, h)
apart P (x ∷ xs) ys h = let p = apart P xs ys h.1 in ((h.0, p.0), p.1)

as_many : {A B : Type 0} (f : A → B) (xs : List A) → length (map f xs) ≡ length xs
as_many f [] = refl
as_many f (x ∷ xs) = ap suc (as_many f xs)

names_stay : (f : Plain → Plain) (ls : List Local) → map (λ (l : Local). l.name) (map (local_mapped f) ls) ≡ map (λ (l : Local). l.name) ls
names_stay f [] = refl
names_stay f (l ∷ ls) = ap (λ ns. l.name ∷ ns) (names_stay f ls)

-- ---- parts and temporaries, where a map keeps the sorts of those terms of which P is so

module _ (defs : Defs) (old new : Scope) (f : Plain → Plain) (P : Plain → Type 0) (keeps : (s : Sort) (t : Plain) → P t → TermFits defs old s t → TermFits defs new s (f t)) where
  terms_mapped : (sorts : List Sort) (ts : List Plain) → AllByRecursion P ts → TermsFit defs old sorts ts → TermsFit defs new sorts (map f ts)
  terms_mapped [] [] k h = tt
  terms_mapped [] (t ∷ ts) k h = absurd h
  terms_mapped (s ∷ sorts) [] k h = absurd h
  terms_mapped (s ∷ sorts) (t ∷ ts) k h = (keeps s t k.0 h.0, terms_mapped sorts ts k.1 h.1)

  sizes_mapped : (ts : List Plain) → AllByRecursion P ts → AllByRecursion (TermFits defs old Z) ts → AllByRecursion (TermFits defs new Z) (map f ts)
  sizes_mapped [] k h = tt
  sizes_mapped (t ∷ ts) k h = (keeps Z t k.0 h.0, sizes_mapped ts k.1 h.1)

  steps_mapped : (path : List PathStep) → AllByRecursion P (flat_map step_terms path) → AllByRecursion (StepFits defs old) path → AllByRecursion (StepFits defs new) (map (step_mapped f) path)
  steps_mapped [] k h = tt
  steps_mapped (Field x ∷ path) k h = (tt, steps_mapped path k h.1)
  steps_mapped (Subscript t ∷ path) k h = (keeps Z t k.0 h.0, steps_mapped path k.1 h.1)

  abbrev sized : SizedType → SizedType
  sized t = record { shape = t.shape; sizes = map f t.sizes }

  sized_like : (t : SizedType) → Like t (sized t)
  sized_like t = record { shape = refl; count = as_many f t.sizes }

  abbrev region_fits : (r : Region) → AllByRecursion P (region_terms r) → RegionFits defs old r → RegionFits defs new (region_mapped f r)
  region_fits r k h =
      let p = apart P r.ty.sizes (flat_map step_terms r.path ++ r.root ∷ []) k.1 in
      let q = apart P (flat_map step_terms r.path) (r.root ∷ []) p.1 in
      let n = path_like defs.structs f r.path r.ty (sized r.ty) (sized_like r.ty) h.nested h.at in
      record {
        share = keeps Z r.share k.0 h.share;
        type = record {
          sizes = record { count = as_many f r.ty.sizes ∙ h.type.sizes.count; sizes = sizes_mapped r.ty.sizes p.0 h.type.sizes.sizes };
          sort = h.type.sort;
        };
        steps = steps_mapped r.path q.0 h.steps;
        nested = n.0;
        at = n.1;
        root = keeps Val r.root q.1.0 h.root;
      }

  same_shape : (r : Region) (k : AllByRecursion P (region_terms r)) (h : RegionFits defs old r) → (region_fits r k h).nested.shape ≡ h.nested.shape
  same_shape r k h = (path_like defs.structs f r.path r.ty (sized r.ty) (sized_like r.ty) h.nested h.at).2.shape

  part_fits : (p : Sep) → AllByRecursion P (part_terms p) → PartFits defs old (PredicatesOf defs old) p → PartFits defs new (PredicatesOf defs new) (part_mapped f p)
  part_fits (FieldAt r value) k h =
      let q = apart P (region_terms r) (value ∷ []) k in
      record {
        region = region_fits r q.0 h.region;
        sort = h.sort;
        is = ap (value_sort defs.structs) (same_shape r q.0 h.region) ∙ h.is;
        term = keeps h.sort value q.1.0 h.term;
      }
  part_fits (Padding r) k h = (region_fits r k h.0, subst IsStruct (sym (same_shape r k h.0)) h.1)
  part_fits (Valid t) k h = keeps Val t k.0 h
  part_fits Anything k h = tt
  part_fits (Predicate name terms) k h = (h.0, h.1, terms_mapped (map (λ (b : Binder). b.sort) h.0.arguments) terms k h.2)

  pub parts_mapped : (ps : List Sep) → AllByRecursion P (flat_map part_terms ps) → PartsFit defs old (PredicatesOf defs old) ps → PartsFit defs new (PredicatesOf defs new) (map (part_mapped f) ps)
  parts_mapped [] k h = tt
  parts_mapped (p ∷ ps) k h =
      let q = apart P (part_terms p) (flat_map part_terms ps) k in
      (part_fits p q.0 h.0, parts_mapped ps q.1 h.1)

  pub locals_mapped : (ls : List Local) → AllByRecursion P (local_terms ls) → AllByRecursion (λ (l : Local). TermFits defs old Val l.term) ls → AllByRecursion (λ (l : Local). TermFits defs new Val l.term) (map (local_mapped f) ls)
  locals_mapped [] k h = tt
  locals_mapped (l ∷ ls) k h = (keeps Val l.term k.0 h.0, locals_mapped ls k.1 h.1)

-- ---- assertions

pub body_formed : (defs : Defs) (specs : SpecTable) (old new : Scope) (a : Assertion) (f : Plain → Plain) (props : List PlainFormula) (P : Plain → Type 0) → ((s : Sort) (t : Plain) → P t → TermFits defs (inner_scope a old) s t → TermFits defs (inner_scope a new) s (f t)) →
    AllByRecursion P (terms_in a) → FormulasFit defs specs (inner_scope a new) props → AssertionFits defs specs old a → AssertionFits defs specs new (body_mapped f props a)
body_formed defs specs old new a f props P keeps terms formed h =
    let both = apart P (local_terms a.locals) (flat_map part_terms a.parts) terms in
    record {
      existentials = h.existentials;
      props = formed;
      temporaries = subst AreDistinct (sym (names_stay f a.locals)) h.temporaries;
      locals = locals_mapped defs (inner_scope a old) (inner_scope a new) f P keeps a.locals both.0 h.locals;
      parts = parts_mapped defs (inner_scope a old) (inner_scope a new) f P keeps a.parts both.1 h.parts;
    }
