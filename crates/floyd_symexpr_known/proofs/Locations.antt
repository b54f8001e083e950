-- The names in where an object was located are known.
use Rattle.std.proofs.Common.{◌≡◌, ℕ, ◌+◌, ◌-◌, pos, Bool, true, false, List, [], ◌∷◌, Option, Some, None, Result, Ok, Err, slice_get, option_and_then, subst, if◌then◌else◌}
use Rattle.std.specs.Prelude.{unwrap_or, ◌==◌, length}
use Rattle.std.specs.List.{AllByRecursion}
use Rattle.std.specs.Option.{option_or}
use Rattle.floyd_text.specs.declared.refusal.No.{No}
use Rattle.floyd_clight.specs.declared.syntax.Expr.{Expr}
use Rattle.floyd_clight.specs.Types.{type_of}
use Rattle.floyd_clight_typing.specs.Expressions.{IsTyped, Names}
use Rattle.floyd_tree.specs.declared.paths.PathStep.{PathStep}
use Rattle.floyd_tree.specs.declared.paths.PathStep.TheVariants.{Field, Subscript}
use Rattle.floyd_tree.specs.Formulas.{PlainFormula}
use Rattle.floyd_tree.specs.Plain.{Plain}
use Rattle.floyd_tree.specs.Types.{SizedType}
use Rattle.floyd_assert_trees.specs.declared.assertion.Assertion.{Assertion}
use Rattle.floyd_assert_trees.specs.declared.sep.Sep.{Sep}
use Rattle.floyd_assert_trees.specs.declared.sep.Sep.TheVariants.{FieldAt, Padding, Valid, Anything, Predicate}
use Rattle.floyd_fieldpath.specs.Addresses.{on_type}
use Rattle.floyd_fieldpath.specs.Nested.{literal, sized_type, type_after}
use Rattle.floyd_fieldpath.specs.Sums.{plus}
use Rattle.floyd_symexpr_rows.specs.declared.needs.Needs.{Needs}
use Rattle.floyd_symexpr_rows.specs.Formulas.{at_most, saying}
use Rattle.floyd_symexpr_rows.specs.Rows.{nothing_needed}
use Rattle.floyd_symexpr_paths.specs.declared.location.Located.{Located}
use Rattle.floyd_symexpr_paths.specs.declared.lvalue.Lvalue.{Lvalue}
use Rattle.floyd_symexpr_paths.specs.declared.lvalue.Taken.{Taken}
use Rattle.floyd_symexpr_paths.specs.declared.matching.Found.{Found}
use Rattle.floyd_symexpr_paths.specs.Bounds.{bounded_step, bounds, count, located, located_in, located_sides, step_bounds, within}
use Rattle.floyd_symexpr_paths.specs.Locating.{found, found_from, found_in, holds, is_first, with_first, without_first}
use Rattle.floyd_symexpr_paths.specs.Places.{path_of, subscript_ranges}
use Rattle.floyd_symexpr.specs.Expressions.{read}
use Rattle.floyd_symexpr.specs.Locate.{locate}
use Rattle.floyd_assert_trees.specs.declared.spec.SpecTable.{SpecTable}
use Rattle.floyd_assert_trees.specs.declared.items.Defs.{Defs}
use Rattle.floyd_symexpr_forms.proofs.Answers.{Gives, on}
use Rattle.floyd_symexpr_known.specs.Laws.{FileIsKnown, LocationIsKnown, NeedsAreKnown, PartIsKnown, SourceIsKnown, StepIsKnown}
use Rattle.floyd_symexpr_known.proofs.Answers.{K, Stated, at_most_known, literal_known, plus_known, saying_known}
use Rattle.floyd_symexpr_known.proofs.Places.{GoodLvalue, GoodStep, IsTaken, after_sized, on_sized, ranges_known}
use Rattle.floyd_symexpr_known.proofs.Readings.{P, read_known}

module _ (defs : Defs) (specs : SpecTable) where
  abbrev G : Plain → Type 0
  G t = K defs specs t

  abbrev Said : List PlainFormula → Type 0
  Said fs = Stated defs specs fs

  abbrev AreTaken : List Taken → Type 0
  AreTaken form = AllByRecursion (IsTaken defs specs) form

  -- ---- what is found

  record GoodFound (f : Found) : Type 0 where
    pub form : AreTaken f.form
    pub sizes : AllByRecursion G f.ty.sizes

  abbrev IsGood : Option Found → Type 0
  IsGood None = Unit {0}
  IsGood (Some f) = GoodFound f

  either_known : (o p : Option Found) → IsGood o → IsGood p → IsGood (option_or o p)
  either_known None p h k = k
  either_known (Some f) p h k = h

  in_part : (root : Plain) (last : SizedType) (form : List Taken) (n : ℕ) (part : Sep) → AreTaken form → PartIsKnown defs part → IsGood (found_in defs.structs root last form n part)
  in_part root last form n (FieldAt region value) g h = by (holds defs.structs root last form region)
    where
      by : (b : Bool) → IsGood (if b then Some (record { form = form; number = n; ty = region.ty; own_steps = length region.path }) else None)
      by true = record { form = g; sizes = h }
      by false = tt
  in_part root last form n (Padding region) g h = tt
  in_part root last form n (Valid v) g h = tt
  in_part root last form n Anything g h = tt
  in_part root last form n (Predicate name terms) g h = tt

  in_parts : (root : Plain) (last : SizedType) (form : List Taken) (n : ℕ) (parts : List Sep) → AreTaken form → AllByRecursion (PartIsKnown defs) parts → IsGood (found_from defs.structs root last form n parts)
  in_parts root last form n [] g h = tt
  in_parts root last form n (part ∷ parts) g h =
      either_known (found_in defs.structs root last form n part) (found_from defs.structs root last form (n + 1) parts) (in_part root last form n part g h.0) (in_parts root last form (n + 1) parts g h.1)

  shorter_known : (parts : List Sep) (root : Plain) (last : SizedType) (form : List Taken) → AreTaken form → AllByRecursion (PartIsKnown defs) parts → IsGood (option_and_then (λ shorter. found_from defs.structs root last shorter 1 parts) (without_first form))
  shorter_known parts root last [] g h = tt
  shorter_known parts root last (taken ∷ form) g h = by (is_first taken.step)
    where
      by : (b : Bool) → IsGood (option_and_then (λ shorter. found_from defs.structs root last shorter 1 parts) (if b then Some form else None))
      by true = in_parts root last form 1 parts g.1 h
      by false = tt

  found_known : (parts : List Sep) (root : Plain) (last : SizedType) (form : List Taken) → AreTaken form → AllByRecursion (PartIsKnown defs) parts → IsGood (found defs.structs parts root last form)
  found_known parts root last form g h =
      let shorter = option_and_then (λ shorter. found_from defs.structs root last shorter 1 parts) (without_first form) in
      let longer = found_from defs.structs root last (with_first form) 1 parts in
      either_known (found_from defs.structs root last form 1 parts) (option_or shorter longer) (in_parts root last form 1 parts g h)
      (either_known shorter longer (shorter_known parts root last form g h) (in_parts root last (with_first form) 1 parts (literal_known defs specs (pos 0), g) h))

  -- ---- bounds

  count_known : (t : SizedType) → AllByRecursion G t.sizes → G (count t)
  count_known t h = by t.sizes h
    where
      by : (sizes : List Plain) → AllByRecursion G sizes → G (unwrap_or (slice_get sizes 0) (literal (pos 0)))
      by [] k = literal_known defs specs (pos 0)
      by (n ∷ sizes) k = k.0

  within_known : (i n : Plain) (all : List PlainFormula) → G i → G n → Said all → Gives Said (within i n all)
  within_known i n all g h k =
      on G Said (plus i (literal (pos 1))) (λ more. saying all (at_most (literal (pos 0)) i ∷ at_most more n ∷ [])) (plus_known defs specs i (literal (pos 1)) g (literal_known defs specs (pos 1)))
      (λ more x. saying_known defs specs all (at_most (literal (pos 0)) i ∷ at_most more n ∷ []) k (at_most_known defs specs (literal (pos 0)) i (literal_known defs specs (pos 0)) g, (at_most_known defs specs more n x h, tt)))

  step_bounds_known : (t : SizedType) (step : PathStep) (all : List PlainFormula) → AllByRecursion G t.sizes → GoodStep defs specs step → Said all → Gives Said (step_bounds t step all)
  step_bounds_known t (Field x) all h g k = k
  step_bounds_known t (Subscript i) all h g k = within_known i (count t) all g (count_known t h) k

  abbrev Bounded : SizedType × List PlainFormula → Type 0
  Bounded more = AllByRecursion G more.0.sizes × Said more.1

  asked_known : (t : SizedType) (asked : Bool) (step : PathStep) (all : List PlainFormula) → AllByRecursion G t.sizes → GoodStep defs specs step → Said all → Gives Said (if asked then step_bounds t step all else Ok all)
  asked_known t true step all h g k = step_bounds_known t step all h g k
  asked_known t false step all h g k = k

  bounded_known : (t : SizedType) (asked : Bool) (step : PathStep) (all : List PlainFormula) → AllByRecursion G t.sizes → GoodStep defs specs step → Said all → Gives Bounded (bounded_step defs.structs t asked step all)
  bounded_known t asked step all h g k =
      on Said Bounded (if asked then step_bounds t step all else Ok all) (λ more. on_type (type_after defs.structs t step) (λ after. Ok (after, more))) (asked_known t asked step all h g k)
      (λ more x. on_sized defs specs Bounded (type_after defs.structs t step) (λ after. Ok (after, more)) (after_sized defs specs t step h) (λ after y. (y, x)))

  bounds_known : (t : SizedType) (skip : ℕ) (form : List Taken) (all : List PlainFormula) → AllByRecursion G t.sizes → AreTaken form → Said all → Gives Said (bounds defs.structs t skip form all)
  bounds_known t skip [] all h g k = k
  bounds_known t skip (taken ∷ form) all h g k =
      on Bounded Said (bounded_step defs.structs t (skip == 0) taken.step all) (λ more. bounds defs.structs more.0 (skip - 1) form more.1) (bounded_known t (skip == 0) taken.step all h g.0 k)
      (λ more x. bounds_known more.0 (skip - 1) form more.1 x.0 g.1 x.1)

  -- ---- objects

  path_in : (form : List Taken) → AreTaken form → AllByRecursion (StepIsKnown defs) (path_of form)
  path_in [] h = tt
  path_in (taken ∷ form) h = (step_in taken.step h.0, path_in form h.1)
    where
      step_in : (step : PathStep) → GoodStep defs specs step → StepIsKnown defs step
      step_in (Field x) k = tt
      step_in (Subscript i) k = k

  located_known : (l : Lvalue) (needs : Needs) (o : Option Found) → GoodLvalue defs specs l → NeedsAreKnown defs specs needs → IsGood o → Gives (LocationIsKnown defs specs) (located_in defs.structs l needs o)
  located_known l needs None g w h = tt
  located_known l needs (Some f) g w h =
      on Said (LocationIsKnown defs specs) (located_sides defs.structs l f needs.sides) (λ sides. Ok (record { root = l.root; path = path_of f.form; part = f.number; sides = sides; valid = needs.valid }))
      (on Said Said (saying needs.sides (subscript_ranges l.subscripts)) (λ more. bounds defs.structs f.ty f.own_steps f.form more) (saying_known defs specs needs.sides (subscript_ranges l.subscripts) w.sides (ranges_known defs specs l.subscripts g.subscripts))
      (λ more x. bounds_known f.ty f.own_steps f.form more h.sizes h.form x))
      (λ sides x. record { root = g.root; path = path_in f.form h.form; needs = record { sides = x; valid = w.valid } })

  of_answer : (r : Result Located No) (given : Located) → Gives (LocationIsKnown defs specs) r → r ≡ Ok given → LocationIsKnown defs specs given
  of_answer (Ok a) given h e = subst (λ (w : Located). LocationIsKnown defs specs w) (let x = e in cc) h
  of_answer (Err why) given h e = absurd cc

  module _ (names : Names) (file : FileIsKnown defs names.file) (source : Assertion) (known : SourceIsKnown defs source) where
    of_expression : (e : Expr) → IsTyped defs.structs names e → Gives (LocationIsKnown defs specs) (locate source defs.structs e)
    of_expression e k =
        on (P defs specs names file source known) (LocationIsKnown defs specs) ((read source defs.structs e).place nothing_needed) (λ l. located defs.structs source.parts (type_of e) l.0 l.1)
        ((read_known defs specs names file source known e k).place nothing_needed (record { sides = tt; valid = tt }))
        (λ l x. located_known l.0 l.1 (found defs.structs source.parts l.0.root (sized_type (type_of e)) l.0.form) x.0 x.1 (found_known source.parts l.0.root (sized_type (type_of e)) l.0.form x.0.form known.parts))

    pub location_known : (e : Expr) (given : Located) → IsTyped defs.structs names e → locate source defs.structs e ≡ Ok given → LocationIsKnown defs specs given
    location_known e given k f = of_answer (locate source defs.structs e) given (of_expression e k) f
