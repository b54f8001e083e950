-- The type at a path where sizes are terms, and where they are the numbers that these terms mean.
use Rattle.std.proofs.Common.{◌≡◌, Bool, true, false, List, [], ◌∷◌, Some, None, sym, ap, subst, ◌∙◌}
use Rattle.std.specs.Prelude.{if◌then◌else◌, is_some}
use Rattle.std.proofs.lemmas.Option.{same_Some}
use Rattle.floyd_tree.specs.declared.paths.PathStep.{PathStep}
use Rattle.floyd_tree.specs.declared.paths.PathStep.TheVariants.{Field as FieldStep, Subscript}
use Rattle.floyd_tree.specs.Types.{SizedType}
use Rattle.floyd_tree_values.specs.BuiltIns.{Env}
use Rattle.floyd_tree_values.specs.Means.{Defs}
use Rattle.floyd_assert_cells.specs.Types.{Sized, Step, Dot, At, size}
use Rattle.floyd_assert_cells.specs.Types as n
use Rattle.floyd_assert_cells.proofs.FormLaws.{chained}
use Rattle.floyd_assert_meaning.specs.Parts.{PathMeans}
use Rattle.floyd_fieldpath.specs.Nested.{type_after, type_at}
use Rattle.floyd_fieldpath_laws.proofs.AddressMeanings.{StepMeans, TypeMeans, after_means}
use Rattle.floyd_fieldpath_laws.proofs.TypeSorts.{step_some}

there : (test : Bool) (t u : Sized) → (if test then Some t else None) ≡ Some u → t ≡ u
there true t u e = same_Some {A = Sized} t u e
there false t u e = absurd cc

module _ (defs : Defs) (env : Env) where
  -- what is found after a step
  further : (path : List PathStep) (steps : List Step) (step : PathStep) (i : Step) (t u : SizedType) (T U : Sized) → TypeMeans defs env t T → StepMeans defs env step i → type_at defs.structs t (step ∷ path) ≡ Some u → n.type_at defs.structs T (i ∷ steps) ≡ Some U →
      ((after : SizedType) (V : Sized) → TypeMeans defs env after V → type_at defs.structs after path ≡ Some u → n.type_at defs.structs V steps ≡ Some U → TypeMeans defs env u U) → TypeMeans defs env u U
  further path steps step i t u T U m p e f next =
      let a = step_some defs.structs path (type_after defs.structs t step) u e in
      let b = after_means defs env t a.0 T step i m p a.1 in
      let c = chained (λ v. n.type_at defs.structs v steps) (n.type_after defs.structs T i) U f in
      let same : c.0 ≡ b.0 = same_Some {A = Sized} c.0 b.0 (sym c.1 ∙ b.1) in
      next a.0 b.0 b.2 a.2 (ap (λ v. n.type_at defs.structs v steps) (sym same) ∙ c.2)

  pub types_mean : (path : List PathStep) (steps : List Step) (t u : SizedType) (T U : Sized) → TypeMeans defs env t T → PathMeans defs env path steps → type_at defs.structs t path ≡ Some u → n.type_at defs.structs T steps ≡ Some U → TypeMeans defs env u U
  types_mean [] [] t u T U m p e f =
      subst (λ x. TypeMeans defs env x U) (same_Some {A = SizedType} t u e) (subst (TypeMeans defs env t) (there (is_some (size defs.structs T)) T U f) m)
  types_mean (FieldStep x ∷ path) (Dot y ∷ steps) t u T U m p e f =
      further path steps (FieldStep x) (Dot y) t u T U m p.0 e f (λ after V k q r. types_mean path steps after u V U k p.1 q r)
  types_mean (Subscript x ∷ path) (At i ∷ steps) t u T U m p e f =
      further path steps (Subscript x) (At i) t u T U m p.0 e f (λ after V k q r. types_mean path steps after u V U k p.1 q r)
  types_mean path steps t u T U m p e f = absurd p
