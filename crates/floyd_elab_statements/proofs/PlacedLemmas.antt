-- One variable, behind statements.
use Rattle.std.proofs.Common.{◌≡◌, ℕ, Bool, List, [], ◌∷◌, refl, ap, sym}
use Rattle.std.specs.Prelude.{Result, Ok}
use Rattle.floyd_text.specs.declared.refusal.Halt.{Halt}
use Rattle.floyd_text.specs.Gives.{Stops, Gives}
use Rattle.floyd_ctypes.specs.declared.ctype.CType.{CType}
use Rattle.floyd_cparse_trees.specs.declared.statements.LocalDeclarator.{LocalDeclarator}
use Rattle.floyd_elab_names.specs.declared.meaning.Meaning.{Meaning}
use Rattle.floyd_elab_names.specs.Refusing.{and_then}
use Rattle.floyd_elab_names.specs.Scopes.{Scopes, leave, with_meaning}
use Rattle.floyd_elab_names.specs.Declarators.{name_of, name_or_none}
use Rattle.floyd_clight.specs.declared.syntax.Stmt.{Stmt}
use Rattle.floyd_elab_expressions.specs.declared.progress.Progress.{Progress}
use Rattle.floyd_elab_expressions.specs.Clight.{Translated}
use Rattle.floyd_elab_expressions.specs.Behind.{put_behind}
use Rattle.floyd_elab_statements.specs.Locals.{declare_variable, target_of, initialise}
use Rattle.floyd_elab_statements.specs.LocalClauses.{beginning, declare_one}
use Rattle.floyd_elab_statements.specs.PlaceClauses.{place_variable}
use Rattle.floyd_elab_statements.proofs.Steps.{goes, stops, beside, beginning_stops, gives_as}

pub outer_declared : (x : List ℕ) (meaning : Meaning) (scopes : Scopes) → leave (with_meaning x meaning scopes) ≡ leave scopes
outer_declared x meaning [] = refl
outer_declared x meaning (scope ∷ outer) = refl

module _ (there : List Stmt) (scopes : Scopes) (d : LocalDeclarator) where
  pub placed_gives : (meaning : Meaning) (r : Result (Unit {0}) Halt) (out : List Stmt) (inner : Scopes) (aim : List Translated) (q s : Progress)
      → aim ≡ target_of meaning
      → inner ≡ with_meaning (name_or_none (name_of d.declarator)) meaning scopes
      → Gives (λ u. (out, s)) r (put_behind there (initialise inner aim d.initialiser q))
      → Gives (λ u. ((out, inner), s)) r (beginning there (place_variable scopes d meaning q))
  placed_gives meaning r out inner aim q s aim_is is g =
      let back : with_meaning (name_or_none (name_of d.declarator)) meaning scopes ≡ inner = sym is in
      let aim_back : target_of meaning ≡ aim = sym aim_is in
      gives_as (λ u. ((out, inner), s)) r (beginning there (place_variable scopes d meaning q))
      (beginning there (and_then (initialise inner aim d.initialiser q) (λ first s. Ok ((first, inner), s))))
      (ap (beginning there) (λ j. and_then (initialise (back j) (aim_back j) d.initialiser q) (λ first s. Ok ((first, back j), s))))
      (beside r there (initialise inner aim d.initialiser q) out inner s g)

  module _ (base : CType) (taken : Bool) (p : Progress) where
    pub undeclared : (h : Halt) → Stops h (declare_variable scopes base d.declarator (λ x. taken) p) → Stops h (beginning there (declare_one scopes base d taken p))
    undeclared h e = beginning_stops h there _ (stops h (declare_variable scopes base d.declarator (λ x. taken) p) _ e)

    pub declares : (meaning : Meaning) (q : Progress) → declare_variable scopes base d.declarator (λ x. taken) p ≡ Ok (meaning, q) → beginning there (declare_one scopes base d taken p) ≡ beginning there (place_variable scopes d meaning q)
    declares meaning q e = ap (beginning there) (goes (declare_variable scopes base d.declarator (λ x. taken) p) (λ meaning. place_variable scopes d meaning) meaning q e)
