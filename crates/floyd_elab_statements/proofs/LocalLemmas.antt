-- Declarations of variables, one after the other.
use Rattle.std.proofs.Common.{◌≡◌, ℕ, Bool, true, false, List, ◌∷◌, ◌++◌, refl, ap, sym, ◌∙◌}
use Rattle.std.specs.Prelude.{Result, Ok, Err}
use Rattle.std.proofs.lemmas.List.{append_assoc}
use Rattle.floyd_text.specs.declared.refusal.Refusal.{Refusal}
use Rattle.floyd_text.specs.declared.refusal.Halt.{Halt}
use Rattle.floyd_text.specs.Gives.{Stops}
use Rattle.floyd_ctypes.specs.declared.ctype.CType.{CType}
use Rattle.floyd_cparse_trees.specs.declared.types.Declarator.{Declarator}
use Rattle.floyd_cparse_trees.specs.declared.statements.LocalDeclaration.{LocalDeclaration}
use Rattle.floyd_cparse_trees.specs.declared.statements.LocalDeclarator.{LocalDeclarator}
use Rattle.floyd_elab_names.specs.declared.meaning.Meaning.{Meaning}
use Rattle.floyd_elab_names.specs.declared.tags.Tags.{Tags}
use Rattle.floyd_elab_names.specs.Refusing.{and_then, unless}
use Rattle.floyd_elab_names.specs.Refusals.{Site, left_out, ill_typed}
use Rattle.floyd_elab_names.specs.Scopes.{Scopes, names_in, with_meaning}
use Rattle.floyd_elab_names.specs.Types.{is_object_within, is_object_type}
use Rattle.floyd_elab_names.specs.Declarators.{name_of, name_or_none, name_site, limit_site, base_type, declarator_type, unless_among}
use Rattle.floyd_clight.specs.declared.syntax.Stmt.{Stmt}
use Rattle.floyd_elab_expressions.specs.declared.progress.Progress.{Progress}
use Rattle.floyd_elab_expressions.specs.Progress.{Elaborating, typing}
use Rattle.floyd_elab_addresses.specs.Flags.{is_taken}
use Rattle.floyd_elab_statements.specs.Locals.{nowhere, declare_variable, target_of, initialise, declarators}
use Rattle.floyd_elab_statements.specs.LocalClauses.{beginning, variable_type, variable, declare_one, declaration}
use Rattle.floyd_elab_statements.proofs.Steps.{goes, stops, stops_as, typed, typing_stops, assoc, value_or, beginning_halted, beginning_stops}

-- A variable is declared once its type is known.

module _ (t : CType) (A B : Refusal) (u : Elaborating (Unit {0})) (k : CType → Elaborating Meaning) where
  judge_test : (a b : Bool) (s : Progress)
      → and_then (and_then (unless A a s) (λ _ s. and_then (unless B b s) (λ _ s. and_then (u s) (λ _ s. Ok (t, s))))) k
      ≡ and_then (unless A a s) (λ _ s. and_then (unless B b s) (λ _ s. and_then (u s) (λ _ s. k t s)))
  judge_test true true s = assoc (u s) (λ _ s. Ok (t, s)) k
  judge_test true false s = refl
  judge_test false b s = refl

pub declared_is : (scopes : Scopes) (base : CType) (d : Declarator) (taken : Bool) (p : Progress)
    → declare_variable scopes base d (λ x. taken) p ≡ and_then (variable_type scopes base d p) (λ t. variable d t taken)
declared_is scopes base d taken p =
    sym
    (assoc (typing (declarator_type scopes nowhere base d) p) _ (λ t. variable d t taken)
    ∙ ap (λ (k : CType → Elaborating Meaning). and_then (typing (declarator_type scopes nowhere base d) p) k)
    (λ j t s.
    judge_test t (left_out (limit_site nowhere d)) (ill_typed (name_site nowhere d).place) (typing (unless_among (names_in scopes) (name_of d))) (λ t. variable d t taken)
    (is_object_within s.tags.structs t) (is_object_type s.tags.structs t) s j))

-- The first of some declarators.

declarators_are : (scopes : Scopes) (base : CType) (d : LocalDeclarator) (ds : List LocalDeclarator) (rest : List ℕ → Bool) (p : Progress)
    → declarators scopes base (d ∷ ds) rest p
    ≡ and_then (declare_one scopes base d (is_taken d ds rest (name_or_none (name_of d.declarator))) p) (λ made s. and_then (declarators made.1 base ds rest s) (λ more s. Ok ((made.0 ++ more.0, more.1), s)))
declarators_are scopes base d ds rest p =
    let taken = is_taken d ds rest (name_or_none (name_of d.declarator)) in
    let one = declare_variable scopes base d.declarator (λ x. taken) p in
    let inner : Meaning → Scopes = λ meaning. with_meaning (name_or_none (name_of d.declarator)) meaning scopes in
    let first : Meaning → Elaborating (List Stmt) = λ meaning. initialise (inner meaning) (target_of meaning) d.initialiser in
    let with_scopes : Meaning → List Stmt → Elaborating (List Stmt × Scopes) = λ meaning f s. Ok ((f, inner meaning), s) in
    let others : (List Stmt × Scopes) → Elaborating (List Stmt × Scopes) = λ made s. and_then (declarators made.1 base ds rest s) (λ more s. Ok ((made.0 ++ more.0, more.1), s)) in
    sym
    (assoc one (λ meaning s. and_then (first meaning s) (with_scopes meaning)) others
    ∙ (λ j. and_then one (λ meaning s. assoc (first meaning s) (with_scopes meaning) others j)))

joined : {B : Type 0} (there new : List Stmt) (w : Result ((List Stmt × B) × Progress) Refusal)
    → beginning there (and_then w (λ more s. Ok ((new ++ more.0, more.1), s))) ≡ beginning (there ++ new) w
joined {B} there new (Ok r) = ap (λ (l : List Stmt). let made : Result ((List Stmt × B) × Progress) Refusal = Ok ((l, r.0.1), r.1) in made) (sym (append_assoc there new r.0.0))
joined there new (Err refusal) = refl

module _ {B C : Type 0} where
  pub behind_one : (there out : List Stmt) (r : Result ((List Stmt × C) × Progress) Refusal) (c : C) (s : Progress) (k : C → Elaborating (List Stmt × B))
      → beginning there r ≡ Ok ((out, c), s) → beginning there (and_then r (λ made s. and_then (k made.1 s) (λ more s. Ok ((made.0 ++ more.0, more.1), s)))) ≡ beginning out (k c s)
  behind_one there out (Ok r) c s k e =
      let same : ((there ++ r.0.0, r.0.1), r.1) ≡ ((out, c), s) = ap (value_or ((out, c), s)) e in
      joined there r.0.0 (k r.0.1 r.1) ∙ ap (λ (y : (List Stmt × C) × Progress). beginning y.0.0 (k y.0.1 y.1)) same
  behind_one there out (Err refusal) c s k e = absurd (cc)

  pub behind_stop : (h : Halt) (there : List Stmt) (r : Result ((List Stmt × C) × Progress) Refusal) (k : C → Elaborating (List Stmt × B))
      → Stops h (beginning there r) → Stops h (beginning there (and_then r (λ made s. and_then (k made.1 s) (λ more s. Ok ((made.0 ++ more.0, more.1), s)))))
  behind_stop h there r k e = beginning_stops h there _ (stops h r (λ made s. and_then (k made.1 s) (λ more s. Ok ((made.0 ++ more.0, more.1), s))) (beginning_halted h there r e))

pub next_declared : (there out : List Stmt) (scopes inner : Scopes) (base : CType) (d : LocalDeclarator) (ds : List LocalDeclarator) (rest : List ℕ → Bool) (taken : Bool) (p s : Progress)
    → taken ≡ is_taken d ds rest (name_or_none (name_of d.declarator))
    → beginning there (declare_one scopes base d taken p) ≡ Ok ((out, inner), s)
    → beginning there (declarators scopes base (d ∷ ds) rest p) ≡ beginning out (declarators inner base ds rest s)
next_declared there out scopes inner base d ds rest taken p s is e =
    ap (beginning there) (declarators_are scopes base d ds rest p)
    ∙ behind_one there out (declare_one scopes base d (is_taken d ds rest (name_or_none (name_of d.declarator))) p) inner s (λ scopes. declarators scopes base ds rest)
    (ap (λ b. beginning there (declare_one scopes base d b p)) (sym is) ∙ e)

pub stopped_declared : (h : Halt) (there : List Stmt) (scopes : Scopes) (base : CType) (d : LocalDeclarator) (ds : List LocalDeclarator) (rest : List ℕ → Bool) (taken : Bool) (p : Progress)
    → taken ≡ is_taken d ds rest (name_or_none (name_of d.declarator))
    → Stops h (beginning there (declare_one scopes base d taken p))
    → Stops h (beginning there (declarators scopes base (d ∷ ds) rest p))
stopped_declared h there scopes base d ds rest taken p is e =
    stops_as h _ _ (ap (beginning there) (declarators_are scopes base d ds rest p))
    (behind_stop h there (declare_one scopes base d (is_taken d ds rest (name_or_none (name_of d.declarator))) p) (λ scopes. declarators scopes base ds rest)
    (stops_as h _ _ (ap (λ b. beginning there (declare_one scopes base d b p)) (sym is)) e))

module _ (there : List Stmt) (scopes : Scopes) (d : LocalDeclaration) (rest : List ℕ → Bool) (p : Progress) (site : Site) (is : site ≡ nowhere) where
  pub declaration_stops : (h : Halt) → Stops h (base_type scopes site d.specifiers.base p.tags) → Stops h (beginning there (declaration scopes d rest p))
  declaration_stops h e =
      beginning_stops h there _
      (stops h (typing (base_type scopes nowhere d.specifiers.base) p) _
      (typing_stops h (base_type scopes nowhere d.specifiers.base) p (stops_as h _ _ (ap (λ (x : Site). base_type scopes x d.specifiers.base p.tags) (sym is)) e)))

  pub declaration_goes : (base : CType) (tags : Tags) (all : List LocalDeclarator) → base_type scopes site d.specifiers.base p.tags ≡ Ok (base, tags) → all ≡ d.declarators
      → beginning there (declaration scopes d rest p) ≡ beginning there (declarators scopes base all rest (record p { tags = tags }))
  declaration_goes base tags all e same =
      let based : base_type scopes nowhere d.specifiers.base p.tags ≡ Ok (base, tags) = ap (λ (x : Site). base_type scopes x d.specifiers.base p.tags) (sym is) ∙ e in
      ap (beginning there)
      (goes (typing (base_type scopes nowhere d.specifiers.base) p) (λ t. declarators scopes t d.declarators rest) base (record p { tags = tags }) (typed (base_type scopes nowhere d.specifiers.base) p base tags based)
      ∙ ap (λ l. declarators scopes base l rest (record p { tags = tags })) (sym same))
