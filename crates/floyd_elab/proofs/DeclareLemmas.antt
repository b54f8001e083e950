-- Declarations, in the parts that the program has.
use Rattle.std.proofs.Common.{◌≡◌, ◌&&◌, not, Bool, true, false, is_some, if◌then◌else◌, List, Option, Result, Ok, ap, sym, subst, ◌∙◌}
use Rattle.floyd_text.specs.declared.place.Place.{Place}
use Rattle.floyd_text.specs.declared.refusal.Halt.{Halt}
use Rattle.floyd_text.specs.declared.refusal.Refusal.{Refusal}
use Rattle.floyd_text.specs.Gives.{Stops}
use Rattle.floyd_ctypes.specs.declared.ctype.CType.{CType}
use Rattle.floyd_cparse_trees.specs.declared.declarations.Initialiser.{Initialiser}
use Rattle.floyd_cparse_trees.specs.declared.types.Declarator.{Declarator}
use Rattle.floyd_cparse_trees.specs.declared.types.Identifier.{Identifier}
use Rattle.floyd_cparse_trees.specs.declared.types.Specifiers.{Specifiers}
use Rattle.floyd_clight.specs.declared.unit.Declared.{Declared}
use Rattle.floyd_elab_names.specs.declared.meaning.Meaning.TheVariants as m
use Rattle.floyd_elab_names.specs.declared.meaning.Storage.TheVariants as kept
use Rattle.floyd_elab_names.specs.Refusing.{and_then, ◌>>◌, modify}
use Rattle.floyd_elab_names.specs.Types.{is_object_type, returns_well}
use Rattle.floyd_elab_data.specs.Constant.{constant_at}
use Rattle.floyd_elab.specs.declared.file.File.{File}
use Rattle.floyd_elab.specs.Files.{Filing, top, may_declare, has_variable, is_new, add_meaning, mention_variable, mention_function}
use Rattle.floyd_elab.specs.Units.{declare_type, judge_name, define_if, no_initialiser, function_of_name, variable_of_name, typedef_of_name}
use Rattle.floyd_elab.specs.UnitClauses.{with_function, any_type, unless_large}
use Rattle.floyd_elab.proofs.FollowLemmas.{behind, behind_stops, behind_stops_at}

-- The type of a declarator.

abbrev pub within : Declarator → CType → Filing CType
within d t = unless_large d t >> (λ s. Ok (t, s))

module _ (base : CType) (d : Declarator) (file now : File) (t : CType) (typed : any_type base d file ≡ Ok (t, now)) where
  pub type_is_large : (halt : Halt) → Stops halt (unless_large d t now) → Stops halt (declare_type base d file)
  type_is_large halt e = behind_stops_at (within d) (any_type base d file) t now halt typed (behind_stops (λ _ s. Ok (t, s)) (unless_large d t now) halt e)

  pub type_is_declared : unless_large d t now ≡ Ok (tt, now) → declare_type base d file ≡ Ok (t, now)
  type_is_declared e = behind (within d) (any_type base d file) t now typed ∙ behind (λ _ s. Ok (t, s)) (unless_large d t now) tt now e

-- What is judged at a name, before the rest.

module _ (i : Identifier) (fits may : File → Bool) (rest : Filing (Unit {0})) (file : File) (a b : Bool) (fit : a ≡ fits file) (new : b ≡ may file) where
  judged : judge_name i (λ s. a) (λ s. b) file ≡ judge_name i fits may file
  judged =
      ap (λ (x : Bool). judge_name i (λ s. x) (λ s. b) file) fit
      ∙ ap (λ (y : Bool). judge_name i (λ s. fits file) (λ s. y) file) new

  pub judge_stops : (halt : Halt) → Stops halt (judge_name i (λ s. a) (λ s. b) file) → Stops halt (and_then (judge_name i fits may file) (λ _. rest))
  judge_stops halt e =
      behind_stops (λ (u : Unit {0}). rest) (judge_name i fits may file) halt
      (subst (λ (r : Result (Unit {0} × File) Refusal). Stops halt r) judged e)

  pub judge_is : judge_name i (λ s. a) (λ s. b) file ≡ Ok (tt, file) → and_then (judge_name i fits may file) (λ _. rest) ≡ rest file
  judge_is e = behind (λ (u : Unit {0}). rest) (judge_name i fits may file) tt file (sym judged ∙ e)

module _ (i : Identifier) (t : CType) (file : File) where
  -- Functions.

  pub mentioned_before : is_new file i.name ≡ false → file ≡ mention_function i t file
  mentioned_before e = sym (ap (λ (b : Bool). if b then record (add_meaning i.name (m.Function t) file) { functions = with_function file.functions i t } else file) e)

  pub mentioned_first : (now : File) (functions : List Declared) → is_new file i.name ≡ true → now ≡ add_meaning i.name (m.Function t) file → functions ≡ with_function now.functions i t
      → record now { functions = functions } ≡ mention_function i t file
  mentioned_first now functions e is all =
      ap (λ (fs : List Declared). record now { functions = fs }) all
      ∙ ap (λ (s : File). record s { functions = with_function s.functions i t }) is
      ∙ sym (ap (λ (b : Bool). if b then record (add_meaning i.name (m.Function t) file) { functions = with_function file.functions i t } else file) e)

  module _ (right : Option (Place × Initialiser)) (a b : Bool) (fit : a ≡ returns_well t) (new : b ≡ may_declare file i.name (m.Function t)) where
    abbrev function_fits : File → Bool
    function_fits s = returns_well t

    abbrev function_new : File → Bool
    function_new s = may_declare s i.name (m.Function t)

    abbrev function_rest : Filing (Unit {0})
    function_rest = modify (mention_function i t) >> no_initialiser right

    pub function_stops : (halt : Halt) → Stops halt (judge_name i (λ s. a) (λ s. b) file) → Stops halt (function_of_name i t right file)
    function_stops halt e = judge_stops i function_fits function_new function_rest file a b fit new halt e

    pub function_is : judge_name i (λ s. a) (λ s. b) file ≡ Ok (tt, file) → function_of_name i t right file ≡ no_initialiser right (mention_function i t file)
    function_is e = judge_is i function_fits function_new function_rest file a b fit new e

  -- Variables.

  module _ (defines : Bool) (right : Option (Place × Initialiser)) where
    abbrev pub variable_fits : File → Bool
    variable_fits s = is_object_type s.tags.structs t

    abbrev pub variable_new : File → Bool
    variable_new s = may_declare s i.name (m.Variable i.name t kept.Global) && not (defines && has_variable s i.name)

    module _ (a b : Bool) (fit : a ≡ variable_fits file) (new : b ≡ variable_new file) where
      abbrev variable_rest : Filing (Unit {0})
      variable_rest = modify (mention_variable i t) >> define_if defines i t right

      pub variable_stops : (halt : Halt) → Stops halt (judge_name i (λ s. a) (λ s. b) file) → Stops halt (variable_of_name defines i t right file)
      variable_stops halt e = judge_stops i variable_fits variable_new variable_rest file a b fit new halt e

      pub variable_is : judge_name i (λ s. a) (λ s. b) file ≡ Ok (tt, file) → variable_of_name defines i t right file ≡ define_if defines i t right (mention_variable i t file)
      variable_is e = judge_is i variable_fits variable_new variable_rest file a b fit new e

  -- Names of types.

  module _ (specifiers : Specifiers) (base : CType) (d : Declarator) (a b : Bool) (fit : a ≡ returns_well t) (new : b ≡ is_new file i.name) where
    abbrev typedef_fits : File → Bool
    typedef_fits s = returns_well t

    abbrev typedef_new : File → Bool
    typedef_new s = is_new s i.name

    abbrev typedef_rest : Filing (Unit {0})
    typedef_rest = λ s. Ok (tt, add_meaning i.name (m.Type t (is_some (constant_at (top s) specifiers base d))) s)

    pub typedef_stops : (halt : Halt) → Stops halt (judge_name i (λ s. a) (λ s. b) file) → Stops halt (typedef_of_name specifiers base d i t file)
    typedef_stops halt e = judge_stops i typedef_fits typedef_new typedef_rest file a b fit new halt e

    pub typedef_is : judge_name i (λ s. a) (λ s. b) file ≡ Ok (tt, file)
        → typedef_of_name specifiers base d i t file ≡ Ok (tt, add_meaning i.name (m.Type t (is_some (constant_at (top file) specifiers base d))) file)
    typedef_is e = judge_is i typedef_fits typedef_new typedef_rest file a b fit new e
