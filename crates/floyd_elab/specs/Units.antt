-- Elaboration of a whole file: its declarations in order.
use Rattle.std.specs.Prelude.{Bool, true, false, ◌&&◌, ◌||◌, not, List, [], ◌∷◌, ◌++◌, map, Option, Some, None, is_some, Result, Ok, Err, if◌then◌else◌}
use Rattle.std.specs.List.{list_all, filter}
use Rattle.std.specs.Option.{unwrap_or}
use Rattle.floyd_text.specs.declared.place.Place.{Place}
use Rattle.floyd_text.specs.declared.refusal.Refusal.{Refusal}
use Rattle.floyd_ctypes.specs.declared.ctype.CType.{CType, Void}
use Rattle.floyd_ctypes.specs.Structs.{Structs, fields_of}
use Rattle.floyd_cparse_trees.specs.declared.types.Identifier.{Identifier}
use Rattle.floyd_cparse_trees.specs.declared.types.Specifiers.{Specifiers}
use Rattle.floyd_cparse_trees.specs.declared.types.Declarator as d
use Rattle.floyd_cparse_trees.specs.declared.statements.CStatement as c
use Rattle.floyd_cparse_trees.specs.declared.declarations.CUnit.{CUnit}
use Rattle.floyd_cparse_trees.specs.declared.declarations.External.{External}
use Rattle.floyd_cparse_trees.specs.declared.declarations.External.TheVariants as external
use Rattle.floyd_cparse_trees.specs.declared.declarations.FunctionDefinition.{FunctionDefinition}
use Rattle.floyd_cparse_trees.specs.declared.declarations.InitDeclarator.{InitDeclarator}
use Rattle.floyd_cparse_trees.specs.declared.declarations.Initialiser.{Initialiser}
use Rattle.floyd_elab_names.specs.declared.meaning.Meaning.TheVariants as m
use Rattle.floyd_elab_names.specs.declared.meaning.Storage.TheVariants as kept
use Rattle.floyd_elab_names.specs.declared.tags.Tags.{Tags}
use Rattle.floyd_elab_names.specs.Refusals.{Site, left_out, ill_typed, redeclared}
use Rattle.floyd_elab_names.specs.Refusing.{◌>>=◌, ◌>>◌, pure, refuse, unless, of_kept, modify}
use Rattle.floyd_elab_names.specs.Typing.{the_structs}
use Rattle.floyd_elab_names.specs.Scopes.{Scope}
use Rattle.floyd_elab_names.specs.Types.{is_function, is_object_within, is_object_type, returns_well}
use Rattle.floyd_ctyping.specs.Operators.{signature_of}
use Rattle.floyd_elab_names.specs.Declarators.{name_of, limit_site, is_bare, base_type, declarator_type}
use Rattle.floyd_clight.specs.declared.initial.Initial as initial
use Rattle.floyd_clight.specs.declared.initial.Initial.{Initial}
use Rattle.floyd_clight.specs.declared.syntax.Stmt.{Stmt}
use Rattle.floyd_clight.specs.declared.unit.ClightUnit.{ClightUnit}
use Rattle.floyd_clight.specs.declared.unit.Defined.{Defined}
use Rattle.floyd_clight.specs.declared.unit.Local.{Local}
use Rattle.floyd_clight.specs.declared.unit.StructDef.{StructDef}
use Rattle.floyd_clight.specs.declared.unit.Variable.{Variable}
use Rattle.floyd_elab_expressions.specs.Clight.{sequence}
use Rattle.floyd_elab_expressions.specs.declared.progress.Progress.{Progress}
use Rattle.floyd_elab_statements.specs.Locals.{nowhere}
use Rattle.floyd_elab_statements.specs.Statements.{body}
use Rattle.floyd_elab_data.specs.Contents.{contents}
use Rattle.floyd_elab_data.specs.Constant.{constant_at}
use Rattle.floyd_elab.specs.declared.file.File.{File}
use Rattle.floyd_elab.specs.Files.{Filing, top, typing, may_declare, has_variable, has_body, is_new, add_meaning, mention_variable, define_variable, mention_function, define_function}

-- Names at the top of a file.

-- the name of a declarator, which has one here
abbrev pub declarator_name : d.Declarator → Identifier
declarator_name d = unwrap_or (name_of d) (record { name = []; place = nowhere.place })

-- refuses where there is something to refuse at
abbrev pub unless_at : Option Site → Filing (Unit {0})
unless_at None = pure tt
unless_at (Some site) = refuse (left_out site)

-- the type of a declarator, which is not too large or too deep
abbrev pub declare_type : CType → d.Declarator → Filing CType
declare_type base d = do
  t ← typing (λ scopes. declarator_type scopes nowhere base d)
  structs ← typing (λ scopes. the_structs)
  unless (left_out (limit_site nowhere d)) (is_object_within structs t)
  pure t

-- refuses at a name what does not fit there as ill typed, and then what may not be declared as declared before
abbrev pub judge_name : Identifier → (File → Bool) → (File → Bool) → Filing (Unit {0})
judge_name i fits may = do
  file ← of_kept (λ file. file)
  unless (ill_typed i.place) (fits file)
  unless (redeclared i) (may file)

-- Variables.

-- the contents of a variable that is defined without an initialiser are zeros
abbrev pub contents_of : CType → Option (Place × Initialiser) → Filing Initial
contents_of t None = pure initial.Absent
contents_of t (Some right) = typing (λ scopes. contents scopes right.0 t right.1)

abbrev pub define_if : Bool → Identifier → CType → Option (Place × Initialiser) → Filing (Unit {0})
define_if false i t right = pure tt
define_if true i t right = do
  first ← contents_of t right
  modify (define_variable i t first)

-- a variable of that name and type
abbrev pub variable_of_name : Bool → Identifier → CType → Option (Place × Initialiser) → Filing (Unit {0})
variable_of_name defines i t right = do
  judge_name i (λ file. is_object_type file.tags.structs t) (λ file. may_declare file i.name (m.Variable i.name t kept.Global) && not (defines && has_variable file i.name))
  modify (mention_variable i t)
  define_if defines i t right

-- A variable is defined where it is declared without `extern` or with an initialiser, and only once. It is in scope in
-- its own initialiser.
abbrev pub variable : Bool → CType → InitDeclarator → Filing (Unit {0})
variable external t d = variable_of_name (not external || is_some d.initialiser) (declarator_name d.declarator) t d.initialiser

-- Functions that are declared.

abbrev pub no_initialiser : Option (Place × Initialiser) → Filing (Unit {0})
no_initialiser None = pure tt
no_initialiser (Some right) = refuse (ill_typed right.0)

abbrev pub function_of_name : Identifier → CType → Option (Place × Initialiser) → Filing (Unit {0})
function_of_name i t right = do
  judge_name i (λ file. returns_well t) (λ file. may_declare file i.name (m.Function t))
  modify (mention_function i t)
  no_initialiser right

abbrev pub function : CType → InitDeclarator → Filing (Unit {0})
function t d = function_of_name (declarator_name d.declarator) t d.initialiser

-- A variable's type is not const at its top.
abbrev pub declare_one : Bool → Specifiers → CType → InitDeclarator → Filing (Unit {0})
declare_one external specifiers base d = do
  file ← of_kept (λ file. file)
  unless_at (constant_at (top file) specifiers base d.declarator)
  t ← declare_type base d.declarator
  if is_function t then function t d else variable external t d

abbrev pub declare_all : Bool → Specifiers → CType → List InitDeclarator → Filing (Unit {0})
declare_all external specifiers base [] = pure tt
declare_all external specifiers base (d ∷ ds) = declare_one external specifiers base d >> declare_all external specifiers base ds

-- Typedefs. A name of a type is declared once, and may lack a size.

abbrev pub typedef_of_name : Specifiers → CType → d.Declarator → Identifier → CType → Filing (Unit {0})
typedef_of_name specifiers base d i t = do
  judge_name i (λ file. returns_well t) (λ file. is_new file i.name)
  file ← of_kept (λ file. file)
  modify (add_meaning i.name (m.Type t (is_some (constant_at (top file) specifiers base d))))

abbrev pub typedef : Specifiers → CType → d.Declarator → Filing (Unit {0})
typedef specifiers base d = do
  t ← declare_type base d
  typedef_of_name specifiers base d (declarator_name d) t

abbrev pub all_typedefs : Specifiers → CType → List d.Declarator → Filing (Unit {0})
all_typedefs specifiers base [] = pure tt
all_typedefs specifiers base (d ∷ ds) = typedef specifiers base d >> all_typedefs specifiers base ds

-- Functions with a body.

abbrev pub parameter_names : {m : _} → d.Row_of-Parameter m → List (Option Identifier)
parameter_names d.end_of-Parameter = []
parameter_names (d.more_of-Parameter constant base d rest) = name_of d ∷ parameter_names rest

-- The names of the parameters of a declarator that is a function's own: its parentheses stand directly behind its name.
-- A declarator of anything else has none.
abbrev pub own_parameters : d.Declarator → Option (List (Option Identifier))
own_parameters (d.Name i) = None
own_parameters d.Absent = None
own_parameters (d.Parenthesised' place p (d.more_of-Declarator inner d.end_of-Declarator)) = own_parameters inner
own_parameters (d.Pointer' stars p (d.more_of-Declarator inner d.end_of-Declarator)) = own_parameters inner
own_parameters (d.Array' p (d.more_of-Declarator inner d.end_of-Declarator) place size) = own_parameters inner
own_parameters (d.Function' p (d.more_of-Declarator inner d.end_of-Declarator) place shape ps) = if is_bare inner then Some (parameter_names ps) else own_parameters inner

-- each parameter has a name
abbrev pub have_all_names : Option (List (Option Identifier)) → Bool
have_all_names None = false
have_all_names (Some names) = list_all is_some names

abbrev pub pair : List (Option Identifier) → List CType → List Local
pair (Some i ∷ names) (t ∷ ts) = record { name = i.name; ctype = t } ∷ pair names ts
pair names ts = []

abbrev pub parameters_of : d.Declarator → CType → List Local
parameters_of d t = pair (unwrap_or (own_parameters d) []) (unwrap_or (signature_of t) ([], Void)).0

abbrev pub result_of : CType → CType
result_of t = (unwrap_or (signature_of t) ([], Void)).1

-- parameters are one scope with the outermost block of the body
abbrev pub parameter_scope : List Local → Scope
parameter_scope parameters = map (λ (p : Local). (p.name, m.Variable p.name p.ctype kept.Parameter)) parameters

abbrev pub first_progress : Tags → List Local → Progress
first_progress tags parameters = record { tags = tags; drawn = 0; names = map (λ (p : Local). p.name) parameters; temporaries = []; blocks = [] }

abbrev pub definition : Identifier → CType → List Local → List Stmt → Progress → Defined
definition i result parameters statements progress = record {
  name = i.name;
  place = i.place;
  result = result;
  parameters = parameters;
  blocks = progress.blocks;
  temporaries = progress.temporaries;
  body = sequence statements;
}

abbrev pub with_body : Identifier → CType → List Local → File → Result (List Stmt × Progress) Refusal → Result (Unit {0} × File) Refusal
with_body i result parameters file (Ok r) = Ok (tt, define_function (definition i result parameters r.0 r.1) (record file { tags = r.1.tags }))
with_body i result parameters file (Err refusal) = Err refusal

abbrev pub define_body : Identifier → CType → List Local → c.CStatement → Filing (Unit {0})
define_body i result parameters block =
    λ file. with_body i result parameters file (body result (parameter_scope parameters ∷ top file) block (first_progress file.tags parameters))

-- A function is in scope in its own body.
abbrev pub function_with_body : FunctionDefinition → Filing (Unit {0})
function_with_body f = do
  let i = declarator_name f.declarator
  base ← typing (λ scopes. base_type scopes nowhere f.specifiers.base)
  t ← declare_type base f.declarator
  judge_name i (λ file. have_all_names (own_parameters f.declarator) && returns_well t) (λ file. may_declare file i.name (m.Function t) && not (has_body file i.name))
  modify (mention_function i t)
  define_body i (result_of t) (parameters_of f.declarator t) (c.Block f.body)

-- Files.

abbrev pub elaborate_external : External → Filing (Unit {0})
elaborate_external (external.Declaration d) = do
  base ← typing (λ scopes. base_type scopes nowhere d.specifiers.base)
  declare_all d.external d.specifiers base d.declarators
elaborate_external (external.Typedef d) = do
  base ← typing (λ scopes. base_type scopes nowhere d.specifiers.base)
  all_typedefs d.specifiers base d.declarators
elaborate_external (external.Function f) = function_with_body f

abbrev pub elaborate_externals : List External → Filing (Unit {0})
elaborate_externals [] = pure tt
elaborate_externals (e ∷ es) = elaborate_external e >> elaborate_externals es

abbrev pub empty_file : File
empty_file = record {
  tags = record { structs = []; completed = [] };
  scope = [];
  defined = [];
  mentioned = [];
  functions = [];
  bodies = [];
}

-- the structs in the order in which they were completed
abbrev pub struct_of : Structs → Identifier → StructDef
struct_of structs tag = record { tag = tag.name; place = tag.place; fields = unwrap_or (fields_of structs tag.name) [] }

-- the variables that are only declared
abbrev pub only_declared : File → List Variable
only_declared file = filter (λ (v : Variable). not (has_variable file v.name)) file.mentioned

abbrev pub unit_of : File → ClightUnit
unit_of file = record {
  structs = map (struct_of file.tags.structs) file.tags.completed;
  variables = file.defined ++ only_declared file;
  declared = file.functions;
  defined = file.bodies;
}

abbrev pub unit_in : Result (Unit {0} × File) Refusal → Result ClightUnit Refusal
unit_in (Ok r) = Ok (unit_of r.1)
unit_in (Err refusal) = Err refusal

abbrev pub elaboration : CUnit → Result ClightUnit Refusal
elaboration unit = unit_in (elaborate_externals unit.externals empty_file)
