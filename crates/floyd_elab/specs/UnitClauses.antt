-- Parts of the definitions, over the lists that the program has.
use Rattle.std.specs.Prelude.{ℕ, Bool, not, List, [], ◌++◌, map, Option, Some, None, if◌then◌else◌}
use Rattle.std.specs.List.{filter}
use Rattle.std.specs.Option.{unwrap_or}
use Rattle.floyd_ctypes.specs.declared.ctype.CType.{CType}
use Rattle.floyd_ctypes.specs.declared.field.Field.{Field}
use Rattle.floyd_ctypes.specs.Structs.{Structs, fields_of}
use Rattle.floyd_cparse_trees.specs.declared.declarations.FunctionDefinition.{FunctionDefinition}
use Rattle.floyd_cparse_trees.specs.declared.declarations.InitDeclarator.{InitDeclarator}
use Rattle.floyd_cparse_trees.specs.declared.types.Base.{Base}
use Rattle.floyd_cparse_trees.specs.declared.types.Declarator.{Declarator}
use Rattle.floyd_cparse_trees.specs.declared.types.Identifier.{Identifier}
use Rattle.floyd_cparse_trees.specs.declared.types.Parameter.{Parameter}
use Rattle.floyd_cparse_trees.specs.declared.types.Specifiers.{Specifiers}
use Rattle.floyd_elab_names.specs.declared.tags.Tags.{Tags}
use Rattle.floyd_elab_names.specs.Refusals.{left_out}
use Rattle.floyd_elab_names.specs.Refusing.{◌>>=◌, unless, of_kept}
use Rattle.floyd_elab_names.specs.Types.{is_function, is_object_within}
use Rattle.floyd_elab_names.specs.Declarators.{name_of, limit_site, base_type, declarator_type}
use Rattle.floyd_ctyping.specs.Operators.{signature_of}
use Rattle.floyd_clight.specs.declared.unit.Declared.{Declared}
use Rattle.floyd_clight.specs.declared.unit.Local.{Local}
use Rattle.floyd_clight.specs.declared.unit.Variable.{Variable}
use Rattle.floyd_elab_statements.specs.Locals.{nowhere}
use Rattle.floyd_elab_names.specs.Typing.{the_structs}
use Rattle.floyd_elab_data.specs.Constant.{constant_at}
use Rattle.floyd_elab.specs.declared.file.File.{File}
use Rattle.floyd_elab.specs.Files.{Filing, top, typing, declaration_of}
use Rattle.floyd_elab.specs.TableClauses.{is_variable}
use Rattle.floyd_elab.specs.Units.{unless_at, declare_type, variable, function}

-- the name of each parameter
abbrev pub names_of : List Parameter → List (Option Identifier)
names_of parameters = map (λ (p : Parameter). name_of p.declarator) parameters

-- the variables that are not among these
abbrev pub not_among : List Variable → List Variable → List Variable
not_among defined variables = filter (λ (v : Variable). not (is_variable v.name defined)) variables

-- the name of no declarator
abbrev pub no_name : Identifier
no_name = record { name = []; place = nowhere.place }

-- the functions that are declared, with one more
abbrev pub with_function : List Declared → Identifier → CType → List Declared
with_function functions i t = functions ++ declaration_of i (signature_of t)

-- a parameter of that name and type, where it has both
abbrev pub local_of : Option Identifier → Option CType → Option Local
local_of (Some i) (Some t) = Some (record { name = i.name; ctype = t })
local_of i t = None

-- the names of parameters
abbrev pub local_names : List Local → List (List ℕ)
local_names parameters = map (λ (p : Local). p.name) parameters

-- the fields of a tag
abbrev pub all_fields : Structs → Identifier → List Field
all_fields structs tag = unwrap_or (fields_of structs tag.name) []

-- the type that specifiers name
abbrev pub declare_base : Base → Filing CType
declare_base base = typing (λ scopes. base_type scopes nowhere base)

-- the type of a function with a body
abbrev pub type_of_heading : FunctionDefinition → Filing CType
type_of_heading f = do
  base ← declare_base f.specifiers.base
  declare_type base f.declarator

-- the type of a declarator, whatever its size
abbrev pub any_type : CType → Declarator → Filing CType
any_type base d = typing (λ scopes. declarator_type scopes nowhere base d)

-- refuses a type that is too large or too deep
abbrev pub unless_large : Declarator → CType → Filing (Unit {0})
unless_large d t = do
  structs ← typing (λ scopes. the_structs)
  unless (left_out (limit_site nowhere d)) (is_object_within structs t)

-- refuses a type that is const at its top
abbrev pub unless_constant : Specifiers → CType → Declarator → Filing (Unit {0})
unless_constant specifiers base d = do
  file ← of_kept (λ file. file)
  unless_at (constant_at (top file) specifiers base d)

-- a function or a variable of that type
abbrev pub declare_as : Bool → InitDeclarator → CType → Filing (Unit {0})
declare_as external d t = if is_function t then function t d else variable external t d

-- no structs
abbrev pub no_tags : Tags
no_tags = record { structs = []; completed = [] }

-- the file while its names, or its structs, are taken out
abbrev pub without_names : File → File
without_names file = record file { scope = [] }

abbrev pub without_tags : File → File
without_tags file = record file { tags = no_tags }
