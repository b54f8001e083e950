-- Words of private clauses: what a field, the fields of one base and a parameter add, as the program's lists have them.
use Rattle.std.specs.Prelude.{map}
use Rattle.floyd_ctypes.specs.declared.ctype.CType.{CType}
use Rattle.floyd_cparse_trees.specs.declared.types.FieldDeclaration.{FieldDeclaration}
use Rattle.floyd_cparse_trees.specs.declared.types.Parameter.{Parameter}
use Rattle.floyd_cparse_trees.specs.declared.types.Declarator as d
use Rattle.floyd_elab_names.specs.Refusals.{Site}
use Rattle.floyd_elab_names.specs.Scopes.{Scopes}
use Rattle.floyd_elab_names.specs.Declarators.{Adding, field_after, fields_after, parameter_after, base_type, made_by, name_site}

module _ (scopes : Scopes) where
  abbrev pub add_field : Site → CType → d.Declarator → Adding
  add_field site t d = field_after site d (made_by scopes (name_site site d) d) t

  abbrev pub add_fields : Site → FieldDeclaration → Adding
  add_fields site g = fields_after (base_type scopes site g.specifiers.base) (λ t. map (add_field site t) g.declarators)

  abbrev pub add_parameter : Site → Parameter → Adding
  add_parameter site p = parameter_after site p.declarator (base_type scopes site p.specifiers.base) (made_by scopes (name_site site p.declarator) p.declarator)
