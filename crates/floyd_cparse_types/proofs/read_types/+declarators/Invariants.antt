use Rattle.std.proofs.Common.{◌+◌, ◌*◌, not, length}
use Rattle.floyd_lex.specs.declared.kinds.Punctuator.TheVariants as p
use Rattle.floyd_grammar.proofs.Turns.{Turning}
use Rattle.floyd_cparse_tokens.specs.Tokens.{is_mark, Sight}
use Rattle.floyd_cparse_types.specs.Types.{latest, plus_declarator, plus_field, plus_parameter}
use Rattle.floyd_cparse_types.specs.TypeClauses.{within, field, field_declarators, field_list, parameters, begins_suffix, suffix, suffixes}
use Rattle.floyd_cparse_types.proofs.TypeShrinks.{next_declarator, next_parameter}
use Rattle.floyd_cparse_types.proofs.read_types.+declarators.Given as goal

abbrev pub decreases-read_base : goal.decreases-read_base
decreases-read_base l = 20 * l.room + 10

abbrev pub decreases-read_core : goal.decreases-read_core
decreases-read_core l = 20 * l.room + 10

abbrev pub decreases-read_dtor : goal.decreases-read_dtor
decreases-read_dtor l = 20 * l.room

abbrev pub decreases-read_field : goal.decreases-read_field
decreases-read_field l = 20 * l.room + 8

abbrev pub decreases-read_field_declarators : goal.decreases-read_field_declarators
decreases-read_field_declarators l = 20 * l.room + 7

abbrev pub decreases-read_fields : goal.decreases-read_fields
decreases-read_fields l = 20 * l.room + 9

abbrev pub decreases-read_parameter : goal.decreases-read_parameter
decreases-read_parameter l = 20 * l.room + 10

abbrev pub decreases-read_parameters : goal.decreases-read_parameters
decreases-read_parameters l = 20 * l.room + 12

abbrev pub decreases-read_some_parameters : goal.decreases-read_some_parameters
decreases-read_some_parameters l = 20 * l.room + 11

abbrev pub decreases-read_specs : goal.decreases-read_specs
decreases-read_specs l = 20 * l.room

abbrev pub decreases-read_suffix : goal.decreases-read_suffix
decreases-read_suffix l = 20 * l.room + 13

abbrev pub decreases-read_suffixes : goal.decreases-read_suffixes
decreases-read_suffixes l = 20 * l.room + 14

abbrev pub invariant-read_field_declarators-each : goal.invariant-read_field_declarators-each
invariant-read_field_declarators-each l = Turning (λ _. is_mark p.Comma) plus_declarator (λ _. next_declarator l.types l.room) l.all l.reader (field_declarators l.types l.room (within l.types l.room) l.fn.reader)

abbrev pub decreases-read_field_declarators-each : goal.decreases-read_field_declarators-each
decreases-read_field_declarators-each l = length l.reader

abbrev pub invariant-read_fields-each : goal.invariant-read_fields-each
invariant-read_fields-each l = Turning (λ _ (s : Sight). not (is_mark p.CloseBrace s)) plus_field (λ _. field l.types l.room (within l.types l.room)) l.all l.reader (field_list l.types l.room (within l.types l.room) l.fn.reader)

abbrev pub decreases-read_fields-each : goal.decreases-read_fields-each
decreases-read_fields-each l = length l.reader

abbrev pub invariant-read_some_parameters-each : goal.invariant-read_some_parameters-each
invariant-read_some_parameters-each l = Turning (λ _. is_mark p.Comma) plus_parameter (next_parameter l.types l.room) l.all l.reader (parameters l.types l.room (within l.types l.room) l.count l.fn.reader)

abbrev pub decreases-read_some_parameters-each : goal.decreases-read_some_parameters-each
decreases-read_some_parameters-each l = length l.reader

abbrev pub invariant-read_suffixes-each : goal.invariant-read_suffixes-each
invariant-read_suffixes-each l = Turning (begins_suffix l.types) latest (suffix l.types l.room (within l.types l.room) l.declared) l.all l.reader (suffixes l.types l.room (within l.types l.room) l.declared l.fn.first l.fn.reader)

abbrev pub decreases-read_suffixes-each : goal.decreases-read_suffixes-each
decreases-read_suffixes-each l = length l.reader

abbrev pub decreases-read_specs_inside : goal.decreases-read_specs_inside
decreases-read_specs_inside l = 20 * l.room + 15

abbrev pub decreases-read_dtor_inside : goal.decreases-read_dtor_inside
decreases-read_dtor_inside l = 20 * l.room + 15
