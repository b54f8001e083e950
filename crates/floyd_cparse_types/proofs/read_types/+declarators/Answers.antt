use Rattle.std.proofs.Common.{Ok, pred, sym, ◌∙◌}
use Rattle.floyd_lex.specs.declared.kinds.Punctuator.TheVariants as p
use Rattle.floyd_grammar.specs.ParseClauses.{one}
use Rattle.floyd_cparse_tokens.specs.Tokens.{is_mark}
use Rattle.floyd_cparse_types.specs.Types.{comma_token, parameter_comma, first_declarator, plus_declarator, plus_parameter}
use Rattle.floyd_cparse_types.specs.TypeClauses.{within, field_declarators, parameters, parameter}
use Rattle.floyd_cparse_types.specs.declared.values.Declared.TheVariants as of
use Rattle.floyd_cparse_tokens.proofs.ReadLemmas.{gives_next, gives_then, gives_init}
use Rattle.floyd_cparse_types.proofs.TypeShrinks.{next_declarator, next_declarator_eats, next_parameter, next_parameter_eats, field_eats, suffix_eats, specs_none, specs_some, dtor_none, dtor_some}
use Rattle.floyd_cparse_types.proofs.read_types.+declarators.Goals as goal

pub read_specs-returns-then-room-eq0 : goal.read_specs-returns-then-room-eq0
read_specs-returns-then-room-eq0 t c = rw (specs_none c.args.types.now c.args.room c.args.count c.if-room-eq0.true) c.refuse_without_room.ensures

pub read_specs-returns : goal.read_specs-returns
read_specs-returns t c = rw (specs_some c.args.types.now c.args.room c.args.count c.if-room-eq0.false) c.read_specs_inside.ensures

pub read_dtor-returns-then-room-eq0 : goal.read_dtor-returns-then-room-eq0
read_dtor-returns-then-room-eq0 t c = rw (dtor_none c.args.types.now c.args.room c.args.declared c.args.count c.if-room-eq0.true) c.refuse_without_room.ensures

pub read_dtor-returns : goal.read_dtor-returns
read_dtor-returns t c = rw (dtor_some c.args.types.now c.args.room c.args.declared c.args.count c.if-room-eq0.false) c.read_dtor_inside.ensures

pub read_field_declarators-each-init : goal.read_field_declarators-each-init
unfolding field_declarators
read_field_declarators-each-init t c =
    rw c.in_ok-all.ensures
    (gives_init (λ _. is_mark p.Comma) plus_declarator (λ _. next_declarator c.args.types.now c.args.room) first_declarator ((within c.args.types.now c.args.room).dtor of.Field 0) c.in_ok-first.first c.args.reader.now c.read_dtor.new.reader c.in_ok-first.ensures)

pub read_field_declarators-each-smaller : goal.read_field_declarators-each-smaller
read_field_declarators-each-smaller t c =
    (next_declarator_eats c.args.types.now c.args.room).law c.each.reader c.in_ok-next.next c.read_dtor-in-each.new.reader
    (gives_then (one comma_token) (λ _. (within c.args.types.now c.args.room).dtor of.Field 0) c.in_ok-take_comma.field-0 c.each.reader c.take_comma.new.reader c.read_dtor-in-each.new.reader (Ok c.in_ok-next.next) c.in_ok-take_comma.ensures c.in_ok-next.ensures)

pub read_field_declarators-each-preserved : goal.read_field_declarators-each-preserved
read_field_declarators-each-preserved t c =
    rw c.in_ok-all-2.ensures
    (gives_next c.each.invariant (next_declarator_eats c.args.types.now c.args.room) (sym c.leads_mark.ensures ∙ c.each-test.true) c.in_ok-next.next c.read_dtor-in-each.new.reader
    (gives_then (one comma_token) (λ _. (within c.args.types.now c.args.room).dtor of.Field 0) c.in_ok-take_comma.field-0 c.each.reader c.take_comma.new.reader c.read_dtor-in-each.new.reader (Ok c.in_ok-next.next) c.in_ok-take_comma.ensures c.in_ok-next.ensures))

pub read_fields-each-smaller : goal.read_fields-each-smaller
read_fields-each-smaller t c = (field_eats c.args.types.now c.args.room).law c.each.reader c.in_ok-next.next c.read_field-in-each.new.reader c.in_ok-next.ensures

pub read_fields-each-preserved : goal.read_fields-each-preserved
read_fields-each-preserved t c =
    rw c.in_ok-push-2.ensures.ok
    (gives_next c.each.invariant (field_eats c.args.types.now c.args.room) (sym c.leads_other.ensures ∙ c.each-test.true) c.in_ok-next.next c.read_field-in-each.new.reader c.in_ok-next.ensures)

pub read_some_parameters-each-init : goal.read_some_parameters-each-init
unfolding parameters
read_some_parameters-each-init t c =
    gives_init (λ _. is_mark p.Comma) plus_parameter (next_parameter c.args.types.now c.args.room) (λ first. first) (parameter c.args.types.now c.args.room (within c.args.types.now c.args.room) c.args.count) c.in_ok-all.all c.args.reader.now c.read_parameter.new.reader c.in_ok-all.ensures

pub read_some_parameters-each-smaller : goal.read_some_parameters-each-smaller
read_some_parameters-each-smaller t c =
    (next_parameter_eats c.args.types.now c.args.room c.each.all).law c.each.reader c.in_ok-next.next c.read_parameter-in-each.new.reader
    (gives_then (one (parameter_comma (pred c.args.room) c.each.all.end)) (λ _. parameter c.args.types.now c.args.room (within c.args.types.now c.args.room) c.each.all.end.count) c.in_ok-take_parameter_comma.field-0 c.each.reader c.take_parameter_comma.new.reader c.read_parameter-in-each.new.reader (Ok c.in_ok-next.next) (rw (← c.inside.ensures) c.in_ok-take_parameter_comma.ensures) c.in_ok-next.ensures)

pub read_some_parameters-each-preserved : goal.read_some_parameters-each-preserved
read_some_parameters-each-preserved t c =
    rw c.in_ok-all-2.ensures
    (gives_next c.each.invariant (next_parameter_eats c.args.types.now c.args.room c.each.all) (sym c.leads_mark.ensures ∙ c.each-test.true) c.in_ok-next.next c.read_parameter-in-each.new.reader
    (gives_then (one (parameter_comma (pred c.args.room) c.each.all.end)) (λ _. parameter c.args.types.now c.args.room (within c.args.types.now c.args.room) c.each.all.end.count) c.in_ok-take_parameter_comma.field-0 c.each.reader c.take_parameter_comma.new.reader c.read_parameter-in-each.new.reader (Ok c.in_ok-next.next) (rw (← c.inside.ensures) c.in_ok-take_parameter_comma.ensures) c.in_ok-next.ensures))

pub read_suffixes-each-smaller : goal.read_suffixes-each-smaller
read_suffixes-each-smaller t c = (suffix_eats c.args.types.now c.args.room c.args.declared c.each.all).law c.each.reader c.in_ok-all.all c.read_suffix.new.reader c.in_ok-all.ensures

pub read_suffixes-each-preserved : goal.read_suffixes-each-preserved
read_suffixes-each-preserved t c =
    gives_next c.each.invariant (suffix_eats c.args.types.now c.args.room c.args.declared c.each.all) (sym c.leads_suffix.ensures ∙ c.each-test.true) c.in_ok-all.all c.read_suffix.new.reader c.in_ok-all.ensures
