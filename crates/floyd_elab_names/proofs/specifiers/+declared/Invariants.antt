use Rattle.std.proofs.Common.{◌≡◌, [], map, drop}
use Rattle.floyd_elab_names.specs.Refusing.{in_turn}
use Rattle.floyd_elab_names.specs.DeclaratorClauses.{add_field, add_fields, add_parameter}
use Rattle.floyd_elab_names.proofs.specifiers.+declared.Given as goal

-- what is to come gives what all gives
abbrev pub invariant-all_fields-rows : goal.invariant-all_fields-rows
invariant-all_fields-rows l =
    in_turn (map (add_fields l.names l.site) (drop l.row-index l.rows)) l.fields l.tags ≡ in_turn (map (add_fields l.names l.site) l.rows) [] l.fn.tags

abbrev pub invariant-add_fields-declarators : goal.invariant-add_fields-declarators
invariant-add_fields-declarators l =
    (l.t ≡ l.initial.t)
    × (in_turn (map (add_field l.names l.site l.initial.t) (drop l.d-index l.d-items)) l.fields l.tags ≡ in_turn (map (add_field l.names l.site l.initial.t) l.d-items) l.initial.fields l.initial.tags)

abbrev pub invariant-all_parameters-parameters : goal.invariant-all_parameters-parameters
invariant-all_parameters-parameters l =
    in_turn (map (add_parameter l.names l.site) (drop l.p-index l.parameters)) l.all l.tags ≡ in_turn (map (add_parameter l.names l.site) l.parameters) [] l.fn.tags
