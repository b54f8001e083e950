-- Readers of types put no tokens back.
use Rattle.std.proofs.Common.{◌≡◌, ℕ, zero, suc, ◌+◌, ◌-◌, pred, Err, refl, sub-one}
use Rattle.std.specs.Prelude.{None}
use Rattle.floyd_text.specs.declared.place.Place.{Place}
use Rattle.floyd_lex.specs.declared.kinds.Punctuator.TheVariants as p
use Rattle.floyd_grammar.specs.ParseClauses.{Parser, one, ◌>>◌}
use Rattle.floyd_cparse_types.specs.declared.values.Declared.{Declared}
use Rattle.floyd_cparse_types.specs.declared.values.Declared.TheVariants as of
use Rattle.floyd_cparse_types.specs.declared.values.Parameters.{Parameters}
use Rattle.floyd_cparse_types.specs.declared.values.ReadDeclarator.{ReadDeclarator}
use Rattle.floyd_cparse_types.specs.declared.values.SizeStart.{SizeStart}
use Rattle.floyd_cparse_types.specs.declared.values.SizeStart.TheVariants as size_start
use Rattle.floyd_cparse_types.specs.declared.values.SuffixStart.{SuffixStart}
use Rattle.floyd_cparse_types.specs.declared.values.SuffixStart.TheVariants as suffix_start
use Rattle.floyd_cparse_tokens.specs.Tokens.{Sight, Types, is_mark, without_room}
use Rattle.floyd_cparse_types.specs.Types.{star_token, comma_token, plus_declarator, first_declarator, field_end, parameter_comma, parameters_end, no_parameters_end, plus_parameter, suffix_token, size_token, size_end}
use Rattle.floyd_cparse_types.specs.TypeClauses.{within, star, field_declarators, field, parameter, parameters, parameter_list, empty_parameters, params, after_size, after_suffix, suffix, specs, dtor, nothing_left}
use Rattle.floyd_cparse_types.proofs.TypeExact.{consts_exact}
use Rattle.floyd_cparse_types.proofs.DeclaratorExact.{within_exact}
use Rattle.floyd_cparse_tokens.proofs.Shrinks.{Shrinks, Eats, shrinks, one_eats, pure_shrinks, then_shrinks, then_eats, either_shrinks, folded_shrinks, exact_shrinks, exact_eats}

pub star_eats : (room count : ℕ) → Eats (star room count)
unfolding star
star_eats room count = then_eats (one_eats (star_token room count)) (λ place. then_shrinks (exact_shrinks (consts_exact room (count + 1) None)) (λ constant. pure_shrinks (record { place = place; constant = constant })))

module _ (types : Types) (room : ℕ) where
  pub specs_eats : (count : ℕ) → Eats ((within types room).specs count)
  specs_eats count = exact_eats ((within_exact types room).specs count) ((within_exact types room).specs_solid count)

  pub dtor_shrinks : (declared : Declared) (count : ℕ) → Shrinks ((within types room).dtor declared count)
  dtor_shrinks declared count = exact_shrinks ((within_exact types room).dtor declared count)

  abbrev pub next_declarator : Parser Sight ReadDeclarator
  next_declarator = one comma_token >> (within types room).dtor of.Field 0

  pub next_declarator_eats : Eats next_declarator
  next_declarator_eats = then_eats (one_eats comma_token) (λ _. dtor_shrinks of.Field 0)

  field_declarators_shrinks : Shrinks (field_declarators types room (within types room))
  unfolding field_declarators
  field_declarators_shrinks =
      then_shrinks (dtor_shrinks of.Field 0)
      (λ first. folded_shrinks (λ _. is_mark p.Comma) plus_declarator (λ _. next_declarator) (λ _. shrinks next_declarator_eats) (first_declarator first))

  pub field_eats : Eats (field types room (within types room))
  unfolding field
  field_eats =
      then_eats (specs_eats 0)
      (λ specifiers. then_shrinks field_declarators_shrinks
      (λ all. then_shrinks (shrinks (one_eats (field_end types (pred room) all.end))) (λ _. pure_shrinks (record { specifiers = specifiers.tree; declarators = all.items }))))

  parameter_shrinks : (count : ℕ) → Shrinks (parameter types room (within types room) count)
  unfolding parameter
  parameter_shrinks count = then_shrinks (shrinks (specs_eats count)) (λ specifiers. then_shrinks (dtor_shrinks of.Parameter count) (λ declarator. pure_shrinks _))

  abbrev pub next_parameter : Parameters → Parser Sight Parameters
  next_parameter all = one (parameter_comma (pred room) all.end) >> parameter types room (within types room) all.end.count

  pub next_parameter_eats : (all : Parameters) → Eats (next_parameter all)
  next_parameter_eats all = then_eats (one_eats (parameter_comma (pred room) all.end)) (λ _. parameter_shrinks all.end.count)

  params_shrinks : (count : ℕ) → Shrinks (params types room (within types room) count)
  unfolding params empty_parameters parameter_list parameters
  params_shrinks count =
      either_shrinks (is_mark p.CloseParen)
      (then_shrinks (shrinks (one_eats no_parameters_end)) (λ _. pure_shrinks _))
      (then_shrinks
      (then_shrinks (parameter_shrinks count) (λ first. folded_shrinks (λ _. is_mark p.Comma) plus_parameter next_parameter (λ all. shrinks (next_parameter_eats all)) first))
      (λ all. then_shrinks (shrinks (one_eats (parameters_end types (pred room) all.end))) (λ _. pure_shrinks _)))

  after_size_shrinks : (x : ReadDeclarator) (place : Place) (z : SizeStart) → Shrinks (after_size types room (within types room) x place z)
  unfolding after_size
  after_size_shrinks x place size_start.End = pure_shrinks _
  after_size_shrinks x place (size_start.Size literal) = then_shrinks (shrinks (one_eats (size_end types (pred room) (x.end.count + 1)))) (λ _. pure_shrinks _)

  after_suffix_shrinks : (x : ReadDeclarator) (z : SuffixStart) → Shrinks (after_suffix types room (within types room) x z)
  unfolding after_suffix
  after_suffix_shrinks x (suffix_start.Array place) = then_shrinks (shrinks (one_eats (size_token types (pred room) (x.end.count + 1)))) (after_size_shrinks x place)
  after_suffix_shrinks x (suffix_start.Function place) = then_shrinks (params_shrinks (x.end.count + 1)) (λ all. pure_shrinks _)

  pub suffix_eats : (declared : Declared) (x : ReadDeclarator) → Eats (suffix types room (within types room) declared x)
  unfolding suffix
  suffix_eats declared x = then_eats (one_eats (suffix_token types declared room x.end)) (after_suffix_shrinks x)

-- the readers one bracket further out, where nothing is left and where something is
pub specs_none : (types : Types) (n count : ℕ) → n ≡ 0 → (within types n).specs count ≡ one (λ s. Err (without_room count s))
unfolding within nothing_left
specs_none types n count e = rw e refl

pub specs_some : (types : Types) (n count : ℕ) → (n ≡ 0 → ⊥) → (within types n).specs count ≡ specs types (n - 1) (within types (n - 1)) count
unfolding within
specs_some types zero count some = absurd (some refl)
specs_some types (suc n) count some = rw sub-one refl

pub dtor_none : (types : Types) (n : ℕ) (declared : Declared) (count : ℕ) → n ≡ 0 → (within types n).dtor declared count ≡ one (λ s. Err (without_room count s))
unfolding within nothing_left
dtor_none types n declared count e = rw e refl

pub dtor_some : (types : Types) (n : ℕ) (declared : Declared) (count : ℕ) → (n ≡ 0 → ⊥) → (within types n).dtor declared count ≡ dtor types (n - 1) (within types (n - 1)) declared count
unfolding within
dtor_some types zero declared count some = absurd (some refl)
dtor_some types (suc n) declared count some = rw sub-one refl
