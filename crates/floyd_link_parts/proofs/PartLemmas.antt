-- What is made one after the other is what all modules have.
use Rattle.std.proofs.Common.{◌≡◌, ℕ, Bool, true, false, ◌&&◌, cond, List, [], ◌∷◌, ◌++◌, map, filter, find, Option, Some, None, refl, sym, ap, ◌∙◌, bytes_eq, append-nil}
use Rattle.std.specs.List.{flat_map}
use Rattle.std.specs.Map.{lookup}
use Rattle.std.specs.Option.{option_or}
use Rattle.std.specs.Prelude.{option_map}
use Rattle.std.proofs.lemmas.List.{append_assoc}
use Rattle.floyd_clight.specs.declared.unit.ClightUnit.{ClightUnit}
use Rattle.floyd_assert_trees.specs.declared.spec.Funspec.{Funspec}
use Rattle.floyd_assert_trees.specs.declared.spec.Precondition.{Precondition}
use Rattle.floyd_specread_sources.specs.Tables.{put_new}
use Rattle.floyd_specread_trees.specs.Views.{has_own, spec_with}
use Rattle.floyd_specread_trees.specs.declared.declarations.Declaration.{Declaration}
use Rattle.floyd_specread_trees.specs.declared.modules.ModuleSpec.{ModuleSpec}
use Rattle.floyd_goal_meaning.specs.declared.linked.LinkedVariable.{LinkedVariable}
use Rattle.floyd_link_mentions.proofs.TableLemmas.{lookup_put, none_behind, or_of_or}
use Rattle.floyd_link_names.specs.Names.{has_contents}
use Rattle.floyd_link_parts.specs.Parts.{is_own_of, linked_variable, linked_variables, own_of}
use Rattle.floyd_link_parts.specs.PartClauses.{Owns, variables_behind, with_modules, with_own, with_owns}

abbrev in_unit : ClightUnit → List LinkedVariable
in_unit u = map linked_variable (filter has_contents u.variables)

behind : (all : List LinkedVariable) (us : List ClightUnit) → variables_behind all us ≡ all ++ flat_map in_unit us
behind all [] = sym (append-nil all)
behind all (u ∷ us) = behind (all ++ in_unit u) us ∙ append_assoc all (in_unit u) (flat_map in_unit us)

pub variables_alike : (us : List ClightUnit) → variables_behind [] us ≡ linked_variables us
variables_alike us = behind [] us

-- ---- specifications

module _ (main_pre : Precondition) (x : List ℕ) where
  abbrev Found : List Declaration → Option Funspec
  Found ds = option_map (spec_with main_pre) (find (is_own_of x) ds)

  first : (d : Declaration) (ds : List Declaration) → Found (d ∷ ds) ≡ option_or (cond (is_own_of x d) (Some (spec_with main_pre d)) None) (Found ds)
  first d ds = by (is_own_of x d)
    where
      by : (b : Bool) → option_map (spec_with main_pre) (cond b (Some d) (find (is_own_of x) ds)) ≡ option_or (cond b (Some (spec_with main_pre d)) None) (Found ds)
      by true = refl
      by false = refl

  no_and : (b : Bool) → b && false ≡ false
  no_and true = refl
  no_and false = refl

  yes_and : (b : Bool) → b && true ≡ b
  yes_and true = refl
  yes_and false = refl

  own_put : (d : Declaration) (table : Owns) → lookup (bytes_eq x) (with_own main_pre d table) ≡ option_or (lookup (bytes_eq x) table) (cond (is_own_of x d) (Some (spec_with main_pre d)) None)
  own_put d table = by (has_own d.kind) refl
    where
      by : (b : Bool) → has_own d.kind ≡ b → lookup (bytes_eq x) (cond b (put_new d.name (spec_with main_pre d) table) table) ≡ option_or (lookup (bytes_eq x) table) (cond (bytes_eq x d.name && has_own d.kind) (Some (spec_with main_pre d)) None)
      by true e =
          lookup_put x d.name (spec_with main_pre d) table
          ∙ ap (λ b. option_or (lookup (bytes_eq x) table) (cond b (Some (spec_with main_pre d)) None)) (sym (ap (λ c. bytes_eq x d.name && c) e ∙ yes_and (bytes_eq x d.name)))
      by false e =
          sym (none_behind (lookup (bytes_eq x) table))
          ∙ ap (λ b. option_or (lookup (bytes_eq x) table) (cond b (Some (spec_with main_pre d)) None)) (sym (ap (λ c. bytes_eq x d.name && c) e ∙ no_and (bytes_eq x d.name)))

  owns_put : (ds : List Declaration) (table : Owns) → lookup (bytes_eq x) (with_owns main_pre ds table) ≡ option_or (lookup (bytes_eq x) table) (Found ds)
  owns_put [] table = sym (none_behind (lookup (bytes_eq x) table))
  owns_put (d ∷ ds) table =
      owns_put ds (with_own main_pre d table)
      ∙ ap (λ (o : Option Funspec). option_or o (Found ds)) (own_put d table)
      ∙ or_of_or (lookup (bytes_eq x) table) (cond (is_own_of x d) (Some (spec_with main_pre d)) None) (Found ds)
      ∙ ap (option_or (lookup (bytes_eq x) table)) (sym (first d ds))

  found_in_parts : (ds es : List Declaration) → Found (ds ++ es) ≡ option_or (Found ds) (Found es)
  found_in_parts [] es = refl
  found_in_parts (d ∷ ds) es =
      first d (ds ++ es)
      ∙ ap (option_or (cond (is_own_of x d) (Some (spec_with main_pre d)) None)) (found_in_parts ds es)
      ∙ sym (or_of_or (cond (is_own_of x d) (Some (spec_with main_pre d)) None) (Found ds) (Found es))
      ∙ ap (λ (o : Option Funspec). option_or o (Found es)) (sym (first d ds))

  abbrev all : List ModuleSpec → List Declaration
  all ms = flat_map (λ (m : ModuleSpec). m.declarations) ms

  modules_put : (ms : List ModuleSpec) (table : Owns) → lookup (bytes_eq x) (with_modules main_pre ms table) ≡ option_or (lookup (bytes_eq x) table) (Found (all ms))
  modules_put [] table = sym (none_behind (lookup (bytes_eq x) table))
  modules_put (m ∷ ms) table =
      modules_put ms (with_owns main_pre m.declarations table)
      ∙ ap (λ (o : Option Funspec). option_or o (Found (all ms))) (owns_put m.declarations table)
      ∙ or_of_or (lookup (bytes_eq x) table) (Found m.declarations) (Found (all ms))
      ∙ ap (option_or (lookup (bytes_eq x) table)) (sym (found_in_parts m.declarations (all ms)))

pub owns_alike : (main_pre : Precondition) (ms : List ModuleSpec) (x : List ℕ) → lookup (bytes_eq x) (with_modules main_pre ms []) ≡ own_of main_pre ms x
owns_alike main_pre ms x = modules_put main_pre x ms []
