-- Functions put in one after the other are those of all modules.
use Rattle.std.proofs.Common.{◌≡◌, ℕ, Bool, true, false, ◌&&◌, ◌||◌, cond, List, [], ◌∷◌, ◌++◌, map, filter, find, Option, Some, None, refl, sym, ap, ap₂, ◌∙◌, is_some, bytes_eq, append-nil}
use Rattle.std.specs.List.{flat_map, list_any}
use Rattle.std.specs.Map.{lookup}
use Rattle.std.proofs.lemmas.List.{append_assoc}
use Rattle.floyd_clight.specs.declared.unit.ClightUnit.{ClightUnit}
use Rattle.floyd_clight.specs.declared.unit.Declared.{Declared}
use Rattle.floyd_clight.specs.declared.unit.Defined.{Defined}
use Rattle.floyd_assert_trees.specs.declared.spec.Precondition.{Precondition}
use Rattle.floyd_specread_sources.specs.Tables.{put_new}
use Rattle.floyd_specread_trees.specs.declared.modules.ModuleSpec.{ModuleSpec}
use Rattle.floyd_goal_meaning.specs.declared.linked.LinkedFunction.{LinkedFunction}
use Rattle.floyd_link_mentions.proofs.TableLemmas.{among_put, or_assoc, or_false}
use Rattle.floyd_link_names.specs.declared.entries.Entry.{Entry}
use Rattle.floyd_link_names.specs.DuplicateClauses.{Names, all_names, is_in}
use Rattle.floyd_link_names.specs.Names.{defined_in, has}
use Rattle.floyd_link_names.specs.Tables.{with_names}
use Rattle.floyd_link_names.proofs.DuplicateLemmas.{all_alike, names_alike}
use Rattle.floyd_link_parts.specs.Parts.{external, linked_functions, own_of, with_body, with_externals}
use Rattle.floyd_link_parts.specs.Parts as parts
use Rattle.floyd_link_parts.specs.PartClauses.{Functions, Owns, body_by, external_by, put_bodies, put_body, put_declared, put_external, put_externals, put_units}

abbrev has_function : List LinkedFunction → List ℕ → Bool
has_function all x = list_any (λ (g : LinkedFunction). bytes_eq x g.name) all

any_behind : (x : List ℕ) (all more : List LinkedFunction) → has_function (all ++ more) x ≡ has_function all x || has_function more x
any_behind x [] more = refl
any_behind x (g ∷ all) more = ap (λ b. bytes_eq x g.name || b) (any_behind x all more) ∙ sym (or_assoc (bytes_eq x g.name) (has_function all x) (has_function more x))

one_put : (all : List LinkedFunction) (names : Names) (g : LinkedFunction) → ((x : List ℕ) → is_in names x ≡ has_function all x) → (x : List ℕ) → is_in (put_new g.name tt names) x ≡ has_function (all ++ g ∷ []) x
one_put all names g h x =
    among_put x g.name names ∙ ap (λ b. b || bytes_eq x g.name) (h x)
    ∙ sym (any_behind x all (g ∷ []) ∙ ap (λ b. has_function all x || b) (or_false (bytes_eq x g.name)))

module _ (main_pre : Precondition) (modules : List ModuleSpec) (owns : Owns) (found : (x : List ℕ) → lookup (bytes_eq x) owns ≡ own_of main_pre modules x) where
  body_alike : (d : Defined) → body_by owns d ≡ with_body main_pre modules d
  body_alike d = ap (λ (o : Option _). record (with_body main_pre modules d) { own = o }) (found d.name)

  external_alike : (f : Declared) → external_by owns f ≡ external main_pre modules f
  external_alike f = ap (λ (o : Option _). record (external main_pre modules f) { own = o }) (found f.name)

  abbrev bodies : List Defined → List LinkedFunction
  bodies ds = map (with_body main_pre modules) ds

  bodies_alike : (ds : List Defined) (fs : Functions owns) → (put_bodies owns ds fs).0 ≡ fs.0 ++ bodies ds
  bodies_alike [] fs = sym (append-nil fs.0)
  bodies_alike (d ∷ ds) fs =
      bodies_alike ds (put_body owns d fs)
      ∙ append_assoc fs.0 (body_by owns d ∷ []) (bodies ds)
      ∙ ap (λ (g : LinkedFunction). fs.0 ++ g ∷ bodies ds) (body_alike d)

  bodies_named : (ds : List Defined) (fs : Functions owns) → ((x : List ℕ) → is_in fs.1 x ≡ has_function fs.0 x) → (x : List ℕ) → is_in (put_bodies owns ds fs).1 x ≡ has_function (put_bodies owns ds fs).0 x
  bodies_named [] fs h x = h x
  bodies_named (d ∷ ds) fs h x = bodies_named ds (put_body owns d fs) (one_put fs.0 fs.1 (body_by owns d) h) x

  abbrev of_units : List ClightUnit → List LinkedFunction
  of_units us = flat_map (λ (u : ClightUnit). bodies u.defined) us

  units_alike : (us : List ClightUnit) (fs : Functions owns) → (put_units owns us fs).0 ≡ fs.0 ++ of_units us
  units_alike [] fs = sym (append-nil fs.0)
  units_alike (u ∷ us) fs =
      units_alike us (put_bodies owns u.defined fs)
      ∙ ap (λ (gs : List LinkedFunction). gs ++ of_units us) (bodies_alike u.defined fs)
      ∙ append_assoc fs.0 (bodies u.defined) (of_units us)

  units_named : (us : List ClightUnit) (fs : Functions owns) → ((x : List ℕ) → is_in fs.1 x ≡ has_function fs.0 x) → (x : List ℕ) → is_in (put_units owns us fs).1 x ≡ has_function (put_units owns us fs).0 x
  units_named [] fs h x = h x
  units_named (u ∷ us) fs h x = units_named us (put_bodies owns u.defined fs) (bodies_named u.defined fs h) x

  module _ (defined : List Entry) where
    abbrev table : Names
    table = with_names defined []

    -- an external function is put in where the definition has it
    external_in : (f : Declared) (fs : Functions owns) → ((x : List ℕ) → is_in fs.1 x ≡ has_function fs.0 x)
        → (put_external owns table f fs).0 ≡ cond (has defined f.name || parts.has_function main_pre modules fs.0 f.name) fs.0 (fs.0 ++ external main_pre modules f ∷ [])
    external_in f fs h =
        by (is_in table f.name || is_in fs.1 f.name)
        ∙ ap₂ (λ (b : Bool) (g : LinkedFunction). cond b fs.0 (fs.0 ++ g ∷ [])) (ap₂ (λ a b. a || b) (names_alike defined f.name) (h f.name)) (external_alike f)
      where
        by : (b : Bool) → (let r : Functions owns = cond b fs (fs.0 ++ external_by owns f ∷ [], put_new f.name tt fs.1) in r.0) ≡ cond b fs.0 (fs.0 ++ external_by owns f ∷ [])
        by true = refl
        by false = refl

    external_named : (f : Declared) (fs : Functions owns) → ((x : List ℕ) → is_in fs.1 x ≡ has_function fs.0 x) → (x : List ℕ) → is_in (put_external owns table f fs).1 x ≡ has_function (put_external owns table f fs).0 x
    external_named f fs h x = by (is_in table f.name || is_in fs.1 f.name)
      where
        by : (b : Bool) → (let r : Functions owns = cond b fs (fs.0 ++ external_by owns f ∷ [], put_new f.name tt fs.1) in is_in r.1 x ≡ has_function r.0 x)
        by true = h x
        by false = one_put fs.0 fs.1 (external_by owns f) h x

    externals_alike : (more : List Declared) (fs : Functions owns) → ((x : List ℕ) → is_in fs.1 x ≡ has_function fs.0 x) → (put_externals owns table more fs).0 ≡ with_externals main_pre modules defined more fs.0
    externals_alike [] fs h = refl
    externals_alike (f ∷ more) fs h =
        externals_alike more (put_external owns table f fs) (external_named f fs h)
        ∙ ap (with_externals main_pre modules defined more) (external_in f fs h)

    externals_named : (more : List Declared) (fs : Functions owns) → ((x : List ℕ) → is_in fs.1 x ≡ has_function fs.0 x) → (x : List ℕ) → is_in (put_externals owns table more fs).1 x ≡ has_function (put_externals owns table more fs).0 x
    externals_named [] fs h x = h x
    externals_named (f ∷ more) fs h x = externals_named more (put_external owns table f fs) (external_named f fs h) x

    externals_in_parts : (fs gs : List Declared) (all : List LinkedFunction) → with_externals main_pre modules defined (fs ++ gs) all ≡ with_externals main_pre modules defined gs (with_externals main_pre modules defined fs all)
    externals_in_parts [] gs all = refl
    externals_in_parts (f ∷ fs) gs all = externals_in_parts fs gs (cond (has defined f.name || parts.has_function main_pre modules all f.name) all (all ++ external main_pre modules f ∷ []))

    abbrev declared : List ClightUnit → List Declared
    declared us = flat_map (λ (u : ClightUnit). u.declared) us

    declared_alike : (us : List ClightUnit) (fs : Functions owns) → ((x : List ℕ) → is_in fs.1 x ≡ has_function fs.0 x) → (put_declared owns table us fs).0 ≡ with_externals main_pre modules defined (declared us) fs.0
    declared_alike [] fs h = refl
    declared_alike (u ∷ us) fs h =
        declared_alike us (put_externals owns table u.declared fs) (externals_named u.declared fs h)
        ∙ ap (with_externals main_pre modules defined (declared us)) (externals_alike u.declared fs h)
        ∙ sym (externals_in_parts u.declared (declared us) fs.0)

-- where a table has the specifications of their own
pub functions_alike : (main_pre : Precondition) (modules : List ModuleSpec) (owns : Owns) (us : List ClightUnit) → ((x : List ℕ) → lookup (bytes_eq x) owns ≡ own_of main_pre modules x)
    → (put_declared owns (all_names [] us) us (put_units owns us ([], []))).0 ≡ linked_functions main_pre modules us
functions_alike main_pre modules owns us found =
    let bodies : Functions owns = put_units owns us ([], []) in
    let defined : List Entry = flat_map defined_in us in
    ap (λ (n : Names). (put_declared owns n us bodies).0) (all_alike [] us)
    ∙ declared_alike main_pre modules owns found defined us bodies (units_named main_pre modules owns found us ([], []) (λ x. refl))
    ∙ ap (with_externals main_pre modules defined (flat_map (λ (u : ClightUnit). u.declared) us)) (units_alike main_pre modules owns found us ([], []))
