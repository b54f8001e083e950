-- The worked example.
use Rattle.std.proofs.Common.{◌≡◌, inl, inr, ℕ, Bool, true, false, cond, List, [], ◌∷◌, Option, Some, None, refl, sym, ap, subst, ◌∙◌}
use Rattle.std.specs.Prelude.{bytes_eq, is_some}
use Rattle.std.specs.Map.{lookup}
use Rattle.std.proofs.lemmas.Option.{same_Some}
use Rattle.std.proofs.lemmas.Slice.Eq.{bytes_eq-Decides}
use Rattle.floyd_clight_machine.specs.Looking.{Ident}
use Rattle.floyd_tree_values.specs.Rules.{IsOneOf}
use Rattle.floyd_assert_trees.specs.declared.spec.Funspec.{Funspec}
use Rattle.floyd_assert_meaning.specs.Same.{SameFunspec}
use Rattle.floyd_goal_forms.specs.Items.{FunspecFits, ItemsFit}
use Rattle.floyd_goal_meaning.specs.declared.linked.LinkedFunction.{LinkedFunction}
use Rattle.floyd_goal_meaning.specs.Links.{IsOfFunction}
use Rattle.floyd_goal_meaning.specs.Programs.{linked_function, main}
use Rattle.floyd_links.specs.Examples.{AProgramLinks, a_program, its_defs, its_module, its_specs, main_body, main_function, main_spec}
use Rattle.floyd_links.specs.Links.{IsBodyOf, IsNamed, ModuleLinks, SpecLinks}

same_spec : SameFunspec main_spec main_spec
same_spec = record {
  name = refl;
  with_sorts = refl;
  params = tt;
  result = record { shape = refl; sizes = tt };
  pre_props = tt;
  pre_params = tt;
  pre_parts = tt;
  post_sorts = refl;
  post_props = tt;
  value = (refl, ((refl, tt), tt));
  post_parts = tt;
}

spec_fits : FunspecFits its_defs its_specs main_spec
spec_fits = record {
  with = tt;
  params = tt;
  result = record { count = refl; sizes = tt };
  pre = record { props = tt; terms = tt; parts = tt };
  post = record {
    existentials = tt;
    props = tt;
    value = record { fits = record { sorted = refl; allowed = (tt, ((tt, tt), tt)) }; known = (tt, ((tt, tt), tt)) };
    parts = tt;
  };
  no_local = refl;
}

items_fit : ItemsFit its_defs its_specs
items_fit = record { funs = tt; preds = tt; lemmas = tt; functions = (spec_fits, tt); items = tt }

-- there is one name
one_found : {A : Type 0} (x : List ℕ) (a b : A) → lookup (bytes_eq x) ((main, a) ∷ []) ≡ Some b → (x ≡ main) × (a ≡ b)
one_found {A} x a b e = by (bytes_eq x main) refl e
  where
    by : (t : Bool) → bytes_eq x main ≡ t → cond t (Some a) None ≡ Some b → (x ≡ main) × (a ≡ b)
    by true i q = ((bytes_eq-Decides x main).0 i, same_Some a b q)
    by false i q = absurd cc

pub main_is : linked_function a_program main ≡ Some main_function
main_is = ap (λ t. cond t (Some main_function) None) ((bytes_eq-Decides main main).1 refl)

spec_links : (f : Ident) (spec : Funspec) → lookup (bytes_eq f) its_specs.functions ≡ Some spec → SpecLinks a_program its_module f spec
spec_links f spec e =
    let p = one_found f main_spec spec e in
    record {
      function = main_function;
      is = ap (linked_function a_program) p.0 ∙ main_is;
      types = subst (λ s. IsOfFunction s main_function) p.1 (record { params = tt; result = record { shape = refl; sizes = refl } });
      external = λ k. absurd cc;
      own = λ own k. inl (subst (λ s. SameFunspec s spec) (same_Some main_spec own k) (subst (SameFunspec main_spec) p.1 same_spec));
    }

named_none : (f : Ident) (spec : Funspec) → lookup (bytes_eq f) its_specs.functions ≡ Some spec → IsNamed its_module spec
named_none f spec e = λ name k.
    let p = one_found f main_spec spec e in
    absurd (none (ap (λ (s : Funspec). s.name) p.1 ∙ k))
  where
    none : {x : List ℕ} → ◌≡◌ {A = Option (List ℕ)} None (Some x) → ⊥
    none e = cc

abbrev if_there : Bool → Option (Unit {0})
if_there t = cond t (Some tt) None

one_name : (x : List ℕ) → (is_some (lookup (bytes_eq x) its_defs.globals) ≡ true → IsOneOf (main ∷ []) x) × (IsOneOf (main ∷ []) x → is_some (lookup (bytes_eq x) its_defs.globals) ≡ true)
one_name x = (λ e. there (bytes_eq x main) refl e, back)
  where
    there : (t : Bool) → bytes_eq x main ≡ t → is_some (if_there t) ≡ true → IsOneOf (main ∷ []) x
    there true i q = inl ((bytes_eq-Decides x main).0 i)
    there false i q = absurd cc

    back : IsOneOf (main ∷ []) x → is_some (lookup (bytes_eq x) its_defs.globals) ≡ true
    back (inl e) = ap (λ t. is_some (if_there t)) ((bytes_eq-Decides x main).1 e)
    back (inr k) = absurd k

module_links : ModuleLinks a_program 0 its_module
module_links = record { structs = refl; globals = one_name; proved = refl; home = refl; items = items_fit; specs = spec_links; named = named_none }

body_of_main : IsBodyOf a_program main_function main_body
body_of_main = record { name = refl; parameters = refl; result = refl; body = record { distinct = tt; sized = tt; typed = (refl, record { typed = (refl, refl); same = refl }) } }

pub a_program_links : AProgramLinks
a_program_links = record {
  distinct = (λ k. k, tt);
  main = record { function = main_function; is = main_is; parameters = refl; result = refl; body = main_body; has_body = refl };
  functions = (λ d e. subst (IsBodyOf a_program main_function) (same_Some main_body d e) body_of_main, tt);
  variables = tt;
  own = (λ own e. inl (ap (λ t. cond t (Some main_spec) None) ((bytes_eq-Decides main main).1 refl) ∙ e, λ k. k), tt);
  main_pre = λ f own e k.
      let same : main_function ≡ f = same_Some main_function f (sym main_is ∙ e) in
      let is : main_spec ≡ own = same_Some main_spec own (ap (λ (g : LinkedFunction). g.own) same ∙ k) in
      ap (λ (s : Funspec). s.pre) (sym is);
  modules = (module_links, tt);
  agree = (tt, tt);
}
