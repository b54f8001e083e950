use Rattle.std.proofs.Common.{◌≡◌, List, sym, ap, subst, ◌∙◌}
use Rattle.std.specs.Prelude.{bytes_eq}
use Rattle.std.specs.Map.{lookup}
use Rattle.std.proofs.lemmas.Option.{same_Some}
use Rattle.floyd_assert_instances.specs.Specifications.{TakesTerms}
use Rattle.floyd_assert_trees.specs.declared.spec.SpecTable.{SpecTable}
use Rattle.floyd_goal_trees.specs.declared.goal.Goal.{Goal}
use Rattle.floyd_goal_meaning.specs.declared.linked.ImportBy.{ImportBy}
use Rattle.floyd_goal_meaning.specs.declared.linked.LinkedFunction.{LinkedFunction}
use Rattle.floyd_goal_meaning.specs.Programs.{linked_function}
use Rattle.floyd_linked.specs.Found.{import_in}
use Rattle.floyd_program_soundness.specs.Proofs.{OfImport, StartsWith}
use Rattle.floyd_start_goal.proofs.StartLemmas.{goals_are, goals_of, if_ok, one, takes_terms}
use Rattle.floyd_start_goal.proofs.imports.import_starts.Goals as goal

pub import_starts-requires : goal.import_starts-requires
import_starts-requires c =
    let L = c.args.linked.now in
    let name = c.args.name.now in
    let i = c.requires.there.0 in
    let function_is = one (linked_function L name) i.function c.in-Some-function.function.now i.is c.in-Some-function.ensures in
    let own_is : i.own ≡ c.get-3.result.now =
    same_Some i.own c.in-Some-own.own (sym i.has_own ∙ ap (λ (f : LinkedFunction). f.own) function_is ∙ c.in-Some-own.is) ∙ sym c.get-3.ensures in
    let import_is : i.by'.import ≡ c.in-Some-import.import.now =
    one (import_in L c.args.number name) i.by'.import c.in-Some-import.import.now c.requires.there.1 c.in-Some-import.ensures in
    record {
      takes =
          subst (TakesTerms c.get-3.result.now) (ap (λ (x : ImportBy). x.terms) import_is)
          (subst (λ o. TakesTerms o i.by'.import.terms) own_is (takes_terms L c.args.«module».now name c.requires.links i));
    }

pub returns : goal.returns
returns c =
    let L = c.args.linked.now in
    let name = c.args.name.now in
    let i = c.requires.there.0 in
    let function_is = one (linked_function L name) i.function c.in-Some-function.function.now i.is c.in-Some-function.ensures in
    let own_is : i.own ≡ c.get-3.result.now =
    same_Some i.own c.in-Some-own.own (sym i.has_own ∙ ap (λ (f : LinkedFunction). f.own) function_is ∙ c.in-Some-own.is) ∙ sym c.get-3.ensures in
    let import_is : i.by'.import ≡ c.in-Some-import.import.now =
    one (import_in L c.args.number name) i.by'.import c.in-Some-import.import.now c.requires.there.1 c.in-Some-import.ensures in
    let spec = c.in-Some.spec.now in
    let own = c.get-3.result.now in
    let import = c.in-Some-import.import.now in
    let spec_is : i.spec ≡ spec =
    one (lookup (bytes_eq name) c.args.«module».now.specs.functions) i.spec spec i.seen (c.in-Some.ensures ∙ ap (λ (t : SpecTable). lookup (bytes_eq name) t.functions) c.get.ensures) in
    if_ok c.import_starts.result (λ (gs : List Goal). gs ≡ goals_of spec own import.terms c.as_slice.result.now) (StartsWith L c.args.«module».now OfImport name)
    (λ gs e. (i, e ∙ goals_are i.spec spec i.own own i.by'.import import c.as_slice.result.now spec_is own_is import_is c.as_slice.ensures))
    c.import_starts.ensures
