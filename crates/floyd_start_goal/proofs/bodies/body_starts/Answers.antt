use Rattle.std.proofs.Common.{◌≡◌, ◌++◌, ◌∷◌, [], sym, ap, ◌∙◌}
use Rattle.std.specs.Prelude.{bytes_eq}
use Rattle.std.specs.Map.{lookup}
use Rattle.std.proofs.lemmas.Option.{same_Some}
use Rattle.floyd_assert_trees.specs.declared.spec.SpecTable.{SpecTable}
use Rattle.floyd_goal_forms.specs.Starts.{function_start}
use Rattle.floyd_goal_meaning.specs.declared.linked.Linked.{Linked}
use Rattle.floyd_goal_meaning.specs.declared.linked.LinkedFunction.{LinkedFunction}
use Rattle.floyd_goal_meaning.specs.Programs.{linked_function}
use Rattle.floyd_start_goal.proofs.StartLemmas.{one}
use Rattle.floyd_start_goal.proofs.bodies.body_starts.Goals as goal

pub returns : goal.returns
returns c =
    let L = c.args.linked.now in
    let name = c.args.name.now in
    let h = c.requires.there in
    let spec = c.in-Some.spec.now in
    let body = c.in-Some-body.body in
    let spec_is : h.spec ≡ spec =
    one (lookup (bytes_eq name) c.args.«module».now.specs.functions) h.spec spec h.seen (c.in-Some.ensures ∙ ap (λ (t : SpecTable). lookup (bytes_eq name) t.functions) c.get.ensures) in
    let function_is = one (linked_function L name) h.function c.in-Some-function.function.now h.is c.in-Some-function.ensures in
    let body_is : h.body ≡ body = same_Some h.body body (sym h.has_body ∙ ap (λ (f : LinkedFunction). f.body) function_is ∙ c.in-Some-body.is) in (
      h,
      c.in_ok-push.ensures.ok
          ∙ ap (λ gs. gs ++ c.in_ok-function_start.field-0 ∷ []) c.new-goals.ensures
          ∙ ap (λ g. g ∷ [])
          (c.in_ok-function_start.ensures
          ∙ ap (λ (P : Linked). function_start P.structs spec body) c.parts.ensures
          ∙ ap (λ s. function_start L.structs s body) (sym spec_is)
          ∙ ap (function_start L.structs h.spec) (sym body_is)),
    )
