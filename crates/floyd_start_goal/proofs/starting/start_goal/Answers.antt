use Rattle.std.proofs.Common.{◌≡◌, sym, ap, subst, ◌∙◌}
use Rattle.std.specs.Prelude.{slice_get}
use Rattle.floyd_goal_meaning.specs.declared.linked.Linked.{Linked}
use Rattle.floyd_soundness.specs.declared.keys.Kind.TheVariants.{Import}
use Rattle.floyd_soundness.specs.Keys.{kind_in}
use Rattle.floyd_start_goal.specs.Starts.{IsThere}
use Rattle.floyd_start_goal.proofs.StartLemmas.{one}
use Rattle.floyd_start_goal.proofs.starting.start_goal.Goals as goal

pub import_starts-requires-clause-there : goal.import_starts-requires-clause-there
import_starts-requires-clause-there c =
    let L = c.args.linked.now in
    let number = c.args.«module» in
    let name = c.args.name.now in
    let can = c.requires.can in
    let home_is : can.module' ≡ c.in-Some.home.now =
    one (slice_get L.modules number) can.module' c.in-Some.home.now can.at (c.in-Some.ensures.value ∙ ap (λ (P : Linked). slice_get P.modules number) c.parts.ensures) in
    let kind_is : kind_in L number name ≡ Import = sym c.kind_in.ensures ∙ c.in-Import.is in
    subst (λ m. IsThere L number m Import name) home_is (subst (λ k. IsThere L number can.module' k name) kind_is can.is)
