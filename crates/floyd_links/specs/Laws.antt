-- What holds of linked programs.
use Rattle.std.specs.Prelude.{◌≡◌, true, List, Some, is_some}
use Rattle.std.specs.List.{AllByRecursion}
use Rattle.floyd_clight.specs.declared.unit.Defined.{Defined}
use Rattle.floyd_assert_laws.specs.Bare.{IsBare}
use Rattle.floyd_goal_meaning.specs.declared.linked.Linked.{Linked}
use Rattle.floyd_goal_meaning.specs.declared.linked.LinkedFunction.{LinkedFunction}
use Rattle.floyd_goal_meaning.specs.declared.linked.Module.{Module}
use Rattle.floyd_goal_meaning.specs.Links.{Has}
use Rattle.floyd_goal_meaning.specs.Programs.{Further, Places, setting}
use Rattle.floyd_links.specs.Links.{Links}

-- each function with a body has a specification of its own
abbrev pub BodiesAreDeclared : Linked → Type 0
BodiesAreDeclared L = AllByRecursion (λ (f : LinkedFunction). (d : Defined) → f.body ≡ Some d → is_some f.own ≡ true) L.functions

-- A linked program whose bodies are declared has what the proofs of each of its modules stand on.
abbrev pub LinksHave : Type 0
LinksHave = (L : Linked) → Links L → BodiesAreDeclared L → AllByRecursion (λ (m : Module). Has L m.defs m.specs) L.modules

-- What its items stand for speaks of no local variable of a function.
abbrev pub LinksAreBare : Type 0
LinksAreBare = (L : Linked) (more : List Further) (place : Places) → Links L → IsBare (setting L more place)
