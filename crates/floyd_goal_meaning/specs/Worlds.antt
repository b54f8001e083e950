-- What the functions of a linked program ask and give, and what it means that the program is sound.
use Rattle.std.specs.Prelude.{ℕ, List, [], ◌∷◌, ◌++◌, Option, Some, None, IsSomeAnd, find, bytes_eq}
use Rattle.std.specs.Map.{lookup}
use Rattle.floyd_clight_memory.specs.Memory.{nth}
use Rattle.floyd_clight_machine.specs.Looking.{Ident}
use Rattle.floyd_clight_runs.specs.World.{Specs, World}
use Rattle.floyd_clight_runs.specs.Starts.{IsSound}
use Rattle.floyd_tree_values.specs.Data.{Datum}
use Rattle.floyd_assert_trees.specs.declared.spec.Funspec.{Funspec}
use Rattle.floyd_assert_trees.specs.declared.spec.SpecTable.{SpecTable}
use Rattle.floyd_assert_meaning.specs.Settings.{Setting}
use Rattle.floyd_assert_meaning.specs.Specifications.{Pre, Post}
use Rattle.floyd_goal_meaning.specs.declared.linked.Linked.{Linked}
use Rattle.floyd_goal_meaning.specs.declared.linked.LinkedFunction.{LinkedFunction}
use Rattle.floyd_goal_meaning.specs.Programs.{Further, Places, linked_function, main, program, setting}

-- how a function is used: by which of its specifications, and for which data for the variables of WITH
pub record Use : Type 0 where
  pub way : ℕ
  pub data' : List Datum

abbrev pub listed : Option Funspec → List Funspec
listed None = []
listed (Some spec) = spec ∷ []

-- what functions ask and give that have these specifications
abbrev pub specs_by : Setting → (Ident → List Funspec) → Specs
specs_by S of = record {
  With = Use;
  pre = λ f x args h. IsSomeAnd (nth (of f) x.way) (λ spec. Pre S spec x.data' args h);
  post = λ f x v h. IsSomeAnd (nth (of f) x.way) (λ spec. Post S spec x.data' v h);
}

abbrev pub specs_of_further : Option Further → List Funspec
specs_of_further None = []
specs_of_further (Some g) = g.specs

abbrev pub own_or : Option LinkedFunction → List Funspec → List Funspec
own_or None further = further
own_or (Some f) further = listed f.own

-- a function's own specification; those of a further external function
abbrev pub own_specs : Linked → List Further → Ident → List Funspec
own_specs L more f = own_or (linked_function L f) (specs_of_further (find (λ (g : Further). bytes_eq f g.name) more))

-- the program with what its functions ask and give of their own
abbrev pub world : Linked → List Further → Places → World
world L more place = record { program = program L more place; own = specs_by (setting L more place) (own_specs L more) }

-- what a module may use: the functions' own specifications, and those that the module sees, which may be weaker
abbrev pub sight : Linked → List Further → Places → SpecTable → Specs
sight L more place table = specs_by (setting L more place) (λ f. own_specs L more f ++ listed (lookup (bytes_eq f) table.functions))

-- For every choice of blocks for the names of the program, and every start there, no run of main is ever stuck where the
-- answers of external functions keep their specifications, and every call that was entered in its precondition and returns
-- meets its postcondition, with all else untouched.
abbrev pub Sound : Linked → Type 0
Sound L = (place : Places) → IsSound (world L [] place) main
