-- What is in sight at a place of a specification file: the items before it, and those that imports made visible. Items in
-- sight are bare, without what they are made of, since nothing that is read looks at it.
use Rattle.std.specs.Prelude.{ℕ, Bool, false, ◌||◌, List, [], ◌∷◌, ◌++◌, Option, None, find, bytes_eq}
use Rattle.std.specs.List.{list_any}
use Rattle.floyd_ctypes.specs.Structs.{Structs}
use Rattle.floyd_tree_sorts.specs.declared.shape.Shape.{Void}
use Rattle.floyd_tree_sorts.specs.declared.sorts.Sort.{Sort}
use Rattle.floyd_assert_trees.specs.declared.binder.Binder.{Binder}
use Rattle.floyd_assert_trees.specs.declared.items.Defs.{Defs}
use Rattle.floyd_assert_trees.specs.declared.items.Fun.{Fun}
use Rattle.floyd_assert_trees.specs.declared.items.FunBody.TheVariants as f
use Rattle.floyd_assert_trees.specs.declared.items.Lemma.{Lemma}
use Rattle.floyd_assert_trees.specs.declared.items.Pred.{Pred}
use Rattle.floyd_assert_trees.specs.declared.items.PredBody.TheVariants as p
use Rattle.floyd_assert_trees.specs.declared.spec.Funspec.{Funspec}
use Rattle.floyd_assert_trees.specs.declared.spec.Postcondition.{Postcondition}
use Rattle.floyd_assert_trees.specs.declared.spec.Precondition.{Precondition}
use Rattle.floyd_termread_scope.specs.Scopes.{Env, Named, is_among}
use Rattle.floyd_specread_trees.specs.declared.modules.ModuleDefs.{ModuleDefs}
use Rattle.floyd_specread_sources.specs.Tables.{put_new}
use Rattle.floyd_specread_state.specs.declared.bare.Origin.{Origin}
use Rattle.floyd_specread_state.specs.declared.state.State.{State}

-- ---- bare items

abbrev pub bare_fun : Origin → List Binder → Sort → Fun
bare_fun origin arguments result = record { place = origin.place; «module» = origin.home; arguments = arguments; result = result; body = f.Cases []; calls = [] }

abbrev pub bare_pred : Origin → List Binder → Pred
bare_pred origin arguments = record { place = origin.place; «module» = origin.home; opaque = false; arguments = arguments; body = p.Cases []; calls = [] }

abbrev pub no_precondition : Precondition
no_precondition = record { props = []; params = []; globals = []; parts = [] }

abbrev pub no_postcondition : Postcondition
no_postcondition = record { existentials = []; props = []; value = None; parts = [] }

abbrev pub bare_spec : Funspec
bare_spec = record { name = None; with = []; params = []; result = record { shape = Void; sizes = [] }; pre = no_precondition; post = no_postcondition }

-- ---- what names stand for

-- at the head of the file, with the structs and the names of its source
abbrev pub no_items : Structs → Named (Unit {0}) → ℕ → Defs
no_items structs globals home = record { structs = structs; globals = globals; funs = []; preds = []; lemmas = []; proved = []; home = home }

abbrev pub at_first : Structs → Named (Unit {0}) → ℕ → State
at_first structs globals home = record {
  sight = no_items structs globals home;
  specs_in_sight = [];
  funs = [];
  preds = [];
  lemmas = [];
  specs = [];
  imports = [];
  declarations = [];
  locks = [];
}

-- no variable is bound, and `lv` may not stand
abbrev pub env_of : State → Env
env_of s = record { variable = λ x. None; defs = s.sight; specs = s.specs_in_sight; locals = None }

-- ---- items put in sight, which they are while they are read

abbrev pub show_fun : List ℕ → Fun → State → State
show_fun name bare s = record s { sight = record s.sight { funs = put_new name bare s.sight.funs } }

abbrev pub show_pred : List ℕ → Pred → State → State
show_pred name bare s = record s { sight = record s.sight { preds = put_new name bare s.sight.preds } }

abbrev pub show_spec : List ℕ → State → State
show_spec name s = record s { specs_in_sight = put_new name bare_spec s.specs_in_sight }

-- ---- items that were read

abbrev pub origin_of : Fun → Origin
origin_of a = record { place = a.place; home = a.«module» }

abbrev pub pred_origin : Pred → Origin
pred_origin a = record { place = a.place; home = a.«module» }

abbrev pub put_fun : List ℕ → Fun → State → State
put_fun name a s = let seen = show_fun name (bare_fun (origin_of a) a.arguments a.result) s in record seen { funs = put_new name a seen.funs }

abbrev pub put_pred : List ℕ → Pred → State → State
put_pred name a s = let seen = show_pred name (bare_pred (pred_origin a) a.arguments) s in record seen { preds = put_new name a seen.preds }

abbrev pub put_lemma : List ℕ → Lemma → State → State
put_lemma name a s = record s { lemmas = put_new name a s.lemmas }

abbrev pub put_spec : List ℕ → Funspec → State → State
put_spec name a s = let seen = show_spec name s in record seen { specs = put_new name a seen.specs }

-- ---- imports: the items that are visible in a module, each once

abbrev pub with_funs : Named Fun → State → State
with_funs [] s = s
with_funs (a ∷ more) s = with_funs more (put_fun a.0 a.1 s)

abbrev pub with_preds : Named Pred → State → State
with_preds [] s = s
with_preds (a ∷ more) s = with_preds more (put_pred a.0 a.1 s)

abbrev pub with_lemmas : Named Lemma → State → State
with_lemmas [] s = s
with_lemmas (a ∷ more) s = with_lemmas more (put_lemma a.0 a.1 s)

abbrev pub with_specs : Named Funspec → State → State
with_specs [] s = s
with_specs (a ∷ more) s = with_specs more (put_spec a.0 a.1 s)

abbrev pub with_import : List ℕ → State → State
with_import name s = record s { imports = s.imports ++ name ∷ [] }

abbrev pub imported : ModuleDefs → State → State
imported m s = with_import m.name (with_specs m.specs (with_lemmas m.defs.lemmas (with_preds m.defs.preds (with_funs m.defs.funs s))))

-- the module of that name among those before
abbrev pub module_named : List ℕ → List ModuleDefs → Option ModuleDefs
module_named name before = find (λ (m : ModuleDefs). bytes_eq m.name name) before

-- ---- names that are taken: an item of the project has one of its own

abbrev pub module_has : ModuleDefs → List ℕ → Bool
module_has m x = (is_among m.defs.funs x || is_among m.defs.preds x) || (is_among m.defs.lemmas x || is_among m.specs x)

abbrev pub modules_have : List ℕ → List ModuleDefs → Bool
modules_have x before = list_any (λ (m : ModuleDefs). module_has m x) before

abbrev pub state_has : State → List ℕ → Bool
state_has s x = (is_among s.funs x || is_among s.preds x) || (is_among s.lemmas x || is_among s.specs x)

abbrev pub is_taken : List ModuleDefs → State → List ℕ → Bool
is_taken before s x = state_has s x || modules_have x before
