-- A linked program: `int main(void) { return 0; }` with the specification MAIN_PRE POST [int] PROP () RETURN (Vint(0)) SEP ().
use Rattle.std.specs.Prelude.{[], ◌∷◌, Some, None, pos}
use Rattle.floyd_int.specs.declared.kinds.IntKind.TheVariants.{I32}
use Rattle.floyd_int.specs.declared.kinds.Value.TheVariants.{Vint as VintValue}
use Rattle.floyd_clight.specs.declared.syntax.Expr.{Const}
use Rattle.floyd_clight.specs.declared.syntax.Stmt.{Return}
use Rattle.floyd_clight.specs.declared.unit.Defined.{Defined}
use Rattle.floyd_text.specs.declared.place.Place.{Place}
use Rattle.floyd_tree_sorts.specs.declared.heads.Head.TheVariants.{Literal, Operator}
use Rattle.floyd_tree_sorts.specs.declared.operators.Operator.TheVariants.{Vint}
use Rattle.floyd_tree_sorts.specs.declared.shape.Shape.{Int as IntShape}
use Rattle.floyd_tree.specs.Plain.{Plain, At, Done, More}
use Rattle.floyd_assert_trees.specs.declared.items.Defs.{Defs}
use Rattle.floyd_assert_trees.specs.declared.spec.Funspec.{Funspec}
use Rattle.floyd_assert_trees.specs.declared.spec.SpecTable.{SpecTable}
use Rattle.floyd_goal_meaning.specs.declared.linked.Linked.{Linked}
use Rattle.floyd_goal_meaning.specs.declared.linked.LinkedFunction.{LinkedFunction}
use Rattle.floyd_goal_meaning.specs.declared.linked.Module.{Module}
use Rattle.floyd_goal_meaning.specs.Programs.{int, main}
use Rattle.floyd_links.specs.Links.{Links}

abbrev pub here : Place
here = record { file = 0; line = 1; column = 1 }

abbrev pub zero_term : Plain
zero_term = At (Operator Vint) (More (At (Literal (pos 0)) Done) Done)

abbrev pub main_spec : Funspec
main_spec = record {
  name = None;
  with = [];
  params = [];
  result = record { shape = IntShape I32; sizes = [] };
  pre = record { props = []; params = []; globals = []; parts = [] };
  post = record { existentials = []; props = []; value = Some zero_term; parts = [] };
}

abbrev pub main_body : Defined
main_body = record {
  name = main;
  place = here;
  result = int;
  parameters = [];
  blocks = [];
  temporaries = [];
  body = Return (Some (Const (VintValue 0) int));
}

abbrev pub main_function : LinkedFunction
main_function = record { name = main; place = here; parameters = []; result = int; own = Some main_spec; body = Some main_body }

abbrev pub its_defs : Defs
its_defs = record { structs = []; globals = (main, tt) ∷ []; funs = []; preds = []; lemmas = []; proved = []; home = 0 }

abbrev pub its_specs : SpecTable
its_specs = record { functions = (main, main_spec) ∷ []; items = [] }

abbrev pub its_module : Module
its_module = record { defs = its_defs; specs = its_specs; imports = [] }

abbrev pub a_program : Linked
a_program = record { structs = []; variables = []; functions = main_function ∷ []; modules = its_module ∷ [] }

abbrev pub AProgramLinks : Type 0
AProgramLinks = Links a_program
