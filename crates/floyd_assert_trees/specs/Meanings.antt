-- The structs and FUNs of Defs as those by which terms have values.
use Rattle.std.specs.Prelude.{ℕ, List, map}
use Rattle.floyd_tree_values.specs.Funs as f
use Rattle.floyd_tree_values.specs.Means as m
use Rattle.floyd_assert_trees.specs.declared.binder.Binder.{Binder}
use Rattle.floyd_assert_trees.specs.declared.items.Defs.{Defs}
use Rattle.floyd_assert_trees.specs.declared.items.Fun.{Fun}
use Rattle.floyd_assert_trees.specs.declared.items.FunBody.{FunBody}
use Rattle.floyd_assert_trees.specs.declared.items.FunBody.TheVariants.{Whole, Cases}
use Rattle.floyd_assert_trees.specs.declared.items.FunCase.{FunCase}
use Rattle.floyd_assert_trees.specs.declared.pattern.Pattern.{Pattern}
use Rattle.floyd_assert_trees.specs.declared.pattern.Pattern.TheVariants.{Nil, Cons, Leaf, Node}

abbrev pub pattern_of : Pattern → f.Pattern
pattern_of Nil = f.NilPattern
pattern_of (Cons item rest) = f.ConsPattern item rest
pattern_of Leaf = f.LeafPattern
pattern_of (Node left item right) = f.NodePattern left item right

abbrev pub case_of : FunCase → f.Case
case_of c = record { pattern = pattern_of c.pattern; term = c.term }

abbrev pub body_of : FunBody → f.Body
body_of (Whole term) = f.Whole term
body_of (Cases cases) = f.ByCases (map case_of cases)

abbrev pub fun_of : List ℕ × Fun → f.Fun
fun_of p = record {
  name = p.0;
  arguments = map (λ (b : Binder). (b.name, b.sort)) p.1.arguments;
  result = p.1.result;
  body = body_of p.1.body;
}

abbrev pub value_defs : Defs → m.Defs
value_defs defs = record { structs = defs.structs; funs = map fun_of defs.funs }
