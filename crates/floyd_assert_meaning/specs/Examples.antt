-- Worked examples: a predicate over lists, an assertion about memory, and a specification.
use Rattle.std.specs.Prelude.{ℕ, false, ℤ, pos, List, [], ◌∷◌, Some, None}
use Rattle.floyd_int.specs.declared.kinds.IntKind.TheVariants.{I32}
use Rattle.floyd_int.specs.declared.kinds.Value.TheVariants as v
use Rattle.floyd_memval.specs.declared.bytes.MemByte.TheVariants.{Byte}
use Rattle.floyd_tree_sorts.specs.declared.connectives.FormulaHead.TheVariants.{Equal}
use Rattle.floyd_tree_sorts.specs.declared.heads.Head.{Head}
use Rattle.floyd_tree_sorts.specs.declared.heads.Head.TheVariants.{Literal, Variable, Gv, Operator}
use Rattle.floyd_tree_sorts.specs.declared.heads.Head.TheVariants as h
use Rattle.floyd_tree_sorts.specs.declared.operators.Operator.TheVariants as o
use Rattle.floyd_tree_sorts.specs.declared.shape.Shape.{Int}
use Rattle.floyd_tree_sorts.specs.declared.sorts.Sort.{Z}
use Rattle.floyd_tree_sorts.specs.Sorts.{list_sort}
use Rattle.floyd_tree.specs.Formulas.{PlainFormula, Says, NoFormula}
use Rattle.floyd_tree.specs.Plain.{Plain, At, Done, More}
use Rattle.floyd_tree_values.specs.BuiltIns.{Env}
use Rattle.floyd_tree_values.specs.Data.{Number}
use Rattle.floyd_clight_heap.specs.Heaplet.{Heaplet, empty, spread}
use Rattle.floyd_assert_trees.specs.declared.assertion.Assertion.{Assertion}
use Rattle.floyd_assert_trees.specs.declared.binder.Binder.{Binder}
use Rattle.floyd_assert_trees.specs.declared.items.Pred.{Pred}
use Rattle.floyd_assert_trees.specs.declared.items.PredBody.TheVariants.{Cases}
use Rattle.floyd_assert_trees.specs.declared.pattern.Pattern.TheVariants.{Nil, Cons}
use Rattle.floyd_assert_trees.specs.declared.sep.Region.{Region}
use Rattle.floyd_assert_trees.specs.declared.sep.Sep.TheVariants.{FieldAt, Anything, Predicate}
use Rattle.floyd_assert_trees.specs.declared.spec.Funspec.{Funspec}
use Rattle.floyd_assert_meaning.specs.Settings.{Setting, bare_env}
use Rattle.floyd_assert_meaning.specs.Parts.{PartHolds}
use Rattle.floyd_assert_meaning.specs.Assertions.{Holds}
use Rattle.floyd_assert_meaning.specs.Specifications.{Pre, Post}

-- the names x, r, l, g, p and `ones`
abbrev pub x : List ℕ
x = 120 ∷ []

abbrev pub r : List ℕ
r = 114 ∷ []

abbrev pub l : List ℕ
l = 108 ∷ []

abbrev pub g : List ℕ
g = 103 ∷ []

abbrev pub p : List ℕ
p = 112 ∷ []

abbrev pub ones : List ℕ
ones = 111 ∷ 110 ∷ 101 ∷ 115 ∷ []

abbrev pub leaf : Head → Plain
leaf head = At head Done

abbrev pub number : ℤ → Plain
number z = leaf (Literal z)

abbrev pub cons : Plain → Plain → Plain
cons t u = At (Operator o.Cons) (More t (More u Done))

-- x = z
abbrev pub x_is : ℤ → PlainFormula
x_is z = Says Equal (More (leaf (Variable x Z)) (More (number z) Done)) NoFormula

abbrev pub an_x : Binder
an_x = record { name = x; sort = Z }

abbrev pub nothing : Assertion
nothing = record { existentials = []; props = []; locals = []; parts = [] }

-- PROP (x = 1) SEP (ones(r))
abbrev pub one_and_more : Assertion
one_and_more = record { existentials = []; props = x_is (pos 1) ∷ []; locals = []; parts = Predicate ones (leaf (Variable r (list_sort Z)) ∷ []) ∷ [] }

-- PRED ones(l: list Z) = nil => PROP () SEP () | x :: r => PROP (x = 1) SEP (ones(r))
abbrev pub ones_pred : Pred
ones_pred = record {
  place = record { file = 0; line = 1; column = 1 };
  «module» = 0;
  opaque = false;
  arguments = record { name = l; sort = list_sort Z } ∷ [];
  body = Cases (record { pattern = Nil; body = nothing } ∷ record { pattern = Cons x r; body = one_and_more } ∷ []);
  calls = [];
}

-- the names of the file have the block 3, and there are no functions
abbrev pub example : Setting
example = record {
  defs = record { structs = []; funs = [] };
  preds = (ones, ones_pred) ∷ [];
  block_of = λ name. 3;
  is_function = λ block. false;
  has_spec = λ name value. false;
}

abbrev pub here : Env
here = bare_env example

abbrev pub int_at_g : Region
int_at_g = record { share = number (pos 16); ty = record { shape = Int I32; sizes = [] }; path = []; root = leaf (Gv g) }

-- EX x: Z . PROP (x = 7) LOCAL (temp p = gv(g)) SEP (data_at(int, Vint(x), gv(g)); TT)
abbrev pub seven_at_g : Assertion
seven_at_g = record {
  existentials = an_x ∷ [];
  props = x_is (pos 7) ∷ [];
  locals = record { name = p; term = leaf (Gv g) } ∷ [];
  parts = FieldAt int_at_g (At (Operator o.Vint) (More (leaf (Variable x Z)) Done)) ∷ Anything ∷ [];
}

-- the four bytes of 7 in the block 3, each with the whole share
abbrev pub seven : Heaplet
seven = spread 15 (Byte 7 ∷ Byte 0 ∷ Byte 0 ∷ Byte 0 ∷ []) 3 0

-- WITH x: Z PRE [int] PROP (x = 5) PARAMS (Vint(x)) GLOBALS () SEP () POST [int] PROP () RETURN (Vint(x)) SEP ()
abbrev pub five : Funspec
five = record {
  name = None;
  with = an_x ∷ [];
  params = record { shape = Int I32; sizes = [] } ∷ [];
  result = record { shape = Int I32; sizes = [] };
  pre = record { props = x_is (pos 5) ∷ []; params = At (Operator o.Vint) (More (leaf (Variable x Z)) Done) ∷ []; globals = []; parts = [] };
  post = record { existentials = []; props = []; value = Some (At (Operator o.Vint) (More (leaf (Variable x Z)) Done)); parts = [] };
}

-- `ones` holds of a list of two ones and of no memory; the assertion holds of the four bytes where p is the address; the
-- specification takes 5 and gives it.
pub record Worked : Type 0 where
  pub two_ones : PartHolds example here (Predicate ones (cons (number (pos 1)) (cons (number (pos 1)) (leaf (h.Nil Z))) ∷ [])) empty
  pub memory : Holds example here seven_at_g (λ name. v.Vptr 3 0) seven
  pub asks : Pre example five (Number (pos 5) ∷ []) (v.Vint 5 ∷ []) empty
  pub gives : Post example five (Number (pos 5) ∷ []) (v.Vint 5) empty
