-- What the binders around two formulas stand for.
use Rattle.std.specs.Prelude.{List, [], ◌∷◌}
use Rattle.floyd_assert.specs.declared.around.Around.{Around, Lists', Nothing, Under'}
use Rattle.floyd_assert_trees.specs.declared.binder.Binder.{Binder}
use Rattle.floyd_truth.specs.Same.{Binders}

-- two lists of binders, the outermost first, inside of others; as far as both lists go
abbrev pub inside : List Binder → List Binder → Binders → Binders
inside [] right outer = outer
inside (a ∷ left) [] outer = outer
inside (a ∷ left) (b ∷ right) outer = inside left right ((a.name, b.name) ∷ outer)

abbrev pub binders : Around → Binders
binders Nothing = []
binders (Under' x y p outer) = (x.now, y.now) ∷ binders outer
binders (Lists' left right p outer) = inside left.now right.now (binders outer)
