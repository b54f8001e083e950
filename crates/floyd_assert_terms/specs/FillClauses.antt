-- What is made by taking terms from the front of a list: it, and the terms that are left. Where there are no more, the old term
-- stays.
use Rattle.std.specs.Prelude.{List, [], ◌∷◌}
use Rattle.floyd_tree.specs.declared.paths.PathStep.{PathStep}
use Rattle.floyd_tree.specs.declared.paths.PathStep.TheVariants.{Field, Subscript}
use Rattle.floyd_tree.specs.Plain.{Plain}
use Rattle.floyd_tree.specs.Types.{SizedType}
use Rattle.floyd_assert_trees.specs.declared.assertion.Local.{Local}
use Rattle.floyd_assert_trees.specs.declared.sep.Region.{Region}
use Rattle.floyd_assert_trees.specs.declared.sep.Sep.{Sep}
use Rattle.floyd_assert_trees.specs.declared.sep.Sep.TheVariants.{FieldAt, Padding, Valid, Anything, Predicate}

abbrev pub fill_term : Plain → List Plain → Plain × List Plain
fill_term old [] = (old, [])
fill_term old (t ∷ ts) = (t, ts)

-- each of a list
abbrev pub fill_all : {T : Type 0} → (T → List Plain → T × List Plain) → List T → List Plain → List T × List Plain
fill_all fill [] ts = ([], ts)
fill_all fill (x ∷ xs) ts = ((fill x ts).0 ∷ (fill_all fill xs (fill x ts).1).0, (fill_all fill xs (fill x ts).1).1)

abbrev pub fill_step : PathStep → List Plain → PathStep × List Plain
fill_step (Field name) ts = (Field name, ts)
fill_step (Subscript t) ts = (Subscript (fill_term t ts).0, (fill_term t ts).1)

abbrev pub fill_type : SizedType → List Plain → SizedType × List Plain
fill_type ty ts = (record { shape = ty.shape; sizes = (fill_all fill_term ty.sizes ts).0 }, (fill_all fill_term ty.sizes ts).1)

abbrev pub fill_region : Region → List Plain → Region × List Plain
fill_region r ts =
    let share = fill_term r.share ts in
    let ty = fill_type r.ty share.1 in
    let path = fill_all fill_step r.path ty.1 in
    let root = fill_term r.root path.1 in
    (record { share = share.0; ty = ty.0; path = path.0; root = root.0 }, root.1)

abbrev pub fill_part : Sep → List Plain → Sep × List Plain
fill_part (FieldAt region value) ts =
    (FieldAt (fill_region region ts).0 (fill_term value (fill_region region ts).1).0, (fill_term value (fill_region region ts).1).1)
fill_part (Padding region) ts = (Padding (fill_region region ts).0, (fill_region region ts).1)
fill_part (Valid address) ts = (Valid (fill_term address ts).0, (fill_term address ts).1)
fill_part Anything ts = (Anything, ts)
fill_part (Predicate name terms) ts = (Predicate name (fill_all fill_term terms ts).0, (fill_all fill_term terms ts).1)

abbrev pub fill_local : Local → List Plain → Local × List Plain
fill_local l ts = (record { name = l.name; term = (fill_term l.term ts).0 }, (fill_term l.term ts).1)
