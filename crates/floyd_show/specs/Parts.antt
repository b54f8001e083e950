-- How parts of assertions are written.
use Rattle.std.specs.Prelude.{ℕ, if◌then◌else◌, List, [], ◌∷◌, ◌++◌, codes}
use Rattle.floyd_tree.specs.declared.paths.PathStep.{PathStep}
use Rattle.floyd_tree.specs.Plain.{Plain, head_of, plains}
use Rattle.floyd_assert_trees.specs.declared.sep.Region.{Region}
use Rattle.floyd_assert_trees.specs.declared.sep.Sep.{Sep}
use Rattle.floyd_assert_trees.specs.declared.sep.Sep.TheVariants.{FieldAt, Padding, Valid, Anything, Predicate}
use Rattle.floyd_assert_trees.specs.Sizes.{is_sixteen}
use Rattle.floyd_show_terms.specs.Paths.{path_text}
use Rattle.floyd_show_terms.specs.SizedTypes.{sized_text}
use Rattle.floyd_show_terms.specs.Terms.{separated, term_text, term_texts}

-- a share stands first; the literal 16, the whole share, is left out
abbrev pub share_text : Plain → List ℕ
share_text t = if is_sixteen (head_of t) then [] else term_text t ++ codes ", "

-- the share and the type of a region
abbrev pub typed_text : Region → List ℕ
typed_text r = share_text r.share ++ sized_text r.ty

abbrev pub root_text : Region → List ℕ
root_text r = codes ", " ++ term_text r.root ++ codes ")"

-- the word and the place of a value; with the empty path it is `data_at`
abbrev pub place_text : List PathStep → Region → List ℕ
place_text [] r = codes "data_at(" ++ typed_text r
place_text (step ∷ steps) r = codes "field_at(" ++ typed_text r ++ codes ", " ++ path_text (step ∷ steps)

-- a value at a region
abbrev pub field_text : Region → Plain → List ℕ
field_text r v = place_text r.path r ++ codes ", " ++ term_text v ++ root_text r

abbrev pub padding_text : Region → List ℕ
padding_text r = codes "padding(" ++ typed_text r ++ codes ", " ++ path_text r.path ++ root_text r

abbrev pub part_text : Sep → List ℕ
part_text (FieldAt r v) = field_text r v
part_text (Padding r) = padding_text r
part_text (Valid t) = codes "valid(" ++ term_text t ++ codes ")"
part_text Anything = codes "TT"
part_text (Predicate name terms) = name ++ codes "(" ++ separated (codes ", ") (term_texts (plains terms)) ++ codes ")"
