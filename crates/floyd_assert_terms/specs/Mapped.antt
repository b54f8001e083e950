-- An assertion in which each term of LOCAL and SEP is replaced by what f makes of it.
use Rattle.std.specs.Prelude.{List, map}
use Rattle.floyd_tree.specs.declared.paths.PathStep.{PathStep}
use Rattle.floyd_tree.specs.declared.paths.PathStep.TheVariants.{Field, Subscript}
use Rattle.floyd_tree.specs.Formulas.{PlainFormula}
use Rattle.floyd_tree.specs.Plain.{Plain}
use Rattle.floyd_assert_trees.specs.declared.assertion.Assertion.{Assertion}
use Rattle.floyd_assert_trees.specs.declared.assertion.Local.{Local}
use Rattle.floyd_assert_trees.specs.declared.sep.Region.{Region}
use Rattle.floyd_assert_trees.specs.declared.sep.Sep.{Sep}
use Rattle.floyd_assert_trees.specs.declared.sep.Sep.TheVariants.{FieldAt, Padding, Valid, Anything, Predicate}

module _ (f : Plain → Plain) where
  abbrev pub step_mapped : PathStep → PathStep
  step_mapped (Field name) = Field name
  step_mapped (Subscript t) = Subscript (f t)

  abbrev pub region_mapped : Region → Region
  region_mapped r = record {
    share = f r.share;
    ty = record { shape = r.ty.shape; sizes = map f r.ty.sizes };
    path = map step_mapped r.path;
    root = f r.root;
  }

  abbrev pub part_mapped : Sep → Sep
  part_mapped (FieldAt region value) = FieldAt (region_mapped region) (f value)
  part_mapped (Padding region) = Padding (region_mapped region)
  part_mapped (Valid address) = Valid (f address)
  part_mapped Anything = Anything
  part_mapped (Predicate name terms) = Predicate name (map f terms)

  abbrev pub local_mapped : Local → Local
  local_mapped l = record { name = l.name; term = f l.term }

  -- with these formulas as PROP
  abbrev pub body_mapped : List PlainFormula → Assertion → Assertion
  body_mapped props a = record {
    existentials = a.existentials;
    props = props;
    locals = map local_mapped a.locals;
    parts = map part_mapped a.parts;
  }
