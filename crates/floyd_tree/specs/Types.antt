-- Types of C whose array sizes are terms.
use Rattle.std.specs.Prelude.{List, refl}
use Rattle.std.specs.Coded.{Coded, code_by, coded×, coded_list}
use Rattle.floyd_tree_sorts.specs.declared.shape.Shape.{Shape}
use Rattle.floyd_tree.specs.Plain.{Plain}

pub record SizedType : Type 0 where
  pub shape : Shape
  pub sizes : List Plain

abbrev pub type_code : Coded Shape → Coded Plain → Coded SizedType
type_code c d =
    code_by (Shape × List Plain) (coded× c (coded_list d)) (λ t. (t.shape, t.sizes)) (λ p. record { shape = p.0; sizes = p.1 }) (λ _. refl)
