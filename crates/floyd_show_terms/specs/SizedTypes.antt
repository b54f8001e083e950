-- How types of C are written whose array sizes are terms.
use Rattle.std.specs.Prelude.{ℕ, List}
use Rattle.floyd_tree.specs.Plain.{plains}
use Rattle.floyd_tree.specs.Types.{SizedType}
use Rattle.floyd_show_terms.specs.Terms.{term_texts}
use Rattle.floyd_show_terms.specs.Types.{type_text}

abbrev pub sized_text : SizedType → List ℕ
sized_text t = type_text t.shape (term_texts (plains t.sizes))
