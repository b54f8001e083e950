use Rattle.floyd_tree.specs.Plain.{height}
use Rattle.floyd_show_terms.proofs.terms.+is_literal_list.Given as goal

abbrev pub decreases-is_literal_list : goal.decreases-is_literal_list
decreases-is_literal_list l = height l.term.now
