-- Readers of terms put no tokens back.
use Rattle.std.proofs.Common.{ℕ}
use Rattle.floyd_cparse_tokens.proofs.Shrinks.{Eats, one_eats, then_eats, exact_shrinks, exact_eats}
use Rattle.floyd_termread_grammar.specs.declared.values.Chain.{Chain}
use Rattle.floyd_termread_grammar.specs.declared.values.Contents.{Contents}
use Rattle.floyd_termread_tables.specs.declared.values.Form.{Form}
use Rattle.floyd_termread_grammar.specs.declared.values.Prefixes.{Prefixes}
use Rattle.floyd_termread_grammar.specs.Terms as g
use Rattle.floyd_termread_grammar.specs.TermClauses.{nested, one_prefix, one_link, next_item, one_step}
use Rattle.floyd_termread_grammar.proofs.TermExact.{nested_exact, one_prefix_exact, one_prefix_solid, link_exact, link_solid, step_exact, step_solid}

module _ (room : ℕ) where
  pub prefix_eats : (all : Prefixes) → Eats (one_prefix room (nested room) all)
  prefix_eats all = exact_eats (one_prefix_exact room (nested room) (g.nested room) (nested_exact room) all) (one_prefix_solid room (nested room) (g.nested room) (nested_exact room) all)

  pub link_eats : (chain : Chain) → Eats (one_link room (nested room) chain)
  link_eats chain = exact_eats (link_exact room (nested room) (g.nested room) (nested_exact room) chain) (link_solid room (nested room) (g.nested room) (nested_exact room) chain)

  pub item_eats : (of : Form) (all : Contents) → Eats (next_item room (nested room) of all)
  item_eats of all = then_eats (one_eats (g.separator_token of all)) (λ _. exact_shrinks ((nested_exact room).exact (g.want_of_next of all) all.end.count))

  pub step_eats : (all : Contents) → Eats (one_step room (nested room) all)
  step_eats all = exact_eats (step_exact room (nested room) (g.nested room) (nested_exact room) all) (step_solid room (nested room) (g.nested room) (nested_exact room) all)
