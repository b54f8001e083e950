-- Readers of sorts and binders put no tokens back.
use Rattle.std.proofs.Common.{ℕ, suc, pred, List, []}
use Rattle.floyd_lex.specs.Token.{Token}
use Rattle.floyd_grammar.specs.ParseClauses.{one}
use Rattle.floyd_cparse_tokens.proofs.Shrinks.{Shrinks, Eats, shrinks, one_eats, then_eats, exact_shrinks, exact_eats}
use Rattle.floyd_termread_sorts.specs.declared.values.Binders.{Binders}
use Rattle.floyd_termread_sorts.specs.declared.values.SortParts.{SortParts}
use Rattle.floyd_termread_sorts.specs.Sorts.{comma_token}
use Rattle.floyd_termread_sorts.specs.SortClauses.{sorts, sort_item, next_binder}
use Rattle.floyd_termread_sorts.proofs.SortExact.{item_exact, item_solid, sorts_exact, binder_exact}
use Rattle.floyd_termread_sorts.specs.Sorts as g

pub item_eats : (room count : ℕ) (parts : SortParts) → Eats (sort_item room (sorts room) count parts)
item_eats room count parts = exact_eats (item_exact room (sorts room) (g.sorts room) (sorts_exact room) count parts) (item_solid room (sorts room) (g.sorts room) (sorts_exact room) count parts)

pub next_binder_eats : (room count : ℕ) (all : Binders) → Eats (next_binder room count all)
next_binder_eats room count all = then_eats (one_eats comma_token) (λ _. exact_shrinks (binder_exact room count count all.names))
