use Rattle.std.proofs.Common.{◌≡◌, drop}
use Rattle.floyd_link_mentions.specs.MentionClauses.{with_bodies, with_list}
use Rattle.floyd_link_mentions.proofs.statements.+mention.Given as goal

abbrev pub invariant-put_list-parts : goal.invariant-put_list-parts
invariant-put_list-parts l = with_list (drop l.part-index l.parts) l.names ≡ with_list l.parts l.initial.names

abbrev pub invariant-put_cases-cases : goal.invariant-put_cases-cases
invariant-put_cases-cases l = with_bodies (drop l.case-index l.cases) l.names ≡ with_bodies l.cases l.initial.names
