use Rattle.std.proofs.Common.{◌≡◌, drop}
use Rattle.floyd_link_mentions.specs.MentionClauses.{with_items}
use Rattle.floyd_link_mentions.proofs.contents.+mention.Given as goal

abbrev pub invariant-put_parts-parts : goal.invariant-put_parts-parts
invariant-put_parts-parts l = with_items (drop l.part-index l.parts) l.names ≡ with_items l.parts l.initial.names
