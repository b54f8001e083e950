-- What a formula says, as the program holds it.
use Rattle.floyd_tree_sorts.specs.declared.heads.Head.TheVariants.{Literal}
use Rattle.std.specs.Prelude.{pos}
use Rattle.floyd_tree.specs.Plain.{At, Done}
use Rattle.floyd_arith.specs.declared.facts.Fact as f
use Rattle.floyd_arith.specs.Certificates.{Fact, NotNegative, IsZero, difference}

-- what it says of the difference of the sides
abbrev pub fact_seen : f.Fact → Fact
fact_seen (f.TheVariants.AtMost t u) = NotNegative (difference u.now t.now)
fact_seen (f.TheVariants.Above t u) = NotNegative (difference (difference t.now u.now) (At (Literal (pos 1)) Done))
fact_seen (f.TheVariants.Equal t u) = IsZero (difference t.now u.now)
