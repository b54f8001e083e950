use Rattle.std.proofs.Common.{◌≡◌, ◌+◌, ◌-◌, ◌≤◌, length, take}
use Rattle.std.specs.List.{suffix_len}
use Rattle.floyd_lex.specs.declared.classes.Class.TheVariants as class
use Rattle.floyd_lex.specs.Classes.{in_class}
use Rattle.floyd_lex.proofs.front.line_is_blank.Given as goal

-- what is behind n is blanks
abbrev pub invariant-back : goal.invariant-back
invariant-back l = record {
  within : l.n ≤ length l.before;
  blanks : suffix_len (in_class class.Blank) l.before ≡ length l.before - l.n + suffix_len (in_class class.Blank) (take l.n l.before);
  line : suffix_len (in_class class.NoFeed) l.before ≡ length l.before - l.n + suffix_len (in_class class.NoFeed) (take l.n l.before);
}

abbrev pub decreases-back : goal.decreases-back
decreases-back l = l.n
