-- The command of a word.
use Rattle.std.specs.Prelude.{ℕ, Bool, false, List, [], ◌∷◌, Option, Some, None, if◌then◌else◌}
use Rattle.std.specs.Str.{bytes_eq}
use Rattle.floyd_text.specs.declared.rule.Rule.{Rule}
use Rattle.floyd_text.specs.declared.rule.Rule.TheVariants as r
use Rattle.floyd_text.specs.Commands.{command_word}

-- all commands
abbrev pub statement_rules : List Rule
statement_rules =
    r.Forward ∷ r.ForwardIf ∷ r.ForwardWhile ∷ r.ForwardLoop ∷ r.ForwardSwitch ∷ r.ForwardCall ∷ r.ForwardCallPtr ∷
    r.UseSpec ∷ []

-- those of threads
abbrev pub thread_rules : List Rule
thread_rules = r.ForwardAcquire ∷ r.ForwardRelease ∷ r.ForwardSpawn ∷ []

abbrev pub part_rules : List Rule
part_rules =
    r.Intros ∷ r.Exists ∷ r.Cancel ∷ r.Weaken ∷ r.Unfold ∷ r.Fold ∷ r.Facts ∷ r.Valid ∷ r.Apply ∷ r.Induction ∷
    r.ApplyIh ∷ []

abbrev pub memory_rules : List Rule
memory_rules = r.SplitArray ∷ r.JoinArray ∷ r.SplitStruct ∷ r.JoinStruct ∷ r.SplitShare ∷ r.JoinShare ∷ r.Reroot ∷ []

abbrev pub hypothesis_rules : List Rule
hypothesis_rules =
    r.Law ∷ r.Rewrite ∷ r.Cut ∷ r.Destruct ∷ r.Specialize ∷ r.Mp ∷ r.UnfoldFun ∷ r.Discriminate ∷ r.Inject ∷ []

abbrev pub pure_rules : List Rule
pure_rules = r.Refl ∷ r.Trivial ∷ r.Intro ∷ r.Left ∷ r.Right ∷ r.Split ∷ r.Simpl ∷ r.Lia ∷ []

-- the first command of a list that has the word
abbrev pub has_word : Option (List ℕ) → List ℕ → Bool
has_word None text = false
has_word (Some word) text = bytes_eq text word

abbrev pub rule_in : List Rule → List ℕ → Option Rule
rule_in [] text = None
rule_in (x ∷ xs) text = if has_word (command_word x) text then Some x else rule_in xs text

abbrev pub or_else : Option Rule → Option Rule → Option Rule
or_else (Some rule) other = Some rule
or_else None other = other

unfoldable pub rule_of : List ℕ → Option Rule
rule_of text = or_else (rule_in statement_rules text) (or_else (rule_in thread_rules text) (or_else (rule_in part_rules text) (or_else (rule_in memory_rules text) (or_else (rule_in hypothesis_rules text) (rule_in pure_rules text)))))
