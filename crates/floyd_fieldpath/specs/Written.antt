-- Terms that a rule writes.
use Rattle.std.specs.Prelude.{Result, Ok, Err, is_some, if◌then◌else◌}
use Rattle.floyd_text.specs.declared.code.Code.TheVariants.{IllSorted, TermTooLarge}
use Rattle.floyd_text.specs.declared.refusal.No.{No}
use Rattle.floyd_text.specs.declared.refusal.Shown.TheVariants.{Nothing}
use Rattle.floyd_tree.specs.Made.{fits}
use Rattle.floyd_tree.specs.Plain.{Plain}
use Rattle.floyd_tree.specs.WellSorted.{sort_of}

-- what is refused where a term is beyond the limits
abbrev pub too_large : No
too_large = record { code = TermTooLarge; shown = Nothing }

-- what is refused where a term is ill sorted, which none is under the condition of the calls
abbrev pub ill_sorted : No
ill_sorted = record { code = IllSorted; shown = Nothing }

-- the term, unless it cannot be made of its kids, which are made already
abbrev pub written : Plain → Result Plain No
written t = if is_some (sort_of t) then (if fits t then Ok t else Err too_large) else Err ill_sorted

-- what follows once a term is written
abbrev pub on_ok : {A B : Type 0} → Result A No → (A → Result B No) → Result B No
on_ok (Ok a) f = f a
on_ok (Err refusal) f = Err refusal
