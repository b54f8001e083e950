-- Calls that are counted from 1, some of which are to fail.
use Rattle.std.specs.Prelude.{◌+◌, ◌-◌, ◌^◌, ◌==◌, ℕ, Bool, List, min, if◌then◌else◌}
use Rattle.std.specs.List.{list_any}

-- the numbers of the calls that are to fail, how many calls there were, and how many faults
pub record Calls : Type 0 where
  pub failing : List ℕ
  pub count : ℕ
  pub faults : ℕ

-- one more, or the greatest number of 64 bits
abbrev pub one_more : ℕ → ℕ
one_more n = min (n + 1) (2 ^ 64 - 1)

-- whether the next call is to fail
abbrev pub fails_next : Calls → Bool
fails_next calls = list_any (λ k. k == one_more calls.count) calls.failing

-- after one more call, which failed or not
abbrev pub after_call : Calls → Bool → Calls
after_call calls failed = record { failing = calls.failing; count = one_more calls.count; faults = if failed then one_more calls.faults else calls.faults }
