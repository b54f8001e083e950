-- A term in place of a variable, or of what stands at a path.
use Rattle.std.specs.Prelude.{◌≡◌, ℕ, zero, suc, ◌+◌, Bool, true, false, if◌then◌else◌, Option, Some, None, option_map, Result, Ok, Err, List, [], ◌∷◌}
use Rattle.floyd_tree.specs.declared.stop.MakeStop.{MakeStop}
use Rattle.floyd_tree.specs.declared.stop.RewriteStop.{RewriteStop}
use Rattle.floyd_tree.specs.declared.stop.MakeStop as m
use Rattle.floyd_tree.specs.declared.stop.RewriteStop.TheVariants.{IllSorted, TooLarge, PathAbsent, Memory}
use Rattle.floyd_tree_sorts.specs.Heads.{is_variable}
use Rattle.floyd_tree.specs.Plain.{Plain, Plains, At, Done, More, plains, mentions_in}
use Rattle.floyd_tree.specs.Made.{IsFault, fault, faults, unless}

-- the term with `by` in place of the variable x
abbrev mutual
  pub substituted : List ℕ → Plain → Plain → Plain
  substituted x by (At head kids) = if is_variable x head then by else At head (substituted_in x by kids)

  pub substituted_in : List ℕ → Plain → Plains → Plains
  substituted_in x by Done = Done
  substituted_in x by (More t ts) = More (substituted x by t) (substituted_in x by ts)

abbrev pub one_if : Bool → ℕ
one_if test = if test then 1 else 0

-- the number of positions that have the variable strictly below them
abbrev mutual
  pub above : List ℕ → Plain → ℕ
  above x (At head kids) = one_if (mentions_in x kids) + above_in x kids

  pub above_in : List ℕ → Plains → ℕ
  above_in x Done = 0
  above_in x (More t ts) = above x t + above_in x ts

-- the term with `new` at the path, which has the number of a kid for each level, from 0; nothing where the path leaves the term
abbrev mutual
  pub replaced_at : List ℕ → Plain → Plain → Option Plain
  replaced_at [] new t = Some new
  replaced_at (k ∷ path) new (At head kids) = option_map (At head) (replaced_in k path new kids)

  pub replaced_in : ℕ → List ℕ → Plain → Plains → Option Plains
  replaced_in k path new Done = None
  replaced_in zero path new (More t ts) = option_map (λ u. More u ts) (replaced_at path new t)
  replaced_in (suc k) path new (More t ts) = option_map (More t) (replaced_in k path new ts)

abbrev pub as_rewrite : MakeStop → RewriteStop
as_rewrite m.TheVariants.IllSorted = IllSorted
as_rewrite m.TheVariants.TooLarge = TooLarge
as_rewrite m.TheVariants.Memory = Memory

-- what is made of a term with `new` at the path
abbrev pub rewritten_as : Option Plain → Result Plain RewriteStop
rewritten_as None = Err PathAbsent
rewritten_as (Some t) = unless (option_map as_rewrite (fault t)) t

abbrev pub rewritten : List ℕ → Plain → Plain → Result Plain RewriteStop
rewritten path new t = rewritten_as (replaced_at path new t)

-- what was answered is what should be, unless memory ran out
abbrev pub RewriteGives : Result Plain RewriteStop → Result Plain RewriteStop → Type 0
RewriteGives (Ok t) should = should ≡ Ok t
RewriteGives (Err IllSorted) should = should ≡ Err IllSorted
RewriteGives (Err TooLarge) should = should ≡ Err TooLarge
RewriteGives (Err PathAbsent) should = should ≡ Err PathAbsent
RewriteGives (Err Memory) should = Unit {0}
