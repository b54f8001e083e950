-- Substitution by the parts of a term.
use Rattle.std.proofs.Common.{◌≡◌, ℕ, ◌+◌, Bool, true, false, ◌||◌, List, [], ◌∷◌, Option, Some, None, Ok, Err, map, refl, ap, sym, ◌∙◌}
use Rattle.std.specs.Prelude.{if◌then◌else◌}
use Rattle.std.specs.Option.{option_or}
use Rattle.floyd_tree.specs.Code.{plains-listed}
use Rattle.floyd_tree_sorts.specs.declared.heads.Head.{Head}
use Rattle.floyd_tree.specs.declared.stop.MakeStop.{MakeStop}
use Rattle.floyd_tree.specs.declared.stop.MakeStop.TheVariants.{IllSorted, TooLarge, Memory}
use Rattle.floyd_tree.specs.Made.{Gives, IsFault, fault, faults, fault_at, unless}
use Rattle.floyd_tree.proofs.Summaries.{mentions_parts}
use Rattle.floyd_tree_sorts.specs.Heads.{is_variable}
use Rattle.floyd_tree.specs.Plain.{Plain, Plains, At, Done, More, plains, head_of, kids_of, mentions, mentions_in}
use Rattle.floyd_tree.specs.Replace.{above, above_in, one_if, substituted, substituted_in}

pub substituted_here : (x : List ℕ) (by t : Plain) → is_variable x (head_of t) ≡ true → substituted x by t ≡ by
substituted_here x by (At head kids) h = ap (λ b. if b then by else At head (substituted_in x by kids)) h

pub substituted_below : (x : List ℕ) (by t : Plain) → is_variable x (head_of t) ≡ false → substituted x by t ≡ At (head_of t) (substituted_in x by (plains (kids_of t)))
substituted_below x by (At head kids) h =
    ap (λ b. if b then by else At head (substituted_in x by kids)) h ∙ ap (λ ts. At head (substituted_in x by ts)) (sym (plains-listed kids))

pub above_parts : (x : List ℕ) (t : Plain) → above x t ≡ one_if (mentions_in x (plains (kids_of t))) + above_in x (plains (kids_of t))
above_parts x (At head kids) = ap (λ ts. one_if (mentions_in x ts) + above_in x ts) (sym (plains-listed kids))

pub substituted_all : (x : List ℕ) (by : Plain) (ts : List Plain) → plains (map (substituted x by) ts) ≡ substituted_in x by (plains ts)
substituted_all x by [] = refl
substituted_all x by (t ∷ ts) = ap (More (substituted x by t)) (substituted_all x by ts)

pub fault_of_parts : (t : Plain) → faults (plains (kids_of t)) ≡ None → fault t ≡ fault_at t
fault_of_parts (At head kids) e = ap (λ o. option_or o (fault_at (At head kids))) (ap faults (sym (plains-listed kids)) ∙ e)

neither : (a b : Bool) → (a || b) ≡ false → (a ≡ false) × (b ≡ false)
neither false b h = (refl, h)
neither true b h = absurd cc

mutual
  pub unchanged : (x : List ℕ) (by t : Plain) → mentions x t ≡ false → substituted x by t ≡ t
  unchanged x by (At head kids) h =
      let p = neither (is_variable x head) (mentions_in x kids) h in
      ap (λ b. if b then by else At head (substituted_in x by kids)) p.0 ∙ ap (At head) (unchanged_in x by kids p.1)

  pub unchanged_in : (x : List ℕ) (by : Plain) (ts : Plains) → mentions_in x ts ≡ false → substituted_in x by ts ≡ ts
  unchanged_in x by Done h = refl
  unchanged_in x by (More t ts) h =
      let p = neither (mentions x t) (mentions_in x ts) h in
      ap (λ u. More u (substituted_in x by ts)) (unchanged x by t p.0) ∙ ap (More t) (unchanged_in x by ts p.1)

-- what a call that makes a node answers
pub unless_ok : (o : Option MakeStop) (t u : Plain) → unless o t ≡ Ok u → (u ≡ t) × (o ≡ None)
unless_ok None t u e = (cc, refl)
unless_ok (Some stop) t u e = absurd cc

pub unless_err : (stop : MakeStop) (o : Option MakeStop) (t : Plain) → Gives (Err stop) (unless o t) → IsFault stop o
unless_err IllSorted (Some stop) t e = cc
unless_err IllSorted None t e = absurd cc
unless_err TooLarge (Some stop) t e = cc
unless_err TooLarge None t e = absurd cc
unless_err Memory o t e = tt

-- a node over changed kids
pub rebuilt : (x : List ℕ) (by t : Plain) (head : Head) (kids ks : List Plain) → is_variable x (head_of t) ≡ false → head ≡ head_of t → ks ≡ kids_of t → plains kids ≡ substituted_in x by (plains ks) → At head (plains kids) ≡ substituted x by t
rebuilt x by t head kids ks v h k e =
    ap (λ d. At d (plains kids)) h
    ∙ ap (At (head_of t)) (e ∙ ap (λ us. substituted_in x by (plains us)) k)
    ∙ sym (substituted_below x by t v)

pub fault_rebuilt : (head : Head) (kids : Plains) (u : Plain) → At head kids ≡ u → faults kids ≡ None → fault_at (At head kids) ≡ fault u
fault_rebuilt head kids u e f = sym (ap (λ o. option_or o (fault_at (At head kids))) f) ∙ ap fault e

pub mentioned_below : (x : List ℕ) (t : Plain) (ks : List Plain) → is_variable x (head_of t) ≡ false → ks ≡ kids_of t → mentions_in x (plains ks) ≡ true → mentions x t ≡ true
mentioned_below x t ks v k m =
    mentions_parts x t
    ∙ ap (λ b. b || mentions_in x (plains (kids_of t))) v
    ∙ ap (λ us. mentions_in x (plains us)) (sym k)
    ∙ m
