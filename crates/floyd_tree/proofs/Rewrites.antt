-- Replacement at a path, a level at a time.
use Rattle.std.proofs.Common.{◌≡◌, ℕ, zero, suc, ◌<◌, ◌≤◌, List, [], ◌∷◌, ◌-◌, length, get_or, take, drop, set, Option, Some, None, Ok, Err, refl, ap, sym, ◌∙◌, subst, arith}
use Rattle.std.proofs.lemmas.List.{take_all}
use Rattle.std.specs.Prelude.{option_map}
use Rattle.std.specs.Option.{option_or}
use Rattle.floyd_tree_sorts.specs.declared.heads.Head.{Head}
use Rattle.floyd_tree.specs.declared.stop.MakeStop.{MakeStop}
use Rattle.floyd_tree.specs.declared.stop.MakeStop as m
use Rattle.floyd_tree.specs.declared.stop.RewriteStop.{RewriteStop}
use Rattle.floyd_tree.specs.declared.stop.RewriteStop.TheVariants.{IllSorted, TooLarge, PathAbsent, Memory}
use Rattle.floyd_tree.specs.Code.{plains-listed}
use Rattle.floyd_tree.specs.Made.{Gives, fault, faults, fault_at, unless}
use Rattle.floyd_tree.specs.Plain.{Plain, At, More, plains, head_of, kids_of}
use Rattle.floyd_tree.specs.Replace.{RewriteGives, as_rewrite, replaced_at, replaced_in, rewritten, rewritten_as}

-- the path after its first step, as the program cuts it
abbrev pub tail : List ℕ → List ℕ
tail path = take (length path - 1) (drop 1 path)

path_parts : (path : List ℕ) → 1 ≤ length path → path ≡ get_or path 0 0 ∷ tail path
path_parts [] h = absurd (omega arith)
path_parts (k ∷ path) h = ap (λ p. k ∷ p) (sym (take_all (suc (length path) - 1) path (omega arith)))

-- the tree with one kid replaced
abbrev pub with : Head → List Plain → ℕ → Plain → Plain
with head ks k u = At head (plains (set ks k u))

map_map : {A B C : Type 0} (f : A → B) (g : B → C) (o : Option A) → option_map g (option_map f o) ≡ option_map (λ x. g (f x)) o
map_map f g None = refl
map_map f g (Some a) = refl

none_in : (k : ℕ) (path : List ℕ) (new : Plain) (ks : List Plain) → length ks ≤ k → replaced_in k path new (plains ks) ≡ None
none_in k path new [] h = refl
none_in zero path new (t ∷ ts) h = absurd (omega arith)
none_in (suc k) path new (t ∷ ts) h = ap (option_map (More t)) (none_in k path new ts (omega arith))

some_in : (k : ℕ) (path : List ℕ) (new : Plain) (ks : List Plain) (d : Plain) → k < length ks → replaced_in k path new (plains ks) ≡ option_map (λ u. plains (set ks k u)) (replaced_at path new (get_or ks k d))
some_in k path new [] d h = absurd (omega arith)
some_in zero path new (t ∷ ts) d h = refl
some_in (suc k) path new (t ∷ ts) d h =
    ap (option_map (More t)) (some_in k path new ts d (omega arith)) ∙ map_map (λ u. plains (set ts k u)) (More t) (replaced_at path new (get_or ts k d))

by_kids : (k : ℕ) (path : List ℕ) (new t : Plain) → replaced_at (k ∷ path) new t ≡ option_map (At (head_of t)) (replaced_in k path new (plains (kids_of t)))
by_kids k path new (At head kids) = ap (λ ts. option_map (At head) (replaced_in k path new ts)) (sym (plains-listed kids))

-- the path leaves the term here
pub absent : (path : List ℕ) (new t : Plain) (ks : List Plain) → 1 ≤ length path → ks ≡ kids_of t → length ks ≤ get_or path 0 0 → rewritten path new t ≡ Err PathAbsent
absent path new t ks h e l =
    ap (λ p. rewritten p new t) (path_parts path h)
    ∙ ap rewritten_as
    (by_kids (get_or path 0 0) (tail path) new t
    ∙ ap (λ us. option_map (At (head_of t)) (replaced_in (get_or path 0 0) (tail path) new (plains us))) (sym e)
    ∙ ap (option_map (At (head_of t))) (none_in (get_or path 0 0) (tail path) new ks l))

-- what is replaced is in this kid
pub present : (path : List ℕ) (new t : Plain) (ks : List Plain) (kid : Plain) → 1 ≤ length path → ks ≡ kids_of t → get_or path 0 0 < length ks → kid ≡ get_or ks (get_or path 0 0) kid → rewritten path new t ≡ rewritten_as (option_map (with (head_of t) ks (get_or path 0 0)) (replaced_at (tail path) new kid))
present path new t ks kid h e l i =
    let k = get_or path 0 0 in
    let below = tail path in
    ap (λ p. rewritten p new t) (path_parts path h)
    ∙ ap rewritten_as
    (by_kids k below new t
    ∙ ap (λ us. option_map (At (head_of t)) (replaced_in k below new (plains us))) (sym e)
    ∙ ap (option_map (At (head_of t))) (some_in k below new ks kid l)
    ∙ map_map (λ u. plains (set ks k u)) (At (head_of t)) (replaced_at below new (get_or ks k kid))
    ∙ ap (λ u. option_map (with (head_of t) ks k) (replaced_at below new u)) (sym i))

none_both : (a b : Option MakeStop) → option_or a b ≡ None → (a ≡ None) × (b ≡ None)
none_both None b e = (refl, e)
none_both (Some stop) b e = absurd cc

or_none : (a : Option MakeStop) → option_or a None ≡ a
or_none None = refl
or_none (Some stop) = refl

-- one kid alone may have a fault
faults_set : (ks : List Plain) (k : ℕ) (u : Plain) → k < length ks → faults (plains ks) ≡ None → faults (plains (set ks k u)) ≡ fault u
faults_set [] k u l f = absurd (omega arith)
faults_set (t ∷ ts) zero u l f =
    ap (option_or (fault u)) (none_both (fault t) (faults (plains ts)) f).1 ∙ or_none (fault u)
faults_set (t ∷ ts) (suc k) u l f =
    let p = none_both (fault t) (faults (plains ts)) f in
    ap (λ o. option_or o (faults (plains (set ts k u)))) p.0 ∙ faults_set ts k u (omega arith) p.1

-- so the fault of the whole is that of the kid, or one of its own
fault_with : (head : Head) (ks : List Plain) (k : ℕ) (u : Plain) → k < length ks → faults (plains ks) ≡ None → fault (with head ks k u) ≡ option_or (fault u) (fault_at (with head ks k u))
fault_with head ks k u l f = ap (λ o. option_or o (fault_at (with head ks k u))) (faults_set ks k u l f)

as_some : (e : RewriteStop) (f g : Option MakeStop) (t u : Plain) → RewriteGives (Err e) (unless (option_map as_rewrite f) t) → RewriteGives (Err e) (unless (option_map as_rewrite (option_or f g)) u)
as_some e (Some stop) g t u h = h
as_some IllSorted None g t u h = absurd cc
as_some TooLarge None g t u h = absurd cc
as_some PathAbsent None g t u h = absurd cc
as_some Memory None g t u h = tt

-- what stops the kid stops the whole
pub stopped_below : (e : RewriteStop) (head : Head) (ks : List Plain) (k : ℕ) (o : Option Plain) → k < length ks → faults (plains ks) ≡ None → RewriteGives (Err e) (rewritten_as o) → RewriteGives (Err e) (rewritten_as (option_map (with head ks k) o))
stopped_below e head ks k None l f h = h
stopped_below e head ks k (Some u) l f h =
    subst (λ z. RewriteGives (Err e) (unless (option_map as_rewrite z) (with head ks k u))) (sym (fault_with head ks k u l f))
    (as_some e (fault u) (fault_at (with head ks k u)) u (with head ks k u) h)

unless_rewrite : (o : Option MakeStop) (t u : Plain) → unless (option_map as_rewrite o) t ≡ Ok u → (t ≡ u) × (o ≡ None)
unless_rewrite None t u h = (cc, refl)
unless_rewrite (Some stop) t u h = absurd cc

-- where the kid is made, the whole is made of it or has a fault of its own
pub made_below : (head : Head) (ks : List Plain) (k : ℕ) (o : Option Plain) (kid : Plain) → k < length ks → faults (plains ks) ≡ None → rewritten_as o ≡ Ok kid → rewritten_as (option_map (with head ks k) o) ≡ unless (option_map as_rewrite (fault_at (with head ks k kid))) (with head ks k kid)
made_below head ks k None kid l f h = absurd cc
made_below head ks k (Some u) kid l f h =
    let p = unless_rewrite (fault u) u kid h in
    ap (λ z. unless (option_map as_rewrite z) (with head ks k u)) (fault_with head ks k u l f ∙ ap (λ z. option_or z (fault_at (with head ks k u))) p.1)
    ∙ ap (λ z. unless (option_map as_rewrite (fault_at (with head ks k z))) (with head ks k z)) p.0

-- what making the node answers
pub made_ok : (o : Option MakeStop) (t u : Plain) → unless o t ≡ Ok u → unless (option_map as_rewrite o) t ≡ Ok u
made_ok None t u h = let e : t ≡ u = cc in ap Ok e
made_ok (Some stop) t u h = absurd cc

pub made_err : (stop : MakeStop) (o : Option MakeStop) (t : Plain) → Gives (Err stop) (unless o t) → RewriteGives (Err (as_rewrite stop)) (unless (option_map as_rewrite o) t)
made_err m.TheVariants.IllSorted (Some stop) t h = ap (λ z. Err (as_rewrite z)) (let e : stop ≡ m.TheVariants.IllSorted = cc in e)
made_err m.TheVariants.IllSorted None t h = absurd cc
made_err m.TheVariants.TooLarge (Some stop) t h = ap (λ z. Err (as_rewrite z)) (let e : stop ≡ m.TheVariants.TooLarge = cc in e)
made_err m.TheVariants.TooLarge None t h = absurd cc
made_err m.TheVariants.Memory o t h = tt
