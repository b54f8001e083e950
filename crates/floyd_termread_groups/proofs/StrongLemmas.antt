-- The grouping of a row is the only one by strength.
use Rattle.std.proofs.Common.{◌≡◌, ℕ, zero, suc, inl, inr, ◌+◌, ◌-◌, ◌<◌, ◌≤◌, Bool, true, false, List, [], ◌∷◌, ◌++◌, length, map, take, drop, refl, sym, ◌∙◌, ap, subst, true≢false, append-nil, length-append, arith}
use Rattle.std.specs.Prelude.{◌⊎◌, Option, Some, None}
use Rattle.std.specs.List.{prefix_len, list_all}
use mathlib.Core.Former as Former
use Rattle.sqlite_items.specs.formers.items.Items as Items'
use denote.Hole.Carrier.{hidden, shown}
use denote.Enum.Bare.{same_true}
use Rattle.floyd_text.specs.declared.place.Place.{Place}
use Rattle.floyd_termread_trees.specs.declared.written.Infix.{Infix}
use Rattle.floyd_termread_trees.specs.declared.written.Infix.TheVariants as i
use Rattle.floyd_termread_trees.specs.declared.written.Prefix.{Prefix}
use Rattle.floyd_termread_trees.specs.declared.written.Prefix.TheVariants as prefix
use Rattle.floyd_termread_groups.specs.declared.grouped.Grouped.{Grouped}
use Rattle.floyd_termread_groups.specs.declared.grouped.Grouped as g
use Rattle.floyd_termread_groups.specs.declared.grouped.Grouped.{items_shown-the_row-GroupedLink-2}
use Rattle.floyd_termread_groups.specs.declared.grouped.Grouped.TheBlock.{backs-Grouped, shape-the_row-Grouped-1, hidden-the_row-Grouped-1, shown-the_row-Grouped-1}
use Rattle.floyd_termread_groups.specs.declared.grouped.GroupedLink.{GroupedLink}
use Rattle.floyd_termread_groups.specs.declared.grouped.Strength.{Strength}
use Rattle.floyd_termread_groups.specs.declared.grouped.Strength.TheVariants as s
use Rattle.floyd_termread_groups.specs.contracts.grouped.Strength.{the_type as strengths}
use Rattle.floyd_termread_groups.specs.declared.strengths.Level.{Level}
use Rattle.floyd_termread_groups.specs.declared.strengths.Level.TheVariants as level
use Rattle.floyd_termread_groups.specs.Strengths.{strength_of, has_strength, table}
use Rattle.floyd_termread_groups.specs.Groups.{Step, prefixed, is_of_formula, number, all_but_last, plain_number, signed, until, parts, joined, link, row, operand_of, step_of}
use Rattle.floyd_termread_groups.proofs.RowLemmas.{sign_last}
use Rattle.floyd_termread_groups.specs.Strong.{rank_of, rank_before, rank, behind_all, first_in, rest_in, rest_in_links, StandsBefore, ByStrength, LinksByStrength, IsOnlyGrouping}

-- Operators of one strength, and of another.
has_own : (op : Infix) → has_strength (strength_of op) op ≡ true
has_own i.Cons = refl
has_own i.Append = refl
has_own i.Add = refl
has_own i.Sub = refl
has_own i.Mul = refl
has_own i.Equal = refl
has_own i.Unequal = refl
has_own i.AtMost = refl
has_own i.Less = refl
has_own i.AtLeast = refl
has_own i.Greater = refl
has_own i.Implies = refl
has_own i.Or = refl
has_own i.And = refl

has_it : (strength : Strength) (op : Infix) → strength_of op ≡ strength → has_strength strength op ≡ true
has_it strength op e = subst (λ (x : Strength). has_strength x op ≡ true) e (has_own op)

has_not : (strength : Strength) (op : Infix) → rank_of strength < rank_of (strength_of op) → has_strength strength op ≡ false
has_not strength op less = go (has_strength strength op) refl
  where
    go : (b : Bool) → has_strength strength op ≡ b → b ≡ false
    go true h = absurd (omega (arith, less, ap rank_of (same_true strengths tt (strength_of op) strength h)))
    go false h = refl

-- Steps all of whose operators are stronger.
abbrev AllAbove : ℕ → List Step → Type 0
AllAbove n [] = Unit {0}
AllAbove n (x ∷ xs) = (n < rank_of (strength_of x.op)) × AllAbove n xs

both_above : (n : ℕ) (xs ys : List Step) → AllAbove n xs → AllAbove n ys → AllAbove n (xs ++ ys)
both_above n [] ys a b = b
both_above n (x ∷ xs) ys a b = (a.0, both_above n xs ys a.1 b)

module _ (strength : Strength) where
  until_above : (xs ys : List Step) → AllAbove (rank_of strength) xs → until strength (xs ++ ys) ≡ xs ++ until strength ys
  until_above [] ys a = refl
  until_above (x ∷ xs) ys a = rw (has_not strength x.op a.0) (ap (λ (l : List Step). x ∷ l) (until_above xs ys a.1))

  parts_above : (xs ys : List Step) → AllAbove (rank_of strength) xs → parts strength (xs ++ ys) ≡ parts strength ys
  parts_above [] ys a = refl
  parts_above (x ∷ xs) ys a = rw (has_not strength x.op a.0) (parts_above xs ys a.1)

before_less : (n : ℕ) (first : Prefix) (more : List Prefix) (x : Grouped) → StandsBefore (is_of_formula first) more x → n < rank_before (first ∷ more) → n < rank x
before_less n (prefix.Minus place) more x b less = omega (arith, less, b.1)
before_less n (prefix.Not place) more x b less = omega (arith, less, b.1)
before_less n (prefix.Forall place binders) more x b less = omega (arith, less, b.1)
before_less n (prefix.Exists place binders) more x b less = omega (arith, less, b.1)

mutual
  above : (n : ℕ) (x : Grouped) → ByStrength x → n < rank x → AllAbove n (rest_in x)
  above n g.Missing b less = tt
  above n (g.Literal minus value place) b less = tt
  above n (g.Name name) b less = tt
  above n (g.Word word place) b less = tt
  above n (g.Struct place tag) b less = tt
  above n (g.Field place name) b less = tt
  above n (g.Bracket' opening place shape items close) b less = tt
  above n (g.Prefixed' [] p (g.more_of-Grouped x g.end_of-Grouped)) b less = absurd b
  above n (g.Prefixed' (first ∷ more) p (g.more_of-Grouped x g.end_of-Grouped)) b less = above n x b.1 (before_less n first more x b.0 less)
  above n (g.Row' strength p (g.more_of-Grouped x g.end_of-Grouped) [] links) b less = absurd b
  above n (g.Row' strength p (g.more_of-Grouped x g.end_of-Grouped) (one ∷ shape) links) b less =
      both_above n (rest_in x) (rest_in_links links) (above n x b.1 (omega (arith, less, b.0))) (links_above n strength less links b.2)

  links_above : {m : _} (n : ℕ) (strength : Strength) → n < rank_of strength → (links : g.Row_of-GroupedLink m) → LinksByStrength strength links → AllAbove n (rest_in_links links)
  links_above n strength less g.end_of-GroupedLink b = tt
  links_above n strength less (g.more_of-GroupedLink op place x links) b =
      (omega (arith, less, ap rank_of b.0), both_above n (rest_in x) (rest_in_links links) (above n x b.2 (omega (arith, less, b.1))) (links_above n strength less links b.3))

-- Operators before the first operand.
lead_minus : (x : Grouped) → ByStrength x → 3 < rank x → prefix_len is_of_formula (first_in x).prefixes ≡ 0
lead_minus g.Missing b less = refl
lead_minus (g.Literal None value place) b less = refl
lead_minus (g.Literal (Some at) value place) b less = refl
lead_minus (g.Name name) b less = refl
lead_minus (g.Word word place) b less = refl
lead_minus (g.Struct place tag) b less = refl
lead_minus (g.Field place name) b less = refl
lead_minus (g.Bracket' opening place shape items close) b less = refl
lead_minus (g.Prefixed' [] p (g.more_of-Grouped x g.end_of-Grouped)) b less = absurd b
lead_minus (g.Prefixed' (prefix.Minus place ∷ more) p (g.more_of-Grouped x g.end_of-Grouped)) b less = refl
lead_minus (g.Prefixed' (prefix.Not place ∷ more) p (g.more_of-Grouped x g.end_of-Grouped)) b less = absurd (omega (arith, less))
lead_minus (g.Prefixed' (prefix.Forall place binders ∷ more) p (g.more_of-Grouped x g.end_of-Grouped)) b less = absurd (omega (arith, less))
lead_minus (g.Prefixed' (prefix.Exists place binders ∷ more) p (g.more_of-Grouped x g.end_of-Grouped)) b less = absurd (omega (arith, less))
lead_minus (g.Row' strength p (g.more_of-Grouped x g.end_of-Grouped) [] links) b less = absurd b
lead_minus (g.Row' strength p (g.more_of-Grouped x g.end_of-Grouped) (one ∷ shape) links) b less = lead_minus x b.1 (omega (arith, less, b.0))

-- a run of operators of a formula, and what has none at its front
count_run : (ps qs : List Prefix) → list_all is_of_formula ps ≡ true → prefix_len is_of_formula qs ≡ 0 → prefix_len is_of_formula (ps ++ qs) ≡ length ps
count_run [] qs all none = none
count_run (prefix.Minus place ∷ ps) qs all none = absurd (true≢false (sym all))
count_run (prefix.Not place ∷ ps) qs all none = let e = count_run ps qs all none in omega (arith, e)
count_run (prefix.Forall place binders ∷ ps) qs all none = let e = count_run ps qs all none in omega (arith, e)
count_run (prefix.Exists place binders ∷ ps) qs all none = let e = count_run ps qs all none in omega (arith, e)

take_front : (ps qs : List Prefix) → take (length ps) (ps ++ qs) ≡ ps
take_front [] qs = refl
take_front (p ∷ ps) qs = ap (λ (l : List Prefix). p ∷ l) (take_front ps qs)

drop_front : (ps qs : List Prefix) → drop (length ps) (ps ++ qs) ≡ qs
drop_front [] qs = refl
drop_front (p ∷ ps) qs = drop_front ps qs

-- The links of a row.
abbrev link_with : Infix → Place → Grouped → GroupedLink
link_with op place x = record { «infix» = op; place = place; operand = x }

abbrev pairs : {m : _} → g.Row_of-GroupedLink m → List (Step × List Step)
pairs g.end_of-GroupedLink = []
pairs (g.more_of-GroupedLink op place x links) = (step_of op place (first_in x), rest_in x) ∷ pairs links

module _ (strength : Strength) where
  no_links : {m : _} (links : g.Row_of-GroupedLink m) → LinksByStrength strength links → until strength (rest_in_links links) ≡ []
  no_links g.end_of-GroupedLink b = refl
  no_links (g.more_of-GroupedLink op place x links) b = rw (has_it strength op b.0) refl

  front_is : {m : _} (x : Grouped) (links : g.Row_of-GroupedLink m) → ByStrength x → rank_of strength < rank x → LinksByStrength strength links → until strength (rest_in x ++ rest_in_links links) ≡ rest_in x
  front_is x links b less c =
      until_above strength (rest_in x) (rest_in_links links) (above (rank_of strength) x b less) ∙ ap (λ (l : List Step). rest_in x ++ l) (no_links links c) ∙ append-nil (rest_in x)

  links_parts : {m : _} (links : g.Row_of-GroupedLink m) → LinksByStrength strength links → parts strength (rest_in_links links) ≡ pairs links
  links_parts g.end_of-GroupedLink b = refl
  links_parts (g.more_of-GroupedLink op place x links) b =
      rw (has_it strength op b.0)
      (ap (λ (l : List Step). (step_of op place (first_in x), l) ∷ parts strength (rest_in x ++ rest_in_links links)) (front_is x links b.2 b.1 b.3)
      ∙ ap (λ (l : List (Step × List Step)). (step_of op place (first_in x), rest_in x) ∷ l) (parts_above strength (rest_in x) (rest_in_links links) (above (rank_of strength) x b.2 b.1) ∙ links_parts links b.3))

  module _ (stronger : List Level) (again : (x : Grouped) → ByStrength x → rank_of strength < rank x → row stronger (first_in x) (rest_in x) ≡ x) where
    links_made : {m : _} (links : g.Row_of-GroupedLink m) → LinksByStrength strength links → map (link (row stronger)) (pairs links) ≡ g.items-the_row-GroupedLink m links
    links_made g.end_of-GroupedLink b = refl
    links_made (g.more_of-GroupedLink op place x links) b =
        ap (λ (y : Grouped). link_with op place y ∷ map (link (row stronger)) (pairs links)) (again x b.2 b.1)
        ∙ ap (λ (l : List GroupedLink). link_with op place x ∷ l) (links_made links b.3)

-- A tree is made again of what it is seen as.
row_again : (strength : Strength) (p : Unit {0}) (x : Grouped) (shape : List (Unit {0})) (links : g.Row_of-GroupedLink (Former.arity (Items'.the_former (Former.this {0})) shape))
    → g.Row strength x (g.items-the_row-GroupedLink _ links) ≡ g.Row' strength p (g.more_of-Grouped x g.end_of-Grouped) shape links
unfolding shape-the_row-Grouped-1 hidden-the_row-Grouped-1 shown-the_row-Grouped-1 hidden shown
row_again strength p x shape links =
    ap (λ (l : List GroupedLink). g.Row strength x l) (sym (items_shown-the_row-GroupedLink-2 shape links)) ∙ backs-Grouped (g.Row' strength p (g.more_of-Grouped x g.end_of-Grouped) shape links)

prefixed_again : (prefixes : List Prefix) (p : Unit {0}) (x : Grouped) → g.Prefixed prefixes x ≡ g.Prefixed' prefixes p (g.more_of-Grouped x g.end_of-Grouped)
unfolding shape-the_row-Grouped-1 hidden-the_row-Grouped-1 hidden
prefixed_again prefixes p x = refl

row_made : (strength : Strength) (stronger : List Level) (again : (x : Grouped) → ByStrength x → rank_of strength < rank x → row stronger (first_in x) (rest_in x) ≡ x) (p : Unit {0}) (x : Grouped) (shape : List (Unit {0}))
    (links : g.Row_of-GroupedLink (Former.arity (Items'.the_former (Former.this {0})) shape)) → ByStrength (g.Row' strength p (g.more_of-Grouped x g.end_of-Grouped) shape links)
    → row (level.Between strength ∷ stronger) (first_in x) (rest_in x ++ rest_in_links links) ≡ g.Row' strength p (g.more_of-Grouped x g.end_of-Grouped) shape links
unfolding row
row_made strength stronger again p x [] links b = absurd b
row_made strength stronger again p x (one ∷ shape) (g.more_of-GroupedLink op place y links) b =
    let all = g.more_of-GroupedLink op place y links in
    ap (λ (l : List Step). joined strength (row stronger (first_in x) l) (map (link (row stronger)) (parts strength (rest_in x ++ rest_in_links all)))) (front_is strength x all b.1 b.0 b.2)
    ∙ ap (λ (l : List (Step × List Step)). joined strength (row stronger (first_in x) (rest_in x)) (map (link (row stronger)) l))
    (parts_above strength (rest_in x) (rest_in_links all) (above (rank_of strength) x b.1 b.0) ∙ links_parts strength all b.2)
    ∙ ap (joined strength (row stronger (first_in x) (rest_in x))) (links_made strength stronger again all b.2)
    ∙ ap (λ (z : Grouped). g.Row strength z (g.items-the_row-GroupedLink _ all)) (again x b.1 b.0)
    ∙ row_again strength p x (one ∷ shape) all

-- Numbers of levels.
le_cases : (n m : ℕ) → n ≤ m → (n ≡ m) ⊎ (n < m)
le_cases zero zero le = inl refl
le_cases zero (suc m) le = inr (omega arith)
le_cases (suc n) zero le = absurd (omega (arith, le))
le_cases (suc n) (suc m) le = elim (le_cases n m (omega (arith, le))) [ inl e ↦ inl (ap (λ (k : ℕ). suc k) e) | inr less ↦ inr (omega (arith, less)) ]

strength_at : ℕ → Strength
strength_at zero = s.Implies
strength_at (suc zero) = s.Or
strength_at (suc (suc zero)) = s.And
strength_at (suc (suc (suc zero))) = s.And
strength_at (suc (suc (suc (suc zero)))) = s.Relation
strength_at (suc (suc (suc (suc (suc zero))))) = s.Cons
strength_at (suc (suc (suc (suc (suc (suc zero)))))) = s.Append
strength_at (suc (suc (suc (suc (suc (suc (suc zero))))))) = s.Sum
strength_at n = s.Product

at_rank : (strength : Strength) → strength_at (rank_of strength) ≡ strength
unfolding strength_at
at_rank s.Implies = refl
at_rank s.Or = refl
at_rank s.And = refl
at_rank s.Relation = refl
at_rank s.Cons = refl
at_rank s.Append = refl
at_rank s.Sum = refl
at_rank s.Product = refl

same_strength : (a b : Strength) → rank_of a ≡ rank_of b → a ≡ b
same_strength a b e = sym (at_rank a) ∙ ap strength_at e ∙ at_rank b

rank_small : (strength : Strength) → rank_of strength ≤ 8
rank_small s.Implies = omega arith
rank_small s.Or = omega arith
rank_small s.And = omega arith
rank_small s.Relation = omega arith
rank_small s.Cons = omega arith
rank_small s.Append = omega arith
rank_small s.Sum = omega arith
rank_small s.Product = omega arith

rank_between : (strength : Strength) → rank_of strength ≡ 3 → ⊥
rank_between s.Implies e = omega (arith, e)
rank_between s.Or e = omega (arith, e)
rank_between s.And e = omega (arith, e)
rank_between s.Relation e = omega (arith, e)
rank_between s.Cons e = omega (arith, e)
rank_between s.Append e = omega (arith, e)
rank_between s.Sum e = omega (arith, e)
rank_between s.Product e = omega (arith, e)

rank_before_is : (first : Prefix) (more : List Prefix) → (rank_before (first ∷ more) ≡ 3) ⊎ (rank_before (first ∷ more) ≡ 9)
rank_before_is (prefix.Minus place) more = inr refl
rank_before_is (prefix.Not place) more = inl refl
rank_before_is (prefix.Forall place binders) more = inl refl
rank_before_is (prefix.Exists place binders) more = inl refl

no_rank_before : (strength : Strength) (first : Prefix) (more : List Prefix) → rank_of strength ≡ rank_before (first ∷ more) → ⊥
no_rank_before strength first more e = elim (rank_before_is first more) [ inl h ↦ rank_between strength (e ∙ h) | inr h ↦ omega (arith, rank_small strength, e ∙ h) ]

-- Where no level is left.
all_but : (ps : List Prefix) (p : Prefix) → all_but_last (ps ++ p ∷ []) ≡ ps
all_but ps p = let count : length (ps ++ p ∷ []) - 1 ≡ length ps = omega (arith, length-append ps (p ∷ [])) in ap (λ (n : ℕ). take n (ps ++ p ∷ [])) count ∙ take_front ps (p ∷ [])

module _ (place : Place) (more : List Prefix) where
  abbrev run : List Prefix
  run = prefix.Minus place ∷ more

  -- what `-` stands before is no row and no plain number
  minus_again : (p : Unit {0}) (x : Grouped) → ByStrength x → rank x ≡ 10 → plain_number x ≡ None → signed (run ++ (first_in x).prefixes) (first_in x).atom ≡ g.Prefixed' run p (g.more_of-Grouped x g.end_of-Grouped)
  minus_again p g.Missing b leaf plain = ap (λ (l : List Prefix). signed l g.Missing) (append-nil run) ∙ prefixed_again run p g.Missing
  minus_again p (g.Literal None value at) b leaf plain = absurd cc
  minus_again p (g.Literal (Some sign_at) value at) b leaf plain =
      ap (λ (o : Option Place). number o (run ++ prefix.Minus sign_at ∷ []) value at) (sign_last run (prefix.Minus sign_at))
      ∙ ap (λ (l : List Prefix). prefixed l (g.Literal (Some sign_at) value at)) (all_but run (prefix.Minus sign_at))
      ∙ prefixed_again run p (g.Literal (Some sign_at) value at)
  minus_again p (g.Name name) b leaf plain = ap (λ (l : List Prefix). signed l (g.Name name)) (append-nil run) ∙ prefixed_again run p (g.Name name)
  minus_again p (g.Word word at) b leaf plain = ap (λ (l : List Prefix). signed l (g.Word word at)) (append-nil run) ∙ prefixed_again run p (g.Word word at)
  minus_again p (g.Struct at tag) b leaf plain = ap (λ (l : List Prefix). signed l (g.Struct at tag)) (append-nil run) ∙ prefixed_again run p (g.Struct at tag)
  minus_again p (g.Field at name) b leaf plain = ap (λ (l : List Prefix). signed l (g.Field at name)) (append-nil run) ∙ prefixed_again run p (g.Field at name)
  minus_again p (g.Bracket' opening at shape items close) b leaf plain =
      ap (λ (l : List Prefix). signed l (g.Bracket' opening at shape items close)) (append-nil run) ∙ prefixed_again run p (g.Bracket' opening at shape items close)
  minus_again p (g.Prefixed' [] q (g.more_of-Grouped y g.end_of-Grouped)) b leaf plain = absurd b
  minus_again p (g.Prefixed' (first ∷ rest) q (g.more_of-Grouped y g.end_of-Grouped)) b leaf plain = absurd (elim (rank_before_is first rest) [ inl h ↦ omega (arith, leaf, h) | inr h ↦ omega (arith, leaf, h) ])
  minus_again p (g.Row' strength q (g.more_of-Grouped y g.end_of-Grouped) shape links) b leaf plain = absurd (omega (arith, leaf, rank_small strength))

signed_again : (x : Grouped) → ByStrength x → 9 ≤ rank x → signed (first_in x).prefixes (first_in x).atom ≡ x
signed_again g.Missing b le = refl
signed_again (g.Literal None value place) b le = refl
signed_again (g.Literal (Some at) value place) b le = refl
signed_again (g.Name name) b le = refl
signed_again (g.Word word place) b le = refl
signed_again (g.Struct place tag) b le = refl
signed_again (g.Field place name) b le = refl
signed_again (g.Bracket' opening place shape items close) b le = refl
signed_again (g.Prefixed' [] p (g.more_of-Grouped x g.end_of-Grouped)) b le = absurd b
signed_again (g.Prefixed' (prefix.Minus place ∷ more) p (g.more_of-Grouped x g.end_of-Grouped)) b le = minus_again place more p x b.1 b.0.1 b.0.2
signed_again (g.Prefixed' (prefix.Not place ∷ more) p (g.more_of-Grouped x g.end_of-Grouped)) b le = absurd (omega (arith, le))
signed_again (g.Prefixed' (prefix.Forall place binders ∷ more) p (g.more_of-Grouped x g.end_of-Grouped)) b le = absurd (omega (arith, le))
signed_again (g.Prefixed' (prefix.Exists place binders ∷ more) p (g.more_of-Grouped x g.end_of-Grouped)) b le = absurd (omega (arith, le))
signed_again (g.Row' strength p (g.more_of-Grouped x g.end_of-Grouped) shape links) b le = absurd (omega (arith, le, rank_small strength))

-- One level, where the next are known.
abbrev From : ℕ → List Level → Type 0
From n [] = 9 ≤ n
From n (level.Between strength ∷ stronger) = (rank_of strength ≡ n) × From (n + 1) stronger
From n (level.Before ∷ stronger) = (3 ≡ n) × From (n + 1) stronger

module _ (stronger : List Level) (n : ℕ) (again : (x : Grouped) → ByStrength x → n + 1 ≤ rank x → row stronger (first_in x) (rest_in x) ≡ x) where
  module _ (strength : Strength) (is : rank_of strength ≡ n) where
    between_above : (x : Grouped) → ByStrength x → n < rank x → row (level.Between strength ∷ stronger) (first_in x) (rest_in x) ≡ x
    unfolding row
    between_above x b less =
        let own = above (rank_of strength) x b (omega (arith, less, is)) in
        let nil = append-nil (rest_in x) in
        let front : until strength (rest_in x) ≡ rest_in x = ap (until strength) (sym nil) ∙ until_above strength (rest_in x) [] own ∙ nil in
        let none : parts strength (rest_in x) ≡ [] = ap (parts strength) (sym nil) ∙ parts_above strength (rest_in x) [] own in
        ap (λ (l : List Step). joined strength (row stronger (first_in x) l) (map (link (row stronger)) (parts strength (rest_in x)))) front
        ∙ ap (λ (l : List (Step × List Step)). joined strength (row stronger (first_in x) (rest_in x)) (map (link (row stronger)) l)) none
        ∙ again x b (omega (arith, less))

    between_here : (x : Grouped) → ByStrength x → n ≡ rank x → row (level.Between strength ∷ stronger) (first_in x) (rest_in x) ≡ x
    between_here g.Missing b e = absurd (omega (arith, e, is, rank_small strength))
    between_here (g.Literal minus value place) b e = absurd (omega (arith, e, is, rank_small strength))
    between_here (g.Name name) b e = absurd (omega (arith, e, is, rank_small strength))
    between_here (g.Word word place) b e = absurd (omega (arith, e, is, rank_small strength))
    between_here (g.Struct place tag) b e = absurd (omega (arith, e, is, rank_small strength))
    between_here (g.Field place name) b e = absurd (omega (arith, e, is, rank_small strength))
    between_here (g.Bracket' opening place shape items close) b e = absurd (omega (arith, e, is, rank_small strength))
    between_here (g.Prefixed' [] p (g.more_of-Grouped x g.end_of-Grouped)) b e = absurd b
    between_here (g.Prefixed' (first ∷ more) p (g.more_of-Grouped x g.end_of-Grouped)) b e = absurd (no_rank_before strength first more (is ∙ e))
    between_here (g.Row' other p (g.more_of-Grouped x g.end_of-Grouped) shape links) b e =
        let same : strength ≡ other = same_strength strength other (is ∙ e) in
        ap (λ (z : Strength). row (level.Between z ∷ stronger) (first_in x) (rest_in x ++ rest_in_links links)) same
        ∙ row_made other stronger (λ y c less. again y c (omega (arith, less, is, ap rank_of same))) p x shape links b

  module _ (is : 3 ≡ n) where
    before_above : (x : Grouped) → ByStrength x → n < rank x → row (level.Before ∷ stronger) (first_in x) (rest_in x) ≡ x
    unfolding row
    before_above x b less =
        let none = lead_minus x b (omega (arith, less, is)) in
        ap (λ (k : ℕ). prefixed (take k (first_in x).prefixes) (row stronger (operand_of (drop k (first_in x).prefixes) (first_in x).atom) (rest_in x))) none
        ∙ again x b (omega (arith, less))

    formula_made : (first : Prefix) (more : List Prefix) (p : Unit {0}) (x : Grouped) → ByStrength x → list_all is_of_formula (first ∷ more) ≡ true → 3 < rank x
        → row (level.Before ∷ stronger) (behind_all (first ∷ more) (first_in x)) (rest_in x) ≡ g.Prefixed' (first ∷ more) p (g.more_of-Grouped x g.end_of-Grouped)
    unfolding row
    formula_made first more p x b all less =
        let run = first ∷ more in
        let count = count_run run (first_in x).prefixes all (lead_minus x b less) in
        ap (λ (k : ℕ). prefixed (take k (run ++ (first_in x).prefixes)) (row stronger (operand_of (drop k (run ++ (first_in x).prefixes)) (first_in x).atom) (rest_in x))) count
        ∙ ap (λ (l : List Prefix). prefixed l (row stronger (operand_of (drop (length run) (run ++ (first_in x).prefixes)) (first_in x).atom) (rest_in x))) (take_front run (first_in x).prefixes)
        ∙ ap (λ (l : List Prefix). prefixed run (row stronger (operand_of l (first_in x).atom) (rest_in x))) (drop_front run (first_in x).prefixes)
        ∙ ap (prefixed run) (again x b (omega (arith, less, is)))
        ∙ prefixed_again run p x

    before_here : (x : Grouped) → ByStrength x → n ≡ rank x → row (level.Before ∷ stronger) (first_in x) (rest_in x) ≡ x
    before_here g.Missing b e = absurd (omega (arith, e, is))
    before_here (g.Literal minus value place) b e = absurd (omega (arith, e, is))
    before_here (g.Name name) b e = absurd (omega (arith, e, is))
    before_here (g.Word word place) b e = absurd (omega (arith, e, is))
    before_here (g.Struct place tag) b e = absurd (omega (arith, e, is))
    before_here (g.Field place name) b e = absurd (omega (arith, e, is))
    before_here (g.Bracket' opening place shape items close) b e = absurd (omega (arith, e, is))
    before_here (g.Prefixed' [] p (g.more_of-Grouped x g.end_of-Grouped)) b e = absurd b
    before_here (g.Prefixed' (prefix.Minus place ∷ more) p (g.more_of-Grouped x g.end_of-Grouped)) b e = absurd (omega (arith, e, is))
    before_here (g.Prefixed' (prefix.Not place ∷ more) p (g.more_of-Grouped x g.end_of-Grouped)) b e = formula_made (prefix.Not place) more p x b.1 b.0.0 b.0.1
    before_here (g.Prefixed' (prefix.Forall place binders ∷ more) p (g.more_of-Grouped x g.end_of-Grouped)) b e = formula_made (prefix.Forall place binders) more p x b.1 b.0.0 b.0.1
    before_here (g.Prefixed' (prefix.Exists place binders ∷ more) p (g.more_of-Grouped x g.end_of-Grouped)) b e = formula_made (prefix.Exists place binders) more p x b.1 b.0.0 b.0.1
    before_here (g.Row' strength p (g.more_of-Grouped x g.end_of-Grouped) shape links) b e = absurd (rank_between strength (sym (is ∙ e)))

regroup : (levels : List Level) (n : ℕ) → From n levels → (x : Grouped) → ByStrength x → n ≤ rank x → row levels (first_in x) (rest_in x) ≡ x
unfolding row
regroup [] n f x b le = signed_again x b (omega (arith, f, le))
regroup (level.Between strength ∷ stronger) n f x b le =
    elim (le_cases n (rank x) le) [
      | inl e ↦ between_here stronger n (λ y c d. regroup stronger (n + 1) f.1 y c d) strength f.0 x b e
      | inr less ↦ between_above stronger n (λ y c d. regroup stronger (n + 1) f.1 y c d) strength f.0 x b less
    ]
regroup (level.Before ∷ stronger) n f x b le =
    elim (le_cases n (rank x) le) [
      | inl e ↦ before_here stronger n (λ y c d. regroup stronger (n + 1) f.1 y c d) f.0 x b e
      | inr less ↦ before_above stronger n (λ y c d. regroup stronger (n + 1) f.1 y c d) f.0 x b less
    ]

pub only_grouping : IsOnlyGrouping
only_grouping tree b = regroup table 0 (refl, (refl, (refl, (refl, (refl, (refl, (refl, (refl, (refl, omega arith))))))))) tree b (omega arith)
