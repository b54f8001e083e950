-- Rows as the program splits them.
use Rattle.std.proofs.Common.{◌≡◌, ℕ, suc, ◌+◌, arith, append_assoc, Bool, true, false, List, map, [], ◌∷◌, ◌++◌, take, refl, ap, ◌∙◌, sym}
use Rattle.std.specs.List.{prefix_len}
use Rattle.floyd_termread_trees.specs.declared.written.Link.{Link}
use Rattle.floyd_termread_trees.specs.declared.written.Prefix.{Prefix}
use Rattle.floyd_termread_groups.specs.declared.grouped.Strength.{Strength}
use Rattle.floyd_termread_groups.specs.declared.grouped.Grouped.{Grouped}
use Rattle.floyd_termread_groups.specs.declared.grouped.GroupedLink.{GroupedLink}
use Rattle.floyd_termread_groups.specs.declared.strengths.Level.{Level}
use Rattle.floyd_termread_groups.specs.declared.strengths.Level.TheVariants as level
use Rattle.floyd_termread_groups.specs.Groups.{Operand, Step, until, parts, joined, link, sign, sign_of, row, alone}
use Rattle.floyd_termread_groups.specs.RowClauses.{step_at, is_other}
use Rattle.floyd_termread_groups.specs.Strengths.{has_strength, table}

module _ (strength : Strength) (x : Link) (xs : List Link) where
  until_by : (b : Bool) → has_strength strength x.«infix» ≡ b → until strength (map step_at xs) ≡ map step_at (take (prefix_len (is_other strength) xs) xs)
      → until strength (map step_at (x ∷ xs)) ≡ map step_at (take (prefix_len (is_other strength) (x ∷ xs)) (x ∷ xs))
  until_by true e h = rw e refl
  until_by false e h =
      let count : 1 + prefix_len (is_other strength) xs ≡ suc (prefix_len (is_other strength) xs) = omega arith in
      rw (e, count) (ap (λ (l : List Step). step_at x ∷ l) h)

pub until_taken : (strength : Strength) (xs : List Link) → until strength (map step_at xs) ≡ map step_at (take (prefix_len (is_other strength) xs) xs)
until_taken strength [] = refl
until_taken strength (x ∷ xs) = until_by strength x xs (has_strength strength x.«infix») refl (until_taken strength xs)

pub sign_last : (before : List Prefix) (p : Prefix) → sign (before ++ p ∷ []) ≡ sign_of p
sign_last [] p = refl
sign_last (q ∷ []) p = refl
sign_last (q ∷ r ∷ before) p = sign_last (r ∷ before) p

-- an operand that no operator stands before
pub row_alone : (x : Grouped) → row table (alone x) [] ≡ x
unfolding row
row_alone x = refl

-- a row at the weakest of its levels
pub row_between : (levels : List Level) (strength : Strength) (stronger : List Level) (x : Operand) (links : List Link) (end : ℕ) (first : Grouped) (more : List GroupedLink) → levels ≡ level.Between strength ∷ stronger
    → end ≡ prefix_len (is_other strength) links → first ≡ row stronger x (map step_at (take end links)) → more ≡ map (link (row stronger)) (parts strength (map step_at links))
    → joined strength first more ≡ row levels x (map step_at links)
unfolding row
row_between levels strength stronger x links end first more is count made rest =
    ap (λ (y : Grouped). joined strength y more)
    (made ∙ ap (λ (n : ℕ). row stronger x (map step_at (take n links))) count ∙ ap (row stronger x) (sym (until_taken strength links)))
    ∙ ap (joined strength (row stronger x (until strength (map step_at links)))) rest
    ∙ sym (ap (λ (ls : List Level). row ls x (map step_at links)) is)

-- a turn of the loop over the operators that are so strong
module _ (strength : Strength) (stronger : List Level) (next : Link) (behind rest : List Link) (is : rest ≡ next ∷ behind) (strong : has_strength strength next.«infix» ≡ true) where
  more_of : List Link → List GroupedLink
  more_of links = map (link (row stronger)) (parts strength (map step_at links))

  next_part : more_of rest ≡ link (row stronger) (step_at next, until strength (map step_at behind)) ∷ more_of behind
  unfolding more_of
  next_part = ap (λ (links : List Link). map (link (row stronger)) (parts strength (map step_at links))) is ∙ rw strong refl

  pub link_turn : (end : ℕ) (made : GroupedLink) (all new whole : List GroupedLink) → end ≡ prefix_len (is_other strength) behind → made ≡ link (row stronger) (step_at next, map step_at (take end behind)) → new ≡ all ++ made ∷ []
      → all ++ map (link (row stronger)) (parts strength (map step_at rest)) ≡ whole → new ++ map (link (row stronger)) (parts strength (map step_at behind)) ≡ whole
  unfolding more_of
  link_turn end made all new whole count made_is new_is so_far =
      let same : made ≡ link (row stronger) (step_at next, until strength (map step_at behind)) =
      made_is ∙ ap (λ (xs : List Step). link (row stronger) (step_at next, xs)) (ap (λ (n : ℕ). map step_at (take n behind)) count ∙ sym (until_taken strength behind)) in
      ap (λ (l : List GroupedLink). l ++ map (link (row stronger)) (parts strength (map step_at behind))) new_is
      ∙ append_assoc all (made ∷ []) (map (link (row stronger)) (parts strength (map step_at behind)))
      ∙ ap (λ (l : List GroupedLink). all ++ l) (ap (λ (y : GroupedLink). y ∷ map (link (row stronger)) (parts strength (map step_at behind))) same ∙ sym next_part)
      ∙ so_far
