-- The sides of connectives in turn.
use Rattle.std.proofs.Common.{◌≡◌, List, [], ◌∷◌, ◌++◌, map, Ok, Err, length, refl, ap, sym, ◌∙◌, append-nil, arith}
use Rattle.floyd_text.specs.declared.place.Place.{Place}
use Rattle.floyd_tree_sorts.specs.declared.connectives.FormulaHead.{FormulaHead}
use Rattle.floyd_tree.specs.Formulas.{PlainFormula}
use Rattle.floyd_termread_groups.specs.declared.grouped.Grouped.{Grouped}
use Rattle.floyd_termread_groups.specs.declared.grouped.GroupedLink.{GroupedLink}
use Rattle.floyd_termread_scope.specs.Scopes.{Env}
use Rattle.floyd_termread_wants.specs.declared.stop.JudgeStop.{JudgeStop}
use Rattle.floyd_termread_wants.specs.Judging.{Judged, ◌>>=◌, JudgeStops}
use Rattle.floyd_termread_wants.proofs.JudgedLists.{stops, same_stop}
use Rattle.floyd_termread_terms.specs.Terms.{sense_of}
use Rattle.floyd_termread_forms.specs.declared.sides.Side.{Side}
use Rattle.floyd_termread_forms.specs.FrameClauses.{behind}
use Rattle.floyd_termread_forms.specs.Joining.{joined_sides}
use Rattle.floyd_termread_formulas.specs.Formulas.{Reading, LinkReading, reading_of, link_reading, side_of, sides_of, joined}
use Rattle.floyd_termread_forms.proofs.ListLemmas.{behind_one, behind_stops}
use Rattle.floyd_termread_formulas.proofs.ReadingLemmas.{sense_is}

-- a side that was read
pub side_is : (e f : Env) (x : Grouped) (y : PlainFormula) (place : Place) → f ≡ e → (reading_of x).formula f ≡ Ok y → place ≡ (sense_of x).place → side_of e (reading_of x) ≡ Ok (record { place = place; formula = y })
side_is e f x y place same read at =
    ap (λ (r : Judged PlainFormula). r >>= λ z. Ok (record { place = (reading_of x).sense.place; formula = z })) (ap (reading_of x).formula (sym same) ∙ read)
    ∙ ap (λ (p : Place). Ok (record { place = p; formula = y })) (ap (λ s. s.place) (sense_is x) ∙ sym at)

begun : (head : FormulaHead) (s : Side) (r : Judged (List Side)) → (behind (s ∷ []) r >>= joined_sides head) ≡ (r >>= λ xs. joined_sides head (s ∷ xs))
begun head s (Ok xs) = refl
begun head s (Err stop) = refl

pub sides_begin : (head : FormulaHead) (e : Env) (first : Reading) (links : List LinkReading) (s : Side) → side_of e first ≡ Ok s → (behind (s ∷ []) (sides_of e links) >>= joined_sides head) ≡ joined head e first links
sides_begin head e first links s h =
    begun head s (sides_of e links)
    ∙ sym (ap (λ (r : Judged Side). r >>= λ x. sides_of e links >>= λ xs. joined_sides head (x ∷ xs)) h)

-- what stops the first side stops all
pub first_stops : (head : FormulaHead) (e f : Env) (x : Grouped) (links : List LinkReading) (stop : JudgeStop) → f ≡ e → JudgeStops stop ((reading_of x).formula f) → JudgeStops stop (joined head e (reading_of x) links)
first_stops head e f x links stop same h = stops stop _ _ (stops stop _ _ (same_stop stop _ _ (ap (reading_of x).formula same) h))

module _ (head : FormulaHead) (e : Env) (put : List Side) (rest more : List GroupedLink) (link : GroupedLink) (total : Judged PlainFormula) (is : rest ≡ link ∷ more)
    (done : (behind put (sides_of e (map link_reading rest)) >>= joined_sides head) ≡ total) where
  rest_sides : Side → Judged (List Side)
  rest_sides x = sides_of e (map link_reading more) >>= λ xs. Ok (x ∷ xs)

  here : (behind put (side_of e (reading_of link.operand) >>= rest_sides) >>= joined_sides head) ≡ total
  unfolding rest_sides
  here = sym (ap (λ (ls : List GroupedLink). behind put (sides_of e (map link_reading ls)) >>= joined_sides head) is) ∙ done

  pub side_stops : (f : Env) (stop : JudgeStop) → f ≡ e → JudgeStops stop ((reading_of link.operand).formula f) → JudgeStops stop total
  side_stops f stop same h =
      same_stop stop _ _ here
      (stops stop _ (joined_sides head) (behind_stops stop put _ (stops stop _ rest_sides (stops stop _ _ (same_stop stop _ _ (ap (reading_of link.operand).formula same) h)))))

  pub side_next : (f : Env) (y : PlainFormula) (place : Place) (next : List Side) → f ≡ e → (reading_of link.operand).formula f ≡ Ok y → place ≡ (sense_of link.operand).place → next ≡ put ++ record { place = place; formula = y } ∷ []
      → (behind next (sides_of e (map link_reading more)) >>= joined_sides head) ≡ total
  unfolding rest_sides
  side_next f y place next same read at next_is =
      ap (λ (ss : List Side). behind ss (sides_of e (map link_reading more)) >>= joined_sides head) next_is
      ∙ ap (λ (r : Judged (List Side)). r >>= joined_sides head) (behind_one put (record { place = place; formula = y }) (sides_of e (map link_reading more)))
      ∙ sym (ap (λ (r : Judged Side). behind put (r >>= rest_sides) >>= joined_sides head) (side_is e f link.operand y place same read at))
      ∙ here

-- where no side is left
pub sides_end : (head : FormulaHead) (e : Env) (sides given : List Side) (rest : List GroupedLink) (total : Judged PlainFormula) → length rest ≡ 0 → (behind sides (sides_of e (map link_reading rest)) >>= joined_sides head) ≡ total → given ≡ sides
    → total ≡ joined_sides head given
sides_end head e sides given [] total none done same = sym done ∙ ap (joined_sides head) (append-nil sides ∙ sym same)
sides_end head e sides given (x ∷ xs) total none done same = absurd (omega (arith, none))
