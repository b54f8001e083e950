-- The items of a bracket, by their numbers.
use Rattle.std.proofs.Common.{◌≡◌, ◌≤◌, ℕ, zero, suc, List, [], ◌∷◌, map, length, get_or, Option, Some, None, Ok, Err, refl, ap, sym, ◌∙◌, arith}
use Rattle.std.specs.Prelude.{slice_get}
use Rattle.floyd_text.specs.declared.place.Place.{Place}
use Rattle.floyd_termread_groups.specs.declared.grouped.Grouped.{Grouped}
use Rattle.floyd_termread_groups.specs.declared.grouped.GroupedLink.{GroupedLink}
use Rattle.floyd_termread_scope.specs.Scopes.{Env}
use Rattle.floyd_termread_wants.specs.declared.wants.Wanted.TheVariants as w
use Rattle.floyd_termread_wants.specs.Judging.{Judged, ◌>>=◌, there}
use Rattle.floyd_termread_brackets.specs.declared.slots.Goal.{Goal}
use Rattle.floyd_termread_trees.specs.declared.written.Opening.TheVariants as opens
use Rattle.floyd_tree.specs.declared.paths.PathStep.{PathStep}
use Rattle.floyd_tree.specs.declared.paths.PathStep.TheVariants as step
use Rattle.floyd_tree.specs.Plain.{Plain}
use Rattle.floyd_tree_sorts.specs.declared.sorts.Sort.{Z, Val}
use Rattle.floyd_termread_terms.specs.Brackets.{part_of}
use Rattle.floyd_termread_terms.specs.Senses.{Sense}
use Rattle.floyd_termread_terms.specs.Terms.{missing, sense_of}
use Rattle.floyd_termread_formulas.specs.Formulas.{Reading, of_term, reading_of, link_reading, item, value_at, path_at, first_type, type_in, bracket_step, relation, relation_row}
use Rattle.floyd_termread_formulas.proofs.ReadingLemmas.{sense_is}

item_some : (n : ℕ) (items : List Grouped) (x : Grouped) → Some x ≡ slice_get items n → item n (map reading_of items) ≡ reading_of x
item_some n [] x e = absurd cc
item_some zero (y ∷ ys) x e =
    let same : y ≡ x = cc in
    ap reading_of same
item_some (suc n) (y ∷ ys) x e = item_some n ys x e

item_none : (n : ℕ) (items : List Grouped) → None ≡ slice_get items n → item n (map reading_of items) ≡ of_term missing
item_none n [] e = refl
item_none zero (y ∷ ys) e = absurd cc
item_none (suc n) (y ∷ ys) e = item_none n ys e

sense_at : (n : ℕ) (items : List Grouped) (x : Grouped) → Some x ≡ slice_get items n → (item n (map reading_of items)).sense ≡ sense_of x
sense_at n items x e = ap (λ (r : Reading). r.sense) (item_some n items x e) ∙ sense_is x

pub name_some : (n : ℕ) (items : List Grouped) (x : Grouped) → Some x ≡ slice_get items n → (sense_of x).name ≡ (item n (map reading_of items)).sense.name
name_some n items x h = sym (ap (λ (s : Sense). s.name) (sense_at n items x h))

pub name_none : (n : ℕ) (items : List Grouped) → None ≡ slice_get items n → None ≡ (item n (map reading_of items)).sense.name
name_none n items h = sym (ap (λ (r : Reading). r.sense.name) (item_none n items h))

module _ (n : ℕ) (items : List Grouped) (e : Env) where
  pub value_some : (x : Grouped) → Some x ≡ slice_get items n → value_at n (map reading_of items) e ≡ (sense_of x).term e (w.This Val)
  value_some x h = ap (λ (s : Sense). s.term e (w.This Val)) (sense_at n items x h)

  pub value_none : None ≡ slice_get items n → value_at n (map reading_of items) e ≡ Err None
  value_none h = ap (λ (r : Reading). r.sense.term e (w.This Val)) (item_none n items h)

  pub path_some : (x : Grouped) → Some x ≡ slice_get items n → path_at n (map reading_of items) e ≡ (reading_of x).path e
  path_some x h = ap (λ (r : Reading). r.path e) (item_some n items x h)

  pub path_none : None ≡ slice_get items n → path_at n (map reading_of items) e ≡ Err None
  path_none h = ap (λ (r : Reading). r.path e) (item_none n items h)

pub type_some : (items : List Grouped) (e : Env) (goal : Goal) (x : Grouped) → Some x ≡ slice_get items 0 → first_type e goal (map reading_of items) ≡ (part_of e goal (sense_of x) >>= type_in)
type_some items e goal x h = ap (λ (s : Sense). part_of e goal s >>= type_in) (sense_at 0 items x h)

-- a subscript
abbrev pub closed_step : Option Place → Plain → Judged PathStep
closed_step close t = there close >>= λ end. Ok (step.Subscript t)

first_sense : (items : List Grouped) (x : Grouped) → 1 ≤ length items → x ≡ get_or items 0 x → (item 0 (map reading_of items)).sense ≡ sense_of x
first_sense [] x some is = absurd (omega (arith, some))
first_sense (y ∷ ys) x some is = sense_is y ∙ ap sense_of (sym is)

pub subscript_is : (e : Env) (items : List Grouped) (x : Grouped) (close : Option Place) → 1 ≤ length items → x ≡ get_or items 0 x
    → bracket_step opens.Subscript (map reading_of items) close e ≡ ((sense_of x).term e (w.This Z) >>= closed_step close)
subscript_is e items x close some is = ap (λ (s : Sense). s.term e (w.This Z) >>= closed_step close) (first_sense items x some is)

pub subscript_closed : (e : Env) (items : List Grouped) (x : Grouped) (close : Option Place) (t : Plain) → 1 ≤ length items → x ≡ get_or items 0 x → (sense_of x).term e (w.This Z) ≡ Ok t
    → bracket_step opens.Subscript (map reading_of items) close e ≡ closed_step close t
subscript_closed e items x close t some is read = subscript_is e items x close some is ∙ ap (λ (r : Judged Plain). r >>= closed_step close) read

-- one relation
pub one_item : (links : List GroupedLink) (link : GroupedLink) → length links ≡ 1 → link ≡ get_or links 0 link → links ≡ link ∷ []
one_item [] link n is = absurd cc
one_item (x ∷ []) link n is = ap (λ (l : GroupedLink). l ∷ []) (sym is)
one_item (x ∷ y ∷ more) link n is = absurd (omega (arith, n))

pub row_is : (e : Env) (first : Grouped) (links : List GroupedLink) (link : GroupedLink) → links ≡ link ∷ [] → relation_row (reading_of first) (map link_reading links) e ≡ relation link.«infix» (sense_of first) (sense_of link.operand) e
row_is e first links link is =
    ap (λ (ls : List GroupedLink). relation_row (reading_of first) (map link_reading ls) e) is
    ∙ ap (λ (s : Sense). relation link.«infix» s (reading_of link.operand).sense e) (sense_is first)
    ∙ ap (λ (s : Sense). relation link.«infix» (sense_of first) s e) (sense_is link.operand)
