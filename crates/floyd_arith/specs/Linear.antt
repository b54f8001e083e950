-- A term as a constant and its unknowns with their coefficients, in order of first occurrence.
use Rattle.std.specs.Prelude.{◌^◌, Bool, true, ◌&&◌, if◌then◌else◌, List, [], ◌∷◌, map, Option, Some, None, ℤ, pos, negsuc, neg_ℤ, ◌+ℤ◌, ◌*ℤ◌, int_lt}
use Rattle.floyd_tree_sorts.specs.declared.heads.Head.TheVariants.{Literal, Operator}
use Rattle.floyd_tree_sorts.specs.declared.operators.Operator.TheVariants.{Add, Sub, Mul}
use Rattle.floyd_tree.specs.Plain.{Plain, At, Done, More}
use Rattle.floyd_arith.specs.declared.unknowns.Linear.{Linear}
use Rattle.floyd_arith.specs.declared.unknowns.Unknown.{Unknown}
use Rattle.floyd_arith.specs.Same.{same_term}

abbrev pub times : ℤ → Unknown → Unknown
times k u = record { term = u.term; coefficient = k *ℤ u.coefficient }

abbrev pub more : ℤ → Unknown → Unknown
more k u = record { term = u.term; coefficient = u.coefficient +ℤ k }

-- an unknown that is there already gets the coefficient on top, also where both cancel; another goes last
abbrev pub with_unknown : List Unknown → Unknown → List Unknown
with_unknown [] u = u ∷ []
with_unknown (v ∷ unknowns) u = if same_term v.term u.term then more u.coefficient v ∷ unknowns else v ∷ with_unknown unknowns u

abbrev pub with_unknowns : List Unknown → List Unknown → List Unknown
with_unknowns unknowns [] = unknowns
with_unknowns unknowns (u ∷ us) = with_unknowns (with_unknown unknowns u) us

abbrev pub constant : ℤ → Linear
constant z = record { constant = z; unknowns = [] }

abbrev pub alone : Plain → Linear
alone t = record { constant = pos 0; unknowns = record { term = t; coefficient = pos 1 } ∷ [] }

abbrev pub scaled : ℤ → Linear → Linear
scaled k a = record { constant = k *ℤ a.constant; unknowns = map (times k) a.unknowns }

abbrev pub plus : Linear → Linear → Linear
plus a b = record { constant = a.constant +ℤ b.constant; unknowns = with_unknowns a.unknowns b.unknowns }

abbrev pub minus : Linear → Linear → Linear
minus a b = plus a (scaled (negsuc 0) b)

-- below 2 ^ 126 in absolute value
abbrev pub is_small : ℤ → Bool
is_small z = int_lt (neg_ℤ (pos (2 ^ 126))) z && int_lt z (pos (2 ^ 126))

abbrev pub all_small : List Unknown → Bool
all_small [] = true
all_small (u ∷ unknowns) = is_small u.coefficient && all_small unknowns

-- there is none where the constant or a coefficient reaches the bound
abbrev pub within : Linear → Option Linear
within a = if is_small a.constant && all_small a.unknowns then Some a else None

-- of both, where each is within the bound
abbrev pub of_both : (Linear → Linear → Linear) → Option Linear → Option Linear → Option Linear
of_both f (Some a) (Some b) = within (f a b)
of_both f (Some a) None = None
of_both f None b = None

abbrev pub literal_of : Plain → Option ℤ
literal_of (At (Literal z) kids) = Some z
literal_of t = None

-- a product is taken apart where a side is a literal itself, and is else one unknown
abbrev pub product : Plain → Option ℤ → Option ℤ → Option Linear → Option Linear → Option Linear
product t (Some k) right a b = of_both (λ x y. scaled k y) a b
product t None (Some k) a b = of_both (λ x y. scaled k y) b a
product t None None a b = Some (alone t)

-- there is none where the constant or a coefficient, of the term or of a part that is taken apart, reaches the bound
abbrev pub linear_of : Plain → Option Linear
linear_of (At (Literal z) kids) = within (constant z)
linear_of (At (Operator Add) (More a (More b Done))) = of_both plus (linear_of a) (linear_of b)
linear_of (At (Operator Sub) (More a (More b Done))) = of_both minus (linear_of a) (linear_of b)
linear_of (At (Operator Mul) (More a (More b Done))) =
    product (At (Operator Mul) (More a (More b Done))) (literal_of a) (literal_of b) (linear_of a) (linear_of b)
linear_of t = Some (alone t)
