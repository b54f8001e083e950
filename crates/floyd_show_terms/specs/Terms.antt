-- How terms are written.
use Rattle.std.specs.Prelude.{ℕ, Bool, true, false, if◌then◌else◌, List, [], ◌∷◌, ◌++◌, map, codes, Option, Some, None}
use Rattle.std.specs.Fmt.{decimal, signed_decimal}
use Rattle.floyd_tree_sorts.specs.declared.heads.Head.{Head}
use Rattle.floyd_tree_sorts.specs.declared.heads.Head.TheVariants.{Literal, Variable, Gv, Lv, Nil, Leaf, Signed, Unsigned, Default, Fun, Operator}
use Rattle.floyd_tree_sorts.specs.declared.operators.Operator.TheVariants as o
use Rattle.floyd_tree_sorts.specs.Prints.{width_number}
use Rattle.floyd_tree.specs.Plain.{Plain, Plains, At, Done, More}
use Rattle.floyd_show_terms.specs.declared.words.Style.{Style}
use Rattle.floyd_show_terms.specs.declared.words.Style.TheVariants.{Alone, Applied, Between}
use Rattle.floyd_show_terms.specs.Types.{type_text}
use Rattle.floyd_show_terms.specs.Words.{style_of, operator_text}

-- a term in writing: its text, whether it is an infix term, and the texts of its items where it is a literal list or `nil`
pub record Written : Type 0 where
  pub text : List ℕ
  pub between : Bool
  pub items : Option (List (List ℕ))

abbrev pub simple : List ℕ → Written
simple text = record { text = text; between = false; items = None }

-- the texts, each behind the mark
abbrev pub following : List ℕ → List (List ℕ) → List ℕ
following mark [] = []
following mark (t ∷ ts) = mark ++ t ++ following mark ts

-- the texts with the mark between each two
abbrev pub separated : List ℕ → List (List ℕ) → List ℕ
separated mark [] = []
separated mark (t ∷ ts) = t ++ following mark ts

-- a kid, of an infix term or not: an infix term inside an infix term has parentheses
abbrev pub kid_text : Bool → Written → List ℕ
kid_text true w = if w.between then codes "(" ++ w.text ++ codes ")" else w.text
kid_text false w = w.text

abbrev pub kid_texts : Bool → List Written → List (List ℕ)
kid_texts between ws = map (kid_text between) ws

-- what is written before the kids of a head, between each two, and behind them, and whether it is an infix term
pub record Frame : Type 0 where
  pub before : List ℕ
  pub mark : List ℕ
  pub behind : List ℕ
  pub between : Bool

-- of a head without kids
abbrev pub leaf : List ℕ → Frame
leaf text = record { before = text; mark = []; behind = []; between = false }

-- kids in parentheses
abbrev pub around : List ℕ → Frame
around before = record { before = before; mark = codes ", "; behind = codes ")"; between = false }

abbrev pub infixed : List ℕ → Frame
infixed mark = record { before = []; mark = mark; behind = []; between = true }

abbrev pub by_style : Style → List ℕ → Frame
by_style Alone word = leaf word
by_style Applied word = around (word ++ codes "(")
by_style Between mark = infixed mark

abbrev pub frame : Head → Frame
frame (Literal z) = leaf (signed_decimal z)
frame (Variable x s) = leaf x
frame (Gv x) = leaf (codes "gv(" ++ x ++ codes ")")
frame (Lv x) = leaf (codes "lv(" ++ x ++ codes ")")
frame (Nil s) = leaf (codes "nil")
frame (Leaf s) = leaf (codes "Leaf")
frame (Signed w) = around (codes "signed(" ++ decimal (width_number w) ++ codes ", ")
frame (Unsigned w) = around (codes "unsigned(" ++ decimal (width_number w) ++ codes ", ")
frame (Default shape s) = around (codes "default(")
frame (Fun name arguments s) = around (name ++ codes "(")
frame (Operator operator) = by_style (style_of operator) (operator_text operator)

abbrev pub framed : Frame → List Written → Written
framed f ws = record { text = f.before ++ separated f.mark (kid_texts f.between ws) ++ f.behind; between = f.between; items = None }

-- a literal list
abbrev pub literal_list : List (List ℕ) → Written
literal_list ts = record { text = codes "[" ++ separated (codes ", ") ts ++ codes "]"; between = false; items = Some ts }

-- an item before a list: a literal list where that is one
abbrev pub cons_onto : Option (List (List ℕ)) → Written → Written → Written
cons_onto (Some ts) x l = literal_list (x.text ∷ ts)
cons_onto None x l = framed (infixed (codes " :: ")) (x ∷ l ∷ [])

abbrev pub cons_of : List Written → Written
cons_of (x ∷ l ∷ []) = cons_onto l.items x l
cons_of ws = framed (infixed (codes " :: ")) ws

-- a head with its kids in writing
abbrev pub written_at : Head → List Written → Written
written_at (Nil s) ws = record { text = codes "nil"; between = false; items = Some [] }
written_at (Default shape s) ws = simple (codes "default(" ++ type_text shape (kid_texts false ws) ++ codes ")")
written_at (Operator o.Cons) ws = cons_of ws
written_at head ws = framed (frame head) ws

abbrev mutual
  pub written : Plain → Written
  written (At head kids) = written_at head (all_written kids)

  pub all_written : Plains → List Written
  all_written Done = []
  all_written (More t ts) = written t ∷ all_written ts

abbrev pub term_text : Plain → List ℕ
term_text t = (written t).text

abbrev pub term_texts : Plains → List (List ℕ)
term_texts ts = kid_texts false (all_written ts)
