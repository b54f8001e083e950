-- User functions (FUN): one term, or a term for each constructor of the first argument.
use Rattle.std.specs.Prelude.{ℕ, List, [], ◌∷◌, ◌++◌, map, Option, Some, None, option_map, option_and_then, bytes_eq, find}
use Rattle.floyd_tree_sorts.specs.declared.sorts.Sort.{Sort}
use Rattle.floyd_tree.specs.Plain.{Plain}
use Rattle.floyd_tree_values.specs.Data.{Datum, Seq, Tree, Empty, Item, Leaf, Node}

-- what the first argument is made of, with names for its parts
pub data Pattern : Type 0 where
  NilPattern : Pattern
  ConsPattern : (item : List ℕ) → (rest : List ℕ) → Pattern
  LeafPattern : Pattern
  NodePattern : (left : List ℕ) → (item : List ℕ) → (right : List ℕ) → Pattern

pub record Case : Type 0 where
  pub pattern : Pattern
  pub term : Plain

pub data Body : Type 0 where
  Whole : (term : Plain) → Body
  ByCases : (cases : List Case) → Body

-- the arguments have names and sorts
pub record Fun : Type 0 where
  pub name : List ℕ
  pub arguments : List (List ℕ × Sort)
  pub result : Sort
  pub body : Body

abbrev pub argument_sorts : Fun → List Sort
argument_sorts f = map (λ a. a.1) f.arguments

-- the FUN of that name
abbrev pub fun_of : List Fun → List ℕ → Option Fun
fun_of funs name = find (λ f. bytes_eq name f.name) funs

-- data for names; the first one of a name counts
abbrev pub Bindings : Type 0
Bindings = List (List ℕ × Datum)

-- the arguments' names with their data
abbrev pub bound : List (List ℕ × Sort) → List Datum → Bindings
bound (a ∷ arguments) (d ∷ ds) = (a.0, d) ∷ bound arguments ds
bound arguments ds = []

-- the parts of a datum that a pattern fits, by name
abbrev pub parts : Pattern → Datum → Option Bindings
parts NilPattern (Seq Empty) = Some []
parts (ConsPattern x r) (Seq (Item d rest)) = Some ((x, d) ∷ (r, Seq rest) ∷ [])
parts LeafPattern (Tree Leaf) = Some []
parts (NodePattern l x r) (Tree (Node left d right)) = Some ((l, Tree left) ∷ (x, d) ∷ (r, Tree right) ∷ [])
parts pattern d = None

-- a term to be read with data for its variables
pub record Opened : Type 0 where
  pub bindings : Bindings
  pub term : Plain

abbrev pub first_of : Option Opened → Option Opened → Option Opened
first_of (Some o) other = Some o
first_of None other = other

-- the case whose pattern fits the first argument
abbrev pub chosen : List Case → Datum → Bindings → Option Opened
chosen [] d arguments = None
chosen (c ∷ cases) d arguments =
    first_of (option_map (λ own. record { bindings = own ++ arguments; term = c.term }) (parts c.pattern d)) (chosen cases d arguments)

abbrev pub opened_by : Body → List Datum → Bindings → Option Opened
opened_by (Whole t) ds arguments = Some (record { bindings = arguments; term = t })
opened_by (ByCases cases) [] arguments = None
opened_by (ByCases cases) (d ∷ ds) arguments = chosen cases d arguments

-- what a call of the FUN with these data stands for
abbrev pub opened : Fun → List Datum → Option Opened
opened f ds = opened_by f.body ds (bound f.arguments ds)

abbrev pub called : List Fun → List ℕ → List Datum → Option Opened
called funs name ds = option_and_then (λ f. opened f ds) (fun_of funs name)
