-- Where a switch goes on: at the case that has the label, or at the default, or behind it.
use Rattle.std.specs.Prelude.{ℕ, ◌==◌, Bool, true, false, List, [], ◌∷◌, Option, Some, None, if◌then◌else◌}
use mathlib.Core.Former.{arity, this}
use Rattle.sqlite_items.specs.formers.items.Items.{the_former}
use Rattle.floyd_clight.specs.declared.syntax.Stmt.{Stmt, Skip, Seq', Row_of-Stmt, end_of-Stmt, more_of-Stmt, Row_of-Case, end_of-Case, more_of-Case}

-- the bodies of cases, in order
abbrev pub bodies : {n : _} → Row_of-Case n → Row_of-Stmt n
bodies end_of-Case = end_of-Stmt
bodies (more_of-Case label p (more_of-Stmt s end_of-Stmt) rest) = more_of-Stmt s (bodies rest)

abbrev pub has_label : ℕ → Option ℕ → Bool
has_label n None = false
has_label n (Some l) = n == l

abbrev pub is_default : Option ℕ → Bool
is_default None = true
is_default (Some l) = false

-- the bodies from the first case on whose label passes a test, one after the other
abbrev pub from_case : (Option ℕ → Bool) → (shape : List (Unit {0})) → Row_of-Case (arity (the_former (this {0})) shape) → Option Stmt
from_case test [] end_of-Case = None
from_case test (u ∷ shape) (more_of-Case label p (more_of-Stmt s end_of-Stmt) rest) =
    if test label then Some (Seq' (u ∷ shape) (more_of-Stmt s (bodies rest))) else from_case test shape rest

abbrev pub first_of : Option Stmt → Option Stmt → Stmt
first_of (Some s) other = s
first_of None (Some s) = s
first_of None None = Skip

-- what runs where the expression has these bits
abbrev pub chosen : (shape : List (Unit {0})) → Row_of-Case (arity (the_former (this {0})) shape) → ℕ → Stmt
chosen shape cases n = first_of (from_case (has_label n) shape cases) (from_case is_default shape cases)
