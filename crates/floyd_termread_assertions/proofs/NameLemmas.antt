-- The names of temporaries, with one more.
use Rattle.std.proofs.Common.{◌≡◌, ℕ, Bool, true, false, ◌||◌, cond, List, [], ◌∷◌, ◌++◌, Option, Some, None, is_some, bytes_eq, refl, ap, sym, ◌∙◌}
use Rattle.floyd_tree_sorts.specs.declared.sorts.Sort.{Sort}
use Rattle.floyd_assert_trees.specs.declared.assertion.Local.{Local}
use Rattle.floyd_termread_scope.specs.declared.variables.Variables.{Variables}
use Rattle.floyd_termread_scope.specs.Scopes.{sort_of}
use Rattle.floyd_termread_assertions.specs.Assertions.{has_local}
use Rattle.floyd_termread_assertions.specs.BoundClauses.{SameNames}

or_false : (b : Bool) → (b || false) ≡ b
or_false true = refl
or_false false = refl

or_more : (a b c : Bool) → (a || (b || c)) ≡ ((a || b) || c)
or_more true b c = refl
or_more false b c = refl

has_more : (x : List ℕ) (ls : List Local) (l : Local) → has_local x (ls ++ l ∷ []) ≡ (has_local x ls || bytes_eq l.name x)
has_more x [] l = or_false (bytes_eq l.name x)
has_more x (k ∷ ks) l = ap (λ (b : Bool). bytes_eq k.name x || b) (has_more x ks l) ∙ or_more (bytes_eq k.name x) (has_local x ks) (bytes_eq l.name x)

some_of : (t : Bool) (s : Sort) (o : Option Sort) → is_some (cond t (Some s) o) ≡ (is_some o || t)
some_of true s (Some r) = refl
some_of true s None = refl
some_of false s (Some r) = refl
some_of false s None = refl

pub one_name_more : (ls : List Local) (l : Local) (s : Sort) (old new : Variables) → SameNames ls old → ((x : List ℕ) → sort_of new x ≡ cond (bytes_eq l.name x) (Some s) (sort_of old x)) → SameNames (ls ++ l ∷ []) new
one_name_more ls l s old new same bound x =
    ap (λ (o : Option Sort). is_some o) (bound x)
    ∙ some_of (bytes_eq l.name x) s (sort_of old x)
    ∙ ap (λ (b : Bool). b || bytes_eq l.name x) (same x)
    ∙ sym (has_more x ls l)
