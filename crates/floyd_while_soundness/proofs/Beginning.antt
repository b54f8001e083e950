-- A loop whose first part begins with a test that breaks, and whose second part is empty.
use Rattle.std.proofs.Common.{◌≡◌, Bool, true, false, not, ◌&&◌, List, [], ◌∷◌, Option, Some, None, refl, ap, ◌∙◌, if◌then◌else◌}
use Rattle.floyd_clight.specs.declared.syntax.Expr.{Expr}
use Rattle.floyd_clight.specs.declared.syntax.Stmt.{Stmt, Skip, Set, Assign, Call, Seq', If', Loop', Break, Continue, Return, Switch', end_of-Stmt, more_of-Stmt}
use Rattle.floyd_clight.specs.Flat.{flat}
use Rattle.floyd_clight_machine.specs.Machine as m
use Rattle.floyd_control.specs.ForwardIf.{is_followed}
use Rattle.floyd_control.specs.ForwardWhile.{is_break, passes, test_of, tested, while_of, with_body}

-- statements that begin with such a test
pub record Begins (ss : List Stmt) (e : Expr) (body : List Stmt) : Type 0 where
  pub met : Stmt
  pub unmet : Stmt
  pub is : ss ≡ If' e tt (more_of-Stmt met end_of-Stmt) tt (more_of-Stmt unmet end_of-Stmt) ∷ body
  pub passes' : flat met ≡ []
  pub breaks : flat unmet ≡ Break ∷ []

pub record IsWhile (s : Stmt) (e : Expr) (body : List Stmt) : Type 0 where
  pub first : Stmt
  pub second : Stmt
  pub is : s ≡ m.loop first second
  pub begins : Begins (flat first) e body
  pub ends : flat second ≡ []

none_followed : (ss : List Stmt) → is_followed ss ≡ false → ss ≡ []
none_followed [] e = refl
none_followed (s ∷ ss) e = absurd cc

one_break : (ss : List Stmt) → is_break ss ≡ true → ss ≡ Break ∷ []
one_break [] e = absurd cc
one_break (Break ∷ []) e = refl
one_break (Break ∷ s ∷ ss) e = absurd cc
one_break (Skip ∷ ss) e = absurd cc
one_break (Set x t ∷ ss) e = absurd cc
one_break (Assign p t ∷ ss) e = absurd cc
one_break (Call to f es ∷ ss) e = absurd cc
one_break (Seq' shape all ∷ ss) e = absurd cc
one_break (If' t p a q b ∷ ss) e = absurd cc
one_break (Loop' p a q b ∷ ss) e = absurd cc
one_break (Continue ∷ ss) e = absurd cc
one_break (Return t ∷ ss) e = absurd cc
one_break (Switch' t shape cases ∷ ss) e = absurd cc

both_true : (a b : Bool) → (a && b) ≡ true → (a ≡ true) × (b ≡ true)
both_true true b e = (refl, e)
both_true false b e = absurd cc

not_false : (b : Bool) → not b ≡ true → b ≡ false
not_false true e = absurd cc
not_false false e = refl

same_pair : (e f : Expr) (a b : List Stmt) → ◌≡◌ {A = Option (Expr × List Stmt)} (Some (e, a)) (Some (f, b)) → (e ≡ f) × (a ≡ b)
same_pair e f a b i =
    let same : ◌≡◌ {A = Expr × List Stmt} (e, a) (f, b) = cc in
    (ap (λ (w : Expr × List Stmt). w.0) same, ap (λ (w : Expr × List Stmt). w.1) same)

-- from a branch
of_branch : (f : Expr) (p q : Unit {0}) (s t : Stmt) (rest : List Stmt) (e : Expr) (body : List Stmt) (b : Bool) → passes s t ≡ b → with_body rest (if b then Some f else None) ≡ Some (e, body) → Begins (If' f p (more_of-Stmt s end_of-Stmt) q (more_of-Stmt t end_of-Stmt) ∷ rest) e body
of_branch f p q s t rest e body true i j =
    let pair = same_pair f e rest body j in
    let tests = both_true (not (is_followed (flat s))) (is_break (flat t)) i in
    record {
      met = s;
      unmet = t;
      is = ap (λ g. If' g p (more_of-Stmt s end_of-Stmt) q (more_of-Stmt t end_of-Stmt) ∷ rest) pair.0 ∙ ap (λ ss. If' e p (more_of-Stmt s end_of-Stmt) q (more_of-Stmt t end_of-Stmt) ∷ ss) pair.1;
      passes' = none_followed (flat s) (not_false (is_followed (flat s)) tests.0);
      breaks = one_break (flat t) tests.1;
    }
of_branch f p q s t rest e body false i j = absurd cc

of_first : (u : Stmt) (rest : List Stmt) (e : Expr) (body : List Stmt) → with_body rest (test_of u) ≡ Some (e, body) → Begins (u ∷ rest) e body
of_first (If' f p (more_of-Stmt s end_of-Stmt) q (more_of-Stmt t end_of-Stmt)) rest e body i = of_branch f p q s t rest e body (passes s t) refl i
of_first u rest e body i = absurd cc

of_tested : (ss : List Stmt) (e : Expr) (body : List Stmt) → tested ss ≡ Some (e, body) → Begins ss e body
of_tested [] e body i = absurd cc
of_tested (u ∷ rest) e body i = of_first u rest e body i

of_second : (first second : Stmt) (e : Expr) (body : List Stmt) (b : Bool) → is_followed (flat second) ≡ b → (if b then None else tested (flat first)) ≡ Some (e, body) → IsWhile (m.loop first second) e body
of_second first second e body true f i = absurd cc
of_second first second e body false f i = record { first = first; second = second; is = refl; begins = of_tested (flat first) e body i; ends = none_followed (flat second) f }

pub is_while : (s : Stmt) (e : Expr) (body : List Stmt) → while_of s ≡ Some (e, body) → IsWhile s e body
is_while (Loop' p (more_of-Stmt first end_of-Stmt) q (more_of-Stmt second end_of-Stmt)) e body i = of_second first second e body (is_followed (flat second)) refl i
is_while s e body i = absurd cc
