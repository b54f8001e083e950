-- Statements in statements, as the walk makes them behind what stood before.
use Rattle.std.proofs.Common.{◌≡◌, List, [], ◌∷◌, ◌++◌, refl, ap, sym, ◌∙◌}
use Rattle.std.specs.Prelude.{Option, Result, Ok, Err}
use denote.Hole.Carrier.{hidden}
use Rattle.floyd_text.specs.declared.place.Place.{Place}
use Rattle.floyd_text.specs.declared.refusal.Refusal.{Refusal}
use Rattle.floyd_text.specs.declared.refusal.Halt.{Halt}
use Rattle.floyd_text.specs.Gives.{Stops}
use Rattle.floyd_ctypes.specs.declared.ctype.CType.{CType}
use Rattle.floyd_cparse_trees.specs.declared.expressions.CExpr.{CExpr}
use Rattle.floyd_cparse_trees.specs.declared.statements.BlockItem.TheBlock.{hidden-the_row-CStatement-1}
use Rattle.floyd_cparse_trees.specs.declared.statements.CStatement as c
use Rattle.floyd_elab_names.specs.Refusing.{and_then}
use Rattle.floyd_elab_names.specs.Scopes.{Scopes}
use Rattle.floyd_clight.specs.declared.syntax.Expr.{Expr}
use Rattle.floyd_clight.specs.declared.syntax.Stmt as s
use Rattle.floyd_clight.specs.declared.syntax.Stmt.{Stmt}
use Rattle.floyd_elab_expressions.specs.declared.progress.Progress.{Progress}
use Rattle.floyd_elab_expressions.specs.Behind.{put_behind}
use Rattle.floyd_elab_expressions.specs.Clight.{sequence}
use Rattle.floyd_elab_expressions.specs.Progress.{Elaborating}
use Rattle.floyd_elab_statements.specs.LocalClauses.{beginning}
use Rattle.floyd_elab_statements.specs.Statements.{test, loop_test, optional_test, optional_effect, statement}
use Rattle.floyd_elab_statements.specs.WalkClauses.{sequence_behind, with_else}
use Rattle.floyd_elab_statements.proofs.Steps.{goes, stops, stops_as}
use Rattle.floyd_elab_statements.proofs.Walking.{through_begun, through_appended, through_sequenced, pushed_behind}

-- One statement behind others.
abbrev made : List Stmt → Progress → Result (List Stmt × Progress) Refusal
made l q = Ok (l, q)

same_if : (mid out : List Stmt) (t u : Expr) (x y a b : Stmt) (q : Progress) → u ≡ t → x ≡ a → y ≡ b → out ≡ mid ++ s.If u x y ∷ [] → Ok (mid ++ s.If t a b ∷ [], q) ≡ made out q
same_if mid out t u x y a b q test first second pushed =
    (λ j. let test_back : t ≡ u = sym test in let first_back : a ≡ x = sym first in let second_back : b ≡ y = sym second in made (mid ++ s.If (test_back j) (first_back j) (second_back j) ∷ []) q)
    ∙ ap (λ l. made l q) (sym pushed)

same_loop : (mid out : List Stmt) (x y a b : Stmt) (q : Progress) → x ≡ a → y ≡ b → out ≡ mid ++ s.Loop x y ∷ [] → Ok (mid ++ s.Loop a b ∷ [], q) ≡ made out q
same_loop mid out x y a b q first second pushed =
    (λ j. let first_back : a ≡ x = sym first in let second_back : b ≡ y = sym second in made (mid ++ s.Loop (first_back j) (second_back j) ∷ []) q)
    ∙ ap (λ l. made l q) (sym pushed)

else_is : (mid : List Stmt) (t : Expr) (first : Stmt) (r : Result (Stmt × Progress) Refusal) → and_then r (λ y z. made (mid ++ s.If t first y ∷ []) z) ≡ with_else mid t first r
else_is mid t first (Ok r) = refl
else_is mid t first (Err refusal) = refl

pub else_stops : (h : Halt) (mid : List Stmt) (t : Expr) (first : Stmt) (r : Result (Stmt × Progress) Refusal) → Stops h r → Stops h (with_else mid t first r)
else_stops h mid t first r e = stops_as h _ _ (sym (else_is mid t first r)) (stops h r (λ y z. made (mid ++ s.If t first y ∷ []) z) e)

pub else_goes : (mid out : List Stmt) (t u : Expr) (first second : Stmt) (r : Result (Stmt × Progress) Refusal) (z : Progress) → r ≡ Ok (second, z) → u ≡ t → out ≡ mid ++ s.If u first second ∷ []
    → with_else mid t first r ≡ Ok (out, z)
else_goes mid out t u first second r z e test_same pushed = ap (with_else mid t first) e ∙ same_if mid out t u first second first second z test_same refl refl pushed

module _ (result : CType) (scopes : Scopes) where
  -- `if`.
  module _ (place : Place) (e : CExpr) (a : c.CStatement) (there : List Stmt) (p : Progress) where
    abbrev if_pushed : List Stmt × Expr → Stmt → Elaborating (List Stmt)
    if_pushed t x z = Ok (t.0 ++ s.If t.1 x s.Skip ∷ [], z)

    abbrev if_branch : List Stmt × Expr → Elaborating (List Stmt)
    if_branch t q = and_then (sequence_behind [] (statement result scopes a q)) (if_pushed t)

    of_if : statement result scopes (c.If place e a) p
        ≡ and_then (test scopes place e p) (λ t q. and_then (statement result scopes a q) (λ first q. Ok (t.0 ++ s.If t.1 (sequence first) s.Skip ∷ [], q)))
    unfolding hidden-the_row-CStatement-1 hidden
    of_if = refl

    if_is : put_behind there (statement result scopes (c.If place e a) p) ≡ and_then (beginning there (test scopes place e p)) if_branch
    if_is =
        ap (put_behind there) of_if
        ∙ through_begun there (test scopes place e p) (λ t q. and_then (statement result scopes a q) (λ first q. Ok (t.0 ++ s.If t.1 (sequence first) s.Skip ∷ [], q))) if_branch
        (λ t q. through_sequenced there [] (statement result scopes a q) (λ first q. Ok (t.0 ++ s.If t.1 (sequence first) s.Skip ∷ [], q)) (if_pushed (there ++ t.0, t.1))
        (λ first z. pushed_behind there t.0 (s.If t.1 (sequence first) s.Skip) z))

    pub if_stops : (h : Halt) → Stops h (beginning there (test scopes place e p)) → Stops h (put_behind there (statement result scopes (c.If place e a) p))
    if_stops h e1 = stops_as h _ _ if_is (stops h (beginning there (test scopes place e p)) if_branch e1)

    module _ (mid : List Stmt) (t : Expr) (q : Progress) (check_test : beginning there (test scopes place e p) ≡ Ok ((mid, t), q)) where
      pub if_branch_stops : (h : Halt) → Stops h (sequence_behind [] (statement result scopes a q)) → Stops h (put_behind there (statement result scopes (c.If place e a) p))
      if_branch_stops h e1 =
          stops_as h _ _ (if_is ∙ goes (beginning there (test scopes place e p)) if_branch (mid, t) q check_test)
          (stops h (sequence_behind [] (statement result scopes a q)) (if_pushed (mid, t)) e1)

      pub if_goes : (first x y : Stmt) (u : Expr) (out : List Stmt) (z : Progress) → sequence_behind [] (statement result scopes a q) ≡ Ok (first, z) → u ≡ t → x ≡ first → y ≡ s.Skip → out ≡ mid ++ s.If u x y ∷ []
          → put_behind there (statement result scopes (c.If place e a) p) ≡ Ok (out, z)
      if_goes first x y u out z e1 test_same same skips pushed =
          if_is ∙ goes (beginning there (test scopes place e p)) if_branch (mid, t) q check_test
          ∙ goes (sequence_behind [] (statement result scopes a q)) (if_pushed (mid, t)) first z e1
          ∙ same_if mid out t u x y first s.Skip z test_same same skips pushed

  -- `if` with `else`.
  module _ (place : Place) (e : CExpr) (a b : c.CStatement) (there : List Stmt) (p : Progress) where
    abbrev both_pushed : List Stmt × Expr → Stmt → Stmt → Elaborating (List Stmt)
    both_pushed t x y z = Ok (t.0 ++ s.If t.1 x y ∷ [], z)

    abbrev else_branch : List Stmt × Expr → Stmt → Elaborating (List Stmt)
    else_branch t x q = and_then (sequence_behind [] (statement result scopes b q)) (both_pushed t x)

    abbrev both_branches : List Stmt × Expr → Elaborating (List Stmt)
    both_branches t q = and_then (sequence_behind [] (statement result scopes a q)) (else_branch t)

    abbrev second_of : List Stmt × Expr → List Stmt → Elaborating (List Stmt)
    second_of t first q = and_then (statement result scopes b q) (λ second q. Ok (t.0 ++ s.If t.1 (sequence first) (sequence second) ∷ [], q))

    abbrev first_of : List Stmt × Expr → Elaborating (List Stmt)
    first_of t q = and_then (statement result scopes a q) (second_of t)

    of_if_else : statement result scopes (c.IfElse place e a b) p ≡ and_then (test scopes place e p) first_of
    unfolding hidden-the_row-CStatement-1 hidden
    of_if_else = refl

    if_else_is : put_behind there (statement result scopes (c.IfElse place e a b) p) ≡ and_then (beginning there (test scopes place e p)) both_branches
    if_else_is =
        ap (put_behind there) of_if_else
        ∙ through_begun there (test scopes place e p) first_of both_branches
        (λ t q. through_sequenced there [] (statement result scopes a q) (second_of t) (else_branch (there ++ t.0, t.1))
        (λ first q. through_sequenced there [] (statement result scopes b q) (λ second q. Ok (t.0 ++ s.If t.1 (sequence first) (sequence second) ∷ [], q)) (both_pushed (there ++ t.0, t.1) (sequence first))
        (λ second z. pushed_behind there t.0 (s.If t.1 (sequence first) (sequence second)) z)))

    pub if_else_stops : (h : Halt) → Stops h (beginning there (test scopes place e p)) → Stops h (put_behind there (statement result scopes (c.IfElse place e a b) p))
    if_else_stops h e1 = stops_as h _ _ if_else_is (stops h (beginning there (test scopes place e p)) both_branches e1)

    module _ (mid : List Stmt) (t : Expr) (q : Progress) (check_test : beginning there (test scopes place e p) ≡ Ok ((mid, t), q)) where
      pub then_stops : (h : Halt) → Stops h (sequence_behind [] (statement result scopes a q)) → Stops h (put_behind there (statement result scopes (c.IfElse place e a b) p))
      then_stops h e1 =
          stops_as h _ _ (if_else_is ∙ goes (beginning there (test scopes place e p)) both_branches (mid, t) q check_test)
          (stops h (sequence_behind [] (statement result scopes a q)) (else_branch (mid, t)) e1)

      pub then_goes : (first : Stmt) (y : Progress) → sequence_behind [] (statement result scopes a q) ≡ Ok (first, y)
          → put_behind there (statement result scopes (c.IfElse place e a b) p) ≡ with_else mid t first (sequence_behind [] (statement result scopes b y))
      then_goes first y e1 =
          if_else_is
          ∙ goes (beginning there (test scopes place e p)) both_branches (mid, t) q check_test
          ∙ goes (sequence_behind [] (statement result scopes a q)) (else_branch (mid, t)) first y e1
          ∙ else_is mid t first (sequence_behind [] (statement result scopes b y))

  -- `while`.
  module _ (place : Place) (e : CExpr) (a : c.CStatement) (there : List Stmt) (p : Progress) where
    abbrev while_pushed : Stmt → Elaborating (List Stmt)
    while_pushed x z = Ok (there ++ s.Loop x s.Skip ∷ [], z)

    abbrev while_body : List Stmt → Elaborating (List Stmt)
    while_body t q = and_then (sequence_behind t (statement result scopes a q)) while_pushed

    abbrev in_while : List Stmt → Elaborating (List Stmt)
    in_while t q = and_then (statement result scopes a q) (λ inner q. Ok (s.Loop (sequence (t ++ inner)) s.Skip ∷ [], q))

    of_while : statement result scopes (c.While place e a) p ≡ and_then (loop_test scopes place e p) in_while
    unfolding hidden-the_row-CStatement-1 hidden
    of_while = refl

    while_is : put_behind there (statement result scopes (c.While place e a) p) ≡ and_then (put_behind [] (loop_test scopes place e p)) while_body
    while_is =
        ap (put_behind there) of_while
        ∙ through_appended there [] (loop_test scopes place e p) in_while while_body
        (λ t q. through_sequenced there t (statement result scopes a q) (λ inner q. Ok (s.Loop (sequence (t ++ inner)) s.Skip ∷ [], q)) while_pushed (λ inner z. refl))

    pub while_stops : (h : Halt) → Stops h (put_behind [] (loop_test scopes place e p)) → Stops h (put_behind there (statement result scopes (c.While place e a) p))
    while_stops h e1 = stops_as h _ _ while_is (stops h (put_behind [] (loop_test scopes place e p)) while_body e1)

    module _ (t : List Stmt) (q : Progress) (check_test : put_behind [] (loop_test scopes place e p) ≡ Ok (t, q)) where
      pub while_body_stops : (h : Halt) → Stops h (sequence_behind t (statement result scopes a q)) → Stops h (put_behind there (statement result scopes (c.While place e a) p))
      while_body_stops h e1 =
          stops_as h _ _ (while_is ∙ goes (put_behind [] (loop_test scopes place e p)) while_body t q check_test)
          (stops h (sequence_behind t (statement result scopes a q)) while_pushed e1)

      pub while_goes : (first y : Stmt) (out : List Stmt) (z : Progress) → sequence_behind t (statement result scopes a q) ≡ Ok (first, z) → y ≡ s.Skip → out ≡ there ++ s.Loop first y ∷ []
          → put_behind there (statement result scopes (c.While place e a) p) ≡ Ok (out, z)
      while_goes first y out z e1 skips pushed =
          while_is
          ∙ goes (put_behind [] (loop_test scopes place e p)) while_body t q check_test
          ∙ goes (sequence_behind t (statement result scopes a q)) while_pushed first z e1
          ∙ same_loop there out first y first s.Skip z refl skips pushed

  -- `do`.
  module _ (a : c.CStatement) (place : Place) (e : CExpr) (there : List Stmt) (p : Progress) where
    abbrev do_pushed : Stmt → Stmt → Elaborating (List Stmt)
    do_pushed x y z = Ok (there ++ s.Loop x y ∷ [], z)

    abbrev do_test : Stmt → Elaborating (List Stmt)
    do_test x q = and_then (sequence_behind [] (loop_test scopes place e q)) (do_pushed x)

    abbrev in_do : List Stmt → Elaborating (List Stmt)
    in_do inner q = and_then (loop_test scopes place e q) (λ t q. Ok (s.Loop (sequence inner) (sequence t) ∷ [], q))

    of_do : statement result scopes (c.Do a place e) p ≡ and_then (statement result scopes a p) in_do
    unfolding hidden-the_row-CStatement-1 hidden
    of_do = refl

    do_is : put_behind there (statement result scopes (c.Do a place e) p) ≡ and_then (sequence_behind [] (statement result scopes a p)) do_test
    do_is =
        ap (put_behind there) of_do
        ∙ through_sequenced there [] (statement result scopes a p) in_do do_test
        (λ inner q. through_sequenced there [] (loop_test scopes place e q) (λ t q. Ok (s.Loop (sequence inner) (sequence t) ∷ [], q)) (do_pushed (sequence inner)) (λ t z. refl))

    pub do_stops : (h : Halt) → Stops h (sequence_behind [] (statement result scopes a p)) → Stops h (put_behind there (statement result scopes (c.Do a place e) p))
    do_stops h e1 = stops_as h _ _ do_is (stops h (sequence_behind [] (statement result scopes a p)) do_test e1)

    module _ (first : Stmt) (q : Progress) (done : sequence_behind [] (statement result scopes a p) ≡ Ok (first, q)) where
      pub do_test_stops : (h : Halt) → Stops h (sequence_behind [] (loop_test scopes place e q)) → Stops h (put_behind there (statement result scopes (c.Do a place e) p))
      do_test_stops h e1 =
          stops_as h _ _ (do_is ∙ goes (sequence_behind [] (statement result scopes a p)) do_test first q done)
          (stops h (sequence_behind [] (loop_test scopes place e q)) (do_pushed first) e1)

      pub do_goes : (second : Stmt) (out : List Stmt) (z : Progress) → sequence_behind [] (loop_test scopes place e q) ≡ Ok (second, z) → out ≡ there ++ s.Loop first second ∷ []
          → put_behind there (statement result scopes (c.Do a place e) p) ≡ Ok (out, z)
      do_goes second out z e1 pushed =
          do_is
          ∙ goes (sequence_behind [] (statement result scopes a p)) do_test first q done
          ∙ goes (sequence_behind [] (loop_test scopes place e q)) (do_pushed first) second z e1
          ∙ same_loop there out first second first second z refl refl pushed

  -- `for`.
  module _ (place : Place) (first e third : Option CExpr) (a : c.CStatement) (there : List Stmt) (p : Progress) where
    abbrev for_pushed : List Stmt → Stmt → Stmt → Elaborating (List Stmt)
    for_pushed before y x z = Ok (before ++ s.Loop x y ∷ [], z)

    abbrev for_body : List Stmt → List Stmt → Stmt → Elaborating (List Stmt)
    for_body before t y q = and_then (sequence_behind t (statement result scopes a q)) (for_pushed before y)

    abbrev for_third : List Stmt → List Stmt → Elaborating (List Stmt)
    for_third before t q = and_then (sequence_behind [] (optional_effect scopes third q)) (for_body before t)

    abbrev for_test : List Stmt → Elaborating (List Stmt)
    for_test before q = and_then (put_behind [] (optional_test scopes place e q)) (for_third before)

    abbrev in_for_body : List Stmt → List Stmt → List Stmt → Elaborating (List Stmt)
    in_for_body before t behind q = and_then (statement result scopes a q) (λ inner q. Ok (before ++ s.Loop (sequence (t ++ inner)) (sequence behind) ∷ [], q))

    abbrev in_for_third : List Stmt → List Stmt → Elaborating (List Stmt)
    in_for_third before t q = and_then (optional_effect scopes third q) (in_for_body before t)

    abbrev in_for : List Stmt → Elaborating (List Stmt)
    in_for before q = and_then (optional_test scopes place e q) (in_for_third before)

    of_for : statement result scopes (c.For place first e third a) p ≡ and_then (optional_effect scopes first p) in_for
    unfolding hidden-the_row-CStatement-1 hidden
    of_for = refl

    for_is : put_behind there (statement result scopes (c.For place first e third a) p) ≡ and_then (put_behind there (optional_effect scopes first p)) for_test
    for_is =
        ap (put_behind there) of_for
        ∙ through_appended there there (optional_effect scopes first p) in_for for_test
        (λ before q. through_appended there [] (optional_test scopes place e q) (in_for_third before) (for_third (there ++ before))
        (λ t q. through_sequenced there [] (optional_effect scopes third q) (in_for_body before t) (for_body (there ++ before) t)
        (λ behind q. through_sequenced there t (statement result scopes a q) (λ inner q. Ok (before ++ s.Loop (sequence (t ++ inner)) (sequence behind) ∷ [], q)) (for_pushed (there ++ before) (sequence behind))
        (λ inner z. pushed_behind there before (s.Loop (sequence (t ++ inner)) (sequence behind)) z))))

    pub for_stops : (h : Halt) → Stops h (put_behind there (optional_effect scopes first p)) → Stops h (put_behind there (statement result scopes (c.For place first e third a) p))
    for_stops h e1 = stops_as h _ _ for_is (stops h (put_behind there (optional_effect scopes first p)) for_test e1)

    module _ (mid : List Stmt) (q : Progress) (begins : put_behind there (optional_effect scopes first p) ≡ Ok (mid, q)) where
      for_begun : put_behind there (statement result scopes (c.For place first e third a) p) ≡ for_test mid q
      for_begun = for_is ∙ goes (put_behind there (optional_effect scopes first p)) for_test mid q begins

      pub for_test_stops : (h : Halt) → Stops h (put_behind [] (optional_test scopes place e q)) → Stops h (put_behind there (statement result scopes (c.For place first e third a) p))
      for_test_stops h e1 = stops_as h _ _ for_begun (stops h (put_behind [] (optional_test scopes place e q)) (for_third mid) e1)

      module _ (t : List Stmt) (y : Progress) (check_test : put_behind [] (optional_test scopes place e q) ≡ Ok (t, y)) where
        for_tested : put_behind there (statement result scopes (c.For place first e third a) p) ≡ for_third mid t y
        for_tested = for_begun ∙ goes (put_behind [] (optional_test scopes place e q)) (for_third mid) t y check_test

        pub for_third_stops : (h : Halt) → Stops h (sequence_behind [] (optional_effect scopes third y)) → Stops h (put_behind there (statement result scopes (c.For place first e third a) p))
        for_third_stops h e1 = stops_as h _ _ for_tested (stops h (sequence_behind [] (optional_effect scopes third y)) (for_body mid t) e1)

        module _ (second : Stmt) (z : Progress) (ends : sequence_behind [] (optional_effect scopes third y) ≡ Ok (second, z)) where
          for_ended : put_behind there (statement result scopes (c.For place first e third a) p) ≡ for_body mid t second z
          for_ended = for_tested ∙ goes (sequence_behind [] (optional_effect scopes third y)) (for_body mid t) second z ends

          pub for_body_stops : (h : Halt) → Stops h (sequence_behind t (statement result scopes a z)) → Stops h (put_behind there (statement result scopes (c.For place first e third a) p))
          for_body_stops h e1 = stops_as h _ _ for_ended (stops h (sequence_behind t (statement result scopes a z)) (for_pushed mid second) e1)

          pub for_goes : (body : Stmt) (out : List Stmt) (last : Progress) → sequence_behind t (statement result scopes a z) ≡ Ok (body, last) → out ≡ mid ++ s.Loop body second ∷ []
              → put_behind there (statement result scopes (c.For place first e third a) p) ≡ Ok (out, last)
          for_goes body out last e1 pushed =
              for_ended
              ∙ goes (sequence_behind t (statement result scopes a z)) (for_pushed mid second) body last e1
              ∙ same_loop mid out body second body second last refl refl pushed
