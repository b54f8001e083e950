-- The cases of a switch, one after the other, and the flags of what is in them.
use Rattle.std.proofs.Common.{◌≡◌, ℕ, Bool, List, [], ◌∷◌, ◌++◌, refl, ap, sym, ◌∙◌}
use Rattle.std.specs.Prelude.{Option, Result, Ok, Err}
use Rattle.std.proofs.lemmas.List.{append_assoc}
use denote.Hole.Carrier.{shown}
use Rattle.floyd_text.specs.declared.place.Place.{Place}
use Rattle.floyd_text.specs.declared.refusal.Refusal.{Refusal}
use Rattle.floyd_text.specs.declared.refusal.Halt.{Halt}
use Rattle.floyd_text.specs.Gives.{Stops}
use Rattle.floyd_int.specs.declared.kinds.IntKind.{IntKind}
use Rattle.floyd_ctypes.specs.declared.ctype.CType.{CType}
use Rattle.floyd_cparse_trees.specs.declared.expressions.CExpr.{CExpr}
use Rattle.floyd_cparse_trees.specs.declared.statements.BlockItem.TheBlock.{shown-the_row-CStatement-1, hidden-the_row-SwitchCase-2, items_hidden-the_row-SwitchCase-2}
use Rattle.floyd_cparse_trees.specs.declared.statements.CStatement as c
use Rattle.floyd_cparse_trees.specs.declared.statements.SwitchCase.{SwitchCase}
use Rattle.floyd_elab_names.specs.Refusing.{and_then}
use Rattle.floyd_elab_names.specs.Scopes.{Scopes}
use Rattle.floyd_ctyping.specs.Switches.{Labels, no_labels, with_label, next_label}
use Rattle.floyd_clight.specs.declared.syntax.Case.{Case}
use Rattle.floyd_clight.specs.declared.syntax.Expr.{Expr}
use Rattle.floyd_clight.specs.declared.syntax.Stmt as s
use Rattle.floyd_clight.specs.declared.syntax.Stmt.{Stmt}
use Rattle.floyd_elab_expressions.specs.declared.progress.Progress.{Progress}
use Rattle.floyd_elab_expressions.specs.Behind.{put_behind}
use Rattle.floyd_elab_expressions.specs.Clight.{sequence}
use Rattle.floyd_elab_expressions.specs.Progress.{Elaborating, typing}
use Rattle.floyd_elab_addresses.specs.Flags.{statement_flags}
use Rattle.floyd_elab_addresses.specs.PartClauses.{flags_of_cases}
use Rattle.floyd_elab_statements.specs.LocalClauses.{beginning}
use Rattle.floyd_elab_statements.specs.Statements.{statement, cases, selector}
use Rattle.floyd_elab_statements.specs.WalkClauses.{one_case, all_cases, cases_behind, sequence_behind}
use Rattle.floyd_elab_statements.proofs.Steps.{goes, stops, stops_as, assoc}
use Rattle.floyd_elab_statements.proofs.Walking.{through_begun, pushed_behind}

abbrev case_of : Option ℕ → Stmt → Case
case_of bits body = record { label = bits; body = body }

-- the statements of a case as one
sequenced_case : (bits : Option ℕ) (r : Result (List Stmt × Progress) Refusal) → and_then r (λ first q. Ok (case_of bits (sequence first), q)) ≡ and_then (sequence_behind [] r) (λ body q. Ok (case_of bits body, q))
sequenced_case bits (Ok r) = refl
sequenced_case bits (Err refusal) = refl

-- a switch of these cases behind others
through_made : (there before : List Stmt) (x : Expr) (r : Result (List Case × Progress) Refusal) → put_behind there (and_then r (λ made q. Ok (before ++ s.Switch x made ∷ [], q))) ≡ and_then r (λ made q. Ok ((there ++ before) ++ s.Switch x made ∷ [], q))
through_made there before x (Ok r) = pushed_behind there before (s.Switch x r.0) r.1
through_made there before x (Err refusal) = refl

joined : (there : List Case) (one : Case) (w : Result (List Case × Progress) Refusal) → cases_behind there (and_then w (λ more q. Ok (one ∷ more, q))) ≡ cases_behind (there ++ one ∷ []) w
joined there one (Ok r) = ap (λ (l : List Case). let made : Result (List Case × Progress) Refusal = Ok (l, r.1) in made) (sym (append_assoc there (one ∷ []) r.0))
joined there one (Err refusal) = refl

behind_stops : (h : Halt) (there : List Case) (r : Result (List Case × Progress) Refusal) → Stops h r → Stops h (cases_behind there r)
behind_stops h there r e = stops_as h _ _ (behind_is r) (stops h r (λ more q. Ok (there ++ more, q)) e)
  where
    behind_is : (r : Result (List Case × Progress) Refusal) → cases_behind there r ≡ and_then r (λ more q. Ok (there ++ more, q))
    behind_is (Ok r) = refl
    behind_is (Err refusal) = refl

pub behind_none : (r : Result (List Case × Progress) Refusal) → r ≡ cases_behind [] r
behind_none (Ok r) = refl
behind_none (Err refusal) = refl

module _ (result : CType) where
  -- the cases of a switch, in rows and in lists
  cases-all : {m : _} (scopes : Scopes) (kind : IntKind) (before : Labels) (row : c.Row_of-SwitchCase m) (p : Progress)
      → cases result kind before scopes row p ≡ all_cases result scopes kind before (c.items-the_row-SwitchCase m row) p
  unfolding shown-the_row-CStatement-1 shown
  cases-all scopes kind before c.end_of-SwitchCase p = refl
  cases-all scopes kind before (c.more_of-SwitchCase label u (c.more_of-CStatement body c.end_of-CStatement) rest) p =
      let bits_in = typing (next_label kind before label) p in
      let left = c.items-the_row-SwitchCase _ rest in
      let others : Case → Elaborating (List Case) = λ made q. and_then (all_cases result scopes kind (with_label before made.label) left q) (λ more q. Ok (made ∷ more, q)) in
      (λ j. and_then bits_in (λ bits q. and_then (statement result scopes body q) (λ first q. and_then (cases-all scopes kind (with_label before bits) rest q j) (λ more q. Ok (case_of bits (sequence first) ∷ more, q)))))
      ∙ sym (assoc bits_in (λ bits q. and_then (statement result scopes body q) (λ first q. Ok (case_of bits (sequence first), q))) others
      ∙ (λ j. and_then bits_in (λ bits q. assoc (statement result scopes body q) (λ first q. Ok (case_of bits (sequence first), q)) others j)))

  -- One case.
  module _ (scopes : Scopes) (kind : IntKind) (before : Labels) (one : SwitchCase) (p : Progress) where
    abbrev with_body : Option ℕ → Elaborating Case
    with_body bits q = and_then (sequence_behind [] (statement result scopes one.body q)) (λ body q. Ok (case_of bits body, q))

    case_is : one_case result scopes kind before one p ≡ and_then (typing (next_label kind before one.label) p) with_body
    case_is = λ j. and_then (typing (next_label kind before one.label) p) (λ bits q. sequenced_case bits (statement result scopes one.body q) j)

    pub label_stops : (h : Halt) → Stops h (typing (next_label kind before one.label) p) → Stops h (one_case result scopes kind before one p)
    label_stops h e = stops_as h _ _ case_is (stops h (typing (next_label kind before one.label) p) with_body e)

    module _ (bits : Option ℕ) (q : Progress) (labelled : typing (next_label kind before one.label) p ≡ Ok (bits, q)) where
      pub body_stops : (h : Halt) → Stops h (sequence_behind [] (statement result scopes one.body q)) → Stops h (one_case result scopes kind before one p)
      body_stops h e =
          stops_as h _ _ (case_is ∙ goes (typing (next_label kind before one.label) p) with_body bits q labelled)
          (stops h (sequence_behind [] (statement result scopes one.body q)) (λ body q. Ok (case_of bits body, q)) e)

      pub case_goes : (body : Stmt) (z : Progress) → sequence_behind [] (statement result scopes one.body q) ≡ Ok (body, z) → one_case result scopes kind before one p ≡ Ok (case_of bits body, z)
      case_goes body z e =
          case_is
          ∙ goes (typing (next_label kind before one.label) p) with_body bits q labelled
          ∙ goes (sequence_behind [] (statement result scopes one.body q)) (λ body q. Ok (case_of bits body, q)) body z e

  -- One more case.
  module _ (there : List Case) (scopes : Scopes) (kind : IntKind) (before : Labels) (one : SwitchCase) (rest : List SwitchCase) (p : Progress) where
    abbrev those : Case → Elaborating (List Case)
    those made q = and_then (all_cases result scopes kind (with_label before made.label) rest q) (λ more q. Ok (made ∷ more, q))

    pub next_case : (made : Case) (q : Progress) → one_case result scopes kind before one p ≡ Ok (made, q)
        → cases_behind there (all_cases result scopes kind before (one ∷ rest) p) ≡ cases_behind (there ++ made ∷ []) (all_cases result scopes kind (with_label before made.label) rest q)
    next_case made q e =
        ap (cases_behind there) (goes (one_case result scopes kind before one p) those made q e)
        ∙ joined there made (all_cases result scopes kind (with_label before made.label) rest q)

    pub stopped_case : (h : Halt) → Stops h (one_case result scopes kind before one p) → Stops h (cases_behind there (all_cases result scopes kind before (one ∷ rest) p))
    stopped_case h e = behind_stops h there _ (stops h (one_case result scopes kind before one p) those e)

  -- The whole switch.
  module _ (scopes : Scopes) (place : Place) (e : CExpr) (all : List SwitchCase) (there : List Stmt) (p : Progress) where
    abbrev in_switch : List Stmt × (Expr × IntKind) → Elaborating (List Stmt)
    in_switch t q = and_then (all_cases result scopes t.1.1 no_labels all q) (λ made q. Ok (t.0 ++ s.Switch t.1.0 made ∷ [], q))

    cases_are : (kind : IntKind) (q : Progress) → cases result kind no_labels scopes (hidden-the_row-SwitchCase-2 all) q ≡ all_cases result scopes kind no_labels all q
    cases_are kind q =
        cases-all scopes kind no_labels (hidden-the_row-SwitchCase-2 all) q
        ∙ ap (λ (l : List SwitchCase). all_cases result scopes kind no_labels l q) (items_hidden-the_row-SwitchCase-2 all)

    of_switch : statement result scopes (c.Switch place e all) p ≡ and_then (selector scopes place e p) in_switch
    of_switch = λ j. and_then (selector scopes place e p) (λ t q. and_then (cases_are t.1.1 q j) (λ made q. Ok (t.0 ++ s.Switch t.1.0 made ∷ [], q)))

    switch_is : put_behind there (statement result scopes (c.Switch place e all) p) ≡ and_then (beginning there (selector scopes place e p)) in_switch
    switch_is =
        ap (put_behind there) of_switch
        ∙ through_begun there (selector scopes place e p) in_switch in_switch (λ t q. through_made there t.0 t.1.0 (all_cases result scopes t.1.1 no_labels all q))

    pub switch_stops : (h : Halt) → Stops h (beginning there (selector scopes place e p)) → Stops h (put_behind there (statement result scopes (c.Switch place e all) p))
    switch_stops h e1 = stops_as h _ _ switch_is (stops h (beginning there (selector scopes place e p)) in_switch e1)

    module _ (mid : List Stmt) (x : Expr) (kind : IntKind) (q : Progress) (selects : beginning there (selector scopes place e p) ≡ Ok ((mid, (x, kind)), q)) where
      pub cases_stop : (h : Halt) → Stops h (all_cases result scopes kind no_labels all q) → Stops h (put_behind there (statement result scopes (c.Switch place e all) p))
      cases_stop h e1 =
          stops_as h _ _ (switch_is ∙ goes (beginning there (selector scopes place e p)) in_switch (mid, (x, kind)) q selects)
          (stops h (all_cases result scopes kind no_labels all q) (λ made q. Ok (mid ++ s.Switch x made ∷ [], q)) e1)

      pub switch_goes : (made : List Case) (out : List Stmt) (z : Progress) → all_cases result scopes kind no_labels all q ≡ Ok (made, z) → out ≡ mid ++ s.Switch x made ∷ []
          → put_behind there (statement result scopes (c.Switch place e all) p) ≡ Ok (out, z)
      switch_goes made out z e1 pushed =
          switch_is
          ∙ goes (beginning there (selector scopes place e p)) in_switch (mid, (x, kind)) q selects
          ∙ goes (all_cases result scopes kind no_labels all q) (λ made q. Ok (mid ++ s.Switch x made ∷ [], q)) made z e1
          ∙ ap (λ (l : List Stmt). let answer : Result (List Stmt × Progress) Refusal = Ok (l, z) in answer) (sym pushed)

pub flags_first_case : (one : SwitchCase) (rest all : List SwitchCase) (flags more : List Bool) → all ≡ one ∷ rest → flags ≡ flags_of_cases all ++ more
    → flags ≡ statement_flags one.body ++ (flags_of_cases rest ++ more)
flags_first_case one rest all flags more split h =
    h ∙ ap (λ l. flags_of_cases l ++ more) split ∙ append_assoc (statement_flags one.body) (flags_of_cases rest) more
