-- Reads of what elaboration makes of effects, statements and bodies.
use Rattle.std.proofs.Common.{◌≡◌, ℕ, Bool, false, ◌||◌, not, List, [], ◌∷◌, ◌++◌, length, Option, Some, None, Ok, inl, refl, subst}
use Rattle.std.specs.List.{AllByRecursion}
use Rattle.floyd_text.specs.declared.place.Place as position
use Rattle.floyd_int.specs.declared.kinds.IntOp.{IntOp}
use Rattle.floyd_int.specs.declared.kinds.IntKind.{IntKind}
use Rattle.floyd_ctypes.specs.declared.ctype.CType.{CType, Int}
use Rattle.floyd_cparse_trees.specs.declared.expressions.CExpr as e
use Rattle.floyd_cparse_trees.specs.declared.expressions.Prefix.TheVariants as before
use Rattle.floyd_cparse_trees.specs.declared.expressions.StepOp.{StepOp}
use Rattle.floyd_cparse_trees.specs.declared.statements.BlockItem as i
use Rattle.floyd_cparse_trees.specs.declared.statements.CStatement as c
use Rattle.floyd_cparse_trees.specs.declared.statements.LocalDeclarator.{LocalDeclarator}
use Rattle.floyd_elab_names.specs.declared.meaning.Meaning.{Meaning}
use Rattle.floyd_elab_names.specs.declared.meaning.Meaning.TheVariants as m
use Rattle.floyd_elab_names.specs.Refusing.{◌>>=◌, pure, unless, or_refuse}
use Rattle.floyd_elab_names.specs.Refusals.{ill_typed}
use Rattle.floyd_elab_names.specs.Scopes.{Scopes, with_meaning}
use Rattle.floyd_elab_names.specs.Types.{is_void}
use Rattle.floyd_ctyping.specs.Operators as o
use Rattle.floyd_elab_names.specs.Declarators.{base_type, name_of, name_or_none}
use Rattle.floyd_ctyping.specs.Expressions.{check_test}
use Rattle.floyd_ctyping.specs.Switches.{Labels, no_labels, with_label, next_label, switch_kind}
use Rattle.floyd_clight.specs.declared.syntax.Expr.{Expr, Const, Temp, Var, Deref', AddrOf', Unary', Binary', Cast', Field', SizeOf}
use Rattle.floyd_clight.specs.declared.syntax.Stmt as stmt
use Rattle.floyd_clight.specs.declared.syntax.Stmt.{Stmt}
use Rattle.floyd_elab_expressions.specs.Clight.{Translated, cast_into, sequence, store}
use Rattle.floyd_elab_expressions.specs.declared.progress.Progress.{Progress}
use Rattle.floyd_elab_expressions.specs.Progress.{Elaborating, typing}
use Rattle.floyd_elab_expressions.specs.Expressions.{read, expression, rvalue, with_prefixes, variable_of, binary_operator}
use Rattle.floyd_elab_effects.specs.Effects.{Calling, send_to, as_target, update, step_op, literal_one, step_effect, argument_row, parts_of_call, right_side, assignment, effect}
use Rattle.floyd_elab_addresses.specs.Addresses.{in_items, in_initialiser, in_declarators}
use Rattle.floyd_elab_statements.specs.Locals.{nowhere, declare_variable, target_of, initialise, declarators}
use Rattle.floyd_elab_statements.specs.Statements.{test, selector, loop_test, optional_test, optional_effect, return_statement, statement, items, cases, body}
use Rattle.floyd_elab_laws.specs.Reads.{reads, place_reads, ReadsByPulls}
use Rattle.floyd_elab_laws.proofs.GivesLemmas.{Gives, after, here, passing}
use Rattle.floyd_elab_laws.proofs.ReadLemmas.{Fine, FineCases, fine_append, fine_sequence, fine_if, fine_loop, fine_switch, Place, Value, Places, Values, read_value, into_reads, test_reads, binary_value, variable_place, prefixed_places, places, valued_values}

-- ---- assignments

store_fine : (x y : Expr) → place_reads x ≡ false → reads y ≡ false → ReadsByPulls (store x y)
store_fine (Temp x t) y h g = inl g
store_fine (Const v t) y h g = (h, g)
store_fine (Var bound x t) y h g = (h, g)
store_fine (Deref' p e t) y h g = (h, g)
store_fine (AddrOf' p e t) y h g = (h, g)
store_fine (Unary' op p e t) y h g = (h, g)
store_fine (Binary' op p a q b t) y h g = (h, g)
store_fine (Cast' p e t) y h g = (h, g)
store_fine (Field' p e x t) y h g = (h, g)
store_fine (SizeOf of t) y h g = (h, g)

-- statements that read by pulls
abbrev pub Makes : Elaborating (List Stmt) → Type 0
Makes t = (p : Progress) → Gives (t p) (λ r. Fine r.0)

sent_fine : (place : position.Place) (target value : Translated) (before : List Stmt) → Place target → reads value.expr ≡ false → Fine before → Makes (send_to place target value before)
sent_fine place target value before h g f = λ p.
    passing (unless (ill_typed place) (o.fits_into target.operand.ctype value.operand) p) (λ x s.
    here (fine_append before (store target.expr (cast_into target.operand.ctype value) ∷ []) f (store_fine target.expr (cast_into target.operand.ctype value) h.place (into_reads target.operand.ctype value g), tt)))

target_place : (place : position.Place) (target : Translated) → Place target → Places (as_target place target)
target_place place target h = λ p. passing (unless (ill_typed place) (o.is_target target.operand) p) (λ x s. here h)

updated_fine : (op : IntOp) (place : position.Place) (target : Translated) (value : Elaborating Translated) → Place target → Values value → Makes (update op place target value)
updated_fine op place target value h g = λ p.
    after (read target p) (read_value target p h) (λ a s f.
    after (value s) (g s) (λ b u k.
    after (binary_operator op place a b u) (binary_value op place a b u f k) (λ sum v l. sent_fine place target sum sum.before h l.reads l.before v)))

stepped_fine : (op : StepOp) (place : position.Place) (target : Translated) → Place target → Makes (step_effect op place target)
stepped_fine op place target h = λ p.
    passing (as_target place target p) (λ x s. updated_fine (step_op op) place target (pure literal_one) h (λ q. here (record { before = tt; reads = refl })) s)

-- ---- calls

pub record IsCalled (call : Calling) : Type 0 where
  pub before : Fine call.before
  pub callee : reads call.callee ≡ false
  pub arguments : AllByRecursion (λ e. reads e ≡ false) call.arguments

module _ (scopes : Scopes) where
  passed_fine : {m : _} (place : position.Place) (ts : List CType) (arguments : e.Row_of-CExpr m) (p : Progress) → Gives (argument_row scopes place ts arguments p) (λ r. Fine r.0.0 × AllByRecursion (λ e. reads e ≡ false) r.0.1)
  passed_fine place [] arguments p = here (tt, tt)
  passed_fine place (t ∷ ts) e.end_of-CExpr p = here (tt, tt)
  passed_fine place (t ∷ ts) (e.more_of-CExpr argument rest) p =
      after (rvalue scopes argument p) (valued_values scopes argument p) (λ a s f.
      passing (unless (ill_typed place) (o.fits_into t a.operand) s) (λ x u.
      after (argument_row scopes place ts rest u) (passed_fine place ts rest u) (λ more v g. here (fine_append a.before more.0 f.before g.0, (into_reads t a f.reads, g.1)))))

  parts_fine : {m : _} (function : e.CExpr) (place : position.Place) (count : ℕ) (arguments : e.Row_of-CExpr m) (p : Progress) → Gives (parts_of_call scopes function place count arguments p) (λ r. IsCalled r.0)
  parts_fine function place count arguments p =
      after (rvalue scopes function p) (valued_values scopes function p) (λ f s h.
      passing (or_refuse (ill_typed place) (o.callee_signature count f.operand) s) (λ signature u.
      after (argument_row scopes place signature.0 arguments u) (passed_fine place signature.0 arguments u) (λ all v g.
      here (record { before = fine_append f.before all.0 h.before g.0; callee = h.reads; arguments = g.1 }))))

  right_values : (r : e.CExpr) → Values (right_side scopes r)
  right_values (e.Call' p (e.more_of-CExpr function e.end_of-CExpr) place shape arguments) = λ p.
      after (parts_of_call scopes function place (length shape) arguments p) (parts_fine function place (length shape) arguments p) (λ call s h.
      here (record { before = fine_append call.before _ h.before ((h.callee, h.arguments), tt); reads = refl }))
  right_values (e.Name i) = valued_values scopes (e.Name i)
  right_values (e.Literal l) = valued_values scopes (e.Literal l)
  right_values (e.Parenthesised' p inner) = valued_values scopes (e.Parenthesised' p inner)
  right_values (e.Prefixed' prefixes p operand) = valued_values scopes (e.Prefixed' prefixes p operand)
  right_values (e.SizeOf place n) = valued_values scopes (e.SizeOf place n)
  right_values (e.PostfixStep' p operand op place) = valued_values scopes (e.PostfixStep' p operand op place)
  right_values (e.Index' p array place q index) = valued_values scopes (e.Index' p array place q index)
  right_values (e.Member' p operand op place field) = valued_values scopes (e.Member' p operand op place field)
  right_values (e.Binary' p left op place q right) = valued_values scopes (e.Binary' p left op place q right)
  right_values (e.Conditional' p test place q first r second) = valued_values scopes (e.Conditional' p test place q first r second)
  right_values (e.Assign' p target op place q value) = valued_values scopes (e.Assign' p target op place q value)

  assigned_fine : (place : position.Place) (op : Option IntOp) (r : e.CExpr) (target : Translated) → Place target → Makes (assignment scopes place op r target)
  assigned_fine place None r target h = λ p.
      after (right_side scopes r p) (right_values r p) (λ value s f. sent_fine place target value (target.before ++ value.before) h f.reads (fine_append target.before value.before h.before f.before) s)
  assigned_fine place (Some op) r target h = updated_fine op place target (rvalue scopes r) h (valued_values scopes r)

  pub effect_fine : (x : e.CExpr) → Makes (effect scopes x)
  effect_fine (e.Assign' p (e.more_of-CExpr target e.end_of-CExpr) op place q (e.more_of-CExpr r e.end_of-CExpr)) = λ p.
      after ((expression scopes target >>= as_target place) p) (after (expression scopes target p) (places scopes target p) (λ a s f. target_place place a f s)) (λ a s f. assigned_fine place op r a f s)
  effect_fine (e.PostfixStep' p (e.more_of-CExpr operand e.end_of-CExpr) op place) = λ p. after (expression scopes operand p) (places scopes operand p) (λ a s f. stepped_fine op place a f s)
  effect_fine (e.Prefixed' (before.Step op place ∷ rest) p (e.more_of-CExpr operand e.end_of-CExpr)) = λ p.
      after (with_prefixes scopes rest (expression scopes operand) p) (prefixed_places scopes rest (expression scopes operand) (places scopes operand) p) (λ a s f. stepped_fine op place a f s)
  effect_fine (e.Call' p (e.more_of-CExpr function e.end_of-CExpr) place shape arguments) = λ p.
      after (parts_of_call scopes function place (length shape) arguments p) (parts_fine function place (length shape) arguments p) (λ call s h. here (fine_append call.before _ h.before ((h.callee, h.arguments), tt)))
  effect_fine x = λ p. here tt

  -- ---- tests and values of statements

  test_fine : (place : position.Place) (x : e.CExpr) (p : Progress) → Gives (test scopes place x p) (λ r. Fine r.0.0 × (reads r.0.1 ≡ false))
  test_fine place x p =
      after (rvalue scopes x p) (valued_values scopes x p) (λ a s f.
      passing (typing (check_test place a.operand) s) (λ y u. here (f.before, test_reads x a f.reads)))

  selector_fine : (place : position.Place) (x : e.CExpr) (p : Progress) → Gives (selector scopes place x p) (λ r. Fine r.0.0 × (reads r.0.1.0 ≡ false))
  selector_fine place x p =
      after (rvalue scopes x p) (valued_values scopes x p) (λ a s f.
      passing (typing (switch_kind place a.operand) s) (λ kind u. here (f.before, into_reads (Int kind) a f.reads)))

  loop_fine : (place : position.Place) (x : e.CExpr) → Makes (loop_test scopes place x)
  loop_fine place x = λ p.
      after (test scopes place x p) (test_fine place x p) (λ t s f. here (fine_append t.0 (stmt.If t.1 stmt.Skip stmt.Break ∷ []) f.0 (fine_if t.1 stmt.Skip stmt.Break f.1 tt tt, tt)))

  optional_test_fine : (place : position.Place) (x : Option e.CExpr) → Makes (optional_test scopes place x)
  optional_test_fine place None = λ p. here tt
  optional_test_fine place (Some x) = loop_fine place x

  optional_effect_fine : (x : Option e.CExpr) → Makes (optional_effect scopes x)
  optional_effect_fine None = λ p. here tt
  optional_effect_fine (Some x) = effect_fine x

  returned_fine : (result : CType) (place : position.Place) (x : Option e.CExpr) → Makes (return_statement scopes result place x)
  returned_fine result place None = λ p. passing (unless (ill_typed place) (is_void result) p) (λ y s. here (tt, tt))
  returned_fine result place (Some x) = λ p.
      passing (unless (ill_typed place) (not (is_void result)) p) (λ y s.
      after (right_side scopes x s) (right_values x s) (λ a u f.
      passing (unless (ill_typed place) (o.fits_into result a.operand) u) (λ z v.
      here (fine_append a.before (stmt.Return (Some (cast_into result a)) ∷ []) f.before (into_reads result a f.reads, tt)))))

-- ---- local variables

initialised_fine : (scopes : Scopes) (meaning : Meaning) (right : Option (position.Place × e.CExpr)) → Makes (initialise scopes (target_of meaning) right)
initialised_fine scopes (m.Variable x t storage) (Some right) = λ p.
    let target : Translated = record { before = []; expr = variable_of storage x t; operand = o.object_of_type t } in
    after (as_target right.0 target p) (target_place right.0 target (variable_place storage x (o.object_of_type t)) p) (λ a s f. assigned_fine scopes right.0 None right.1 a f s)
initialised_fine scopes (m.Variable x t storage) None = λ p. here tt
initialised_fine scopes (m.Type t constant) right = λ p. here tt
initialised_fine scopes (m.Function t) right = λ p. here tt

declarators_fine : (scopes : Scopes) (base : CType) (ds : List LocalDeclarator) (rest : List ℕ → Bool) (p : Progress) → Gives (declarators scopes base ds rest p) (λ r. Fine r.0.0)
declarators_fine scopes base [] rest p = here tt
declarators_fine scopes base (d ∷ ds) rest p =
    passing (declare_variable scopes base d.declarator (λ x. in_initialiser x d.initialiser || in_declarators x ds (rest x)) p) (λ meaning s.
    let inner : Scopes = with_meaning (name_or_none (name_of d.declarator)) meaning scopes in
    after (initialise inner (target_of meaning) d.initialiser s) (initialised_fine inner meaning d.initialiser s) (λ first u f.
    after (declarators inner base ds rest u) (declarators_fine inner base ds rest u) (λ more v g. here (fine_append first more.0 f g))))

-- ---- statements

module _ (result : CType) where
  mutual
    statement_fine : (scopes : Scopes) (x : c.CStatement) → Makes (statement result scopes x)
    statement_fine scopes (c.Block' shape rows) = items_fine ([] ∷ scopes) rows
    statement_fine scopes c.Empty = λ p. here tt
    statement_fine scopes (c.Effect x) = effect_fine scopes x
    statement_fine scopes (c.If' place x p (c.more_of-CStatement a c.end_of-CStatement)) = λ p.
        after (test scopes place x p) (test_fine scopes place x p) (λ t s f.
        after (statement result scopes a s) (statement_fine scopes a s) (λ first u g.
        here (fine_append t.0 (stmt.If t.1 (sequence first) stmt.Skip ∷ []) f.0 (fine_if t.1 (sequence first) stmt.Skip f.1 (fine_sequence first g) tt, tt))))
    statement_fine scopes (c.IfElse' place x p (c.more_of-CStatement a c.end_of-CStatement) q (c.more_of-CStatement b c.end_of-CStatement)) = λ p.
        after (test scopes place x p) (test_fine scopes place x p) (λ t s f.
        after (statement result scopes a s) (statement_fine scopes a s) (λ first u g.
        after (statement result scopes b u) (statement_fine scopes b u) (λ second v h.
        here (fine_append t.0 (stmt.If t.1 (sequence first) (sequence second) ∷ []) f.0 (fine_if t.1 (sequence first) (sequence second) f.1 (fine_sequence first g) (fine_sequence second h), tt)))))
    statement_fine scopes (c.While' place x p (c.more_of-CStatement inner c.end_of-CStatement)) = λ p.
        after (loop_test scopes place x p) (loop_fine scopes place x p) (λ t s f.
        after (statement result scopes inner s) (statement_fine scopes inner s) (λ first u g.
        here (fine_loop (sequence (t ++ first)) stmt.Skip (fine_sequence (t ++ first) (fine_append t first f g)) tt, tt)))
    statement_fine scopes (c.Do' p (c.more_of-CStatement inner c.end_of-CStatement) place x) = λ p.
        after (statement result scopes inner p) (statement_fine scopes inner p) (λ first s f.
        after (loop_test scopes place x s) (loop_fine scopes place x s) (λ t u g.
        here (fine_loop (sequence first) (sequence t) (fine_sequence first f) (fine_sequence t g), tt)))
    statement_fine scopes (c.For' place first x third p (c.more_of-CStatement inner c.end_of-CStatement)) = λ p.
        after (optional_effect scopes first p) (optional_effect_fine scopes first p) (λ before s f.
        after (optional_test scopes place x s) (optional_test_fine scopes place x s) (λ t u g.
        after (optional_effect scopes third u) (optional_effect_fine scopes third u) (λ behind v h.
        after (statement result scopes inner v) (statement_fine scopes inner v) (λ all w k.
        here (fine_append before (stmt.Loop (sequence (t ++ all)) (sequence behind) ∷ []) f (fine_loop (sequence (t ++ all)) (sequence behind) (fine_sequence (t ++ all) (fine_append t all g k)) (fine_sequence behind h), tt))))))
    statement_fine scopes (c.Switch' place x shape rows) = λ p.
        after (selector scopes place x p) (selector_fine scopes place x p) (λ t s f.
        after (cases result t.1.1 no_labels scopes rows s) (cases_fine t.1.1 no_labels scopes rows s) (λ made u g.
        here (fine_append t.0 (stmt.Switch t.1.0 made ∷ []) f.0 (fine_switch t.1.0 made f.1 g, tt))))
    statement_fine scopes c.Break = λ p. here (tt, tt)
    statement_fine scopes c.Continue = λ p. here (tt, tt)
    statement_fine scopes (c.Return place x) = returned_fine scopes result place x

    items_fine : {m : _} (scopes : Scopes) (rows : c.Row_of-BlockItem m) → Makes (items result scopes rows)
    items_fine scopes c.end_of-BlockItem = λ p. here tt
    items_fine scopes (c.more_of-BlockItem (i.Declaration d) rest) = λ p.
        passing (typing (base_type scopes nowhere d.specifiers.base) p) (λ base s.
        after (declarators scopes base d.declarators (λ x. in_items x rest) s) (declarators_fine scopes base d.declarators (λ x. in_items x rest) s) (λ made u f.
        after (items result made.1 rest u) (items_fine made.1 rest u) (λ more v g. here (fine_append made.0 more f g))))
    items_fine scopes (c.more_of-BlockItem (i.Statement a) rest) = λ p.
        after (statement result scopes a p) (statement_fine scopes a p) (λ first s f.
        after (items result scopes rest s) (items_fine scopes rest s) (λ more u g. here (fine_append first more f g)))

    cases_fine : {m : _} (kind : IntKind) (before : Labels) (scopes : Scopes) (rows : c.Row_of-SwitchCase m) (p : Progress) → Gives (cases result kind before scopes rows p) (λ r. FineCases r.0)
    cases_fine kind before scopes c.end_of-SwitchCase = λ p. here tt
    cases_fine kind before scopes (c.more_of-SwitchCase label q (c.more_of-CStatement inner c.end_of-CStatement) rest) = λ p.
        passing (typing (next_label kind before label) p) (λ bits s.
        after (statement result scopes inner s) (statement_fine scopes inner s) (λ first u f.
        after (cases result kind (with_label before bits) scopes rest u) (cases_fine kind (with_label before bits) scopes rest u) (λ more v g. here (fine_sequence first f, g))))

  body_fine : (scopes : Scopes) (x : c.CStatement) → Makes (body result scopes x)
  body_fine scopes (c.Block' shape rows) = items_fine scopes rows
  body_fine scopes c.Empty = statement_fine scopes c.Empty
  body_fine scopes (c.Effect x) = statement_fine scopes (c.Effect x)
  body_fine scopes (c.If' place x p a) = statement_fine scopes (c.If' place x p a)
  body_fine scopes (c.IfElse' place x p a q b) = statement_fine scopes (c.IfElse' place x p a q b)
  body_fine scopes (c.While' place x p a) = statement_fine scopes (c.While' place x p a)
  body_fine scopes (c.Do' p a place x) = statement_fine scopes (c.Do' p a place x)
  body_fine scopes (c.For' place first x third p a) = statement_fine scopes (c.For' place first x third p a)
  body_fine scopes (c.Switch' place x shape rows) = statement_fine scopes (c.Switch' place x shape rows)
  body_fine scopes c.Break = statement_fine scopes c.Break
  body_fine scopes c.Continue = statement_fine scopes c.Continue
  body_fine scopes (c.Return place x) = statement_fine scopes (c.Return place x)

-- ---- what was made

pub values_read : (scopes : Scopes) (x : e.CExpr) (p q : Progress) (t : Translated) → rvalue scopes x p ≡ Ok (t, q) → AllByRecursion ReadsByPulls t.before × (reads t.expr ≡ false)
values_read scopes x p q t h =
    let v : Value t = (subst (λ r. Gives r (λ r. Value r.0)) h (valued_values scopes x p)).holds in
    (v.before, v.reads)

pub effects_read : (scopes : Scopes) (x : e.CExpr) (p q : Progress) (ss : List Stmt) → effect scopes x p ≡ Ok (ss, q) → AllByRecursion ReadsByPulls ss
effects_read scopes x p q ss h = (subst (λ r. Gives r (λ r. Fine r.0)) h (effect_fine scopes x p)).holds

pub bodies_read : (result : CType) (scopes : Scopes) (x : c.CStatement) (p q : Progress) (ss : List Stmt) → body result scopes x p ≡ Ok (ss, q) → AllByRecursion ReadsByPulls ss
bodies_read result scopes x p q ss h = (subst (λ r. Gives r (λ r. Fine r.0)) h (body_fine result scopes x p)).holds
