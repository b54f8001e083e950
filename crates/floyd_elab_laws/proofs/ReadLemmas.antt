-- Reads of what elaboration makes of expressions.
use Rattle.std.proofs.Common.{◌≡◌, ℕ, ◌+◌, Bool, true, false, ◌&&◌, ◌||◌, List, [], ◌∷◌, ◌++◌, length, is_some, Option, Some, None, Result, Ok, Err, if◌then◌else◌, inl, inr, refl, sym, ◌∙◌, ap, ap₂, subst, true≢false}
use Rattle.std.specs.List.{AllByRecursion}
use denote.Hole.Carrier.{hidden, shown}
use Rattle.floyd_text.specs.declared.place.Place as position
use Rattle.floyd_text.specs.declared.refusal.Refusal.{Refusal}
use Rattle.floyd_int.specs.declared.kinds.IntOp.{IntOp}
use Rattle.floyd_int.specs.declared.kinds.IntOp.TheVariants.{Add, Ne}
use Rattle.floyd_ctypes.specs.declared.ctype.CType.{CType}
use Rattle.floyd_cparse_trees.specs.declared.types.Identifier.{Identifier}
use Rattle.floyd_cparse_trees.specs.declared.expressions.CExpr as e
use Rattle.floyd_cparse_trees.specs.declared.expressions.BinaryOp.TheVariants as binary
use Rattle.floyd_cparse_trees.specs.declared.expressions.MemberOp.{MemberOp}
use Rattle.floyd_cparse_trees.specs.declared.expressions.MemberOp.TheVariants.{Dot, Arrow}
use Rattle.floyd_cparse_trees.specs.declared.expressions.Prefix.{Prefix}
use Rattle.floyd_cparse_trees.specs.declared.expressions.Prefix.TheVariants as before
use Rattle.floyd_cparse_trees.specs.declared.expressions.PrefixOp.{PrefixOp}
use Rattle.floyd_cparse_trees.specs.declared.expressions.PrefixOp.TheVariants.{Minus, Plus, Complement, Not, Dereference, Address}
use Rattle.floyd_elab_names.specs.declared.meaning.Meaning.{Meaning}
use Rattle.floyd_elab_names.specs.declared.meaning.Meaning.TheVariants as m
use Rattle.floyd_elab_names.specs.declared.meaning.Storage.{Storage}
use Rattle.floyd_elab_names.specs.declared.meaning.Storage.TheVariants as kept
use Rattle.floyd_ctyping.specs.declared.operand.Operand.{Operand}
use Rattle.floyd_elab_names.specs.declared.tags.Tags.{Tags}
use Rattle.floyd_elab_names.specs.Refusing.{◌>>=◌, pure, unless}
use Rattle.floyd_elab_names.specs.Typing.{Typing}
use Rattle.floyd_elab_names.specs.Refusals.{ill_typed}
use Rattle.floyd_elab_names.specs.Scopes.{Scopes, meaning_of}
use Rattle.floyd_elab_names.specs.Types.{int_type, is_scalar, same_type}
use Rattle.floyd_ctyping.specs.Operators as o
use Rattle.floyd_elab_names.specs.Declarators.{parenthesis, type_named}
use Rattle.floyd_ctyping.specs.Expressions as typed
use Rattle.floyd_clight.specs.declared.syntax.Expr.{Expr, Const, Temp, Var, Deref', AddrOf', Unary', Binary', Cast', Field', SizeOf, end_of-Expr, more_of-Expr}
use Rattle.floyd_clight.specs.declared.syntax.Case.{Case}
use Rattle.floyd_clight.specs.declared.syntax.Stmt.{Stmt, Set, If, Loop, Switch, Row_of-Stmt, end_of-Stmt, more_of-Stmt, items-the_row-Stmt, items_hidden-the_row-Stmt-0, Row_of-Case, end_of-Case, more_of-Case, items-the_row-Case, items_hidden-the_row-Case-2}
use Rattle.floyd_clight.specs.declared.syntax.Stmt.TheBlock.{hidden-the_row-Stmt-0, hidden-the_row-Stmt-1, shape-the_row-Stmt-1, shown-the_row-Stmt-1, hidden-the_row-Case-2}
use Rattle.floyd_clight.specs.Types.{type_of}
use Rattle.floyd_elab_expressions.specs.Clight.{Translated, cast_into, cast_of, combine, literal_zero, test_of, is_truth, sequence, zero, one, is_memory, pulled_name, left_type, right_type, promoted_or_own}
use Rattle.floyd_elab_expressions.specs.declared.progress.Progress.{Progress}
use Rattle.floyd_elab_expressions.specs.Progress.{Elaborating, typing}
use Rattle.floyd_elab_expressions.specs.Expressions as elab
use Rattle.floyd_elab_expressions.specs.Expressions.{read, pull_read, expression, rvalue, identifier, name_expr, variable_of, with_prefixes, before_operator, prefix_operator, cast_to, binary_operator, subscript, member, before_member}
use Rattle.floyd_elab_laws.specs.Reads.{reads, place_reads, ReadsByPulls, AllReadByPulls, CasesReadByPulls}
use Rattle.floyd_elab_laws.proofs.GivesLemmas.{Gives, after, here, refused, passing}
use Rattle.floyd_elab_laws.proofs.MeaningLemmas.{typing_gives}

-- ---- statements

abbrev pub Fine : List Stmt → Type 0
Fine ss = AllByRecursion ReadsByPulls ss

pub fine_append : (a b : List Stmt) → Fine a → Fine b → Fine (a ++ b)
fine_append [] b h g = g
fine_append (s ∷ a) b h g = (h.0, fine_append a b h.1 g)

fine_row : {n : _} (row : Row_of-Stmt n) → Fine (items-the_row-Stmt n row) → AllReadByPulls row
fine_row end_of-Stmt h = tt
fine_row (more_of-Stmt s rest) h = (h.0, fine_row rest h.1)

pub fine_sequence : (ss : List Stmt) → Fine ss → ReadsByPulls (sequence ss)
fine_sequence [] h = tt
fine_sequence (s ∷ []) h = h.0
fine_sequence (s ∷ t ∷ more) h = fine_row (hidden-the_row-Stmt-0 (s ∷ t ∷ more)) (subst Fine (sym (items_hidden-the_row-Stmt-0 (s ∷ t ∷ more))) h)

pub fine_if : (x : Expr) (a b : Stmt) → reads x ≡ false → ReadsByPulls a → ReadsByPulls b → ReadsByPulls (If x a b)
unfolding hidden-the_row-Stmt-1 shape-the_row-Stmt-1 hidden
fine_if x a b h g f = (h, g, f)

pub fine_loop : (a b : Stmt) → ReadsByPulls a → ReadsByPulls b → ReadsByPulls (Loop a b)
unfolding hidden-the_row-Stmt-1 shape-the_row-Stmt-1 hidden
fine_loop a b g f = (g, f)

abbrev pub FineCases : List Case → Type 0
FineCases cases = AllByRecursion (λ (one : Case). ReadsByPulls one.body) cases

case_row : {n : _} (row : Row_of-Case n) → FineCases (items-the_row-Case n row) → CasesReadByPulls row
unfolding shown-the_row-Stmt-1 shown
case_row end_of-Case h = tt
case_row (more_of-Case label p (more_of-Stmt body end_of-Stmt) rest) h = (h.0, case_row rest h.1)

pub fine_switch : (x : Expr) (cases : List Case) → reads x ≡ false → FineCases cases → ReadsByPulls (Switch x cases)
fine_switch x cases h g = (h, case_row (hidden-the_row-Case-2 cases) (subst FineCases (sym (items_hidden-the_row-Case-2 cases)) g))

-- ---- expressions

pub neither : (a b : Bool) → a || b ≡ false → (a ≡ false) × (b ≡ false)
neither true b h = absurd (true≢false h)
neither false b h = (refl, h)

both_false : (a b : Bool) → a ≡ false → b ≡ false → a || b ≡ false
both_false a b h g = ap₂ (λ a b. a || b) h g

-- what is read without loads
place_of_value : (x : Expr) → reads x ≡ false → place_reads x ≡ false
place_of_value (Const v t) h = refl
place_of_value (Temp x t) h = refl
place_of_value (Var bound x t) h = refl
place_of_value (Deref' p (more_of-Expr e end_of-Expr) t) h = (neither (is_scalar t) (reads e) h).1
place_of_value (AddrOf' p (more_of-Expr e end_of-Expr) t) h = h
place_of_value (Unary' op p (more_of-Expr e end_of-Expr) t) h = h
place_of_value (Binary' op p (more_of-Expr a end_of-Expr) q (more_of-Expr b end_of-Expr) t) h = h
place_of_value (Cast' p (more_of-Expr e end_of-Expr) t) h = h
place_of_value (Field' p (more_of-Expr e end_of-Expr) x t) h = (neither (is_scalar t) (place_reads e) h).1
place_of_value (SizeOf of t) h = refl

-- is no number and no pointer, where it stands for a place
no_scalar : (x : Expr) → is_memory x ≡ true → reads x ≡ false → is_scalar (type_of x) ≡ false
no_scalar (Const v t) m h = absurd (true≢false (sym m))
no_scalar (Temp x t) m h = absurd (true≢false (sym m))
no_scalar (Var bound x t) m h = h
no_scalar (Deref' p (more_of-Expr e end_of-Expr) t) m h = (neither (is_scalar t) (reads e) h).0
no_scalar (AddrOf' p e t) m h = absurd (true≢false (sym m))
no_scalar (Unary' op p e t) m h = absurd (true≢false (sym m))
no_scalar (Binary' op p a q b t) m h = absurd (true≢false (sym m))
no_scalar (Cast' p e t) m h = absurd (true≢false (sym m))
no_scalar (Field' p (more_of-Expr e end_of-Expr) x t) m h = (neither (is_scalar t) (place_reads e) h).0
no_scalar (SizeOf of t) m h = absurd (true≢false (sym m))

unread : (x : Expr) → is_memory x ≡ true → place_reads x ≡ false → is_scalar (type_of x) ≡ false → reads x ≡ false
unread (Const v t) m h g = refl
unread (Temp x t) m h g = refl
unread (Var bound x t) m h g = g
unread (Deref' p (more_of-Expr e end_of-Expr) t) m h g = both_false (is_scalar t) (reads e) g h
unread (AddrOf' p (more_of-Expr e end_of-Expr) t) m h g = h
unread (Unary' op p (more_of-Expr e end_of-Expr) t) m h g = h
unread (Binary' op p (more_of-Expr a end_of-Expr) q (more_of-Expr b end_of-Expr) t) m h g = h
unread (Cast' p (more_of-Expr e end_of-Expr) t) m h g = h
unread (Field' p (more_of-Expr e end_of-Expr) x t) m h g = both_false (is_scalar t) (place_reads e) g h
unread (SizeOf of t) m h g = refl

-- ---- what is translated, before it is read and when it is

pub record Place (a : Translated) : Type 0 where
  pub before : Fine a.before
  pub place : place_reads a.expr ≡ false
  pub value : is_memory a.expr ≡ false → reads a.expr ≡ false
  pub scalar : is_memory a.expr ≡ true → is_scalar a.operand.ctype ≡ false → is_scalar (type_of a.expr) ≡ false

pub record Value (a : Translated) : Type 0 where
  pub before : Fine a.before
  pub reads : reads a.expr ≡ false

value_place : {a : Translated} → Value a → Place a
value_place {a} h = record { before = h.before; place = place_of_value a.expr h.reads; value = λ _. h.reads; scalar = λ m _. no_scalar a.expr m h.reads }

places_of : {r : Result (Translated × Progress) Refusal} → Gives r (λ r. Value r.0) → Gives r (λ r. Place r.0)
places_of {r} h = by r h
  where
    by : (r : Result (Translated × Progress) Refusal) → Gives r (λ r. Value r.0) → Gives r (λ r. Place r.0)
    by (Ok x) h = here (value_place h.holds)
    by (Err q) h = refused

-- a pulled read
pulled_value : (a : Translated) (p : Progress) → Place a → is_memory a.expr ≡ true → Gives (pull_read a p) (λ r. Value r.0)
pulled_value a p h m =
    here (record {
      before = fine_append a.before (Set (pulled_name (p.drawn + 1)) a.expr ∷ []) h.before (inr (record { number = p.drawn + 1; name = refl; memory = m; place = h.place }), tt);
      reads = refl;
    })

unread_value : (a : Translated) → Place a → is_memory a.expr && is_scalar a.operand.ctype ≡ false → Value a
unread_value a h q = record { before = h.before; reads = by (is_memory a.expr) refl }
  where
    by : (t : Bool) → is_memory a.expr ≡ t → reads a.expr ≡ false
    by true m = unread a.expr m h.place (h.scalar m (sym (ap (λ b. b && is_scalar a.operand.ctype) m) ∙ q))
    by false m = h.value m

pub read_value : (a : Translated) (p : Progress) → Place a → Gives (read a p) (λ r. Value r.0)
read_value a p h = by (is_memory a.expr && is_scalar a.operand.ctype) refl
  where
    first : (s t : Bool) → s && t ≡ true → s ≡ true
    first true t e = refl
    first false t e = e

    by : (t : Bool) → is_memory a.expr && is_scalar a.operand.ctype ≡ t → Gives ((if t then pull_read a else pure a) p) (λ r. Value r.0)
    by true q = pulled_value a p h (first (is_memory a.expr) (is_scalar a.operand.ctype) q)
    by false q = here (unread_value a h q)

abbrev pub Places : Elaborating Translated → Type 0
Places t = (p : Progress) → Gives (t p) (λ r. Place r.0)

abbrev pub Values : Elaborating Translated → Type 0
Values t = (p : Progress) → Gives (t p) (λ r. Value r.0)

pub values : (t : Elaborating Translated) → Places t → Values (t >>= read)
values t h = λ p. after (t p) (h p) (λ a s f. read_value a s f)

-- ---- operators

pub into_reads : (t : CType) (a : Translated) → reads a.expr ≡ false → reads (cast_into t a) ≡ false
into_reads t a h = by (same_type (o.value_type a.operand) t)
  where
    by : (b : Bool) → reads (if b then a.expr else cast_of a.expr t) ≡ false
    by true = h
    by false = h

combined_reads : (op : IntOp) (a b : Translated) (t : CType) → reads a.expr ≡ false → reads b.expr ≡ false → reads (combine op a b t) ≡ false
combined_reads op a b t h g = both_false (reads (cast_into (left_type op a.operand b.operand) a)) (reads (cast_into (right_type op a.operand b.operand) b)) (into_reads (left_type op a.operand b.operand) a h) (into_reads (right_type op a.operand b.operand) b g)

pub test_reads : (c : e.CExpr) (a : Translated) → reads a.expr ≡ false → reads (test_of c a) ≡ false
test_reads c a h = by (is_truth c)
  where
    by : (b : Bool) → reads (if b then a.expr else combine Ne a literal_zero int_type) ≡ false
    by true = h
    by false = combined_reads Ne a literal_zero int_type h refl

pub binary_value : (op : IntOp) (place : position.Place) (a b : Translated) (p : Progress) → Value a → Value b → Gives (binary_operator op place a b p) (λ r. Value r.0)
binary_value op place a b p h g =
    passing (typing (typed.gives_value place (o.binary_type p.tags.structs op a.operand b.operand)) p) (λ r s.
    here (record { before = fine_append a.before b.before h.before g.before; reads = combined_reads op a b r.ctype h.reads g.reads }))

-- ---- names

pub variable_place : (storage : Storage) (x : List ℕ) (a : Operand) → Place (record { before = []; expr = variable_of storage x a.ctype; operand = a })
variable_place kept.Global x a = record { before = tt; place = refl; value = λ m. absurd (true≢false m); scalar = λ _ h. h }
variable_place kept.Block x a = record { before = tt; place = refl; value = λ m. absurd (true≢false m); scalar = λ _ h. h }
variable_place kept.Temporary x a = record { before = tt; place = refl; value = λ _. refl; scalar = λ m _. absurd (true≢false (sym m)) }
variable_place kept.Parameter x a = record { before = tt; place = refl; value = λ _. refl; scalar = λ m _. absurd (true≢false (sym m)) }

named_place : (i : Identifier) (a : Operand) (meaning : Option Meaning) → Place (record { before = []; expr = name_expr i a.ctype meaning; operand = a })
named_place i a (Some (m.Variable called t storage)) = variable_place storage called a
named_place i a (Some (m.Type t constant)) = variable_place kept.Global i.name a
named_place i a (Some (m.Function t)) = variable_place kept.Global i.name a
named_place i a None = variable_place kept.Global i.name a

-- ---- what is refused inside an expression

pub never_step : (place : position.Place) (a : Operand) (tags : Tags) → Gives (typed.nested_step place a tags) (λ r. ⊥)
never_step place a tags = passing (unless (ill_typed place) (o.is_stepped tags.structs a) tags) (λ x s. refused)

pub never_assigned : (place : position.Place) (a : Operand) (tags : Tags) → Gives (typed.nested_assignment place a tags) (λ r. ⊥)
never_assigned place a tags = passing (unless (ill_typed place) (o.is_target a) tags) (λ x s. refused)

pub never_called : (place : position.Place) (count : ℕ) (a : Operand) (tags : Tags) → Gives (typed.nested_call place count a tags) (λ r. ⊥)
never_called place count a tags = passing (unless (ill_typed place) (is_some (o.callee_signature count a)) tags) (λ x s. refused)

refused_place : (t : Typing Operand) (a : Translated) (p : Progress) → ((tags : Tags) → Gives (t tags) (λ r. ⊥)) → Gives (elab.nested_refusal t a p) (λ r. Place r.0)
refused_place t a p h = after (typing t p) (typing_gives (λ r. ⊥) t p (h p.tags)) (λ r s q. absurd q.0)

-- ---- prefixes

-- the operators whose operand is read
prefix_place : (op : PrefixOp) (place : position.Place) (a : Translated) (p : Progress) → Value a → Gives (prefix_operator op place a p) (λ r. Place r.0)
prefix_place Minus place a p h = passing (typing (typed.prefix_operator Minus place a.operand) p) (λ r s. here (value_place (record { before = h.before; reads = into_reads r.ctype a h.reads })))
prefix_place Plus place a p h = passing (typing (typed.prefix_operator Plus place a.operand) p) (λ r s. here (value_place (record { before = h.before; reads = into_reads r.ctype a h.reads })))
prefix_place Complement place a p h = passing (typing (typed.prefix_operator Complement place a.operand) p) (λ r s. here (value_place (record { before = h.before; reads = into_reads r.ctype a h.reads })))
prefix_place Not place a p h = passing (typing (typed.prefix_operator Not place a.operand) p) (λ r s. here (value_place (record { before = h.before; reads = into_reads (promoted_or_own a.operand) a h.reads })))
prefix_place Dereference place a p h = passing (typing (typed.prefix_operator Dereference place a.operand) p) (λ r s. here (record { before = h.before; place = h.reads; value = λ m. absurd (true≢false m); scalar = λ _ g. g }))
prefix_place Address place a p h = passing (typing (typed.prefix_operator Address place a.operand) p) (λ r s. here (value_place (record { before = h.before; reads = place_of_value a.expr h.reads })))

address_place : (place : position.Place) (a : Translated) (p : Progress) → Place a → Gives (prefix_operator Address place a p) (λ r. Place r.0)
address_place place a p h = passing (typing (typed.prefix_operator Address place a.operand) p) (λ r s. here (value_place (record { before = h.before; reads = h.place })))

operator_places : (op : PrefixOp) (place : position.Place) (t : Elaborating Translated) → Places t → Places (t >>= before_operator op >>= prefix_operator op place)
operator_places Minus place t h = λ p. after ((t >>= read) p) (values t h p) (λ a s f. prefix_place Minus place a s f)
operator_places Plus place t h = λ p. after ((t >>= read) p) (values t h p) (λ a s f. prefix_place Plus place a s f)
operator_places Complement place t h = λ p. after ((t >>= read) p) (values t h p) (λ a s f. prefix_place Complement place a s f)
operator_places Not place t h = λ p. after ((t >>= read) p) (values t h p) (λ a s f. prefix_place Not place a s f)
operator_places Dereference place t h = λ p. after ((t >>= read) p) (values t h p) (λ a s f. prefix_place Dereference place a s f)
operator_places Address place t h = λ p. after ((t >>= before_operator Address) p) (after (t p) (h p) (λ a s f. here {Q = λ r. Place r.0} f)) (λ a s f. address_place place a s f)

cast_place : (place : position.Place) (t : CType) (a : Translated) (p : Progress) → Value a → Gives (cast_to place t a p) (λ r. Place r.0)
cast_place place t a p h = passing (typing (typed.cast_to place t a.operand) p) (λ r s. here (value_place (record { before = h.before; reads = h.reads })))

member_places : (op : MemberOp) (place : position.Place) (field : Identifier) (t : Elaborating Translated) → Places t → Places (t >>= before_member op >>= member op place field)
member_places Dot place field t h = λ p. after ((t >>= before_member Dot) p) (after (t p) (h p) (λ a s f. here {Q = λ r. Place r.0} f)) (λ a s f.
    passing (typing (typed.member Dot place field a.operand) s) (λ r u. here (record { before = f.before; place = f.place; value = λ m. absurd (true≢false m); scalar = λ _ g. g })))
member_places Arrow place field t h = λ p. after ((t >>= read) p) (values t h p) (λ a s f.
    passing (typing (typed.member Arrow place field a.operand) s) (λ r u. here (record { before = f.before; place = f.reads; value = λ m. absurd (true≢false m); scalar = λ _ g. g })))

index_place : (place : position.Place) (a i : Translated) (p : Progress) → Value a → Value i → Gives (subscript place a i p) (λ r. Place r.0)
index_place place a i p h g =
    passing (typing (typed.gives_value place (o.binary_type p.tags.structs Add a.operand i.operand)) p) (λ sum s.
    passing (typing (typed.gives_object place (o.element_type p.tags.structs a.operand i.operand)) s) (λ r u.
    here (record { before = fine_append a.before i.before h.before g.before; place = combined_reads Add a i sum.ctype h.reads g.reads; value = λ m. absurd (true≢false m); scalar = λ _ f. f })))

-- a temporary that a branch sets
set_fine : (ss : List Stmt) (x : List ℕ) (y : Expr) → Fine ss → reads y ≡ false → ReadsByPulls (sequence (ss ++ Set x y ∷ []))
set_fine ss x y h g = fine_sequence (ss ++ Set x y ∷ []) (fine_append ss (Set x y ∷ []) h (inl g, tt))

temporary_place : (ss : List Stmt) (s : Stmt) (x : List ℕ) (t : CType) (r : Operand) → Fine ss → ReadsByPulls s → Place (record { before = ss ++ s ∷ []; expr = Temp x t; operand = r })
temporary_place ss s x t r h g = value_place (record { before = fine_append ss (s ∷ []) h (g, tt); reads = refl })

-- the progress behind a number drawn for a temporary of that type
abbrev pub drawn_for : CType → Progress → Progress
drawn_for t p = record p { drawn = p.drawn + 1; temporaries = p.temporaries ++ record { name = pulled_name (p.drawn + 1); ctype = t } ∷ [] }

module _ (scopes : Scopes) where
  pub prefixed_places : (prefixes : List Prefix) (t : Elaborating Translated) → Places t → Places (with_prefixes scopes prefixes t)
  prefixed_places [] t h = h
  prefixed_places (before.Op op place ∷ rest) t h = operator_places op place (with_prefixes scopes rest t) (prefixed_places rest t h)
  prefixed_places (before.Step op place ∷ rest) t h = λ p. after (with_prefixes scopes rest t p) (prefixed_places rest t h p) (λ a s f. refused_place (typed.nested_step place a.operand) a s (never_step place a.operand))
  prefixed_places (before.Cast n place ∷ rest) t h = λ p.
      passing (typing (type_named scopes (parenthesis place) n) p) (λ u s.
      after ((with_prefixes scopes rest t >>= read) s) (values (with_prefixes scopes rest t) (prefixed_places rest t h) s) (λ a v f. cast_place place u a v f))

  pub places : (c : e.CExpr) → Places (expression scopes c)
  places (e.Name i) = λ p. passing (typing (typed.name_operand i (meaning_of scopes i.name)) p) (λ a s. here (named_place i a (meaning_of scopes i.name)))
  places (e.Literal l) = λ p. here (value_place (record { before = tt; reads = refl }))
  places (e.Parenthesised' p (e.more_of-CExpr inner e.end_of-CExpr)) = places inner
  places (e.Prefixed' prefixes p (e.more_of-CExpr operand e.end_of-CExpr)) = prefixed_places prefixes (expression scopes operand) (places operand)
  places (e.SizeOf place n) = λ p. passing (typing (typed.sized_type scopes place n) p) (λ t s. here (value_place (record { before = tt; reads = refl })))
  places (e.PostfixStep' p (e.more_of-CExpr operand e.end_of-CExpr) op place) = λ p. after (expression scopes operand p) (places operand p) (λ a s f. refused_place (typed.nested_step place a.operand) a s (never_step place a.operand))
  places (e.Index' p (e.more_of-CExpr array e.end_of-CExpr) place q (e.more_of-CExpr index e.end_of-CExpr)) = λ p.
      after ((expression scopes array >>= read) p) (values (expression scopes array) (places array) p) (λ a s f.
      after ((expression scopes index >>= read) s) (values (expression scopes index) (places index) s) (λ i u g. index_place place a i u f g))
  places (e.Call' p (e.more_of-CExpr function e.end_of-CExpr) place shape arguments) = λ p. after (expression scopes function p) (places function p) (λ a s f. refused_place (typed.nested_call place (length shape) a.operand) a s (never_called place (length shape) a.operand))
  places (e.Member' p (e.more_of-CExpr operand e.end_of-CExpr) op place field) = member_places op place field (expression scopes operand) (places operand)
  places (e.Binary' p (e.more_of-CExpr left e.end_of-CExpr) (binary.Int op) place q (e.more_of-CExpr right e.end_of-CExpr)) = λ p.
      after ((expression scopes left >>= read) p) (values (expression scopes left) (places left) p) (λ a s f.
      after ((expression scopes right >>= read) s) (values (expression scopes right) (places right) s) (λ b u g. places_of (binary_value op place a b u f g)))
  places (e.Binary' p (e.more_of-CExpr left e.end_of-CExpr) binary.And place q (e.more_of-CExpr right e.end_of-CExpr)) = λ p.
      after ((expression scopes left >>= read) p) (values (expression scopes left) (places left) p) (λ a s f.
      passing (typing (typed.check_test place a.operand) s) (λ x u.
      after ((expression scopes right >>= read) (drawn_for int_type u)) (values (expression scopes right) (places right) (drawn_for int_type u)) (λ b v g.
      passing (typing (typed.check_test place b.operand) v) (λ y w.
      here (temporary_place a.before (elab.both (test_of left a) b.before (test_of right b) (pulled_name (u.drawn + 1))) (pulled_name (u.drawn + 1)) int_type (o.value_of_type int_type) f.before
      (fine_if (test_of left a) (sequence (b.before ++ Set (pulled_name (u.drawn + 1)) (test_of right b) ∷ [])) (Set (pulled_name (u.drawn + 1)) zero) (test_reads left a f.reads) (set_fine b.before (pulled_name (u.drawn + 1)) (test_of right b) g.before (test_reads right b g.reads)) (inl refl)))))))
  places (e.Binary' p (e.more_of-CExpr left e.end_of-CExpr) binary.Or place q (e.more_of-CExpr right e.end_of-CExpr)) = λ p.
      after ((expression scopes left >>= read) p) (values (expression scopes left) (places left) p) (λ a s f.
      passing (typing (typed.check_test place a.operand) s) (λ x u.
      after ((expression scopes right >>= read) (drawn_for int_type u)) (values (expression scopes right) (places right) (drawn_for int_type u)) (λ b v g.
      passing (typing (typed.check_test place b.operand) v) (λ y w.
      here (temporary_place a.before (elab.one_of (test_of left a) b.before (test_of right b) (pulled_name (u.drawn + 1))) (pulled_name (u.drawn + 1)) int_type (o.value_of_type int_type) f.before
      (fine_if (test_of left a) (Set (pulled_name (u.drawn + 1)) one) (sequence (b.before ++ Set (pulled_name (u.drawn + 1)) (test_of right b) ∷ [])) (test_reads left a f.reads) (inl refl) (set_fine b.before (pulled_name (u.drawn + 1)) (test_of right b) g.before (test_reads right b g.reads))))))))
  places (e.Conditional' p (e.more_of-CExpr test e.end_of-CExpr) place q (e.more_of-CExpr first e.end_of-CExpr) r (e.more_of-CExpr second e.end_of-CExpr)) = λ p.
      after ((expression scopes test >>= read) p) (values (expression scopes test) (places test) p) (λ c s f.
      passing (typing (typed.check_test place c.operand) s) (λ x u.
      after ((expression scopes first >>= read) (record u { drawn = u.drawn + 1 })) (values (expression scopes first) (places first) (record u { drawn = u.drawn + 1 })) (λ a v g.
      after ((expression scopes second >>= read) v) (values (expression scopes second) (places second) v) (λ b w h.
      passing (typing (typed.gives_value place (o.common_type a.operand b.operand)) w) (λ result z.
      here (temporary_place c.before (If (test_of test c) (sequence (a.before ++ Set (pulled_name (u.drawn + 1)) (cast_into result.ctype a) ∷ [])) (sequence (b.before ++ Set (pulled_name (u.drawn + 1)) (cast_into result.ctype b) ∷ []))) (pulled_name (u.drawn + 1)) result.ctype result f.before
      (fine_if (test_of test c) (sequence (a.before ++ Set (pulled_name (u.drawn + 1)) (cast_into result.ctype a) ∷ [])) (sequence (b.before ++ Set (pulled_name (u.drawn + 1)) (cast_into result.ctype b) ∷ [])) (test_reads test c f.reads)
      (set_fine a.before (pulled_name (u.drawn + 1)) (cast_into result.ctype a) g.before (into_reads result.ctype a g.reads)) (set_fine b.before (pulled_name (u.drawn + 1)) (cast_into result.ctype b) h.before (into_reads result.ctype b h.reads)))))))))
  places (e.Assign' p (e.more_of-CExpr target e.end_of-CExpr) op place q value) = λ p. after (expression scopes target p) (places target p) (λ a s f. refused_place (typed.nested_assignment place a.operand) a s (never_assigned place a.operand))

  pub valued_values : (c : e.CExpr) → Values (rvalue scopes c)
  valued_values c = values (expression scopes c) (places c)
