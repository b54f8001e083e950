-- Elaboration and typing walk an expression alike.
use Rattle.std.proofs.Common.{◌≡◌, ℕ, ◌+◌, Bool, true, false, ◌&&◌, not, List, [], ◌∷◌, ◌++◌, length, is_some, Option, Some, None, Result, Ok, Err, if◌then◌else◌, refl, sym, ◌∙◌, ap, ap₂, subst, true≢false, option_and_then}
use Rattle.floyd_text.specs.declared.place.Place as position
use Rattle.floyd_text.specs.declared.refusal.Refusal.{Refusal}
use Rattle.floyd_int.specs.declared.kinds.IntKind.TheVariants.{I8, U8, I16, U16, I32, U32, I64, U64}
use Rattle.floyd_int.specs.declared.kinds.IntOp.TheVariants.{Add}
use Rattle.floyd_int.specs.declared.kinds.IntOp.{IntOp}
use Rattle.floyd_ctypes.specs.declared.ctype.CType.{CType, Void, Int, Pointer', Array', Struct, Function', more_of-CType, end_of-CType}
use Rattle.floyd_cparse_trees.specs.declared.types.Identifier.{Identifier}
use Rattle.floyd_cparse_trees.specs.declared.types.Literal.{Literal}
use Rattle.floyd_cparse_trees.specs.declared.expressions.CExpr as e
use Rattle.floyd_cparse_trees.specs.declared.expressions.BinaryOp.TheVariants as binary
use Rattle.floyd_cparse_trees.specs.declared.expressions.MemberOp.{MemberOp}
use Rattle.floyd_cparse_trees.specs.declared.expressions.MemberOp.TheVariants.{Dot, Arrow}
use Rattle.floyd_cparse_trees.specs.declared.expressions.Prefix.{Prefix}
use Rattle.floyd_cparse_trees.specs.declared.expressions.Prefix.TheVariants as before
use Rattle.floyd_cparse_trees.specs.declared.expressions.PrefixOp.{PrefixOp}
use Rattle.floyd_cparse_trees.specs.declared.expressions.PrefixOp.TheVariants.{Minus, Plus, Complement, Not, Dereference, Address}
use Rattle.floyd_elab_names.specs.declared.meaning.Meaning.{Meaning}
use Rattle.floyd_elab_names.specs.declared.meaning.Meaning.TheVariants as m
use Rattle.floyd_elab_names.specs.declared.meaning.Storage.{Storage}
use Rattle.floyd_elab_names.specs.declared.meaning.Storage.TheVariants as kept
use Rattle.floyd_elab_names.specs.declared.tags.Tags.{Tags}
use Rattle.floyd_elab_names.specs.Refusing.{◌>>=◌, and_then, pure, unless, or_refuse}
use Rattle.floyd_elab_names.specs.Typing.{Typing, the_structs}
use Rattle.floyd_elab_names.specs.Refusals.{ill_typed, undeclared, bad_cast, left_out}
use Rattle.floyd_elab_names.specs.Scopes.{Scopes, meaning_of}
use Rattle.floyd_elab_names.specs.Types.{int_type, size_type, is_scalar, same_type, pointee, decay}
use Rattle.floyd_elab_names.specs.Declarators.{parenthesis, ampersand, type_named}
use Rattle.floyd_ctyping.specs.declared.operand.Operand.{Operand}
use Rattle.floyd_ctyping.specs.declared.operand.Standing.TheVariants as standing
use Rattle.floyd_ctyping.specs.Operators as o
use Rattle.floyd_ctyping.specs.Expressions as typed
use Rattle.floyd_ctypes.specs.Structs as structs
use Rattle.floyd_clight.specs.Types.{type_of}
use Rattle.floyd_clight.specs.declared.syntax.Expr.{Expr, SizeOf}
use Rattle.floyd_clight.specs.declared.syntax.Stmt.{Stmt}
use Rattle.floyd_elab_expressions.specs.Clight.{Translated, cast_into, cast_of, combine, deref_of, field_of, test_of, is_memory, pulled_name}
use Rattle.floyd_elab_expressions.specs.declared.progress.Progress.{Progress}
use Rattle.floyd_elab_expressions.specs.Progress.{Elaborating, typing}
use Rattle.floyd_elab_expressions.specs.Expressions as elab
use Rattle.floyd_elab_expressions.specs.Expressions.{read, pull_read, expression, name_expr, variable_of, with_prefixes, before_operator, prefix_operator, prefix_expr, before_member, subscript}
use Rattle.floyd_elab_laws.specs.Typings.{as_typed, ElaborationTypesAsTypingDoes, ExpressionsHaveTheirTypes}
use Rattle.floyd_elab_laws.proofs.GivesLemmas.{Gives, here, refused, passing, whatever}
use Rattle.floyd_elab_laws.proofs.ReadLemmas.{never_step, never_assigned, never_called, drawn_for}
use Rattle.floyd_elab_laws.proofs.SameValueLemmas.{SameValue, same_test, same_minus, same_plus, same_complement, same_negation, same_star, same_arrow, same_cast, same_common, same_binary, same_element}
use Rattle.floyd_elab_laws.proofs.AlikeLemmas.{Alike, Known, both, both_after, one_after, typed_alike}

-- what was not read: the operand itself, and no constant where it lies in memory
pub record Sees (a : Translated) (b : Operand) : Type 0 where
  pub operand : a.operand ≡ b
  pub ctype : type_of a.expr ≡ a.operand.ctype
  pub object : is_memory a.expr ≡ true → o.is_zero a.operand.standing ≡ false

-- what was read: all that an operator but `&` sees of it
pub record SeesValue (a : Translated) (b : Operand) : Type 0 where
  pub value : SameValue a.operand b
  pub ctype : type_of a.expr ≡ a.operand.ctype

abbrev Walks : Elaborating Translated → Typing Operand → Type 0
Walks t u = (p : Progress) → Alike Sees (t p) (u p.tags)

-- ---- reads

first_true : (s t : Bool) → s && t ≡ true → s ≡ true
first_true true t e = refl
first_true false t e = e

read_alike : (a : Translated) (b : Operand) (p : Progress) → Sees a b → Alike SeesValue (read a p) (Ok (b, p.tags))
read_alike a b p h = by (is_memory a.expr && is_scalar a.operand.ctype) refl
  where
    by : (t : Bool) → is_memory a.expr && is_scalar a.operand.ctype ≡ t → Alike SeesValue ((if t then pull_read a else pure a) p) (Ok (b, p.tags))
    by true q = both (record {
      value = (ap (λ (x : Operand). o.value_type x) h.operand, sym (h.object (first_true (is_memory a.expr) (is_scalar a.operand.ctype) q)) ∙ ap (λ (x : Operand). o.is_zero x.standing) h.operand);
      ctype = refl;
    })
    by false q = both (record {
      value = (ap (λ (x : Operand). o.value_type x) h.operand, ap (λ (x : Operand). o.is_zero x.standing) h.operand);
      ctype = h.ctype;
    })

value_alike : (t : Elaborating Translated) (u : Typing Operand) → Walks t u → (p : Progress) → Alike SeesValue ((t >>= read) p) (u p.tags)
value_alike t u h p = one_after (t p) (u p.tags) (h p) (λ a s b g. read_alike a b s g)

-- ---- what typing gives is no constant

abbrev NotZero : Operand → Type 0
NotZero a = o.is_zero a.standing ≡ false

value_not_zero : (place : position.Place) (t : Option CType) (tags : Tags) → Gives (typed.gives_value place t tags) (λ r. NotZero r.0)
value_not_zero place (Some t) tags = here refl
value_not_zero place None tags = refused

object_not_zero : (place : position.Place) (t : Option CType) (tags : Tags) → Gives (typed.gives_object place t tags) (λ r. NotZero r.0)
object_not_zero place (Some t) tags = here refl
object_not_zero place None tags = refused

address_not_zero : (place : position.Place) (a : Operand) (tags : Tags) → Gives (typed.address_of place a tags) (λ r. NotZero r.0)
address_not_zero place a tags = passing (unless (left_out (ampersand place)) (not (o.is_parameter a.standing)) tags) (λ x s. value_not_zero place (o.address_type a) s)

cast_not_zero : (place : position.Place) (t : CType) (a : Operand) (tags : Tags) → Gives (typed.cast_to place t a tags) (λ r. (r.0.ctype ≡ t) × NotZero r.0)
cast_not_zero place t a tags = passing (unless (bad_cast place) (o.is_cast t a) tags) (λ x s. here (refl, refl))

member_not_zero : (op : MemberOp) (place : position.Place) (field : Identifier) (a : Operand) (tags : Tags) → Gives (typed.member op place field a tags) (λ r. NotZero r.0)
member_not_zero op place field a tags =
    passing (or_refuse (ill_typed place) (o.struct_before op a) tags) (λ tag s.
    passing (or_refuse (undeclared field) (structs.field_of s.structs tag field.name) s) (λ f u. here refl))

named_not_zero : (i : Identifier) (meaning : Option Meaning) (tags : Tags) → Gives (typed.name_operand i meaning tags) (λ r. NotZero r.0)
named_not_zero i (Some (m.Variable called t kept.Global)) tags = here refl
named_not_zero i (Some (m.Variable called t kept.Block)) tags = here refl
named_not_zero i (Some (m.Variable called t kept.Temporary)) tags = here refl
named_not_zero i (Some (m.Variable called t kept.Parameter)) tags = here refl
named_not_zero i (Some (m.Type t constant)) tags = refused
named_not_zero i (Some (m.Function t)) tags = here refl
named_not_zero i None tags = refused

-- ---- one operator

step_alike : (t u : Typing Operand) (p : Progress) (f : Operand → Translated) → t ≡ u → Gives (t p.tags) (λ r. NotZero r.0) →
    ((r : Operand) → (f r).operand ≡ r) → ((r : Operand) → type_of (f r).expr ≡ r.ctype) → Alike Sees (and_then (typing t p) (λ r. pure (f r))) (u p.tags)
step_alike t u p f e h operand ctype = one_after (typing t p) (u p.tags) (typed_alike NotZero t u p e h) (λ r s b k.
    both (record {
      operand = operand r ∙ k.same;
      ctype = ctype r ∙ sym (ap (λ (x : Operand). x.ctype) (operand r));
      object = λ _. ap (λ (x : Operand). o.is_zero x.standing) (operand r) ∙ k.known;
    }))

nested_alike : (t u : Typing Operand) (a : Translated) (p : Progress) → t ≡ u → Gives (t p.tags) (λ r. ⊥) → Alike Sees (elab.nested_refusal t a p) (u p.tags)
nested_alike t u a p e h = one_after (typing t p) (u p.tags) (typed_alike (λ x. ⊥) t u p e h) (λ r s b k. absurd k.known)

variable_typed : (storage : Storage) (x : List ℕ) (t : CType) → type_of (variable_of storage x t) ≡ t
variable_typed kept.Global x t = refl
variable_typed kept.Block x t = refl
variable_typed kept.Temporary x t = refl
variable_typed kept.Parameter x t = refl

name_typed : (i : Identifier) (t : CType) (meaning : Option Meaning) → type_of (name_expr i t meaning) ≡ t
name_typed i t (Some (m.Variable called u storage)) = variable_typed storage called t
name_typed i t (Some (m.Type u constant)) = refl
name_typed i t (Some (m.Function u)) = refl
name_typed i t None = refl

-- ---- prefixes

-- ---- prefixes

-- `+` keeps the expression where its type is the promoted one
abbrev PlusGives : Expr → position.Place → Tags → CType → Type 0
PlusGives x place tags t = Gives (typed.gives_value place (o.promoted_type (decay t)) tags) (λ r. (type_of (if same_type (decay t) r.0.ctype then x else cast_of x r.0.ctype) ≡ r.0.ctype) × NotZero r.0)

plus_typed : (x : Expr) (place : position.Place) (tags : Tags) (t : CType) → type_of x ≡ t → PlusGives x place tags t
plus_typed x place tags Void h = refused
plus_typed x place tags (Int I8) h = here (refl, refl)
plus_typed x place tags (Int U8) h = here (refl, refl)
plus_typed x place tags (Int I16) h = here (refl, refl)
plus_typed x place tags (Int U16) h = here (refl, refl)
plus_typed x place tags (Int I32) h = here (h, refl)
plus_typed x place tags (Int U32) h = here (h, refl)
plus_typed x place tags (Int I64) h = here (h, refl)
plus_typed x place tags (Int U64) h = here (h, refl)
plus_typed x place tags (Pointer' p t) h = refused
plus_typed x place tags (Array' p (more_of-CType t end_of-CType) n) h = refused
plus_typed x place tags (Struct tag) h = refused
plus_typed x place tags (Function' shape ps p r) h = refused

plus_alike : (place : position.Place) (a : Translated) (b : Operand) (p : Progress) → SeesValue a b → Alike Sees (prefix_operator Plus place a p) (typed.prefix_operator Plus place b p.tags)
plus_alike place a b p h =
    one_after (typing (typed.prefix_operator Plus place a.operand) p) (typed.prefix_operator Plus place b p.tags)
    (typed_alike (λ r. (type_of (prefix_expr Plus a r.ctype) ≡ r.ctype) × NotZero r) (typed.prefix_operator Plus place a.operand) (typed.prefix_operator Plus place b) p (same_plus a.operand b h.value place)
    (plus_typed a.expr place p.tags a.operand.ctype h.ctype))
    (λ r s c k. both (record { operand = k.same; ctype = k.known.0; object = λ _. k.known.1 }))

-- what stands behind a prefix operator
abbrev behind_operator : PrefixOp → Translated → Operand → Translated
behind_operator op a r = record { before = a.before; expr = prefix_expr op a r.ctype; operand = r }

operator_alike : (op : PrefixOp) (place : position.Place) (t : Elaborating Translated) (u : Typing Operand) → Walks t u →
    Walks (t >>= before_operator op >>= prefix_operator op place) (u >>= typed.prefix_operator op place)
operator_alike Minus place t u h = λ p. both_after _ ((t >>= read) p) (u p.tags) (value_alike t u h p) (λ a s b g.
    step_alike (typed.prefix_operator Minus place a.operand) (typed.prefix_operator Minus place b) s (behind_operator Minus a) (same_minus a.operand b g.value place) (value_not_zero place (o.sign_type a.operand) s.tags) (λ r. refl) (λ r. refl))
operator_alike Plus place t u h = λ p. both_after _ ((t >>= read) p) (u p.tags) (value_alike t u h p) (λ a s b g. plus_alike place a b s g)
operator_alike Complement place t u h = λ p. both_after _ ((t >>= read) p) (u p.tags) (value_alike t u h p) (λ a s b g.
    step_alike (typed.prefix_operator Complement place a.operand) (typed.prefix_operator Complement place b) s (behind_operator Complement a) (same_complement a.operand b g.value place) (value_not_zero place (o.sign_type a.operand) s.tags) (λ r. refl) (λ r. refl))
operator_alike Not place t u h = λ p. both_after _ ((t >>= read) p) (u p.tags) (value_alike t u h p) (λ a s b g.
    step_alike (typed.prefix_operator Not place a.operand) (typed.prefix_operator Not place b) s (behind_operator Not a) (same_negation a.operand b g.value place) (value_not_zero place (o.not_type a.operand) s.tags) (λ r. refl) (λ r. refl))
operator_alike Dereference place t u h = λ p. both_after _ ((t >>= read) p) (u p.tags) (value_alike t u h p) (λ a s b g.
    step_alike (typed.prefix_operator Dereference place a.operand) (typed.prefix_operator Dereference place b) s (behind_operator Dereference a) (same_star a.operand b g.value place) (object_not_zero place (o.dereference_type a.operand) s.tags) (λ r. refl) (λ r. refl))
operator_alike Address place t u h = λ p. both_after _ ((t >>= before_operator Address) p) (u p.tags) (one_after (t p) (u p.tags) (h p) (λ a s b g. both {R = Sees} g)) (λ a s b g.
    step_alike (typed.prefix_operator Address place a.operand) (typed.prefix_operator Address place b) s (behind_operator Address a) (ap (typed.prefix_operator Address place) g.operand) (address_not_zero place a.operand s.tags) (λ r. refl) (λ r. refl))

cast_alike : (place : position.Place) (t : CType) (a : Translated) (b : Operand) (p : Progress) → SeesValue a b → Alike Sees (elab.cast_to place t a p) (typed.cast_to place t b p.tags)
cast_alike place t a b p h =
    one_after (typing (typed.cast_to place t a.operand) p) (typed.cast_to place t b p.tags)
    (typed_alike (λ r. (r.ctype ≡ t) × NotZero r) (typed.cast_to place t a.operand) (typed.cast_to place t b) p (ap (cast_by place t) (same_cast a.operand b h.value t)) (cast_not_zero place t a.operand p.tags))
    (λ r s c k. both (record { operand = k.same; ctype = sym k.known.0; object = λ _. k.known.1 }))
  where
    cast_by : position.Place → CType → Bool → Typing Operand
    cast_by place t fits = unless (bad_cast place) fits >>= λ _. pure (o.value_of_type t)

-- ---- fields and elements

abbrev at_field : MemberOp → Identifier → Translated → Operand → Translated
at_field op field a r = record { before = a.before; expr = field_of (elab.struct_expr op a) field.name r.ctype; operand = r }

-- the rest of a member, behind the struct that it is taken of
abbrev member_of : position.Place → Identifier → Option (List ℕ) → Typing Operand
member_of place field tag = or_refuse (ill_typed place) tag >>= λ tag. the_structs >>= λ known. or_refuse (undeclared field) (structs.field_of known tag field.name) >>= λ f. pure (o.object_of_type f.ty)

member_alike : (op : MemberOp) (place : position.Place) (field : Identifier) (t : Elaborating Translated) (u : Typing Operand) → Walks t u →
    Walks (t >>= before_member op >>= elab.member op place field) (u >>= typed.member op place field)
member_alike Dot place field t u h = λ p. both_after _ ((t >>= before_member Dot) p) (u p.tags) (one_after (t p) (u p.tags) (h p) (λ a s b g. both {R = Sees} g)) (λ a s b g.
    step_alike (typed.member Dot place field a.operand) (typed.member Dot place field b) s (at_field Dot field a) (ap (typed.member Dot place field) g.operand) (member_not_zero Dot place field a.operand s.tags) (λ r. refl) (λ r. refl))
member_alike Arrow place field t u h = λ p. both_after _ ((t >>= read) p) (u p.tags) (value_alike t u h p) (λ a s b g.
    step_alike (typed.member Arrow place field a.operand) (typed.member Arrow place field b) s (at_field Arrow field a) (ap (member_of place field) (same_arrow a.operand b g.value)) (member_not_zero Arrow place field a.operand s.tags) (λ r. refl) (λ r. refl))

-- `a[i]`: where the sum has no type, there is no element
element_found : (place : position.Place) (sum : Option CType) (f : CType → Operand → Translated) (p : Progress) →
    ((t : CType) (r : Operand) → (f t r).operand ≡ r) → ((t : CType) (r : Operand) → type_of (f t r).expr ≡ r.ctype) →
    Alike Sees (and_then (typing (typed.gives_value place sum) p) (λ s. typing (typed.gives_object place (option_and_then pointee sum)) >>= λ r. pure (f s.ctype r))) (typed.gives_object place (option_and_then pointee sum) p.tags)
element_found place (Some t) f p operand ctype =
    step_alike (typed.gives_object place (pointee t)) (typed.gives_object place (pointee t)) p (f t) refl (object_not_zero place (pointee t) p.tags) (operand t) (ctype t)
element_found place None f p operand ctype = record { holds = refl }

abbrev at_index : Translated → Translated → CType → Operand → Translated
at_index a i sum r = record { before = a.before ++ i.before; expr = deref_of (combine Add a i sum) r.ctype; operand = r }

index_alike : (place : position.Place) (a i : Translated) (b j : Operand) (p : Progress) → SeesValue a b → SeesValue i j →
    Alike Sees (subscript place a i p) (typed.gives_object place (o.element_type p.tags.structs b j) p.tags)
index_alike place a i b j p h g =
    subst (λ x. Alike Sees (subscript place a i p) (typed.gives_object place x p.tags)) (same_element a.operand b h.value i.operand j g.value p.tags.structs)
    (element_found place (o.sum_of p.tags.structs (o.value_type a.operand) (o.value_type i.operand)) (at_index a i) p (λ t r. refl) (λ t r. refl))

-- ---- two operands

binary_alike : (op : IntOp) (place : position.Place) (a c : Translated) (b d : Operand) (p : Progress) → SeesValue a b → SeesValue c d →
    Alike Sees (elab.binary_operator op place a c p) (typed.gives_value place (o.binary_type p.tags.structs op b d) p.tags)
binary_alike op place a c b d p h g =
    step_alike (typed.gives_value place (o.binary_type p.tags.structs op a.operand c.operand)) (typed.gives_value place (o.binary_type p.tags.structs op b d)) p
    (λ r. record { before = a.before ++ c.before; expr = combine op a c r.ctype; operand = r })
    (ap (typed.gives_value place) (same_binary a.operand b h.value c.operand d g.value p.tags.structs op))
    (value_not_zero place (o.binary_type p.tags.structs op a.operand c.operand) p.tags) (λ r. refl) (λ r. refl)

test_alike : (place : position.Place) (a : Translated) (b : Operand) (p : Progress) → SeesValue a b → Alike (Known (λ x. Unit {0})) (typing (typed.check_test place a.operand) p) (typed.check_test place b p.tags)
test_alike place a b p h = typed_alike (λ x. Unit {0}) (typed.check_test place a.operand) (typed.check_test place b) p (same_test a.operand b h.value place) (whatever (typed.check_test place a.operand p.tags))

truth_alike : (x : List ℕ) (before : List Stmt) (p : Progress) → Alike Sees (Ok (elab.truth x before, p)) (Ok (o.value_of_type int_type, p.tags))
truth_alike x before p = both (record { operand = refl; ctype = refl; object = λ _. refl })

branches_alike : (place : position.Place) (k : ℕ) (before : List Stmt) (test : Expr) (a c : Translated) (b d : Operand) (p : Progress) → SeesValue a b → SeesValue c d →
    Alike Sees (elab.conditional_result place k before test a c p) (typed.gives_value place (o.common_type b d) p.tags)
branches_alike place k before test a c b d p h g =
    one_after (typing (typed.gives_value place (o.common_type a.operand c.operand)) p) (typed.gives_value place (o.common_type b d) p.tags)
    (typed_alike NotZero (typed.gives_value place (o.common_type a.operand c.operand)) (typed.gives_value place (o.common_type b d)) p (ap (typed.gives_value place) (same_common a.operand b h.value c.operand d g.value)) (value_not_zero place (o.common_type a.operand c.operand) p.tags))
    (λ r s x k. both (record { operand = k.same; ctype = refl; object = λ _. k.known }))

-- ---- expressions

literal_alike : (l : Literal) (p : Progress) → Alike Sees (Ok (elab.literal l, p)) (Ok (typed.literal_operand l, p.tags))
literal_alike l p = both (record { operand = refl; ctype = refl; object = λ m. absurd (true≢false (sym m)) })

abbrev sized : CType → Translated
sized t = record { before = []; expr = SizeOf t size_type; operand = o.value_of_type size_type }

module _ (scopes : Scopes) where
  prefixes_alike : (prefixes : List Prefix) (t : Elaborating Translated) (u : Typing Operand) → Walks t u → Walks (with_prefixes scopes prefixes t) (typed.prefixed_operand scopes prefixes u)
  prefixes_alike [] t u h = h
  prefixes_alike (before.Op op place ∷ rest) t u h = operator_alike op place (with_prefixes scopes rest t) (typed.prefixed_operand scopes rest u) (prefixes_alike rest t u h)
  prefixes_alike (before.Step op place ∷ rest) t u h = λ p. both_after _ (with_prefixes scopes rest t p) (typed.prefixed_operand scopes rest u p.tags) (prefixes_alike rest t u h p) (λ a s b g.
      nested_alike (typed.nested_step place a.operand) (typed.nested_step place b) a s (ap (typed.nested_step place) g.operand) (never_step place a.operand s.tags))
  prefixes_alike (before.Cast n place ∷ rest) t u h = λ p.
      both_after _ (typing (type_named scopes (parenthesis place) n) p) (type_named scopes (parenthesis place) n p.tags)
      (typed_alike (λ x. Unit {0}) (type_named scopes (parenthesis place) n) (type_named scopes (parenthesis place) n) p refl (whatever (type_named scopes (parenthesis place) n p.tags))) (λ c s d k.
      subst (λ d. Alike Sees ((with_prefixes scopes rest t >>= read >>= elab.cast_to place c) s) ((typed.prefixed_operand scopes rest u >>= typed.cast_to place d) s.tags)) k.same
      (both_after _ ((with_prefixes scopes rest t >>= read) s) (typed.prefixed_operand scopes rest u s.tags) (value_alike (with_prefixes scopes rest t) (typed.prefixed_operand scopes rest u) (prefixes_alike rest t u h) s) (λ a v b g. cast_alike place c a b v g)))

  walked : (c : e.CExpr) → Walks (expression scopes c) (typed.operand_of scopes c)
  walked (e.Name i) = λ p.
      step_alike (typed.name_operand i (meaning_of scopes i.name)) (typed.name_operand i (meaning_of scopes i.name)) p (λ a. record { before = []; expr = name_expr i a.ctype (meaning_of scopes i.name); operand = a })
      refl (named_not_zero i (meaning_of scopes i.name) p.tags) (λ r. refl) (λ r. name_typed i r.ctype (meaning_of scopes i.name))
  walked (e.Literal l) = λ p. literal_alike l p
  walked (e.Parenthesised' p (e.more_of-CExpr inner e.end_of-CExpr)) = walked inner
  walked (e.Prefixed' prefixes p (e.more_of-CExpr operand e.end_of-CExpr)) = prefixes_alike prefixes (expression scopes operand) (typed.operand_of scopes operand) (walked operand)
  walked (e.SizeOf place n) = λ p.
      both_after _ (typing (typed.sized_type scopes place n) p) (typed.sized_type scopes place n p.tags)
      (typed_alike (λ x. Unit {0}) (typed.sized_type scopes place n) (typed.sized_type scopes place n) p refl (whatever (typed.sized_type scopes place n p.tags))) (λ t s u k.
      both (record { operand = refl; ctype = refl; object = λ _. refl }))
  walked (e.PostfixStep' p (e.more_of-CExpr operand e.end_of-CExpr) op place) = λ p. both_after _ (expression scopes operand p) (typed.operand_of scopes operand p.tags) (walked operand p) (λ a s b g.
      nested_alike (typed.nested_step place a.operand) (typed.nested_step place b) a s (ap (typed.nested_step place) g.operand) (never_step place a.operand s.tags))
  walked (e.Index' p (e.more_of-CExpr array e.end_of-CExpr) place q (e.more_of-CExpr index e.end_of-CExpr)) = λ p.
      both_after _ ((expression scopes array >>= read) p) (typed.operand_of scopes array p.tags) (value_alike (expression scopes array) (typed.operand_of scopes array) (walked array) p) (λ a s b f.
      both_after _ ((expression scopes index >>= read) s) (typed.operand_of scopes index s.tags) (value_alike (expression scopes index) (typed.operand_of scopes index) (walked index) s) (λ i u j g. index_alike place a i b j u f g))
  walked (e.Call' p (e.more_of-CExpr function e.end_of-CExpr) place shape arguments) = λ p. both_after _ (expression scopes function p) (typed.operand_of scopes function p.tags) (walked function p) (λ a s b g.
      nested_alike (typed.nested_call place (length shape) a.operand) (typed.nested_call place (length shape) b) a s (ap (typed.nested_call place (length shape)) g.operand) (never_called place (length shape) a.operand s.tags))
  walked (e.Member' p (e.more_of-CExpr operand e.end_of-CExpr) op place field) = member_alike op place field (expression scopes operand) (typed.operand_of scopes operand) (walked operand)
  walked (e.Binary' p (e.more_of-CExpr left e.end_of-CExpr) (binary.Int op) place q (e.more_of-CExpr right e.end_of-CExpr)) = λ p.
      both_after _ ((expression scopes left >>= read) p) (typed.operand_of scopes left p.tags) (value_alike (expression scopes left) (typed.operand_of scopes left) (walked left) p) (λ a s b f.
      both_after _ ((expression scopes right >>= read) s) (typed.operand_of scopes right s.tags) (value_alike (expression scopes right) (typed.operand_of scopes right) (walked right) s) (λ c u d g. binary_alike op place a c b d u f g))
  walked (e.Binary' p (e.more_of-CExpr left e.end_of-CExpr) binary.And place q (e.more_of-CExpr right e.end_of-CExpr)) = λ p.
      both_after _ ((expression scopes left >>= read) p) (typed.operand_of scopes left p.tags) (value_alike (expression scopes left) (typed.operand_of scopes left) (walked left) p) (λ a s b f.
      both_after _ (typing (typed.check_test place a.operand) s) (typed.check_test place b s.tags) (test_alike place a b s f) (λ x u y k.
      both_after _ ((expression scopes right >>= read) (drawn_for int_type u)) (typed.operand_of scopes right u.tags) (value_alike (expression scopes right) (typed.operand_of scopes right) (walked right) (drawn_for int_type u)) (λ c v d g.
      both_after _ (typing (typed.check_test place c.operand) v) (typed.check_test place d v.tags) (test_alike place c d v g) (λ z w n l.
      truth_alike (pulled_name (u.drawn + 1)) (a.before ++ elab.both (test_of left a) c.before (test_of right c) (pulled_name (u.drawn + 1)) ∷ []) w))))
  walked (e.Binary' p (e.more_of-CExpr left e.end_of-CExpr) binary.Or place q (e.more_of-CExpr right e.end_of-CExpr)) = λ p.
      both_after _ ((expression scopes left >>= read) p) (typed.operand_of scopes left p.tags) (value_alike (expression scopes left) (typed.operand_of scopes left) (walked left) p) (λ a s b f.
      both_after _ (typing (typed.check_test place a.operand) s) (typed.check_test place b s.tags) (test_alike place a b s f) (λ x u y k.
      both_after _ ((expression scopes right >>= read) (drawn_for int_type u)) (typed.operand_of scopes right u.tags) (value_alike (expression scopes right) (typed.operand_of scopes right) (walked right) (drawn_for int_type u)) (λ c v d g.
      both_after _ (typing (typed.check_test place c.operand) v) (typed.check_test place d v.tags) (test_alike place c d v g) (λ z w n l.
      truth_alike (pulled_name (u.drawn + 1)) (a.before ++ elab.one_of (test_of left a) c.before (test_of right c) (pulled_name (u.drawn + 1)) ∷ []) w))))
  walked (e.Conditional' p (e.more_of-CExpr test e.end_of-CExpr) place q (e.more_of-CExpr first e.end_of-CExpr) r (e.more_of-CExpr second e.end_of-CExpr)) = λ p.
      both_after _ ((expression scopes test >>= read) p) (typed.operand_of scopes test p.tags) (value_alike (expression scopes test) (typed.operand_of scopes test) (walked test) p) (λ a s b f.
      both_after _ (typing (typed.check_test place a.operand) s) (typed.check_test place b s.tags) (test_alike place a b s f) (λ x u y k.
      both_after _ ((expression scopes first >>= read) (record u { drawn = u.drawn + 1 })) (typed.operand_of scopes first u.tags) (value_alike (expression scopes first) (typed.operand_of scopes first) (walked first) (record u { drawn = u.drawn + 1 })) (λ c v d g.
      both_after _ ((expression scopes second >>= read) v) (typed.operand_of scopes second v.tags) (value_alike (expression scopes second) (typed.operand_of scopes second) (walked second) v) (λ z w n l.
      branches_alike place (u.drawn + 1) a.before (test_of test a) c z d n w g l))))
  walked (e.Assign' p (e.more_of-CExpr target e.end_of-CExpr) op place q value) = λ p. both_after _ (expression scopes target p) (typed.operand_of scopes target p.tags) (walked target p) (λ a s b g.
      nested_alike (typed.nested_assignment place a.operand) (typed.nested_assignment place b) a s (ap (typed.nested_assignment place) g.operand) (never_assigned place a.operand s.tags))

-- ---- the laws

same_found : (r : Result (Translated × Progress) Refusal) (q : Result (Operand × Tags) Refusal) → Alike Sees r q → as_typed r ≡ q
same_found (Ok x) (Ok y) h = ap₂ (λ (b : Operand) (t : Tags). Ok (b, t)) h.holds.0.operand h.holds.1
same_found (Err a) (Err b) h = ap (λ (r : Refusal). Err r) h.holds
same_found (Ok x) (Err b) h = absurd h.holds
same_found (Err a) (Ok y) h = absurd h.holds

pub types_agree : ElaborationTypesAsTypingDoes
types_agree = λ scopes c p. same_found (expression scopes c p) (typed.operand_of scopes c p.tags) (walked scopes c p)

type_found : (r : Result (Translated × Progress) Refusal) (q : Result (Operand × Tags) Refusal) → Alike Sees r q → (t : Translated) (s : Progress) → r ≡ Ok (t, s) → type_of t.expr ≡ t.operand.ctype
type_found (Ok x) (Ok y) h t s k = cc
type_found (Err a) q h t s k = cc
type_found (Ok x) (Err b) h t s k = absurd h.holds

pub expressions_typed : ExpressionsHaveTheirTypes
expressions_typed = λ scopes c p q t h. type_found (expression scopes c p) (typed.operand_of scopes c p.tags) (walked scopes c p) t q h
