-- What elaboration makes of names, constants, operators and casts on integers.
use Rattle.std.proofs.Common.{◌≡◌, ℕ, ◌^◌, ◌<◌, ◌≤◌, Bool, true, false, ◌&&◌, ℤ, pos, List, [], ◌∷◌, ◌++◌, Option, Some, None, Result, Ok, Err, if◌then◌else◌, refl, sym, ◌∙◌, ap, ap₂, subst, arith, nat_lt, ltb-true, true≢false}
use Rattle.std.specs.Prelude.{◌%◌, IfSome, option_map, option_and_then}
use Rattle.std.proofs.lemmas.Bool.{and_parts}
use Rattle.std.proofs.lemmas.Int.{ints}
use Rattle.floyd_text.specs.declared.place.Place.{Place}
use Rattle.floyd_text.specs.declared.refusal.Refusal.{Refusal}
use Rattle.floyd_int.specs.declared.kinds.IntKind.{IntKind}
use Rattle.floyd_int.specs.declared.kinds.IntKind.TheVariants.{I8, U8, I16, U16, I32, U32, I64, U64}
use Rattle.floyd_int.specs.declared.kinds.IntOp.{IntOp}
use Rattle.floyd_int.specs.declared.kinds.IntOp.TheVariants.{Add, Sub, Mul, Div, Rem, And, Or, Xor, Shl, Shr, Eq, Ne, Lt, Le, Gt, Ge}
use Rattle.floyd_int.specs.declared.kinds.Value.TheVariants.{Vint, Vlong}
use Rattle.floyd_int.specs.Kind.{InRange, repr_of}
use Rattle.floyd_int.specs.Operation.{is_in_range, left_shift, right_shift}
use Rattle.floyd_int.proofs.KindLaws.{repr-small}
use Rattle.floyd_int.proofs.OperationLaws.{InRange-true}
use Rattle.floyd_ctypes.specs.declared.ctype.CType.{CType, Int}
use Rattle.floyd_ctypes.specs.Layout.{size}
use Rattle.floyd_cparse_trees.specs.declared.types.Identifier.{Identifier}
use Rattle.floyd_cparse_trees.specs.declared.types.Literal.{Literal}
use Rattle.floyd_cparse_trees.specs.declared.types.TypeName.{TypeName}
use Rattle.floyd_cparse_trees.specs.declared.expressions.CExpr as e
use Rattle.floyd_cparse_trees.specs.declared.expressions.Prefix.{Prefix}
use Rattle.floyd_cparse_trees.specs.declared.expressions.Prefix.TheVariants as before
use Rattle.floyd_cparse_trees.specs.declared.expressions.PrefixOp.{PrefixOp}
use Rattle.floyd_cparse_trees.specs.declared.expressions.PrefixOp.TheVariants.{Minus, Plus, Complement, Not, Dereference, Address}
use Rattle.floyd_elab_names.specs.declared.meaning.Meaning.{Meaning}
use Rattle.floyd_elab_names.specs.declared.meaning.Meaning.TheVariants as m
use Rattle.floyd_elab_names.specs.declared.meaning.Storage.TheVariants as kept
use Rattle.floyd_ctyping.specs.declared.operand.Standing.{Standing}
use Rattle.floyd_ctyping.specs.declared.operand.Standing.TheVariants as standing
use Rattle.floyd_elab_names.specs.declared.tags.Tags.{Tags}
use Rattle.floyd_elab_names.specs.Refusing.{◌>>=◌, pure, unless}
use Rattle.floyd_elab_names.specs.Typing.{Typing}
use Rattle.floyd_elab_names.specs.Refusals.{ill_typed}
use Rattle.floyd_elab_names.specs.Scopes.{Scopes, meaning_of}
use Rattle.floyd_elab_names.specs.Types.{promote, usual, size_type, has_size, kind_of}
use Rattle.floyd_ctyping.specs.Operators as o
use Rattle.floyd_elab_names.specs.Declarators.{parenthesis}
use Rattle.floyd_elab_names.specs.Declarators as names
use Rattle.floyd_ctyping.specs.Expressions as typed
use Rattle.floyd_clight.specs.declared.syntax.Expr.{Expr, Const, Temp, SizeOf}
use Rattle.floyd_clight.specs.declared.syntax.Stmt.{Stmt}
use Rattle.floyd_clight.specs.declared.syntax.UnaryOp.TheVariants as unary
use Rattle.floyd_clight_machine.specs.Integers as i
use Rattle.floyd_clight_machine.specs.Evaluation.{Temps}
use Rattle.floyd_elab_expressions.specs.Clight.{Translated, bits_of, cast_of, unary_of, binary_of}
use Rattle.floyd_elab_expressions.specs.declared.progress.Progress.{Progress}
use Rattle.floyd_elab_expressions.specs.Progress.{Elaborating, typing, with_tags}
use Rattle.floyd_elab_expressions.specs.Expressions as elab
use Rattle.floyd_elab_laws.specs.Conversions.{converted, common_kind}
use Rattle.floyd_elab_laws.specs.Numbers.{Number, converted_to, of_both, truth, is_zero, negation, complement, result_kind, operation, of_kind, shift}
use Rattle.floyd_elab_laws.specs.Numbers as numbers
use Rattle.floyd_elab_laws.specs.TypeNames.{type_named}
use Rattle.floyd_elab_laws.specs.CMeaning.{variable_kind, variable, is_constant_kind, constant, size_number}
use Rattle.floyd_elab_laws.specs.CMeaning as c
use Rattle.floyd_elab_laws.specs.Laws.{value_as, Holds}
use Rattle.floyd_elab_laws.proofs.KindLemmas.{promotion_is, common_is}
use Rattle.floyd_elab_laws.proofs.GivesLemmas.{Gives, after, here, refused, passing, Has, nothing, some_then, some_map}
use Rattle.floyd_elab_laws.proofs.TypeNameLemmas.{type_is_named}
use Rattle.floyd_elab_laws.proofs.ValueLemmas.{promoted_wide, usual_wide}
use Rattle.floyd_elab_laws.proofs.EvaluationLemmas.{into, not_memory, into_type, kept_same, kept_range, promoted_range, both_none, cast_evals, into_evals, minus_evals, complement_evals, opposite_evals, arithmetic_evals, left_evals, right_evals, minus_range, complemented_range, opposite_range, arithmetic_range, left_range, right_range}
use Rattle.floyd_elab_laws.proofs.FactLemmas.{Setting, Kept, Facts, evals, alone, modify}
use Rattle.floyd_elab_laws.proofs.FactLemmas as fact

-- ---- what is translated, as a number of C

pub data Means (W : Setting) (straight : Bool) (n : Number) (d e : ℕ) : Translated → Type 0 where
  means : (before : List Stmt) (x : Expr) (st : Standing) → Facts W straight n d e before x → Means W straight n d e (record { before = before; expr = x; operand = record { ctype = Int n.kind; standing = st } })

abbrev pub Meant : Setting → Bool → Elaborating Translated → Number → Type 0
Meant W straight t n = (p : Progress) → Gives (t p) (λ r. Means W straight n p.drawn r.1.drawn r.0)

-- it is read already
read_same : {W : Setting} {straight : Bool} {n : Number} {d e : ℕ} {a : Translated} → Means W straight n d e a → (p : Progress) → elab.read a p ≡ Ok (a, p)
read_same {n = n} (means before x st f) p =
    let a : Translated = record { before = before; expr = x; operand = record { ctype = Int n.kind; standing = st } } in
    ap (λ t. (if t && true then elab.pull_read a else pure a) p) f.memory

pub read_meant : {W : Setting} {straight : Bool} {n : Number} {d : ℕ} {a : Translated} (p : Progress) → Means W straight n d p.drawn a → Gives (elab.read a p) (λ r. Means W straight n d r.1.drawn r.0)
read_meant {W} {straight} {n} {d} p h = subst (λ r. Gives r (λ r. Means W straight n d r.1.drawn r.0)) (sym (read_same h p)) (here h)

pub value_meant : (W : Setting) (straight : Bool) (n : Number) (t : Elaborating Translated) → Meant W straight t n → Meant W straight (t >>= elab.read) n
value_meant W straight n t h = λ p. after (t p) (h p) (λ a s q. read_meant s q)

-- typing draws no number
with_tags_gives : {A : Type 0} (P : A → Type 0) (p : Progress) (r : Result (A × Tags) Refusal) → Gives r (λ x. P x.0) → Gives (with_tags p r) (λ y. P y.0 × (y.1.drawn ≡ p.drawn))
with_tags_gives P p (Ok x) h = here (h.holds, refl)
with_tags_gives P p (Err q) h = refused

pub typing_gives : {A : Type 0} (P : A → Type 0) (t : Typing A) (p : Progress) → Gives (t p.tags) (λ x. P x.0) → Gives (typing t p) (λ y. P y.0 × (y.1.drawn ≡ p.drawn))
typing_gives P t p h = with_tags_gives P p (t p.tags) h

-- ---- names

temporary : (W : Setting) (straight : Bool) (x called : List ℕ) (k : IntKind) (st : Standing) (p : Progress) →
    InRange k (W.variables x) → (W.first ≤ p.drawn → (s : Temps) → Holds W.among W.scopes W.variables s → s called ≡ value_as k (W.variables x)) →
    Means W straight (variable (W.variables x) k) p.drawn p.drawn (record { before = []; expr = Temp called (Int k); operand = record { ctype = Int k; standing = st } })
temporary W straight x called k st p r h = means [] (Temp called (Int k)) st (alone W straight (variable (W.variables x) k) p.drawn (Temp called (Int k)) refl refl r (λ l s held. ap Some (h l s held)))

pub named_meant : (W : Setting) (straight : Bool) (i : Identifier) (meaning : Option Meaning) → W.among i.name ≡ true → meaning_of W.scopes i.name ≡ meaning → Has (option_map (variable (W.variables i.name)) (variable_kind meaning)) (Meant W straight (elab.identifier i meaning))
named_meant W straight i (Some (m.Variable called (Int k) kept.Temporary)) w q =
    record { holds = λ p. here (temporary W straight i.name called k standing.Object p (W.ranges i.name called k kept.Temporary w q refl) (λ l s held. (held i.name called k kept.Temporary w q refl).value)) }
named_meant W straight i (Some (m.Variable called (Int k) kept.Parameter)) w q =
    record { holds = λ p. here (temporary W straight i.name called k standing.Parameter p (W.ranges i.name called k kept.Parameter w q refl) (λ l s held. (held i.name called k kept.Parameter w q refl).value)) }
named_meant W straight i (Some (m.Variable called (Int k) kept.Global)) w q = nothing
named_meant W straight i (Some (m.Variable called (Int k) kept.Block)) w q = nothing
named_meant W straight i (Some (m.Variable called t storage)) w q = nothing
named_meant W straight i (Some (m.Type t constant)) w q = nothing
named_meant W straight i (Some (m.Function t)) w q = nothing
named_meant W straight i None w q = nothing

-- ---- constants and sizes

-- the low bits of a number are its bits at a kind of so many
low_bits : (n : ℕ) → n % 2 ^ 32 ≡ repr_of I32 (pos n)
unfolding repr_of
low_bits n = refl

constant_as : (k : IntKind) (n : ℕ) → is_constant_kind k ≡ true → InRange k (pos n) → bits_of k n ≡ value_as k (pos n)
constant_as I8 n h r = absurd (true≢false (sym h))
constant_as U8 n h r = absurd (true≢false (sym h))
constant_as I16 n h r = absurd (true≢false (sym h))
constant_as U16 n h r = absurd (true≢false (sym h))
constant_as I32 n h r = ap Vint (low_bits n)
constant_as U32 n h r = ap Vint (low_bits n)
constant_as I64 n h r = ap Vlong (sym (repr-small I64 n (omega (arith, ints, r.to_greatest))))
constant_as U64 n h r = ap Vlong (sym (repr-small I64 n (omega (arith, ints, r.to_greatest))))

pub literal_meant : (W : Setting) (straight : Bool) (l : Literal) → Has (constant l) (Meant W straight (pure (elab.literal l)))
literal_meant W straight l = by (is_constant_kind l.kind && is_in_range l.kind (pos l.value)) refl
  where
    n : Number
    n = record { kind = l.kind; value = Some (pos l.value) }

    by : (t : Bool) → is_constant_kind l.kind && is_in_range l.kind (pos l.value) ≡ t → Has (if t then Some n else None) (Meant W straight (pure (elab.literal l)))
    by true q =
        let parts = and_parts (is_constant_kind l.kind) (is_in_range l.kind (pos l.value)) q in
        let r = InRange-true l.kind (pos l.value) parts.1 in
        let x = Const (bits_of l.kind l.value) (Int l.kind) in
        record { holds = λ p. here (means [] x (typed.standing_of l.value) (alone W straight n p.drawn x refl refl r (λ _ s held. ap Some (constant_as l.kind l.value parts.0 r)))) }
    by false q = nothing

sized_named : (scopes : Scopes) (place : Place) (n : TypeName) (tags : Tags) → Gives (typed.sized_type scopes place n tags) (λ r. type_named scopes n ≡ Some r.0)
sized_named scopes place n tags =
    after (names.type_named scopes (names.sizeof_site place) n tags) (type_is_named scopes (names.sizeof_site place) n tags) (λ t s h.
    passing (unless (ill_typed place) (has_size s.structs t) s) (λ x u. here h))

from_some : CType → Option CType → CType
from_some t (Some u) = u
from_some t None = t

same_some : (t u : CType) (o : Option CType) → o ≡ Some t → o ≡ Some u → t ≡ u
unfolding from_some
same_some t u o h g = ap (from_some t) (sym h ∙ g)

pub size_meant : (W : Setting) (straight : Bool) (place : Place) (n : TypeName) → Has (option_and_then size_number (option_and_then (size W.structs) (type_named W.scopes n))) (Meant W straight (elab.expression W.scopes (e.SizeOf place n)))
size_meant W straight place n = of_type (type_named W.scopes n) refl
  where
    sized : (t : CType) (c : ℕ) → type_named W.scopes n ≡ Some t → size W.structs t ≡ Some c → c < 2 ^ 64 → Meant W straight (elab.expression W.scopes (e.SizeOf place n)) (record { kind = U64; value = Some (pos c) })
    sized t c h g l = λ p.
        after (typing (typed.sized_type W.scopes place n) p) (typing_gives (λ u. type_named W.scopes n ≡ Some u) (typed.sized_type W.scopes place n) p (sized_named W.scopes place n p.tags)) (λ u s q.
        here (subst (λ d. Means W straight (record { kind = U64; value = Some (pos c) }) d s.drawn (record { before = []; expr = SizeOf u size_type; operand = o.value_of_type size_type })) q.1
        (means [] (SizeOf u size_type) standing.Value (alone W straight (record { kind = U64; value = Some (pos c) }) s.drawn (SizeOf u size_type) refl refl (record { from_least = omega (arith, ints, l); to_greatest = omega (arith, ints, l) })
        (λ _ w held. ap (λ v. option_map Vlong (size W.structs v)) (same_some u t (type_named W.scopes n) q.0 h) ∙ ap (option_map Vlong) g ∙ ap (λ b. Some (Vlong b)) (sym (repr-small I64 c l)))))))

    fits : (t : CType) (c : ℕ) → type_named W.scopes n ≡ Some t → size W.structs t ≡ Some c → (b : Bool) → nat_lt c (2 ^ 64) ≡ b → Has (if b then Some (record { kind = U64; value = Some (pos c) }) else None) (Meant W straight (elab.expression W.scopes (e.SizeOf place n)))
    fits t c h g true l = record { holds = sized t c h g (ltb-true _ _ l) }
    fits t c h g false l = nothing

    of_size : (t : CType) → type_named W.scopes n ≡ Some t → (z : Option ℕ) → size W.structs t ≡ z → Has (option_and_then size_number z) (Meant W straight (elab.expression W.scopes (e.SizeOf place n)))
    of_size t h None g = nothing
    of_size t h (Some c) g = fits t c h g (nat_lt c (2 ^ 64)) refl

    of_type : (z : Option CType) → type_named W.scopes n ≡ z → Has (option_and_then size_number (option_and_then (size W.structs) z)) (Meant W straight (elab.expression W.scopes (e.SizeOf place n)))
    of_type None h = nothing
    of_type (Some t) h = of_size t h (size W.structs t) refl

-- ---- prefixes

minus_meant : {W : Setting} {straight : Bool} {n : Number} {d : ℕ} {a : Translated} (place : Place) (p : Progress) → Means W straight n d p.drawn a → Gives (elab.prefix_operator Minus place a p) (λ r. Means W straight (numbers.on_promoted negation n) d r.1.drawn r.0)
minus_meant {W} {straight} {n} {d} place p (means before x st f) =
    let k = promote n.kind in
    let y = unary_of unary.Neg (into n.kind k x) (Int k) in
    here (subst (λ q. Means W straight (record { kind = q; value = option_and_then (negation q) (option_map (converted q) n.value) }) d p.drawn (record { before = before; expr = y; operand = o.value_of_type (Int k) })) (sym (promotion_is n.kind))
    (means before y standing.Value (modify W straight n (record { kind = k; value = option_and_then (negation k) (option_map (converted k) n.value) }) d p.drawn before x y f refl refl (minus_range k n.value)
    (λ i. ap (λ v. option_and_then (negation k) (option_map (converted k) v)) i) (λ w h. (minus_evals W.structs W.look w x n.kind k n.value (promoted_wide n.kind) h).value))))

complement_meant : {W : Setting} {straight : Bool} {n : Number} {d : ℕ} {a : Translated} (place : Place) (p : Progress) → Means W straight n d p.drawn a → Gives (elab.prefix_operator Complement place a p) (λ r. Means W straight (numbers.on_promoted complement n) d r.1.drawn r.0)
complement_meant {W} {straight} {n} {d} place p (means before x st f) =
    let k = promote n.kind in
    let y = unary_of unary.Complement (into n.kind k x) (Int k) in
    here (subst (λ q. Means W straight (record { kind = q; value = option_and_then (complement q) (option_map (converted q) n.value) }) d p.drawn (record { before = before; expr = y; operand = o.value_of_type (Int k) })) (sym (promotion_is n.kind))
    (means before y standing.Value (modify W straight n (record { kind = k; value = option_and_then (complement k) (option_map (converted k) n.value) }) d p.drawn before x y f refl refl (complemented_range k n.value)
    (λ i. ap (λ v. option_and_then (complement k) (option_map (converted k) v)) i) (λ w h. (complement_evals W.structs W.look w x n.kind k n.value (promoted_wide n.kind) h).value))))

plus_meant : {W : Setting} {straight : Bool} {n : Number} {d : ℕ} {a : Translated} (place : Place) (p : Progress) → Means W straight n d p.drawn a → Gives (elab.prefix_operator Plus place a p) (λ r. Means W straight (numbers.promote n) d r.1.drawn r.0)
plus_meant {W} {straight} {n} {d} place p (means before x st f) =
    let k = promote n.kind in
    let y = into n.kind k x in
    here (subst (λ q. Means W straight (converted_to q n) d p.drawn (record { before = before; expr = y; operand = o.value_of_type (Int k) })) (sym (promotion_is n.kind))
    (means before y standing.Value (modify W straight n (converted_to k n) d p.drawn before x y f (not_memory n.kind k x f.memory) (into_type n.kind k x f.ctype) (kept_range k n.value)
    (λ i. ap (option_map (converted k)) i) (λ w h. (into_evals W.structs W.look w x n.kind k n.value h).value))))

opposite_meant : {W : Setting} {straight : Bool} {n : Number} {d : ℕ} {a : Translated} (place : Place) (p : Progress) → Means W straight n d p.drawn a → Gives (elab.prefix_operator Not place a p) (λ r. Means W straight (numbers.opposite n) d r.1.drawn r.0)
opposite_meant {W} {straight} {n} {d} place p (means before x st f) =
    let k = promote n.kind in
    let y = unary_of unary.Not (into n.kind k x) (Int I32) in
    here (means before y standing.Value (modify W straight n (numbers.opposite n) d p.drawn before x y f refl refl (opposite_range n.value)
    (λ i. ap (option_map (λ z. truth (is_zero z))) i) (λ w h. (opposite_evals W.structs W.look w x n.kind k n.value (promoted_range n.kind n.value f.range) h).value)))

operator_meant : (W : Setting) (straight : Bool) (op : PrefixOp) (place : Place) (t : Elaborating Translated) (n : Number) → Meant W straight t n → Has (c.prefix_operator op n) (Meant W straight (t >>= elab.before_operator op >>= elab.prefix_operator op place))
operator_meant W straight Minus place t n h = record { holds = λ p. after ((t >>= elab.read) p) (value_meant W straight n t h p) (λ a s q. minus_meant place s q) }
operator_meant W straight Plus place t n h = record { holds = λ p. after ((t >>= elab.read) p) (value_meant W straight n t h p) (λ a s q. plus_meant place s q) }
operator_meant W straight Complement place t n h = record { holds = λ p. after ((t >>= elab.read) p) (value_meant W straight n t h p) (λ a s q. complement_meant place s q) }
operator_meant W straight Not place t n h = record { holds = λ p. after ((t >>= elab.read) p) (value_meant W straight n t h p) (λ a s q. opposite_meant place s q) }
operator_meant W straight Dereference place t n h = nothing
operator_meant W straight Address place t n h = nothing

converted_meant : {W : Setting} {straight : Bool} {n : Number} {d : ℕ} {a : Translated} (place : Place) (k : IntKind) (p : Progress) → Means W straight n d p.drawn a → Gives (elab.cast_to place (Int k) a p) (λ r. Means W straight (converted_to k n) d r.1.drawn r.0)
converted_meant {W} {straight} {n} {d} place k p (means before x st f) =
    here (means before (cast_of x (Int k)) standing.Value (modify W straight n (converted_to k n) d p.drawn before x (cast_of x (Int k)) f refl refl (kept_range k n.value)
    (λ i. ap (option_map (converted k)) i) (λ w h. (cast_evals W.structs W.look w x n.kind k n.value h).value)))

-- the type of a cast, and then its operand
abbrev cast_step : Scopes → TypeName → Place → Elaborating Translated → Elaborating Translated
cast_step scopes n place operand = do
  t ← typing (names.type_named scopes (parenthesis place) n)
  operand >>= elab.read >>= elab.cast_to place t

cast_meant : (W : Setting) (straight : Bool) (n : TypeName) (place : Place) (t : Elaborating Translated) (a : Option Number) → Has a (Meant W straight t) →
    Has (option_and_then (λ k. option_map (converted_to k) a) (option_and_then kind_of (type_named W.scopes n))) (Meant W straight (cast_step W.scopes n place t))
cast_meant W straight n place t a h = of_type (type_named W.scopes n) refl
  where
    to_kind : (k : IntKind) → type_named W.scopes n ≡ Some (Int k) → (b : Number) → Meant W straight t b → Meant W straight (cast_step W.scopes n place t) (converted_to k b)
    to_kind k g b f = λ p.
        after (typing (names.type_named W.scopes (parenthesis place) n) p) (typing_gives (λ u. type_named W.scopes n ≡ Some u) (names.type_named W.scopes (parenthesis place) n) p (type_is_named W.scopes (parenthesis place) n p.tags)) (λ u s q.
        after ((t >>= elab.read) s) (value_meant W straight b t f s) (λ x v j.
        subst (λ u. Gives (elab.cast_to place u x v) (λ r. Means W straight (converted_to k b) p.drawn r.1.drawn r.0)) (same_some (Int k) u (type_named W.scopes n) g q.0)
        (converted_meant place k v (subst (λ d. Means W straight b d v.drawn x) q.1 j))))

    of_type : (z : Option CType) → type_named W.scopes n ≡ z → Has (option_and_then (λ k. option_map (converted_to k) a) (option_and_then kind_of z)) (Meant W straight (cast_step W.scopes n place t))
    of_type None g = nothing
    of_type (Some (Int k)) g = some_map (converted_to k) a h (λ b f. to_kind k g b f)
    of_type (Some u) g = nothing

pub prefixed_meant : (W : Setting) (straight : Bool) (prefixes : List Prefix) (t : Elaborating Translated) (a : Option Number) → Has a (Meant W straight t) → Has (c.with_prefixes W.structs W.scopes W.variables prefixes a) (Meant W straight (elab.with_prefixes W.scopes prefixes t))
prefixed_meant W straight [] t a h = h
prefixed_meant W straight (before.Op op place ∷ rest) t a h =
    some_then (c.prefix_operator op) (c.with_prefixes W.structs W.scopes W.variables rest a) (prefixed_meant W straight rest t a h) (λ n f. operator_meant W straight op place (elab.with_prefixes W.scopes rest t) n f)
prefixed_meant W straight (before.Step op place ∷ rest) t a h = nothing
prefixed_meant W straight (before.Cast n place ∷ rest) t a h =
    cast_meant W straight n place (elab.with_prefixes W.scopes rest t) (c.with_prefixes W.structs W.scopes W.variables rest a) (prefixed_meant W straight rest t a h)

-- ---- operators on two operands

abbrev Both : Setting → Bool → Bool → Number → ℕ → ℕ → List Stmt → List Stmt → Expr → CType → Type 0
Both W one two n d e first second z t = Means W (one && two) n d e (record { before = first ++ second; expr = z; operand = o.value_of_type t })

arithmetic_meant : (W : Setting) (one two : Bool) (op : IntOp) → ((k l : IntKind) (a b : ℕ) → i.on_bits op k l a b ≡ i.operate op (i.common k l) a b) → (a b : Number) (c d e : ℕ) (first second : List Stmt) (x y : Expr) → Facts W one a c d first x → Facts W two b d e second y →
    Both W one two (of_kind op (common_kind a.kind b.kind) a b) c e first second (binary_of op (into a.kind (usual a.kind b.kind) x) (into b.kind (usual a.kind b.kind) y) (Int (result_kind op (usual a.kind b.kind)))) (Int (result_kind op (usual a.kind b.kind)))
arithmetic_meant W one two op on a b c d e first second x y f g =
    let k = usual a.kind b.kind in
    let z = binary_of op (into a.kind k x) (into b.kind k y) (Int (result_kind op k)) in
    subst (λ q. Both W one two (of_kind op q a b) c e first second z (Int (result_kind op k))) (sym (common_is a.kind b.kind))
    (means (first ++ second) z standing.Value (fact.joined W one two a b (of_kind op k a b) c d e first second x y z f g refl refl (arithmetic_range op k a.value b.value)
    (λ i. ap (λ u. of_both (operation op k) (option_map (converted k) u) (option_map (converted k) b.value)) i)
    (λ i. ap (λ u. of_both (operation op k) (option_map (converted k) a.value) (option_map (converted k) u)) i ∙ both_none (operation op k) (option_map (converted k) a.value))
    (λ w p q. (arithmetic_evals W.structs W.look w op on x y a.kind b.kind k a.value b.value (usual_wide a.kind b.kind) p q).value)))

-- a shift's amount stays the same when it is promoted, and when it keeps its kind
amount_same : (l : IntKind) (v : Option ℤ) → IfSome v (InRange l) → option_map (converted l) v ≡ option_map (converted (promote l)) v
amount_same l v h = kept_same l v h ∙ sym (kept_same (promote l) v (promoted_range l v h))

shift_number : (IntKind → ℤ → ℤ → Option ℕ) → IntKind → IntKind → Number → Number → Number
shift_number f k l a b = record { kind = k; value = of_both (shift f k) (option_map (converted k) a.value) (option_map (converted l) b.value) }

left_meant : (W : Setting) (one two : Bool) (a b : Number) (c d e : ℕ) (first second : List Stmt) (x y : Expr) → Facts W one a c d first x → Facts W two b d e second y →
    Both W one two (numbers.shifted left_shift a b) c e first second (binary_of Shl (into a.kind (promote a.kind) x) (into b.kind b.kind y) (Int (promote a.kind))) (Int (promote a.kind))
unfolding shift_number
left_meant W one two a b c d e first second x y f g =
    let k = promote a.kind in
    let l = promote b.kind in
    let z = binary_of Shl (into a.kind k x) (into b.kind b.kind y) (Int k) in
    subst (λ (q : IntKind × IntKind). Both W one two (shift_number left_shift q.0 q.1 a b) c e first second z (Int k)) (ap₂ (λ (u v : IntKind). (u, v)) (sym (promotion_is a.kind)) (sym (promotion_is b.kind)))
    (means (first ++ second) z standing.Value (fact.joined W one two a b (shift_number left_shift k l a b) c d e first second x y z f g refl refl (left_range k (option_map (converted k) a.value) (option_map (converted l) b.value))
    (λ i. ap (λ u. of_both (shift left_shift k) (option_map (converted k) u) (option_map (converted l) b.value)) i)
    (λ i. ap (λ u. of_both (shift left_shift k) (option_map (converted k) a.value) (option_map (converted l) u)) i ∙ both_none (shift left_shift k) (option_map (converted k) a.value))
    (λ w p q. (left_evals W.structs W.look w x y a.kind b.kind k a.value b.value (promoted_wide a.kind) p q).value
    ∙ ap (λ u. option_map (value_as k) (of_both (shift left_shift k) (option_map (converted k) a.value) u)) (amount_same b.kind b.value g.range))))

right_meant : (W : Setting) (one two : Bool) (a b : Number) (c d e : ℕ) (first second : List Stmt) (x y : Expr) → Facts W one a c d first x → Facts W two b d e second y →
    Both W one two (numbers.shifted right_shift a b) c e first second (binary_of Shr (into a.kind (promote a.kind) x) (into b.kind b.kind y) (Int (promote a.kind))) (Int (promote a.kind))
unfolding shift_number
right_meant W one two a b c d e first second x y f g =
    let k = promote a.kind in
    let l = promote b.kind in
    let z = binary_of Shr (into a.kind k x) (into b.kind b.kind y) (Int k) in
    subst (λ (q : IntKind × IntKind). Both W one two (shift_number right_shift q.0 q.1 a b) c e first second z (Int k)) (ap₂ (λ (u v : IntKind). (u, v)) (sym (promotion_is a.kind)) (sym (promotion_is b.kind)))
    (means (first ++ second) z standing.Value (fact.joined W one two a b (shift_number right_shift k l a b) c d e first second x y z f g refl refl (right_range k (option_map (converted k) a.value) (option_map (converted l) b.value))
    (λ i. ap (λ u. of_both (shift right_shift k) (option_map (converted k) u) (option_map (converted l) b.value)) i)
    (λ i. ap (λ u. of_both (shift right_shift k) (option_map (converted k) a.value) (option_map (converted l) u)) i ∙ both_none (shift right_shift k) (option_map (converted k) a.value))
    (λ w p q. (right_evals W.structs W.look w x y a.kind b.kind k a.value b.value (promoted_wide a.kind) p q).value
    ∙ ap (λ u. option_map (value_as k) (of_both (shift right_shift k) (option_map (converted k) a.value) u)) (amount_same b.kind b.value g.range))))

pub binary_meant : {W : Setting} {one two : Bool} {m n : Number} {c d : ℕ} {a b : Translated} (op : IntOp) (place : Place) (p : Progress) → Means W one m c d a → Means W two n d p.drawn b → Gives (elab.binary_operator op place a b p) (λ r. Means W (one && two) (numbers.binary op m n) c r.1.drawn r.0)
binary_meant {W} {one} {two} {m} {n} {c} {d} Add place p (means first x st f) (means second y su g) = here (arithmetic_meant W one two Add (λ k l a b. refl) m n c d p.drawn first second x y f g)
binary_meant {W} {one} {two} {m} {n} {c} {d} Sub place p (means first x st f) (means second y su g) = here (arithmetic_meant W one two Sub (λ k l a b. refl) m n c d p.drawn first second x y f g)
binary_meant {W} {one} {two} {m} {n} {c} {d} Mul place p (means first x st f) (means second y su g) = here (arithmetic_meant W one two Mul (λ k l a b. refl) m n c d p.drawn first second x y f g)
binary_meant {W} {one} {two} {m} {n} {c} {d} Div place p (means first x st f) (means second y su g) = here (arithmetic_meant W one two Div (λ k l a b. refl) m n c d p.drawn first second x y f g)
binary_meant {W} {one} {two} {m} {n} {c} {d} Rem place p (means first x st f) (means second y su g) = here (arithmetic_meant W one two Rem (λ k l a b. refl) m n c d p.drawn first second x y f g)
binary_meant {W} {one} {two} {m} {n} {c} {d} And place p (means first x st f) (means second y su g) = here (arithmetic_meant W one two And (λ k l a b. refl) m n c d p.drawn first second x y f g)
binary_meant {W} {one} {two} {m} {n} {c} {d} Or place p (means first x st f) (means second y su g) = here (arithmetic_meant W one two Or (λ k l a b. refl) m n c d p.drawn first second x y f g)
binary_meant {W} {one} {two} {m} {n} {c} {d} Xor place p (means first x st f) (means second y su g) = here (arithmetic_meant W one two Xor (λ k l a b. refl) m n c d p.drawn first second x y f g)
binary_meant {W} {one} {two} {m} {n} {c} {d} Eq place p (means first x st f) (means second y su g) = here (arithmetic_meant W one two Eq (λ k l a b. refl) m n c d p.drawn first second x y f g)
binary_meant {W} {one} {two} {m} {n} {c} {d} Ne place p (means first x st f) (means second y su g) = here (arithmetic_meant W one two Ne (λ k l a b. refl) m n c d p.drawn first second x y f g)
binary_meant {W} {one} {two} {m} {n} {c} {d} Lt place p (means first x st f) (means second y su g) = here (arithmetic_meant W one two Lt (λ k l a b. refl) m n c d p.drawn first second x y f g)
binary_meant {W} {one} {two} {m} {n} {c} {d} Le place p (means first x st f) (means second y su g) = here (arithmetic_meant W one two Le (λ k l a b. refl) m n c d p.drawn first second x y f g)
binary_meant {W} {one} {two} {m} {n} {c} {d} Gt place p (means first x st f) (means second y su g) = here (arithmetic_meant W one two Gt (λ k l a b. refl) m n c d p.drawn first second x y f g)
binary_meant {W} {one} {two} {m} {n} {c} {d} Ge place p (means first x st f) (means second y su g) = here (arithmetic_meant W one two Ge (λ k l a b. refl) m n c d p.drawn first second x y f g)
binary_meant {W} {one} {two} {m} {n} {c} {d} Shl place p (means first x st f) (means second y su g) = here (left_meant W one two m n c d p.drawn first second x y f g)
binary_meant {W} {one} {two} {m} {n} {c} {d} Shr place p (means first x st f) (means second y su g) = here (right_meant W one two m n c d p.drawn first second x y f g)
