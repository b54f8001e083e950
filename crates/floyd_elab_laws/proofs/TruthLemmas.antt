-- Comparisons and `!` give 0 or 1 of type int.
use Rattle.std.proofs.Common.{◌≡◌, ℕ, Bool, true, not, ℤ, List, ◌∷◌, Option, Some, None, refl, sym, ◌∙◌, ap, subst, true≢false}
use Rattle.std.specs.Int.{from_bool}
use Rattle.std.specs.Ordering.{int_eq}
use Rattle.std.specs.Prelude.{IfSome, option_map, int_lt, int_le}
use Rattle.floyd_int.specs.declared.kinds.IntKind.{IntKind}
use Rattle.floyd_int.specs.declared.kinds.IntKind.TheVariants.{I32}
use Rattle.floyd_int.specs.declared.kinds.IntOp.{IntOp}
use Rattle.floyd_int.specs.declared.kinds.IntOp.TheVariants.{Add, Sub, Mul, Div, Rem, And, Or, Xor, Shl, Shr, Eq, Ne, Lt, Le, Gt, Ge}
use Rattle.floyd_int.specs.Kind.{value_of, repr_of}
use Rattle.floyd_int.specs.Operation.{operation_of, is_comparison}
use Rattle.floyd_ctypes.specs.Structs.{Structs}
use Rattle.floyd_cparse_trees.specs.declared.expressions.CExpr as e
use Rattle.floyd_cparse_trees.specs.declared.expressions.BinaryOp.TheVariants as binary
use Rattle.floyd_cparse_trees.specs.declared.expressions.Prefix.{Prefix}
use Rattle.floyd_cparse_trees.specs.declared.expressions.Prefix.TheVariants as before
use Rattle.floyd_cparse_trees.specs.declared.expressions.PrefixOp.TheVariants.{Not}
use Rattle.floyd_elab_names.specs.Scopes.{Scopes}
use Rattle.floyd_elab_expressions.specs.Clight.{is_truth, begins_with_not}
use Rattle.floyd_elab_laws.specs.Conversions.{converted, common_kind}
use Rattle.floyd_elab_laws.specs.Numbers.{Number, of_both, truth, is_zero, operation, of_kind, opposite}
use Rattle.floyd_elab_laws.specs.Numbers as numbers
use Rattle.floyd_elab_laws.specs.CMeaning.{with_prefixes, number, joined}
use Rattle.floyd_elab_laws.specs.CMeaning as c
use Rattle.floyd_elab_laws.proofs.GivesLemmas.{Has, some_then, some_map, anything}
use Rattle.floyd_elab_laws.proofs.BranchLemmas.{IsTruth, truth_again, truth_value}

-- a value that is 0 or 1
abbrev IsBit : ℤ → Type 0
IsBit z = z ≡ truth (not (is_zero z))

bit_of : (t : Bool) (o : Option ℤ) → o ≡ Some (truth t) → IfSome o IsBit
bit_of t o h = subst (λ o. IfSome o IsBit) (sym h) (truth_again t)

both_bits : (f : ℤ → ℤ → Option ℤ) (u v : Option ℤ) → ((x y : ℤ) → IfSome (f x y) IsBit) → IfSome (of_both f u v) IsBit
both_bits f None v h = tt
both_bits f (Some x) None h = tt
both_bits f (Some x) (Some y) h = h x y

-- what a comparison's operation gives, where its bits are those of a test
abbrev Tests : IntOp → Type 0
Tests op = (k : IntKind) (a b : ℕ) → (t : Bool) × (operation_of op k a b ≡ Some (from_bool t))

test_eq : Tests Eq
unfolding operation_of
test_eq k a b = (int_eq (value_of k a) (value_of k b), refl)

test_ne : Tests Ne
unfolding operation_of
test_ne k a b = (not (int_eq (value_of k a) (value_of k b)), refl)

test_lt : Tests Lt
unfolding operation_of
test_lt k a b = (int_lt (value_of k a) (value_of k b), refl)

test_le : Tests Le
unfolding operation_of
test_le k a b = (int_le (value_of k a) (value_of k b), refl)

test_gt : Tests Gt
unfolding operation_of
test_gt k a b = (int_lt (value_of k b) (value_of k a), refl)

test_ge : Tests Ge
unfolding operation_of
test_ge k a b = (int_le (value_of k b) (value_of k a), refl)

comparison_bits : (op : IntOp) → Tests op → (k : IntKind) (u v : Option ℤ) → IfSome (of_both (λ x y. option_map (value_of I32) (operation_of op k (repr_of k x) (repr_of k y))) u v) IsBit
comparison_bits op f k u v =
    both_bits (λ x y. option_map (value_of I32) (operation_of op k (repr_of k x) (repr_of k y))) u v (λ x y.
    let t = f k (repr_of k x) (repr_of k y) in
    bit_of t.0 (option_map (value_of I32) (operation_of op k (repr_of k x) (repr_of k y))) (ap (option_map (value_of I32)) t.1 ∙ ap Some (truth_value t.0)))

compared : (op : IntOp) → is_comparison op ≡ true → (a b : Number) → IsTruth (numbers.binary op a b)
compared Add h a b = absurd (true≢false (sym h))
compared Sub h a b = absurd (true≢false (sym h))
compared Mul h a b = absurd (true≢false (sym h))
compared Div h a b = absurd (true≢false (sym h))
compared Rem h a b = absurd (true≢false (sym h))
compared And h a b = absurd (true≢false (sym h))
compared Or h a b = absurd (true≢false (sym h))
compared Xor h a b = absurd (true≢false (sym h))
compared Shl h a b = absurd (true≢false (sym h))
compared Shr h a b = absurd (true≢false (sym h))
compared Eq h a b = let k = common_kind a.kind b.kind in record { kind = refl; value = comparison_bits Eq test_eq k (option_map (converted k) a.value) (option_map (converted k) b.value) }
compared Ne h a b = let k = common_kind a.kind b.kind in record { kind = refl; value = comparison_bits Ne test_ne k (option_map (converted k) a.value) (option_map (converted k) b.value) }
compared Lt h a b = let k = common_kind a.kind b.kind in record { kind = refl; value = comparison_bits Lt test_lt k (option_map (converted k) a.value) (option_map (converted k) b.value) }
compared Le h a b = let k = common_kind a.kind b.kind in record { kind = refl; value = comparison_bits Le test_le k (option_map (converted k) a.value) (option_map (converted k) b.value) }
compared Gt h a b = let k = common_kind a.kind b.kind in record { kind = refl; value = comparison_bits Gt test_gt k (option_map (converted k) a.value) (option_map (converted k) b.value) }
compared Ge h a b = let k = common_kind a.kind b.kind in record { kind = refl; value = comparison_bits Ge test_ge k (option_map (converted k) a.value) (option_map (converted k) b.value) }

opposite_bits : (v : Option ℤ) → IfSome (option_map (λ z. truth (is_zero z)) v) IsBit
opposite_bits None = tt
opposite_bits (Some z) = truth_again (is_zero z)

prefix_truth : (structs : Structs) (scopes : Scopes) (variables : List ℕ → ℤ) (prefixes : List Prefix) (a : Option Number) → begins_with_not prefixes ≡ true → Has (with_prefixes structs scopes variables prefixes a) IsTruth
prefix_truth structs scopes variables (before.Op Not place ∷ rest) a h =
    some_then (c.prefix_operator Not) (with_prefixes structs scopes variables rest a) (anything (with_prefixes structs scopes variables rest a)) (λ n _. record { holds = record { kind = refl; value = opposite_bits n.value } })
prefix_truth structs scopes variables prefixes a h = absurd (true≢false (sym h))

-- what is a test as it is written has a truth value
pub truths : (structs : Structs) (scopes : Scopes) (variables : List ℕ → ℤ) (c : e.CExpr) → is_truth c ≡ true → Has (number structs scopes variables c) IsTruth
truths structs scopes variables (e.Parenthesised' p (e.more_of-CExpr inner e.end_of-CExpr)) h = truths structs scopes variables inner h
truths structs scopes variables (e.Prefixed' prefixes p (e.more_of-CExpr operand e.end_of-CExpr)) h = prefix_truth structs scopes variables prefixes (number structs scopes variables operand) h
truths structs scopes variables (e.Binary' p (e.more_of-CExpr left e.end_of-CExpr) (binary.Int op) place q (e.more_of-CExpr right e.end_of-CExpr)) h =
    some_then (λ a. option_map (joined (binary.Int op) a) (number structs scopes variables right)) (number structs scopes variables left) (anything (number structs scopes variables left)) (λ a _.
    some_map (joined (binary.Int op) a) (number structs scopes variables right) (anything (number structs scopes variables right)) (λ b _. compared op h a b))
truths structs scopes variables (e.Binary' p left binary.And place q right) h = absurd (true≢false (sym h))
truths structs scopes variables (e.Binary' p left binary.Or place q right) h = absurd (true≢false (sym h))
truths structs scopes variables (e.Name i) h = absurd (true≢false (sym h))
truths structs scopes variables (e.Literal l) h = absurd (true≢false (sym h))
truths structs scopes variables (e.SizeOf place n) h = absurd (true≢false (sym h))
truths structs scopes variables (e.PostfixStep' p operand op place) h = absurd (true≢false (sym h))
truths structs scopes variables (e.Index' p array place q index) h = absurd (true≢false (sym h))
truths structs scopes variables (e.Call' p function place shape arguments) h = absurd (true≢false (sym h))
truths structs scopes variables (e.Member' p operand op place field) h = absurd (true≢false (sym h))
truths structs scopes variables (e.Conditional' p test place q then_part r else_part) h = absurd (true≢false (sym h))
truths structs scopes variables (e.Assign' p target op place q value) h = absurd (true≢false (sym h))
