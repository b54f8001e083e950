-- Products and sums of whole numbers.
use Rattle.std.proofs.Common.{◌≡◌, zero, suc, ℤ, pos, negsuc, neg_ℤ, ◌+ℤ◌, ◌-ℤ◌, ◌*ℤ◌, sym, ap, ◌∙◌, arith}
use Rattle.std.proofs.lemmas.Int.{ints}
use Rattle.std.proofs.Math.IntN.{*ℤ_comm, zero-*ℤ, suc_ℤ-*ℤ, pred_ℤ-*ℤ, suc_ℤ-+ℤ, pred_ℤ-+ℤ, suc_ℤ, pred_ℤ}

-- one more and one less on the left
next : (m n k : ℤ) → (m +ℤ n) *ℤ k ≡ m *ℤ k +ℤ n *ℤ k → (suc_ℤ m +ℤ n) *ℤ k ≡ suc_ℤ m *ℤ k +ℤ n *ℤ k
next m n k e =
    let moved = suc_ℤ-+ℤ m n in
    ap (λ z. z *ℤ k) moved ∙ suc_ℤ-*ℤ (m +ℤ n) k ∙ ap (λ z. z +ℤ k) e ∙ swapped (m *ℤ k) (n *ℤ k) k ∙ ap (λ z. z +ℤ n *ℤ k) (sym (suc_ℤ-*ℤ m k))
  where
    swapped : (a b c : ℤ) → (a +ℤ b) +ℤ c ≡ (a +ℤ c) +ℤ b
    swapped a b c = omega (arith, ints)

before : (m n k : ℤ) → (m +ℤ n) *ℤ k ≡ m *ℤ k +ℤ n *ℤ k → (pred_ℤ m +ℤ n) *ℤ k ≡ pred_ℤ m *ℤ k +ℤ n *ℤ k
before m n k e =
    let moved = pred_ℤ-+ℤ m n in
    ap (λ z. z *ℤ k) moved ∙ pred_ℤ-*ℤ (m +ℤ n) k ∙ ap (λ z. z -ℤ k) e ∙ swapped (m *ℤ k) (n *ℤ k) k ∙ ap (λ z. z +ℤ n *ℤ k) (sym (pred_ℤ-*ℤ m k))
  where
    swapped : (a b c : ℤ) → (a +ℤ b) -ℤ c ≡ (a -ℤ c) +ℤ b
    swapped a b c = omega (arith, ints)

nothing : (n k : ℤ) → (pos 0 +ℤ n) *ℤ k ≡ pos 0 *ℤ k +ℤ n *ℤ k
nothing n k =
    let left : pos 0 +ℤ n ≡ n = omega (arith, ints) in
    let right : pos 0 *ℤ k ≡ pos 0 = zero-*ℤ k in
    ap (λ z. z *ℤ k) left ∙ added (n *ℤ k) ∙ ap (λ z. z +ℤ n *ℤ k) (sym right)
  where
    added : (a : ℤ) → a ≡ pos 0 +ℤ a
    added a = omega (arith, ints)

-- a sum times a number
pub sum_times : (m n k : ℤ) → (m +ℤ n) *ℤ k ≡ m *ℤ k +ℤ n *ℤ k
sum_times (pos zero) n k = nothing n k
sum_times (pos (suc j)) n k = next (pos j) n k (sum_times (pos j) n k)
sum_times (negsuc zero) n k = before (pos 0) n k (nothing n k)
sum_times (negsuc (suc j)) n k = before (negsuc j) n k (sum_times (negsuc j) n k)

pub times_sum : (k m n : ℤ) → k *ℤ (m +ℤ n) ≡ k *ℤ m +ℤ k *ℤ n
times_sum k m n =
    *ℤ_comm k (m +ℤ n) ∙ sum_times m n k ∙ ap (λ z. z +ℤ n *ℤ k) (*ℤ_comm m k) ∙ ap (λ z. k *ℤ m +ℤ z) (*ℤ_comm n k)

pub minus_one_times : (k : ℤ) → negsuc 0 *ℤ k ≡ neg_ℤ k
minus_one_times k =
    let right : pos 0 *ℤ k ≡ pos 0 = zero-*ℤ k in
    pred_ℤ-*ℤ (pos 0) k ∙ ap (λ z. z -ℤ k) right ∙ less k
  where
    less : (a : ℤ) → pos 0 -ℤ a ≡ neg_ℤ a
    less a = omega (arith, ints)

pub negative_times : (n k : ℤ) → neg_ℤ n *ℤ k ≡ neg_ℤ (n *ℤ k)
negative_times n k =
    let zero_is : n +ℤ neg_ℤ n ≡ pos 0 = omega (arith, ints) in
    let both : pos 0 ≡ n *ℤ k +ℤ neg_ℤ n *ℤ k = sym (zero-*ℤ k) ∙ ap (λ z. z *ℤ k) (sym zero_is) ∙ sum_times n (neg_ℤ n) k in
    alone (n *ℤ k) (neg_ℤ n *ℤ k) both
  where
    alone : (a b : ℤ) → pos 0 ≡ a +ℤ b → b ≡ neg_ℤ a
    alone a b e = omega (arith, ints)

less_times : (m n k : ℤ) → (m -ℤ n) *ℤ k ≡ m *ℤ k -ℤ n *ℤ k
less_times m n k =
    let added : m -ℤ n ≡ m +ℤ neg_ℤ n = omega (arith, ints) in
    ap (λ z. z *ℤ k) added ∙ sum_times m (neg_ℤ n) k ∙ ap (λ z. m *ℤ k +ℤ z) (negative_times n k) ∙ taken (m *ℤ k) (n *ℤ k)
  where
    taken : (a b : ℤ) → a +ℤ neg_ℤ b ≡ a -ℤ b
    taken a b = omega (arith, ints)

-- a product times a number
pub product_times : (m n k : ℤ) → (m *ℤ n) *ℤ k ≡ m *ℤ (n *ℤ k)
product_times (pos zero) n k = ap (λ z. z *ℤ k) (zero-*ℤ n) ∙ zero-*ℤ k ∙ sym (zero-*ℤ (n *ℤ k))
product_times (pos (suc j)) n k =
    ap (λ z. z *ℤ k) (suc_ℤ-*ℤ (pos j) n) ∙ sum_times (pos j *ℤ n) n k ∙ ap (λ z. z +ℤ n *ℤ k) (product_times (pos j) n k) ∙ sym (suc_ℤ-*ℤ (pos j) (n *ℤ k))
product_times (negsuc zero) n k =
    ap (λ z. z *ℤ k) (minus_one_times n) ∙ negative_times n k ∙ sym (minus_one_times (n *ℤ k))
product_times (negsuc (suc j)) n k =
    ap (λ z. z *ℤ k) (pred_ℤ-*ℤ (negsuc j) n) ∙ less_times (negsuc j *ℤ n) n k ∙ ap (λ z. z -ℤ n *ℤ k) (product_times (negsuc j) n k) ∙ sym (pred_ℤ-*ℤ (negsuc j) (n *ℤ k))
