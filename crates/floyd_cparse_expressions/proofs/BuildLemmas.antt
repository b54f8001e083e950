-- Prefixes and targets, taken from behind.
use Rattle.std.proofs.Common.{◌≡◌, ℕ, zero, suc, ◌<◌, List, [], ◌∷◌, ◌++◌, length, take, get_or, refl, sym, ap, arith}
use Rattle.floyd_cparse_trees.specs.declared.expressions.CExpr.{CExpr}
use Rattle.floyd_cparse_trees.specs.declared.expressions.CExpr.TheVariants as e
use Rattle.floyd_cparse_trees.specs.declared.expressions.Prefix.{Prefix}
use Rattle.floyd_cparse_expressions.specs.declared.values.Ending.{Ending}
use Rattle.floyd_cparse_expressions.specs.declared.values.Target.{Target}
use Rattle.floyd_cparse_expressions.specs.Expressions.{with_prefix, end_with_prefixes, assign_all}

-- the last prefix of those up to one
pub last_prefix : (xs : List Prefix) (n : ℕ) (x : Prefix) (end : Ending) → n < length xs → x ≡ get_or xs n x → end_with_prefixes (take (suc n) xs) end ≡ end_with_prefixes (take n xs) (with_prefix x end)
last_prefix [] n x end within e = absurd (omega arith)
last_prefix (p ∷ xs) zero x end within e = ap (λ (z : Prefix). with_prefix z end) (sym e)
last_prefix (p ∷ xs) (suc n) x end within e = ap (λ (z : Ending). with_prefix p z) (last_prefix xs n x end (omega arith) e)

-- the last target
pub last_target : (xs : List Target) (t : Target) (value : CExpr) → assign_all (xs ++ t ∷ []) value ≡ assign_all xs (e.Assign t.tree t.by.op t.by.place value)
last_target [] t value = refl
last_target (x ∷ xs) t value = ap (λ (z : CExpr). e.Assign x.tree x.by.op x.by.place z) (last_target xs t value)
