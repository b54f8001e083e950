-- Which operands a pointer and an array are, and that an operator that is no other one compares.
use Rattle.std.proofs.Common.{◌≡◌, ℕ, Some, Result, refl, sym, ap, subst, ◌∙◌}
use denote.Hole.Carrier.{hidden}
use Rattle.floyd_text.specs.declared.refusal.RuleStop.{RuleStop}
use Rattle.floyd_text.specs.Gives.{RuleGives}
use Rattle.floyd_int.specs.declared.kinds.IntOp.{IntOp}
use Rattle.floyd_int.specs.declared.kinds.IntOp.TheVariants as c
use Rattle.floyd_ctypes.specs.declared.ctype.CType.{CType, Pointer, Array}
use Rattle.floyd_ctypes.specs.declared.ctype.CType.TheBlock.{shape-the_row-CType-0, hidden-the_row-CType-0}
use Rattle.floyd_tree.specs.Plain.{Plain}
use Rattle.floyd_symexpr_rows.specs.declared.needs.Needs.{Needs}
use Rattle.floyd_symexpr_rows.specs.declared.needs.Number.{Number}
use Rattle.floyd_symexpr_rows.specs.declared.needs.Operand.{Operand}
use Rattle.floyd_symexpr_rows.specs.Rows.{comparison}
use Rattle.floyd_symexpr_pointers.specs.Operators.{address_of, on_one_kind, operand}

of_pointer : (to : CType) (v : Plain) → operand (Pointer to) v ≡ address_of (Some to) v
unfolding shape-the_row-CType-0 hidden-the_row-CType-0 hidden
of_pointer to v = refl

of_array : (element : CType) (n : ℕ) (v : Plain) → operand (Array element n) v ≡ address_of (Some element) v
unfolding shape-the_row-CType-0 hidden-the_row-CType-0 hidden
of_array element n v = refl

pub pointer_gives : {C : Type 0} (view : C → Operand) (x : Result C RuleStop) (t to u : CType) (v : Plain) → t ≡ Pointer to → u ≡ to → RuleGives view x (address_of (Some u) v) → RuleGives view x (operand t v)
pointer_gives view x t to u v is same h =
    subst (RuleGives view x) (ap (λ w. address_of (Some w) v) same ∙ sym (ap (λ w. operand w v) is ∙ of_pointer to v)) h

pub array_gives : {C : Type 0} (view : C → Operand) (x : Result C RuleStop) (t element u : CType) (n : ℕ) (v : Plain) → t ≡ Array element n → u ≡ element → RuleGives view x (address_of (Some u) v) → RuleGives view x (operand t v)
array_gives view x t element u n v is same h =
    subst (RuleGives view x) (ap (λ w. address_of (Some w) v) same ∙ sym (ap (λ w. operand w v) is ∙ of_array element n v)) h

compares : (op : IntOp) (a b : Number) (needs : Needs) →
    (op ≡ c.Add → ⊥) → (op ≡ c.Sub → ⊥) → (op ≡ c.Mul → ⊥) → (op ≡ c.Div → ⊥) → (op ≡ c.Rem → ⊥) → (op ≡ c.And → ⊥) → (op ≡ c.Or → ⊥) → (op ≡ c.Xor → ⊥) →
    comparison op a b needs ≡ on_one_kind op a b needs
compares c.Add a b needs h0 h1 h2 h3 h4 h5 h6 h7 = absurd (h0 refl)
compares c.Sub a b needs h0 h1 h2 h3 h4 h5 h6 h7 = absurd (h1 refl)
compares c.Mul a b needs h0 h1 h2 h3 h4 h5 h6 h7 = absurd (h2 refl)
compares c.Div a b needs h0 h1 h2 h3 h4 h5 h6 h7 = absurd (h3 refl)
compares c.Rem a b needs h0 h1 h2 h3 h4 h5 h6 h7 = absurd (h4 refl)
compares c.And a b needs h0 h1 h2 h3 h4 h5 h6 h7 = absurd (h5 refl)
compares c.Or a b needs h0 h1 h2 h3 h4 h5 h6 h7 = absurd (h6 refl)
compares c.Xor a b needs h0 h1 h2 h3 h4 h5 h6 h7 = absurd (h7 refl)
compares op a b needs h0 h1 h2 h3 h4 h5 h6 h7 = refl

pub comparison_gives : {C : Type 0} (view : C → Plain × Needs) (x : Result C RuleStop) (op : IntOp) (a b : Number) (needs : Needs) →
    (op ≡ c.Add → ⊥) → (op ≡ c.Sub → ⊥) → (op ≡ c.Mul → ⊥) → (op ≡ c.Div → ⊥) → (op ≡ c.Rem → ⊥) → (op ≡ c.And → ⊥) → (op ≡ c.Or → ⊥) → (op ≡ c.Xor → ⊥) →
    RuleGives view x (comparison op a b needs) → RuleGives view x (on_one_kind op a b needs)
comparison_gives view x op a b needs h0 h1 h2 h3 h4 h5 h6 h7 h = subst (RuleGives view x) (compares op a b needs h0 h1 h2 h3 h4 h5 h6 h7) h
