use Rattle.std.proofs.Common.{◌≡◌, nat_le, ◌+◌, ◌-◌, max, ◌&&◌, false, List, get_or, drop, ap, sym, ◌∙◌}
use Rattle.floyd_ctypes.specs.declared.ctype.CType.{CType}
use Rattle.floyd_elab_names.specs.ListClauses.{most_nesting}
use Rattle.floyd_elab_names.specs.Types.{nesting}
use Rattle.floyd_elab_names.proofs.LimitLemmas.{one_less, none_left, both_within, nesting_of_pointer, nesting_of_array, nesting_of_function, next_nested}
use Rattle.floyd_elab_names.proofs.limits.+nested.Goals as goal

pub is_nested_within-returns-then-limit-gt0 : goal.is_nested_within-returns-then-limit-gt0
is_nested_within-returns-then-limit-gt0 t c =
    c.is_nested_within.ensures
    ∙ one_less (nesting c.get.result.now) c.args.limit c.if-limit-gt0.true
    ∙ ap (λ n. nat_le n c.args.limit) (ap (λ u. nesting u + 1) c.get.ensures ∙ sym (ap nesting c.in-Pointer.is ∙ nesting_of_pointer c.in-Pointer.to))

pub is_nested_within-returns-else-limit-gt0 : goal.is_nested_within-returns-else-limit-gt0
is_nested_within-returns-else-limit-gt0 t c =
    none_left (nesting c.in-Pointer.to) c.args.limit c.if-limit-gt0.false
    ∙ ap (λ n. nat_le n c.args.limit) (sym (ap nesting c.in-Pointer.is ∙ nesting_of_pointer c.in-Pointer.to))

pub is_nested_within-returns-then-limit-gt0-2 : goal.is_nested_within-returns-then-limit-gt0-2
is_nested_within-returns-then-limit-gt0-2 t c =
    c.is_nested_within-then-limit-gt0-2.ensures
    ∙ one_less (nesting c.get-then-limit-gt0-2.result.now) c.args.limit c.if-limit-gt0-2.true
    ∙ ap (λ n. nat_le n c.args.limit) (ap (λ u. nesting u + 1) c.get-then-limit-gt0-2.ensures ∙ sym (ap nesting c.in-Array.is ∙ nesting_of_array c.in-Array.element c.in-Array.field-1))

pub is_nested_within-returns-else-limit-gt0-2 : goal.is_nested_within-returns-else-limit-gt0-2
is_nested_within-returns-else-limit-gt0-2 t c =
    none_left (nesting c.in-Array.element) c.args.limit c.if-limit-gt0-2.false
    ∙ ap (λ n. nat_le n c.args.limit) (sym (ap nesting c.in-Array.is ∙ nesting_of_array c.in-Array.element c.in-Array.field-1))

pub is_nested_within-returns-then-limit-gt0-3 : goal.is_nested_within-returns-then-limit-gt0-3
is_nested_within-returns-then-limit-gt0-3 t c =
    let ps = c.in-Function.parameters in
    let r = c.in-Function.result in
    c.are_nested_within.ensures
    ∙ ap (λ (us : List CType). nat_le (max (most_nesting us) (nesting c.get-then-limit-gt0-3.result.now)) (c.args.limit - 1)) c.as_slice.ensures
    ∙ ap (λ u. nat_le (max (most_nesting ps) (nesting u)) (c.args.limit - 1)) c.get-then-limit-gt0-3.ensures
    ∙ one_less (max (most_nesting ps) (nesting r)) c.args.limit c.if-limit-gt0-3.true
    ∙ ap (λ n. nat_le n c.args.limit) (sym (ap nesting c.in-Function.is ∙ nesting_of_function ps r))

pub is_nested_within-returns-else-limit-gt0-3 : goal.is_nested_within-returns-else-limit-gt0-3
is_nested_within-returns-else-limit-gt0-3 t c =
    let ps = c.in-Function.parameters in
    let r = c.in-Function.result in
    none_left (max (most_nesting ps) (nesting r)) c.args.limit c.if-limit-gt0-3.false
    ∙ ap (λ n. nat_le n c.args.limit) (sym (ap nesting c.in-Function.is ∙ nesting_of_function ps r))

pub are_nested_within-returns-then-all_nested_within : goal.are_nested_within-returns-then-all_nested_within
are_nested_within-returns-then-all_nested_within t c =
    c.is_nested_within.ensures
    ∙ ap (λ b. b && nat_le (nesting c.args.t.now) c.args.limit) (sym c.if-all_nested_within.true ∙ c.all_nested_within.ensures)
    ∙ sym (both_within (most_nesting c.args.types.now) (nesting c.args.t.now) c.args.limit)

pub are_nested_within-returns-else-all_nested_within : goal.are_nested_within-returns-else-all_nested_within
are_nested_within-returns-else-all_nested_within t c =
    c.if-all_nested_within.false
    ∙ ap (λ b. b && nat_le (nesting c.args.t.now) c.args.limit) (sym c.if-all_nested_within.false ∙ c.all_nested_within.ensures)
    ∙ sym (both_within (most_nesting c.args.types.now) (nesting c.args.t.now) c.args.limit)

pub all_nested_within-returns-then-not-is_nested_within : goal.all_nested_within-returns-then-not-is_nested_within
all_nested_within-returns-then-not-is_nested_within t c =
    let ts = c.args.types.now in
    let i = c.types.t-index in
    let one : nat_le (nesting (get_or ts i c.t-item.result)) c.args.limit ≡ false =
    sym (ap (λ u. nat_le (nesting u) c.args.limit) c.t-item.is) ∙ sym c.is_nested_within.ensures ∙ c.if-not-is_nested_within.true in
    ap (λ b. b && nat_le (most_nesting (drop (i + 1) ts)) c.args.limit) (sym one)
    ∙ sym (next_nested ts i c.args.limit c.t-item.result c.types-test.true)
    ∙ c.types.invariant
