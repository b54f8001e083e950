-- Local variables that are given back, and postconditions of values.
use Rattle.std.proofs.Common.{◌≡◌, ℕ, ◌+◌, ◌<◌, List, ◌∷◌, drop, length, get_or, Option, Some, Result, Ok, sym, ap, ◌∙◌, subst}
use Rattle.std.specs.Prelude.{remove, position}
use Rattle.std.proofs.lemmas.List.{drop_more}
use Rattle.floyd_text.specs.declared.refusal.RuleStop.{RuleStop}
use Rattle.floyd_text.specs.Gives.{RuleGives, RuleStops}
use Rattle.floyd_clight.specs.declared.unit.Local.{Local}
use Rattle.floyd_tree_sorts.specs.declared.heads.Head.TheVariants.{Lv}
use Rattle.floyd_tree.specs.Plain.{Plain, At, Done}
use Rattle.floyd_assert_trees.specs.declared.assertion.Assertion.{Assertion}
use Rattle.floyd_assert_trees.specs.declared.sep.Sep.{Sep}
use Rattle.floyd_fieldpath.specs.Nested.{sized_type}
use Rattle.floyd_fieldpath.specs.Written.{on_ok}
use Rattle.floyd_symexpr_rows.proofs.SayingLemmas.{stops}
use Rattle.floyd_forward.specs.declared.blocks.Whole.{Whole}
use Rattle.floyd_forward.specs.Return.{is_whole, of_value, returned, without_at, without_block, without_blocks}

-- the object of a variable is taken out
pub taken_out : (b : Local) (parts seen left : List Sep) (w : Whole) (i : ℕ) → w ≡ record { ty = sized_type b.ctype; root = At (Lv b.name) Done } → seen ≡ parts → Some i ≡ position (is_whole w.ty w.root) seen → left ≡ remove parts i → without_block b parts ≡ Ok left
taken_out b parts seen left w i e f h is =
    ap (without_at b.name parts) (sym (h ∙ ap (λ ps. position (is_whole w.ty w.root) ps) f ∙ ap (λ (o : Whole). position (is_whole o.ty o.root) parts) e)) ∙ ap Ok (sym is)

next_block : (blocks : List Local) (i : ℕ) (b : Local) → i < length blocks → b ≡ get_or blocks i b → drop i blocks ≡ b ∷ drop (i + 1) blocks
next_block blocks i b within is = drop_more blocks i b within ∙ ap (λ y. y ∷ drop (i + 1) blocks) (sym is)

pub block_more : (blocks : List Local) (i : ℕ) (b : Local) (left parts : List Sep) → i < length blocks → b ≡ get_or blocks i b → without_block b left ≡ Ok parts → without_blocks (drop (i + 1) blocks) parts ≡ without_blocks (drop i blocks) left
block_more blocks i b left parts within is e =
    sym (ap (λ bs. without_blocks bs left) (next_block blocks i b within is) ∙ ap (λ d. on_ok d (without_blocks (drop (i + 1) blocks))) e)

pub block_stops : (blocks : List Local) (i : ℕ) (b : Local) (left : List Sep) (stop : RuleStop) → i < length blocks → b ≡ get_or blocks i b → RuleStops stop (without_block b left) → RuleStops stop (without_blocks (drop i blocks) left)
block_stops blocks i b left stop within is h =
    subst (λ bs. RuleStops stop (without_blocks bs left)) (sym (next_block blocks i b within is)) (stops stop (without_block b left) (without_blocks (drop (i + 1) blocks)) h)

-- the postcondition of a value that is RETURN's term
pub value_returned : (o : Option Plain) (v : Plain) (post seen : Assertion) (value : Option Plain) (t : Plain) (x : Result Assertion RuleStop) → o ≡ Some v → seen ≡ post → value ≡ Some t → RuleGives (λ b. b) x (of_value v seen t) → RuleGives (λ b. b) x (returned o post value)
value_returned o v post seen value t x e f h g =
    subst (λ u. RuleGives (λ b. b) x (returned u post value)) (sym e)
    (subst (λ u. RuleGives (λ b. b) x (returned (Some v) post u)) (sym h) (subst (λ (a : Assertion). RuleGives (λ b. b) x (of_value v a t)) f g))
