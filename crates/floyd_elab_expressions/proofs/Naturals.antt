-- Statements that stood before what was translated stay before it.
use Rattle.std.proofs.Common.{◌≡◌, ◌+◌, Bool, true, false, ◌&&◌, List, [], ◌∷◌, ◌++◌, refl, ap, sym}
use Rattle.std.specs.Prelude.{Result, Ok, if◌then◌else◌}
use Rattle.std.proofs.lemmas.List.{append_assoc}
use Rattle.floyd_text.specs.declared.place.Place.{Place}
use Rattle.floyd_text.specs.declared.refusal.Refusal.{Refusal}
use Rattle.floyd_int.specs.declared.kinds.IntOp.{IntOp}
use Rattle.floyd_int.specs.declared.kinds.IntOp.TheVariants.{Add}
use Rattle.floyd_ctypes.specs.declared.ctype.CType.{CType}
use Rattle.floyd_cparse_trees.specs.declared.types.Identifier.{Identifier}
use Rattle.floyd_cparse_trees.specs.declared.expressions.MemberOp.{MemberOp}
use Rattle.floyd_cparse_trees.specs.declared.expressions.MemberOp.TheVariants.{Dot, Arrow}
use Rattle.floyd_cparse_trees.specs.declared.expressions.PrefixOp.{PrefixOp}
use Rattle.floyd_cparse_trees.specs.declared.expressions.PrefixOp.TheVariants.{Minus, Plus, Complement, Not, Dereference, Address}
use Rattle.floyd_ctyping.specs.declared.operand.Operand.{Operand}
use Rattle.floyd_elab_names.specs.Refusing.{and_then, pure}
use Rattle.floyd_elab_names.specs.Typing.{Typing}
use Rattle.floyd_elab_names.specs.Types.{is_scalar}
use Rattle.floyd_ctyping.specs.Operators as o
use Rattle.floyd_ctyping.specs.Expressions as t
use Rattle.floyd_clight.specs.declared.syntax.Expr.{Temp}
use Rattle.floyd_clight.specs.declared.syntax.Stmt.{Stmt, Set}
use Rattle.floyd_elab_expressions.specs.declared.progress.Progress.{Progress}
use Rattle.floyd_elab_expressions.specs.Clight.{Translated, deref_of, combine, is_memory, pulled_name}
use Rattle.floyd_elab_expressions.specs.Progress.{Elaborating, typing, pull}
use Rattle.floyd_elab_expressions.specs.Behind.{onto}
use Rattle.floyd_elab_expressions.specs.Expressions.{read, pull_read, before_operator, prefix_operator, cast_to, binary_operator, subscript, before_member, member, nested_refusal}
use Rattle.floyd_elab_expressions.proofs.Chains.{onto_through}

abbrev pub IsNatural : (Translated → Elaborating Translated) → Type 0
IsNatural k = (there : List Stmt) (a : Translated) (p : Progress) → onto there (k a p) ≡ k (record a { before = there ++ a.before }) p

natural_pulled : IsNatural pull_read
natural_pulled there a p =
    let x = pulled_name (p.drawn + 1) in
    let t = a.operand.ctype in
    ap (λ (l : List Stmt). and_then (pull t p) (λ y. pure {S = Progress} (let made : Translated = record { before = l; expr = Temp y t; operand = o.value_of_type t } in made)))
    (sym (append_assoc there a.before (Set x a.expr ∷ [])))

pub natural_read : IsNatural read
natural_read there a p = by (is_memory a.expr && is_scalar a.operand.ctype)
  where
    by : (b : Bool) → onto there ((if b then pull_read a else pure a) p) ≡ (if b then pull_read (record a { before = there ++ a.before }) else pure (record a { before = there ++ a.before })) p
    by true = natural_pulled there a p
    by false = refl

pub natural_before_operator : (op : PrefixOp) → IsNatural (before_operator op)
natural_before_operator Address there a p = refl
natural_before_operator Minus there a p = natural_read there a p
natural_before_operator Plus there a p = natural_read there a p
natural_before_operator Complement there a p = natural_read there a p
natural_before_operator Not there a p = natural_read there a p
natural_before_operator Dereference there a p = natural_read there a p

pub natural_before_member : (op : MemberOp) → IsNatural (before_member op)
natural_before_member Dot there a p = refl
natural_before_member Arrow there a p = natural_read there a p

pub natural_prefix : (op : PrefixOp) (place : Place) → IsNatural (prefix_operator op place)
natural_prefix Minus place there a p = onto_through there (typing (t.prefix_operator Minus place a.operand) p) _ _ (λ r s. refl)
natural_prefix Plus place there a p = onto_through there (typing (t.prefix_operator Plus place a.operand) p) _ _ (λ r s. refl)
natural_prefix Complement place there a p = onto_through there (typing (t.prefix_operator Complement place a.operand) p) _ _ (λ r s. refl)
natural_prefix Not place there a p = onto_through there (typing (t.prefix_operator Not place a.operand) p) _ _ (λ r s. refl)
natural_prefix Dereference place there a p = onto_through there (typing (t.prefix_operator Dereference place a.operand) p) _ _ (λ r s. refl)
natural_prefix Address place there a p = onto_through there (typing (t.prefix_operator Address place a.operand) p) _ _ (λ r s. refl)

pub natural_cast : (place : Place) (u : CType) → IsNatural (cast_to place u)
natural_cast place u there a p = onto_through there (typing (t.cast_to place u a.operand) p) _ _ (λ r s. refl)

pub natural_member : (op : MemberOp) (place : Place) (field : Identifier) → IsNatural (member op place field)
natural_member Dot place field there a p = onto_through there (typing (t.member Dot place field a.operand) p) _ _ (λ r s. refl)
natural_member Arrow place field there a p = onto_through there (typing (t.member Arrow place field a.operand) p) _ _ (λ r s. refl)

pub natural_refused : (of_operand : Operand → Typing Operand) → IsNatural (λ a. nested_refusal (of_operand a.operand) a)
natural_refused of_operand there a p = onto_through there (typing (of_operand a.operand) p) _ _ (λ r s. refl)

-- Of two operands.

abbrev pub ArePlaced : (Translated → Translated → Elaborating Translated) → Type 0
ArePlaced k = ((there : List Stmt) (a b : Translated) (p : Progress) → onto there (k a b p) ≡ k (record a { before = there ++ a.before }) b p)
    × ((a b : Translated) (p : Progress) → k a b p ≡ k (record a { before = [] }) (record b { before = a.before ++ b.before }) p)

pub placed_binary : (op : IntOp) (place : Place) → ArePlaced (binary_operator op place)
placed_binary op place = (
  λ there a b p. onto_through there (typing (t.gives_value place (o.binary_type p.tags.structs op a.operand b.operand)) p) _ _ (λ r s. ap (λ (l : List Stmt). let made : Result (Translated × Progress) Refusal = Ok (record { before = l; expr = combine op a b r.ctype; operand = r }, s) in made) (sym (append_assoc there a.before b.before))),
  λ a b p. refl,
)

pub placed_indexed : (place : Place) → ArePlaced (subscript place)
placed_indexed place = (
  λ there a i p.
      onto_through there (typing (t.gives_value place (o.binary_type p.tags.structs Add a.operand i.operand)) p) _ _ (λ sum q.
      onto_through there (typing (t.gives_object place (o.element_type p.tags.structs a.operand i.operand)) q) _ _ (λ r s.
      ap (λ (l : List Stmt). let made : Result (Translated × Progress) Refusal = Ok (record { before = l; expr = deref_of (combine Add a i sum.ctype) r.ctype; operand = r }, s) in made) (sym (append_assoc there a.before i.before)))),
  λ a i p. refl,
)
