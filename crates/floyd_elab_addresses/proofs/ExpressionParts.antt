-- Expressions as the program has them, of whose parts contracts see the values.
use Rattle.std.proofs.Common.{◌≡◌, ℕ, pred, ◌+◌, ◌<◌, Bool, false, ◌&&◌, ◌||◌, List, [], ◌∷◌, length, get_or, drop, slice_get, Option, Some, None, refl, ap, sym, ◌∙◌}
use Rattle.std.proofs.lemmas.List.{drop_more}
use Rattle.std.specs.List.{list_any}
use Rattle.floyd_text.specs.declared.place.Place.{Place}
use Rattle.floyd_cparse_trees.specs.declared.types.Identifier.{Identifier}
use Rattle.floyd_cparse_trees.specs.declared.expressions.BinaryOp.{BinaryOp}
use Rattle.floyd_cparse_trees.specs.declared.expressions.CExpr as e
use Rattle.floyd_cparse_trees.specs.declared.expressions.CExpr.TheBlock.{hidden-the_row-CExpr-0, hidden-the_row-CExpr-1, items_hidden-the_row-CExpr-1}
use Rattle.floyd_cparse_trees.specs.declared.expressions.MemberOp.{MemberOp}
use Rattle.floyd_cparse_trees.specs.declared.expressions.Prefix.{Prefix}
use Rattle.floyd_cparse_trees.specs.declared.expressions.Prefix.TheVariants as before
use Rattle.floyd_cparse_trees.specs.declared.expressions.PrefixOp.TheVariants.{Address}
use Rattle.floyd_cparse_trees.specs.declared.expressions.StepOp.{StepOp}
use denote.Hole.Carrier.{hidden}
use Rattle.floyd_elab_addresses.specs.Addresses.{ends_in_address, is_variable, in_expression, in_arguments}
use Rattle.floyd_elab_addresses.specs.PartClauses.{is_address}
use Rattle.floyd_elab_addresses.proofs.Adding.{or-next}

-- the prefix that binds first is the last
last_is : (p : Prefix) → ends_in_address (p ∷ []) ≡ is_address p
last_is (before.Op Address place) = refl
last_is p = refl

more_before : (p q : Prefix) (ps : List Prefix) → ends_in_address (p ∷ q ∷ ps) ≡ ends_in_address (q ∷ ps)
more_before (before.Op Address place) q ps = refl
more_before p q ps = refl

abbrev pub is_address_in : Option Prefix → Bool
is_address_in None = false
is_address_in (Some p) = is_address p

pub ends-last : (ps : List Prefix) → ends_in_address ps ≡ is_address_in (slice_get ps (pred (length ps)))
ends-last [] = refl
ends-last (p ∷ []) = last_is p
ends-last (p ∷ q ∷ ps) = more_before p q ps ∙ ends-last (q ∷ ps)

-- a list, one more of which was looked at
pub any_next : (p : e.CExpr → Bool) (all : List e.CExpr) (i : ℕ) (one : e.CExpr) (s t u : Bool) → i < length all → one ≡ get_or all i one → t ≡ (p one || s)
    → (list_any p (drop i all) || s) ≡ u → (list_any p (drop (i + 1) all) || t) ≡ u
any_next p all i one s t u within is next before_it =
    ap (λ v. list_any p (drop (i + 1) all) || v) next
    ∙ or-next (p one) (list_any p (drop (i + 1) all)) s
    ∙ sym (ap (λ v. list_any p v || s)
    (drop_more all i one within ∙ ap (λ v. v ∷ drop (i + 1) all) (sym is)))
    ∙ before_it

module _ (x : List ℕ) where
  pub is_variable-parenthesised : (inner : e.CExpr) → is_variable x (e.Parenthesised inner) ≡ is_variable x inner
  unfolding hidden-the_row-CExpr-0 hidden
  is_variable-parenthesised inner = refl

  pub in-parenthesised : (inner : e.CExpr) → in_expression x (e.Parenthesised inner) ≡ in_expression x inner
  unfolding hidden-the_row-CExpr-0 hidden
  in-parenthesised inner = refl

  pub in-prefixed : (prefixes : List Prefix) (operand : e.CExpr) → in_expression x (e.Prefixed prefixes operand) ≡ (ends_in_address prefixes && is_variable x operand || in_expression x operand)
  unfolding hidden-the_row-CExpr-0 hidden
  in-prefixed prefixes operand = refl

  pub in-postfix : (operand : e.CExpr) (op : StepOp) (place : Place) → in_expression x (e.PostfixStep operand op place) ≡ in_expression x operand
  unfolding hidden-the_row-CExpr-0 hidden
  in-postfix operand op place = refl

  pub in-index : (array : e.CExpr) (place : Place) (index : e.CExpr) → in_expression x (e.Index array place index) ≡ (in_expression x array || in_expression x index)
  unfolding hidden-the_row-CExpr-0 hidden
  in-index array place index = refl

  pub in-arguments : {m : _} (row : e.Row_of-CExpr m) → in_arguments x row ≡ list_any (in_expression x) (e.items-the_row-CExpr m row)
  in-arguments e.end_of-CExpr = refl
  in-arguments (e.more_of-CExpr argument rest) = ap (λ b. in_expression x argument || b) (in-arguments rest)

  pub in-call : (function : e.CExpr) (place : Place) (arguments : List e.CExpr) → in_expression x (e.Call function place arguments) ≡ (in_expression x function || list_any (in_expression x) arguments)
  unfolding hidden-the_row-CExpr-0 hidden
  in-call function place arguments =
      ap (λ b. in_expression x function || b)
      (in-arguments (hidden-the_row-CExpr-1 arguments) ∙ ap (list_any (in_expression x)) (items_hidden-the_row-CExpr-1 arguments))

  pub in-member : (operand : e.CExpr) (op : MemberOp) (place : Place) (field : Identifier) → in_expression x (e.Member operand op place field) ≡ in_expression x operand
  unfolding hidden-the_row-CExpr-0 hidden
  in-member operand op place field = refl

  pub in-binary : (left : e.CExpr) (op : BinaryOp) (place : Place) (right : e.CExpr) → in_expression x (e.Binary left op place right) ≡ (in_expression x left || in_expression x right)
  unfolding hidden-the_row-CExpr-0 hidden
  in-binary left op place right = refl

  pub in-conditional : (test : e.CExpr) (place : Place) (then_part else_part : e.CExpr) → in_expression x (e.Conditional test place then_part else_part) ≡ (in_expression x test || in_expression x then_part || in_expression x else_part)
  unfolding hidden-the_row-CExpr-0 hidden
  in-conditional test place then_part else_part = refl

  pub in-assign : (target : e.CExpr) (op : _) (place : Place) (value : e.CExpr) → in_expression x (e.Assign target op place value) ≡ (in_expression x target || in_expression x value)
  unfolding hidden-the_row-CExpr-0 hidden
  in-assign target op place value = refl

-- the same of parts that were taken out of an expression
module _ (x : List ℕ) (whole : e.CExpr) where
  pub one_part : (part got : e.CExpr) → in_expression x whole ≡ in_expression x part → got ≡ part → in_expression x whole ≡ in_expression x got
  one_part part got is g = is ∙ sym (ap (in_expression x) g)

  pub two_parts : (first second f s : e.CExpr) → in_expression x whole ≡ (in_expression x first || in_expression x second) → f ≡ first → s ≡ second
      → in_expression x whole ≡ (in_expression x f || in_expression x s)
  two_parts first second f s is g h =
      is ∙ sym (ap (λ u. in_expression x u || in_expression x s) g ∙ ap (λ u. in_expression x first || in_expression x u) h)

  pub three_parts : (place : Place) (test then_part else_part t a b : e.CExpr) → whole ≡ e.Conditional test place then_part else_part → t ≡ test → a ≡ then_part → b ≡ else_part
      → in_expression x whole ≡ (in_expression x t || in_expression x a || in_expression x b)
  three_parts place test then_part else_part t a b is f g h =
      ap (in_expression x) is
      ∙ in-conditional x test place then_part else_part
      ∙ sym (ap (λ u. in_expression x u || in_expression x a || in_expression x b) f
      ∙ ap (λ u. in_expression x test || in_expression x u || in_expression x b) g
      ∙ ap (λ u. in_expression x test || in_expression x then_part || in_expression x u) h)

  pub prefixed_parts : (prefixes ps : List Prefix) (operand o p : e.CExpr) → whole ≡ e.Prefixed prefixes operand → ps ≡ prefixes → o ≡ operand → p ≡ operand
      → in_expression x whole ≡ (ends_in_address ps && is_variable x o || in_expression x p)
  prefixed_parts prefixes ps operand o p is f g h =
      ap (in_expression x) is
      ∙ in-prefixed x prefixes operand
      ∙ sym (ap (λ u. ends_in_address u && is_variable x o || in_expression x p) f
      ∙ ap (λ u. ends_in_address prefixes && is_variable x u || in_expression x p) g
      ∙ ap (λ u. ends_in_address prefixes && is_variable x operand || in_expression x u) h)

  pub call_parts : (place : Place) (function f : e.CExpr) (arguments given : List e.CExpr) → whole ≡ e.Call function place arguments → f ≡ function → given ≡ arguments
      → in_expression x whole ≡ (in_expression x f || list_any (in_expression x) given)
  call_parts place function f arguments given is g h =
      ap (in_expression x) is
      ∙ in-call x function place arguments
      ∙ sym (ap (λ u. in_expression x u || list_any (in_expression x) given) g ∙ ap (λ u. in_expression x function || list_any (in_expression x) u) h)
