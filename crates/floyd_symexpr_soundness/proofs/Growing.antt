-- What an expression needs stands behind what was needed before.
use Rattle.std.proofs.Common.{◌≡◌, Bool, true, false, List, [], ◌∷◌, ◌++◌, Result, Ok, sym, ap, subst, ◌∙◌, if◌then◌else◌}
use Rattle.std.proofs.lemmas.List.{append-nil, append_assoc}
use Rattle.floyd_text.specs.declared.refusal.No.{No}
use Rattle.floyd_int.specs.declared.kinds.IntOp.{IntOp}
use Rattle.floyd_ctypes.specs.declared.ctype.CType.{CType}
use Rattle.floyd_ctypes.specs.Structs.{Structs}
use Rattle.floyd_clight.specs.declared.syntax.UnaryOp.{UnaryOp}
use Rattle.floyd_clight_machine.specs.Evaluation.{Look}
use Rattle.floyd_tree.specs.Plain.{Plain}
use Rattle.floyd_tree_values.specs.BuiltIns.{Env}
use Rattle.floyd_tree_values.specs.Means.{Defs}
use Rattle.floyd_truth.specs.Truth.{AllTrue}
use Rattle.floyd_assert_trees.specs.declared.assertion.Assertion.{Assertion}
use Rattle.floyd_assert_trees.specs.declared.sep.Sep.{Sep}
use Rattle.floyd_assert_meaning.specs.Settings.{Setting}
use Rattle.floyd_fieldpath.specs.Written.{on_ok}
use Rattle.floyd_symexpr_rows.specs.declared.needs.Needs.{Needs}
use Rattle.floyd_symexpr_rows.specs.Rows.{null}
use Rattle.floyd_symexpr_pointers.specs.Operators.{binary, cast, operand, unary}
use Rattle.floyd_symexpr_laws.proofs.SideTruths.{all_true_first}
use Rattle.floyd_symexpr_laws.proofs.TermMeanings.{ok_parts}
use Rattle.floyd_symexpr_pointer_laws.specs.Laws.{AllValid, Begins, IsMet}
use Rattle.floyd_symexpr_pointer_laws.proofs.Growth.{of_binary, of_cast, of_unary}
use Rattle.floyd_symexpr.specs.Expressions.{given, operated_cast, operated_one, operated_two}

ok_same : {A : Type 0} (x y : A) → ◌≡◌ {A = Result A No} (Ok x) (Ok y) → x ≡ y
ok_same x y e = cc

-- what was answered, and what is needed
pub same_term : (t u : Plain) (n m : Needs) → ◌≡◌ {A = Result (Plain × Needs) No} (Ok (t, n)) (Ok (u, m)) → t ≡ u
same_term t u n m e = ap (λ (p : Plain × Needs). p.0) (ok_same {A = Plain × Needs} (t, n) (u, m) e)

pub same_need : (t u : Plain) (n m : Needs) → ◌≡◌ {A = Result (Plain × Needs) No} (Ok (t, n)) (Ok (u, m)) → n ≡ m
same_need t u n m e = ap (λ (p : Plain × Needs). p.1) (ok_same {A = Plain × Needs} (t, n) (u, m) e)

pub begins_itself : (needs : Needs) → Begins needs needs
begins_itself needs = record { sides = []; valid = []; all_sides = sym (append-nil needs.sides); all_valid = sym (append-nil needs.valid) }

pub begins_on : (a b c : Needs) → Begins a b → Begins b c → Begins a c
begins_on a b c p q =
    record {
      sides = p.sides ++ q.sides;
      valid = p.valid ++ q.valid;
      all_sides = q.all_sides ∙ ap (λ all. all ++ q.sides) p.all_sides ∙ append_assoc a.sides p.sides q.sides;
      all_valid = q.all_valid ∙ ap (λ all. all ++ q.valid) p.all_valid ∙ append_assoc a.valid p.valid q.valid;
    }

all_valid_first : (defs : Defs) (env : Env) (look : Look) (ts us : List Plain) → AllValid defs env look (ts ++ us) → AllValid defs env look ts
all_valid_first defs env look [] us all = tt
all_valid_first defs env look (t ∷ ts) us all = (all.0, all_valid_first defs env look ts us all.1)

-- what was needed before is so, where all is
pub met_before : (S : Setting) (env : Env) (look : Look) (before after : Needs) → Begins before after → IsMet S env look after → IsMet S env look before
met_before S env look before after b met =
    record {
      sides = all_true_first S.defs S.has_spec env before.sides b.sides (subst (AllTrue S.defs S.has_spec env) b.all_sides met.sides);
      valid = all_valid_first S.defs env look before.valid b.valid (subst (AllValid S.defs env look) b.all_valid met.valid);
    }

pub same_needs : (d : Result Plain No) (needs more : Needs) (t : Plain) → given d needs ≡ Ok (t, more) → Begins needs more
same_needs d needs more t e =
    let p = ok_parts d (λ u. Ok (u, needs)) (t, more) e in
    subst (Begins needs) (same_need p.0 t needs more p.2) (begins_itself needs)

module _ (source : Assertion) (structs : Structs) where
  pub of_operator : (op : UnaryOp) (T : CType) (u t : Plain) (needs more : Needs) → operated_one op T u needs ≡ Ok (t, more) → Begins needs more
  of_operator op T u t needs more e =
      let p = ok_parts (operand T u) (λ a. unary op a needs) (t, more) e in
      of_unary op p.0 needs more t p.2

  pub of_operators : (parts : List Sep) (op : IntOp) (T U : CType) (u w t : Plain) (needs more : Needs) → operated_two structs parts op T u U w needs ≡ Ok (t, more) → Begins needs more
  of_operators parts op T U u w t needs more e =
      let p = ok_parts (operand T u) (λ a. on_ok (operand U w) (λ b. binary structs parts op a b needs)) (t, more) e in
      let q = ok_parts (operand U w) (λ b. binary structs parts op p.0 b needs) (t, more) p.2 in
      of_binary structs parts op p.0 q.0 needs more t q.2

  pub of_cast_operand : (T to : CType) (u t : Plain) (needs more : Needs) → operated_cast T to u needs ≡ Ok (t, more) → Begins needs more
  of_cast_operand T to u t needs more e =
      let p = ok_parts (operand T u) (λ a. cast to a needs) (t, more) e in
      of_cast to p.0 needs more t p.2

  pub of_null : (b : Bool) (T to : CType) (needs more : Needs) (t : Plain) (value : Result (Plain × Needs) No) → ((u : Plain) (middle : Needs) → value ≡ Ok (u, middle) → Begins needs middle) → (if b then Ok (null, needs) else on_ok value (λ v. operated_cast T to v.0 v.1)) ≡ Ok (t, more) → Begins needs more
  of_null true T to needs more t value grow e = subst (Begins needs) (same_need null t needs more e) (begins_itself needs)
  of_null false T to needs more t value grow e =
      let p = ok_parts value (λ v. operated_cast T to v.0 v.1) (t, more) e in
      begins_on needs p.0.1 more (grow p.0.0 p.0.1 p.1) (of_cast_operand T to p.0.0 t p.0.1 more p.2)
