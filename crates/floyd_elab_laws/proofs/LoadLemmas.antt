-- What reads nothing loads nothing.
use Rattle.std.proofs.Common.{◌≡◌, Bool, true, false, [], ◌++◌, Option, refl, sym, ap₂, true≢false}
use Rattle.floyd_ctypes.specs.declared.ctype.CType.{CType, Void, Int, Pointer', Array', Struct, Function'}
use Rattle.floyd_ctypes.specs.Structs.{Structs}
use Rattle.floyd_elab_names.specs.Types.{is_scalar}
use Rattle.floyd_clight.specs.declared.syntax.Expr.{Expr, Const, Temp, Var, Deref', AddrOf', Unary', Binary', Cast', Field', SizeOf, end_of-Expr, more_of-Expr}
use Rattle.floyd_clight.specs.Types.{type_of}
use Rattle.std.specs.Prelude.{option_map, option_and_then}
use Rattle.floyd_clight_machine.specs.Evaluation.{Spot, Temps, Look, led, start_of, field_of, eval_by, place_by}
use Rattle.floyd_clight_machine.specs.Footprint.{loads_at, value_loads, place_loads}
use Rattle.floyd_elab_laws.specs.Reads.{reads, place_reads}
use Rattle.floyd_elab_laws.proofs.ReadLemmas.{neither}

nothing_at : (t : CType) (s : Option Spot) → is_scalar t ≡ false → loads_at t s ≡ []
nothing_at Void s h = refl
nothing_at (Int k) s h = absurd (true≢false h)
nothing_at (Pointer' p t) s h = absurd (true≢false h)
nothing_at (Array' p t n) s h = refl
nothing_at (Struct tag) s h = refl
nothing_at (Function' shape ps p r) s h = refl

mutual
  pub values_unread : (structs : Structs) (look : Look) (temps : Temps) (e : Expr) → reads e ≡ false → value_loads structs look temps e ≡ []
  values_unread structs look temps (Const v t) h = refl
  values_unread structs look temps (Temp x t) h = refl
  values_unread structs look temps (Var bound x t) h = nothing_at t (option_map start_of (look.block_of bound x)) h
  values_unread structs look temps (Deref' p (more_of-Expr e end_of-Expr) t) h =
      let parts = neither (is_scalar t) (reads e) h in
      ap₂ (λ a b. a ++ b) (values_unread structs look temps e parts.1) (nothing_at t (option_and_then led (eval_by structs look temps e)) parts.0)
  values_unread structs look temps (AddrOf' p (more_of-Expr e end_of-Expr) t) h = places_unread structs look temps e h
  values_unread structs look temps (Unary' op p (more_of-Expr e end_of-Expr) t) h = values_unread structs look temps e h
  values_unread structs look temps (Binary' op p (more_of-Expr a end_of-Expr) q (more_of-Expr b end_of-Expr) t) h =
      let parts = neither (reads a) (reads b) h in
      ap₂ (λ a b. a ++ b) (values_unread structs look temps a parts.0) (values_unread structs look temps b parts.1)
  values_unread structs look temps (Cast' p (more_of-Expr e end_of-Expr) t) h = values_unread structs look temps e h
  values_unread structs look temps (Field' p (more_of-Expr e end_of-Expr) x t) h =
      let parts = neither (is_scalar t) (place_reads e) h in
      ap₂ (λ a b. a ++ b) (places_unread structs look temps e parts.1) (nothing_at t (option_and_then (field_of structs (type_of e) x) (place_by structs look temps e)) parts.0)
  values_unread structs look temps (SizeOf of t) h = refl

  pub places_unread : (structs : Structs) (look : Look) (temps : Temps) (e : Expr) → place_reads e ≡ false → place_loads structs look temps e ≡ []
  places_unread structs look temps (Const v t) h = refl
  places_unread structs look temps (Temp x t) h = refl
  places_unread structs look temps (Var bound x t) h = refl
  places_unread structs look temps (Deref' p (more_of-Expr e end_of-Expr) t) h = values_unread structs look temps e h
  places_unread structs look temps (AddrOf' p (more_of-Expr e end_of-Expr) t) h = refl
  places_unread structs look temps (Unary' op p (more_of-Expr e end_of-Expr) t) h = refl
  places_unread structs look temps (Binary' op p (more_of-Expr a end_of-Expr) q (more_of-Expr b end_of-Expr) t) h = refl
  places_unread structs look temps (Cast' p (more_of-Expr e end_of-Expr) t) h = refl
  places_unread structs look temps (Field' p (more_of-Expr e end_of-Expr) x t) h = places_unread structs look temps e h
  places_unread structs look temps (SizeOf of t) h = refl
