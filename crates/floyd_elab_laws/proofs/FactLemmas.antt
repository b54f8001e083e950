-- Expressions that elaboration makes, behind the statements that go before them.
use Rattle.std.proofs.Common.{◌≡◌, ℕ, ◌<◌, ◌≤◌, Bool, true, false, ◌&&◌, ℤ, List, [], ◌++◌, Option, Some, None, refl, sym, ◌∙◌, ap₂, subst, arith}
use Rattle.std.specs.Prelude.{IfSome, option_map, option_and_then}
use Rattle.std.proofs.lemmas.Bool.{and_parts}
use Rattle.floyd_int.specs.declared.kinds.IntKind.{IntKind}
use Rattle.floyd_int.specs.declared.kinds.Value.{Value}
use Rattle.floyd_int.specs.Kind.{InRange}
use Rattle.floyd_ctypes.specs.declared.ctype.CType.{Int}
use Rattle.floyd_ctypes.specs.Structs.{Structs}
use Rattle.floyd_elab_names.specs.declared.meaning.Meaning.TheVariants as m
use Rattle.floyd_elab_names.specs.declared.meaning.Storage.{Storage}
use Rattle.floyd_elab_names.specs.Scopes.{Scopes, meaning_of}
use Rattle.floyd_clight.specs.declared.syntax.Expr.{Expr}
use Rattle.floyd_clight.specs.declared.syntax.Stmt.{Stmt}
use Rattle.floyd_clight.specs.Types.{type_of}
use Rattle.floyd_clight_machine.specs.Evaluation.{Ident, Temps, with_temp, Look, eval_by}
use Rattle.floyd_elab_expressions.specs.Clight.{is_memory, pulled_name}
use Rattle.floyd_elab_laws.specs.Numbers.{Number}
use Rattle.floyd_elab_laws.specs.CMeaning.{is_kept_apart}
use Rattle.floyd_elab_laws.specs.Running.{run_all}
use Rattle.floyd_elab_laws.specs.Laws.{value_as, Holds}
use Rattle.floyd_elab_laws.proofs.EvaluationLemmas.{Evals}
use Rattle.floyd_elab_laws.proofs.RunLemmas.{set_other, run_append}

-- Where an expression is translated: the program's structs, what the names in sight mean, what those `among` them hold,
-- and which numbers are drawn for it, those behind `first` up to `last`.
pub record Setting : Type 0 where
  pub structs : Structs
  pub look : Look
  pub scopes : Scopes
  pub among : List ℕ → Bool
  pub variables : List ℕ → ℤ
  pub first : ℕ
  pub last : ℕ
  pub ranges : (x called : List ℕ) (k : IntKind) (storage : Storage) → among x ≡ true → meaning_of scopes x ≡ Some (m.Variable called (Int k) storage) → is_kept_apart storage ≡ true → InRange k (variables x)
  pub apart : (x called : List ℕ) (k : IntKind) (storage : Storage) → meaning_of scopes x ≡ Some (m.Variable called (Int k) storage) → is_kept_apart storage ≡ true → (j : ℕ) → first < j → j ≤ last → called ≡ pulled_name j → ⊥
  pub distinct : (j k : ℕ) → first < j → j ≤ last → first < k → k ≤ last → pulled_name j ≡ pulled_name k → j ≡ k

-- only temporaries that are drawn behind d differ
pub record Kept (W : Setting) (d : ℕ) (s u : Temps) : Type 0 where
  pub at : (x : Ident) → ((k : ℕ) → d < k → k ≤ W.last → x ≡ pulled_name k → ⊥) → u x ≡ s x

pub kept_same : (W : Setting) (d : ℕ) (s : Temps) → Kept W d s s
kept_same W d s = record { at = λ x h. refl }

pub kept_on : {W : Setting} {d e : ℕ} {s u w : Temps} → d ≤ e → Kept W d s u → Kept W e u w → Kept W d s w
kept_on l a b = record { at = λ x h. b.at x (λ k i j q. h k (omega (arith, l, i)) j q) ∙ a.at x h }

pub kept_set : (W : Setting) (d j : ℕ) (v : Value) (s : Temps) → d < j → j ≤ W.last → Kept W d s (with_temp (pulled_name j) v s)
kept_set W d j v s l b = record { at = λ x h. set_other (pulled_name j) x v s (λ e. h j l b e) }

pub holds_kept : {W : Setting} {d : ℕ} {s u : Temps} → W.first ≤ d → Kept W d s u → Holds W.among W.scopes W.variables s → Holds W.among W.scopes W.variables u
holds_kept {W} {d} {s} {u} l a h = λ x called k storage w e c.
    let held = h x called k storage w e c in
    record { in_range = held.in_range; value = a.at called (λ j i b q. W.apart x called k storage e c j (omega (arith, l, i)) b q) ∙ held.value }

-- Where a run of the statements before an expression ends, from s on: it is stuck, and C gives no value; or the expression
-- has C's value there, and wherever more is drawn.
pub data Ends (W : Setting) (d e : ℕ) (s : Temps) (k : IntKind) (v : Option ℤ) (x : Expr) : Option Temps → Type 0 where
  stuck : v ≡ None → Ends W d e s k v x None
  goes : (u : Temps) → Kept W d s u → ((w : Temps) → Kept W e u w → eval_by W.structs W.look w x ≡ option_map (value_as k) v) → Ends W d e s k v x (Some u)

pub ends_changed : {W : Setting} {d e : ℕ} {s : Temps} {k l : IntKind} {u v : Option ℤ} {x y : Expr} {o : Option Temps} → Ends W d e s k u x o → (u ≡ None → v ≡ None) → ((w : Temps) → eval_by W.structs W.look w x ≡ option_map (value_as k) u → eval_by W.structs W.look w y ≡ option_map (value_as l) v) → Ends W d e s l v y o
ends_changed (stuck i) f g = stuck (f i)
ends_changed (goes u a h) f g = goes u a (λ w b. g w (h w b))

ends_second : {W : Setting} {c d e : ℕ} {s t : Temps} {k l : IntKind} {v z : Option ℤ} {y r : Expr} {o : Option Temps} (j : IntKind) (u : Option ℤ) (x : Expr) → c ≤ d → d ≤ e → Kept W c s t → ((w : Temps) → Kept W d t w → eval_by W.structs W.look w x ≡ option_map (value_as j) u) → Ends W d e t k v y o → (v ≡ None → z ≡ None) →
    ((w : Temps) → eval_by W.structs W.look w x ≡ option_map (value_as j) u → eval_by W.structs W.look w y ≡ option_map (value_as k) v → eval_by W.structs W.look w r ≡ option_map (value_as l) z) → Ends W c e s l z r o
ends_second j u x a b i h (stuck q) f g = stuck (f q)
ends_second j u x a b i h (goes p n l) f g = goes p (kept_on a i n) (λ w m. g w (h w (kept_on b n m)) (l w m))

-- one expression behind another
pub ends_both : {W : Setting} {c d e : ℕ} {s : Temps} {j k l : IntKind} {u v z : Option ℤ} {x y r : Expr} {o : Option Temps} (next : Temps → Option Temps) → c ≤ d → d ≤ e → Ends W c d s j u x o → ((t : Temps) → Kept W c s t → Ends W d e t k v y (next t)) → (u ≡ None → z ≡ None) → (v ≡ None → z ≡ None) →
    ((w : Temps) → eval_by W.structs W.look w x ≡ option_map (value_as j) u → eval_by W.structs W.look w y ≡ option_map (value_as k) v → eval_by W.structs W.look w r ≡ option_map (value_as l) z) → Ends W c e s l z r (option_and_then next o)
ends_both next a b (stuck i) h f g m = stuck (f i)
ends_both {j = j} {u = u} {x = x} next a b (goes t i n) h f g m = ends_second j u x a b i n (h t i) g m

-- What is so of an expression that stands for an integer, where d numbers were drawn before it and e behind it. Nothing
-- goes before it, and nothing is drawn, where it is straight.
pub record Facts (W : Setting) (straight : Bool) (n : Number) (d e : ℕ) (before : List Stmt) (x : Expr) : Type 0 where
  pub memory : is_memory x ≡ false
  pub ctype : type_of x ≡ Int n.kind
  pub range : IfSome n.value (InRange n.kind)
  pub order : d ≤ e
  pub plain : straight ≡ true → (before ≡ []) × (e ≡ d)
  pub runs : W.first ≤ d → e ≤ W.last → (s : Temps) → Holds W.among W.scopes W.variables s → Ends W d e s n.kind n.value x (run_all W.structs W.look before s)

pub evals : (W : Setting) (straight : Bool) (n : Number) (d e : ℕ) (before : List Stmt) (x : Expr) → Facts W straight n d e before x → (w : Temps) → eval_by W.structs W.look w x ≡ option_map (value_as n.kind) n.value → Evals W.structs W.look w x n.kind n.value
evals W straight n d e before x f w h = record { ctype = f.ctype; range = f.range; value = h }

-- an expression without statements before it
pub alone : (W : Setting) (straight : Bool) (n : Number) (d : ℕ) (x : Expr) → is_memory x ≡ false → type_of x ≡ Int n.kind → IfSome n.value (InRange n.kind) →
    (W.first ≤ d → (s : Temps) → Holds W.among W.scopes W.variables s → eval_by W.structs W.look s x ≡ option_map (value_as n.kind) n.value) → Facts W straight n d d [] x
alone W straight n d x m c r h =
    record {
      memory = m;
      ctype = c;
      range = r;
      order = omega arith;
      plain = λ _. (refl, refl);
      runs = λ l _ s held. goes s (kept_same W d s) (λ w a. h l w (holds_kept l a held));
    }

-- an operator on one operand
pub modify : (W : Setting) (straight : Bool) (n o : Number) (d e : ℕ) (before : List Stmt) (x y : Expr) → Facts W straight n d e before x → is_memory y ≡ false → type_of y ≡ Int o.kind → IfSome o.value (InRange o.kind) → (n.value ≡ None → o.value ≡ None) →
    ((w : Temps) → Evals W.structs W.look w x n.kind n.value → eval_by W.structs W.look w y ≡ option_map (value_as o.kind) o.value) → Facts W straight o d e before y
modify W straight n o d e before x y f m c r i g =
    record {
      memory = m;
      ctype = c;
      range = r;
      order = f.order;
      plain = f.plain;
      runs = λ l b s h. ends_changed (f.runs l b s h) i (λ w q. g w (evals W straight n d e before x f w q));
    }

-- an operator on two operands
pub joined : (W : Setting) (one two : Bool) (a b o : Number) (c d e : ℕ) (before more : List Stmt) (x y z : Expr) → Facts W one a c d before x → Facts W two b d e more y → is_memory z ≡ false → type_of z ≡ Int o.kind → IfSome o.value (InRange o.kind) → (a.value ≡ None → o.value ≡ None) → (b.value ≡ None → o.value ≡ None) →
    ((w : Temps) → Evals W.structs W.look w x a.kind a.value → Evals W.structs W.look w y b.kind b.value → eval_by W.structs W.look w z ≡ option_map (value_as o.kind) o.value) → Facts W (one && two) o c e (before ++ more) z
joined W one two a b o c d e before more x y z f g m t r i j k =
    record {
      memory = m;
      ctype = t;
      range = r;
      order = omega (arith, f.order, g.order);
      plain = λ q.
          let parts = and_parts one two q in
          let p = f.plain parts.0 in
          let s = g.plain parts.1 in
          (ap₂ (λ u v. u ++ v) p.0 s.0, s.1 ∙ p.1);
      runs = λ l u s h.
          subst (Ends W c e s o.kind o.value z) (sym (run_append W.structs W.look before more s))
          (ends_both (run_all W.structs W.look more) f.order g.order (f.runs l (omega (arith, u, g.order)) s h) (λ v n. g.runs (omega (arith, l, f.order)) u v (holds_kept l n h)) i j
          (λ w p q. k w (evals W one a c d before x f w p) (evals W two b d e more y g w q)));
    }
