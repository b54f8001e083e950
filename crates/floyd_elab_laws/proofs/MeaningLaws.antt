-- The laws of meaning.
use Rattle.std.proofs.Common.{◌≡◌, ℕ, ◌<◌, ◌^◌, Bool, true, ℤ, List, Option, Some, None, Ok, refl, sym, ap, subst, arith, is_some, true≢false}
use Rattle.std.specs.Prelude.{option_map, option_and_then}
use Rattle.floyd_int.specs.declared.kinds.IntKind.{IntKind}
use Rattle.floyd_ctypes.specs.Structs.{Structs}
use Rattle.floyd_cparse_trees.specs.declared.expressions.CExpr as e
use Rattle.floyd_elab_names.specs.Scopes.{Scopes}
use Rattle.floyd_clight.specs.declared.syntax.Expr.{Expr}
use Rattle.floyd_clight_machine.specs.Evaluation.{Temps, Look, eval_by}
use Rattle.floyd_elab_expressions.specs.Clight.{Translated}
use Rattle.floyd_elab_expressions.specs.declared.progress.Progress.{Progress}
use Rattle.floyd_elab_expressions.specs.Expressions.{expression, rvalue}
use Rattle.floyd_elab_laws.specs.Numbers.{Number}
use Rattle.floyd_elab_laws.specs.CMeaning.{number}
use Rattle.floyd_elab_laws.specs.Running.{run_all}
use Rattle.floyd_elab_laws.specs.Laws.{value_as, occurs, Holds, is_straight, Keeps, AreApart, RunsTo}
use Rattle.floyd_elab_laws.proofs.NameLemmas.{pulled_differ}
use Rattle.floyd_elab_laws.proofs.GivesLemmas.{Gives, Has}
use Rattle.floyd_elab_laws.proofs.FactLemmas.{Setting, Kept, kept_same, Ends, stuck, goes}
use Rattle.floyd_elab_laws.proofs.MeaningLemmas.{Means, means, Meant, value_meant}
use Rattle.floyd_elab_laws.proofs.ExpressionLemmas.{Counted, meant}

-- what was found of an expression
found : (W : Setting) (c : e.CExpr) (n : Number) (p q : Progress) (t : Translated) → Counted W c → number W.structs W.scopes W.variables c ≡ Some n → rvalue W.scopes c p ≡ Ok (t, q) → Means W (is_straight c) n p.drawn q.drawn t
found W c n p q t w h g =
    let f : Meant W (is_straight c) (expression W.scopes c) n = (subst (λ o. Has o (Meant W (is_straight c) (expression W.scopes c))) h (meant W c w)).holds in
    (subst (λ r. Gives r (λ r. Means W (is_straight c) n p.drawn r.1.drawn r.0)) g (value_meant W (is_straight c) n (expression W.scopes c) f p)).holds

-- the value at the end of a run
ends_value : {W : Setting} {d e : ℕ} {s : Temps} {k : IntKind} {v : Option ℤ} {x : Expr} {o : Option Temps} → Ends W d e s k v x o → option_and_then (λ u. eval_by W.structs W.look u x) o ≡ option_map (value_as k) v
ends_value {k = k} (stuck i) = sym (ap (option_map (value_as k)) i)
ends_value {W = W} {e = e} (goes u a h) = h u (kept_same W e u)

-- where nothing is drawn
straight_setting : Structs → Look → (scopes : Scopes) (variables : List ℕ → ℤ) (temps : Temps) (c : e.CExpr) → Holds (λ x. occurs x c) scopes variables temps → ℕ → Setting
straight_setting structs look scopes variables temps c h d =
    record {
      structs = structs;
      look = look;
      scopes = scopes;
      among = λ x. occurs x c;
      variables = variables;
      first = d;
      last = d;
      ranges = λ x called k storage w m a. (h x called k storage w m a).in_range;
      apart = λ x called k storage m a j l b q. absurd (omega (arith, l, b));
      distinct = λ j k l b i n q. absurd (omega (arith, l, b));
    }

straight_keeps : (structs : Structs) (look : Look) (scopes : Scopes) (variables : List ℕ → ℤ) (temps : Temps) (c : e.CExpr) (h : Holds (λ x. occurs x c) scopes variables temps) (n : Number) (d e : ℕ) (t : Translated) → Means (straight_setting structs look scopes variables temps c h d) true n d e t → Keeps structs look temps n t
unfolding straight_setting
straight_keeps structs look scopes variables temps c h n d e t (means before x st f) =
    let plain = f.plain refl in
    record {
      before = plain.0;
      ctype = f.ctype;
      value =
          subst (λ b. option_and_then (λ u. eval_by structs look u x) (run_all structs look b temps) ≡ option_map (value_as n.kind) n.value) plain.0
          (ends_value (f.runs (omega arith) (omega (arith, plain.1)) temps h));
    }

pub straight_kept : (structs : Structs) (look : Look) (scopes : Scopes) (variables : List ℕ → ℤ) (temps : Temps) (c : e.CExpr) (n : Number) (p q : Progress) (t : Translated) →
    Holds (λ x. occurs x c) scopes variables temps → is_straight c ≡ true → number structs scopes variables c ≡ Some n → rvalue scopes c p ≡ Ok (t, q) → Keeps structs look temps n t
unfolding straight_setting
straight_kept structs look scopes variables temps c n p q t h s g f =
    straight_keeps structs look scopes variables temps c h n p.drawn q.drawn t
    (subst (λ b. Means (straight_setting structs look scopes variables temps c h p.drawn) b n p.drawn q.drawn t) s (found (straight_setting structs look scopes variables temps c h p.drawn) c n p q t (λ x w. w) g f))

-- ---- where temporaries are drawn

option_of : Temps → Option Temps → Temps
option_of s None = s
option_of s (Some u) = u

ends_rest : {W : Setting} {d e : ℕ} {s : Temps} {k : IntKind} {v : Option ℤ} {x : Expr} {o : Option Temps} → Ends W d e s k v x o → (u : Temps) → o ≡ Some u → Kept W d s u
unfolding option_of
ends_rest (stuck i) u q = absurd (true≢false (sym (ap is_some q)))
ends_rest {W = W} {d = d} {s = s} (goes t a h) u q = subst (Kept W d s) (ap (option_of s) q) a

expression_runs : (W : Setting) (straight : Bool) (n : Number) (d e : ℕ) (t : Translated) (temps : Temps) → Means W straight n d e t → W.first ≡ d → W.last ≡ e → Holds W.among W.scopes W.variables temps → RunsTo W.structs W.look temps n d e t
expression_runs W straight n d e t temps (means before x st f) i j h =
    let ends = f.runs (omega (arith, i)) (omega (arith, j)) temps h in
    record {
      ctype = f.ctype;
      value = ends_value ends;
      rest = λ u q y g. (ends_rest ends u q).at y (λ k l b r. g k l (omega (arith, b, j)) r);
    }

pub expression_kept : (structs : Structs) (look : Look) (scopes : Scopes) (variables : List ℕ → ℤ) (temps : Temps) (c : e.CExpr) (n : Number) (p q : Progress) (t : Translated) →
    Holds (λ x. occurs x c) scopes variables temps → AreApart scopes → q.drawn < 2 ^ 64 → number structs scopes variables c ≡ Some n → rvalue scopes c p ≡ Ok (t, q) → RunsTo structs look temps n p.drawn q.drawn t
expression_kept structs look scopes variables temps c n p q t h a b g f =
    let W : Setting = record {
      structs = structs;
      look = look;
      scopes = scopes;
      among = λ x. occurs x c;
      variables = variables;
      first = p.drawn;
      last = q.drawn;
      ranges = λ x called k storage w m r. (h x called k storage w m r).in_range;
      apart = λ x called k storage m r j l i o. a x called k storage m r j (omega (arith, i, b)) o;
      distinct = λ j k _ l _ m o. pulled_differ j k (omega (arith, l, b)) (omega (arith, m, b)) o;
    } in
    expression_runs W (is_straight c) n p.drawn q.drawn t temps (found W c n p q t (λ x w. w) g f) refl refl h
