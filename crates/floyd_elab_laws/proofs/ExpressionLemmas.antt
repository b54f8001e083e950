-- What elaboration makes of expressions of integers.
use Rattle.std.proofs.Common.{◌≡◌, ℕ, ◌+◌, ◌≤◌, Bool, true, false, not, ◌||◌, ℤ, List, [], ◌∷◌, ◌++◌, Option, Some, None, if◌then◌else◌, refl, sym, ◌∙◌, ap, subst, arith, true≢false, bytes_eq}
use Rattle.std.proofs.lemmas.Slice.Eq.{bytes_eq-Decides}
use Rattle.std.specs.Prelude.{IfSome, option_map, option_and_then}
use Rattle.floyd_text.specs.declared.place.Place.{Place}
use Rattle.floyd_int.specs.declared.kinds.IntKind.{IntKind}
use Rattle.floyd_int.specs.declared.kinds.IntKind.TheVariants.{I32}
use Rattle.floyd_int.specs.Kind.{InRange}
use Rattle.floyd_ctypes.specs.declared.ctype.CType.{CType, Int}
use Rattle.floyd_cparse_trees.specs.declared.expressions.CExpr as e
use Rattle.floyd_cparse_trees.specs.declared.expressions.BinaryOp.TheVariants as binary
use Rattle.floyd_ctyping.specs.declared.operand.Standing.{Standing}
use Rattle.floyd_ctyping.specs.declared.operand.Standing.TheVariants as standing
use Rattle.floyd_elab_names.specs.Refusing.{◌>>=◌, ◌>>◌, pure}
use Rattle.floyd_elab_names.specs.Scopes.{Scopes, meaning_of}
use Rattle.floyd_elab_names.specs.Types.{usual, int_type}
use Rattle.floyd_ctyping.specs.Operators as o
use Rattle.floyd_ctyping.specs.Expressions as typed
use Rattle.floyd_clight.specs.declared.syntax.Expr.{Expr, Temp}
use Rattle.floyd_clight.specs.declared.syntax.Stmt.{Stmt, Set, If}
use Rattle.floyd_clight_machine.specs.Evaluation.{Temps}
use Rattle.floyd_elab_expressions.specs.Clight.{Translated, cast_into, is_truth, test_of, sequence, zero, one, pulled_name}
use Rattle.floyd_elab_expressions.specs.declared.progress.Progress.{Progress}
use Rattle.floyd_elab_expressions.specs.Progress.{Elaborating, typing, draw, add_temporary, pull}
use Rattle.floyd_elab_expressions.specs.Expressions.{read, expression, truth, both, one_of}
use Rattle.floyd_elab_laws.specs.Conversions.{converted}
use Rattle.floyd_elab_laws.specs.Numbers.{Number, converted_to, is_zero, both_true, one_true}
use Rattle.floyd_elab_laws.specs.Numbers as numbers
use Rattle.floyd_elab_laws.specs.CMeaning.{number, joined}
use Rattle.floyd_elab_laws.specs.Running.{run}
use Rattle.floyd_elab_laws.specs.Laws.{occurs, Holds, is_straight}
use Rattle.floyd_elab_laws.proofs.KindLemmas.{common_is}
use Rattle.floyd_elab_laws.proofs.GivesLemmas.{Gives, after, here, Has, nothing, some_then, some_map}
use Rattle.floyd_elab_laws.proofs.EvaluationLemmas.{into, kept_range, truth_range, into_evals}
use Rattle.floyd_elab_laws.proofs.RunLemmas.{run_append}
use Rattle.floyd_elab_laws.proofs.FactLemmas.{Setting, holds_kept, Ends, Facts, evals}
use Rattle.floyd_elab_laws.proofs.MeaningLemmas.{Means, means, Meant, value_meant, named_meant, literal_meant, size_meant, prefixed_meant, binary_meant}
use Rattle.floyd_elab_laws.proofs.BranchLemmas.{IsTruth, zero_as, one_as, test_evals, part_ends, flag_ends, branch_ends}
use Rattle.floyd_elab_laws.proofs.TruthLemmas.{truths}

-- ---- `&&` and `||`, behind their left operands

-- what the right operand comes to
abbrev flag_of : Number → Option ℤ
flag_of b = option_map (λ y. numbers.truth (not (is_zero y))) b.value

flag_range : (v : Option ℤ) → IfSome (option_map (λ y. numbers.truth (not (is_zero y))) v) (InRange I32)
flag_range None = tt
flag_range (Some z) = truth_range (not (is_zero z))

-- of two ways to go on by a test of the left operand
abbrev by_zero : Option ℤ → Option ℤ → ℤ → Option ℤ
by_zero u v x = if is_zero x then u else v

chosen_range : (k : IntKind) (w u v : Option ℤ) → IfSome u (InRange k) → IfSome v (InRange k) → IfSome (option_and_then (by_zero u v) w) (InRange k)
chosen_range k None u v h g = tt
chosen_range k (Some x) u v h g = by (is_zero x)
  where
    by : (t : Bool) → IfSome (if t then u else v) (InRange k)
    by true = h
    by false = g

chosen_is : (w u v : Option ℤ) (i : ℤ) (t : Bool) → w ≡ Some i → is_zero i ≡ t → option_and_then (by_zero u v) w ≡ (if t then u else v)
chosen_is w u v i t h g = ap (option_and_then (by_zero u v)) h ∙ ap (λ s. if s then u else v) g

-- a test with branches that set the number drawn for it
abbrev Set_by : Setting → ℕ → ℕ → IntKind → Option ℤ → ℕ → Stmt → Temps → Type 0
Set_by W d e k v j a t = Ends W d e t k v (Temp (pulled_name j) (Int k)) (run W.structs W.look a t)

branch_facts : (W : Setting) (straight : Bool) (c : e.CExpr) (a : Number) (b d e : ℕ) (first : List Stmt) (x : Expr) (st : Standing) (k : IntKind) (u v : Option ℤ) (met unmet : Stmt) → (is_truth c ≡ true → IsTruth a) → Facts W straight a b d first x → d + 1 ≤ e → IfSome u (InRange k) → IfSome v (InRange k) →
    (W.first ≤ d → e ≤ W.last → (t : Temps) → Holds W.among W.scopes W.variables t → Set_by W d e k v (d + 1) met t) → (W.first ≤ d → e ≤ W.last → (t : Temps) → Holds W.among W.scopes W.variables t → Set_by W d e k u (d + 1) unmet t) →
    Facts W false (record { kind = k; value = option_and_then (by_zero u v) a.value }) b e (first ++ If (test_of c (record { before = first; expr = x; operand = record { ctype = Int a.kind; standing = st } })) met unmet ∷ []) (Temp (pulled_name (d + 1)) (Int k))
branch_facts W straight c a b d e first x st k u v met unmet truth_of f l hu hv on_yes on_no =
    let test = test_of c (record { before = first; expr = x; operand = record { ctype = Int a.kind; standing = st } }) in
    record {
      memory = refl;
      ctype = refl;
      range = chosen_range k a.value u v hu hv;
      order = omega (arith, f.order, l);
      plain = λ q. absurd (true≢false (sym q));
      runs = λ m n s h.
          let above : W.first ≤ d = omega (arith, m, f.order) in
          subst (Ends W b e s k (option_and_then (by_zero u v) a.value) (Temp (pulled_name (d + 1)) (Int k))) (sym (run_append W.structs W.look first (If test met unmet ∷ []) s))
          (branch_ends e (option_and_then (by_zero u v) a.value) k test (Temp (pulled_name (d + 1)) (Int k)) met unmet f.order (f.runs m (omega (arith, l, n)) s h) (λ i. ap (option_and_then (by_zero u v)) i)
          (λ w i. test_evals W c a first x st w truth_of (evals W straight a b d first x f w i))
          (λ t r i p q. subst (λ z. Set_by W d e k z (d + 1) met t) (sym (chosen_is a.value u v i false p q)) (on_yes above n t (holds_kept m r h)))
          (λ t r i p q. subst (λ z. Set_by W d e k z (d + 1) unmet t) (sym (chosen_is a.value u v i true p q)) (on_no above n t (holds_kept m r h))));
    }

-- the progress behind a number drawn for a temporary of that type
abbrev drawn_for : CType → Progress → Progress
drawn_for t p = record p { drawn = p.drawn + 1; temporaries = p.temporaries ++ record { name = pulled_name (p.drawn + 1); ctype = t } ∷ [] }

abbrev and_end : Place → e.CExpr → e.CExpr → List ℕ → Translated → Translated → Elaborating Translated
and_end place left right x a b = do
  typing (typed.check_test place b.operand)
  pure (truth x (a.before ++ both (test_of left a) b.before (test_of right b) x ∷ []))

and_last : {W : Setting} {one two : Bool} {a b : Number} {c d : ℕ} {ta tb : Translated} (place : Place) (left right : e.CExpr) (p : Progress) → Means W one a c d ta → Means W two b (d + 1) p.drawn tb → (is_truth left ≡ true → IsTruth a) → (is_truth right ≡ true → IsTruth b) →
    Gives (and_end place left right (pulled_name (d + 1)) ta tb p) (λ r. Means W false (both_true a b) c r.1.drawn r.0)
and_last {W} {one} {two} {a} {b} {c} {d} place left right p (means first x st f) (means second y su g) i j =
    let x0 = pulled_name (d + 1) in
    let test = test_of right (record { before = second; expr = y; operand = record { ctype = Int b.kind; standing = su } }) in
    let met = sequence (second ++ Set x0 test ∷ []) in
    let unmet = Set x0 zero in
    here (means (first ++ If (test_of left (record { before = first; expr = x; operand = record { ctype = Int a.kind; standing = st } })) met unmet ∷ []) (Temp x0 int_type) standing.Value
    (branch_facts W one left a c d p.drawn first x st I32 (Some (numbers.truth false)) (flag_of b) met unmet i f g.order (truth_range false) (flag_range b.value)
    (λ m n t h. part_ends W two b (d + 1) p.drawn d p.drawn (d + 1) second y test I32 (flag_of b) t g m (omega arith) (omega arith) (omega arith) g.order n h (λ q. ap (option_map (λ y. numbers.truth (not (is_zero y)))) q) (λ w q. test_evals W right b second y su w j q))
    (λ m n t h. flag_ends W d p.drawn (d + 1) zero (numbers.truth false) t m (omega arith) g.order n (ap Some zero_as))))

abbrev or_end : Place → e.CExpr → e.CExpr → List ℕ → Translated → Translated → Elaborating Translated
or_end place left right x a b = do
  typing (typed.check_test place b.operand)
  pure (truth x (a.before ++ one_of (test_of left a) b.before (test_of right b) x ∷ []))

or_last : {W : Setting} {one two : Bool} {a b : Number} {c d : ℕ} {ta tb : Translated} (place : Place) (left right : e.CExpr) (p : Progress) → Means W one a c d ta → Means W two b (d + 1) p.drawn tb → (is_truth left ≡ true → IsTruth a) → (is_truth right ≡ true → IsTruth b) →
    Gives (or_end place left right (pulled_name (d + 1)) ta tb p) (λ r. Means W false (one_true a b) c r.1.drawn r.0)
or_last {W} {one = straight} {two} {a} {b} {c} {d} place left right p (means first x st f) (means second y su g) i j =
    let x0 = pulled_name (d + 1) in
    let test = test_of right (record { before = second; expr = y; operand = record { ctype = Int b.kind; standing = su } }) in
    let met = Set x0 one in
    let unmet = sequence (second ++ Set x0 test ∷ []) in
    here (means (first ++ If (test_of left (record { before = first; expr = x; operand = record { ctype = Int a.kind; standing = st } })) met unmet ∷ []) (Temp x0 int_type) standing.Value
    (branch_facts W straight left a c d p.drawn first x st I32 (flag_of b) (Some (numbers.truth true)) met unmet i f g.order (flag_range b.value) (truth_range true)
    (λ m n t h. flag_ends W d p.drawn (d + 1) one (numbers.truth true) t m (omega arith) g.order n (ap Some one_as))
    (λ m n t h. part_ends W two b (d + 1) p.drawn d p.drawn (d + 1) second y test I32 (flag_of b) t g m (omega arith) (omega arith) (omega arith) g.order n h (λ q. ap (option_map (λ y. numbers.truth (not (is_zero y)))) q) (λ w q. test_evals W right b second y su w j q))))

abbrev and_rest : Scopes → Place → e.CExpr → e.CExpr → Translated → Elaborating Translated
and_rest scopes place left right a = do
  typing (typed.check_test place a.operand)
  x ← pull int_type
  b ← expression scopes right >>= read
  and_end place left right x a b

abbrev or_rest : Scopes → Place → e.CExpr → e.CExpr → Translated → Elaborating Translated
or_rest scopes place left right a = do
  typing (typed.check_test place a.operand)
  x ← pull int_type
  b ← expression scopes right >>= read
  or_end place left right x a b

-- ---- `?:`, behind its test

-- behind all three
abbrev chosen_last : Place → e.CExpr → ℕ → Translated → Translated → Translated → Elaborating Translated
chosen_last place test k c a b = do
  result ← typing (typed.gives_value place (o.common_type a.operand b.operand))
  add_temporary (pulled_name k) result.ctype
  let x = pulled_name k
  let chosen = If (test_of test c) (sequence (a.before ++ Set x (cast_into result.ctype a) ∷ [])) (sequence (b.before ++ Set x (cast_into result.ctype b) ∷ []))
  pure (record { before = c.before ++ chosen ∷ []; expr = Temp x result.ctype; operand = result })

chosen_third : {W : Setting} {one two three : Bool} {c a b : Number} {d up f : ℕ} {tc ta tb : Translated} (place : Place) (test : e.CExpr) (p : Progress) → Means W one c d up tc → Means W two a (up + 1) f ta → Means W three b f p.drawn tb → (is_truth test ≡ true → IsTruth c) →
    Gives (chosen_last place test (up + 1) tc ta tb p) (λ r. Means W false (numbers.chosen c a b) d r.1.drawn r.0)
chosen_third {W} {one} {two} {three} {c} {a} {b} {d} {up} {f} place test p (means first x st l) (means second y su g) (means third z sv h) i =
    let k = usual a.kind b.kind in
    let j = pulled_name (up + 1) in
    let branch = If (test_of test (record { before = first; expr = x; operand = record { ctype = Int c.kind; standing = st } })) (sequence (second ++ Set j (into a.kind k y) ∷ [])) (sequence (third ++ Set j (into b.kind k z) ∷ [])) in
    here (subst (λ q. Means W false (record { kind = q; value = option_and_then (by_zero (converted_to q b).value (converted_to q a).value) c.value }) d p.drawn (record { before = first ++ branch ∷ []; expr = Temp j (Int k); operand = o.value_of_type (Int k) })) (sym (common_is a.kind b.kind))
    (means (first ++ branch ∷ []) (Temp j (Int k)) standing.Value
    (branch_facts W one test c d up p.drawn first x st k (converted_to k b).value (converted_to k a).value (sequence (second ++ Set j (into a.kind k y) ∷ [])) (sequence (third ++ Set j (into b.kind k z) ∷ [])) i l (omega (arith, g.order, h.order)) (kept_range k b.value) (kept_range k a.value)
    (λ m n t held. part_ends W two a (up + 1) f up p.drawn (up + 1) second y (into a.kind k y) k (converted_to k a).value t g m (omega arith) (omega arith) h.order (omega (arith, g.order, h.order)) n held (λ q. ap (option_map (converted k)) q) (λ w q. (into_evals W.structs W.look w y a.kind k a.value q).value))
    (λ m n t held. part_ends W three b f p.drawn up p.drawn (up + 1) third z (into b.kind k z) k (converted_to k b).value t h m (omega arith) (omega (arith, g.order)) (omega arith) (omega (arith, g.order, h.order)) n held (λ q. ap (option_map (converted k)) q) (λ w q. (into_evals W.structs W.look w z b.kind k b.value q).value)))))

-- ---- all expressions

-- a number, and whether it is a truth where the expression is a test as it is written
abbrev Known : Setting → e.CExpr → Number → Type 0
Known W c n = Meant W (is_straight c) (expression W.scopes c) n × (is_truth c ≡ true → IsTruth n)

known : (W : Setting) (c : e.CExpr) → Has (number W.structs W.scopes W.variables c) (Meant W (is_straight c) (expression W.scopes c)) → Has (number W.structs W.scopes W.variables c) (Known W c)
known W c h = by (number W.structs W.scopes W.variables c) h (truths W.structs W.scopes W.variables c)
  where
    by : (o : Option Number) → Has o (Meant W (is_straight c) (expression W.scopes c)) → (is_truth c ≡ true → Has o IsTruth) → Has o (Known W c)
    by None h f = nothing
    by (Some n) h f = record { holds = (h.holds, λ q. (f q).holds) }

and_gives : (W : Setting) (straight : Bool) (place : Place) (left right : e.CExpr) (a b : Number) (c : ℕ) (s : Progress) (ta : Translated) → Means W straight a c s.drawn ta → (is_truth left ≡ true → IsTruth a) → Known W right b →
    Gives (and_rest W.scopes place left right ta s) (λ r. Means W false (both_true a b) c r.1.drawn r.0)
and_gives W straight place left right a b c s ta (means first x st f) i g =
    after ((expression W.scopes right >>= read) (drawn_for int_type s)) (value_meant W (is_straight right) b (expression W.scopes right) g.0 (drawn_for int_type s)) (λ tb u h. and_last place left right u (means first x st f) h i g.1)

or_gives : (W : Setting) (straight : Bool) (place : Place) (left right : e.CExpr) (a b : Number) (c : ℕ) (s : Progress) (ta : Translated) → Means W straight a c s.drawn ta → (is_truth left ≡ true → IsTruth a) → Known W right b →
    Gives (or_rest W.scopes place left right ta s) (λ r. Means W false (one_true a b) c r.1.drawn r.0)
or_gives W straight place left right a b c s ta (means first x st f) i g =
    after ((expression W.scopes right >>= read) (drawn_for int_type s)) (value_meant W (is_straight right) b (expression W.scopes right) g.0 (drawn_for int_type s)) (λ tb u h. or_last place left right u (means first x st f) h i g.1)

abbrev chosen_rest : Scopes → Place → e.CExpr → e.CExpr → e.CExpr → Translated → Elaborating Translated
chosen_rest scopes place test met unmet c = do
  typing (typed.check_test place c.operand)
  k ← draw
  a ← expression scopes met >>= read
  b ← expression scopes unmet >>= read
  chosen_last place test k c a b

chosen_gives : (W : Setting) (straight : Bool) (place : Place) (test met unmet : e.CExpr) (c a b : Number) (d : ℕ) (s : Progress) (tc : Translated) → Means W straight c d s.drawn tc → (is_truth test ≡ true → IsTruth c) → Meant W (is_straight met) (expression W.scopes met) a → Meant W (is_straight unmet) (expression W.scopes unmet) b →
    Gives (chosen_rest W.scopes place test met unmet tc s) (λ r. Means W false (numbers.chosen c a b) d r.1.drawn r.0)
chosen_gives W straight place test met unmet c a b d s tc (means first x st f) i ya na =
    after ((expression W.scopes met >>= read) (record s { drawn = s.drawn + 1 })) (value_meant W (is_straight met) a (expression W.scopes met) ya (record s { drawn = s.drawn + 1 })) (λ ta u h.
    after ((expression W.scopes unmet >>= read) u) (value_meant W (is_straight unmet) b (expression W.scopes unmet) na u) (λ tb v g. chosen_third place test v (means first x st f) h g i))

-- each name that stands in the expression is among those that hold numbers
abbrev pub Counted : Setting → e.CExpr → Type 0
Counted W c = (x : List ℕ) → occurs x c ≡ true → W.among x ≡ true

self_equal : (x : List ℕ) → bytes_eq x x ≡ true
self_equal x = (bytes_eq-Decides x x).1 refl

first_holds : (a b : Bool) → a ≡ true → (a || b) ≡ true
first_holds a b h = ap (λ t. t || b) h

second_holds : (a b : Bool) → b ≡ true → (a || b) ≡ true
second_holds true b h = refl
second_holds false b h = h

in_left : (W : Setting) (left right : e.CExpr) → ((x : List ℕ) → (occurs x left || occurs x right) ≡ true → W.among x ≡ true) → Counted W left
in_left W left right w = λ x h. w x (first_holds (occurs x left) (occurs x right) h)

in_right : (W : Setting) (left right : e.CExpr) → ((x : List ℕ) → (occurs x left || occurs x right) ≡ true → W.among x ≡ true) → Counted W right
in_right W left right w = λ x h. w x (second_holds (occurs x left) (occurs x right) h)

pub meant : (W : Setting) (c : e.CExpr) → Counted W c → Has (number W.structs W.scopes W.variables c) (Meant W (is_straight c) (expression W.scopes c))
meant W (e.Name i) w = named_meant W true i (meaning_of W.scopes i.name) (w i.name (self_equal i.name)) refl
meant W (e.Literal l) w = literal_meant W true l
meant W (e.Parenthesised' p (e.more_of-CExpr inner e.end_of-CExpr)) w = meant W inner w
meant W (e.Prefixed' prefixes p (e.more_of-CExpr operand e.end_of-CExpr)) w = prefixed_meant W (is_straight operand) prefixes (expression W.scopes operand) (number W.structs W.scopes W.variables operand) (meant W operand w)
meant W (e.SizeOf place n) w = size_meant W true place n
meant W (e.PostfixStep' p operand op place) w = nothing
meant W (e.Index' p array place q index) w = nothing
meant W (e.Call' p function place shape arguments) w = nothing
meant W (e.Member' p operand op place field) w = nothing
meant W (e.Binary' p (e.more_of-CExpr left e.end_of-CExpr) (binary.Int op) place q (e.more_of-CExpr right e.end_of-CExpr)) w =
    some_then (λ a. option_map (joined (binary.Int op) a) (number W.structs W.scopes W.variables right)) (number W.structs W.scopes W.variables left) (meant W left (in_left W left right w)) (λ a f.
    some_map (joined (binary.Int op) a) (number W.structs W.scopes W.variables right) (meant W right (in_right W left right w)) (λ b g. λ p.
    after ((expression W.scopes left >>= read) p) (value_meant W (is_straight left) a (expression W.scopes left) f p) (λ ta s h.
    after ((expression W.scopes right >>= read) s) (value_meant W (is_straight right) b (expression W.scopes right) g s) (λ tb u i. binary_meant op place u h i))))
meant W (e.Binary' p (e.more_of-CExpr left e.end_of-CExpr) binary.And place q (e.more_of-CExpr right e.end_of-CExpr)) w =
    some_then (λ a. option_map (joined binary.And a) (number W.structs W.scopes W.variables right)) (number W.structs W.scopes W.variables left) (known W left (meant W left (in_left W left right w))) (λ a f.
    some_map (joined binary.And a) (number W.structs W.scopes W.variables right) (known W right (meant W right (in_right W left right w))) (λ b g. λ p.
    after ((expression W.scopes left >>= read) p) (value_meant W (is_straight left) a (expression W.scopes left) f.0 p) (λ ta s h. and_gives W (is_straight left) place left right a b p.drawn s ta h f.1 g)))
meant W (e.Binary' p (e.more_of-CExpr left e.end_of-CExpr) binary.Or place q (e.more_of-CExpr right e.end_of-CExpr)) w =
    some_then (λ a. option_map (joined binary.Or a) (number W.structs W.scopes W.variables right)) (number W.structs W.scopes W.variables left) (known W left (meant W left (in_left W left right w))) (λ a f.
    some_map (joined binary.Or a) (number W.structs W.scopes W.variables right) (known W right (meant W right (in_right W left right w))) (λ b g. λ p.
    after ((expression W.scopes left >>= read) p) (value_meant W (is_straight left) a (expression W.scopes left) f.0 p) (λ ta s h. or_gives W (is_straight left) place left right a b p.drawn s ta h f.1 g)))
meant W (e.Conditional' p (e.more_of-CExpr test e.end_of-CExpr) place q (e.more_of-CExpr met e.end_of-CExpr) r (e.more_of-CExpr unmet e.end_of-CExpr)) w =
    some_then (λ c. option_and_then (λ a. option_map (numbers.chosen c a) (number W.structs W.scopes W.variables unmet)) (number W.structs W.scopes W.variables met)) (number W.structs W.scopes W.variables test) (known W test (meant W test (λ x h. w x (first_holds (occurs x test) (occurs x met || occurs x unmet) h)))) (λ c f.
    some_then (λ a. option_map (numbers.chosen c a) (number W.structs W.scopes W.variables unmet)) (number W.structs W.scopes W.variables met) (meant W met (λ x h. w x (second_holds (occurs x test) (occurs x met || occurs x unmet) (first_holds (occurs x met) (occurs x unmet) h)))) (λ a g.
    some_map (numbers.chosen c a) (number W.structs W.scopes W.variables unmet) (meant W unmet (λ x h. w x (second_holds (occurs x test) (occurs x met || occurs x unmet) (second_holds (occurs x met) (occurs x unmet) h)))) (λ b h. λ p.
    after ((expression W.scopes test >>= read) p) (value_meant W (is_straight test) c (expression W.scopes test) f.0 p) (λ tc s i. chosen_gives W (is_straight test) place test met unmet c a b p.drawn s tc i f.1 g h))))
meant W (e.Assign' p target op place q value) w = nothing
