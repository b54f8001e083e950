-- A main whose proof plays through is sound.
use Rattle.std.proofs.Common.{◌≡◌, ℕ, Bool, true, false, cond, List, [], ◌∷◌, Option, Some, None, Ok, refl, sym, subst, ap, bytes_eq}
use Rattle.std.specs.Prelude.{option_map}
use Rattle.std.proofs.lemmas.Slice.Eq.{bytes_eq-Decides}
use Rattle.floyd_int.specs.declared.kinds.Value.{Value}
use Rattle.floyd_int.specs.declared.kinds.Value.TheVariants.{Vundef, Vint, Vlong, Vptr}
use Rattle.floyd_ctypes.specs.Has.{has}
use Rattle.floyd_clight.specs.declared.syntax.Stmt.{Stmt}
use Rattle.floyd_stub_machine.specs.Evaluation.{Ident, unset}
use Rattle.floyd_clight.specs.Flat.{flat}
use Rattle.floyd_stub_machine.specs.Machine.{Act, Run, Fun, Def, Own, bind_params}
use Rattle.floyd_stub_assert.specs.declared.funspec.Precondition.{Precondition}
use Rattle.floyd_stub_assert.specs.declared.funspec.Precondition.TheVariants.{Main}
use Rattle.floyd_stub_assert.specs.declared.funspec.Funspec.{Funspec}
use Rattle.floyd_stub_assert.specs.Heaplet.{Heaplet, empty}
use Rattle.floyd_stub_assert.specs.Data.{Env}
use Rattle.floyd_stub_assert.specs.Spec.{Asked}
use Rattle.floyd_stub_assert.specs.declared.term.Term.{Term}
use Rattle.floyd_stub_runs.specs.World.{World}
use Rattle.floyd_stub_runs.specs.Linked.{Function, PreOf, PostOf, world, main, int, main_body, linked}
use Rattle.floyd_stub_runs.specs.Runs.{has_result}
use Rattle.floyd_stub_runs.specs.Sound.{Sound}
use Rattle.floyd_stub_runs.specs.Safe.{Exit, Normal, Broke, Continued, Returned, Exits, Part, with_normal, CallExits, SafeAll}
use Rattle.floyd_stub_runs.proofs.HeapLaws.{right_empty}
use Rattle.floyd_stub_runs.proofs.Safety.{conseq}
use Rattle.floyd_stub_runs.proofs.Induction.{body_exits, DefHolds, AllHold}
use Rattle.floyd_stub_runs.proofs.Adequate.{EndsWell, sound_run}
use Rattle.floyd_stub_goal.specs.declared.script.Proof.{Proof}
use Rattle.floyd_stub_goal.specs.declared.goal.Exits as g
use Rattle.floyd_stub_goal.specs.GoalHolds.{Stands, Leaves, GoalHolds}
use Rattle.floyd_stub_goal.specs.Starts.{nowhere, start_source, main_start}
use Rattle.floyd_stub_play.specs.Derivation.{played}
use Rattle.floyd_stub_play.proofs.Plays.{start_holds}

exits_map : (E E' F F' : Exits) (A A' : Act → Heaplet → Type 0) → ((act : Act) (h : Heaplet) → A act h → A' act h) → ((x : Exit) (h : Heaplet) → E x h → E' x h) → (x : Exit) (h : Heaplet) → with_normal A E x h → with_normal A' E' x h
exits_map E E' F F' A A' f g (Normal act) h p = f act h p
exits_map E E' F F' A A' f g (Broke act) h p = g (Broke act) h p
exits_map E E' F F' A A' f g (Continued act) h p = g (Continued act) h p
exits_map E E' F F' A A' f g (Returned v) h p = g (Returned v) h p

-- statements are safe for weaker exits too
safe_all_map : (W : World) (n : ℕ) (ss : List Stmt) (E E' : Exits) → ((x : Exit) (h : Heaplet) → E x h → E' x h) → (act : Act) (h : Heaplet) → SafeAll W n ss E act h → SafeAll W n ss E' act h
safe_all_map W n [] E E' f act h p = f (Normal act) h p
safe_all_map W n (s ∷ ss) E E' f act h p =
    conseq W Part n (Run s [] act) h (with_normal (SafeAll W n ss E) E) (with_normal (SafeAll W n ss E') E')
    (exits_map E E' E E' (SafeAll W n ss E) (SafeAll W n ss E') (safe_all_map W n ss E E' f) f) p

abbrev main_fun : List Stmt → Fun
main_fun statements = record { result = int; params = []; body = main_body statements }

abbrev main_function : List Stmt → Funspec → Function
main_function statements spec = record { name = main; spec = spec; def = Own (main_fun statements) }

-- main, where the name is its own
abbrev if_main : List Stmt → Funspec → Bool → Option Function
if_main statements spec b = cond b (Some (main_function statements spec)) None

abbrev def_if : List Stmt → Funspec → Bool → Option Def
def_if statements spec b = option_map (λ (g : Function). g.def) (if_main statements spec b)

abbrev main_exits : Funspec → g.Exits
main_exits spec = record { normal = nowhere; ret = record { post = spec.post; value = spec.value; result = int } }

leaves_main : (statements : List Stmt) (spec : Funspec) (f : Ident) → bytes_eq f main ≡ true → (x : Env) (e : Exit) (h : Heaplet) → Leaves x (main_exits spec) e h → body_exits (world (linked statements spec)) f x e h
leaves_main statements spec f i x (Normal act) h p = absurd p.holds.prop.0
leaves_main statements spec f i x (Broke act) h p = absurd p
leaves_main statements spec f i x (Continued act) h p = absurd p
leaves_main statements spec f i x (Returned v) h p = (
  subst (λ b. has_result (def_if statements spec b) v ≡ true) (sym i) p.typed,
  subst (λ b. PostOf (if_main statements spec b) x v h) (sym i) (record { prop = p.prop; returned = p.returned; sep = p.sep }),
)

nothing : {t : Term} → None ≡ Some t → ⊥
nothing e = cc

asked_none : (pre : Precondition) (x : Env) (args : List Value) (h : Heaplet) → Asked pre x args h → args ≡ []
asked_none Main x args h p = p.0

source_stands : (pre : Precondition) (x : Env) (args : List Value) (h : Heaplet) → Asked pre x args h → Stands x int (start_source pre) (record { result = int; temps = unset; blocks = [] }) h
source_stands Main x args h p = record { typed = refl; blocks = refl; holds = record { prop = tt; local = record { each = λ y t e. absurd (nothing e) }; sep = p.1 } }

main_def : (statements : List Stmt) (spec : Funspec) (f : Ident) → ((n : ℕ) → GoalHolds (world (linked statements spec)) n (main_start statements spec)) → (b : Bool) → bytes_eq f main ≡ b → DefHolds (world (linked statements spec)) f (def_if statements spec b)
main_def statements spec f s true i = λ n keeps x args h p.
    let q = subst (λ b. PreOf (if_main statements spec b) x args h) i p in
    record {
      temps = unset;
      binds = ap (λ as'. bind_params [] as' unset) (asked_none spec.pre x args h q);
      runs = safe_all_map (world (linked statements spec)) n (flat (main_body statements)) (Leaves x (main_exits spec)) (body_exits (world (linked statements spec)) f x) (leaves_main statements spec f i x) _ h
          (s n x tt keeps _ h (source_stands spec.pre x args h q));
    }
main_def statements spec f s false i = λ x args h p. subst (λ b. PreOf (if_main statements spec b) x args h) i p

main_all : (statements : List Stmt) (spec : Funspec) → ((n : ℕ) → GoalHolds (world (linked statements spec)) n (main_start statements spec)) → AllHold (world (linked statements spec))
main_all statements spec s f = main_def statements spec f s (bytes_eq f main) refl

int_ends : (v : Value) → has int v ≡ true → (n : ℕ) × (v ≡ Vint n)
int_ends Vundef e = cc
int_ends (Vint n) e = (n, refl)
int_ends (Vlong n) e = cc
int_ends (Vptr b o) e = cc

main_is_main : bytes_eq main main ≡ true
main_is_main = (bytes_eq-Decides main main).1 refl

main_ends : (statements : List Stmt) (spec : Funspec) (x : Env) → EndsWell (CallExits (world (linked statements spec)) main x)
main_ends statements spec x v h p = int_ends v (subst (λ b. has_result (def_if statements spec b) v ≡ true) main_is_main p.0)

-- a main whose proof plays through is sound
pub main_sound : (statements : List Stmt) (spec : Funspec) (proof : Proof) → played proof (main_start statements spec) ≡ Ok tt → Sound (linked statements spec)
main_sound statements spec proof e = λ blocks m s n answers l.
    sound_run (world (linked statements spec)) main m (main_all statements spec (λ k. start_holds (world (linked statements spec)) k proof (main_start statements spec) e))
    s.with s.heaplet empty s.heaplet s.pre (right_empty s.heaplet) s.fits (main_ends statements spec s.with) n answers l
