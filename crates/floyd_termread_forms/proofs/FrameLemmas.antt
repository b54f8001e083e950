-- What variables are bound, and that what they hid is put back.
use Rattle.std.proofs.Common.{◌≡◌, ◌<◌, ℕ, suc, Bool, true, false, cond, drop, get_or, List, [], ◌∷◌, Option, Some, Ok, option_map, bytes_eq, length, ◌+◌, refl, ap, sym, ◌∙◌}
use Rattle.std.proofs.Math.Path.{fun_ext}
use Rattle.std.proofs.lemmas.List.{drop_more}
use Rattle.std.specs.Option.{option_or}
use Rattle.std.proofs.lemmas.Slice.Eq.{bytes_eq-Decides}
use Rattle.floyd_tree_sorts.specs.declared.sorts.Sort.{Sort}
use Rattle.floyd_termread_scope.specs.declared.scope.Scope.{Scope}
use Rattle.floyd_termread_scope.specs.declared.variables.Variables.{Variables}
use Rattle.floyd_termread_scope.specs.Scopes.{Env, env, sort_of, with_variable}
use Rattle.floyd_termread_forms.specs.declared.frames.Frame.{Frame}
use Rattle.floyd_termread_forms.specs.declared.frames.Frame.TheVariants as frame
use Rattle.floyd_termread_forms.specs.FrameClauses.{Sorts, with_sort, bound_by, hidden_by, put_back, bound_by_all, hidden_by_all, put_back_all}
use Rattle.floyd_tree.specs.Formulas.{PlainFormula}
use Rattle.floyd_termread_trees.specs.declared.written.Prefix.{Prefix}
use Rattle.floyd_termread_wants.specs.Judging.{Judged, ◌>>=◌}
use Rattle.floyd_termread_forms.specs.Frames.{under_one, under, frames, wrapped, prefixed}

abbrev env_of : Scope → Sorts → Env
env_of s sorts = record {
  variable = λ x. option_or (sorts x) (sort_of s.variables x);
  defs = s.defs.now;
  specs = s.specs.now;
  locals = option_map (λ names. names.now) s.locals;
}

-- equal variables are one scope
pub same_env : (s : Scope) (b c : Variables) → sort_of b ≡ sort_of c → env s b ≡ env s c
same_env s b c e = ap (env_of s) e

or_of : (t : Bool) (s : Sort) (a b : Option Sort) → option_or (cond t (Some s) a) b ≡ cond t (Some s) (option_or a b)
or_of true s a b = refl
or_of false s a b = refl

with_one : (s : Scope) (x : List ℕ) (t : Sort) (sorts : Sorts) → env_of s (with_sort x (Some t) sorts) ≡ with_variable x t (env_of s sorts)
with_one s x t sorts =
    ap (λ (v : Sorts). record (env_of s sorts) { variable = v }) (fun_ext (λ y. or_of (bytes_eq x y) t (sorts y) (sort_of s.variables y)))

under_frame : (s : Scope) (one : Frame) (sorts : Sorts) → env_of s (bound_by one sorts) ≡ under_one one (env_of s sorts)
under_frame s (frame.Not place) sorts = refl
under_frame s (frame.Forall place x t) sorts = with_one s x t sorts
under_frame s (frame.Exists place x t) sorts = with_one s x t sorts

under_frames : (s : Scope) (xs : List Frame) (sorts : Sorts) → env_of s (bound_by_all xs sorts) ≡ under xs (env_of s sorts)
under_frames s [] sorts = refl
under_frames s (x ∷ xs) sorts = under_frames s xs (bound_by x sorts) ∙ ap (under xs) (under_frame s x sorts)

-- the scope under operators
pub under_is : (s : Scope) (xs : List Frame) (b c : Variables) → sort_of c ≡ bound_by_all xs (sort_of b) → env s c ≡ under xs (env s b)
under_is s xs b c e = ap (env_of s) e ∙ under_frames s xs (sort_of b)

-- a formula under operators, as it is read among their variables
pub under_read : (s : Scope) (ps : List Prefix) (fs : List Frame) (b c : Variables) (inner : Env → Judged PlainFormula) → frames ps ≡ Ok fs → sort_of c ≡ bound_by_all fs (sort_of b)
    → prefixed ps inner (env s b) ≡ (inner (env s c) >>= wrapped fs)
under_read s ps fs b c inner read bound =
    ap (λ (r : Judged (List Frame)). r >>= λ xs. inner (under xs (env s b)) >>= λ y. wrapped xs y) read
    ∙ ap (λ (e : Env). inner e >>= wrapped fs) (sym (under_is s fs b c bound))

restored_at : (x y : List ℕ) (s : Option Sort) (sorts : Sorts) (t : Bool) → bytes_eq x y ≡ t → cond t (sorts x) (cond t s (sorts y)) ≡ sorts y
restored_at x y s sorts true e = ap sorts ((bytes_eq-Decides x y).0 e)
restored_at x y s sorts false e = refl

restored : (x : List ℕ) (s : Option Sort) (sorts : Sorts) → with_sort x (sorts x) (with_sort x s sorts) ≡ sorts
restored x s sorts = fun_ext (λ y. restored_at x y s sorts (bytes_eq x y) refl)

one_back : (one : Frame) (sorts : Sorts) → put_back one (hidden_by one sorts) (bound_by one sorts) ≡ sorts
one_back (frame.Not place) sorts = refl
one_back (frame.Forall place x s) sorts = restored x (Some s) sorts
one_back (frame.Exists place x s) sorts = restored x (Some s) sorts

pub all_back : (xs : List Frame) (sorts : Sorts) → put_back_all xs (hidden_by_all xs sorts) (bound_by_all xs sorts) ≡ sorts
all_back [] sorts = refl
all_back (x ∷ xs) sorts = ap (put_back x (hidden_by x sorts)) (all_back xs (bound_by x sorts)) ∙ one_back x sorts

pub hidden_count : (xs : List Frame) (sorts : Sorts) → length (hidden_by_all xs sorts) ≡ length xs
hidden_count [] sorts = refl
hidden_count (x ∷ xs) sorts = ap suc (hidden_count xs (bound_by x sorts))

-- what one variable of another sort makes of all
pub sorts_are : (old new : Sorts) (n m : List ℕ) (s t : Option Sort) → n ≡ m → s ≡ t → ((x : List ℕ) → new x ≡ cond (bytes_eq n x) s (old x)) → new ≡ with_sort m t old
sorts_are old new n m s t same sort h =
    fun_ext (λ x. h x ∙ ap (λ (y : List ℕ). cond (bytes_eq y x) s (old x)) same ∙ ap (λ (o : Option Sort). cond (bytes_eq m x) o (old x)) sort)

-- what all variables are behind operators, where what they hid was put back
pub put_back_is : (fs : List Frame) (hidden : List (Option Sort)) (start under_all inside behind : Sorts) → under_all ≡ bound_by_all fs start → hidden ≡ hidden_by_all fs start → inside ≡ under_all → behind ≡ put_back_all fs hidden inside
    → behind ≡ start
put_back_is fs hidden start under_all inside behind bound kept same back =
    back ∙ ap (λ (hs : List (Option Sort)). put_back_all fs hs inside) kept ∙ ap (put_back_all fs (hidden_by_all fs start)) (same ∙ bound) ∙ all_back fs start

-- what one operator more puts back
pub back_next : (fs : List Frame) (hs : List (Option Sort)) (k j : ℕ) (one : Frame) (h : Option Sort) (start inside behind : Sorts) → j + 1 ≡ k → j < length fs → j < length hs → one ≡ get_or fs j one → h ≡ get_or hs j h
    → inside ≡ put_back_all (drop k fs) (drop k hs) start → behind ≡ put_back one h inside → behind ≡ put_back_all (drop j fs) (drop j hs) start
back_next fs hs k j one h start inside behind step in_frames in_hidden is_frame is_hidden so_far back =
    let frames_left : drop j fs ≡ one ∷ drop (j + 1) fs = drop_more fs j one in_frames ∙ ap (λ (v : Frame). v ∷ drop (j + 1) fs) (sym is_frame) in
    let hidden_left : drop j hs ≡ h ∷ drop (j + 1) hs = drop_more hs j h in_hidden ∙ ap (λ (v : Option Sort). v ∷ drop (j + 1) hs) (sym is_hidden) in
    back
    ∙ ap (put_back one h) (so_far ∙ sym (ap (λ n. put_back_all (drop n fs) (drop n hs) start) step))
    ∙ sym (ap (λ (v : List Frame). put_back_all v (drop j hs) start) frames_left ∙ ap (λ (v : List (Option Sort)). put_back_all (one ∷ drop (j + 1) fs) v start) hidden_left)
