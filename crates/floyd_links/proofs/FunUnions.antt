-- The FUNs of all modules keep the rules where those of each module do.
use Rattle.std.proofs.Common.{◌≡◌, ℕ, Bool, true, false, cond, List, [], ◌∷◌, ◌++◌, Option, Some, None, refl, sym, ap, subst, ◌∙◌, append_assoc, append-nil}
use Rattle.std.specs.Prelude.{bytes_eq, if◌then◌else◌}
use Rattle.std.specs.List.{AllByRecursion, list_any}
use Rattle.std.proofs.lemmas.Slice.Eq.{bytes_eq-Decides}
use Rattle.floyd_ctypes.specs.Structs.{Structs}
use Rattle.floyd_tree_values.specs.Funs.{Fun}
use Rattle.floyd_tree_values.specs.Rules.{AllKeep, KeepsRules}
use Rattle.floyd_goal_laws.proofs.Growing.{AreAmong}
use Rattle.floyd_goal_meaning.specs.declared.linked.Module.{Module}
use Rattle.floyd_goal_meaning.specs.Programs.{of_modules, with_new}
use Rattle.floyd_links.proofs.KeepMore.{keeps_more}
use Rattle.floyd_links.proofs.Unions.{Alike, AllAlike, alike_new, alike_step, Apart, named, named_append, named_behind, none_named, step, step_has, step_keeps}

abbrev name_of : Fun → List ℕ
name_of f = f.name

itself : (x : List ℕ) → bytes_eq x x ≡ true
itself x = (bytes_eq-Decides x x).1 refl

abbrev found : List Fun → List ℕ → Option Fun
found all x = named name_of all x

-- one more behind those that keep the rules
keep_last : (structs : Structs) (before funs : List Fun) (f : Fun) → AllKeep structs before funs → KeepsRules structs (before ++ funs) f → AllKeep structs before (funs ++ f ∷ [])
keep_last structs before [] f h k = (subst (λ all. KeepsRules structs all f) (append-nil before) k, tt)
keep_last structs before (g ∷ funs) f h k =
    (h.0, keep_last structs (before ++ g ∷ []) funs f h.1 (subst (λ all. KeepsRules structs all f) (sym (append_assoc before (g ∷ []) funs)) k))

-- a name that stands before stands not behind
none_behind : (structs : Structs) (before funs : List Fun) (x : List ℕ) (g : Fun) → AllKeep structs before funs → found before x ≡ Some g → found funs x ≡ None
none_behind structs before [] x g h e = refl
none_behind structs before (f ∷ funs) x g h e = by (none_behind structs (before ++ f ∷ []) funs x g h.1) (bytes_eq x f.name) refl
  where
    clash : (o : Option Fun) → o ≡ None → o ≡ Some g → ⊥
    clash o p q = absurd cc

    by : (found (before ++ f ∷ []) x ≡ Some g → found funs x ≡ None) → (t : Bool) → bytes_eq x f.name ≡ t → cond (bytes_eq x f.name) (Some f) (found funs x) ≡ None
    by go true i = absurd (clash (found before f.name) h.0.name (ap (found before) (sym ((bytes_eq-Decides x f.name).0 i)) ∙ e))
    by go false i = ap (λ t. cond t (Some f) (found funs x)) i ∙ go (named_append name_of before (f ∷ []) x g e)

pub keep_apart : (structs : Structs) (before funs : List Fun) → AllKeep structs before funs → Apart name_of funs
keep_apart structs before [] h = tt
keep_apart structs before (f ∷ funs) h = (
  none_behind structs (before ++ f ∷ []) funs f.name f h.1 (named_behind name_of before (f ∷ []) f.name h.0.name ∙ ap (λ t. cond t (Some f) None) (itself f.name)),
  keep_apart structs (before ++ f ∷ []) funs h.1,
)

module _ (structs : Structs) where
  among_step : (before all : List Fun) (f : Fun) → AreAmong before all → ((g : Fun) → found all f.name ≡ Some g → g ≡ f) → AreAmong (before ++ f ∷ []) (step name_of all f)
  among_step before all f k h x g e = by (found before x) refl
    where
      last : (t : Bool) → bytes_eq x f.name ≡ t → cond t (Some f) None ≡ Some g → found (step name_of all f) x ≡ Some g
      last true i q = let same : f ≡ g = cc in ap (found (step name_of all f)) ((bytes_eq-Decides x f.name).0 i) ∙ step_has name_of all f h ∙ ap Option.Some same
      last false i q = absurd cc

      by : (o : Option Fun) → found before x ≡ o → found (step name_of all f) x ≡ Some g
      by (Some c) i = step_keeps name_of all f x g (k x g (i ∙ sym (named_append name_of before (f ∷ []) x c i) ∙ e))
      by None i = last (bytes_eq x f.name) refl (sym (named_behind name_of before (f ∷ []) x i) ∙ e)

  keep_step : (before all : List Fun) (f : Fun) → AllKeep structs [] all → KeepsRules structs before f → AreAmong before all → AllKeep structs [] (step name_of all f)
  keep_step before all f h k among = by (list_any (λ g. bytes_eq f.name (name_of g)) all) refl
    where
      by : (t : Bool) → list_any (λ g. bytes_eq f.name (name_of g)) all ≡ t → AllKeep structs [] (if t then all else all ++ f ∷ [])
      by true i = h
      by false i = keep_last structs [] all f h (keeps_more structs before all among f (none_named name_of all f.name i) k)

  new_keep : (before all others : List Fun) → AllKeep structs [] all → AllKeep structs before others → AreAmong before all → Apart name_of others → Alike name_of all others → AllKeep structs [] (with_new name_of all others)
  new_keep before all [] h k among apart alike = h
  new_keep before all (f ∷ others) h k among apart alike =
      new_keep (before ++ f ∷ []) (step name_of all f) others (keep_step before all f h k.0 among) k.1
      (among_step before all f among (λ g q. alike f.name g f q (ap (λ t. cond t (Some f) (found others f.name)) (itself f.name))))
      apart.1 (alike_step name_of all others f apart alike)

  pub union_keep : (items : Module → List Fun) (all : List Fun) (modules : List Module) → AllKeep structs [] all → AllByRecursion (λ m. AllKeep structs [] (items m)) modules → AllByRecursion (λ m. Alike name_of all (items m)) modules → AllAlike name_of items modules → AllKeep structs [] (of_modules name_of items all modules)
  union_keep items all [] h k a b = h
  union_keep items all (m ∷ modules) h k a b =
      let apart = keep_apart structs [] (items m) k.0 in
      union_keep items (with_new name_of all (items m)) modules
      (new_keep [] all (items m) h k.0 (λ x g e. absurd cc) apart a.0)
      k.1 (alike_next modules apart a.1 b.0) b.1
    where
      alike_next : (others : List Module) → Apart name_of (items m) → AllByRecursion (λ n. Alike name_of all (items n)) others → AllByRecursion (λ n. Alike name_of (items m) (items n)) others → AllByRecursion (λ n. Alike name_of (with_new name_of all (items m)) (items n)) others
      alike_next [] p q r = tt
      alike_next (n ∷ others) p q r = (alike_new name_of all (items m) (items n) p q.0 r.0, alike_next others p q.1 r.1)
