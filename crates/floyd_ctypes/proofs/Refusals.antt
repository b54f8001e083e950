-- Why a struct cannot be completed.
use Rattle.std.proofs.Common.{◌≡◌, Bool, true, false, ℕ, List, [], ◌∷◌, ◌&&◌, Option, None, Some, Result, Ok, Err, IsErrAnd, option_map, option_and_then, is_some, if◌then◌else◌, refl, ap, sym, subst, cond, ◌∙◌}
use Rattle.floyd_ctypes.specs.declared.define.DefineStop.{DefineStop}
use Rattle.floyd_ctypes.specs.declared.define.DefineStop.TheVariants.{Again, Incomplete, Memory}
use Rattle.floyd_ctypes.specs.declared.field.Field.{Field}
use Rattle.floyd_ctypes.specs.declared.layout.Layout.{Layout}
use Rattle.floyd_ctypes.specs.Define.{all_sized, refusal, Refuses, Answers}
use Rattle.floyd_ctypes.specs.Layout.{layout, laid_after, fields_layout, after, padded, nothing_laid}
use Rattle.floyd_ctypes.specs.Structs.{Structs, is_complete}

-- fields can be laid exactly where each has a size
sized-laid : (structs : Structs) (laid : Layout) (fs : List Field) → all_sized structs fs ≡ is_some (laid_after (layout structs) laid fs)
sized-laid structs laid [] = refl
sized-laid structs laid (f ∷ fs) = by (layout structs f.ty) (λ l. sized-laid structs (after laid l) fs)
  where
    by : (o : Option Layout) → ((l : Layout) → all_sized structs fs ≡ is_some (laid_after (layout structs) (after laid l) fs))
        → (is_some (option_map (λ (l : Layout). l.size) o) && all_sized structs fs) ≡ is_some (option_and_then (λ l. laid_after (layout structs) (after laid l) fs) o)
    by None more = refl
    by (Some l) more = more l

is_some-padded : (o : Option Layout) → is_some o ≡ is_some (option_map padded o)
is_some-padded None = refl
is_some-padded (Some l) = refl

sized-layout : (structs : Structs) (fs : List Field) → all_sized structs fs ≡ is_some (fields_layout (layout structs) fs)
sized-layout structs fs = sized-laid structs nothing_laid fs ∙ is_some-padded (laid_after (layout structs) nothing_laid fs)

-- nothing is refused where the fields were laid
pub refusal-laid : (structs : Structs) (tag : List ℕ) (fs : List Field) (l : Layout) → is_complete structs tag ≡ false → fields_layout (layout structs) fs ≡ Some l → refusal structs tag fs ≡ None
refusal-laid structs tag fs l open_yet laid =
    ap (λ b. if b then Some Again else if all_sized structs fs then None else Some Incomplete) open_yet
    ∙ ap (λ b. let r : Option DefineStop = if b then None else Some Incomplete in r) (sized-layout structs fs ∙ ap is_some laid)

pub refusal-unlaid : (structs : Structs) (tag : List ℕ) (fs : List Field) → is_complete structs tag ≡ false → fields_layout (layout structs) fs ≡ None → refusal structs tag fs ≡ Some Incomplete
refusal-unlaid structs tag fs open_yet unlaid =
    ap (λ b. if b then Some Again else if all_sized structs fs then None else Some Incomplete) open_yet
    ∙ ap (λ b. let r : Option DefineStop = if b then None else Some Incomplete in r) (sized-layout structs fs ∙ ap is_some unlaid)

pub laid_unrefused : (structs : Structs) (tag : List ℕ) (fs : List Field) (l : Layout) → false ≡ is_complete structs tag → Some l ≡ fields_layout (layout structs) fs → refusal structs tag fs ≡ None
laid_unrefused structs tag fs l open_yet laid = refusal-laid structs tag fs l (sym open_yet) (sym laid)

pub unlaid_refused : (structs : Structs) (tag : List ℕ) (fs : List Field) → false ≡ is_complete structs tag → None ≡ fields_layout (layout structs) fs → refusal structs tag fs ≡ Some Incomplete
unlaid_refused structs tag fs open_yet unlaid = refusal-unlaid structs tag fs (sym open_yet) (sym unlaid)

-- what is not refused is not complete
pub unrefused_open : (structs : Structs) (tag : List ℕ) (fs : List Field) → refusal structs tag fs ≡ None → is_complete structs tag ≡ false
unrefused_open structs tag fs e = by (is_complete structs tag) e
  where
    by : (b : Bool) → cond b (Some Again) (if all_sized structs fs then None else Some Incomplete) ≡ None → b ≡ false
    by true e = cc
    by false e = refl

-- a refusal that is handed on
pub handed_on : {X : Type 0} (answer : Result X DefineStop) (stop : DefineStop) (wanted : Option DefineStop) → IsErrAnd answer (λ e. e ≡ stop) → Refuses stop wanted → Answers answer wanted
handed_on (Ok x) stop wanted h refused = absurd h
handed_on (Err e) stop wanted h refused = subst (λ s. Refuses s wanted) (sym h) refused

-- want of memory is met where there is no refusal
pub memory_answers : {X : Type 0} (answer : Result X DefineStop) (wanted : Option DefineStop) → IsErrAnd answer (λ e. e ≡ Memory) → wanted ≡ None → Answers answer wanted
memory_answers (Ok x) wanted h none = absurd h
memory_answers (Err Again) wanted h none = cc
memory_answers (Err Incomplete) wanted h none = cc
memory_answers (Err Memory) wanted h none = none
