-- Operators before a formula. The formula is read among their variables; then each makes a formula, the last one first.
-- What a quantifier of several variables makes is too large at its word, whichever of them makes it so.
use Rattle.std.specs.Prelude.{Bool, true, false, List, [], ◌∷◌, ◌++◌, Ok}
use Rattle.floyd_text.specs.declared.place.Place.{Place}
use Rattle.floyd_tree_sorts.specs.declared.connectives.FormulaHead.TheVariants as f
use Rattle.floyd_tree_sorts.specs.declared.sorts.Sort.{Sort}
use Rattle.floyd_tree.specs.Formulas.{PlainFormula}
use Rattle.floyd_termread_trees.specs.declared.written.Binder.{Binder}
use Rattle.floyd_termread_trees.specs.declared.written.Prefix.{Prefix}
use Rattle.floyd_termread_trees.specs.declared.written.Prefix.TheVariants as before
use Rattle.floyd_termread_scope.specs.Scopes.{Env, with_variable}
use Rattle.floyd_termread_scope.specs.WrittenSorts.{written_sort}
use Rattle.floyd_termread_wants.specs.Judging.{Judged, ◌>>=◌, cut_off, there}
use Rattle.floyd_termread_forms.specs.declared.frames.Frame.{Frame}
use Rattle.floyd_termread_forms.specs.declared.frames.Frame.TheVariants as frame
use Rattle.floyd_termread_forms.specs.Making.{written, negation, on_one}

abbrev pub quantified : Bool → Place → Binder → Sort → Frame
quantified true place b s = frame.Forall place b.name.name s
quantified false place b s = frame.Exists place b.name.name s

abbrev pub binder_frame : Bool → Place → Binder → Judged Frame
binder_frame all place b = there (written_sort b.sort) >>= λ s. Ok (quantified all place b s)

abbrev pub binder_frames : Bool → Place → List Binder → Judged (List Frame)
binder_frames all place [] = Ok []
binder_frames all place (b ∷ bs) = do
  x ← binder_frame all place b
  xs ← binder_frames all place bs
  Ok (x ∷ xs)

abbrev pub prefix_frames : Prefix → Judged (List Frame)
prefix_frames (before.Minus place) = cut_off
prefix_frames (before.Not place) = Ok (frame.Not place ∷ [])
prefix_frames (before.Forall place bs) = binder_frames true place bs
prefix_frames (before.Exists place bs) = binder_frames false place bs

abbrev pub frames : List Prefix → Judged (List Frame)
frames [] = Ok []
frames (p ∷ ps) = do
  xs ← prefix_frames p
  more ← frames ps
  Ok (xs ++ more)

abbrev pub under_one : Frame → Env → Env
under_one (frame.Not place) env = env
under_one (frame.Forall place x s) env = with_variable x s env
under_one (frame.Exists place x s) env = with_variable x s env

abbrev pub under : List Frame → Env → Env
under [] env = env
under (x ∷ xs) env = under xs (under_one x env)

abbrev pub framed : Frame → PlainFormula → Judged PlainFormula
framed (frame.Not place) y = written place (negation y)
framed (frame.Forall place x s) y = written place (on_one (f.Forall x s) y)
framed (frame.Exists place x s) y = written place (on_one (f.Exists x s) y)

abbrev pub wrapped : List Frame → PlainFormula → Judged PlainFormula
wrapped [] y = Ok y
wrapped (x ∷ xs) y = wrapped xs y >>= framed x

abbrev pub prefixed : List Prefix → (Env → Judged PlainFormula) → Env → Judged PlainFormula
prefixed ps inner env = do
  xs ← frames ps
  y ← inner (under xs env)
  wrapped xs y
