-- States along a play.
use Rattle.std.proofs.Common.{◌≡◌, ◌≤◌, ◌<◌, ◌+◌, ℕ, List, [], ◌∷◌, ◌++◌, drop, get_or, length, Result, Ok, Err, refl, ap, sym, subst, ◌∙◌, arith, zero-add}
use Rattle.std.specs.List.{AllByRecursion}
use Rattle.std.specs.Result.{IsErrAnd}
use Rattle.std.proofs.lemmas.List.{drop_more, length-append}
use Rattle.floyd_text.specs.declared.place.Place.{Place}
use Rattle.floyd_text.specs.declared.refusal.Halt.{Halt}
use Rattle.floyd_text.specs.declared.refusal.Halt.TheVariants.{Refused, Memory}
use Rattle.floyd_text.specs.declared.refusal.No.{No}
use Rattle.floyd_text.specs.declared.refusal.Refusal.{Refusal}
use Rattle.floyd_text.specs.Gives.{Gives, Stops}
use Rattle.floyd_assert_trees.specs.declared.items.Defs.{Defs}
use Rattle.floyd_assert_trees.specs.declared.spec.SpecTable.{SpecTable}
use Rattle.floyd_assert_trees.specs.Sizes.{sum_of}
use Rattle.floyd_goal.specs.Rows.{Answer}
use Rattle.floyd_goal.specs.Stacks.{most, pushed}
use Rattle.floyd_goal_trees.specs.declared.args.Args.{Args}
use Rattle.floyd_goal_trees.specs.declared.goal.Goal.{Goal}
use Rattle.floyd_goal_trees.specs.Sizes.{goal_size}
use Rattle.floyd_script_trees.specs.declared.trees.Command.{Command}
use Rattle.floyd_play_steps.specs.Few.{AllHaveFew, HasFewOfBoth}
use Rattle.floyd_play_steps.specs.Forms.{AreWellFormed, CommandsKeepForms, IsCommand}
use Rattle.floyd_play_reading.specs.Answers.{IsAnswer}
use Rattle.floyd_play_reading.specs.Arguments.{AreRead}
use Rattle.floyd_play_rows.specs.Rows.{Row}
use Rattle.floyd_play_steps.specs.declared.state.PlayState.{PlayState}
use Rattle.floyd_play_steps.specs.declared.state.Start.{Start}
use Rattle.floyd_play_steps.specs.Plays.{Goes, nothing_made, started, started_by}
use Rattle.floyd_play_steps.specs.Steps.{Advances, FirstIsWellFormed, Makes, MakesWith, OnGoals, Played, after, at_command, put, with_goals, with_left}
use Rattle.floyd_play_steps.proofs.StepLemmas.{Pushed, pushed_is}

-- ---- one command

abbrev some_played : PlayState → Played
some_played s = Ok s

-- what a command made of the first goal
pub record Step (c : Command) (s : PlayState) (defs : Defs) (specs : SpecTable) (n : PlayState) : Type 0 where
  pub goal : Goal
  pub left : List Goal
  pub made : List Goal
  pub args : Args
  pub first : s.stack ≡ goal ∷ left
  pub read : AreRead c.bytes c.tokens defs specs s.blocks goal c.rule (Ok args)
  pub row : Row defs c.rule goal args (Ok made)
  pub push : pushed made s.stack ≡ Ok n.stack
  pub count : n.made ≡ s.made + length made
  pub blocks : n.blocks ≡ s.blocks

module _ (c : Command) (s : PlayState) (defs : Defs) (specs : SpecTable) (n : PlayState) where
  put_as : (k : ℕ) (o : Result (List Goal) No) → some_played n ≡ with_left c s k o → (o ≡ Ok n.stack) × (n.made ≡ s.made + k) × (n.blocks ≡ s.blocks)
  put_as k (Ok left) e =
      let same : n ≡ with_goals s k left = cc in
      (ap (λ (t : PlayState). Ok t.stack) (sym same), ap (λ (t : PlayState). t.made) same, ap (λ (t : PlayState). t.blocks) same)
  put_as k (Err why) e = absurd cc

  by_row : (goal : Goal) (left made : List Goal) (args : Args) → s.stack ≡ goal ∷ left → AreRead c.bytes c.tokens defs specs s.blocks goal c.rule (Ok args) → Row defs c.rule goal args (Ok made) → some_played n ≡ put c s made → Step c s defs specs n
  by_row goal left made args first read row e =
      let p = put_as (length made) (pushed made s.stack) e in
      record { goal = goal; left = left; made = made; args = args; first = first; read = read; row = row; push = p.0; count = p.1; blocks = p.2 }

  abbrev ok_goals : List Goal → Result (List Goal) Refusal
  ok_goals made = Ok made

  by_answer : (goal : Goal) (left made : List Goal) (args : Args) (answer : Answer) → s.stack ≡ goal ∷ left → AreRead c.bytes c.tokens defs specs s.blocks goal c.rule (Ok args) → Row defs c.rule goal args answer → ok_goals made ≡ at_command c s answer → some_played n ≡ put c s made → Step c s defs specs n
  by_answer goal left made args (Ok all) first read row is e =
      let same : made ≡ all = cc in
      by_row goal left made args first read (subst (λ (gs : List Goal). Row defs c.rule goal args (Ok gs)) (sym same) row) e
  by_answer goal left made args (Err why) first read row is e = absurd cc

  by_args : (goal : Goal) (left made : List Goal) (args : Result Args Refusal) → s.stack ≡ goal ∷ left → AreRead c.bytes c.tokens defs specs s.blocks goal c.rule args → MakesWith c s defs specs goal args (Ok made) → some_played n ≡ put c s made → Step c s defs specs n
  by_args goal left made (Ok args) first read m e = by_answer goal left made args m.0 first read m.1 m.2 e
  by_args goal left made (Err why) first read m e = absurd cc

  by_made : (goal : Goal) (left : List Goal) (made : Result (List Goal) Refusal) → s.stack ≡ goal ∷ left → Makes c s defs specs goal made → some_played n ≡ after c s made → Step c s defs specs n
  by_made goal left (Ok made) first m e = by_args goal left made m.0 first m.1 m.2 e
  by_made goal left (Err why) first m e = absurd cc

  by_goals : (goals : List Goal) → s.stack ≡ goals → OnGoals c s defs specs goals (Ok n) → Step c s defs specs n
  by_goals [] first h = absurd cc
  by_goals (goal ∷ left) first h = by_made goal left h.0 first h.1 h.2

  pub step_of : Advances c s defs specs (Ok n) → Step c s defs specs n
  step_of h = by_goals s.stack refl h

  -- how many were made
  pub counted : (i : ℕ) → Step c s defs specs n → s.made ≡ length s.stack + i → n.made ≡ length n.stack + (i + 1)
  counted i st h =
      let now : length n.stack ≡ length st.made + length (drop 1 s.stack) = ap (λ (gs : List Goal). length gs) (pushed_is st.made s.stack n.stack st.push).is ∙ length-append st.made (drop 1 s.stack) in
      let old : length s.stack ≡ length (st.goal ∷ st.left) = ap (λ (gs : List Goal). length gs) st.first in
      let rest : length (drop 1 s.stack) ≡ length st.left = ap (λ (gs : List Goal). length (drop 1 gs)) st.first in
      let one : length (st.goal ∷ st.left) ≡ length st.left + 1 = omega arith in
      omega (arith, now, old, rest, one, st.count, h)

  pub small : Step c s defs specs n → sum_of goal_size n.stack ≤ most
  small st = (pushed_is st.made s.stack n.stack st.push).small

  both_formed : (made left : List Goal) → AreWellFormed defs specs made → AreWellFormed defs specs left → AreWellFormed defs specs (made ++ left)
  both_formed [] left m l = l
  both_formed (g ∷ made) left m l = (m.0, both_formed made left m.1 l)

  first_size : (goal : Goal) (left : List Goal) → sum_of goal_size (goal ∷ left) ≤ most → goal_size goal ≤ most
  first_size goal left h = omega (arith, h)

  pub few_first : Step c s defs specs n → AllHaveFew s.stack → (goal : Goal) (left : List Goal) → s.stack ≡ goal ∷ left → HasFewOfBoth goal
  few_first st h goal left e = let all : AllHaveFew (goal ∷ left) = subst AllHaveFew e h in all.0

  pub formed : CommandsKeepForms defs specs → IsCommand c → sum_of goal_size s.stack ≤ most → AllHaveFew s.stack → Step c s defs specs n → AreWellFormed defs specs s.stack → AreWellFormed defs specs n.stack
  formed keep command size few st h =
      let all : AreWellFormed defs specs (st.goal ∷ st.left) = subst (AreWellFormed defs specs) st.first h in
      let fits : goal_size st.goal ≤ most = first_size st.goal st.left (subst (λ (gs : List Goal). sum_of goal_size gs ≤ most) st.first size) in
      let both : HasFewOfBoth st.goal = few_first st few st.goal st.left st.first in
      let made : AreWellFormed defs specs st.made = keep s.blocks c st.goal st.args st.made command all.0 both.0 both.1 fits st.read st.row in
      let is : n.stack ≡ st.made ++ st.left = (pushed_is st.made s.stack n.stack st.push).is ∙ ap (λ (gs : List Goal). st.made ++ drop 1 gs) st.first in
      subst (AreWellFormed defs specs) (sym is) (both_formed st.made st.left made all.1)

pub first_formed : (defs : Defs) (specs : SpecTable) (goals : List Goal) → AreWellFormed defs specs goals → FirstIsWellFormed defs specs goals
first_formed defs specs [] h = tt
first_formed defs specs (g ∷ gs) h = h.0

-- the next command, and those behind it
pub next_command : {A : Type 0} (xs : List A) (i : ℕ) (x : A) → i < length xs → x ≡ get_or xs i x → drop i xs ≡ x ∷ drop (i + 1) xs
next_command xs i x within here = drop_more xs i x within ∙ ap (λ y. y ∷ drop (i + 1) xs) (sym here)

pub next_of : {A : Type 0} (P : A → Type 0) (x : A) (rest more : List A) → rest ≡ x ∷ more → AllByRecursion P rest → P x × AllByRecursion P more
next_of P x rest more e h = let all : AllByRecursion P (x ∷ more) = subst (AllByRecursion P) e h in (all.0, all.1)

-- ---- the start

module _ (place : Place) (start : Start) where
  -- what is left at the start
  started_by_is : (k : ℕ) (o : Result (List Goal) No) (s : PlayState) → started_by place start.blocks k o ≡ some_played s → (o ≡ Ok s.stack) × (s.made ≡ 0 + k) × (s.blocks ≡ start.blocks)
  started_by_is k (Ok left) s e =
      let same : with_goals (nothing_made start.blocks) k left ≡ s = cc in
      (ap (λ (t : PlayState). Ok t.stack) same, ap (λ (t : PlayState). t.made) (sym same), ap (λ (t : PlayState). t.blocks) (sym same))
  started_by_is k (Err why) s e = absurd cc

  pub record Started (s : PlayState) : Type 0 where
    pub push : pushed start.goals [] ≡ Ok s.stack
    pub stack : s.stack ≡ start.goals
    pub small : sum_of goal_size s.stack ≤ most
    pub count : s.made ≡ length s.stack
    pub blocks : s.blocks ≡ start.blocks

  none_behind : (goals : List Goal) → goals ++ drop 1 [] ≡ goals
  none_behind [] = refl
  none_behind (g ∷ gs) = ap (λ (hs : List Goal). g ∷ hs) (none_behind gs)

  pub at_start : (s : PlayState) → started place start ≡ Ok s → Started s
  at_start s e =
      let p = started_by_is (length start.goals) (pushed start.goals []) s e in
      let q : Pushed start.goals [] s.stack = pushed_is start.goals [] s.stack p.0 in
      let stack : s.stack ≡ start.goals = q.is ∙ none_behind start.goals in
      record {
        push = p.0;
        stack = stack;
        small = q.small;
        count = p.1 ∙ zero-add (length start.goals) ∙ ap (λ (gs : List Goal). length gs) (sym stack);
        blocks = p.2;
      }

-- ---- all commands

module _ (defs : Defs) (specs : SpecTable) where
  -- what follows these commands is what follows all
  abbrev pub SoFar : List Command → PlayState → List Command → PlayState → Type 0
  SoFar all start rest now = (played : Played) → Goes defs specs rest (Ok now) played → Goes defs specs all (Ok start) played

  pub one_more : (all : List Command) (start : PlayState) (rest more : List Command) (now next : PlayState) (c : Command) → SoFar all start rest now → rest ≡ c ∷ more → Advances c now defs specs (Ok next) → SoFar all start more next
  one_more all start rest more now next c so_far e h = λ played goes. so_far played (subst (λ (cs : List Command). Goes defs specs cs (Ok now) played) (sym e) (Ok next, h, goes))

  refused : (cs : List Command) (refusal : Refusal) → Goes defs specs cs (Err refusal) (Err refusal)
  refused [] refusal = refl
  refused (c ∷ cs) refusal = refl

  stopped_by : (all : List Command) (start : PlayState) (rest more : List Command) (now : PlayState) (c : Command) (halt : Halt) → SoFar all start rest now → rest ≡ c ∷ more → IsAnswer (Advances c now defs specs) (Err halt) → IsAnswer (Goes defs specs all (Ok start)) (Err halt)
  stopped_by all start rest more now c (Refused refusal) so_far e h = so_far (Err refusal) (subst (λ (cs : List Command). Goes defs specs cs (Ok now) (Err refusal)) (sym e) (Err refusal, h, refused more refusal))
  stopped_by all start rest more now c Memory so_far e h = tt

  -- a command is refused
  pub stops_there : (all : List Command) (start : PlayState) (rest more : List Command) (now : PlayState) (c : Command) (result : Result PlayState Halt) (halt : Halt) → SoFar all start rest now → rest ≡ c ∷ more → IsErrAnd result (λ x. x ≡ halt) →
      IsAnswer (Advances c now defs specs) (Err halt) → IsAnswer (Goes defs specs all (Ok start)) result
  stops_there all start rest more now c (Ok s) halt so_far e is h = absurd is
  stops_there all start rest more now c (Err x) halt so_far e is h = subst (λ (y : Halt). IsAnswer (Goes defs specs all (Ok start)) (Err y)) (sym is) (stopped_by all start rest more now c halt so_far e h)

  -- no command is left
  pub all_gone : (all : List Command) (start : PlayState) (rest : List Command) (now : PlayState) → SoFar all start rest now → rest ≡ [] → Goes defs specs all (Ok start) (Ok now)
  all_gone all start rest now so_far none = so_far (Ok now) (subst (λ (cs : List Command). Goes defs specs cs (Ok now) (Ok now)) (sym none) refl)

  -- from the start on
  pub start_refused : (place : Place) (commands : List Command) (start : Start) (result : Result PlayState Halt) (halt : Halt) → IsErrAnd result (λ x. x ≡ halt) → Stops halt (started place start) → IsAnswer (Goes defs specs commands (started place start)) result
  start_refused place commands start (Ok s) halt is e = absurd is
  start_refused place commands start (Err x) halt is e = by x (subst (λ (h : Halt). Stops h (started place start)) (sym is) e)
    where
      by : (h : Halt) → Stops h (started place start) → IsAnswer (Goes defs specs commands (started place start)) (Err h)
      by (Refused refusal) f = subst (λ (p : Played). Goes defs specs commands p (Err refusal)) (sym f) (refused commands refusal)
      by Memory f = tt

  pub from_start : (place : Place) (commands : List Command) (start : Start) (s : PlayState) (result : Result PlayState Halt) → started place start ≡ Ok s → IsAnswer (Goes defs specs commands (Ok s)) result → IsAnswer (Goes defs specs commands (started place start)) result
  from_start place commands start s result e h = subst (λ (p : Played). IsAnswer (Goes defs specs commands p) result) (sym e) h

-- ---- the end

module _ {A : Type 0} (Plays : Played → Type 0) (last : Played → Result A Refusal) (same : (refusal : Refusal) → last (Err refusal) ≡ Err refusal) where
  abbrev pub Ends : Result A Refusal → Type 0
  Ends answer = (played : Played) × Plays played × (answer ≡ last played)

  not_ended : (halt : Halt) → IsAnswer Plays (Err halt) → IsAnswer Ends (Err halt)
  not_ended (Refused refusal) h = (Err refusal, h, sym (same refusal))
  not_ended Memory h = tt

  -- a command on the way is refused
  pub stops_before : (result : Result A Halt) (halt : Halt) → IsErrAnd result (λ x. x ≡ halt) → IsAnswer Plays (Err halt) → IsAnswer Ends result
  stops_before (Ok x) halt is h = absurd is
  stops_before (Err x) halt is h = subst (λ (y : Halt). IsAnswer Ends (Err y)) (sym is) (not_ended halt h)

  pub ends : (s : PlayState) (result : Result A Halt) → Plays (Ok s) → Gives (λ x. x) result (last (Ok s)) → IsAnswer Ends result
  ends s (Ok x) h e = (Ok s, h, sym e)
  ends s (Err (Refused refusal)) h e = (Ok s, h, sym e)
  ends s (Err Memory) h e = tt
