-- What is made of parts, each of which may be refused.
use Rattle.std.proofs.Common.{◌≡◌, ℕ, List, Result, Ok, Err, refl, sym, ap, subst, ◌∙◌}
use Rattle.floyd_text.specs.declared.refusal.No.{No}
use Rattle.floyd_text.specs.declared.refusal.RuleStop.{RuleStop}
use Rattle.floyd_text.specs.declared.refusal.RuleStop.TheVariants as r
use Rattle.floyd_text.specs.Gives.{RuleStops}
use Rattle.floyd_tree.specs.Plain.{Plain}
use Rattle.floyd_assert_trees.specs.declared.assertion.Assertion.{Assertion}
use Rattle.floyd_assert_changes.specs.Changed.{assertion_with}
use Rattle.floyd_goal_trees.specs.declared.context.Context.{Context}
use Rattle.floyd_goal_trees.specs.declared.exits.Exit.{Exit}
use Rattle.floyd_goal_trees.specs.declared.exits.Exit.TheVariants as e
use Rattle.floyd_goal_trees.specs.declared.exits.Exits.{Exits}
use Rattle.floyd_goal_trees.specs.declared.goal.Entail.{Entail}
use Rattle.floyd_goal_trees.specs.declared.goal.Run.{Run}
use Rattle.floyd_goal_trees.specs.declared.rest.Rest.{Rest}
use Rattle.floyd_goal_changes.specs.Changed.{context_with, entail_with, exit_with, exits_with, of_one, of_three, of_two, run_with}

-- what was made, where a refusal is possible
abbrev good : {T : Type 0} → T → Result T No
good x = Ok x

pub one_made : {A B : Type 0} (f : A → B) (a : Result A No) (x : A) → a ≡ Ok x → of_one f a ≡ Ok (f x)
one_made f a x e = ap (of_one f) e

pub one_stops : {A B : Type 0} (f : A → B) (a : Result A No) (stop : RuleStop) → RuleStops stop a → RuleStops stop (of_one f a)
one_stops f a (r.No refusal) h = ap (of_one f) h
one_stops f a r.Memory h = tt

pub two_made : {A B C : Type 0} (f : A → B → C) (a : Result A No) (b : Result B No) (x : A) (y : B) → a ≡ Ok x → b ≡ Ok y → of_two f a b ≡ Ok (f x y)
two_made f a b x y e h = subst (λ p. of_two f p b ≡ Ok (f x y)) (sym e) (one_made (f x) b y h)

pub first_of_two : {A B C : Type 0} (f : A → B → C) (a : Result A No) (b : Result B No) (stop : RuleStop) → RuleStops stop a → RuleStops stop (of_two f a b)
first_of_two f a b (r.No refusal) h = ap (λ p. of_two f p b) h
first_of_two f a b r.Memory h = tt

pub second_of_two : {A B C : Type 0} (f : A → B → C) (a : Result A No) (b : Result B No) (x : A) (stop : RuleStop) → a ≡ Ok x → RuleStops stop b → RuleStops stop (of_two f a b)
second_of_two f a b x stop e h = subst (λ p. RuleStops stop (of_two f p b)) (sym e) (one_stops (f x) b stop h)

pub three_made : {A B C D : Type 0} (f : A → B → C → D) (a : Result A No) (b : Result B No) (c : Result C No) (x : A) (y : B) (z : C) → a ≡ Ok x → b ≡ Ok y → c ≡ Ok z → of_three f a b c ≡ Ok (f x y z)
three_made f a b c x y z e h k = subst (λ p. of_three f p b c ≡ Ok (f x y z)) (sym e) (two_made (f x) b c y z h k)

pub first_of_three : {A B C D : Type 0} (f : A → B → C → D) (a : Result A No) (b : Result B No) (c : Result C No) (stop : RuleStop) → RuleStops stop a → RuleStops stop (of_three f a b c)
first_of_three f a b c (r.No refusal) h = ap (λ p. of_three f p b c) h
first_of_three f a b c r.Memory h = tt

pub second_of_three : {A B C D : Type 0} (f : A → B → C → D) (a : Result A No) (b : Result B No) (c : Result C No) (x : A) (stop : RuleStop) → a ≡ Ok x → RuleStops stop b → RuleStops stop (of_three f a b c)
second_of_three f a b c x stop e h = subst (λ p. RuleStops stop (of_three f p b c)) (sym e) (first_of_two (f x) b c stop h)

pub third_of_three : {A B C D : Type 0} (f : A → B → C → D) (a : Result A No) (b : Result B No) (c : Result C No) (x : A) (y : B) (stop : RuleStop) → a ≡ Ok x → b ≡ Ok y → RuleStops stop c → RuleStops stop (of_three f a b c)
third_of_three f a b c x y stop e h k = subst (λ p. RuleStops stop (of_three f p b c)) (sym e) (second_of_two (f x) b c y stop h k)

module _ (by : List (List ℕ × Plain)) where
  pub exit_made : (exit : Exit) (a b changed made : Assertion) → exit ≡ e.To a → b ≡ a → assertion_with by b ≡ Ok changed → made ≡ changed → exit_with by exit ≡ Ok (e.To made)
  exit_made exit a b changed made i k h m =
      ap (exit_with by) i ∙ one_made e.To (assertion_with by a) changed (ap (assertion_with by) (sym k) ∙ h) ∙ ap (λ x. good (e.To x)) (sym m)

  pub exit_stops : (exit : Exit) (a b : Assertion) (stop : RuleStop) → exit ≡ e.To a → b ≡ a → RuleStops stop (assertion_with by b) → RuleStops stop (exit_with by exit)
  exit_stops exit a b stop i k h =
      subst (λ x. RuleStops stop (exit_with by x)) (sym i) (one_stops e.To (assertion_with by a) stop (subst (λ x. RuleStops stop (assertion_with by x)) k h))

  abbrev entailed : Context → Assertion → Assertion → Entail
  entailed context source target = record { context = context; source = source; target = target }

  pub entail_stops_source : (entail : Entail) (context : Context) (b : Assertion) (stop : RuleStop) → context_with by entail.context ≡ Ok context → b ≡ entail.source → RuleStops stop (assertion_with by b) → RuleStops stop (entail_with by entail)
  entail_stops_source entail context b stop i k h =
      second_of_three entailed (context_with by entail.context) (assertion_with by entail.source) (assertion_with by entail.target) context stop i (subst (λ x. RuleStops stop (assertion_with by x)) k h)

  pub entail_stops_target : (entail : Entail) (context : Context) (b c source : Assertion) (stop : RuleStop) → context_with by entail.context ≡ Ok context → b ≡ entail.source → assertion_with by b ≡ Ok source → c ≡ entail.target → RuleStops stop (assertion_with by c) → RuleStops stop (entail_with by entail)
  entail_stops_target entail context b c source stop i k h m n =
      third_of_three entailed (context_with by entail.context) (assertion_with by entail.source) (assertion_with by entail.target) context source stop i (ap (assertion_with by) (sym k) ∙ h) (subst (λ x. RuleStops stop (assertion_with by x)) m n)

  pub entail_made : (entail : Entail) (context : Context) (b c source target own other : Assertion) → context_with by entail.context ≡ Ok context → b ≡ entail.source → assertion_with by b ≡ Ok source → c ≡ entail.target → assertion_with by c ≡ Ok target → own ≡ source → other ≡ target → entail_with by entail ≡ Ok (record { context = context; source = own; target = other })
  entail_made entail context b c source target own other i k h m n p q =
      three_made entailed (context_with by entail.context) (assertion_with by entail.source) (assertion_with by entail.target) context source target i (ap (assertion_with by) (sym k) ∙ h) (ap (assertion_with by) (sym m) ∙ n)
      ∙ ap (λ x. good (entailed context x target)) (sym p)
      ∙ ap (λ x. good (entailed context own x)) (sym q)

  abbrev ran : Run → Context → Assertion → Exits → Run
  ran run context source exits = record { context = context; source = source; rest = run.rest; exits = exits }

  pub run_stops_source : (run : Run) (context : Context) (b : Assertion) (stop : RuleStop) → context_with by run.context ≡ Ok context → b ≡ run.source → RuleStops stop (assertion_with by b) → RuleStops stop (run_with by run)
  run_stops_source run context b stop i k h =
      second_of_three (ran run) (context_with by run.context) (assertion_with by run.source) (exits_with by run.exits) context stop i (subst (λ x. RuleStops stop (assertion_with by x)) k h)

  pub run_stops_exits : (run : Run) (context : Context) (b source : Assertion) (c : Exits) (stop : RuleStop) → context_with by run.context ≡ Ok context → b ≡ run.source → assertion_with by b ≡ Ok source → c ≡ run.exits → RuleStops stop (exits_with by c) → RuleStops stop (run_with by run)
  run_stops_exits run context b source c stop i k h m n =
      third_of_three (ran run) (context_with by run.context) (assertion_with by run.source) (exits_with by run.exits) context source stop i (ap (assertion_with by) (sym k) ∙ h) (subst (λ x. RuleStops stop (exits_with by x)) m n)

  pub run_made : (run : Run) (context : Context) (b source own : Assertion) (c exits others : Exits) (rest : Rest) → context_with by run.context ≡ Ok context → b ≡ run.source → assertion_with by b ≡ Ok source → c ≡ run.exits → exits_with by c ≡ Ok exits → own ≡ source → others ≡ exits → rest ≡ run.rest → run_with by run ≡ Ok (record { context = context; source = own; rest = rest; exits = others })
  run_made run context b source own c exits others rest i k h m n p q r' =
      three_made (ran run) (context_with by run.context) (assertion_with by run.source) (exits_with by run.exits) context source exits i (ap (assertion_with by) (sym k) ∙ h) (ap (exits_with by) (sym m) ∙ n)
      ∙ ap (λ x. good (ran run context x exits)) (sym p)
      ∙ ap (λ x. good (ran run context own x)) (sym q)
      ∙ ap (λ x. good (record { context = context; source = own; rest = x; exits = others })) (sym r')
