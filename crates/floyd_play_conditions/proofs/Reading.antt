-- What stands in readings that were answered.
use Rattle.std.proofs.Common.{◌≡◌, ℕ, List, [], ◌∷◌, Ok, Err, ap, sym, subst, ◌∙◌}
use Rattle.floyd_text.specs.declared.rule.Rule.TheVariants as rule
use Rattle.floyd_lex.specs.Token.{TokenList}
use Rattle.floyd_lex.specs.declared.kinds.Punctuator.TheVariants as p
use Rattle.floyd_clight.specs.declared.unit.Local.{Local}
use Rattle.floyd_tree.specs.Plain.{Plain}
use Rattle.floyd_assert_trees.specs.declared.binder.Binder.{Binder}
use Rattle.floyd_assert_trees.specs.declared.items.Defs.{Defs}
use Rattle.floyd_assert_trees.specs.declared.spec.SpecTable.{SpecTable}
use Rattle.floyd_goal_fits.specs.Laws.{IsOfFirst, IsWitness}
use Rattle.floyd_goal_trees.specs.declared.args.Args.{Args}
use Rattle.floyd_goal_trees.specs.declared.goal.Goal.{Goal}
use Rattle.floyd_goal_trees.specs.declared.goal.Goal.TheVariants.{Run, Entail, Pure}
use Rattle.floyd_termread_marks.specs.Marks.{mark}
use Rattle.floyd_termread_phrases.specs.Phrases.{term}
use Rattle.floyd_termread_phrases.specs.Reads.{Answer, Reads, after, pure, ◌>>=◌}
use Rattle.floyd_termread_scope.specs.Scopes.{Env}
use Rattle.floyd_play_arguments.specs.Arguments.{no_args}
use Rattle.floyd_play_reading.specs.Arguments.{AreRead, shaped, value_of, witness, with_term}
use Rattle.floyd_play_reading.specs.Expected.{first_sort, goal_env}
use Rattle.floyd_play_reading.specs.Names.{local_names}
use Rattle.floyd_play_conditions.specs.Laws.{TermsHaveSorts}
use Rattle.floyd_script_trees.specs.Arguments.{shape_of}
use Rattle.floyd_text.specs.declared.rule.Rule.{Rule}

-- what was read first, and what behind it
pub record Split {A B : Type 0} (first : Reads A) (next : A → Reads B) (at : ℕ) (answer : Answer B) : Type 0 where
  pub value : A
  pub middle : ℕ
  pub before : first at (Ok (value, middle))
  pub behind : next value middle answer

pub split : {A B : Type 0} (first : Reads A) (next : A → Reads B) (at : ℕ) (b : B) (n : ℕ) → (first >>= next) at (Ok (b, n)) → Split first next at (Ok (b, n))
split {A} {B} first next at b n d = by d.0 d.1 d.2
  where
    by : (middle : Answer A) → first at middle → after next middle (Ok (b, n)) → Split first next at (Ok (b, n))
    by (Ok read) f g = record { value = read.0; middle = read.1; before = f; behind = g }
    by (Err refusal) f g = absurd cc

abbrev value_or : {A : Type 0} → A → Answer A → A
value_or x (Ok read) = read.0
value_or x (Err refusal) = x

pub only : {A : Type 0} (a b : A) (m n : ℕ) → pure b m (Ok (a, n)) → a ≡ b
only a b m n e = ap (value_or b) e

-- the arguments of a command, without what stands behind them
module _ (bytes : List ℕ) (list : TokenList) (defs : Defs) (specs : SpecTable) (blocks : List Local) (goal : Goal) (command : Rule) where
  abbrev own_env : Env
  own_env = goal_env goal defs specs (local_names blocks)

  pub behind_word : (args : Args) → AreRead bytes list defs specs blocks goal command (Ok args) → (n : ℕ) × shaped bytes list defs specs own_env goal command (shape_of command) 1 (Ok (args, n))
  behind_word args d = by d.0 d.1 d.2
    where
      with_mark : (a : Args) (n : ℕ) → args ≡ a → Split (shaped bytes list defs specs own_env goal command (shape_of command)) (λ x. mark bytes list 0 p.Semicolon >>= λ _. pure x) 1 (Ok (a, n)) →
          (m : ℕ) × shaped bytes list defs specs own_env goal command (shape_of command) 1 (Ok (args, m))
      with_mark a n same s =
          let e = split (mark bytes list 0 p.Semicolon) (λ _. pure s.value) s.middle a n s.behind in
          let is : s.value ≡ args = sym (only a s.value e.middle n e.behind) ∙ sym same in
          (s.middle, subst (λ (x : Args). shaped bytes list defs specs own_env goal command (shape_of command) 1 (Ok (x, s.middle))) is s.before)

      by : (read : Answer Args) → (shaped bytes list defs specs own_env goal command (shape_of command) >>= λ x. mark bytes list 0 p.Semicolon >>= λ _. pure x) 1 read → Ok args ≡ value_of read →
          (m : ℕ) × shaped bytes list defs specs own_env goal command (shape_of command) 1 (Ok (args, m))
      by (Ok read) r e =
          let same : args ≡ read.0 = cc in
          with_mark read.0 read.1 same (split (shaped bytes list defs specs own_env goal command (shape_of command)) (λ x. mark bytes list 0 p.Semicolon >>= λ _. pure x) 1 read.0 read.1 r)
      by (Err refusal) r e = absurd cc

module _ (sorts : TermsHaveSorts) (bytes : List ℕ) (list : TokenList) (env : Env) where
  of_first : (bs : List Binder) (terms : List Plain) (t : Plain) (n : ℕ) → terms ≡ t ∷ [] → term bytes list 0 env (first_sort bs) 1 (Ok (t, n)) → IsOfFirst bs terms
  of_first [] terms t n e r = tt
  of_first (b ∷ more) terms t n e r = subst (IsOfFirst (b ∷ more)) (sym e) (sorts bytes list 0 env b.sort 1 t n r)

  witness_of : (goal : Goal) (args : Args) (n : ℕ) → witness bytes list env goal 1 (Ok (args, n)) → IsWitness goal args.terms
  witness_of (Run run) args n d = tt
  witness_of (Pure pure) args n d = tt
  witness_of (Entail entail) args n d =
      let s = split (term bytes list 0 env (first_sort entail.target.existentials)) (λ t. pure (with_term no_args t)) 1 args n d in
      let is : args.terms ≡ s.value ∷ [] = ap (λ (a : Args). a.terms) (only args (with_term no_args s.value) s.middle n s.behind) in
      of_first entail.target.existentials args.terms s.value s.middle is s.before

-- the term of `Exists` has the sort of the first existential
pub is_witness : TermsHaveSorts → (bytes : List ℕ) (list : TokenList) (defs : Defs) (specs : SpecTable) (blocks : List Local) (goal : Goal) (args : Args) →
    AreRead bytes list defs specs blocks goal rule.Exists (Ok args) → IsWitness goal args.terms
is_witness sorts bytes list defs specs blocks goal args d =
    let r = behind_word bytes list defs specs blocks goal rule.Exists args d in
    witness_of sorts bytes list (goal_env goal defs specs (local_names blocks)) goal args r.0 r.1
