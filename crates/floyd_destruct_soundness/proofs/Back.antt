-- What says the same says so the other way round.
use Rattle.std.proofs.Common.{ℕ, List, [], ◌∷◌, sym}
use Rattle.floyd_tree.specs.declared.paths.PathStep.{PathStep}
use Rattle.floyd_tree.specs.declared.paths.PathStep.TheVariants.{Field, Subscript}
use Rattle.floyd_tree.specs.Formulas.{PlainFormula}
use Rattle.floyd_tree.specs.Plain.{Plain}
use Rattle.floyd_tree_values.specs.BuiltIns.{Env}
use Rattle.floyd_tree_values.specs.Data.{Datum}
use Rattle.floyd_assert_trees.specs.declared.assertion.Assertion.{Assertion}
use Rattle.floyd_assert_trees.specs.declared.assertion.Local.{Local}
use Rattle.floyd_assert_trees.specs.declared.sep.Region.{Region}
use Rattle.floyd_assert_trees.specs.declared.sep.Sep.{Sep}
use Rattle.floyd_assert_trees.specs.declared.sep.Sep.TheVariants.{FieldAt, Padding, Valid, Anything, Predicate}
use Rattle.floyd_assert_meaning.specs.Alike.{Alike, LocalsAlike, MeanAlike, SayAlike}
use Rattle.floyd_assert_meaning.specs.Same.{Pairwise, PartsAgree, RegionsAgree, StepsAgree}
use Rattle.floyd_assert_meaning.specs.Settings.{Setting, with_each}
use Rattle.floyd_assert_meaning.proofs.Sames.{other_sorts}

all_back : {A : Type 0} (P Q : A → A → Type 0) → ((x y : A) → P x y → Q y x) → (xs ys : List A) → Pairwise P xs ys → Pairwise Q ys xs
all_back P Q k [] [] h = tt
all_back P Q k [] (y ∷ ys) h = absurd h
all_back P Q k (x ∷ xs) [] h = absurd h
all_back P Q k (x ∷ xs) (y ∷ ys) h = (k x y h.0, all_back P Q k xs ys h.1)

module _ (S : Setting) (env : Env) (f g : List ℕ → Datum) where
  abbrev There : Plain → Plain → Type 0
  There t u = MeanAlike S env f g t u

  abbrev Back : Plain → Plain → Type 0
  Back t u = MeanAlike S env g f t u

  say_back : (p q : PlainFormula) → SayAlike S env f g p q → SayAlike S env g f q p
  say_back p q k = (k.1, k.0)

  mean_back : (t u : Plain) → There t u → Back u t
  mean_back t u k = λ d. ((k d).1, (k d).0)

  local_back : (l m : Local) → LocalsAlike S env f g l m → LocalsAlike S env g f m l
  local_back l m k = (sym k.0, mean_back l.term m.term k.1)

  step_back : (a b : PathStep) → StepsAgree There a b → StepsAgree Back b a
  step_back (Field x) (Field y) k = sym k
  step_back (Field x) (Subscript u) k = absurd k
  step_back (Subscript t) (Field y) k = absurd k
  step_back (Subscript t) (Subscript u) k = mean_back t u k

  region_back : (r s : Region) → RegionsAgree There r s → RegionsAgree Back s r
  region_back r s k = record {
    share = mean_back r.share s.share k.share;
    type = record { shape = sym k.type.shape; sizes = all_back There Back mean_back r.ty.sizes s.ty.sizes k.type.sizes };
    path = all_back (StepsAgree There) (StepsAgree Back) step_back r.path s.path k.path;
    root = mean_back r.root s.root k.root;
  }

  part_back : (p q : Sep) → PartsAgree There p q → PartsAgree Back q p
  part_back (FieldAt r t) (FieldAt s u) k = (region_back r s k.0, mean_back t u k.1)
  part_back (Padding r) (Padding s) k = region_back r s k
  part_back (Valid t) (Valid u) k = mean_back t u k
  part_back Anything Anything k = tt
  part_back (Predicate x ts) (Predicate y us) k = (sym k.0, all_back There Back mean_back ts us k.1)
  part_back p q k = absurd k

pub alike_back : (S : Setting) (env : Env) (f g : List ℕ → Datum) (a b : Assertion) → Alike S env f g a b → Alike S env g f b a
alike_back S env f g a b k = record {
  sorts = sym k.sorts;
  bodies = λ ds s.
      let F = with_each f a.existentials ds in
      let G = with_each g b.existentials ds in
      let p = k.bodies ds (other_sorts b.existentials a.existentials ds (sym k.sorts) s) in
      record {
        props = all_back (SayAlike S env F G) (SayAlike S env G F) (say_back S env F G) a.props b.props p.props;
        locals = all_back (LocalsAlike S env F G) (LocalsAlike S env G F) (local_back S env F G) a.locals b.locals p.locals;
        parts = all_back (PartsAgree (MeanAlike S env F G)) (PartsAgree (MeanAlike S env G F)) (part_back S env F G) a.parts b.parts p.parts;
      };
}
