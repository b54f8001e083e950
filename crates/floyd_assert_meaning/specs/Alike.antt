-- Assertions that say the same, each with its own data for variables.
use Rattle.std.specs.Prelude.{◌≡◌, ◌↔◌, ℕ, List, Option, Some, None}
use Rattle.floyd_int.specs.declared.kinds.Value.{Value}
use Rattle.floyd_tree.specs.Formulas.{PlainFormula}
use Rattle.floyd_tree.specs.Plain.{Plain}
use Rattle.floyd_tree_values.specs.BuiltIns.{Env}
use Rattle.floyd_tree_values.specs.Data.{Datum}
use Rattle.floyd_tree_values.specs.Means.{Means}
use Rattle.floyd_truth.specs.Truth.{Truth}
use Rattle.floyd_clight_heap.specs.Heaplet.{Heaplet}
use Rattle.floyd_assert_trees.specs.declared.assertion.Assertion.{Assertion}
use Rattle.floyd_assert_trees.specs.declared.assertion.Local.{Local}
use Rattle.floyd_assert_trees.specs.declared.spec.Postcondition.{Postcondition}
use Rattle.floyd_assert_meaning.specs.Assertions.{Holds}
use Rattle.floyd_assert_meaning.specs.Laws.{with_variables}
use Rattle.floyd_assert_meaning.specs.Parts.{BodyHolds}
use Rattle.floyd_assert_meaning.specs.Same.{Pairwise, PartsAgree}
use Rattle.floyd_assert_meaning.specs.Settings.{Setting, AreFor, binder_sorts, with_each}
use Rattle.floyd_assert_meaning.specs.Specifications.{PostHolds}

module _ (S : Setting) (env : Env) (f g : List ℕ → Datum) where
  -- what the one says with the data f, the other says with g
  abbrev pub SayAlike : PlainFormula → PlainFormula → Type 0
  SayAlike p q = Truth S.defs S.has_spec (with_variables env f) p ↔ Truth S.defs S.has_spec (with_variables env g) q

  -- and so for the values of terms
  abbrev pub MeanAlike : Plain → Plain → Type 0
  MeanAlike t u = (d : Datum) → Means S.defs (with_variables env f) t d ↔ Means S.defs (with_variables env g) u d

  abbrev pub LocalsAlike : Local → Local → Type 0
  LocalsAlike l m = (l.name ≡ m.name) × MeanAlike l.term m.term

  abbrev pub OptionAlike : Option Plain → Option Plain → Type 0
  OptionAlike None None = Unit {0}
  OptionAlike None (Some u) = ⊥
  OptionAlike (Some t) None = ⊥
  OptionAlike (Some t) (Some u) = MeanAlike t u

  -- the formulas, temporaries and parts of two assertions, one by one
  pub record BodiesAlike (a b : Assertion) : Type 0 where
    pub props : Pairwise SayAlike a.props b.props
    pub locals : Pairwise LocalsAlike a.locals b.locals
    pub parts : Pairwise (PartsAgree MeanAlike) a.parts b.parts

  pub record EndsAlike (a b : Postcondition) : Type 0 where
    pub props : Pairwise SayAlike a.props b.props
    pub value : OptionAlike a.value b.value
    pub parts : Pairwise (PartsAgree MeanAlike) a.parts b.parts

-- Two assertions say the same, the one with the data f and the other with g: their existentials have the same sorts, and
-- below them, for all data of these sorts, all else says the same.
pub record Alike (S : Setting) (env : Env) (f g : List ℕ → Datum) (a b : Assertion) : Type 0 where
  pub sorts : binder_sorts a.existentials ≡ binder_sorts b.existentials
  pub bodies : (ds : List Datum) → AreFor a.existentials ds → BodiesAlike S env (with_each f a.existentials ds) (with_each g b.existentials ds) a b

pub record PostsAlike (S : Setting) (env : Env) (f g : List ℕ → Datum) (a b : Postcondition) : Type 0 where
  pub sorts : binder_sorts a.existentials ≡ binder_sorts b.existentials
  pub bodies : (ds : List Datum) → AreFor a.existentials ds → EndsAlike S env (with_each f a.existentials ds) (with_each g b.existentials ds) a b

-- Then they hold of the same.
abbrev pub AlikeHoldAlike : Type 0
AlikeHoldAlike =
    (S : Setting) (env : Env) (f g : List ℕ → Datum) (a b : Assertion) (temps : List ℕ → Value) (h : Heaplet) → Alike S env f g a b → Holds S (with_variables env f) a temps h ↔ Holds S (with_variables env g) b temps h

abbrev pub AlikeBodiesHoldAlike : Type 0
AlikeBodiesHoldAlike =
    (S : Setting) (env : Env) (f g : List ℕ → Datum) (a b : Assertion) (h : Heaplet) → Alike S env f g a b → BodyHolds S (with_variables env f) a h ↔ BodyHolds S (with_variables env g) b h

abbrev pub AlikePostsHoldAlike : Type 0
AlikePostsHoldAlike =
    (S : Setting) (env : Env) (f g : List ℕ → Datum) (a b : Postcondition) (v : Value) (h : Heaplet) → PostsAlike S env f g a b → PostHolds S (with_variables env f) a v h ↔ PostHolds S (with_variables env g) b v h
