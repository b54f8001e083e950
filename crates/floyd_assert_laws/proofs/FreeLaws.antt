-- Where free variables have the same data, an assertion says the same.
use Rattle.std.proofs.Common.{◌≡◌, ℕ, Bool, true, false, not, ◌&&◌, ◌||◌, List, [], ◌∷◌, ◌++◌, Option, Some, None, refl, sym, ap, ◌∙◌}
use Rattle.std.specs.Prelude.{bytes_eq, if◌then◌else◌}
use Rattle.std.specs.List.{AllByRecursion, flat_map}
use Rattle.std.proofs.lemmas.Bool.{or_left, or_right}
use Rattle.floyd_int.specs.declared.kinds.Value.{Value}
use Rattle.floyd_tree.specs.Formulas.{PlainFormula, formula_mentions, formulas, formulas_mention}
use Rattle.floyd_tree.specs.Plain.{Plain, plains, mentions, mentions_in}
use Rattle.floyd_tree_values.specs.BuiltIns.{Env}
use Rattle.floyd_tree_values.specs.Data.{Datum}
use Rattle.floyd_clight_heap.specs.Heaplet.{Heaplet}
use Rattle.floyd_assert_trees.specs.declared.assertion.Assertion.{Assertion}
use Rattle.floyd_assert_trees.specs.declared.assertion.Local.{Local}
use Rattle.floyd_assert_trees.specs.declared.binder.Binder.{Binder}
use Rattle.floyd_assert_trees.specs.declared.sep.Sep.{Sep}
use Rattle.floyd_assert_trees.specs.declared.spec.Postcondition.{Postcondition}
use Rattle.floyd_assert_changes.specs.Changed.{body_mentions, has_name, local_terms, part_terms, terms_in}
use Rattle.floyd_assert_meaning.specs.Laws.{AgreeWhere}
use Rattle.floyd_assert_meaning.specs.Same.{Pairwise, PartsAgree}
use Rattle.floyd_assert_meaning.specs.Settings.{Setting, AreFor, with_each}
use Rattle.floyd_assert_meaning.proofs.Free.{means_agree, truth_agrees}
use Rattle.floyd_assert_meaning.specs.Alike.{SayAlike, MeanAlike, LocalsAlike, OptionAlike, BodiesAlike, EndsAlike, Alike, PostsAlike}
use Rattle.floyd_assert_laws.specs.Free.{assertion_mentions, end_mentions, option_mentions, post_mentions}
use Rattle.floyd_assert_laws.proofs.Agreeing.{parts_self}

-- below binders
free_there : (t b h : Bool) → b ≡ false → (t && not h) ≡ true → (t && not (b || h)) ≡ true
free_there t true h e k = absurd cc
free_there t false h e k = k

same_put : (b : Bool) (p q d : Datum) → (b ≡ false → p ≡ q) → (if b then d else p) ≡ (if b then d else q)
same_put true p q d k = refl
same_put false p q d k = k refl

free_all : (t : Bool) → t ≡ true → (t && not false) ≡ true
free_all true e = refl
free_all false e = absurd cc

pub agree_each : (test : List ℕ → Bool) (bs : List Binder) (f g : List ℕ → Datum) → AgreeWhere (λ x. test x && not (has_name x bs)) f g → (ds : List Datum) → AreFor bs ds → AgreeWhere test (with_each f bs ds) (with_each g bs ds)
agree_each test [] f g k ds s = λ x i. k x (free_all (test x) i)
agree_each test (b ∷ bs) f g k [] s = absurd s
agree_each test (b ∷ bs) f g k (d ∷ ds) s =
    agree_each test bs (λ y. if bytes_eq y b.name then d else f y) (λ y. if bytes_eq y b.name then d else g y)
    (λ x i. same_put (bytes_eq x b.name) (f x) (g x) d (λ e. k x (free_there (test x) (bytes_eq x b.name) (has_name x bs) e i)))
    ds s.1

module _ (S : Setting) (env : Env) (f g : List ℕ → Datum) where
  term_alike : (t : Plain) → AgreeWhere (λ x. mentions x t) f g → MeanAlike S env f g t t
  term_alike t k = λ d. (means_agree S.defs env f g t k d, means_agree S.defs env g f t (λ x i. sym (k x i)) d)

  terms_alike : (ts : List Plain) → AgreeWhere (λ x. mentions_in x (plains ts)) f g → AllByRecursion (λ t. MeanAlike S env f g t t) ts
  terms_alike [] k = tt
  terms_alike (t ∷ ts) k = (
    term_alike t (λ x i. k x (or_left (mentions x t) (mentions_in x (plains ts)) i)),
    terms_alike ts (λ x i. k x (or_right (mentions x t) (mentions_in x (plains ts)) i)),
  )

  pub props_alike : (ps : List PlainFormula) → AgreeWhere (λ x. formulas_mention x (formulas ps)) f g → Pairwise (SayAlike S env f g) ps ps
  props_alike [] k = tt
  props_alike (p ∷ ps) k =
      let one : AgreeWhere (λ x. formula_mentions x p) f g = λ x i. k x (or_left (formula_mentions x p) (formulas_mention x (formulas ps)) i) in (
        (truth_agrees S.defs S.has_spec env f g p one, truth_agrees S.defs S.has_spec env g f p (λ x i. sym (one x i))),
        props_alike ps (λ x i. k x (or_right (formula_mentions x p) (formulas_mention x (formulas ps)) i)),
      )

  locals_alike : (ls : List Local) → AllByRecursion (λ t. MeanAlike S env f g t t) (local_terms ls) → Pairwise (LocalsAlike S env f g) ls ls
  locals_alike [] h = tt
  locals_alike (l ∷ ls) h = ((refl, h.0), locals_alike ls h.1)

  value_alike : (t : Option Plain) → AgreeWhere (option_mentions t) f g → OptionAlike S env f g t t
  value_alike None k = tt
  value_alike (Some t) k = term_alike t k

  mentions_append : (x : List ℕ) (ts us : List Plain) → mentions_in x (plains (ts ++ us)) ≡ (mentions_in x (plains ts) || mentions_in x (plains us))
  mentions_append x [] us = refl
  mentions_append x (t ∷ ts) us = ap (λ b. mentions x t || b) (mentions_append x ts us) ∙ assoc (mentions x t) (mentions_in x (plains ts)) (mentions_in x (plains us))
    where
      assoc : (a b c : Bool) → (a || (b || c)) ≡ ((a || b) || c)
      assoc true b c = refl
      assoc false b c = refl

  pub bodies_alike : (a : Assertion) → AgreeWhere (body_mentions a) f g → BodiesAlike S env f g a a
  bodies_alike a k =
      let of_terms : AgreeWhere (λ x. mentions_in x (plains (terms_in a))) f g = λ x i. k x (or_right (formulas_mention x (formulas a.props)) (mentions_in x (plains (terms_in a))) i) in
      let split : (x : List ℕ) → mentions_in x (plains (terms_in a)) ≡ (mentions_in x (plains (local_terms a.locals)) || mentions_in x (plains (flat_map part_terms a.parts))) = λ x. mentions_append x (local_terms a.locals) (flat_map part_terms a.parts) in
      record {
        props = props_alike a.props (λ x i. k x (or_left (formulas_mention x (formulas a.props)) (mentions_in x (plains (terms_in a))) i));
        locals = locals_alike a.locals (terms_alike (local_terms a.locals) (λ x i. of_terms x (split x ∙ or_left (mentions_in x (plains (local_terms a.locals))) (mentions_in x (plains (flat_map part_terms a.parts))) i)));
        parts = parts_self (MeanAlike S env f g) a.parts
            (terms_alike (flat_map part_terms a.parts) (λ x i. of_terms x (split x ∙ or_right (mentions_in x (plains (local_terms a.locals))) (mentions_in x (plains (flat_map part_terms a.parts))) i)));
      }

  ends_alike : (a : Postcondition) → AgreeWhere (end_mentions a) f g → EndsAlike S env f g a a
  ends_alike a k =
      record {
        props = props_alike a.props (λ x i. k x (or_left (formulas_mention x (formulas a.props)) (option_mentions a.value x || mentions_in x (plains (flat_map part_terms a.parts))) i));
        value = value_alike a.value (λ x i. k x (or_right (formulas_mention x (formulas a.props)) (option_mentions a.value x || mentions_in x (plains (flat_map part_terms a.parts))) (or_left (option_mentions a.value x) (mentions_in x (plains (flat_map part_terms a.parts))) i)));
        parts = parts_self (MeanAlike S env f g) a.parts
            (terms_alike (flat_map part_terms a.parts) (λ x i. k x (or_right (formulas_mention x (formulas a.props)) (option_mentions a.value x || mentions_in x (plains (flat_map part_terms a.parts))) (or_right (option_mentions a.value x) (mentions_in x (plains (flat_map part_terms a.parts))) i))));
      }

pub free_alike : (S : Setting) (env : Env) (f g : List ℕ → Datum) (a : Assertion) → AgreeWhere (assertion_mentions a) f g → Alike S env f g a a
free_alike S env f g a k =
    record {
      sorts = refl;
      bodies = λ ds s. bodies_alike S env (with_each f a.existentials ds) (with_each g a.existentials ds) a (agree_each (body_mentions a) a.existentials f g k ds s);
    }

pub free_posts_alike : (S : Setting) (env : Env) (f g : List ℕ → Datum) (a : Postcondition) → AgreeWhere (post_mentions a) f g → PostsAlike S env f g a a
free_posts_alike S env f g a k =
    record {
      sorts = refl;
      bodies = λ ds s. ends_alike S env (with_each f a.existentials ds) (with_each g a.existentials ds) a (agree_each (end_mentions a) a.existentials f g k ds s);
    }
