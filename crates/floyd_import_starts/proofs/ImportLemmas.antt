-- The start goals of an import are those that its definition gives.
use Rattle.std.proofs.Common.{◌≡◌, ℕ, ◌≤◌, Bool, false, List, [], ◌∷◌, ◌++◌, map, drop, length, Option, Some, None, Ok, refl, sym, ap, ◌∙◌}
use Rattle.std.specs.Prelude.{◌||◌, bytes_eq}
use Rattle.std.proofs.lemmas.List.{append-nil, drop_all}
use Rattle.std.proofs.Math.Path.{fun_ext}
use Rattle.floyd_tree.specs.declared.stop.MakeStop.{MakeStop}
use Rattle.floyd_tree.specs.Formulas.{PlainFormula}
use Rattle.floyd_tree.specs.Made.{unless}
use Rattle.floyd_tree.specs.MadeFormulas.{formula_fault_at}
use Rattle.floyd_tree.specs.Plain.{Plain, mentions}
use Rattle.floyd_truth.specs.Capture.{Changes}
use Rattle.floyd_truth.specs.Replace.{puts}
use Rattle.floyd_assert_trees.specs.declared.assertion.Assertion.{Assertion}
use Rattle.floyd_assert_trees.specs.declared.binder.Binder.{Binder}
use Rattle.floyd_assert_trees.specs.declared.sep.Sep.{Sep}
use Rattle.floyd_assert_trees.specs.declared.spec.Funspec.{Funspec}
use Rattle.floyd_assert_trees.specs.declared.spec.Postcondition.{Postcondition}
use Rattle.floyd_assert_changes.specs.Apart.{apart, set_apart}
use Rattle.floyd_assert_changes.specs.Changed.{assertion_after, assertion_fits, has_name, inside, local_after}
use Rattle.floyd_assert_instances.specs.declared.instance.Instance.{Instance}
use Rattle.floyd_assert_instances.specs.Instances.{pairs}
use Rattle.floyd_assert_instances.specs.Specifications.{given, instantiated, returned}
use Rattle.floyd_funspec_laws.proofs.Made.{instance_at, made, within}
use Rattle.floyd_goal_forms.specs.Terms.{names_with}
use Rattle.floyd_links.specs.Imports as i
use Rattle.floyd_import_starts.specs.StartClauses.{first_by, own_at, own_post, second_by, second_of, whole_post}

made_by : {T : Type 0} (o : Option MakeStop) (t r : T) → unless o t ≡ Ok r → r ≡ t
made_by None t r e = cc
made_by (Some stop) t r e = absurd cc

pub formula_is : (f r : PlainFormula) → unless (formula_fault_at f) f ≡ Ok r → r ≡ f
formula_is f r e = made_by (formula_fault_at f) f r e

-- ---- terms for variables

paired : (bs : List Binder) (ts : List Plain) → pairs bs ts ≡ i.with_terms bs ts
paired [] ts = refl
paired (b ∷ bs) [] = refl
paired (b ∷ bs) (t ∷ ts) = ap (λ more. (b.name, t) ∷ more) (paired bs ts)

pub instance_is : (own : Funspec) (terms : List Plain) (made' : Instance) → instantiated own terms ≡ Ok made' → made' ≡ own_at own terms
instance_is own terms made' e = (made own terms made' e).is ∙ ap (λ all. instance_at (puts all) own) (paired own.with terms)

-- ---- equations

none_left : (ts : List Plain) → i.equations ts [] ≡ []
none_left [] = refl
none_left (t ∷ ts) = refl

pub ended : (ts us : List Plain) (k : ℕ) (all whole : List PlainFormula) → length us ≤ k → all ++ i.equations (drop k ts) (drop k us) ≡ whole → all ≡ whole
ended ts us k all whole e h =
    sym (append-nil all)
    ∙ ap (λ more. all ++ more) (sym (none_left (drop k ts)) ∙ ap (i.equations (drop k ts)) (sym (drop_all k us e)))
    ∙ h

-- ---- existentials

pub apart_is : (avoid : List ℕ → Bool) (a made' : Assertion) → set_apart avoid a ≡ Ok made' → made' ≡ apart avoid a
apart_is avoid a made' e = within assertion_fits (apart avoid a) made' e

named : (x : List ℕ) (bs : List Binder) → has_name x bs ≡ i.is_among (names_with bs) x
named x [] = refl
named x (b ∷ bs) = ap (λ c. bytes_eq x b.name || c) (named x bs)

returned_are : (o : Option Plain) → returned o ≡ i.value_local o
returned_are None = refl
returned_are (Some u) = refl

given_are : (post : Postcondition) → given post ≡ i.with_value post
given_are post = ap (λ ls. record { existentials = post.existentials; props = post.props; locals = ls; parts = post.parts }) (returned_are post.value)

pub import_with : (import : Funspec) (t : Plain) (made' : Assertion) → set_apart (λ x. mentions x t) (given import.post) ≡ Ok made' → made' ≡ i.import_post import (Some t)
import_with import t made' e =
    within assertion_fits (apart (λ x. mentions x t) (given import.post)) made' e
    ∙ ap (apart (λ x. mentions x t)) (given_are import.post)

pub import_without : (import : Funspec) (made' : Assertion) → made' ≡ apart (λ x. has_name x []) (given import.post) → made' ≡ i.import_post import None
import_without import made' e = e ∙ ap (apart (λ x. false)) (given_are import.post)

-- ---- the goals

pub first_is : (import own : Funspec) (terms : List Plain) (frame : List Sep) (made' : Instance) → made' ≡ own_at own terms → first_by import made' frame ≡ i.first_goal import own terms frame
first_is import own terms frame made' e = ap (λ a. first_by import a frame) e

-- the term of RETURN is put back where it was
back : (ch : Changes) (o : Option Plain) → returned (i.value_in (map (local_after ch) (returned o))) ≡ map (local_after ch) (returned o)
back ch None = refl
back ch (Some t) = refl

whole_is : (own : Funspec) (terms : List Plain) → whole_post (own_at own terms) ≡ assertion_after (puts (i.with_terms own.with terms)) (i.with_value own.post)
whole_is own terms =
    let by = puts (i.with_terms own.with terms) in
    let a = assertion_after by (given own.post) in
    ap (λ ls. record { existentials = a.existentials; props = a.props; locals = ls; parts = a.parts }) (back (inside by (given own.post)) own.post.value)
    ∙ ap (assertion_after by) (given_are own.post)

own_is : (import own : Funspec) (terms : List Plain) → own_post import (own_at own terms) ≡ i.own_post import own terms
own_is import own terms =
    ap (λ avoid. apart avoid (whole_post (own_at own terms))) (fun_ext (λ x. named x (import.with ++ import.post.existentials)))
    ∙ ap (apart (i.is_among (names_with (import.with ++ import.post.existentials)))) (whole_is own terms)

pub second_is : (import own : Funspec) (terms : List Plain) (frame : List Sep) (made' : Instance) → made' ≡ own_at own terms → second_of import made' frame ≡ i.second_goal import own terms frame
second_is import own terms frame made' e =
    ap (λ a. second_of import a frame) e
    ∙ ap (λ post. second_by import post (i.import_post import (i.value_in post.locals)) frame) (own_is import own terms)

pub second_from : (import : Funspec) (made' : Instance) (frame : List Sep) (post target : Assertion) → post ≡ own_post import made' → target ≡ i.import_post import (i.value_in post.locals) → second_by import post target frame ≡ second_of import made' frame
second_from import made' frame post target e h =
    ap (λ a. second_by import post a frame) h
    ∙ ap (λ a. second_by import a (i.import_post import (i.value_in a.locals)) frame) e
