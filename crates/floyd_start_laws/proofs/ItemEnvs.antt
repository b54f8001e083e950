-- The environment of an item of a specification file.
use Rattle.std.proofs.Common.{◌≡◌, List, sym, ap, subst}
use Rattle.floyd_tree_values.specs.BuiltIns.{Env}
use Rattle.floyd_tree_values.specs.Data.{Datum}
use Rattle.floyd_tree_values.specs.Rules.{AreDistinct, Suits}
use Rattle.floyd_truth.proofs.OneTruth.{giving}
use Rattle.floyd_assert_trees.specs.declared.binder.Binder.{Binder}
use Rattle.floyd_assert_meaning.specs.Settings.{Setting, AreFor, bare_env, item_env, with_each}
use Rattle.floyd_assert_meaning.proofs.Sames.{with_data_is}
use Rattle.floyd_goal_forms.specs.Terms.{names_with, scope_with}
use Rattle.floyd_goal_names.proofs.NewNames.{sorted_each}

module _ (S : Setting) (binders : List Binder) (ds : List Datum) where
  item_is : item_env S binders ds ≡ giving (bare_env S) (with_each (bare_env S).variables binders ds)
  item_is = with_data_is (bare_env S) (bare_env S).variables binders ds

  pub item_global : (item_env S binders ds).global ≡ S.block_of
  item_global = ap (λ (e : Env). e.global) item_is

  -- its data are of the sorts of the variables
  pub item_suits : AreFor binders ds → AreDistinct (names_with binders) → Suits (scope_with binders) (item_env S binders ds)
  item_suits sorted distinct =
      subst (Suits (scope_with binders)) (sym item_is) (record { each = λ x s e. sorted_each binders (bare_env S).variables ds sorted distinct x s e })
