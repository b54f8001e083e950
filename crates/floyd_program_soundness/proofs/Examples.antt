-- The worked example.
use Rattle.std.proofs.Common.{◌≡◌, ℕ, cond, inl, List, [], ◌∷◌, Some, None, refl, ap}
use Rattle.std.specs.Prelude.{pos}
use Rattle.std.proofs.lemmas.Slice.Eq.{bytes_eq-Decides}
use Rattle.floyd_int.specs.declared.kinds.Value.TheVariants.{Vint as VintValue}
use Rattle.floyd_ctypes.specs.Has.{has}
use Rattle.floyd_clight.specs.declared.syntax.Expr.{Const}
use Rattle.floyd_ctypes.specs.Structs.{Structs}
use Rattle.floyd_clight_heap.specs.Heaplet.{empty}
use Rattle.floyd_clight_heap.proofs.Sums.{left_empty}
use Rattle.floyd_clight_machine.specs.Machine.{LocalBlock}
use Rattle.floyd_clight_memory.specs.Memory.{nth}
use Rattle.floyd_clight_runs.specs.Calls.{AreBlocksOf, AreOwned, SafeAll, with_normal}
use Rattle.floyd_clight_runs.proofs.Returns.{return_safe}
use Rattle.floyd_tree_sorts.specs.declared.heads.Head.TheVariants.{Literal, Operator}
use Rattle.floyd_tree_sorts.specs.declared.operators.Operator.TheVariants.{Vint}
use Rattle.floyd_tree_sorts.specs.declared.sorts.Sort.{Val, Z}
use Rattle.floyd_tree_values.specs.BuiltIns.{Env}
use Rattle.floyd_tree_values.specs.Data as datums
use Rattle.floyd_tree_values.specs.Means.{Defs, Means, built_in, none as no_data, more as more_data}
use Rattle.floyd_assert_meaning.specs.Parts.{none}
use Rattle.floyd_assert_meaning.proofs.Inversions.{none_of}
use Rattle.floyd_goal_forms.specs.Starts.{as_assertion, function_start, never}
use Rattle.floyd_goal_trees.specs.declared.exits.Exit.TheVariants.{None as NoExit, To}
use Rattle.floyd_goal_trees.specs.declared.exits.Exits.{Exits}
use Rattle.floyd_goal_meaning.specs.declared.linked.ImportBy.{ImportBy}
use Rattle.floyd_goal_meaning.specs.GoalHolds.{HoldsFor, goal_exits}
use Rattle.floyd_goal_meaning.specs.Programs.{int, setting}
use Rattle.floyd_goal_meaning.specs.Worlds.{world}
use Rattle.floyd_links.specs.Examples.{a_program, its_defs, its_module, its_specs, main_body, main_function, main_spec, zero_term}
use Rattle.floyd_links.proofs.Examples.{a_program_links, main_is}
use Rattle.floyd_program_soundness.specs.Examples.{IsProved, its_proofs}
use Rattle.floyd_program_soundness.specs.Proofs.{AreBodiesProved, AreImportsSmall, AreProofs, BodyOf, with_proved}
use Rattle.floyd_program_soundness.proofs.Soundness.{proved_sound}

zero_means : (defs : Defs) (env : Env) → Means defs env zero_term (datums.Val (VintValue 0))
zero_means defs env =
    built_in {head = Operator Vint} {s = Val} {ds = datums.Number (pos 0) ∷ []} refl refl
    (more_data (built_in {head = Literal (pos 0)} {s = Z} {ds = []} refl refl no_data) no_data)

-- a function without local variables has no blocks
no_blocks : (structs : Structs) (blocks : List LocalBlock) → AreBlocksOf structs [] blocks → AreOwned blocks empty
no_blocks structs [] h = tt
no_blocks structs (b ∷ blocks) h = absurd h

-- the ways out of main
abbrev its_exits : Exits
its_exits = record {
  normal = To never;
  brk = NoExit;
  cont = NoExit;
  ret = record { post = as_assertion main_spec.post; value = main_spec.post.value; result = int; blocks = [] };
}

main_holds : (n : ℕ) → HoldsFor (with_proved its_defs []) its_specs n (function_start [] main_spec main_body)
main_holds n = record {
  in_each = λ L more place there apart lemmas env given keeps act h s.
      let S = setting L more place in
      let W = world L more place in
      return_safe W n (Const (VintValue 0) int) act h (with_normal (SafeAll W n [] (goal_exits S env its_exits)) (goal_exits S env its_exits))
      (record {
        value = VintValue 0;
        evaluates = refl;
        returns = record {
          locals = empty;
          rest = h;
          joins = left_empty h;
          owned = no_blocks S.defs.structs act.blocks s.blocks;
          typed = ap (λ t. has t (VintValue 0)) s.result;
          after = (refl, record { witnesses = []; sorted = tt; props = tt; returned = zero_means S.defs env; parts = none (none_of s.holds.parts) });
        };
      });
}

abbrev main_starts : BodyOf a_program its_module main_body.name
main_starts = record {
  spec = main_spec;
  seen = ap (λ t. cond t (Some main_spec) None) ((bytes_eq-Decides main_body.name main_body.name).1 refl);
  declared = λ k. k;
  function = main_function;
  is = main_is;
  body = main_body;
  has_body = refl;
}

clash : (a : ImportBy) (number : ℕ) → nth [] number ≡ Some a → ⊥
clash a number e = cc

-- it has no import
none_small : AreImportsSmall a_program
none_small = (λ f spec own b. absurd (clash b.import b.among.0 b.among.1), tt)

its_proofs_are : AreProofs a_program [] its_proofs
its_proofs_are = (
  record {
    module' = its_module;
    at = refl;
    goals = function_start [] main_spec main_body ∷ [];
    starts = (main_starts, refl);
    holds = λ n. (main_holds n, tt);
    before = tt;
  },
  tt,
)

its_bodies_are : AreBodiesProved a_program its_proofs
its_bodies_are = (λ d e. (refl, inl (refl, refl)), tt)

pub a_program_is_proved : IsProved
a_program_is_proved = record {
  links = a_program_links;
  small = none_small;
  proofs = its_proofs_are;
  bodies = its_bodies_are;
  imports = (tt, tt);
  sound = λ place m start n answers lawful. proved_sound a_program its_proofs a_program_links none_small its_proofs_are its_bodies_are (tt, tt) place m start n answers lawful;
}
