use Rattle.std.proofs.Common.{Err, refl, sym, ◌∙◌, subst, inr, true≢false}
use Rattle.floyd_text.specs.declared.code.Code.TheVariants as code
use Rattle.floyd_goal.specs.Goals.{refusal}
use Rattle.floyd_goal_trees.specs.declared.goal.Goal.{Goal}
use Rattle.floyd_pure_formulas.specs.Trivial.{TrivialRow}
use Rattle.floyd_pure_formulas.proofs.trivial.do_trivial.Goals as goal

pub returns-else-is_trivial : goal.returns-else-is_trivial
returns-else-is_trivial g c =
    record {
      exact = subst (λ (x : Goal). TrivialRow x c.args.args.now (Err (refusal code.NotTrivial))) (sym c.in-Pure.is)
          (inr (λ t. true≢false (sym (c.is_trivial.ensures.1 t) ∙ c.if-is_trivial.false), refl));
    }
