use Rattle.std.proofs.Common.{sym, subst}
use Rattle.floyd_text.specs.Gives.{Gives}
use Rattle.floyd_cparse_trees.specs.declared.declarations.Constant.{Constant}
use Rattle.floyd_clight.specs.declared.initial.Initial.{Initial}
use Rattle.floyd_elab_data.specs.Contents.{constant as constant_lem}
use Rattle.floyd_elab_data.proofs.constants.constant_contents.Goals as goal

pub returns-in-Literal : goal.returns-in-Literal
returns-in-Literal c =
    record {
      exact =
          subst (λ (x : Constant). Gives (λ (i : Initial). (i, c.args.tags.now)) c.literal_contents.result (constant_lem c.args.names.now c.args.place c.args.t.now x c.args.tags.now))
          (sym c.in-Literal.is) (c.literal_contents.ensures.exact c.args.tags.now);
    }
