use Rattle.std.proofs.Common.{[], ◌∷◌, ◌++◌, ap₂, ◌∙◌}
use Rattle.floyd_symexpr_paths.proofs.SearchLemmas.{after_stops}
use Rattle.floyd_symexpr_paths.proofs.search.type_after.Goals as goal

pub returns-in-No : goal.returns-in-No
returns-in-No c =
    after_stops c.args.structs.now c.args.t.now c.args.step.now c.push.new.self c.in-Err.stop c.in-No.field-0
    (c.in_ok-push.ensures.ok ∙ ap₂ (λ path step. path ++ step ∷ []) c.new-path.ensures c.in_ok-share.ensures)
    c.in-Err.ensures.exact c.in-No.is
