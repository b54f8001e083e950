use Rattle.floyd_elab.proofs.SourceLemmas.{elaborated_stops, elaborated_gives}
use Rattle.floyd_elab.proofs.FollowLemmas.{stopped_by}
use Rattle.floyd_elab.proofs.source.elaborate.Goals as goal

pub returns-in_err-elaborate_externals : goal.returns-in_err-elaborate_externals
returns-in_err-elaborate_externals c =
    record {
      exact = stopped_by c.from_residual-in_err-elaborate_externals.result c.in_err-elaborate_externals.field-0.0 _ _ c.from_residual-in_err-elaborate_externals.ensures.1
          (elaborated_stops c.args.unit.now c.as_slice.result.now c.in_ok-file.file c.as_slice.ensures c.in_ok-file.ensures c.in_err-elaborate_externals.field-0.0 c.in_err-elaborate_externals.ensures);
    }

pub returns : goal.returns
returns c =
    record {
      exact = elaborated_gives c.args.unit.now c.as_slice.result.now c.in_ok-file.file c.as_slice.ensures c.in_ok-file.ensures c.elaborate_externals.new.file c.in_ok-unit_of.field-0
          c.in_ok-elaborate_externals.ensures c.in_ok-unit_of.ensures;
    }
