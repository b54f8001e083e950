use Rattle.floyd_termread.specs.Brackets.{outermost}
use Rattle.floyd_play_terms.specs.Expected.{expected as sort_by}
use Rattle.floyd_play_reading.specs.Expected as of
use Rattle.floyd_play_reading.proofs.ReadingLemmas.{terms_as}
use Rattle.floyd_play_reading.proofs.terms.first_terms_at.Goals as goal

pub returns-clause-exact : goal.returns-clause-exact
returns-clause-exact c =
    terms_as c.args.text.bytes.now c.args.text.tokens.now (outermost c.args.scope.now) (sort_by c.expected_terms-expected.result) (of.expected c.args.around.defs.now c.args.around.specs.now c.args.around.rule c.args.around.goal.now c.args.name.now) c.expected_terms-expected.ensures c.args.at c.terms_alone.result c.terms_alone.ensures.exact
