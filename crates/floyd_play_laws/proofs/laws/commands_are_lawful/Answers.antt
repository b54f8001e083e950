use Rattle.floyd_play_laws.proofs.Table.{RowLaws, table}
use Rattle.floyd_play_laws.proofs.laws.commands_are_lawful.Goals as goal

pub returns : goal.returns
returns c =
    let rows : RowLaws = record {
      refl = c.rows_on_formulas.ensures.refl;
      trivial = c.rows_on_formulas.ensures.trivial;
      intro = c.rows_on_formulas.ensures.intro;
      left = c.rows_on_formulas.ensures.left;
      right = c.rows_on_formulas.ensures.right;
      split = c.rows_on_formulas.ensures.split;
      exists_pure = c.rows_on_formulas.ensures.exists;
      lia = c.rows_on_formulas.ensures.lia;
      cut = c.rows_on_hypotheses.ensures.cut;
      mp = c.rows_on_hypotheses.ensures.mp;
      law = c.rows_on_hypotheses.ensures.law;
      specialize = c.rows_on_hypotheses.ensures.specialize;
      inject = c.rows_on_hypotheses.ensures.inject;
      discriminate = c.rows_on_hypotheses.ensures.discriminate;
      destruct = c.rows_on_hypotheses.ensures.destruct;
      rewrite = c.rows_on_hypotheses.ensures.rewrite;
      simpl = c.rows_on_hypotheses.ensures.simpl;
      intros = c.rows_on_assertions.ensures.intros;
      exists = c.rows_on_assertions.ensures.exists;
      cancel = c.rows_on_assertions.ensures.cancel;
      weaken = c.rows_on_assertions.ensures.weaken;
      facts = c.rows_on_assertions.ensures.facts;
      valid = c.rows_on_assertions.ensures.valid;
      reroot = c.rows_on_assertions.ensures.reroot;
      split_array = c.rows_on_memory.ensures.split_array;
      join_array = c.rows_on_memory.ensures.join_array;
      split_struct = c.rows_on_memory.ensures.split_struct;
      join_struct = c.rows_on_memory.ensures.join_struct;
      split_share = c.rows_on_memory.ensures.split_share;
      join_share = c.rows_on_memory.ensures.join_share;
    } in
    table rows
