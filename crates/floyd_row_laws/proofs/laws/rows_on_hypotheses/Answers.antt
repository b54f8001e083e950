use Rattle.floyd_pure_formulas.specs.Cut.{CutRow}
use Rattle.floyd_pure_formulas.specs.Destruct.{DestructRow}
use Rattle.floyd_pure_formulas.specs.Discriminate.{DiscriminateRow}
use Rattle.floyd_pure_formulas.specs.Mp.{MpRow}
use Rattle.floyd_pure_formulas.proofs.Telling.{discriminate_refuting}
use Rattle.floyd_pure_formulas.proofs.Using.{cut_adding, mp_adding}
use Rattle.floyd_pure_laws.specs.ByLaw.{LawRow}
use Rattle.floyd_pure_laws.proofs.UsingLaws.{law_adding}
use Rattle.floyd_pure_quantifiers.specs.Inject.{InjectRow}
use Rattle.floyd_pure_quantifiers.specs.Specialize.{SpecializeRow}
use Rattle.floyd_pure_quantifiers.proofs.Injecting.{inject_adding}
use Rattle.floyd_pure_quantifiers.proofs.Instancing.{specialize_adding}
use Rattle.floyd_pure_rewriting.specs.Rewrite.{RewriteRow}
use Rattle.floyd_pure_simplifying.specs.Simpl.{SimplRow}
use Rattle.floyd_pure_soundness.proofs.Added.{adding_row, refuting_row}
use Rattle.floyd_destruct_soundness.proofs.Sound.{destruct_sound}
use Rattle.floyd_rewriting_soundness.proofs.Sound.{rewrite_sound}
use Rattle.floyd_simplifying_laws.proofs.Sound.{simpl_sound}
use Rattle.floyd_formed_destruct.proofs.Cases.{destruct_forms}
use Rattle.floyd_formed_equations.proofs.ByLaw.{law_forms}
use Rattle.floyd_formed_equations.proofs.Equations.{inject_forms}
use Rattle.floyd_formed_pure.proofs.Closing.{discriminate_forms}
use Rattle.floyd_formed_pure.proofs.Using.{cut_forms, mp_forms}
use Rattle.floyd_formed_quantifiers.proofs.Quantified.{specialize_forms}
use Rattle.floyd_formed_rewriting.proofs.Goals.{rewrite_forms}
use Rattle.floyd_formed_simplifying.proofs.Goals.{simpl_forms}
use Rattle.floyd_row_laws.proofs.Gathering.{any_goal, formed_goal, small_goal}
use Rattle.floyd_row_laws.proofs.laws.rows_on_hypotheses.Goals as goal

pub returns-clause-cut : goal.returns-clause-cut
returns-clause-cut c = any_goal CutRow (adding_row CutRow cut_adding) cut_forms

pub returns-clause-mp : goal.returns-clause-mp
returns-clause-mp c = any_goal MpRow (adding_row MpRow mp_adding) mp_forms

pub returns-clause-law : goal.returns-clause-law
returns-clause-law c = any_goal LawRow (adding_row LawRow law_adding) law_forms

pub returns-clause-specialize : goal.returns-clause-specialize
returns-clause-specialize c = any_goal SpecializeRow (adding_row SpecializeRow specialize_adding) specialize_forms

pub returns-clause-inject : goal.returns-clause-inject
returns-clause-inject c = any_goal InjectRow (adding_row InjectRow inject_adding) inject_forms

pub returns-clause-discriminate : goal.returns-clause-discriminate
returns-clause-discriminate c = any_goal DiscriminateRow (refuting_row DiscriminateRow discriminate_refuting) discriminate_forms

pub returns-clause-destruct : goal.returns-clause-destruct
returns-clause-destruct c = small_goal DestructRow destruct_sound destruct_forms

pub returns-clause-rewrite : goal.returns-clause-rewrite
returns-clause-rewrite c = small_goal RewriteRow rewrite_sound rewrite_forms

pub returns-clause-simpl : goal.returns-clause-simpl
returns-clause-simpl c = formed_goal SimplRow simpl_sound simpl_forms
