use Rattle.std.proofs.Common.{◌++◌, refl, subst}
use Rattle.floyd_goal_forms.specs.Assertions.{PartsFit, PredicatesOf}
use Rattle.floyd_goal_forms.specs.Terms.{FormulasFit, scope_with}
use Rattle.floyd_goal_forms.proofs.laws.lemmas_start_well_formed.Goals as goal

pub returns : goal.returns
returns c = λ defs specs name l found fits. record {
  context = record {
    variables = fits.with;
    hypotheses = subst (λ bs. FormulasFit defs specs (scope_with bs ++ scope_with l.with) l.left.props) fits.none fits.left.props;
    mark = (l, found, refl);
  };
  source = record {
    existentials = tt;
    props = tt;
    temporaries = tt;
    locals = tt;
    parts = subst (λ bs. PartsFit defs (scope_with bs ++ scope_with l.with) (PredicatesOf defs (scope_with bs ++ scope_with l.with)) l.left.parts) fits.none fits.left.parts;
  };
  target = fits.right;
}
