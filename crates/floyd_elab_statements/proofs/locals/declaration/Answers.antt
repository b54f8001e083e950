use Rattle.std.proofs.Common.{◌++◌, ap, sym, ◌∙◌}
use Rattle.floyd_elab_addresses.specs.Flags.{declarator_flags}
use Rattle.floyd_elab_statements.proofs.Steps.{gives_err, gives_as}
use Rattle.floyd_elab_statements.proofs.Exits.{only_ok, gives_memory}
use Rattle.floyd_elab_statements.proofs.LocalLemmas.{declaration_stops, declaration_goes}
use Rattle.floyd_elab_statements.proofs.locals.declaration.Goals as goal

pub returns-in_err-site : goal.returns-in_err-site
returns-in_err-site c =
    record {
      exact = λ rest more are. gives_memory _ c.from_residual.result _ c.from_residual.ensures.1;
      flags = λ rest more are. only_ok c.from_residual.result _ _ c.from_residual.ensures.1;
      left = only_ok c.from_residual.result _ _ c.from_residual.ensures.1;
    }

pub returns-in_err-base : goal.returns-in_err-base
returns-in_err-base c =
    let h = c.in_err-base.field-0.0 in
    record {
      exact = λ rest more are.
          gives_err _ c.from_residual-in_err-base.result h _ c.from_residual-in_err-base.ensures.1
          (declaration_stops c.args.out.now c.args.names.now c.args.d.now rest c.args.progress.now c.in_ok-site.site c.in_ok-site.ensures h c.in_err-base.ensures);
      flags = λ rest more are. only_ok c.from_residual-in_err-base.result _ _ c.from_residual-in_err-base.ensures.1;
      left = only_ok c.from_residual-in_err-base.result _ _ c.from_residual-in_err-base.ensures.1;
    }

pub returns : goal.returns
returns c =
    let d = c.args.d.now in
    let all = c.as_slice.result.now in
    record {
      exact = λ rest more are.
          gives_as _ c.declarators.result _ _
          (declaration_goes c.args.out.now c.args.names.now d rest c.args.progress.now c.in_ok-site.site c.in_ok-site.ensures c.in_ok-base.base c.base_type.new.tags all c.in_ok-base.ensures c.as_slice.ensures)
          (c.declarators.ensures.exact rest more (are ∙ ap (λ l. declarator_flags l rest ++ more) (sym c.as_slice.ensures)));
      flags = λ rest more are. c.declarators.ensures.flags rest more (are ∙ ap (λ l. declarator_flags l rest ++ more) (sym c.as_slice.ensures));
      left = c.declarators.ensures.left;
    }
