use Rattle.std.proofs.Common.{◌≡◌, ◌+◌, ◌<◌, List, [], ◌∷◌, ◌++◌, length, drop, arith, refl, ap, sym, ◌∙◌}
use Rattle.std.specs.Prelude.{Result, Ok}
use Rattle.std.proofs.lemmas.List.{append-nil, drop_more}
use Rattle.std.proofs.Math.Seq.{drop-length}
use Rattle.floyd_text.specs.declared.refusal.Refusal.{Refusal}
use Rattle.floyd_elab_names.specs.Declarators.{name_of, name_or_none}
use Rattle.floyd_elab_names.specs.Scopes.{Scopes}
use Rattle.floyd_clight.specs.declared.syntax.Stmt.{Stmt}
use Rattle.floyd_elab_expressions.specs.declared.progress.Progress.{Progress}
use Rattle.floyd_elab_addresses.specs.Flags.{is_taken, declarator_flags}
use Rattle.floyd_elab_statements.specs.Locals.{declarators}
use Rattle.floyd_elab_statements.specs.LocalClauses.{beginning}
use Rattle.floyd_elab_statements.proofs.Steps.{gives_err, stops_as}
use Rattle.floyd_elab_statements.proofs.Exits.{only_ok}
use Rattle.floyd_elab_statements.proofs.LocalLemmas.{next_declared, stopped_declared}
use Rattle.floyd_elab_statements.proofs.locals.declarators.Goals as goal

pub declarators-init : goal.declarators-init
declarators-init c = record { left = refl; flags = λ rest more h. h; exact = λ rest more h. refl }

pub declarators-preserved : goal.declarators-preserved
declarators-preserved c =
    let all = c.args.parts.all.now in
    let at = c.declarators.declarator-index in
    let d = c.declarator-item.result in
    let ds = drop (at + 1) all in
    let within : at < length all = omega arith in
    let split : drop at all ≡ d ∷ ds = drop_more all at d within ∙ ap (λ v. v ∷ ds) (sym c.declarator-item.is) in
    record {
      left = c.in_ok-declare.ensures.left ∙ c.declarators.invariant.left;
      flags = λ rest more h.
          (c.next_flag.ensures (is_taken d ds rest (name_or_none (name_of d.declarator))) (declarator_flags ds rest ++ more)
          (c.declarators.invariant.flags rest more h ∙ ap (λ l. declarator_flags l rest ++ more) split)).1;
      exact = λ rest more h.
          c.declarators.invariant.exact rest more h
          ∙ ap (λ l. beginning c.declarators.out (declarators c.declarators.names c.args.parts.base.now l rest c.declarators.progress)) split
          ∙ next_declared c.declarators.out c.declare.new.out c.declarators.names c.declare.new.names c.args.parts.base.now d ds rest c.next_flag.result c.declarators.progress c.declare.new.progress
          (c.next_flag.ensures (is_taken d ds rest (name_or_none (name_of d.declarator))) (declarator_flags ds rest ++ more)
          (c.declarators.invariant.flags rest more h ∙ ap (λ l. declarator_flags l rest ++ more) split)).0
          c.in_ok-declare.ensures.exact;
    }

pub returns-in_err-declare : goal.returns-in_err-declare
returns-in_err-declare c =
    let all = c.args.parts.all.now in
    let at = c.declarators.declarator-index in
    let d = c.declarator-item.result in
    let ds = drop (at + 1) all in
    let within : at < length all = omega arith in
    let split : drop at all ≡ d ∷ ds = drop_more all at d within ∙ ap (λ v. v ∷ ds) (sym c.declarator-item.is) in
    let h = c.in_err-declare.field-0.0 in
    record {
      exact = λ rest more are.
          gives_err _ c.from_residual.result h _ c.from_residual.ensures.1
          (stops_as h _ _
          (c.declarators.invariant.exact rest more are ∙ ap (λ l. beginning c.declarators.out (declarators c.declarators.names c.args.parts.base.now l rest c.declarators.progress)) split)
          (stopped_declared h c.declarators.out c.declarators.names c.args.parts.base.now d ds rest c.next_flag.result c.declarators.progress
          (c.next_flag.ensures (is_taken d ds rest (name_or_none (name_of d.declarator))) (declarator_flags ds rest ++ more)
          (c.declarators.invariant.flags rest more are ∙ ap (λ l. declarator_flags l rest ++ more) split)).0
          c.in_err-declare.ensures.exact));
      flags = λ rest more are. only_ok c.from_residual.result _ _ c.from_residual.ensures.1;
      left = only_ok c.from_residual.result _ _ c.from_residual.ensures.1;
    }

pub returns : goal.returns
returns c =
    let all = c.args.parts.all.now in
    let at_end : c.declarators.declarator-index ≡ length all = omega arith in
    let done : drop c.declarators.declarator-index all ≡ [] = ap (λ n. drop n all) at_end ∙ drop-length all in
    record {
      exact = λ rest more h.
          c.declarators.invariant.exact rest more h
          ∙ ap (λ l. beginning c.declarators.out (declarators c.declarators.names c.args.parts.base.now l rest c.declarators.progress)) done
          ∙ ap (λ (l : List Stmt). let made : Result ((List Stmt × Scopes) × Progress) Refusal = Ok ((l, c.declarators.names), c.declarators.progress) in made) (append-nil c.declarators.out);
      flags = λ rest more h. c.declarators.invariant.flags rest more h ∙ ap (λ l. declarator_flags l rest ++ more) done;
      left = c.declarators.invariant.left;
    }
