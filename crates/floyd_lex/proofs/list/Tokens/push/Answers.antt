use Rattle.std.proofs.Common.{◌∙◌, List, ap, refl}
use Rattle.floyd_lex.specs.Token.{Lexeme}
use Rattle.std.proofs.lemmas.Result.{err_from_is_err_and}
use Rattle.floyd_lex.proofs.PackingLemmas.{lexemes_of-grows, AreWithin-grows, AreWithin-push, lexemes_of-push}
use Rattle.floyd_lex.proofs.list.Tokens.push.Goals as goal

pub invariant_of-self : goal.invariant_of-self
invariant_of-self c = AreWithin-grows _ _ _ c.in_err-form.ensures.grows c.self.invariant

pub returns-in_err-form-clause-err : goal.returns-in_err-form-clause-err
returns-in_err-form-clause-err c =
    let p = err_from_is_err_and c.from_residual.result c.from_residual.ensures.1 in
    rw p.1 (ap (λ (xs : List Lexeme). record { file = c.self.inside.file; items = xs }) (lexemes_of-grows c.self.inside.file _ _ _ c.in_err-form.ensures.grows c.self.invariant) ∙ c.self.view_is)

pub invariant_of-self-in_err-push : goal.invariant_of-self-in_err-push
invariant_of-self-in_err-push c = rw c.in_err-push.ensures.items (AreWithin-grows _ _ _ c.in_ok-form.ensures.grows c.self.invariant)

pub returns-in_err-push-clause-err : goal.returns-in_err-push-clause-err
returns-in_err-push-clause-err c =
    let p = err_from_is_err_and c.from_residual-in_err-push.result c.from_residual-in_err-push.ensures.1 in
    rw (p.1, c.in_err-push.ensures.items) (ap (λ (xs : List Lexeme). record { file = c.self.inside.file; items = xs }) (lexemes_of-grows c.self.inside.file _ _ _ c.in_ok-form.ensures.grows c.self.invariant) ∙ c.self.view_is)

pub invariant_of-self-2 : goal.invariant_of-self-2
invariant_of-self-2 c = rw c.in_ok-push.ensures.items (AreWithin-push _ _ _ (AreWithin-grows _ _ _ c.in_ok-form.ensures.grows c.self.invariant) c.in_ok-form.ensures.ok.1)

pub returns-clause-ok : goal.returns-clause-ok
returns-clause-ok c = rw (c.in_ok-push.ensures.items, lexemes_of-push c.self.inside.file c.form_of.new.long.items c.self.inside.packed.items (record { start = c.args.start; end = c.args.end; line = c.args.line; column = c.args.column; value = c.in_ok-form.value; form = c.in_ok-form.form }), c.in_ok-form.ensures.ok.0, lexemes_of-grows c.self.inside.file _ _ _ c.in_ok-form.ensures.grows c.self.invariant, ← c.self.view_is) refl
