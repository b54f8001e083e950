use Rattle.std.proofs.Common.{◌≡◌, ℕ, false, drop, Option, Some, None, refl, sym, ◌∙◌, ap}
use Rattle.std.specs.Option.{is_some}
use Rattle.std.proofs.lemmas.List.{take_rest}
use Rattle.std.proofs.lemmas.Result.{IfOk-weaker}
use Rattle.floyd_lex.specs.declared.lead.Flaw.{Flaw}
use Rattle.floyd_lex.specs.declared.lead.Flaw.TheVariants.{OpenComment}
use Rattle.floyd_lex.specs.Front.{comment_len}
use Rattle.floyd_lex.proofs.LexerLemmas.{room, more_none, more_open, still_open, still_flawed, open_is, open_is_not}
use Rattle.floyd_lex.proofs.lexer.cut_more.Goals as goal

pub cut_from-requires-clause-count : goal.cut_from-requires-clause-count
cut_from-requires-clause-count c = room c.args.kind c.args.tokens.now.file c.args.bytes.now c.args.old c.args.tokens.now c.args.stand c.requires.lines c.requires.cut

pub cut_from-requires-in-Some-clause-count : goal.cut_from-requires-in-Some-clause-count
cut_from-requires-in-Some-clause-count c = room c.args.kind c.args.tokens.now.file c.args.bytes.now c.args.old c.args.tokens.now c.args.stand c.requires.lines c.requires.cut

-- nothing was found
nothing_found : (o : Option ℕ) → is_some o ≡ false → o ≡ None
nothing_found None e = refl
nothing_found (Some n) e = absurd cc

-- what the flaw is, in the stand
at_flaw : (o : Option (Flaw × ℕ)) (f g : Flaw) (to : ℕ) → o ≡ Some (f, to) → f ≡ g → o ≡ Some (g, to)
at_flaw o f g to e same = e ∙ ap (λ (x : Flaw). Some (x, to)) same

pub returns-then-not-is_open-clause-ok : goal.returns-then-not-is_open-clause-ok
returns-then-not-is_open-clause-ok c = still_flawed c.args.kind c.args.tokens.now.file c.args.bytes.now c.args.old c.args.tokens.now c.args.stand c.requires.lines c.requires.cut c.in-Some.flaw c.in-Some.field-0-1 c.in-Some.is (open_is_not c.in-Some.flaw (sym c.if-not-is_open.ensures))

pub returns-then-is_none-clause-ok : goal.returns-then-is_none-clause-ok
returns-then-is_none-clause-ok c =
    let none : c.comment_len.result ≡ None = nothing_found c.comment_len.result c.if-is_none.ensures in
    let same : comment_len (drop c.args.old c.args.bytes.now) ≡ None = ap comment_len (sym (take_rest c.args.bytes.now c.args.old)) ∙ sym c.comment_len.ensures.value ∙ none in
    still_open c.args.kind c.args.tokens.now.file c.args.bytes.now c.args.old c.args.tokens.now c.args.stand c.requires.lines c.requires.cut c.in-Some.field-0-1 (at_flaw c.args.stand.flaw c.in-Some.flaw OpenComment c.in-Some.field-0-1 c.in-Some.is (open_is c.in-Some.flaw (sym c.if-not-is_open.ensures))) same

pub returns-in-None-clause-ok : goal.returns-in-None-clause-ok
returns-in-None-clause-ok c = IfOk-weaker c.cut_from.result _ _ (λ next h. more_none c.args.kind c.args.tokens.now.file c.args.bytes.now c.args.old c.args.tokens.now c.args.stand c.requires.lines c.requires.cut c.in-None.is c.cut_from.new.tokens next h) c.cut_from.ensures.ok

pub returns-else-is_none-clause-ok : goal.returns-else-is_none-clause-ok
returns-else-is_none-clause-ok c =
    let e = at_flaw c.args.stand.flaw c.in-Some.flaw OpenComment c.in-Some.field-0-1 c.in-Some.is (open_is c.in-Some.flaw (sym c.if-not-is_open.ensures)) in
    IfOk-weaker c.cut_from-in-Some.result _ _ (λ next h. more_open c.args.kind c.args.tokens.now.file c.args.bytes.now c.args.old c.args.tokens.now c.args.stand c.requires.lines c.requires.cut c.in-Some.field-0-1 e c.cut_from-in-Some.new.tokens next h) c.cut_from-in-Some.ensures.ok
