use Rattle.std.proofs.Common.{rules, arith, ◌≡◌, refl}
use Rattle.std.specs.Prelude.{codes}
use Rattle.std.proofs.lemmas.Slice.Eq.{text_from_reads}
use Rattle.floyd_lex.proofs.keywords.left_out_word.Goals as goal

pub returns-in-double : goal.returns-in-double
returns-in-double c = let same : c.args.word.now ≡ codes "double" = text_from_reads c.args.word.now (codes "double") (omega arith) (search rules) in rw same refl

pub returns-in-static : goal.returns-in-static
returns-in-static c = let same : c.args.word.now ≡ codes "static" = text_from_reads c.args.word.now (codes "static") (omega arith) (search rules) in rw same refl

pub returns-in-volatile : goal.returns-in-volatile
returns-in-volatile c = let same : c.args.word.now ≡ codes "volatile" = text_from_reads c.args.word.now (codes "volatile") (omega arith) (search rules) in rw same refl

pub returns-in-register : goal.returns-in-register
returns-in-register c = let same : c.args.word.now ≡ codes "register" = text_from_reads c.args.word.now (codes "register") (omega arith) (search rules) in rw same refl

pub returns-in-inline : goal.returns-in-inline
returns-in-inline c = let same : c.args.word.now ≡ codes "inline" = text_from_reads c.args.word.now (codes "inline") (omega arith) (search rules) in rw same refl

pub returns-in-restrict : goal.returns-in-restrict
returns-in-restrict c = let same : c.args.word.now ≡ codes "restrict" = text_from_reads c.args.word.now (codes "restrict") (omega arith) (search rules) in rw same refl

pub returns-in-switch : goal.returns-in-switch
returns-in-switch c = let same : c.args.word.now ≡ codes "switch" = text_from_reads c.args.word.now (codes "switch") (omega arith) (search rules) in rw same refl
