use Rattle.std.proofs.Common.{Err, refl, subst}
use Rattle.floyd_grammar.specs.GivesClauses.{Gives}
use Rattle.floyd_grammar.specs.ParseClauses.{Read, barring, pure}
use Rattle.floyd_cparse_trees.specs.declared.statements.LocalDeclaration.{LocalDeclaration}
use Rattle.floyd_cparse_statements.specs.Statements.{no_declaration, declaration_item}
use Rattle.floyd_cparse_statements.specs.StatementClauses.{local_declaration, declared_item}
use Rattle.floyd_cparse_tokens.specs.Tokens.{Sight}
use Rattle.floyd_cparse_tokens.proofs.ReadLemmas.{gives_not, gives_from}
use Rattle.floyd_cparse_statements.proofs.StatementShrinks.{declaration_passes}
use Rattle.floyd_cparse_statements.proofs.read_statements.read_declared_item.Goals as goal

pub returns : goal.returns
unfolding declared_item
returns c =
    rw (← declaration_passes c.args.types.now (local_declaration c.args.types.now c.args.room) c.args.reader.now c.requires.begins, c.in_ok-declaration.ensures) refl

pub returns-in_err-declaration : goal.returns-in_err-declaration
unfolding declared_item
returns-in_err-declaration c =
    let e = c.in_err-declaration.field-0.0 in
    let types = c.args.types.now in
    let p = local_declaration types c.args.room in
    gives_from c.from_residual.result e c.read_local_declaration.new.reader (declared_item types c.args.room c.args.reader.now) c.from_residual.ensures.1
    (gives_not (barring (no_declaration types) p) (λ (x : LocalDeclaration). pure (declaration_item x)) c.args.reader.now c.read_local_declaration.new.reader e
    (subst (λ (z : Read Sight LocalDeclaration). Gives (Err e) c.read_local_declaration.new.reader z) (declaration_passes types p c.args.reader.now c.requires.begins) c.in_err-declaration.ensures))
