-- What was translated, with the statements that go before it.
use Rattle.std.specs.Prelude.{List, ◌++◌, Result, Ok, Err}
use Rattle.floyd_text.specs.declared.refusal.Refusal.{Refusal}
use Rattle.floyd_clight.specs.declared.syntax.Stmt.{Stmt}
use Rattle.floyd_elab_expressions.specs.declared.translation.Translation.{Translation}
use Rattle.floyd_elab_expressions.specs.Clight.{Translated}

abbrev pub behind : List Stmt → Translation → Translated
behind before a = record { before = before; expr = a.expr; operand = a.operand }

-- the same behind statements that were there before
abbrev pub onto : {S : Type 0} → List Stmt → Result (Translated × S) Refusal → Result (Translated × S) Refusal
onto there (Ok r) = Ok (record r.0 { before = there ++ r.0.before }, r.1)
onto there (Err refusal) = Err refusal

-- statements behind those that were there before
abbrev pub put_behind : {S : Type 0} → List Stmt → Result (List Stmt × S) Refusal → Result (List Stmt × S) Refusal
put_behind there (Ok r) = Ok (there ++ r.0, r.1)
put_behind there (Err refusal) = Err refusal
