-- The scope of parameters, and what a body gives.
use Rattle.std.proofs.Common.{◌≡◌, ℕ, ◌+◌, ◌<◌, ◌≤◌, List, [], ◌∷◌, ◌++◌, length, drop, get_or, append_assoc, Result, Ok, Err, refl, ap, sym, subst, ◌∙◌}
use Rattle.std.proofs.lemmas.List.{append-nil, drop_more}
use Rattle.std.proofs.Math.ListN.{drop_of_length-le}
use Rattle.floyd_text.specs.declared.refusal.Halt.{Halt}
use Rattle.floyd_text.specs.declared.refusal.Halt.TheVariants.{Refused, Memory}
use Rattle.floyd_text.specs.declared.refusal.Refusal.{Refusal}
use Rattle.floyd_text.specs.Gives.{Stops}
use Rattle.floyd_ctypes.specs.declared.ctype.CType.{CType}
use Rattle.floyd_cparse_trees.specs.declared.statements.CStatement.{CStatement}
use Rattle.floyd_cparse_trees.specs.declared.types.Identifier.{Identifier}
use Rattle.floyd_clight.specs.declared.syntax.Stmt.{Stmt}
use Rattle.floyd_clight.specs.declared.unit.Local.{Local}
use Rattle.floyd_elab_names.specs.declared.tags.Tags.{Tags}
use Rattle.floyd_elab_names.specs.Scopes.{Scope, Scopes}
use Rattle.floyd_elab_expressions.specs.Behind.{put_behind}
use Rattle.floyd_elab_expressions.specs.declared.progress.Progress.{Progress}
use Rattle.floyd_elab_statements.specs.Statements.{body}
use Rattle.floyd_elab.specs.declared.file.File.{File}
use Rattle.floyd_elab.specs.Units.{parameter_scope, first_progress, definition, with_body, define_body}
use Rattle.floyd_elab.specs.Files.{top, define_function}
use Rattle.floyd_elab.specs.UnitClauses.{without_names, without_tags}
use Rattle.floyd_elab.specs.TableClauses.{innermost, with_parameter}

-- with more names in the innermost scope
abbrev pub widened : Scopes → Scope → Scopes
widened [] more = []
widened (scope ∷ outer) more = (scope ++ more) ∷ outer

one_wider : (scopes : Scopes) (p : Local) (ps : List Local) → widened (with_parameter p scopes) (parameter_scope ps) ≡ widened scopes (parameter_scope (p ∷ ps))
one_wider [] p ps = refl
one_wider (scope ∷ outer) p ps = ap (λ (s : Scope). s ∷ outer) (append_assoc scope (parameter_scope (p ∷ [])) (parameter_scope ps))

pub next_wider : (scopes now : Scopes) (all : List Local) (i : ℕ) (p : Local) (whole : Scopes) → i < length all → p ≡ get_or all i p → now ≡ with_parameter p scopes
    → widened scopes (parameter_scope (drop i all)) ≡ whole → widened now (parameter_scope (drop (i + 1) all)) ≡ whole
next_wider scopes now all i p whole within is declared held =
    ap (λ (s : Scopes). widened s (parameter_scope (drop (i + 1) all))) declared
    ∙ one_wider scopes p (drop (i + 1) all)
    ∙ ap (λ (q : Local). widened scopes (parameter_scope (q ∷ drop (i + 1) all))) is
    ∙ sym (ap (λ (ps : List Local). widened scopes (parameter_scope ps)) (drop_more all i p within))
    ∙ held

as_wide : (scopes : Scopes) → widened scopes [] ≡ scopes
as_wide [] = refl
as_wide (scope ∷ outer) = ap (λ (s : Scope). s ∷ outer) (append-nil scope)

pub last_wider : (scopes : Scopes) (all : List Local) (i : ℕ) (whole : Scopes) → length all ≤ i → widened scopes (parameter_scope (drop i all)) ≡ whole → scopes ≡ whole
last_wider scopes all i whole past held =
    sym (as_wide scopes) ∙ sym (ap (λ (ps : List Local). widened scopes (parameter_scope ps)) (drop_of_length-le all past)) ∙ held

-- statements behind none
module _ {S : Type 0} where
  pub behind_none : (r : Result (List Stmt × S) Refusal) (x : List Stmt × S) → put_behind [] r ≡ Ok x → r ≡ Ok x
  behind_none (Ok r) x e = e
  behind_none (Err refusal) x e = cc

  pub refused_behind_none : (r : Result (List Stmt × S) Refusal) (refusal : Refusal) → put_behind [] r ≡ Err refusal → r ≡ Err refusal
  refused_behind_none (Ok r) refusal e = cc
  refused_behind_none (Err other) refusal e = e

  pub stops_behind_none : (r : Result (List Stmt × S) Refusal) (halt : Halt) → Stops halt (put_behind [] r) → Stops halt r
  stops_behind_none r Memory e = tt
  stops_behind_none r (Refused refusal) e = refused_behind_none r refusal e

-- a body, as a part of its function; the parameters are those that the program lent
module _ (i : Identifier) (result : CType) (parameters lent : List Local) (same : lent ≡ parameters) (block : CStatement) (file : File) where
  abbrev body_with : List Local → Result (List Stmt × Progress) Refusal
  body_with ps = body result (parameter_scope ps ∷ top file) block (first_progress file.tags ps)

  pub bodied_stops : (halt : Halt) → Stops halt (body_with lent) → Stops halt (define_body i result parameters block file)
  bodied_stops Memory e = tt
  bodied_stops (Refused refusal) e = ap (with_body i result parameters file) (sym (ap body_with same) ∙ e)

  pub bodied_gives : (statements : List Stmt) (after : Progress) (bare now : File) → body_with lent ≡ Ok (statements, after) → bare ≡ without_tags file
      → now ≡ define_function (definition i result parameters statements after) (record bare { tags = after.tags })
      → define_body i result parameters block file ≡ Ok (tt, now)
  bodied_gives statements after bare now e is put =
      ap (with_body i result parameters file) (sym (ap body_with same) ∙ e)
      ∙ sym (ap (λ (f : File). Ok (tt, f)) (put ∙ ap (λ (f : File). define_function (definition i result parameters statements after) (record f { tags = after.tags })) is))

-- after a body the file's scope is the one again
pub one_again : (names now : Scopes) (scope : Scope) → names ≡ scope ∷ [] → now ≡ names → now ≡ innermost now ∷ []
one_again names now scope opened same = let is : now ≡ scope ∷ [] = same ∙ opened in is ∙ sym (ap (λ (s : Scopes). innermost s ∷ []) is)

module _ (file declarator_name bare : File) (names now : Scopes) (opened : names ≡ top file) (same : now ≡ names) where
  pub scope_again : (scope : Scope) → declarator_name ≡ without_names file → bare ≡ without_tags declarator_name → scope ≡ innermost now → record bare { scope = scope } ≡ without_tags file
  scope_again scope taken taken_too is =
      ap (λ (f : File). record f { scope = scope }) (taken_too ∙ ap without_tags taken)
      ∙ ap (λ (s : Scope). record (without_tags file) { scope = s }) (is ∙ ap innermost (same ∙ opened))

-- a body in the scopes and with the structs that were taken out of the file
module _ (result : CType) (parameters : List Local) (block : CStatement) (file declarator_name : File) (names : Scopes) (tags : Tags)
    (opened : names ≡ top file) (taken : declarator_name ≡ without_names file) (begun : tags ≡ declarator_name.tags) where
  abbrev body_from : Scopes → Tags → Result (List Stmt × Progress) Refusal
  body_from scopes tags = body result (parameter_scope parameters ∷ scopes) block (first_progress tags parameters)

  pub body_is : body_from names tags ≡ body_from (top file) file.tags
  body_is = ap (λ (scopes : Scopes). body_from scopes tags) opened ∙ ap (body_from (top file)) (begun ∙ ap (λ (f : File). f.tags) taken)

  pub body_stops : (halt : Halt) → Stops halt (body_from names tags) → Stops halt (body_from (top file) file.tags)
  body_stops halt e = subst (λ (r : Result (List Stmt × Progress) Refusal). Stops halt r) body_is e
