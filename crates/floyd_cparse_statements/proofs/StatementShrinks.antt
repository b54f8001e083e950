-- Readers of the items of a block take tokens; what is barred, and what stands one level further in.
use Rattle.std.proofs.Common.{◌≡◌, ℕ, zero, suc, pred, ◌-◌, ◌<◌, Bool, true, false, not, ◌||◌, List, [], ◌∷◌, length, Result, Ok, Err, refl, sym, ◌∙◌, subst, true≢false, sub-one}
use Rattle.std.specs.Prelude.{Option, Some, None}
use Rattle.floyd_text.specs.declared.place.Place.{Place}
use Rattle.floyd_grammar.specs.declared.stop.Stop.{Stop}
use Rattle.floyd_grammar.specs.GivesClauses.{Gives}
use Rattle.floyd_grammar.specs.ParseClauses.{Parser, Read, one, pure, bind, ◌>>=◌, leads, barring, stopped_at}
use Rattle.floyd_cparse_trees.specs.declared.expressions.CExpr.{CExpr}
use Rattle.floyd_cparse_trees.specs.declared.statements.SwitchCase.{SwitchCase}
use Rattle.floyd_cparse_trees.specs.declared.statements.SwitchLabel.{SwitchLabel}
use Rattle.floyd_cparse_statements.specs.declared.values.BlockItems.{BlockItems}
use Rattle.floyd_cparse_expressions.specs.declared.values.Comma.TheVariants as comma
use Rattle.floyd_cparse_statements.specs.declared.values.ForHead.{ForHead}
use Rattle.floyd_cparse_statements.specs.declared.values.ReadStatement.{ReadStatement}
use Rattle.floyd_cparse_expressions.specs.Expressions.{close_paren, open_token}
use Rattle.floyd_cparse_tokens.specs.SeenClauses.{take_as}
use Rattle.floyd_cparse_statements.specs.Statements.{comma_token, begins_declaration, no_declaration, is_taken_else, taken_else, no_case_item, is_first, semicolon, for_of}
use Rattle.floyd_cparse_statements.specs.Labels.{is_label_word}
use Rattle.floyd_cparse_statements.specs.LabelClauses.{switch_label}
use Rattle.floyd_cparse_statements.specs.StatementClauses.{barred_next, begins_item, begins_case_item, next_local, next_item, next_case_item, switch_case, for_effect, value, for_parts, for_head, for_statement, statement, statements, no_statement}
use Rattle.floyd_cparse_tokens.specs.Tokens.{Sight, Types, without_room}
use Rattle.floyd_cparse_statements.proofs.BlockExact.{block_item_eats}
use Rattle.floyd_cparse_statements.proofs.SwitchExact.{next_case_item_eats, switch_case_eats}
use Rattle.floyd_cparse_statements.proofs.DepthExact.{statements_exact}
use Rattle.floyd_cparse_tokens.proofs.Shrinks.{Eats, one_eats, then_eats, exact_shrinks}
use Rattle.floyd_cparse_statements.proofs.StatementExact.{local_exact}

-- a token that is barred, and none
pub barred_gives : {A : Type 0} (bars : Sight → Option ℕ) (p : Parser Sight A) (ts : List Sight) (cause : ℕ) → barred_next bars ts ≡ Some cause → take_as (Err cause) ts ≡ barring bars p ts
barred_gives bars p [] cause e = absurd cc
barred_gives bars p (t ∷ ts) cause e = rw e refl

pub passed_gives : {A : Type 0} (bars : Sight → Option ℕ) (p : Parser Sight A) (ts : List Sight) → barred_next bars ts ≡ None → p ts ≡ barring bars p ts
passed_gives bars p [] e = refl
passed_gives bars p (t ∷ ts) e = rw e refl

barring_eats : {A : Type 0} {p : Parser Sight A} (bars : Sight → Option ℕ) → Eats p → Eats (barring bars p)
barring_eats {A} {p} bars E = record { law = go }
  where
    at : (o : Option ℕ) (t : Sight) (ts : List Sight) (x : A) (r : List Sight) → stopped_at o ts (p (t ∷ ts)) ≡ Ok (x, r) → length r < length (t ∷ ts)
    at None t ts x r e = E.law (t ∷ ts) x r e
    at (Some cause) t ts x r e = absurd cc

    go : (ts : List Sight) (x : A) (r : List Sight) → barring bars p ts ≡ Ok (x, r) → length r < length ts
    go [] x r e = E.law [] x r e
    go (t ∷ ts) x r e = at (bars t) t ts x r e

passes_declaration : (types : Types) (s : Sight) (b : Bool) → begins_declaration types s ≡ b → b ≡ true → no_declaration types s ≡ None
passes_declaration types s true e t = rw e refl
passes_declaration types s false e t = absurd (true≢false (sym t))

-- a declaration that begins is not barred
pub declaration_passes : {A : Type 0} (types : Types) (p : Parser Sight A) (ts : List Sight) → leads (begins_declaration types) ts ≡ true → p ts ≡ barring (no_declaration types) p ts
declaration_passes types p [] e = absurd (true≢false (sym e))
declaration_passes types p (t ∷ ts) e = passed_gives (no_declaration types) p (t ∷ ts) (passes_declaration types t (begins_declaration types t) refl e)

passes_else : (takes : Bool) (s : Sight) (a b : Bool) → is_taken_else takes s ≡ b → not (a || b) ≡ true → taken_else takes s ≡ None
passes_else takes s true b e t = absurd (true≢false (sym t))
passes_else takes s false true e t = absurd (true≢false (sym t))
passes_else takes s false false e t = rw e refl

-- nor is an item
pub item_passes : {A : Type 0} (all : BlockItems) (p : Parser Sight A) (ts : List Sight) → leads (begins_item all) ts ≡ true → barring (taken_else all.takes_else) p ts ≡ p ts
item_passes all p [] e = absurd (true≢false (sym e))
item_passes all p (t ∷ ts) e = sym (passed_gives (taken_else all.takes_else) p (t ∷ ts) (passes_else all.takes_else t _ (is_taken_else all.takes_else t) refl e))

passes_case_item : (takes : Bool) (s : Sight) (a b : Bool) → (is_label_word s || is_taken_else takes s) ≡ b → not (a || b) ≡ true → no_case_item takes s ≡ None
passes_case_item takes s true b e t = absurd (true≢false (sym t))
passes_case_item takes s false true e t = absurd (true≢false (sym t))
passes_case_item takes s false false e t = rw e refl

-- nor is a statement behind a label
pub case_item_passes : {A : Type 0} (all : BlockItems) (p : Parser Sight A) (ts : List Sight) → leads (begins_case_item all) ts ≡ true → barring (no_case_item all.takes_else) p ts ≡ p ts
case_item_passes all p [] e = absurd (true≢false (sym e))
case_item_passes all p (t ∷ ts) e =
    sym (passed_gives (no_case_item all.takes_else) p (t ∷ ts) (passes_case_item all.takes_else t _ (is_label_word t || is_taken_else all.takes_else t) refl e))

-- statements where no level is left, and where one is
pub statements_none : (types : Types) (room : ℕ) → room ≡ 0 → statements types room ≡ one (λ s. Err (without_room 0 s))
unfolding statements no_statement
statements_none types room e = rw e refl

statements_suc : (types : Types) (room : ℕ) → statements types (suc room) ≡ statement types room (statements types room) (statements types (pred room))
unfolding statements
statements_suc types zero = refl
statements_suc types (suc room) = refl

pub statements_some : (types : Types) (room : ℕ) → (room ≡ 0 → ⊥) → statements types room ≡ statement types (room - 1) (statements types (room - 1)) (statements types (pred (room - 1)))
unfolding statements
statements_some types zero more = absurd (more refl)
statements_some types (suc room) more = rw sub-one (statements_suc types room)

-- the head of `for`, and its body
module _ (types : Types) (room : ℕ) (inner second : Parser Sight ReadStatement) (place : Place) where
  abbrev pub for_body : ForHead → Parser Sight ReadStatement
  for_body h = inner >>= λ x. pure (for_of place h.first h.condition h.third x)

  abbrev head_of : Option CExpr → Option CExpr → Option CExpr → ForHead
  head_of a b c = record { first = a; condition = b; third = c }

  abbrev third : Option CExpr → Option CExpr → Parser Sight ForHead
  third a b = for_effect types (room - 2) close_paren >>= λ c. pure (head_of a b c)

  abbrev second_of : Option CExpr → Parser Sight ForHead
  second_of a = value types (room - 2) comma.LeftOut semicolon >>= third a

  for_third : (a b : Option CExpr) (z : Read Sight (Option CExpr)) → bind (bind z (λ c. pure (head_of a b c))) for_body ≡ bind z (λ c. for_body (head_of a b c))
  for_third a b (Ok r) = refl
  for_third a b (Err f) = refl

  for_second : (a : Option CExpr) (z : Read Sight (Option CExpr)) → bind (bind z (third a)) for_body ≡ bind z (λ b. for_effect types (room - 2) close_paren >>= λ c. for_body (head_of a b c))
  for_second a (Ok r) = for_third a r.0 (for_effect types (room - 2) close_paren r.1)
  for_second a (Err f) = refl

  for_first : (z : Read Sight (Option CExpr)) → bind (bind z second_of) for_body ≡ bind z (λ a. value types (room - 2) comma.LeftOut semicolon >>= λ b. for_effect types (room - 2) close_paren >>= λ c. for_body (head_of a b c))
  for_first (Ok r) = for_second r.0 (value types (room - 2) comma.LeftOut semicolon r.1)
  for_first (Err f) = refl

  for_open : (z : Read Sight Place) → bind (bind z (λ _. for_effect types (room - 2) semicolon >>= second_of)) for_body ≡ bind z (λ _. for_effect types (room - 2) semicolon >>= λ a. value types (room - 2) comma.LeftOut semicolon >>= λ b. for_effect types (room - 2) close_paren >>= λ c. for_body (head_of a b c))
  for_open (Ok r) = for_first (for_effect types (room - 2) semicolon r.1)
  for_open (Err f) = refl

  pub for_in_two : (ts : List Sight) → (for_head types room inner second >>= for_body) ts ≡ for_statement types room inner second place ts
  unfolding for_head for_parts for_statement
  for_in_two ts = for_open (one (open_token types room 1) ts)

module _ (types : Types) (room : ℕ) where
  pub next_local_eats : Eats (next_local types room)
  next_local_eats = then_eats (one_eats comma_token) (λ _. exact_shrinks (local_exact types room))

  pub next_item_eats : (all : BlockItems) → Eats (next_item types (pred room) (statements types room) all)
  unfolding next_item
  next_item_eats all = barring_eats (taken_else all.takes_else) (block_item_eats types (pred room) room (statements types room) _ (statements_exact types room))

  pub case_item_eats : (all : BlockItems) → Eats (next_case_item types (statements types room) all)
  case_item_eats all = next_case_item_eats types (pred room) room (statements types room) _ (statements_exact types room) all

  pub case_eats : (first : Bool) → Eats (switch_case types (pred room) (statements types room) first)
  case_eats first = switch_case_eats types (pred room) room (statements types room) _ (statements_exact types room) first

  -- whether a case is the first one
  pub gives_case : (result : Result SwitchCase Stop) (first : Bool) (all : List SwitchCase) (ts r : List Sight) → first ≡ is_first all
      → Gives result r (switch_case types (pred room) (statements types room) first ts) → Gives result r (switch_case types (pred room) (statements types room) (is_first all) ts)
  gives_case result first all ts r e g = subst (λ (z : Bool). Gives result r (switch_case types (pred room) (statements types room) z ts)) e g

  -- its label stands one level further out than its statements
  pub gives_label : (result : Result SwitchLabel Stop) (first : Bool) (n : ℕ) (ts r : List Sight) → n ≡ room - 1 → Gives result r (switch_label types n first ts) → Gives result r (switch_label types (pred room) first ts)
  gives_label result first n ts r e g = subst (λ (z : ℕ). Gives result r (switch_label types z first ts)) (e ∙ sub-one room) g
