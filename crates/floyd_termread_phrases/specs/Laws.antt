-- Laws of reading.
use Rattle.std.specs.Prelude.{◌≡◌, ◌↔◌, ℕ, List, Option, Ok}
use Rattle.floyd_lex.specs.Token.{TokenList}
use Rattle.floyd_tree_sorts.specs.declared.sorts.Sort.{Sort}
use Rattle.floyd_tree.specs.Plain.{Plain}
use Rattle.floyd_termread_trees.specs.declared.written.Written.{Written}
use Rattle.floyd_termread_groups.specs.Groups.{grouped}
use Rattle.floyd_termread_tables.specs.declared.values.Want.TheVariants as want
use Rattle.floyd_termread_grammar.specs.Reading.{IsRead}
use Rattle.floyd_termread_scope.specs.Scopes.{Env}
use Rattle.floyd_termread_terms.specs.Terms.{sense_of}
use Rattle.floyd_termread_forms.specs.Making.{same_wanted}
use Rattle.floyd_termread_phrases.specs.Reads.{Answer, Reads}
use Rattle.floyd_termread_phrases.specs.Phrases.{term, formula, type_name, path}

-- one answer at most
abbrev pub OneAnswer : {A : Type 0} → Reads A → Type 0
OneAnswer {A} reads = (at : ℕ) (a b : Answer A) → reads at a → reads at b → a ≡ b

abbrev pub HasOneAnswer : Type 0
HasOneAnswer =
    (bytes : List ℕ) (list : TokenList) (depth : ℕ) (env : Env)
    → ((expected : Option Sort) → OneAnswer (term bytes list depth env expected)) × OneAnswer (formula bytes list depth env) × OneAnswer (type_name bytes list depth env) × OneAnswer (path bytes list depth env)

-- the tokens from `at` on read as a term, up to the token of that number
abbrev pub ReadsAs : List ℕ → TokenList → ℕ → Env → Option Sort → ℕ → Plain → ℕ → Type 0
ReadsAs bytes list depth env expected at t next =
    (tree : Written) × IsRead bytes list at depth want.Term tree (Ok next) × ((sense_of (grouped tree)).term env (same_wanted expected) ≡ Ok t)

-- a term is answered exactly where there is a reading
abbrev pub TermIsRead : Type 0
TermIsRead =
    (bytes : List ℕ) (list : TokenList) (depth : ℕ) (env : Env) (expected : Option Sort) (at : ℕ) (t : Plain) (next : ℕ)
    → term bytes list depth env expected at (Ok (t, next)) ↔ ReadsAs bytes list depth env expected at t next
