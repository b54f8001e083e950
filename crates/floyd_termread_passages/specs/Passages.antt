-- What a passage of text is read as, by its tree and by its end: the number of the token behind it, or a refusal of the
-- grammar that cuts it off. The tree is judged in both cases. What is refused in it stands before the end and goes first.
use Rattle.std.specs.Prelude.{ℕ, List, Option, Some, None, Result, Ok, Err}
use Rattle.floyd_text.specs.declared.code.Code.TheVariants as c
use Rattle.floyd_text.specs.declared.place.Place.{Place}
use Rattle.floyd_text.specs.declared.refusal.Refusal.{Refusal}
use Rattle.floyd_text.specs.declared.refusal.Shown.TheVariants.{Nothing}
use Rattle.floyd_text.specs.Refusals.{refusal_at}
use Rattle.floyd_tree_sorts.specs.declared.sorts.Sort.{Sort}
use Rattle.floyd_tree.specs.declared.paths.PathStep.{PathStep}
use Rattle.floyd_tree.specs.Formulas.{PlainFormula}
use Rattle.floyd_tree.specs.Plain.{Plain}
use Rattle.floyd_tree.specs.Types.{SizedType}
use Rattle.floyd_termread_trees.specs.declared.written.Written.{Written}
use Rattle.floyd_termread_groups.specs.declared.grouped.Grouped.{Grouped}
use Rattle.floyd_termread_groups.specs.Groups.{grouped}
use Rattle.floyd_termread_scope.specs.Scopes.{Env}
use Rattle.floyd_termread_wants.specs.Judging.{Judged}
use Rattle.floyd_termread_terms.specs.Terms.{sense_of}
use Rattle.floyd_termread_formulas.specs.Formulas.{reading_of}
use Rattle.floyd_termread_forms.specs.Making.{same_wanted}

abbrev pub End : Type 0
End = Result ℕ Refusal

-- what was read, up to the end
abbrev pub up_to : {A : Type 0} → End → A → Result (A × ℕ) Refusal
up_to (Ok next) x = Ok (x, next)
up_to (Err refusal) x = Err refusal

-- Where nothing is refused and nothing read, the text is cut off: the grammar's refusal stands. A tree that is whole and was
-- read so would be refused where it begins.
abbrev pub cut_short : Place → End → Refusal
cut_short place (Ok next) = refusal_at c.UnexpectedInSpec place Nothing
cut_short place (Err refusal) = refusal

abbrev pub passage : {A : Type 0} → Place → End → Judged A → Result (A × ℕ) Refusal
passage place end (Ok x) = up_to end x
passage place end (Err (Some refusal)) = Err refusal
passage place end (Err None) = Err (cut_short place end)

-- a tree that is judged so
abbrev pub judged_as : {A : Type 0} → (Grouped → Judged A) → Grouped → End → Result (A × ℕ) Refusal
judged_as judge tree end = passage (sense_of tree).place end (judge tree)

-- A term; with a sort that is expected it is to have it.
abbrev pub term_passage : Env → Option Sort → Written → End → Result (Plain × ℕ) Refusal
term_passage env expected tree end = judged_as (λ t. (sense_of t).term env (same_wanted expected)) (grouped tree) end

abbrev pub formula_passage : Env → Written → End → Result (PlainFormula × ℕ) Refusal
formula_passage env tree end = judged_as (λ t. (reading_of t).formula env) (grouped tree) end

abbrev pub type_passage : Env → Written → End → Result (SizedType × ℕ) Refusal
type_passage env tree end = judged_as (λ t. (sense_of t).type env) (grouped tree) end

abbrev pub path_passage : Env → Written → End → Result (List PathStep × ℕ) Refusal
path_passage env tree end = judged_as (λ t. (reading_of t).path env) (grouped tree) end
