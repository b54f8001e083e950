-- What a file reads as, by what its tokens are and read as.
use Rattle.std.proofs.Common.{◌≡◌, ℕ, List, Option, Some, None, Result, Ok, Err, refl, sym, ap, subst}
use Rattle.floyd_text.specs.declared.refusal.Refusal.{Refusal}
use Rattle.floyd_text.specs.Gives.{Stops}
use Rattle.floyd_text.specs.declared.refusal.Halt.{Halt}
use Rattle.floyd_text.specs.declared.refusal.Halt.TheVariants.{Refused, Memory}
use Rattle.floyd_lex.specs.declared.kinds.FileKind.{FileKind}
use Rattle.floyd_lex.specs.Cuts as cuts
use Rattle.floyd_lex.specs.Cuts.{IsCut}
use Rattle.floyd_lex.specs.Token.{Token, TokenList, tokens_in}
use Rattle.floyd_lex.specs.declared.kinds.FileKind.TheVariants as kinds
use Rattle.floyd_cparse_trees.specs.declared.declarations.CUnit.{CUnit}
use Rattle.floyd_cparse.specs.Source as source
use Rattle.floyd_cparse.specs.Source.{IsRead}
use Rattle.floyd_clight.specs.declared.syntax.Stmt.{Stmt}
use Rattle.floyd_clight.specs.declared.unit.ClightUnit.{ClightUnit}
use Rattle.floyd_elab.specs.Units.{elaboration}
use Rattle.floyd_check_stub.specs.Forms.{ReadsAs}
use Rattle.floyd_check_stub.specs.MainForm.{main_in}
use Rattle.floyd_check.specs.CheckedClauses.{Answers}
use Rattle.floyd_check.specs.FileReading.{Then, ReadsFile, ReadsSource, not_built, built}

module _ {X : Type 0} (Form : List Token → X → Type 0) (kind : FileKind) (file : ℕ) (bytes : List ℕ) where
  -- its tokens are refused
  pub not_cut : (halt : Halt) → cuts.Answers (IsCut kind file bytes) (Err halt) → Answers (ReadsFile Form kind file bytes) (Err halt)
  not_cut (Refused r) h = record { first = Err r; is_first = h; next = refl }
  not_cut Memory h = tt

  -- they have the form
  pub reads_some : (list : TokenList) (o : Option X) (x : X) → IsCut kind file bytes (Ok list) → ReadsAs (Form (tokens_in bytes list)) o → o ≡ Some x → ReadsFile Form kind file bytes (Ok x)
  reads_some list o x cut read e = record { first = Ok list; is_first = cut; next = subst (ReadsAs (Form (tokens_in bytes list))) e read }

  -- they have another
  pub reads_none : (list : TokenList) (o : Option X) → IsCut kind file bytes (Ok list) → ReadsAs (Form (tokens_in bytes list)) o → o ≡ None → ReadsFile Form kind file bytes (Err (not_built file))
  reads_none list o cut read e = record { first = Ok list; is_first = cut; next = (subst (ReadsAs (Form (tokens_in bytes list))) e read, refl) }

module _ (bytes : List ℕ) where
  -- the tokens of a source are refused
  pub source_not_cut : (halt : Halt) → cuts.Answers (IsCut kinds.Source 1 bytes) (Err halt) → Answers (ReadsSource bytes) (Err halt)
  source_not_cut (Refused r) h = record { first = Err r; is_first = h; next = refl }
  source_not_cut Memory h = tt

  module _ (list : TokenList) (cut : IsCut kinds.Source 1 bytes (Ok list)) where
    -- they do not read
    pub source_not_read : (halt : Halt) → source.Answers (IsRead 1 bytes list) (Err halt) → Answers (ReadsSource bytes) (Err halt)
    source_not_read (Refused r) h = record { first = Ok list; is_first = cut; next = record { first = Err r; is_first = h; next = refl } }
    source_not_read Memory h = tt

    module _ (tree : CUnit) (read : IsRead 1 bytes list (Ok tree)) where
      read_tree : (v : Result (List Stmt) Refusal) → Then (λ unit. unit ≡ elaboration tree) (λ unit w. w ≡ built (main_in unit)) v → ReadsSource bytes v
      read_tree v h = record { first = Ok list; is_first = cut; next = record { first = Ok tree; is_first = read; next = h } }

      -- it is not elaborated
      pub source_not_elaborated : (halt : Halt) → Stops halt (elaboration tree) → Answers (ReadsSource bytes) (Err halt)
      source_not_elaborated (Refused r) h = read_tree (Err r) (record { first = Err r; is_first = sym h; next = refl })
      source_not_elaborated Memory h = tt

      -- it is elaborated, and the unit is judged
      pub source_judged : (unit : ClightUnit) (o : Option (List Stmt)) → elaboration tree ≡ Ok unit → o ≡ main_in unit → ReadsSource bytes (built o)
      source_judged unit o h e = read_tree (built o) (record { first = Ok unit; is_first = sym h; next = ap built e })
