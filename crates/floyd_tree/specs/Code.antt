-- Plain terms as data: a term is the list of its heads in preorder, each with its number of kids.
use Rattle.std.specs.Prelude.{◌≡◌, ℕ, List, [], ◌∷◌, ◌++◌, length, take, drop, refl, pos}
use Rattle.std.specs.Coded.{Coded, code_by, coded×, coded_ℕ, coded_list}
use Rattle.std.proofs.Common.{sym, ◌∙◌, ap}
use Rattle.std.proofs.Math.Seq.{take-append_seam, drop-append_seam}
use Rattle.std.proofs.lemmas.List.{append-nil, append_assoc}
use Rattle.floyd_tree_sorts.specs.declared.heads.Head.{Head}
use Rattle.floyd_tree_sorts.specs.declared.heads.Head.TheVariants.{Literal}
use Rattle.floyd_tree.specs.Plain.{Plain, Plains, At, Done, More, plains, listed}

pub plains-listed : (kids : Plains) → plains (listed kids) ≡ kids
plains-listed Done = refl
plains-listed (More t ts) = ap (More t) (plains-listed ts)

pub listed-plains : (kids : List Plain) → listed (plains kids) ≡ kids
listed-plains [] = refl
listed-plains (t ∷ ts) = ap (λ us. t ∷ us) (listed-plains ts)

abbrev mutual
  pub written : Plain → List (Head × ℕ)
  written (At head kids) = (head, length (listed kids)) ∷ written_all kids

  pub written_all : Plains → List (Head × ℕ)
  written_all Done = []
  written_all (More t ts) = written t ++ written_all ts

-- reads from the end, with the trees behind on a stack
abbrev pub push : Head → ℕ → List Plain → List Plain
push head n stack = At head (plains (take n stack)) ∷ drop n stack

abbrev pub run : List (Head × ℕ) → List Plain
run [] = []
run (e ∷ es) = push e.0 e.1 (run es)

abbrev pub first_of : List Plain → Plain
first_of [] = At (Literal (pos 0)) Done
first_of (t ∷ ts) = t

abbrev pub read : List (Head × ℕ) → Plain
read es = first_of (run es)

mutual
  pub run-written : (t : Plain) (es : List (Head × ℕ)) → run (written t ++ es) ≡ t ∷ run es
  run-written (At head kids) es =
      ap (push head (length (listed kids))) (run-written_all kids es)
      ∙ ap (λ ts. At head (plains ts) ∷ drop (length (listed kids)) (listed kids ++ run es)) (take-append_seam (listed kids) (run es))
      ∙ ap (λ ts. At head (plains (listed kids)) ∷ ts) (drop-append_seam (listed kids) (run es))
      ∙ ap (λ ts. At head ts ∷ run es) (plains-listed kids)

  pub run-written_all : (kids : Plains) (es : List (Head × ℕ)) → run (written_all kids ++ es) ≡ listed kids ++ run es
  run-written_all Done es = refl
  run-written_all (More t ts) es =
      ap run (append_assoc (written t) (written_all ts) es)
      ∙ run-written t (written_all ts ++ es)
      ∙ ap (λ us. t ∷ us) (run-written_all ts es)

pub read-written : (t : Plain) → read (written t) ≡ t
read-written t = ap read (sym (append-nil (written t))) ∙ ap first_of (run-written t [])

abbrev pub plain_code : Coded Head → Coded Plain
plain_code c = code_by (List (Head × ℕ)) (coded_list (coded× c coded_ℕ)) written read read-written
