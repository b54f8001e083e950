-- What means something looks at the variables that occur in it, or are free in it, alone.
use Rattle.std.proofs.Common.{◌≡◌, ℕ, Bool, true, false, not, ◌&&◌, ◌||◌, List, refl, sym, subst, ◌∙◌, ◌⊎◌, inl, inr}
use Rattle.std.specs.Prelude.{bytes_eq, if◌then◌else◌}
use Rattle.std.proofs.lemmas.Bool.{or_left, or_right}
use Rattle.std.proofs.lemmas.Slice.Eq.{bytes_eq-Decides}
use Rattle.floyd_int.specs.declared.kinds.Value.{Value}
use Rattle.floyd_tree_sorts.specs.declared.connectives.FormulaHead.TheVariants.{True, False, Implies, Or, And, Forall, Exists}
use Rattle.floyd_tree_sorts.specs.declared.heads.Head.TheVariants.{Variable, Fun}
use Rattle.floyd_tree_sorts.specs.Heads.{is_variable, binds}
use Rattle.floyd_tree.specs.Formulas.{PlainFormula, PlainFormulas, Says, NoFormula, MoreFormulas, formula_mentions, formulas_mention}
use Rattle.floyd_tree.specs.Plain.{Plain, Plains, At, Done, More, mentions, mentions_in}
use Rattle.floyd_tree_values.specs.BuiltIns.{Env}
use Rattle.floyd_tree_values.specs.Data.{Datum}
use Rattle.floyd_tree_values.specs.Means.{Defs, Means, AllMean, built_in, call, none, more}
use Rattle.floyd_tree_values.proofs.OneValue.{applies, calls, no_data, split}
use Rattle.floyd_truth.specs.Truth.{Truth, FirstTrue, SecondTrue}
use Rattle.floyd_truth.proofs.OneTruth.{giving, put, says_of}
use Rattle.floyd_assert_meaning.specs.Laws.{AgreeWhere}

module _ (defs : Defs) (env : Env) where
  mutual
    pub means_agree : (f g : List ℕ → Datum) (t : Plain) → AgreeWhere (λ x. mentions x t) f g → (d : Datum) → Means defs (giving env f) t d → Means defs (giving env g) t d
    means_agree f g (At (Variable x s) ts) k d m =
        let p = applies {head = Variable x s} refl m in
        let same : f x ≡ g x = k x (or_left (bytes_eq x x) (mentions_in x ts) ((bytes_eq-Decides x x).1 refl)) in
        subst (Means defs (giving env g) (At (Variable x s) ts)) (sym (p.is ∙ same))
        (built_in {head = Variable x s} refl p.sorted (all_agree f g ts (λ y i. k y (or_right (is_variable y (Variable x s)) (mentions_in y ts) i)) p.data' p.mean))
    means_agree f g (At (Fun name sorts s) ts) k d m =
        let p = calls m in
        call {bindings = p.opened.bindings} {term = p.opened.term} (all_agree f g ts (λ y i. k y (or_right (is_variable y (Fun name sorts s)) (mentions_in y ts) i)) p.data' p.mean) p.is p.term
    means_agree f g (At a ts) k d m =
        let p = applies {head = a} refl m in
        subst (Means defs (giving env g) (At a ts)) (sym p.is)
        (built_in {head = a} refl p.sorted (all_agree f g ts (λ y i. k y (or_right (is_variable y a) (mentions_in y ts) i)) p.data' p.mean))

    pub all_agree : (f g : List ℕ → Datum) (ts : Plains) → AgreeWhere (λ x. mentions_in x ts) f g → (ds : List Datum) → AllMean defs (giving env f) ts ds → AllMean defs (giving env g) ts ds
    all_agree f g Done k ds m = subst (AllMean defs (giving env g) Done) (sym (no_data m)) none
    all_agree f g (More t ts) k ds m =
        let p = split m in
        subst (AllMean defs (giving env g) (More t ts)) (sym p.is)
        (more (means_agree f g t (λ y i. k y (or_left (mentions y t) (mentions_in y ts) i)) p.datum p.first) (all_agree f g ts (λ y i. k y (or_right (mentions y t) (mentions_in y ts) i)) p.data' p.rest))

other_way : (test : List ℕ → Bool) (f g : List ℕ → Datum) → AgreeWhere test f g → AgreeWhere test g f
other_way test f g k x i = sym (k x i)

-- below a binder of x both have its datum
put_both : (b : Bool) (p q d : Datum) → (b ≡ false → p ≡ q) → (if b then d else p) ≡ (if b then d else q)
put_both true p q d k = refl
put_both false p q d k = k refl

free_below : (b t r : Bool) → b ≡ false → r ≡ true → (t || (not b && r)) ≡ true
free_below true t r e h = absurd cc
free_below false true r e h = refl
free_below false false r e h = h

agree_below : (f g : List ℕ → Datum) (x : List ℕ) (terms : Plains) (kids : PlainFormulas) → AgreeWhere (λ y. mentions_in y terms || (not (bytes_eq y x) && formulas_mention y kids)) f g → (d : Datum) → AgreeWhere (λ y. formulas_mention y kids) (put f x d) (put g x d)
agree_below f g x terms kids k d y i = put_both (bytes_eq y x) (f y) (g y) d (λ e. k y (free_below (bytes_eq y x) (mentions_in y terms) (formulas_mention y kids) e i))

or_map : {A B C D : Type 0} → (A → C) → (B → D) → A ⊎ B → C ⊎ D
or_map p q (inl a) = inl (p a)
or_map p q (inr b) = inr (q b)

-- where nothing is bound, what is free below is free
within : (f g : List ℕ → Datum) (ts : Plains) (ps : PlainFormulas) → AgreeWhere (λ y. mentions_in y ts || (not false && formulas_mention y ps)) f g → AgreeWhere (λ y. formulas_mention y ps) f g
within f g ts ps k y i = k y (or_right (mentions_in y ts) (formulas_mention y ps) i)

module _ (defs : Defs) (specs : List ℕ → Value → Bool) (env : Env) where
  mutual
    pub truth_agrees : (f g : List ℕ → Datum) (p : PlainFormula) → AgreeWhere (λ x. formula_mentions x p) f g → Truth defs specs (giving env f) p → Truth defs specs (giving env g) p
    truth_agrees f g (Says (Forall x s) ts ps) k m = λ d e.
        first_agrees (put f x d) (put g x d) ps (agree_below f g x ts ps k d) (m d e)
    truth_agrees f g (Says (Exists x s) ts ps) k m =
        (m.0, m.1, first_agrees (put f x m.0) (put g x m.0) ps (agree_below f g x ts ps k m.0) m.2)
    truth_agrees f g (Says True ts ps) k m = tt
    truth_agrees f g (Says False ts ps) k m = absurd m
    truth_agrees f g (Says Implies ts ps) k m =
        let l = within f g ts ps k in
        λ q. second_agrees f g ps l (m (first_agrees g f ps (other_way (λ y. formulas_mention y ps) f g l) q))
    truth_agrees f g (Says Or ts ps) k m =
        let l = within f g ts ps k in
        or_map (first_agrees f g ps l) (second_agrees f g ps l) m
    truth_agrees f g (Says And ts ps) k m =
        let l = within f g ts ps k in
        (first_agrees f g ps l m.0, second_agrees f g ps l m.1)
    truth_agrees f g (Says a ts ps) k m =
        says_of defs specs env f g a ts ts (all_agree defs env f g ts (λ y i. k y (or_left (mentions_in y ts) (not (binds y a) && formulas_mention y ps) i))) m

    pub first_agrees : (f g : List ℕ → Datum) (ps : PlainFormulas) → AgreeWhere (λ x. formulas_mention x ps) f g → FirstTrue defs specs (giving env f) ps → FirstTrue defs specs (giving env g) ps
    first_agrees f g NoFormula k m = absurd m
    first_agrees f g (MoreFormulas p ps) k m = truth_agrees f g p (λ y i. k y (or_left (formula_mentions y p) (formulas_mention y ps) i)) m

    pub second_agrees : (f g : List ℕ → Datum) (ps : PlainFormulas) → AgreeWhere (λ x. formulas_mention x ps) f g → SecondTrue defs specs (giving env f) ps → SecondTrue defs specs (giving env g) ps
    second_agrees f g NoFormula k m = absurd m
    second_agrees f g (MoreFormulas p ps) k m = first_agrees f g ps (λ y i. k y (or_right (formula_mentions y p) (formulas_mention y ps) i)) m
