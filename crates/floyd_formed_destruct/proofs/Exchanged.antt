-- Goals with a term in the place of a variable, whose scope has the variables of the term in its place.
use Rattle.std.proofs.Common.{◌≡◌, ℕ, ◌≤◌, Bool, true, false, ◌&&◌, cond, List, [], ◌∷◌, ◌++◌, map, Option, Some, None, Result, Ok, Err, refl, sym, ap, subst, ◌∙◌, arith, leb-true, true≢false}
use Rattle.std.specs.Prelude.{bytes_eq, nat_le}
use Rattle.std.specs.List.{AllByRecursion, list_all}
use Rattle.std.specs.Map.{lookup}
use Rattle.std.proofs.lemmas.Slice.Eq.{bytes_eq-Decides}
use Rattle.floyd_text.specs.declared.refusal.No.{No}
use Rattle.floyd_ctypes.specs.declared.ctype.CType.{CType, Void}
use Rattle.floyd_tree_sorts.specs.declared.sorts.Sort.{Sort, Val}
use Rattle.floyd_tree_sorts.proofs.SortLemmas.{both_true}
use Rattle.floyd_tree.specs.Formulas.{PlainFormula, formula_height, formula_mentions, formula_size}
use Rattle.floyd_tree.specs.Made.{fits}
use Rattle.floyd_tree.specs.MadeFormulas.{formula_fits}
use Rattle.floyd_tree.specs.Plain.{Plain, height, size}
use Rattle.floyd_tree_values.specs.Rules.{Scope}
use Rattle.floyd_truth.specs.Capture.{bound_in}
use Rattle.floyd_truth.specs.Replace.{puts, replaced_formula}
use Rattle.floyd_truth.proofs.Fresh.{not_true}
use Rattle.floyd_assert_trees.specs.declared.assertion.Assertion.{Assertion}
use Rattle.floyd_assert_trees.specs.declared.binder.Binder.{Binder}
use Rattle.floyd_assert_trees.specs.declared.items.Defs.{Defs}
use Rattle.floyd_assert_trees.specs.declared.spec.SpecTable.{SpecTable}
use Rattle.floyd_assert_changes.specs.Changed.{assertion_after, assertion_fits, assertion_with}
use Rattle.floyd_assert_changes.specs.Substituted.{formula_with, formulas_with}
use Rattle.floyd_goal_changes.specs.Changed.{context_with, covering, entail_with, exit_with, exits_behind, exits_with, goal_with, of_one, of_three, of_two, pure_with, return_with, run_with, uncovered}
use Rattle.floyd_goal_forms.specs.Assertions.{AssertionFits, inner_scope}
use Rattle.floyd_goal_forms.specs.Goals.{ContextFits, ExitFits, ExitsFit, IsNoEnd, IsNormal, IsVariableOf, IsWellFormed, MarkFits, ResultFits, ReturnFits}
use Rattle.floyd_goal_forms.specs.Terms.{FormulaFits, FormulasFit, TermFits, scope_with}
use Rattle.floyd_goal_trees.specs.Contexts.{after_command, context_of, scope_of, unmarked}
use Rattle.floyd_goal_trees.specs.declared.context.Context.{Context}
use Rattle.floyd_goal_trees.specs.declared.context.Mark.{Mark}
use Rattle.floyd_goal_trees.specs.declared.context.Mark.TheVariants as m
use Rattle.floyd_goal_trees.specs.declared.exits.Exit.{Exit}
use Rattle.floyd_goal_trees.specs.declared.exits.Exit.TheVariants as way
use Rattle.floyd_goal_trees.specs.declared.exits.Exits.{Exits}
use Rattle.floyd_goal_trees.specs.declared.exits.Return.{Return}
use Rattle.floyd_goal_trees.specs.declared.goal.Goal.{Goal}
use Rattle.floyd_goal_trees.specs.declared.goal.Goal.TheVariants as g
use Rattle.floyd_pure_formulas.specs.VariableCases.{case_with, exchanged, first_taken, mark_without, names_without, with_exchanged, without}
use Rattle.floyd_pure_formulas.proofs.Substituting.{Suiting, formula_size_kept}
use Rattle.floyd_rewriting_soundness.specs.Small.{AreSmallExits, IsSmall, IsSmallExit, IsSmallGoal}
use Rattle.floyd_formed_quantifiers.proofs.Leading.{Leads, Ready}
use Rattle.floyd_formed_quantifiers.proofs.Replacing.{changed_formed}
use Rattle.floyd_formed_entail.proofs.Changing.{suits_by}
use Rattle.floyd_formed_renaming.proofs.Assertions.{assertion_formed}
use Rattle.floyd_formed_destruct.proofs.Scopes.{case_leads, distinct_new, none_called, others_stay}

-- ---- what was made of parts that are all there

one_made : {A B : Type 0} (f : A → B) (r : Result A No) (made : B) → of_one f r ≡ Ok made → (a : A) × (r ≡ Ok a) × (f a ≡ made)
one_made f (Ok a) made e = (a, refl, cc)
one_made f (Err refusal) made e = absurd cc

two_made : {A B C : Type 0} (f : A → B → C) (r : Result A No) (s : Result B No) (made : C) → of_two f r s ≡ Ok made → (a : A) × (b : B) × (r ≡ Ok a) × (s ≡ Ok b) × (f a b ≡ made)
two_made f (Ok a) s made e = let p = one_made (f a) s made e in (a, p.0, refl, p.1, p.2)
two_made f (Err refusal) s made e = absurd cc

three_made : {A B C D : Type 0} (f : A → B → C → D) (r : Result A No) (s : Result B No) (t : Result C No) (made : D) → of_three f r s t ≡ Ok made → (a : A) × (b : B) × (c : C) × (r ≡ Ok a) × (s ≡ Ok b) × (t ≡ Ok c) × (f a b c ≡ made)
three_made f (Ok a) s t made e = let p = two_made (f a) s t made e in (a, p.0, p.1, refl, p.2, p.3, p.4)
three_made f (Err refusal) s t made e = absurd cc

within : {T : Type 0} (test : T → Bool) (a : T) (b : Bool) (refused : No) (made : T) → test a ≡ b → ◌≡◌ {A = Result T No} (cond b (Ok a) (Err refused)) (Ok made) → (a ≡ made) × (test a ≡ true)
within test a true refused made h e = (cc, h)
within test a false refused made h e = absurd cc

bound : (m n : ℕ) → (nat_le m 65536 && nat_le n 256) ≡ true → m ≤ 65536
bound m n h = leb-true m 65536 (both_true (nat_le m 65536) (nat_le n 256) h).0

-- RETURN's term as one part more
covering_fits : (defs : Defs) (specs : SpecTable) (old : Scope) (post : Assertion) (result : CType) (value : Option Plain) → AssertionFits defs specs old post → ResultFits defs (inner_scope post old) result value → AssertionFits defs specs old (covering post value)
covering_fits defs specs old post result None fit v = fit
covering_fits defs specs old post Void (Some t) fit v = absurd v
covering_fits defs specs old post result (Some t) fit v =
    record { existentials = fit.existentials; props = fit.props; temporaries = fit.temporaries; locals = fit.locals; parts = (v, fit.parts) }

result_none : (defs : Defs) (old new : Scope) (result : CType) → ResultFits defs old result None → ResultFits defs new result None
result_none defs old new Void h = tt
result_none defs old new result h = absurd h

result_some : (defs : Defs) (old new : Scope) (result : CType) (t u : Plain) → ResultFits defs old result (Some t) → TermFits defs new Val u → ResultFits defs new result (Some u)
result_some defs old new Void t u h k = absurd h
result_some defs old new result t u h k = k

same_result : (ret : Return) (o : Option Plain) (c : Assertion) → ((uncovered ret o c).result ≡ ret.result) × ((uncovered ret o c).blocks ≡ ret.blocks)
same_result ret None c = (refl, refl)
same_result ret (Some t) c = (refl, refl)

module _ (defs : Defs) (specs : SpecTable) (variables : List Binder) (x : List ℕ) (sort : Sort) (t : Plain) (more : List Binder) (here : lookup (bytes_eq x) (scope_with variables) ≡ Some sort) (fresh : first_taken variables [] more ≡ None) (fit : TermFits defs (scope_with (without x variables ++ more)) sort t) (small : fits t ≡ true) where
  abbrev by : List (List ℕ × Plain)
  by = (x, t) ∷ []

  abbrev old : Scope
  old = scope_with variables

  abbrev new : Scope
  new = scope_with (without x variables ++ more)

  leads : (v : List ℕ) → Leads defs (puts by) old new v
  leads v = case_leads defs variables x more fresh sort t here fit v

  suits : Suiting (puts by) old
  suits v r e = suits_by defs (puts by) old new (λ w. true) (λ w i. leads w) (lookup (bytes_eq v) (puts by)) v r (leads v r e)

  ready : (is_free is_bound : List ℕ → Bool) → Ready defs (puts by) old new is_free is_bound
  ready is_free is_bound = record { leads = λ v i. leads v; kept = λ v z e. absurd (none_called x t v z e) }

  -- formulas within the limits
  one_changed : (a : PlainFormula) → FormulaFits defs specs old a → formula_fits (replaced_formula (puts by) a) ≡ true → FormulaFits defs specs new (replaced_formula (puts by) a)
  one_changed a h l =
      let after = replaced_formula (puts by) a in
      let big : formula_size a ≤ 65536 = omega (arith, formula_size_kept (puts by) a h.fits.sorted, bound (formula_size after) (formula_height after) l) in
      changed_formed defs specs (puts by) old new a suits (omega (arith, bound (size t) (height t) small, big)) (ready (λ v. formula_mentions v a) (λ v. bound_in v a)) h

  all_changed : (fs : List PlainFormula) → FormulasFit defs specs old fs → list_all formula_fits (map (replaced_formula (puts by)) fs) ≡ true → FormulasFit defs specs new (map (replaced_formula (puts by)) fs)
  all_changed [] h l = tt
  all_changed (a ∷ fs) h l =
      let p = both_true (formula_fits (replaced_formula (puts by) a)) (list_all formula_fits (map (replaced_formula (puts by)) fs)) l in
      (one_changed a h.0 p.0, all_changed fs h.1 p.1)

  formula_made : (a made : PlainFormula) → FormulaFits defs specs old a → formula_with by a ≡ Ok made → FormulaFits defs specs new made
  formula_made a made h e =
      let p = within formula_fits (replaced_formula (puts by) a) (formula_fits (replaced_formula (puts by) a)) _ made refl e in
      subst (FormulaFits defs specs new) p.0 (one_changed a h p.1)

  formulas_made : (fs made : List PlainFormula) → FormulasFit defs specs old fs → formulas_with by fs ≡ Ok made → FormulasFit defs specs new made
  formulas_made fs made h e =
      let after = map (replaced_formula (puts by)) fs in
      let p = within (list_all formula_fits) after (list_all formula_fits after) _ made refl e in
      subst (FormulasFit defs specs new) p.0 (all_changed fs h p.1)

  after_fits : (a : Assertion) → IsSmall a → AssertionFits defs specs old a → AssertionFits defs specs new (assertion_after (puts by) a)
  after_fits a few h = assertion_formed defs specs (puts by) old new a (omega (arith, few, bound (size t) (height t) small)) leads (none_called x t) h

  assertion_made : (a made : Assertion) → IsSmall a → AssertionFits defs specs old a → assertion_with by a ≡ Ok made → AssertionFits defs specs new made
  assertion_made a made few h e =
      let p = within assertion_fits (assertion_after (puts by) a) (assertion_fits (assertion_after (puts by) a)) _ made refl e in
      subst (AssertionFits defs specs new) p.0 (after_fits a few h)

  -- ---- exits

  exit_made : (exit made : Exit) → IsSmallExit exit → ExitFits defs specs old exit → exit_with by exit ≡ Ok made → ExitFits defs specs new made
  exit_made way.None made few h e = let same : way.None ≡ made = cc in subst (ExitFits defs specs new) same tt
  exit_made (way.To a) made few h e =
      let p = one_made way.To (assertion_with by a) made e in
      subst (ExitFits defs specs new) p.2 (assertion_made a p.0 few h p.1)
  exit_made way.End made few h e = let same : way.End ≡ made = cc in subst (ExitFits defs specs new) same tt

  normal_made : (result : CType) (exit made : Exit) → IsNormal result exit → exit_with by exit ≡ Ok made → IsNormal result made
  normal_made result way.None made h e = absurd h
  normal_made result (way.To a) made h e = let p = one_made way.To (assertion_with by a) made e in subst (IsNormal result) p.2 tt
  normal_made result way.End made h e = let same : way.End ≡ made = cc in subst (IsNormal result) same h

  no_end_made : (exit made : Exit) → IsNoEnd exit → exit_with by exit ≡ Ok made → IsNoEnd made
  no_end_made way.None made h e = let same : way.None ≡ made = cc in subst IsNoEnd same tt
  no_end_made (way.To a) made h e = let p = one_made way.To (assertion_with by a) made e in subst IsNoEnd p.2 tt
  no_end_made way.End made h e = absurd h

  return_fits : (ret : Return) (o : Option Plain) (c : Assertion) → ret.value ≡ o → IsSmall (covering ret.post o) → ReturnFits defs specs old ret → assertion_with by (covering ret.post o) ≡ Ok c → ReturnFits defs specs new (uncovered ret o c)
  return_fits ret None c i few h e = record {
    post = assertion_made ret.post c few h.post e;
    value = subst (ResultFits defs (inner_scope c new) ret.result) (sym i) (result_none defs (inner_scope ret.post old) (inner_scope c new) ret.result (subst (ResultFits defs (inner_scope ret.post old) ret.result) i h.value));
  }
  return_fits ret (Some u) c i few h e =
      let value = subst (ResultFits defs (inner_scope ret.post old) ret.result) i h.value in
      let whole = covering_fits defs specs old ret.post ret.result (Some u) h.post value in
      let after = assertion_after (puts by) (covering ret.post (Some u)) in
      let a = after_fits (covering ret.post (Some u)) few whole in
      let p = within assertion_fits after (assertion_fits after) _ c refl e in
      let fits : ReturnFits defs specs new (uncovered ret (Some u) after) = record {
        post = record { existentials = a.existentials; props = a.props; temporaries = a.temporaries; locals = a.locals; parts = a.parts.1 };
        value = result_some defs (inner_scope ret.post old) (inner_scope after new) ret.result u _ value a.parts.0;
      } in
      subst (λ d. ReturnFits defs specs new (uncovered ret (Some u) d)) p.0 fits

  pub record ExitsMade (exits made : Exits) : Type 0 where
    pub fitting : ExitsFit defs specs new made
    pub result : made.ret.result ≡ exits.ret.result
    pub blocks : made.ret.blocks ≡ exits.ret.blocks

  exits_made : (exits made : Exits) → AreSmallExits exits → ExitsFit defs specs old exits → exits_with by exits ≡ Ok made → ExitsMade exits made
  exits_made exits made few h e = at (return_with by exits.ret) refl e
    where
      at : (r : Result Return No) → return_with by exits.ret ≡ r → exits_behind by exits r ≡ Ok made → ExitsMade exits made
      at (Err refusal) i e = absurd cc
      at (Ok ret) i e =
          let q = one_made (uncovered exits.ret exits.ret.value) (assertion_with by (covering exits.ret.post exits.ret.value)) ret i in
          let w = three_made (λ normal brk cont. record { normal = normal; brk = brk; cont = cont; ret = ret }) (exit_with by exits.normal) (exit_with by exits.brk) (exit_with by exits.cont) made e in
          let returned = subst (ReturnFits defs specs new) q.2 (return_fits exits.ret exits.ret.value q.0 refl few.ret h.ret q.1) in
          let same = same_result exits.ret exits.ret.value q.0 in
          let result : ret.result ≡ exits.ret.result = ap (λ (r : Return). r.result) (sym q.2) ∙ same.0 in
          let blocks : ret.blocks ≡ exits.ret.blocks = ap (λ (r : Return). r.blocks) (sym q.2) ∙ same.1 in
          let all : ExitsMade exits (record { normal = w.0; brk = w.1; cont = w.2; ret = ret }) = record {
            fitting = record {
              normal = exit_made exits.normal w.0 few.normal h.normal w.3;
              is_normal = subst (λ c. IsNormal c w.0) (sym result) (normal_made exits.ret.result exits.normal w.0 h.is_normal w.3);
              brk = exit_made exits.brk w.1 few.brk h.brk w.4;
              brk_no_end = no_end_made exits.brk w.1 h.brk_no_end w.4;
              cont = exit_made exits.cont w.2 few.cont h.cont w.5;
              cont_no_end = no_end_made exits.cont w.2 h.cont_no_end w.5;
              ret = returned;
            };
            result = result;
            blocks = blocks;
          } in
          subst (ExitsMade exits) w.6 all

-- ---- contexts

other_way : (x y : List ℕ) → bytes_eq x y ≡ false → bytes_eq y x ≡ false
other_way x y e = not_true (bytes_eq y x) (λ i. true≢false (sym ((bytes_eq-Decides x y).1 (sym ((bytes_eq-Decides y x).0 i))) ∙ e))

module _ (defs : Defs) (specs : SpecTable) (context : Context) (x : List ℕ) (sort : Sort) (t : Plain) (more : List Binder) (here : lookup (bytes_eq x) (scope_of context) ≡ Some sort) (fresh : first_taken context.variables [] more ≡ None) (fit : TermFits defs (scope_with (without x context.variables ++ more)) sort t) (small : fits t ≡ true) where
  left_variables : (after : Context) → scope_of after ≡ scope_with (without x context.variables ++ more) → (s : Sort) (names : List (List ℕ)) → AllByRecursion (IsVariableOf context s) names → AllByRecursion (IsVariableOf after s) (names_without x names)
  left_variables after same s [] h = tt
  left_variables after same s (y ∷ names) h = at (left_variables after same s names h.1) (bytes_eq x y) refl
    where
      at : AllByRecursion (IsVariableOf after s) (names_without x names) → (b : Bool) → bytes_eq x y ≡ b → AllByRecursion (IsVariableOf after s) (cond b (names_without x names) (y ∷ names_without x names))
      at rest true e = rest
      at rest false e = (subst (λ c. lookup (bytes_eq y) c ≡ Some s) (sym same) (others_stay defs context.variables x more fresh y s (other_way x y e) h.0), rest)

  mark_made : (before after : Goal) (now : Context) → scope_of now ≡ scope_with (without x context.variables ++ more) → (mark : Mark) → MarkFits defs before context mark → MarkFits defs after now (mark_without x (unmarked mark))
  mark_made before after now same m.Plain h = tt
  mark_made before after now same (m.Start name) h = tt
  mark_made before after now same (m.Induction name place names) h =
      record { lemma = h.lemma; is = h.is; variable = h.variable; at = h.at; parts = h.parts; smaller = left_variables now same h.variable.sort names h.smaller }

  context_made : (before after : Goal) (made : Context) → ContextFits defs specs before context → context_with ((x, t) ∷ []) context ≡ Ok made → ContextFits defs specs after (exchanged x more made)
  context_made before after made h e =
      let p = one_made (λ hypotheses. record (after_command context) { hypotheses = hypotheses }) (formulas_with ((x, t) ∷ []) context.hypotheses) made e in
      let now = exchanged x more (record (after_command context) { hypotheses = p.0 }) in
      let one : ContextFits defs specs after now = record {
        variables = distinct_new defs context.variables x more fresh h.variables;
        hypotheses = formulas_made defs specs context.variables x sort t more here fresh fit small context.hypotheses p.0 h.hypotheses p.1;
        mark = mark_made before after now refl context.mark h.mark;
      } in
      subst (λ c. ContextFits defs specs after (exchanged x more c)) p.2 one

  same_scope : (made : Context) → context_with ((x, t) ∷ []) context ≡ Ok made → scope_of (exchanged x more made) ≡ scope_with (without x context.variables ++ more)
  same_scope made e =
      let p = one_made (λ hypotheses. record (after_command context) { hypotheses = hypotheses }) (formulas_with ((x, t) ∷ []) context.hypotheses) made e in
      ap (λ (c : Context). scope_with (without x c.variables ++ more)) (sym p.2)

-- ---- goals

module _ (defs : Defs) (specs : SpecTable) (x : List ℕ) (sort : Sort) (t : Plain) (more : List Binder) (small : fits t ≡ true) where
  pub case_formed : (goal made : Goal) → lookup (bytes_eq x) (scope_of (context_of goal)) ≡ Some sort → first_taken (context_of goal).variables [] more ≡ None → TermFits defs (scope_with (without x (context_of goal).variables ++ more)) sort t → IsWellFormed defs specs goal → IsSmallGoal goal → case_with goal x t more ≡ Ok made →
      IsWellFormed defs specs made
  case_formed (g.Run run) made here fresh fit h few e =
      let vars = run.context.variables in
      let by = (x, t) ∷ [] in
      let p = one_made (with_exchanged x more) (goal_with by (g.Run run)) made e in
      let q = one_made g.Run (run_with by run) p.0 p.1 in
      let r = three_made (λ context source exits. record { context = context; source = source; rest = run.rest; exits = exits }) (context_with by run.context) (assertion_with by run.source) (exits_with by run.exits) q.0 q.1 in
      let after = with_exchanged x more (g.Run (record { context = r.0; source = r.1; rest = run.rest; exits = r.2 })) in
      let same = same_scope defs specs run.context x sort t more here fresh fit small r.0 r.3 in
      let exits = exits_made defs specs vars x sort t more here fresh fit small run.exits r.2 few.1 h.exits r.5 in
      let one : IsWellFormed defs specs after = record {
        context = context_made defs specs run.context x sort t more here fresh fit small (g.Run run) after r.0 h.context r.3;
        source = subst (λ c. AssertionFits defs specs c r.1) (sym same) (assertion_made defs specs vars x sort t more here fresh fit small run.source r.1 few.0 h.source r.4);
        statements = record { function = h.statements.function; file = h.statements.file; known = h.statements.known; body = h.statements.body; part = h.statements.part; result = exits.result ∙ h.statements.result; blocks = exits.blocks ∙ h.statements.blocks };
        exits = subst (λ c. ExitsFit defs specs c r.2) (sym same) exits.fitting;
      } in
      subst (IsWellFormed defs specs) (ap (with_exchanged x more) (ap g.Run r.6 ∙ q.2) ∙ p.2) one
  case_formed (g.Entail entail) made here fresh fit h few e =
      let vars = entail.context.variables in
      let by = (x, t) ∷ [] in
      let p = one_made (with_exchanged x more) (goal_with by (g.Entail entail)) made e in
      let q = one_made g.Entail (entail_with by entail) p.0 p.1 in
      let r = three_made (λ context source target. record { context = context; source = source; target = target }) (context_with by entail.context) (assertion_with by entail.source) (assertion_with by entail.target) q.0 q.1 in
      let after = with_exchanged x more (g.Entail (record { context = r.0; source = r.1; target = r.2 })) in
      let same = same_scope defs specs entail.context x sort t more here fresh fit small r.0 r.3 in
      let one : IsWellFormed defs specs after = record {
        context = context_made defs specs entail.context x sort t more here fresh fit small (g.Entail entail) after r.0 h.context r.3;
        source = subst (λ c. AssertionFits defs specs c r.1) (sym same) (assertion_made defs specs vars x sort t more here fresh fit small entail.source r.1 few.0 h.source r.4);
        target = subst (λ c. AssertionFits defs specs c r.2) (sym same) (assertion_made defs specs vars x sort t more here fresh fit small entail.target r.2 few.1 h.target r.5);
      } in
      subst (IsWellFormed defs specs) (ap (with_exchanged x more) (ap g.Entail r.6 ∙ q.2) ∙ p.2) one
  case_formed (g.Pure pure) made here fresh fit h few e =
      let vars = pure.context.variables in
      let by = (x, t) ∷ [] in
      let p = one_made (with_exchanged x more) (goal_with by (g.Pure pure)) made e in
      let q = one_made g.Pure (pure_with by pure) p.0 p.1 in
      let r = two_made (λ context target. record { context = context; target = target }) (context_with by pure.context) (formula_with by pure.target) q.0 q.1 in
      let after = with_exchanged x more (g.Pure (record { context = r.0; target = r.1 })) in
      let same = same_scope defs specs pure.context x sort t more here fresh fit small r.0 r.2 in
      let one : IsWellFormed defs specs after = record {
        context = context_made defs specs pure.context x sort t more here fresh fit small (g.Pure pure) after r.0 h.context r.2;
        target = subst (λ c. FormulaFits defs specs c r.1) (sym same) (formula_made defs specs vars x sort t more here fresh fit small pure.target r.1 h.target r.3);
      } in
      subst (IsWellFormed defs specs) (ap (with_exchanged x more) (ap g.Pure r.4 ∙ q.2) ∙ p.2) one
