-- What an assignment stores, and where: read off its row.
use Rattle.std.proofs.Common.{◌≡◌, ℕ, zero, suc, ◌+◌, pos, List, [], ◌∷◌, ◌++◌, length, Ok, sym, ap, subst, ◌∙◌}
use Rattle.std.specs.Prelude.{ℤ}
use Rattle.floyd_ctypes.specs.Structs.{Structs}
use Rattle.floyd_memval.specs.declared.bytes.MemByte.{MemByte}
use Rattle.floyd_clight.specs.declared.syntax.Expr.{Expr}
use Rattle.floyd_clight.specs.Types.{type_of}
use Rattle.floyd_clight_heap.specs.Heaplet.{Heaplet, Joins, OwnsFrom, laid}
use Rattle.floyd_clight_heap.proofs.Stores.{whole, with_new}
use Rattle.floyd_clight_heap.proofs.Sums.{owned_more}
use Rattle.floyd_clight_machine.specs.Evaluation.{Look}
use Rattle.floyd_tree.specs.Formulas.{PlainFormula}
use Rattle.floyd_tree.specs.Plain.{Plain, Done, More}
use Rattle.floyd_tree_values.specs.BuiltIns.{Env}
use Rattle.floyd_tree_values.specs.Data.{Datum, Number}
use Rattle.floyd_tree_values.specs.Means.{AllMean, Means, more, none}
use Rattle.floyd_tree_values.proofs.OneValue.{one_value}
use Rattle.floyd_truth.specs.Truth.{Truth}
use Rattle.floyd_assert_trees.specs.declared.assertion.Assertion.{Assertion}
use Rattle.floyd_assert_trees.specs.declared.sep.Region.{Region}
use Rattle.floyd_assert_trees.specs.declared.sep.Sep.{Sep}
use Rattle.floyd_assert_meaning.specs.Settings.{Setting}
use Rattle.floyd_fieldpath.specs.Nested.{literal}
use Rattle.floyd_fieldpath.specs.Written.{on_ok}
use Rattle.floyd_fieldpath_laws.proofs.Meanings.{literal_means, on_ok_is}
use Rattle.floyd_symexpr_rows.specs.declared.needs.Needs.{Needs}
use Rattle.floyd_symexpr_rows.specs.Formulas.{equal, saying}
use Rattle.floyd_symexpr_laws.proofs.SideTruths.{saying_is}
use Rattle.floyd_symexpr_pointer_laws.specs.Laws.{AllValid}
use Rattle.floyd_symexpr_paths.specs.declared.location.Located.{Located}
use Rattle.floyd_symexpr.specs.declared.evaluation.Evaluated.{Evaluated}
use Rattle.floyd_symexpr.specs.Expressions.{evaluate}
use Rattle.floyd_symexpr.specs.Locate.{locate}
use Rattle.floyd_forward.specs.declared.assigning.Stored.{Stored}
use Rattle.floyd_forward.specs.Assign.{assigned, may_store, store_needs, stored}
use Rattle.floyd_forward.specs.Objects.{part_with, region_at}
use Rattle.floyd_read_soundness.proofs.Reading.{same_answer}

-- ---- the row

-- where the object lies, the value, the part with it, and what was said
pub record IsStored (structs : Structs) (source : Assertion) (p e : Expr) (s : Stored) : Type 0 where
  pub l : Located
  pub found : locate source structs p ≡ Ok l
  pub v : Evaluated
  pub evaluated : evaluate source structs e ≡ Ok v
  pub part : Region × Plain
  pub region : region_at source.parts l.part ≡ Ok part
  pub made : part_with structs l.path v.term part ≡ Ok s.part
  pub number : s.number ≡ l.part
  pub sides : s.needs.sides ≡ (l.sides ++ v.sides) ++ may_store (type_of p) v.term part.0
  pub valid : s.needs.valid ≡ l.valid ++ v.valid

pub what_is_stored : (structs : Structs) (source : Assertion) (p e : Expr) (s : Stored) → assigned source structs p e ≡ Ok s → IsStored structs source p e s
what_is_stored structs source p e s f =
    let t = type_of p in
    let a = on_ok_is {B = Stored} (locate source structs p) (λ (l : Located). on_ok (evaluate source structs e) (stored source structs t l)) s f in
    let l = a.0 in
    let b = on_ok_is {B = Stored} (evaluate source structs e) (stored source structs t l) s a.2 in
    let v = b.0 in
    let c = on_ok_is {B = Stored} (region_at source.parts l.part)
    (λ (part : Region × Plain). on_ok (part_with structs l.path v.term part) (λ new. on_ok (store_needs t l v part.0) (λ needs. Ok (record { number = l.part; part = new; needs = needs })))) s b.2 in
    let part = c.0 in
    let d = on_ok_is {B = Stored} (part_with structs l.path v.term part) (λ (new : Sep). on_ok (store_needs t l v part.0) (λ needs. Ok (record { number = l.part; part = new; needs = needs }))) s c.2 in
    let n = on_ok_is {B = Stored} (store_needs t l v part.0) (λ (needs : Needs). Ok (record { number = l.part; part = d.0; needs = needs })) s d.2 in
    let is : ◌≡◌ {A = Stored} (record { number = l.part; part = d.0; needs = n.0 }) s = same_answer {A = Stored} (record { number = l.part; part = d.0; needs = n.0 }) s n.2 in
    let q = on_ok_is {B = Needs} (saying (l.sides ++ v.sides) (may_store t v.term part.0)) (λ (sides : List PlainFormula). Ok (record { sides = sides; valid = l.valid ++ v.valid })) n.0 n.1 in
    let needs : ◌≡◌ {A = Needs} (record { sides = q.0; valid = l.valid ++ v.valid }) n.0 = same_answer {A = Needs} (record { sides = q.0; valid = l.valid ++ v.valid }) n.0 q.2 in
    record {
      l = l;
      found = a.1;
      v = v;
      evaluated = b.1;
      part = part;
      region = c.1;
      made = subst (λ (new : Sep). part_with structs l.path v.term part ≡ Ok new) (ap (λ (k : Stored). k.part) is) d.1;
      number = ap (λ (k : Stored). k.number) (sym is);
      sides = ap (λ (k : Stored). k.needs.sides) (sym is) ∙ ap (λ (k : Needs). k.sides) (sym needs) ∙ saying_is (l.sides ++ v.sides) (may_store t v.term part.0) q.0 q.1;
      valid = ap (λ (k : Stored). k.needs.valid) (sym is) ∙ ap (λ (k : Needs). k.valid) (sym needs);
    }

-- ---- truth

module _ (S : Setting) (env : Env) where
  two_data : {a b : Plain} {d e : Datum} → AllMean S.defs env (More a (More b Done)) (d ∷ e ∷ []) → Means S.defs env a d × Means S.defs env b e
  two_data (more m (more k none)) = (m, k)

  -- what is said to be 16 is
  pub full_share : (t : Plain) (z : ℤ) → Truth S.defs S.has_spec env (equal t (literal (pos 16))) → Means S.defs env t (Number z) → z ≡ pos 16
  full_share t z (d, both) m =
      let p = two_data both in
      let same : Number z ≡ Number (pos 16) = one_value S.defs m d p.0 ∙ one_value S.defs p.1 (Number (pos 16)) (literal_means S.defs env (pos 16)) in
      cc

  pub valid_apart : (look : Look) (ts us : List Plain) → AllValid S.defs env look (ts ++ us) → AllValid S.defs env look ts × AllValid S.defs env look us
  valid_apart look [] us v = (tt, v)
  valid_apart look (t ∷ ts) us v =
      let q = valid_apart look ts us v.1 in
      ((v.0, q.0), q.1)

-- ---- bytes that are laid down

-- bytes that are laid down where a part owns the places are laid down in the whole
pub laid_in_part : (bytes : List MemByte) (g k h : Heaplet) (b o : ℕ) → Joins g k h → OwnsFrom (length bytes) g b o → Joins (laid bytes b o g) k (laid bytes b o h)
laid_in_part [] g k h b o j w = j
laid_in_part (byte ∷ bytes) g k h b o j w =
    with_new (laid bytes b (o + 1) g) k (laid bytes b (o + 1) h) b o (whole byte) (laid_in_part bytes g k h b (o + 1) j w.1) (w.0.alone k h j)

-- places that a part owns the whole owns
pub owns_more : (n : ℕ) (g k h : Heaplet) (b o : ℕ) → Joins g k h → OwnsFrom n g b o → OwnsFrom n h b o
owns_more zero g k h b o j w = tt
owns_more (suc n) g k h b o j w = (owned_more j w.0, owns_more n g k h b (o + 1) j w.1)
