-- Where an object stands in memory, by its root and its path.
use Rattle.std.proofs.Common.{◌≡◌, ℕ, ◌^◌, ◌<◌, ◌*◌, ◌⊎◌, inl, inr, true, ℤ, pos, ◌+ℤ◌, List, [], ◌∷◌, ◌++◌, Option, Some, None, refl, sym, ap, subst, ◌∙◌, arith}
use Rattle.std.specs.Prelude.{option_and_then, option_map}
use Rattle.std.proofs.lemmas.Int.{ints}
use Rattle.floyd_int.specs.declared.kinds.Value.{Value}
use Rattle.floyd_int.specs.declared.kinds.Value.TheVariants.{Vptr}
use Rattle.floyd_int.specs.Kind.{modulo}
use Rattle.floyd_int.proofs.Modulo.{modulo-below, modulo-same, modulo-small, modulo-split}
use Rattle.floyd_ctypes.specs.declared.ctype.CType.{CType, Void, Int, Pointer', Array', Struct, Function', more_of-CType, end_of-CType}
use Rattle.floyd_ctypes.specs.declared.field.Field as d
use Rattle.floyd_ctypes.specs.Structs.{Structs, field_of}
use Rattle.floyd_clight.specs.declared.syntax.Binding.{Binding}
use Rattle.floyd_clight.specs.declared.syntax.Binding.TheVariants.{Block, File}
use Rattle.floyd_clight_machine.specs.Evaluation.{Look, led, moved_spot, start_of}
use Rattle.floyd_clight_machine.specs.Evaluation as m
use Rattle.floyd_clight_machine.specs.Looking.{Spot}
use Rattle.floyd_clight_typing.specs.Expressions as typing
use Rattle.floyd_tree_sorts.specs.declared.heads.Head.TheVariants.{Gv, Lv}
use Rattle.floyd_tree_sorts.specs.declared.sorts.Sort.{Val as ValSort}
use Rattle.floyd_tree.specs.declared.paths.PathStep.TheVariants.{Field, Subscript}
use Rattle.floyd_tree.specs.Formulas.{PlainFormula}
use Rattle.floyd_tree.specs.Plain.{Plain, Done}
use Rattle.floyd_tree_values.specs.BuiltIns.{Env}
use Rattle.floyd_tree_values.specs.Data.{IsValue, Val}
use Rattle.floyd_tree_values.specs.Means.{Means, built_in, none}
use Rattle.floyd_tree_values.proofs.OneValue.{one_value}
use Rattle.floyd_truth.specs.Truth.{AllTrue}
use Rattle.floyd_assert_meaning.specs.Settings.{Setting}
use Rattle.floyd_fieldpath.specs.Nested.{sized_type, type_after}
use Rattle.floyd_symexpr_rows.specs.declared.needs.Number as n
use Rattle.floyd_symexpr_rows.specs.Rows.{range}
use Rattle.floyd_symexpr_laws.proofs.SideTruths.{all_true_first, all_true_second}
use Rattle.floyd_symexpr_paths.specs.declared.lvalue.Lvalue.{Lvalue}
use Rattle.floyd_symexpr_paths.specs.declared.lvalue.Taken.{Taken}
use Rattle.floyd_symexpr_paths.specs.Places.{element, elements_at, field, path_of, pointed, root_of, subscript_ranges, variable}
use Rattle.floyd_symexpr_soundness.proofs.Evaluations.{Evaluates}
use Rattle.floyd_symexpr_soundness.specs.Laws.{AreLaidOut, NamesStand, block_in}
use Rattle.floyd_symexpr_soundness.proofs.Adding.{Adds, ElementAdds, adds_on}
use Rattle.floyd_symexpr_soundness.proofs.Offsets.{field_lies}
use Rattle.floyd_symexpr_soundness.proofs.Reaching.{Reach, StepIs, field_is, here, onward}

-- ---- offsets

shifted : (a b z p q : ℤ) → z +ℤ p ≡ a +ℤ q → (a +ℤ b) +ℤ q ≡ (z +ℤ b) +ℤ p
shifted a b z p q e = omega (arith, ints, e)

-- what is moved twice is moved by the sum
pub moved_on : (z b : ℤ) → modulo (pos (modulo z (2 ^ 64)) +ℤ b) (2 ^ 64) ≡ modulo (z +ℤ b) (2 ^ 64)
moved_on z b =
    let s = modulo-split z (2 ^ 64) (omega arith) in
    modulo-same (pos (modulo z (2 ^ 64)) +ℤ b) (z +ℤ b) (2 ^ 64) s.1 s.0 (omega arith)
    (shifted (pos (modulo z (2 ^ 64))) b z (pos (s.0 * 2 ^ 64)) (pos (s.1 * 2 ^ 64)) s.2)

regrouped : (s z b : ℤ) → (s +ℤ z) +ℤ b ≡ s +ℤ (z +ℤ b)
regrouped s z b = omega (arith, ints)

nothing_more : (z : ℤ) → z +ℤ pos 0 ≡ z
nothing_more z = omega (arith, ints)

-- what is not moved stays
pub stays : (o : ℕ) → o < 2 ^ 64 → o ≡ modulo (pos o +ℤ pos 0) (2 ^ 64)
stays o h = sym (ap (λ z. modulo z (2 ^ 64)) (nothing_more (pos o)) ∙ modulo-small o (2 ^ 64) h)

-- ---- paths

path_on : (form : List Taken) (taken : Taken) → path_of (form ++ taken ∷ []) ≡ path_of form ++ taken.step ∷ []
path_on [] taken = refl
path_on (t ∷ form) taken = ap (λ path. t.step ∷ path) (path_on form taken)

mapped : {A B : Type 0} (f : A → B) (o : Option A) (y : B) → option_map f o ≡ Some y → (x : A) × (o ≡ Some x) × (f x ≡ y)
mapped f (Some x) y e = (x, refl, cc)
mapped f None y e = absurd cc

-- a field's struct
pub record IsFieldOf (structs : Structs) (T : CType) (x : List ℕ) (t : CType) : Type 0 where
  pub tag : List ℕ
  pub whole : T ≡ Struct tag
  pub item : d.Field
  pub found : field_of structs tag x ≡ Some item
  pub type_is : item.ty ≡ t

pub is_field_of : (structs : Structs) (T : CType) (x : List ℕ) (t : CType) → typing.field_type structs T x ≡ Some t → IsFieldOf structs T x t
is_field_of structs (Struct tag) x t e =
    let p = mapped (λ (f : d.Field). f.ty) (field_of structs tag x) t e in
    record { tag = tag; whole = refl; item = p.0; found = p.1; type_is = p.2 }
is_field_of structs Void x t e = absurd cc
is_field_of structs (Int k) x t e = absurd cc
is_field_of structs (Pointer' p u) x t e = absurd cc
is_field_of structs (Array' p u k) x t e = absurd cc
is_field_of structs (Function' shape ps p r) x t e = absurd cc

-- the same place in the same block
same_spot : (a b o p : ℕ) → Vptr a o ≡ Vptr b p → ◌≡◌ {A = Spot} (record { block = a; offset = o }) (record { block = b; offset = p })
same_spot a b o p e = cc

module _ (S : Setting) (env : Env) where
  abbrev AllSay : List PlainFormula → Type 0
  AllSay fs = AllTrue S.defs S.has_spec env fs

  -- ---- subscripts

  all_say : (fs gs : List PlainFormula) → AllSay fs → AllSay gs → AllSay (fs ++ gs)
  all_say [] gs p q = q
  all_say (f ∷ fs) gs p q = (p.0, all_say fs gs p.1 q)

  ranged_parts : (all : List n.Number) (i : n.Number) → AllSay (subscript_ranges (all ++ i ∷ [])) → AllSay (subscript_ranges all) × AllSay (range i.kind i.term)
  ranged_parts [] i k = (tt, all_true_first S.defs S.has_spec env (range i.kind i.term) [] k)
  ranged_parts (j ∷ all) i k =
      let rest = ranged_parts all i (all_true_second S.defs S.has_spec env (range j.kind j.term) (subscript_ranges (all ++ i ∷ [])) k) in
      (all_say (range j.kind j.term) (subscript_ranges all) (all_true_first S.defs S.has_spec env (range j.kind j.term) (subscript_ranges (all ++ i ∷ [])) k) rest.0, rest.1)

  -- ---- places

  -- each subscript is in the range of its kind
  abbrev pub AreRanged : Lvalue → Type 0
  AreRanged l = AllSay (subscript_ranges l.subscripts)

  -- The object stands at a place, if one is found. Where its root is a pointer, and its subscripts are in their ranges, one
  -- is found: at the root, as many bytes further as its path adds.
  pub record Stands (l : Lvalue) (T : CType) (found : Option Spot) : Type 0 where
    pub bytes : ℤ
    pub reach : Reach S.defs.structs S.defs env (sized_type l.whole) (path_of l.form) (sized_type T) bytes
    pub rooted : (l.is_value ≡ true) ⊎ ((block : ℕ) × Means S.defs env l.root (Val (Vptr block 0)))
    pub low : (block start : ℕ) → Means S.defs env l.root (Val (Vptr block start)) → start < 2 ^ 64
    pub adds : AreRanged l → Adds S.defs env l.form bytes
    pub is : (block start : ℕ) → Means S.defs env l.root (Val (Vptr block start)) → AreRanged l → found ≡ Some (record { block = block; offset = modulo (pos start +ℤ bytes) (2 ^ 64) })

  -- a root has one value
  same_root : (t : Plain) (x y : Value) → Means S.defs env t (Val x) → Means S.defs env t (Val y) → x ≡ y
  same_root t x y p q = let values : Val x ≡ Val y = one_value S.defs p (Val y) q in cc

  low_value : (block start : ℕ) → IsValue (Vptr block start) → start < 2 ^ 64
  low_value block start h = h

  root_means : (binding : Binding) (x : List ℕ) → Means S.defs env (root_of binding x) (Val (Vptr (block_in env binding x) 0))
  root_means Block x = built_in {env = env} {head = Lv x} {kids = Done} {s = ValSort} {ds = []} refl refl none
  root_means File x = built_in {env = env} {head = Gv x} {kids = Done} {s = ValSort} {ds = []} refl refl none

  -- a variable stands at the start of its block
  pub stands_variable : (known : typing.Names) (look : Look) (binding : Binding) (x : List ℕ) (t : CType) → NamesStand known env look → typing.type_named known binding x ≡ Some t → Stands (variable binding x t) t (option_map start_of (look.block_of binding x))
  stands_variable known look binding x t names typed =
      let block = block_in env binding x in
      let root = root_means binding x in
      record {
        bytes = pos 0;
        reach = here;
        rooted = inr (block, root);
        low = λ b start mean. (let same = same_root (root_of binding x) (Vptr block 0) (Vptr b start) root mean in low_value b start (subst IsValue same (omega arith)));
        adds = λ ranged. refl;
        is = λ b start mean ranged.
            (let same = same_root (root_of binding x) (Vptr block 0) (Vptr b start) root mean in
            ap (option_map start_of) (names.stand binding x t typed)
            ∙ ap Some (same_spot block b 0 start same)
            ∙ ap (λ o. Some (record { block = b; offset = o })) (stays start (low_value b start (subst IsValue same (omega arith)))));
      }

  -- what a pointer's value leads to
  at_pointer : (v : Plain) (found : Option Value) (T : CType) (l : Lvalue) → l.root ≡ v → l.is_value ≡ true → l.form ≡ [] → l.whole ≡ T → Evaluates S.defs env v found → Stands l T (option_and_then led found)
  at_pointer v found T l root is_value form whole e =
      let read : (b start : ℕ) → Means S.defs env l.root (Val (Vptr b start)) → e.agrees.value ≡ Vptr b start =
      λ b start mean. same_root v e.agrees.value (Vptr b start) e.agrees.means (subst (λ u. Means S.defs env u (Val (Vptr b start))) root mean) in
      let low : (b start : ℕ) → Means S.defs env l.root (Val (Vptr b start)) → start < 2 ^ 64 = λ b start mean. low_value b start (subst IsValue (read b start mean) e.value) in
      record {
        bytes = pos 0;
        reach =
            subst (λ (f : List Taken). Reach S.defs.structs S.defs env (sized_type l.whole) (path_of f) (sized_type T) (pos 0)) (sym form)
            (subst (λ t. Reach S.defs.structs S.defs env (sized_type t) [] (sized_type T) (pos 0)) (sym whole) here);
        rooted = inl is_value;
        low = low;
        adds = λ ranged. subst (λ (f : List Taken). Adds S.defs env f (pos 0)) (sym form) refl;
        is = λ b start mean ranged.
            ap (option_and_then led) (e.agrees.is ∙ ap Some (read b start mean))
            ∙ ap (λ o. Some (record { block = b; offset = o })) (stays start (low b start mean));
      }

  pub stands_pointed : (v : Plain) (found : Option Value) (t : CType) → Evaluates S.defs env v found → Stands (pointed v t) t (option_and_then led found)
  stands_pointed v found t e = at_pointer v found t (pointed v t) refl refl refl refl e

  pub stands_elements : (v : Plain) (found : Option Value) (t : CType) → Evaluates S.defs env v found → Stands (elements_at v t) (elements_at v t).whole (option_and_then led found)
  stands_elements v found t e = at_pointer v found (elements_at v t).whole (elements_at v t) refl refl refl refl e

  -- ---- steps

  -- a field of it
  pub stands_field : (l : Lvalue) (T : CType) (found : Option Spot) (x : List ℕ) (t : CType) → AreLaidOut S.defs.structs → typing.field_type S.defs.structs T x ≡ Some t → Stands l T found → Stands (field T x l) t (option_and_then (m.field_of S.defs.structs T x) found)
  stands_field l T found x t laid e s =
      let structs = S.defs.structs in
      let f = is_field_of structs T x t e in
      let o = field_lies structs f.tag x f.item laid f.found in
      let after : type_after structs (sized_type T) (Field x) ≡ Some (sized_type t) =
      ap (λ u. type_after structs (sized_type u) (Field x)) f.whole ∙ ap (option_map (λ (i : d.Field). sized_type i.ty)) f.found ∙ ap (λ u. Some (sized_type u)) f.type_is in
      let step = field_is structs S.defs env (sized_type T) (sized_type t) f.tag x o.place (ap (λ u. (sized_type u).shape) f.whole) o.at in
      record {
        bytes = s.bytes +ℤ pos o.place;
        reach = subst (λ path. Reach structs S.defs env (sized_type l.whole) path (sized_type t) (s.bytes +ℤ pos o.place)) (sym (path_on l.form (record { step = Field x; ty = Some (sized_type T) }))) (onward (path_of l.form) (Field x) s.reach after step);
        rooted = s.rooted;
        low = s.low;
        adds = λ ranged. adds_on S.defs env l.form (record { step = Field x; ty = Some (sized_type T) }) s.bytes (pos o.place) (s.adds ranged)
            (record { tag = f.tag; shape = ap (λ u. (sized_type u).shape) f.whole; place = o.place; at = o.at; bytes = refl });
        is = λ block start mean ranged.
            (let spot : Spot = record { block = block; offset = modulo (pos start +ℤ s.bytes) (2 ^ 64) } in
            ap (option_and_then (m.field_of structs T x)) (s.is block start mean ranged)
            ∙ ap (λ u. m.field_of structs u x spot) f.whole
            ∙ ap (option_map (moved_spot spot)) o.at
            ∙ ap (λ place. Some (record { block = block; offset = place })) (moved_on (pos start +ℤ s.bytes) (pos o.place) ∙ ap (λ z. modulo z (2 ^ 64)) (regrouped (pos start) s.bytes (pos o.place))));
      }

  -- an element of it, at a place that is found as many bytes further as the subscript adds
  pub stands_element : (l : Lvalue) (t : CType) (length : ℕ) (found there : Option Spot) (i : n.Number) (z : ℤ) → Stands l (Array' tt (more_of-CType t end_of-CType) length) found →
      StepIs S.defs.structs S.defs env (sized_type (Array' tt (more_of-CType t end_of-CType) length)) (sized_type t) (Subscript i.term) z →
      (AllTrue S.defs S.has_spec env (range i.kind i.term) → ElementAdds S.defs env i.term (sized_type t) z) →
      ((p : Spot) → found ≡ Some p → p.offset < 2 ^ 64 → AllTrue S.defs S.has_spec env (range i.kind i.term) → there ≡ Some (record { block = p.block; offset = modulo (pos p.offset +ℤ z) (2 ^ 64) })) →
      Stands (element t i l) t there
  stands_element l t length found there i z s step adds on =
      let structs = S.defs.structs in
      record {
        bytes = s.bytes +ℤ z;
        reach = subst (λ path. Reach structs S.defs env (sized_type l.whole) path (sized_type t) (s.bytes +ℤ z)) (sym (path_on l.form (record { step = Subscript i.term; ty = Some (sized_type t) }))) (onward (path_of l.form) (Subscript i.term) s.reach refl step);
        rooted = s.rooted;
        low = s.low;
        adds = λ ranged.
            (let parts = ranged_parts l.subscripts i ranged in
            adds_on S.defs env l.form (record { step = Subscript i.term; ty = Some (sized_type t) }) s.bytes z (s.adds parts.0) (adds parts.1));
        is = λ block start mean ranged.
            (let parts = ranged_parts l.subscripts i ranged in
            on (record { block = block; offset = modulo (pos start +ℤ s.bytes) (2 ^ 64) }) (s.is block start mean parts.0) (modulo-below (pos start +ℤ s.bytes) (2 ^ 64) (omega arith)) parts.1
            ∙ ap (λ place. Some (record { block = block; offset = place })) (moved_on (pos start +ℤ s.bytes) z ∙ ap (λ y. modulo y (2 ^ 64)) (regrouped (pos start) s.bytes z)));
      }
