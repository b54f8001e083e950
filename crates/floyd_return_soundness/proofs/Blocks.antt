-- The parts that are whole objects of local variables own all places of their blocks, so that these may be given back.
use Rattle.std.proofs.Common.{◌≡◌, ℕ, zero, suc, ◌+◌, ◌≤◌, ◌==◌, ◌&&◌, Bool, true, false, cond, ℤ, pos, List, [], ◌∷◌, map, length, Option, Some, None, Result, Ok, refl, sym, ap, ap₂, subst, ◌∙◌, arith, eq-eqb, eqb-true, if◌then◌else◌}
use Rattle.std.specs.Prelude.{is_some, option_map, position, remove}
use Rattle.std.specs.Option.{option_map_or}
use Rattle.std.specs.Ordering.{int_eq as int_is}
use Rattle.std.specs.List.{position_from}
use Rattle.std.proofs.lemmas.Bool.Decides.{Decides-int_eq}
use Rattle.std.proofs.lemmas.Bool.{and_parts, and_from}
use Rattle.std.proofs.lemmas.Iterator.Adapters.{position_from-zero}
use Rattle.std.proofs.lemmas.Option.{same_Some}
use Rattle.floyd_text.specs.declared.refusal.No.{No}
use Rattle.floyd_int.specs.declared.kinds.Value.TheVariants.{Vptr}
use Rattle.floyd_ctypes.specs.declared.ctype.CType.{CType}
use Rattle.floyd_ctypes.specs.Layout as c
use Rattle.floyd_ctypes.specs.Structs.{Structs}
use Rattle.floyd_clight.specs.declared.unit.Local.{Local}
use Rattle.floyd_clight_heap.specs.Heaplet.{Cell, Heaplet, Joins, JoinsAt, Owned, OwnsFrom, empty}
use Rattle.floyd_clight_heap.proofs.Sums.{assoc_back, comm, left_empty}
use Rattle.floyd_clight_machine.specs.Machine.{LocalBlock}
use Rattle.floyd_clight_runs.specs.Calls.{AreBlocksOf, AreOwned}
use Rattle.floyd_tree_sorts.specs.declared.heads.Head.TheVariants.{Lv}
use Rattle.floyd_tree_sorts.specs.declared.sorts.Sort.{Val as ValSort}
use Rattle.floyd_tree.specs.declared.paths.PathStep.{PathStep}
use Rattle.floyd_tree.specs.Plain.{Plain, At, Done, plains}
use Rattle.floyd_tree.specs.Types.{SizedType}
use Rattle.floyd_tree_values.specs.BuiltIns.{Env}
use Rattle.floyd_tree_values.specs.Data.{Datum, Number, Val, number_in}
use Rattle.floyd_tree_values.specs.Means as mean
use Rattle.floyd_tree_values.specs.Means.{AllMean, Means, built_in}
use Rattle.floyd_tree_values.proofs.OneValue.{one_list, one_value}
use Rattle.floyd_arith.specs.Same.{same_term}
use Rattle.floyd_arith.proofs.SameLemmas.{same_term_true}
use Rattle.floyd_assert_trees.specs.declared.sep.Region.{Region}
use Rattle.floyd_assert_trees.specs.declared.sep.Sep.{Sep}
use Rattle.floyd_assert_trees.specs.declared.sep.Sep.TheVariants.{FieldAt, Padding, Valid, Anything, Predicate}
use Rattle.floyd_assert_cells.specs.Cells.{Cells, FieldPart, HasExactly, IsCell, Located, within}
use Rattle.floyd_assert_cells.specs.Types.{Sized, Step, size, sized, sizes_of}
use Rattle.floyd_assert_cells.proofs.Exact.{within_from}
use Rattle.floyd_assert_cells.proofs.ObjectLaws.{cells_are_exact, layouts_agree}
use Rattle.floyd_assert_meaning.specs.Parts.{ObjectHolds, PartHolds, PartsHold, PathMeans, more, object, sized_as}
use Rattle.floyd_assert_meaning.specs.Settings.{Setting}
use Rattle.floyd_assert_meaning.proofs.Inversions.{more_of}
use Rattle.floyd_fieldpath.specs.Nested.{literal, sized_type}
use Rattle.floyd_fieldpath.specs.Sums.{literal_in}
use Rattle.floyd_fieldpath_laws.proofs.Meanings.{literal_means, literal_value, on_ok_is}
use Rattle.floyd_symexpr_paths.specs.Same.{same_type}
use Rattle.floyd_symexpr_paths.proofs.SameLemmas.{same_type_true}
use Rattle.floyd_goal_meaning.specs.GoalHolds.{StandAt}
use Rattle.floyd_forward.specs.Return.{is_full, is_object, is_whole, without_at, without_block, without_blocks}

-- ---- exactly so many places with the whole share

cell_there : (k : Option Cell) → IsCell 15 true k → (x : Cell) × (k ≡ Some x)
cell_there None w = absurd w
cell_there (Some x) w = (x, refl)

alone_at : (h g k : Option Cell) → IsCell 15 true h → JoinsAt h g k → g ≡ None
alone_at None g k w j = absurd w
alone_at (Some x) None k w j = refl
alone_at (Some x) (Some y) k w j = absurd (omega (arith, w, j.1))

owned_at : (h : Heaplet) (b o : ℕ) → IsCell 15 true (h b o) → Owned h b o
owned_at h b o w =
    let x = cell_there (h b o) w in
    record { cell = x.0; has = x.1; alone = λ g k j. alone_at (h b o) (g b o) (k b o) w (j.at b o) }

owns_exact : (n o count b : ℕ) (h : Heaplet) → o + n ≤ count → HasExactly 15 b (within 0 count) h → OwnsFrom n h b o
owns_exact zero o count b h l w = tt
owns_exact (suc n) o count b h l w =
    let here : (b == b && within 0 count o) ≡ true = and_from (b == b) (within 0 count o) (eq-eqb b b refl) (within_from 0 count o (omega arith) (omega (arith, l))) in
    (owned_at h b o (subst (λ t. IsCell 15 t (h b o)) here (w.at b o)), owns_exact n (o + 1) count b h (omega (arith, l)) w)

-- ---- a whole object

type_if : (o : Option ℤ) (t u : Sized) → (if is_some o then Some t else None) ≡ Some u → u ≡ t
type_if (Some z) t u e = sym (same_Some t u e)
type_if None t u e = absurd cc

shift_if : (o : Option ℤ) (n : ℕ) → (if is_some o then Some (pos 0) else None) ≡ Some (pos n) → n ≡ 0
shift_if (Some z) n e = cc
shift_if None n e = absurd cc

same_pos : (m n : ℕ) → ◌≡◌ {A = Option ℤ} (Some (pos m)) (Some (pos n)) → m ≡ n
same_pos m n e = cc

less_is : (k : ℕ) → pos 16 ≡ pos (suc k) → k ≡ 15
less_is k e = cc

whole_owned : (structs : Structs) (t : CType) (v : Datum) (block n : ℕ) (g : Heaplet) → c.size structs t ≡ Some n → FieldPart structs (pos 16) (sized t) [] v (Vptr block 0) g → OwnsFrom n g block 0
whole_owned structs t v block n g sized' part =
    let l : Located structs (sized t) [] (Vptr block 0) = part.0 in
    let cells : Cells structs (pos 16) l.type v l.block (l.offset + l.shift) g = part.1 in
    let e = cells_are_exact structs (pos 16) l.type v l.block (l.offset + l.shift) g cells in
    let typed : l.type ≡ sized t = type_if (size structs (sized t)) (sized t) l.type l.nested in
    let shift : l.shift ≡ 0 = shift_if (size structs (sized t)) l.shift l.shifted in
    let there : Vptr block 0 ≡ Vptr l.block l.offset = l.points in
    let at_block : l.block ≡ block = cc in
    let at_start : l.offset ≡ 0 = cc in
    let start : l.offset + l.shift ≡ 0 = omega (arith, at_start, shift) in
    let is_size : size structs (sized t) ≡ Some (pos n) = (layouts_agree structs t).0 ∙ ap (option_map pos) sized' in
    let count : e.count ≡ n = same_pos e.count n (sym e.size ∙ ap (size structs) typed ∙ is_size) in
    let exact : HasExactly 15 block (within 0 n) g =
    subst (λ k. HasExactly k block (within 0 n) g) (less_is e.less e.is)
    (subst (λ b. HasExactly e.less b (within 0 n) g) at_block
    (subst (λ o. HasExactly e.less l.block (within o n) g) start
    (subst (λ k. HasExactly e.less l.block (within (l.offset + l.shift) k) g) count e.exact))) in
    owns_exact n 0 n block g (omega arith) exact

full_is : (o : Option ℤ) → option_map_or (λ z. int_is z (pos 16)) o false ≡ true → o ≡ Some (pos 16)
full_is (Some z) e = ap Option.Some ((Decides-int_eq z (pos 16)).0 e)
full_is None e = absurd cc

no_steps : (path : List PathStep) → (length path == 0) ≡ true → path ≡ []
no_steps [] e = refl
no_steps (s ∷ path) e =
    let n : suc (length path) ≡ 0 = eqb-true (length (s ∷ path)) 0 e in
    absurd (omega (arith, n))

numbers_back : (zs : List ℤ) → map number_in (map Number zs) ≡ zs
numbers_back [] = refl
numbers_back (z ∷ zs) = ap (λ ys. z ∷ ys) (numbers_back zs)

module _ (S : Setting) (env : Env) where
  literals_mean : (zs : List ℤ) → AllMean S.defs env (plains (map literal zs)) (map Number zs)
  literals_mean [] = mean.none
  literals_mean (z ∷ zs) = mean.more (literal_means S.defs env z) (literals_mean zs)

  sizes_are : (zs ns : List ℤ) → AllMean S.defs env (plains (map literal zs)) (map Number ns) → ns ≡ zs
  sizes_are zs ns m = sym (numbers_back ns) ∙ ap (map number_in) (one_list S.defs m (map Number zs) (literals_mean zs)) ∙ numbers_back zs

  no_path : (steps : List Step) → PathMeans S.defs env [] steps → steps ≡ []
  no_path [] m = refl
  no_path (s ∷ steps) m = absurd m

  object_owned : (l : Local) (b : LocalBlock) (r : Region) (value : Plain) (g : Heaplet) → b.name ≡ l.name → c.size S.defs.structs l.ctype ≡ Some b.size → b.block ≡ env.local b.name →
      is_object (sized_type l.ctype) (At (Lv l.name) Done) r ≡ true → ObjectHolds S env r value g → OwnsFrom b.size g b.block 0
  object_owned l b r value g name sized' place test x =
      let structs = S.defs.structs in
      let root' : Plain = At (Lv l.name) Done in
      let p = and_parts (is_full r.share) (length r.path == 0 && (same_term r.root root' && same_type r.ty (sized_type l.ctype))) test in
      let q = and_parts (length r.path == 0) (same_term r.root root' && same_type r.ty (sized_type l.ctype)) p.1 in
      let o = and_parts (same_term r.root root') (same_type r.ty (sized_type l.ctype)) q.1 in
      let m = x.0 in
      let v = x.1 in
      let part : FieldPart structs m.share (sized_as r m.sizes) m.path v m.root g = x.3 in
      let share : pos 16 ≡ m.share = literal_value S.defs env r.share (pos 16) m.share (full_is (literal_in r.share) p.0) m.of_share in
      let path : m.path ≡ [] = no_path m.path (subst (λ s. PathMeans S.defs env s m.path) (no_steps r.path q.0) m.of_path) in
      let typed : r.ty ≡ sized_type l.ctype = same_type_true r.ty (sized_type l.ctype) o.1 in
      let sizes : m.sizes ≡ sizes_of l.ctype = sizes_are (sizes_of l.ctype) m.sizes (subst (λ (u : SizedType). AllMean S.defs env (plains u.sizes) (map Number m.sizes)) typed m.of_sizes) in
      let same_sized : sized_as r m.sizes ≡ sized l.ctype = ap₂ (λ (u : SizedType) (ns : List ℤ). record { shape = u.shape; sizes = ns }) typed sizes in
      let at : Means S.defs env root' (Val (Vptr (env.local l.name) 0)) = built_in {head = Lv l.name} {s = ValSort} {ds = []} refl refl mean.none in
      let is : Val m.root ≡ Val (Vptr (env.local l.name) 0) = one_value S.defs (subst (λ t. Means S.defs env t (Val m.root)) (same_term_true r.root root' o.0) m.of_root) (Val (Vptr (env.local l.name) 0)) at in
      let local : env.local l.name ≡ b.block = ap env.local (sym name) ∙ sym place in
      let root : m.root ≡ Vptr b.block 0 = cc in
      let whole : FieldPart structs (pos 16) (sized l.ctype) [] v (Vptr b.block 0) g =
      subst (λ z. FieldPart structs z (sized l.ctype) [] v (Vptr b.block 0) g) (sym share)
      (subst (λ u. FieldPart structs m.share u [] v (Vptr b.block 0) g) same_sized
      (subst (λ s. FieldPart structs m.share (sized_as r m.sizes) s v (Vptr b.block 0) g) path
      (subst (λ y. FieldPart structs m.share (sized_as r m.sizes) m.path v y g) root part))) in
      whole_owned structs l.ctype v b.block b.size g sized' whole

  part_owned : (l : Local) (b : LocalBlock) (p : Sep) (g : Heaplet) → b.name ≡ l.name → c.size S.defs.structs l.ctype ≡ Some b.size → b.block ≡ env.local b.name →
      is_whole (sized_type l.ctype) (At (Lv l.name) Done) p ≡ true → PartHolds S env p g → OwnsFrom b.size g b.block 0
  part_owned l b (FieldAt r value) g name sized' place test (object x) = object_owned l b r value g name sized' place test x
  part_owned l b (Padding r) g name sized' place test x = absurd cc
  part_owned l b (Valid t) g name sized' place test x = absurd cc
  part_owned l b Anything g name sized' place test x = absurd cc
  part_owned l b (Predicate y terms) g name sized' place test x = absurd cc

  -- ---- parts taken out

  -- one part that passes the test, and the others
  record Taken (test : Sep → Bool) (rest : List Sep) (h : Heaplet) : Type 0 where
    pub part : Sep
    pub passes : test part ≡ true
    pub here : Heaplet
    pub others : Heaplet
    pub joins : Joins here others h
    pub holds : PartHolds S env part here
    pub rest' : PartsHold S env rest others

  taken_from : (test : Sep → Bool) (start i : ℕ) (parts : List Sep) (h : Heaplet) → position_from test start parts ≡ Some i → PartsHold S env parts h → (k : ℕ) × (i ≡ start + k) × Taken test (remove parts k) h
  taken_from test start i [] h e m = absurd cc
  taken_from test start i (p ∷ parts) h e m =
      let y = more_of m in
      by (test p) refl e (λ g. taken_from test (start + 1) i parts y.others g y.rest)
    where
      by : (t : Bool) → test p ≡ t → cond t (Some start) (position_from test (start + 1) parts) ≡ Some i → (position_from test (start + 1) parts ≡ Some i → (n : ℕ) × (i ≡ start + 1 + n) × Taken test (remove parts n) (more_of m).others) → (k : ℕ) × (i ≡ start + k) × Taken test (remove (p ∷ parts) k) h
      by true f g later =
          let y = more_of m in
          let first : start ≡ i = same_Some start i g in
          (0, omega (arith, first), record { part = p; passes = f; here = y.here; others = y.others; joins = y.joins; holds = y.first; rest' = y.rest })
      by false f g later =
          let y = more_of m in
          let z = later g in
          let w = z.2 in
          let a = assoc_back (comm w.joins) y.joins in (
            suc z.0,
            omega (arith, z.1),
            record { part = w.part; passes = w.passes; here = w.here; others = a.0; joins = comm a.2; holds = w.holds; rest' = more a.1 y.first w.rest' },
          )

  taken : (test : Sep → Bool) (i : ℕ) (parts : List Sep) (h : Heaplet) → position test parts ≡ Some i → PartsHold S env parts h → Taken test (remove parts i) h
  taken test i parts h e m =
      let t = taken_from test 0 i parts h (sym (position_from-zero test parts) ∙ e) m in
      let same : t.0 ≡ i = omega (arith, t.1) in
      subst (λ k. Taken test (remove parts k) h) same t.2

  same_parts : (ps qs : List Sep) → ◌≡◌ {A = Result (List Sep) No} (Ok ps) (Ok qs) → ps ≡ qs
  same_parts ps qs e = cc

  abbrev Is : Local → Sep → Bool
  Is l = is_whole (sized_type l.ctype) (At (Lv l.name) Done)

  block_taken : (l : Local) (parts rest : List Sep) (h : Heaplet) → without_block l parts ≡ Ok rest → PartsHold S env parts h → Taken (Is l) rest h
  block_taken l parts rest h e m = by (position (Is l) parts) refl e
    where
      by : (o : Option ℕ) → position (Is l) parts ≡ o → without_at l.name parts o ≡ Ok rest → Taken (Is l) rest h
      by (Some i) f g = subst (λ ps. Taken (Is l) ps h) (same_parts (remove parts i) rest g) (taken (Is l) i parts h f m)
      by None f g = absurd cc

  -- ---- all blocks

  -- the heaplet is that of the blocks, and that of the parts that are left
  pub record GivenBack (bs : List LocalBlock) (rest : List Sep) (h : Heaplet) : Type 0 where
    pub locals : Heaplet
    pub others : Heaplet
    pub joins : Joins locals others h
    pub owned : AreOwned bs locals
    pub parts : PartsHold S env rest others

  pub blocks_back : (ls : List Local) (bs : List LocalBlock) (parts rest : List Sep) (h : Heaplet) → AreBlocksOf S.defs.structs ls bs → StandAt env bs → without_blocks ls parts ≡ Ok rest → PartsHold S env parts h → GivenBack bs rest h
  blocks_back [] [] parts rest h a s e m =
      record { locals = empty; others = h; joins = left_empty h; owned = tt; parts = subst (λ ps. PartsHold S env ps h) (same_parts parts rest e) m }
  blocks_back [] (b ∷ bs) parts rest h a s e m = absurd a
  blocks_back (l ∷ ls) [] parts rest h a s e m = absurd a
  blocks_back (l ∷ ls) (b ∷ bs) parts rest h a s e m =
      let w = on_ok_is (without_block l parts) (without_blocks ls) rest e in
      let one = block_taken l parts w.0 h w.1 m in
      let further = blocks_back ls bs w.0 rest one.others a.2 s.1 w.2 one.rest' in
      let j = assoc_back further.joins one.joins in
      let owns = part_owned l b one.part one.here a.0 a.1 s.0 one.passes one.holds in
      record { locals = j.0; others = further.others; joins = j.2; owned = (one.here, further.locals, j.1, owns, further.owned); parts = further.parts }
