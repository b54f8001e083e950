-- The flat list of statements stands for the statement.
use Rattle.std.proofs.Common.{ℕ, List, [], ◌∷◌, ◌++◌, refl}
use mathlib.Core.Former.{arity, this}
use Rattle.sqlite_items.specs.formers.items.Items.{the_former}
use Rattle.floyd_clight.specs.declared.syntax.Stmt.{Stmt, Skip, Set, Assign, Call, Seq', If', Loop', Break, Continue, Return, Switch', Row_of-Stmt, end_of-Stmt, more_of-Stmt}
use Rattle.floyd_clight.specs.Flat.{flat, flats}
use Rattle.floyd_stub_machine.specs.Machine.{Act, Run, Kseq}
use Rattle.floyd_stub_assert.specs.Heaplet.{Heaplet}
use Rattle.floyd_stub_runs.specs.World.{World}
use Rattle.floyd_stub_runs.specs.Safe.{Exit, Normal, Broke, Continued, Returned, Exits, Part, Safe, with_normal, SafeAll}
use Rattle.floyd_stub_runs.proofs.Under.{resume}
use Rattle.floyd_stub_runs.proofs.Safety.{conseq, bind, done, broke, continued, returned, quiet, same_exits}

more : (W : World) (n : ℕ) (a b : List Stmt) (E : Exits) → ((act : Act) (h : Heaplet) → SafeAll W n (a ++ b) E act h → SafeAll W n a (with_normal (SafeAll W n b E) E) act h) → (x : Exit) (g : Heaplet) → with_normal (SafeAll W n (a ++ b) E) E x g → with_normal (SafeAll W n a (with_normal (SafeAll W n b E) E)) (with_normal (SafeAll W n b E) E) x g
more W n a b E f (Normal act) g p = f act g p
more W n a b E f (Broke act) g p = p
more W n a b E f (Continued act) g p = p
more W n a b E f (Returned v) g p = p

-- what an appended list gives
append_safe : (W : World) (n : ℕ) (a b : List Stmt) (E : Exits) (act : Act) (h : Heaplet) → SafeAll W n (a ++ b) E act h → SafeAll W n a (with_normal (SafeAll W n b E) E) act h
append_safe W n [] b E act h s = s
append_safe W n (c ∷ a) b E act h s =
    conseq W Part n (Run c [] act) h (with_normal (SafeAll W n (a ++ b) E) E) (with_normal (SafeAll W n a (with_normal (SafeAll W n b E) E)) (with_normal (SafeAll W n b E) E))
    (more W n a b E (append_safe W n a b E)) s

-- a statement is safe where its flat list is
abbrev FlatSafe : World → ℕ → Stmt → Type 1
FlatSafe W n s = (E : Exits) (act : Act) (h : Heaplet) → SafeAll W n (flat s) E act h → Safe W Part n (Run s [] act) h E

abbrev AllFlatSafe : {c : _} → World → ℕ → Row_of-Stmt c → Type 1
AllFlatSafe W n end_of-Stmt = Unit {1}
AllFlatSafe W n (more_of-Stmt s rest) = FlatSafe W n s × AllFlatSafe W n rest

one_safe : (W : World) (n : ℕ) (s : Stmt) (E : Exits) (act : Act) (h : Heaplet) → SafeAll W n (s ∷ []) E act h → Safe W Part n (Run s [] act) h E
one_safe W n s E act h p = conseq W Part n (Run s [] act) h (with_normal (λ a g. E (Normal a) g) E) E (same_exits E) p

-- from the exits of a sequence's first statement, under the frame of the rest
seq_on : (W : World) (n : ℕ) (r : Stmt) (ss : List Stmt) (E : Exits)
    → ((act : Act) (h : Heaplet) → SafeAll W n ss E act h → Safe W Part n (Run r [] act) h E)
    → (x : Exit) (g : Heaplet) → with_normal (SafeAll W n ss E) E x g → Safe W Part n (resume (Kseq r ∷ []) x) g E
seq_on W n r ss E f (Normal act) g p =
    quiet W Part n (Run Skip (Kseq r ∷ []) act) (Run r [] act) g E refl (record { steps = λ m. refl; reads = λ m. refl; writes = λ m. refl }) (f act g p)
seq_on W n r ss E f (Broke act) g p =
    quiet W Part n (Run Break (Kseq r ∷ []) act) (Run Break [] act) g E refl (record { steps = λ m. refl; reads = λ m. refl; writes = λ m. refl }) (broke W n act g E p)
seq_on W n r ss E f (Continued act) g p =
    quiet W Part n (Run Continue (Kseq r ∷ []) act) (Run Continue [] act) g E refl (record { steps = λ m. refl; reads = λ m. refl; writes = λ m. refl }) (continued W n act g E p)
seq_on W n r ss E f (Returned v) g p = returned W Part n v g E p

seq_first : (W : World) (n : ℕ) (s r : Stmt) (ss : List Stmt) (E : Exits) (act : Act) (h : Heaplet)
    → FlatSafe W n s
    → ((act : Act) (h : Heaplet) → SafeAll W n ss E act h → Safe W Part n (Run r [] act) h E)
    → SafeAll W n (flat s ++ ss) E act h → Safe W Part n (Run s (Kseq r ∷ []) act) h E
seq_first W n s r ss E act h f g p =
    bind W Part Part n (Run s [] act) h (with_normal (SafeAll W n ss E) E) E (Kseq r ∷ []) tt (seq_on W n r ss E g)
    (f (with_normal (SafeAll W n ss E) E) act h (append_safe W n (flat s) ss E act h p))

seq_safe : (W : World) (n : ℕ) (shape : List (Unit {0})) (row : Row_of-Stmt (arity (the_former (this {0})) shape)) → AllFlatSafe W n row → FlatSafe W n (Seq' shape row)
seq_safe W n [] end_of-Stmt f E act h p =
    quiet W Part n (Run (Seq' [] end_of-Stmt) [] act) (Run Skip [] act) h E refl (record { steps = λ m. refl; reads = λ m. refl; writes = λ m. refl }) (done W n act h E p)
seq_safe W n (u ∷ shape) (more_of-Stmt s rest) f E act h p =
    quiet W Part n (Run (Seq' (u ∷ shape) (more_of-Stmt s rest)) [] act) (Run s (Kseq (Seq' shape rest) ∷ []) act) h E refl (record { steps = λ m. refl; reads = λ m. refl; writes = λ m. refl })
    (seq_first W n s (Seq' shape rest) (flats rest) E act h f.0 (seq_safe W n shape rest f.1 E) p)

mutual
  pub flat_safe : (W : World) (n : ℕ) (s : Stmt) → FlatSafe W n s
  flat_safe W n Skip E act h p = done W n act h E p
  flat_safe W n (Set x e) E act h p = one_safe W n (Set x e) E act h p
  flat_safe W n (Assign q e) E act h p = one_safe W n (Assign q e) E act h p
  flat_safe W n (Call to f es) E act h p = one_safe W n (Call to f es) E act h p
  flat_safe W n (Seq' shape all) E act h p = seq_safe W n shape all (all_flat_safe W n all) E act h p
  flat_safe W n (If' e i a j b) E act h p = one_safe W n (If' e i a j b) E act h p
  flat_safe W n (Loop' i a j b) E act h p = one_safe W n (Loop' i a j b) E act h p
  flat_safe W n Break E act h p = one_safe W n Break E act h p
  flat_safe W n Continue E act h p = one_safe W n Continue E act h p
  flat_safe W n (Return e) E act h p = one_safe W n (Return e) E act h p
  flat_safe W n (Switch' e shape cases) E act h p = one_safe W n (Switch' e shape cases) E act h p

  all_flat_safe : {c : _} → (W : World) (n : ℕ) (row : Row_of-Stmt c) → AllFlatSafe W n row
  all_flat_safe W n end_of-Stmt = tt
  all_flat_safe W n (more_of-Stmt s rest) = (flat_safe W n s, all_flat_safe W n rest)
