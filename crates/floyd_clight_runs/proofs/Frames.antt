-- Ways out above further frames.
use Rattle.std.proofs.Common.{◌≡◌, [], ◌∷◌, None, refl}
use Rattle.floyd_clight.specs.declared.syntax.Stmt.{Skip, Set, Assign, Call, Seq', If', Loop', Break, Continue, Return, Switch'}
use Rattle.floyd_clight_machine.specs.Machine.{Config, Run, Calling, Returning, Kseq, Kloop1, Kloop2, Kswitch, Kcall, Kont}
use Rattle.floyd_clight_machine.specs.Exits.{Level, Part, Whole, exit_of, Suits, under}

-- frames that a part of a function, or a call in a caller, stands above
abbrev pub SuitsPart : Level → Kont → Type 0
SuitsPart Part r = Unit {0}
SuitsPart Whole [] = ⊥
SuitsPart Whole (Kseq s ∷ k) = ⊥
SuitsPart Whole (Kloop1 a b ∷ k) = ⊥
SuitsPart Whole (Kloop2 a b ∷ k) = ⊥
SuitsPart Whole (Kswitch ∷ k) = ⊥
SuitsPart Whole (Kcall to act ∷ k) = Unit {0}

pub suits : (l : Level) (r : Kont) → SuitsPart l r → Suits l r
suits Part r u = tt
suits Whole [] u = tt
suits Whole (Kseq s ∷ k) u = u
suits Whole (Kloop1 a b ∷ k) u = u
suits Whole (Kloop2 a b ∷ k) u = u
suits Whole (Kswitch ∷ k) u = u
suits Whole (Kcall to act ∷ k) u = tt

-- what stands at no way out stands at none above further frames
pub no_exit_under : (l j : Level) (c : Config) (r : Kont) → SuitsPart l r → exit_of l c ≡ None → exit_of j (under r c) ≡ None
no_exit_under Part j (Run Skip [] act) r u e = cc
no_exit_under Part Part (Run (Set y d) [] act) [] u e = refl
no_exit_under Part Whole (Run (Set y d) [] act) [] u e = refl
no_exit_under Part j (Run (Set y d) [] act) (g ∷ r) u e = refl
no_exit_under Part Part (Run (Assign p d) [] act) [] u e = refl
no_exit_under Part Whole (Run (Assign p d) [] act) [] u e = refl
no_exit_under Part j (Run (Assign p d) [] act) (g ∷ r) u e = refl
no_exit_under Part Part (Run (Call to f ds) [] act) [] u e = refl
no_exit_under Part Whole (Run (Call to f ds) [] act) [] u e = refl
no_exit_under Part j (Run (Call to f ds) [] act) (g ∷ r) u e = refl
no_exit_under Part Part (Run (Seq' shape all) [] act) [] u e = refl
no_exit_under Part Whole (Run (Seq' shape all) [] act) [] u e = refl
no_exit_under Part j (Run (Seq' shape all) [] act) (g ∷ r) u e = refl
no_exit_under Part Part (Run (If' d p a q b) [] act) [] u e = refl
no_exit_under Part Whole (Run (If' d p a q b) [] act) [] u e = refl
no_exit_under Part j (Run (If' d p a q b) [] act) (g ∷ r) u e = refl
no_exit_under Part Part (Run (Loop' p a q b) [] act) [] u e = refl
no_exit_under Part Whole (Run (Loop' p a q b) [] act) [] u e = refl
no_exit_under Part j (Run (Loop' p a q b) [] act) (g ∷ r) u e = refl
no_exit_under Part j (Run Break [] act) r u e = cc
no_exit_under Part j (Run Continue [] act) r u e = cc
no_exit_under Part Part (Run (Return d) [] act) [] u e = refl
no_exit_under Part Whole (Run (Return d) [] act) [] u e = refl
no_exit_under Part j (Run (Return d) [] act) (g ∷ r) u e = refl
no_exit_under Part Part (Run (Switch' d shape cases) [] act) [] u e = refl
no_exit_under Part Whole (Run (Switch' d shape cases) [] act) [] u e = refl
no_exit_under Part j (Run (Switch' d shape cases) [] act) (g ∷ r) u e = refl
no_exit_under Whole j (Run s [] act) [] u e = absurd u
no_exit_under Whole j (Run s [] act) (f ∷ r) u e = refl
no_exit_under l j (Run s (f ∷ k) act) r u e = refl
no_exit_under l j (Calling f args k) r u e = refl
no_exit_under l j (Returning v []) r u e = cc
no_exit_under l j (Returning v (f ∷ k)) r u e = refl
