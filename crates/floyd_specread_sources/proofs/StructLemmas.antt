-- Structs that are declared, one after the other.
use Rattle.std.proofs.Common.{◌≡◌, ℕ, Bool, true, false, cond, if◌then◌else◌, List, [], ◌∷◌, ◌++◌, Option, Some, None, is_some, bytes_eq, refl, subst, sym, ap}
use Rattle.std.specs.Map.{lookup}
use Rattle.std.proofs.lemmas.Slice.Eq.{bytes_eq-Decides}
use Rattle.floyd_ctypes.specs.declared.field.Field.{Field}
use Rattle.floyd_clight.specs.declared.unit.StructDef.{StructDef}
use Rattle.floyd_ctypes.specs.Define.{declared}
use Rattle.floyd_ctypes.specs.Structs.{Structs, has_tag}
use Rattle.floyd_specread_sources.specs.Sources.{StructLies, StructsLie, with_struct}

there_last : (tag : List ℕ) (ss : Structs) → has_tag (ss ++ (tag, None) ∷ []) tag ≡ true
there_last tag [] =
    let none : Option (List Field) = None in
    ap (λ b. is_some (cond b (Some none) None)) ((bytes_eq-Decides tag tag).1 refl)
there_last tag (s ∷ ss) = by (bytes_eq tag s.0) (there_last tag ss)
  where
    by : (b : Bool) → has_tag (ss ++ (tag, None) ∷ []) tag ≡ true → is_some (cond b (Some s.1) (lookup (bytes_eq tag) (ss ++ (tag, None) ∷ []))) ≡ true
    by true e = refl
    by false e = e

declared_there : (tag : List ℕ) (ss : Structs) → has_tag (declared ss tag) tag ≡ true
declared_there tag ss = by (has_tag ss tag) refl
  where
    by : (b : Bool) → has_tag ss tag ≡ b → has_tag (if b then ss else ss ++ (tag, None) ∷ []) tag ≡ true
    by true e = e
    by false e = there_last tag ss

pub declared_is_there : (old new : Structs) (tag : List ℕ) → new ≡ declared old tag → has_tag new tag ≡ true
declared_is_there old new tag e = subst (λ (ss : Structs). has_tag ss tag ≡ true) (sym e) (declared_there tag old)

pub first_lies : (rest more : List StructDef) (d : StructDef) (structs : Structs) → rest ≡ d ∷ more → StructsLie rest structs → StructLies structs d
first_lies rest more d structs e lies = (subst (λ (ds : List StructDef). StructsLie ds structs) e lies).0

pub others_lie : (rest more : List StructDef) (d : StructDef) (structs new : Structs) → rest ≡ d ∷ more → new ≡ with_struct d structs → StructsLie rest structs → StructsLie more new
others_lie rest more d structs new e made lies =
    subst (λ (ss : Structs). StructsLie more ss) (sym made) (subst (λ (ds : List StructDef). StructsLie ds structs) e lies).1
