-- The module of a name.
use Rattle.std.proofs.Common.{◌≡◌, ℕ, Bool, true, false, cond, List, ◌∷◌, Some, bytes_eq, ap, sym, ◌∙◌}
use Rattle.floyd_specread_trees.specs.declared.modules.ModuleDefs.{ModuleDefs}
use Rattle.floyd_specread_state.specs.States.{module_named}

pub found : (name : List ℕ) (rest more : List ModuleDefs) (m : ModuleDefs) → rest ≡ m ∷ more → bytes_eq m.name name ≡ true → module_named name rest ≡ Some m
found name rest more m e is = ap (module_named name) e ∙ ap (λ (b : Bool). cond b (Some m) (module_named name more)) is

pub not_here : (name : List ℕ) (rest more : List ModuleDefs) (m : ModuleDefs) → rest ≡ m ∷ more → bytes_eq m.name name ≡ false → module_named name more ≡ module_named name rest
not_here name rest more m e is = sym (ap (module_named name) e ∙ ap (λ (b : Bool). cond b (Some m) (module_named name more)) is)
