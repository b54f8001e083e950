-- Variables that are only declared, the last one first.
use Rattle.std.proofs.Common.{◌≡◌, Bool, true, false, cond, not, List, [], ◌∷◌, ◌++◌, append_assoc, reverse, refl, ap, sym, ◌∙◌}
use Rattle.std.proofs.lemmas.List.{append-nil, reverse-append}
use Rattle.std.proofs.lemmas.List.Elements.{filter-append}
use Rattle.floyd_clight.specs.declared.unit.ClightUnit.{ClightUnit}
use Rattle.floyd_clight.specs.declared.unit.Declared.{Declared}
use Rattle.floyd_clight.specs.declared.unit.Defined.{Defined}
use Rattle.floyd_clight.specs.declared.unit.StructDef.{StructDef}
use Rattle.floyd_clight.specs.declared.unit.Variable.{Variable}
use Rattle.floyd_elab.specs.declared.file.File.{File}
use Rattle.floyd_elab.specs.Units.{unit_of}
use Rattle.floyd_elab.specs.TableClauses.{is_variable}
use Rattle.floyd_elab.specs.UnitClauses.{not_among}

last_first : (vs : List Variable) (v : Variable) → reverse (vs ++ v ∷ []) ≡ v ∷ reverse vs
last_first vs v = reverse-append vs (v ∷ [])

module _ (defined all front : List Variable) (v : Variable) (is : all ≡ front ++ v ∷ []) where
  at_last : (b : Bool) → is_variable v.name defined ≡ b → not_among defined all ≡ not_among defined front ++ cond (not b) (v ∷ []) []
  at_last b e =
      ap (not_among defined) is
      ∙ filter-append (λ (w : Variable). not (is_variable w.name defined)) front (v ∷ [])
      ∙ ap (λ b. not_among defined front ++ cond (not b) (v ∷ []) []) e

  pub kept_next : (only now whole : List Variable) → is_variable v.name defined ≡ false → now ≡ only ++ v ∷ [] → not_among defined all ++ reverse only ≡ whole → not_among defined front ++ reverse now ≡ whole
  kept_next only now whole new put held =
      ap (λ (vs : List Variable). not_among defined front ++ vs) (ap reverse put ∙ last_first only v)
      ∙ sym (append_assoc (not_among defined front) (v ∷ []) (reverse only))
      ∙ sym (ap (λ (vs : List Variable). vs ++ reverse only) (at_last false new))
      ∙ held

  pub skipped_next : (only whole : List Variable) → is_variable v.name defined ≡ true → not_among defined all ++ reverse only ≡ whole → not_among defined front ++ reverse only ≡ whole
  skipped_next only whole there held =
      sym (ap (λ (vs : List Variable). vs ++ reverse only) (at_last true there ∙ append-nil (not_among defined front))) ∙ held

  pub next_kept : (only now whole : List Variable) → now ≡ only ++ not_among defined (v ∷ []) → not_among defined all ++ reverse only ≡ whole → not_among defined front ++ reverse now ≡ whole
  next_kept only now whole put held = by (is_variable v.name defined) refl
    where
      by : (b : Bool) → is_variable v.name defined ≡ b → not_among defined front ++ reverse now ≡ whole
      by true e =
          ap (λ (vs : List Variable). not_among defined front ++ reverse vs) (put ∙ ap (λ b. only ++ cond (not b) (v ∷ []) []) e ∙ append-nil only)
          ∙ skipped_next only whole e held
      by false e = kept_next only now whole e (put ∙ ap (λ b. only ++ cond (not b) (v ∷ []) []) e) held

pub none_left : (defined all only whole : List Variable) → all ≡ [] → not_among defined all ++ reverse only ≡ whole → reverse only ≡ whole
none_left defined all only whole gone held = sym (ap (λ (vs : List Variable). not_among defined vs ++ reverse only) gone) ∙ held

pub back_next : (vs now more front whole : List Variable) (v : Variable) → more ≡ front ++ v ∷ [] → now ≡ vs ++ v ∷ [] → vs ++ reverse more ≡ whole → now ++ reverse front ≡ whole
back_next vs now more front whole v is put held =
    ap (λ (ws : List Variable). ws ++ reverse front) put
    ∙ append_assoc vs (v ∷ []) (reverse front)
    ∙ sym (ap (λ (ws : List Variable). vs ++ ws) (ap reverse is ∙ last_first front v))
    ∙ held

pub back_end : (vs more whole : List Variable) → more ≡ [] → vs ++ reverse more ≡ whole → vs ≡ whole
back_end vs more whole gone held = sym (append-nil vs) ∙ sym (ap (λ (ws : List Variable). vs ++ reverse ws) gone) ∙ held

abbrev pub the_unit : List StructDef → List Variable → List Declared → List Defined → ClightUnit
the_unit structs variables declared defined = record { structs = structs; variables = variables; declared = declared; defined = defined }

pub variables_are : (defined mentioned variables only items : List Variable) → items ≡ defined → reverse only ≡ not_among defined mentioned → variables ≡ items ++ reverse only
    → variables ≡ defined ++ not_among defined mentioned
variables_are defined mentioned variables only items first rest put =
    put ∙ ap (λ (vs : List Variable). vs ++ reverse only) first ∙ ap (λ (vs : List Variable). defined ++ vs) rest

-- what a file stands for, part by part
pub unit_with_is : (file : File) (structs : List StructDef) (variables : List Variable) (bodies : List Defined)
    → variables ≡ file.defined ++ not_among file.defined file.mentioned → bodies ≡ file.bodies
    → the_unit structs variables file.functions bodies ≡ record (unit_of file) { structs = structs }
unit_with_is file structs variables bodies all defined =
    ap (λ (vs : List Variable). the_unit structs vs file.functions bodies) all
    ∙ ap (λ (bs : List Defined). the_unit structs (unit_of file).variables file.functions bs) defined
