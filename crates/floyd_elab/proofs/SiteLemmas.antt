-- Types as declarations name them, with the tags of the file.
use Rattle.std.proofs.Common.{◌≡◌, Bool, true, false, Result, Ok, Err, ap, subst, ◌∙◌}
use Rattle.floyd_text.specs.declared.refusal.Halt.{Halt}
use Rattle.floyd_text.specs.declared.refusal.Refusal.{Refusal}
use Rattle.floyd_ctypes.specs.declared.ctype.CType.{CType}
use Rattle.floyd_cparse_trees.specs.declared.types.Base.{Base}
use Rattle.floyd_cparse_trees.specs.declared.types.Declarator.{Declarator}
use Rattle.floyd_elab_names.specs.declared.tags.Tags.{Tags}
use Rattle.floyd_elab_names.specs.Refusing.{GivesWith, unless}
use Rattle.floyd_elab_names.specs.Refusals.{Site, left_out}
use Rattle.floyd_elab_names.specs.Scopes.{Scopes}
use Rattle.floyd_elab_names.specs.Types.{is_object_within}
use Rattle.floyd_elab_names.specs.Declarators.{limit_site, base_type, declarator_type}
use Rattle.floyd_elab_statements.specs.Locals.{nowhere}
use Rattle.floyd_elab.specs.declared.file.File.{File}
use Rattle.floyd_elab.specs.Files.{top}
use Rattle.floyd_elab.specs.UnitClauses.{declare_base, any_type, unless_large}
use Rattle.floyd_elab.proofs.FollowLemmas.{typing_gives}

abbrev Typed : Result CType Halt → Tags → Result (CType × Tags) Refusal → Type 0
Typed answer tags r = GivesWith (λ t. t) answer tags r

module _ (file : File) (scopes : Scopes) (site : Site) (answer : Result CType Halt) (tags : Tags) (names : scopes ≡ top file) (at : site ≡ nowhere) where
  pub base_at : (base : Base) → GivesWith (λ t. t) answer tags (base_type scopes site base file.tags) → GivesWith (λ t. t) answer (record file { tags = tags }) (declare_base base file)
  base_at base given =
      typing_gives file answer tags (base_type (top file) nowhere base file.tags)
      (subst (Typed answer tags)
      (ap (λ (s : Scopes). base_type s site base file.tags) names ∙ ap (λ (n : Site). base_type (top file) n base file.tags) at)
      given)

  pub type_at : (base wanted : CType) (d : Declarator) → base ≡ wanted → GivesWith (λ t. t) answer tags (declarator_type scopes site base d file.tags)
      → GivesWith (λ t. t) answer (record file { tags = tags }) (any_type wanted d file)
  type_at base wanted d is given =
      typing_gives file answer tags (declarator_type (top file) nowhere wanted d file.tags)
      (subst (Typed answer tags)
      (ap (λ (s : Scopes). declarator_type s site base d file.tags) names
      ∙ ap (λ (n : Site). declarator_type (top file) n base d file.tags) at
      ∙ ap (λ (b : CType). declarator_type (top file) nowhere b d file.tags) is)
      given)

module _ (d : Declarator) (t : CType) (file : File) where
  pub is_small : is_object_within file.tags.structs t ≡ true → unless_large d t file ≡ Ok (tt, file)
  is_small e = ap (λ (b : Bool). unless (left_out (limit_site nowhere d)) b file) e

  pub is_large : is_object_within file.tags.structs t ≡ false → unless_large d t file ≡ Err (left_out (limit_site nowhere d))
  is_large e = ap (λ (b : Bool). unless (left_out (limit_site nowhere d)) b file) e
