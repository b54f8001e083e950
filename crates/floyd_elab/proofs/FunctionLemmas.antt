-- A function with a body, in the parts that the program has.
use Rattle.std.proofs.Common.{◌≡◌, ◌&&◌, not, Bool, Result, Ok, Err, ap, sym, subst, ◌∙◌}
use Rattle.floyd_text.specs.declared.refusal.Halt.{Halt}
use Rattle.floyd_text.specs.declared.refusal.Halt.TheVariants.{Refused, Memory}
use Rattle.floyd_text.specs.declared.refusal.Refusal.{Refusal}
use Rattle.floyd_text.specs.Gives.{Stops}
use Rattle.floyd_ctypes.specs.declared.ctype.CType.{CType}
use Rattle.floyd_cparse_trees.specs.declared.declarations.FunctionDefinition.{FunctionDefinition}
use Rattle.floyd_cparse_trees.specs.declared.types.Identifier.{Identifier}
use Rattle.floyd_cparse_trees.specs.declared.statements.CStatement as c
use Rattle.floyd_elab_names.specs.declared.meaning.Meaning.TheVariants as m
use Rattle.floyd_elab_names.specs.Refusing.{Refusing, and_then, ◌>>=◌, ◌>>◌, modify}
use Rattle.floyd_elab_names.specs.Types.{returns_well}
use Rattle.floyd_elab.specs.declared.file.File.{File}
use Rattle.floyd_elab.specs.Files.{Filing, may_declare, has_body, mention_function}
use Rattle.floyd_elab.specs.Units.{declarator_name, judge_name, own_parameters, have_all_names, parameters_of, result_of, declare_type, define_body, function_with_body}
use Rattle.floyd_elab.specs.UnitClauses.{declare_base, type_of_heading}
use Rattle.floyd_elab.proofs.DeclareLemmas.{judge_stops, judge_is}

-- what is followed by what another thing is made of
module _ {S A B C : Type 0} (k : A → Refusing S B) (rest : B → Refusing S C) where
  in_two : (r : Result (A × S) Refusal) (b : B) (s : S) → and_then r k ≡ Ok (b, s) → and_then r (λ a. k a >>= rest) ≡ rest b s
  in_two (Ok r) b s e = ap (λ (q : Result (B × S) Refusal). and_then q rest) e
  in_two (Err refusal) b s e = cc

  in_two_stops : (r : Result (A × S) Refusal) (halt : Halt) → Stops halt (and_then r k) → Stops halt (and_then r (λ a. k a >>= rest))
  in_two_stops r Memory e = tt
  in_two_stops (Ok r) (Refused refusal) e = ap (λ (q : Result (B × S) Refusal). and_then q rest) e
  in_two_stops (Err other) (Refused refusal) e = let same : other ≡ refusal = cc in ap (λ (x : Refusal). Err x) same

module _ (f : FunctionDefinition) where
  -- what comes behind the type
  abbrev behind_name : CType → Identifier → Filing (Unit {0})
  behind_name t i = modify (mention_function i t) >> define_body i (result_of t) (parameters_of f.declarator t) (c.Block f.body)

  abbrev fits : CType → File → Bool
  fits t s = have_all_names (own_parameters f.declarator) && returns_well t

  abbrev free : CType → Identifier → File → Bool
  free t i s = may_declare s i.name (m.Function t) && not (has_body s i.name)

  abbrev behind_type : CType → Filing (Unit {0})
  behind_type t = judge_name (declarator_name f.declarator) (fits t) (free t (declarator_name f.declarator)) >> behind_name t (declarator_name f.declarator)

  pub heading_stops : (file : File) (halt : Halt) → Stops halt (type_of_heading f file) → Stops halt (function_with_body f file)
  heading_stops file halt e = in_two_stops (λ base. declare_type base f.declarator) behind_type (declare_base f.specifiers.base file) halt e

  after_heading : (file now : File) (t : CType) → type_of_heading f file ≡ Ok (t, now) → function_with_body f file ≡ behind_type t now
  after_heading file now t e = in_two (λ base. declare_type base f.declarator) behind_type (declare_base f.specifiers.base file) t now e

  -- with a name that was found before
  module _ (i : Identifier) (is : i ≡ declarator_name f.declarator) (file now : File) (t : CType) (typed : type_of_heading f file ≡ Ok (t, now)) (a b : Bool) (fit : a ≡ fits t now) (new : b ≡ free t i now) where
    here : function_with_body f file ≡ and_then (judge_name i (fits t) (free t i) now) (λ _. behind_name t i)
    here =
        after_heading file now t typed
        ∙ ap (λ (j : Identifier). and_then (judge_name j (fits t) (free t j) now) (λ _. behind_name t j)) (sym is)

    pub heading_judged : (halt : Halt) → Stops halt (judge_name i (λ s. a) (λ s. b) now) → Stops halt (function_with_body f file)
    heading_judged halt e =
        subst (λ (r : Result (Unit {0} × File) Refusal). Stops halt r) (sym here) (judge_stops i (fits t) (free t i) (behind_name t i) now a b fit new halt e)

    pub defined_as : (last : File) → judge_name i (λ s. a) (λ s. b) now ≡ Ok (tt, now) → last ≡ mention_function i t now
        → function_with_body f file ≡ define_body i (result_of t) (parameters_of f.declarator t) (c.Block f.body) last
    defined_as last e m =
        here
        ∙ judge_is i (fits t) (free t i) (behind_name t i) now a b fit new e
        ∙ ap (λ (s : File). define_body i (result_of t) (parameters_of f.declarator t) (c.Block f.body) s) (sym m)
