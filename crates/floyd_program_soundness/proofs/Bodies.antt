-- What a function and its specification have so that its start goal gives what its body does.
use Rattle.std.proofs.Common.{◌≡◌, suc, List, [], ◌∷◌, ◌++◌, map, length, refl, sym, ap, subst, ◌∙◌}
use Rattle.std.proofs.lemmas.List.{length-map, map-append}
use Rattle.floyd_ctypes.specs.declared.ctype.CType.{CType}
use Rattle.floyd_clight.specs.declared.unit.Defined.{Defined}
use Rattle.floyd_clight.specs.declared.unit.Local.{Local}
use Rattle.floyd_clight_typing.specs.Bodies.{local_names}
use Rattle.floyd_tree_sorts.specs.declared.sorts.Sort.{Sort, Val}
use Rattle.floyd_tree.specs.Plain.{Plain}
use Rattle.floyd_tree.specs.Types.{SizedType}
use Rattle.floyd_tree_values.specs.Rules.{AreDistinct, Scope}
use Rattle.floyd_assert_trees.specs.declared.items.Defs.{Defs}
use Rattle.floyd_assert_trees.specs.declared.spec.Funspec.{Funspec}
use Rattle.floyd_assert_trees.specs.declared.spec.SpecTable.{SpecTable}
use Rattle.floyd_goal_forms.specs.Items.{FunspecFits}
use Rattle.floyd_goal_forms.specs.Terms.{TermsFit, scope_with}
use Rattle.floyd_goal_meaning.specs.declared.linked.Linked.{Linked}
use Rattle.floyd_goal_meaning.specs.declared.linked.LinkedFunction.{LinkedFunction}
use Rattle.floyd_goal_meaning.specs.Links.{IsOfFunction, TypesAre}
use Rattle.floyd_links.specs.Links.{IsBodyOf}
use Rattle.floyd_start_laws.specs.Laws.{Enters}
use Rattle.floyd_start_laws.proofs.Entering.{distinct_back, distinct_front}

pub types_count : (ts : List SizedType) (cs : List CType) → TypesAre ts cs → length ts ≡ length cs
types_count [] [] h = refl
types_count [] (c ∷ cs) h = absurd h
types_count (t ∷ ts) [] h = absurd h
types_count (t ∷ ts) (c ∷ cs) h = ap (λ n. suc n) (types_count ts cs h.1)

pub terms_count : (defs : Defs) (scope : Scope) (sorts : List Sort) (ts : List Plain) → TermsFit defs scope sorts ts → length ts ≡ length sorts
terms_count defs scope [] [] h = refl
terms_count defs scope [] (t ∷ ts) h = absurd h
terms_count defs scope (s ∷ sorts) [] h = absurd h
terms_count defs scope (s ∷ sorts) (t ∷ ts) h = ap (λ n. suc n) (terms_count defs scope sorts ts h.1)

pub enters : (L : Linked) (defs : Defs) (specs : SpecTable) (g : LinkedFunction) (d : Defined) (spec : Funspec) → IsBodyOf L g d → FunspecFits defs specs spec → IsOfFunction spec g → Enters L.structs spec d
enters L defs specs g d spec body fit types =
    let all = body.body.distinct in
    let names : local_names (d.parameters ++ d.temporaries) ≡ local_names d.parameters ++ local_names d.temporaries = map-append (λ (b : Local). b.name) d.parameters d.temporaries in
    let front = distinct_front (local_names (d.parameters ++ d.temporaries)) (local_names d.blocks) all in
    record {
      withs = fit.with;
      no_local = fit.no_local;
      parameters = distinct_front (local_names d.parameters) (local_names d.temporaries) (subst AreDistinct names front);
      blocks = distinct_back (local_names (d.parameters ++ d.temporaries)) (local_names d.blocks) all;
      sized = body.body.sized;
      count =
          sym (length-map d.parameters (λ (p : Local). p.ctype)) ∙ ap length body.parameters ∙ sym (types_count spec.params g.parameters types.params)
          ∙ sym (terms_count defs (scope_with spec.with) (map (λ t. Val) spec.params) spec.pre.params fit.pre.terms ∙ length-map spec.params (λ t. Val));
    }
