use Rattle.std.proofs.Common.{◌≡◌, [], ◌∷◌, sym, ◌∙◌, ap, arith}
use Rattle.floyd_tree.specs.Formulas.{form_of, formulas_of}
use Rattle.floyd_goal_formulas.specs.Known.{known}
use Rattle.floyd_goal_formulas.specs.KnownClauses.{known_of_both}
use Rattle.floyd_goal_formulas.proofs.KnownLemmas.{of_two, two_of, kids_lower}
use Rattle.floyd_goal_formulas.proofs.known.+known.Goals as goal

pub known-requires : goal.known-requires
known-requires t c =
    let ks = c.as_slice.result.now in
    let kids : formulas_of c.args.f.now ≡ c.a-item.result ∷ c.b-item.result ∷ [] = sym (c.as_slice.ensures ∙ c.formula_kids.ensures) ∙ two_of ks c.a-item.result c.b-item.result c.in-len2.len_at_least c.in-len2.len_below c.a-item.is c.b-item.is in
    (omega (arith, c.decreases, (kids_lower c.args.f.now c.a-item.result c.b-item.result kids).0), tt)

pub known-requires-in-len2 : goal.known-requires-in-len2
known-requires-in-len2 t c =
    let ks = c.as_slice.result.now in
    let kids : formulas_of c.args.f.now ≡ c.a-item.result ∷ c.b-item.result ∷ [] = sym (c.as_slice.ensures ∙ c.formula_kids.ensures) ∙ two_of ks c.a-item.result c.b-item.result c.in-len2.len_at_least c.in-len2.len_below c.a-item.is c.b-item.is in
    (omega (arith, c.decreases, (kids_lower c.args.f.now c.a-item.result c.b-item.result kids).1), tt)

pub returns-in-len2 : goal.returns-in-len2
returns-in-len2 t c =
    let f = c.args.f.now in
    let a = c.a-item.result in
    let b = c.b-item.result in
    let kids : formulas_of f ≡ a ∷ b ∷ [] = sym (c.as_slice.ensures ∙ c.formula_kids.ensures) ∙ two_of c.as_slice.result.now a b c.in-len2.len_at_least c.in-len2.len_below c.a-item.is c.b-item.is in
    c.known_of_both.ensures
    ∙ ap (λ h. known_of_both h b c.known.result c.known-in-len2.result) c.formula_head-in-len2.ensures
    ∙ ap (λ p. known_of_both (form_of f) b p c.known-in-len2.result) c.known.ensures
    ∙ ap (λ q. known_of_both (form_of f) b (known a) q) c.known-in-len2.ensures
    ∙ sym (of_two f a b kids)
