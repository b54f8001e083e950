use Rattle.std.proofs.Common.{◌+◌, ◌++◌, ◌∷◌, [], drop, ◌∙◌, ap, arith}
use Rattle.floyd_pure_quantifiers.specs.Inject.{equations}
use Rattle.floyd_pure_quantifiers.proofs.Equating.{finished, next_made, one_more}
use Rattle.floyd_pure_quantifiers.proofs.inject.equations.Goals as goal

pub of_two-requires : goal.of_two-requires
of_two-requires g c =
    (next_made c.args.ts.now c.args.us.now c.terms.i c.index-ts-i.result c.index-us-i.result (omega arith) (omega arith) c.index-ts-i.is c.index-us-i.is c.terms.invariant.are_made).0

pub terms-preserved : goal.terms-preserved
terms-preserved g c =
    let ts = c.args.ts.now in
    let us = c.args.us.now in
    let i = c.terms.i in
    let p = next_made ts us i c.index-ts-i.result c.index-us-i.result (omega arith) (omega arith) c.index-ts-i.is c.index-us-i.is c.terms.invariant.are_made in
    record {
      are_made = p.1;
      so_far = one_more _ _ (equations (drop (i + 1) ts) (drop (i + 1) us)) (equations (drop i ts) (drop i us)) (equations ts us) _ c.terms.invariant.so_far p.2 (c.in_ok-push.ensures.ok ∙ ap (λ x. c.terms.all ++ x ∷ []) c.in_ok-equation.ensures);
    }

pub returns : goal.returns
returns g c = finished c.terms.all c.args.ts.now c.args.us.now c.terms.i c.terms.invariant.so_far (omega arith)
