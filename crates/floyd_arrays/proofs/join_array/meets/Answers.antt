use Rattle.std.proofs.Common.{◌≡◌, ◌↔◌, Bool, IsTrue, false}
use Rattle.floyd_arrays.specs.Arrays.{piece}
use Rattle.floyd_arrays.specs.JoinArray.{Meets}
use Rattle.floyd_arrays.specs.JoinArrayClauses.{HasRefused}
use Rattle.floyd_arrays.proofs.ArrayLemmas.{if_ok}
use Rattle.floyd_arrays.proofs.JoinLemmas.{meets_none, meets_there}
use Rattle.floyd_arrays.proofs.join_array.meets.Goals as goal

pub returns-in-Ok : goal.returns-in-Ok
returns-in-Ok g c =
    let structs = c.args.structs.now in
    let a = c.args.a.now in
    let b = c.args.b.now in
    let q = c.args.second.now in
    if_ok c.is_piece.result (λ (so : Bool). IsTrue so ↔ (piece a b.count c.in-Ok.root b.value ≡ q)) (λ (so : Bool). IsTrue so ↔ Meets structs a b q)
    (λ so h. meets_there structs a b q c.in-Ok.root so c.in-Ok.ensures.exact h) c.is_piece.ensures

pub returns-in-Err : goal.returns-in-Err
returns-in-Err g c =
    let structs = c.args.structs.now in
    let a = c.args.a.now in
    let b = c.args.b.now in
    let q = c.args.second.now in
    if_ok c.refused.result (λ (so : Bool). (so ≡ false) × HasRefused c.in-Err.stop) (λ (so : Bool). IsTrue so ↔ Meets structs a b q)
    (λ so h. meets_none structs a b q c.in-Err.stop so c.in-Err.ensures.exact h) c.refused.ensures
