use Rattle.std.proofs.Common.{Ok, Result, ap}
use Rattle.std.proofs.lemmas.Result.{err_from_is_err_and}
use Rattle.floyd_text.specs.declared.refusal.No.{No}
use Rattle.floyd_shares.proofs.ChainLemmas.{after_goes, after_stops}
use Rattle.floyd_arrays_structs.specs.declared.objects.Found.{Found}
use Rattle.floyd_arrays_structs.specs.JoinStruct.{IsValue}
use Rattle.floyd_arrays_structs.specs.JoinStructClauses.{AddsValue}
use Rattle.floyd_arrays_structs.proofs.objects.adds.Goals as goal

pub returns-in_err-value : goal.returns-in_err-value
returns-in_err-value c =
    let e = err_from_is_err_and c.from_residual.result c.from_residual.ensures.1 in
    record { exact = rw (e.1, e.2) (after_stops (IsValue c.args.place c.args.parts.now) (AddsValue c.args.found c.args.place) c.in_err-value.field-0.0 c.in_err-value.ensures.exact) }

pub returns : goal.returns
returns c = record {
  exact = after_goes (IsValue c.args.place c.args.parts.now) c.in_ok-value.value (AddsValue c.args.found c.args.place) (Ok c.in_ok-with_last.field-0) c.in_ok-value.ensures.exact
      (ap (λ (f : Found). let done : Result Found No = Ok f in done) c.in_ok-with_last.ensures);
}
