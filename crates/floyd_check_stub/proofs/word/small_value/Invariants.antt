use Rattle.std.proofs.Common.{◌≡◌, ◌≤◌, take}
use Rattle.std.specs.Str.Parse.{digits_value}
use Rattle.floyd_check_stub.proofs.word.small_value.Given as goal

abbrev pub invariant-digits : goal.invariant-digits
invariant-digits l = record {
  int : l.value ≤ 2147483647;
  so_far : l.value ≡ digits_value 10 (take l.b-index l.digits);
}
