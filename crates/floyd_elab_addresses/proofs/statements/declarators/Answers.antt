use Rattle.std.proofs.Common.{◌≡◌, ◌+◌, ◌-◌, ◌<◌, arith, length, drop, ◌++◌, ap, sym, ◌∙◌}
use Rattle.std.proofs.Math.Seq.{drop-length}
use Rattle.floyd_elab_addresses.specs.Addresses.{in_declarators}
use Rattle.floyd_elab_addresses.specs.Flags.{declarator_flags}
use Rattle.floyd_elab_addresses.specs.SetClauses.{is_among}
use Rattle.floyd_elab_addresses.proofs.StatementParts.{in_next_declarator, flags_next_declarator}
use Rattle.floyd_elab_addresses.proofs.statements.declarators.Goals as goal

pub declarators-init : goal.declarators-init
declarators-init c =
    let all = c.args.all.now in
    let old = c.args.taken.now in
    record {
      taken = λ x. sym (ap (λ ds. in_declarators x ds (is_among old x)) (drop-length all));
      flags = sym (ap (λ ds. declarator_flags ds (is_among old) ++ c.args.flags.now) (drop-length all));
    }

pub declarators-preserved : goal.declarators-preserved
declarators-preserved c =
    let all = c.args.all.now in
    let old = c.args.taken.now in
    let k = c.declarators.i in
    let j = k - 1 in
    let one = c.index-all-i.result in
    let step : j + 1 ≡ k = omega arith in
    let within : j < length all = omega arith in
    record {
      taken = λ x.
          in_next_declarator all k j one step within c.index-all-i.is x (is_among c.declarators.taken x) (is_among c.declarator.new.taken x) (is_among old x)
          (c.in_ok-declarator.ensures.taken x) (c.declarators.invariant.taken x);
      flags =
          flags_next_declarator all k j one step within c.index-all-i.is (is_among old) (is_among c.declarators.taken) c.declarator.new.flags c.declarators.flags c.args.flags.now
          c.declarators.invariant.taken c.in_ok-declarator.ensures.flags c.declarators.invariant.flags;
    }

pub returns : goal.returns
returns c =
    let all = c.args.all.now in
    let old = c.args.taken.now in
    let none : c.declarators.i ≡ 0 = omega arith in
    record {
      taken = λ x. c.declarators.invariant.taken x ∙ ap (λ n. in_declarators x (drop n all) (is_among old x)) none;
      flags = c.declarators.invariant.flags ∙ ap (λ n. declarator_flags (drop n all) (is_among old) ++ c.args.flags.now) none;
    }
