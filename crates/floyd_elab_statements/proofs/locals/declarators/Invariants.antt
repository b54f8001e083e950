use Rattle.std.proofs.Common.{◌≡◌, ℕ, Bool, List, ◌++◌, drop}
use Rattle.floyd_elab_names.specs.Scopes.{leave}
use Rattle.floyd_elab_addresses.specs.Flags.{declarator_flags}
use Rattle.floyd_elab_statements.specs.Locals.{declarators}
use Rattle.floyd_elab_statements.specs.LocalClauses.{beginning}
use Rattle.floyd_elab_statements.proofs.locals.declarators.Given as goal

abbrev pub invariant-declarators : goal.invariant-declarators
invariant-declarators l = record {
  left : leave l.names ≡ leave l.initial.names;
  flags : (rest : List ℕ → Bool) (more : List Bool) → l.initial.flags ≡ declarator_flags l.parts.all.now rest ++ more → l.flags ≡ declarator_flags (drop l.declarator-index l.parts.all.now) rest ++ more;
  exact : (rest : List ℕ → Bool) (more : List Bool) → l.initial.flags ≡ declarator_flags l.parts.all.now rest ++ more
      → beginning l.initial.out (declarators l.initial.names l.parts.base.now l.parts.all.now rest l.initial.progress) ≡ beginning l.out (declarators l.names l.parts.base.now (drop l.declarator-index l.parts.all.now) rest l.progress);
}
