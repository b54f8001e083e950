use Rattle.std.proofs.Common.{Some, ap, ◌∙◌}
use Rattle.floyd_tree_sorts.specs.declared.sorts.Sort.{Sort}
use Rattle.floyd_termread_scope.specs.Scopes.{sort_of}
use Rattle.floyd_termread_forms.proofs.FrameLemmas.{sorts_are}
use Rattle.floyd_termread_forms.proofs.frames.bind_named.Goals as goal

pub returns : goal.returns
returns c = record {
  hidden = c.in_ok-hidden.ensures.hidden ∙ ap (sort_of c.args.bound.now) c.in_ok-name.ensures;
  bound = sorts_are _ _ _ _ _ _ c.in_ok-name.ensures (ap (λ (s : Sort). Some s) c.in_ok-sort.ensures) c.in_ok-hidden.ensures.bound;
}
