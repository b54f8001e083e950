use Rattle.std.proofs.Common.{rules, ◌≡◌, ◌++◌, IfOk, ap, subst, ◌∙◌}
use Rattle.floyd_assert_changes.specs.Apart.{apart}
use Rattle.floyd_assert_changes.specs.Changed.{has_name}
use Rattle.floyd_import_starts.specs.StartClauses.{own_post}
use Rattle.floyd_import_starts.proofs.posts.own_post.Goals as goal

pub returns : goal.returns
returns g c =
    let import = c.args.import.now in
    let variables : c.as_slice-3.result.now ≡ import.with ++ import.post.existentials = search rules in
    let is : apart (λ x. has_name x c.as_slice-3.result.now) c.in_ok-whole.whole ≡ own_post import c.args.own.now =
    ap (λ vs. apart (λ x. has_name x vs) c.in_ok-whole.whole) variables
    ∙ ap (apart (λ x. has_name x (import.with ++ import.post.existentials))) c.in_ok-whole.ensures in
    subst (λ b. IfOk c.apart_of.result (λ a. a ≡ b)) is c.apart_of.ensures
