use Rattle.std.proofs.Common.{◌≡◌, IfOk, ap, subst, ◌∙◌}
use Rattle.floyd_links.specs.Imports.{import_post, value_in}
use Rattle.floyd_import_starts.specs.StartClauses.{second_by, second_of}
use Rattle.floyd_import_starts.proofs.ImportLemmas.{second_from}
use Rattle.floyd_import_starts.proofs.posts.second_goal.Goals as goal

pub returns : goal.returns
returns g c =
    let import = c.args.import.now in
    let post = c.in_ok-post.post in
    let target = c.in_ok-target.target in
    let is : target ≡ import_post import (value_in post.locals) =
    c.in_ok-target.ensures ∙ ap (import_post import) (c.value_in.ensures ∙ ap value_in c.as_slice.ensures) in
    let whole : second_by import post target c.args.frame.now ≡ second_of import c.args.own.now c.args.frame.now =
    second_from import c.args.own.now c.args.frame.now post target c.in_ok-post.ensures is in
    subst (λ b. IfOk c.second_by.result (λ a. a ≡ b)) whole c.second_by.ensures
