-- The items of a block, one after the other, and the flags of what is in a statement.
use Rattle.std.proofs.Common.{◌≡◌, Bool, List, ◌∷◌, ◌++◌, refl, ap, sym, ◌∙◌}
use Rattle.std.specs.Prelude.{Result, Ok, Err}
use Rattle.std.proofs.lemmas.List.{append_assoc}
use Rattle.floyd_text.specs.declared.refusal.Refusal.{Refusal}
use Rattle.floyd_text.specs.declared.refusal.Halt.{Halt}
use Rattle.floyd_text.specs.Gives.{Stops}
use Rattle.floyd_ctypes.specs.declared.ctype.CType.{CType}
use Rattle.floyd_cparse_trees.specs.declared.statements.BlockItem as i
use Rattle.floyd_cparse_trees.specs.declared.statements.BlockItem.TheBlock.{hidden-the_row-BlockItem-0, items_hidden-the_row-BlockItem-0}
use Rattle.floyd_cparse_trees.specs.declared.statements.CStatement as c
use Rattle.floyd_elab_names.specs.Refusing.{and_then}
use Rattle.floyd_elab_names.specs.Scopes.{Scopes, enter}
use Rattle.floyd_elab_names.specs.Declarators.{base_type}
use Rattle.floyd_clight.specs.declared.syntax.Stmt.{Stmt}
use Rattle.floyd_elab_expressions.specs.declared.progress.Progress.{Progress}
use Rattle.floyd_elab_expressions.specs.Behind.{put_behind}
use Rattle.floyd_elab_expressions.specs.Progress.{Elaborating, typing}
use Rattle.floyd_elab_addresses.specs.PartClauses.{in_all, flags_of_item, flags_of_all}
use Rattle.floyd_elab_addresses.proofs.StatementParts.{in_items-all}
use Rattle.floyd_elab_statements.specs.Locals.{nowhere, declarators}
use Rattle.floyd_elab_statements.specs.LocalClauses.{beginning}
use Rattle.floyd_elab_statements.specs.Statements.{statement, items, body}
use Rattle.floyd_elab_statements.specs.WalkClauses.{item, all_items}
use Rattle.floyd_elab_statements.proofs.Steps.{goes, stops, stops_as, assoc}
use Rattle.floyd_elab_statements.proofs.Walking.{through_begun}

module _ (result : CType) where
  -- the items of a block, in rows and in lists
  items-all : {m : _} (scopes : Scopes) (row : c.Row_of-BlockItem m) (p : Progress) → items result scopes row p ≡ all_items result scopes (c.items-the_row-BlockItem m row) p
  items-all scopes c.end_of-BlockItem p = refl
  items-all scopes (c.more_of-BlockItem (i.Declaration d) rest) p =
      let base = typing (base_type scopes nowhere d.specifiers.base) p in
      let left = c.items-the_row-BlockItem _ rest in
      (λ j. and_then base (λ t q. and_then (declarators scopes t d.declarators (λ x. in_items-all x rest j) q) (λ made q. and_then (items-all made.1 rest q j) (λ more q. Ok (made.0 ++ more, q)))))
      ∙ sym (assoc base (λ t. declarators scopes t d.declarators (λ x. in_all x left)) (λ made q. and_then (all_items result made.1 left q) (λ more q. Ok (made.0 ++ more, q))))
  items-all scopes (c.more_of-BlockItem (i.Statement a) rest) p =
      let left = c.items-the_row-BlockItem _ rest in
      let with_scopes : List Stmt → Elaborating (List Stmt × Scopes) = λ first q. Ok ((first, scopes), q) in
      (λ j. and_then (statement result scopes a p) (λ first q. and_then (items-all scopes rest q j) (λ more q. Ok (first ++ more, q))))
      ∙ sym (assoc (statement result scopes a p) with_scopes (λ made q. and_then (all_items result made.1 left q) (λ more q. Ok (made.0 ++ more, q))))

  pub of_block : (scopes : Scopes) (all : List i.BlockItem) (p : Progress) → statement result scopes (c.Block all) p ≡ all_items result (enter scopes) all p
  of_block scopes all p =
      items-all (enter scopes) (hidden-the_row-BlockItem-0 all) p
      ∙ ap (λ (l : List i.BlockItem). all_items result (enter scopes) l p) (items_hidden-the_row-BlockItem-0 all)

  pub of_body : (scopes : Scopes) (all : List i.BlockItem) (p : Progress) → body result scopes (c.Block all) p ≡ all_items result scopes all p
  of_body scopes all p =
      items-all scopes (hidden-the_row-BlockItem-0 all) p
      ∙ ap (λ (l : List i.BlockItem). all_items result scopes l p) (items_hidden-the_row-BlockItem-0 all)

-- One more item.

joined : (there new : List Stmt) (w : Result (List Stmt × Progress) Refusal) → put_behind there (and_then w (λ more q. Ok (new ++ more, q))) ≡ put_behind (there ++ new) w
joined there new (Ok r) = ap (λ (l : List Stmt). let made : Result (List Stmt × Progress) Refusal = Ok (l, r.1) in made) (sym (append_assoc there new r.0))
joined there new (Err refusal) = refl

module _ (result : CType) (there : List Stmt) (scopes : Scopes) (one : i.BlockItem) (rest : List i.BlockItem) (p : Progress) where
  abbrev this : Result ((List Stmt × Scopes) × Progress) Refusal
  this = item result scopes one (λ x. in_all x rest) p

  abbrev those : List Stmt × Scopes → Elaborating (List Stmt)
  those made q = put_behind made.0 (all_items result made.1 rest q)

  all_is : put_behind there (all_items result scopes (one ∷ rest) p) ≡ and_then (beginning there this) those
  all_is = through_begun there this (λ made q. and_then (all_items result made.1 rest q) (λ more q. Ok (made.0 ++ more, q))) those (λ made q. joined there made.0 (all_items result made.1 rest q))

  pub next_item : (out : List Stmt) (inner : Scopes) (q : Progress) → beginning there this ≡ Ok ((out, inner), q)
      → put_behind there (all_items result scopes (one ∷ rest) p) ≡ put_behind out (all_items result inner rest q)
  next_item out inner q e = all_is ∙ goes (beginning there this) those (out, inner) q e

  pub stopped_item : (h : Halt) → Stops h (beginning there this) → Stops h (put_behind there (all_items result scopes (one ∷ rest) p))
  stopped_item h e = stops_as h _ _ all_is (stops h (beginning there this) those e)

pub flags_first : (one : i.BlockItem) (rest all : List i.BlockItem) (flags more : List Bool) → all ≡ one ∷ rest → flags ≡ flags_of_all all ++ more
    → flags ≡ flags_of_item one (λ x. in_all x rest) ++ (flags_of_all rest ++ more)
flags_first one rest all flags more split h =
    h ∙ ap (λ l. flags_of_all l ++ more) split ∙ append_assoc (flags_of_item one (λ x. in_all x rest)) (flags_of_all rest) more

-- A block, whose items stand in a scope of their own.
pub block_is : (result : CType) (scopes inner : Scopes) (all : List i.BlockItem) (there : List Stmt) (p : Progress) → inner ≡ enter scopes
    → put_behind there (statement result scopes (c.Block all) p) ≡ put_behind there (all_items result inner all p)
block_is result scopes inner all there p is =
    ap (put_behind there) (of_block result scopes all p)
    ∙ ap (λ (s : Scopes). put_behind there (all_items result s all p)) (sym is)
