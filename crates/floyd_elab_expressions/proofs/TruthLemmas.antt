-- Tests of expressions as the program makes them.
use Rattle.std.proofs.Common.{◌≡◌, List, refl}
use denote.Hole.Carrier.{hidden}
use Rattle.floyd_text.specs.declared.place.Place.{Place}
use Rattle.floyd_int.specs.declared.kinds.IntOp.{IntOp}
use Rattle.floyd_int.specs.Operation.{is_comparison}
use Rattle.floyd_cparse_trees.specs.declared.expressions.BinaryOp.TheVariants as binary
use Rattle.floyd_cparse_trees.specs.declared.expressions.Prefix.{Prefix}
use Rattle.floyd_cparse_trees.specs.declared.expressions.CExpr.{CExpr, Parenthesised, Prefixed, Binary}
use Rattle.floyd_cparse_trees.specs.declared.expressions.CExpr.TheBlock.{shape-the_row-CExpr-0, hidden-the_row-CExpr-0}
use Rattle.floyd_elab_expressions.specs.Clight.{begins_with_not, is_truth}

pub is_truth_parenthesised : (e : CExpr) → is_truth (Parenthesised e) ≡ is_truth e
unfolding shape-the_row-CExpr-0 hidden-the_row-CExpr-0 hidden
is_truth_parenthesised e = refl

pub is_truth_prefixed : (prefixes : List Prefix) (e : CExpr) → is_truth (Prefixed prefixes e) ≡ begins_with_not prefixes
unfolding shape-the_row-CExpr-0 hidden-the_row-CExpr-0 hidden
is_truth_prefixed prefixes e = refl

pub is_truth_binary : (a : CExpr) (op : IntOp) (place : Place) (b : CExpr) → is_truth (Binary a (binary.Int op) place b) ≡ is_comparison op
unfolding shape-the_row-CExpr-0 hidden-the_row-CExpr-0 hidden
is_truth_binary a op place b = refl
