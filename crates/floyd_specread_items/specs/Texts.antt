-- What was read of FUNs and lemmas as items, with the place of the name and the number of the module.
use Rattle.std.specs.Prelude.{ℕ, List}
use Rattle.floyd_text.specs.declared.place.Place.{Place}
use Rattle.floyd_assert_trees.specs.declared.items.Fun.{Fun}
use Rattle.floyd_assert_trees.specs.declared.items.FunBody.{FunBody}
use Rattle.floyd_assert_trees.specs.declared.items.Lemma.{Lemma}
use Rattle.floyd_specread_items.specs.declared.heads.FunHead.{FunHead}
use Rattle.floyd_specread_items.specs.declared.lemmas.LemmaText.{LemmaText}

abbrev pub fun_of : FunHead → Place → ℕ → FunBody → List Place → Fun
fun_of head place home body calls = record {
  place = place;
  «module» = home;
  arguments = head.arguments;
  result = head.result;
  body = body;
  calls = calls;
}

abbrev pub lemma_in : LemmaText → Place → ℕ → Lemma
lemma_in text place home = record {
  place = place;
  «module» = home;
  with = text.with;
  left = text.left;
  right = text.right;
}
