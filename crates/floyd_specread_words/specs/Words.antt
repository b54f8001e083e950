-- The words of items, from the token of a number on, where so many brackets are open before it.
use Rattle.std.specs.Prelude.{ℕ, Bool, not, ◌&&◌, List, Option, bytes_eq, codes}
use Rattle.floyd_text.specs.declared.place.Place.{Place}
use Rattle.floyd_lex.specs.declared.kinds.Punctuator.{Punctuator}
use Rattle.floyd_lex.specs.Token.{Token, TokenList}
use Rattle.floyd_termread_tokens.specs.Tokens.{is_mark, is_name, place_if}
use Rattle.floyd_termread_marks.specs.Marks.{one}
use Rattle.floyd_termread_phrases.specs.Reads.{Reads}
use Rattle.floyd_specread_words.specs.declared.words.SpecWord.{SpecWord}
use Rattle.floyd_specread_words.specs.declared.words.SpecWord.TheVariants as w

abbrev pub text_of : SpecWord → List ℕ
text_of w.Import = codes "IMPORT"
text_of w.Fun = codes "FUN"
text_of w.Pred = codes "PRED"
text_of w.Opaque = codes "OPAQUE"
text_of w.Lemma = codes "LEMMA"
text_of w.Gives = codes "GIVES"
text_of w.Lock = codes "LOCK"
text_of w.Spec = codes "SPEC"
text_of w.Declare = codes "DECLARE"
text_of w.Extern = codes "EXTERN"
text_of w.By = codes "BY"
text_of w.Frame = codes "FRAME"
text_of w.With = codes "WITH"
text_of w.Pre = codes "PRE"
text_of w.MainPre = codes "MAIN_PRE"
text_of w.Params = codes "PARAMS"
text_of w.Globals = codes "GLOBALS"
text_of w.Post = codes "POST"
text_of w.Return = codes "RETURN"
text_of w.Nil = codes "nil"
text_of w.Leaf = codes "Leaf"
text_of w.Node = codes "Node"

abbrev pub is_word : SpecWord → Token → Bool
is_word which t = is_name t && bytes_eq t.text (text_of which)

abbrev pub word_place : SpecWord → Token → Option Place
word_place which t = place_if (is_word which t) t

-- another token than the mark
abbrev pub is_other : Punctuator → Token → Bool
is_other which t = not (is_mark which t)

-- the word, which is to stand next
abbrev pub word : List ℕ → TokenList → ℕ → SpecWord → Reads Place
word bytes list depth which = one bytes list depth (word_place which)
