-- A token with which a specification begins.
use Rattle.std.proofs.Common.{◌≡◌, Bool, true, false, ◌&&◌, ◌||◌, List, [], ◌∷◌, refl}
use Rattle.floyd_lex.specs.Token.{Token}
use Rattle.floyd_grammar.specs.ParseClauses.{leads}
use Rattle.floyd_specread_words.specs.declared.words.SpecWord.TheVariants as w
use Rattle.floyd_specread_words.specs.Words.{is_word}
use Rattle.floyd_specread_declarations.specs.Declarations.{begins_given}

pub begins : (by : Bool) (ts : List Token) → leads (begins_given by) ts ≡ (leads (is_word w.With) ts || (leads (is_word w.Pre) ts || (leads (is_word w.Spec) ts || (by && leads (is_word w.By) ts))))
begins true [] = refl
begins false [] = refl
begins by (t ∷ ts) = refl
