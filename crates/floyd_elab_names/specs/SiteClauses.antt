-- Words of private clauses: the tokens that a refusal may stand at, as they are kept.
use Rattle.std.specs.Prelude.{ℕ, List, [], ◌∷◌}
use Rattle.floyd_elab_names.specs.declared.site.Text.{Text}
use Rattle.floyd_elab_names.specs.declared.site.Text.TheVariants as t

abbrev pub text_of : Text → List ℕ
text_of t.Parenthesis = 40 ∷ []
text_of t.Bracket = 91 ∷ []
text_of t.Star = 42 ∷ []
text_of t.Ampersand = 38 ∷ []
text_of t.SizeOf = 115 ∷ 105 ∷ 122 ∷ 101 ∷ 111 ∷ 102 ∷ []
text_of (t.Name name) = name
