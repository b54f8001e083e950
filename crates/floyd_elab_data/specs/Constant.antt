-- Where a type is made const at its top: at the first `const` of the specifiers, at the typedef name that is const, or at
-- the first `const` behind the star that is nearest to the name. An array is const where its elements are, and a function
-- is not.
use Rattle.std.specs.Prelude.{true, List, [], ◌∷◌, codes, Option, Some, None, if◌then◌else◌}
use Rattle.floyd_text.specs.declared.place.Place.{Place}
use Rattle.floyd_ctypes.specs.declared.ctype.CType.{CType}
use Rattle.floyd_cparse_trees.specs.declared.types.Identifier.{Identifier}
use Rattle.floyd_cparse_trees.specs.declared.types.Specifiers.{Specifiers}
use Rattle.floyd_cparse_trees.specs.declared.types.Star.{Star}
use Rattle.floyd_cparse_trees.specs.declared.types.Base as b
use Rattle.floyd_cparse_trees.specs.declared.types.Declarator as d
use Rattle.floyd_elab_names.specs.declared.meaning.Meaning.{Meaning}
use Rattle.floyd_elab_names.specs.declared.meaning.Meaning.TheVariants as m
use Rattle.floyd_elab_names.specs.Refusals.{Site, site_of}
use Rattle.floyd_elab_names.specs.Scopes.{Scopes, meaning_of}
use Rattle.floyd_elab_names.specs.Types.{is_function}

abbrev pub const_at : Option Place → Option Site
const_at None = None
const_at (Some place) = Some (record { place = place; text = codes "const" })

abbrev pub constant_name : Identifier → Option Meaning → Option Site
constant_name i (Some (m.Type t true)) = Some (site_of i)
constant_name i meaning = None

abbrev pub constant_base : Scopes → b.Base → Option Site
constant_base scopes (b.Typedef i) = constant_name i (meaning_of scopes i.name)
constant_base scopes base = None

abbrev pub first_of : Option Site → Option Site → Option Site
first_of None other = other
first_of (Some site) other = Some site

-- of the specifiers' type
abbrev pub constant_specifiers : Scopes → Specifiers → CType → Option Site
constant_specifiers scopes specifiers t = if is_function t then None else first_of (const_at specifiers.constant) (constant_base scopes specifiers.base)

-- behind the last star
abbrev pub constant_star : Option Site → List Star → Option Site
constant_star outer [] = outer
constant_star outer (s ∷ ss) = constant_star (const_at s.constant) ss

-- of a declarator's type, where that of what it is applied to is const at `outer`
abbrev pub constant_declarator : Option Site → d.Declarator → Option Site
constant_declarator outer (d.Name i) = outer
constant_declarator outer d.Absent = outer
constant_declarator outer (d.Parenthesised' place p (d.more_of-Declarator inner d.end_of-Declarator)) = constant_declarator outer inner
constant_declarator outer (d.Pointer' stars p (d.more_of-Declarator inner d.end_of-Declarator)) = constant_declarator (constant_star outer stars) inner
constant_declarator outer (d.Array' p (d.more_of-Declarator inner d.end_of-Declarator) place size) = constant_declarator outer inner
constant_declarator outer (d.Function' p (d.more_of-Declarator inner d.end_of-Declarator) place shape ps) = constant_declarator None inner

abbrev pub constant_at : Scopes → Specifiers → CType → d.Declarator → Option Site
constant_at scopes specifiers base d = constant_declarator (constant_specifiers scopes specifiers base) d
