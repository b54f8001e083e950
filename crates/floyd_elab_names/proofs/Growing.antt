-- Structs that were mentioned or completed stay so, and fields keep their sizes.
use Rattle.std.proofs.Common.{◌≡◌, ℕ, ◌+◌, ◌≤◌, Bool, true, false, not, ◌&&◌, List, [], ◌∷◌, ◌++◌, map, Option, None, Some, is_some, option_and_then, cond, bytes_eq, Result, Ok, Err, if◌then◌else◌, true≢false, refl, ap, sym, ◌∙◌, subst, arith}
use Rattle.std.specs.Map.{lookup}
use Rattle.std.proofs.lemmas.Slice.Eq.{bytes_eq-Decides}
use Rattle.floyd_text.specs.declared.refusal.Refusal.{Refusal}
use Rattle.floyd_ctypes.specs.declared.ctype.CType.{CType}
use Rattle.floyd_ctypes.specs.declared.field.Field.{Field}
use Rattle.floyd_ctypes.specs.Define.{declared, completed}
use Rattle.floyd_ctypes.specs.Structs.{Structs, has_tag, is_complete, fields_of, completes}
use Rattle.floyd_ctypes.proofs.Growth.{Grows}
use Rattle.floyd_cparse_trees.specs.declared.types.Base as b
use Rattle.floyd_cparse_trees.specs.declared.types.Base.TheBlock.{hidden-the_row-FieldDeclaration-1}
use Rattle.floyd_cparse_trees.specs.declared.types.Declarator as d
use Rattle.floyd_cparse_trees.specs.declared.types.FieldDeclaration.{FieldDeclaration}
use Rattle.floyd_cparse_trees.specs.declared.types.Identifier.{Identifier}
use Rattle.floyd_elab_names.specs.declared.tags.Tags.{Tags}
use Rattle.floyd_elab_names.specs.Refusals.{Site, site_of, left_out, ill_typed, redeclared, undeclared}
use Rattle.floyd_elab_names.specs.Refusing.{and_then, unless, or_refuse, modify, in_turn}
use Rattle.floyd_elab_names.specs.Scopes.{Scopes, meaning_of, is_among}
use Rattle.floyd_elab_names.specs.Types.{decay, is_object_within, is_object_type, is_parameter_type}
use Rattle.floyd_elab_names.specs.Declarators.{name_of, name_site, limit_site, has_sizes, typedef_type, unless_among, name_or_none, may_have, begin_fields, complete, new_field, new_parameter, field_after, fields_after, parameter_after, field_names, base_type, made_by, parameter_rows, field_rows, declarator_rows}
use Rattle.floyd_elab_names.specs.DeclaratorClauses.{add_fields}
use Rattle.floyd_elab_names.specs.StoredClauses.{IsStored, AllStored}
use Rattle.floyd_elab_names.proofs.SpecifierLemmas.{rows_are}
use Rattle.floyd_elab_names.proofs.StoredLemmas.{stored_object, all_stay, one_more}

-- what was complete stays so, and what was mentioned
pub record Later (before now : Structs) : Type 0 where
  pub grows : Grows before now
  pub there : (tag : List ℕ) → has_tag before tag ≡ true → has_tag now tag ≡ true

later_same : (s : Structs) → Later s s
later_same s = record { grows = record { fields = λ tag fields e. e; more = omega arith }; there = λ tag e. e }

later_then : (a b c : Structs) → Later a b → Later b c → Later a c
later_then a b c f g = record {
  grows = record { fields = λ tag fields e. g.grows.fields tag fields (f.grows.fields tag fields e); more = omega (arith, f.grows.more, g.grows.more) };
  there = λ tag e. g.there tag (f.there tag e);
}

-- A tag is mentioned.

module _ (tag : List ℕ) where
  fields_with : (ss : Structs) (q : List ℕ) (fields : List Field) → fields_of ss q ≡ Some fields → fields_of (ss ++ (tag, None) ∷ []) q ≡ Some fields
  fields_with [] q fields e = cc
  fields_with (s ∷ ss) q fields e = by (fields_with ss q fields) (bytes_eq q s.0) e
    where
      by : (fields_of ss q ≡ Some fields → fields_of (ss ++ (tag, None) ∷ []) q ≡ Some fields) → (b : Bool) → option_and_then (λ fs. fs) (cond b (Some s.1) (lookup (bytes_eq q) ss)) ≡ Some fields
          → option_and_then (λ fs. fs) (cond b (Some s.1) (lookup (bytes_eq q) (ss ++ (tag, None) ∷ []))) ≡ Some fields
      by more true e = e
      by more false e = more e

  there_with : (ss : Structs) (q : List ℕ) → has_tag ss q ≡ true → has_tag (ss ++ (tag, None) ∷ []) q ≡ true
  there_with [] q e = absurd (true≢false (sym e))
  there_with (s ∷ ss) q e = by (there_with ss q) (bytes_eq q s.0) e
    where
      by : (has_tag ss q ≡ true → has_tag (ss ++ (tag, None) ∷ []) q ≡ true) → (b : Bool) → is_some (cond b (Some s.1) (lookup (bytes_eq q) ss)) ≡ true
          → is_some (cond b (Some s.1) (lookup (bytes_eq q) (ss ++ (tag, None) ∷ []))) ≡ true
      by more true e = refl
      by more false e = more e

  completes_with : (ss : Structs) → completes (ss ++ (tag, None) ∷ []) ≡ completes ss
  completes_with [] = refl
  completes_with (s ∷ ss) = ap (λ n. (if is_some s.1 then 1 else 0) + n) (completes_with ss)

  pub later_declared : (ss : Structs) → Later ss (declared ss tag)
  later_declared ss = by (has_tag ss tag)
    where
      by : (b : Bool) → Later ss (if b then ss else ss ++ (tag, None) ∷ [])
      by true = later_same ss
      by false = record {
        grows = record { fields = fields_with ss; more = omega (arith, completes_with ss) };
        there = there_with ss;
      }

  there_last : (ss : Structs) → has_tag (ss ++ (tag, None) ∷ []) tag ≡ true
  there_last [] =
      let none : Option (List Field) = None in
      ap (λ b. is_some (cond b (Some none) None)) ((bytes_eq-Decides tag tag).1 refl)
  there_last (s ∷ ss) = by (bytes_eq tag s.0) (there_last ss)
    where
      by : (b : Bool) → has_tag (ss ++ (tag, None) ∷ []) tag ≡ true → is_some (cond b (Some s.1) (lookup (bytes_eq tag) (ss ++ (tag, None) ∷ []))) ≡ true
      by true e = refl
      by false e = e

  pub declared_there : (ss : Structs) → has_tag (declared ss tag) tag ≡ true
  declared_there ss = by (has_tag ss tag) refl
    where
      by : (b : Bool) → has_tag ss tag ≡ b → has_tag (if b then ss else ss ++ (tag, None) ∷ []) tag ≡ true
      by true e = e
      by false e = there_last ss

-- A struct is completed.

module _ (tag : List ℕ) (fields : List Field) where
  others_stay : (ss : Structs) (q : List ℕ) → bytes_eq tag q ≡ false → lookup (bytes_eq q) (completed ss tag fields) ≡ lookup (bytes_eq q) ss
  others_stay [] q h = refl
  others_stay (s ∷ ss) q h = by (bytes_eq tag s.0) refl (others_stay ss q h)
    where
      other : bytes_eq tag s.0 ≡ true → (b : Bool) → bytes_eq q s.0 ≡ b → b ≡ false
      other at true e = sym ((bytes_eq-Decides tag q).1 ((bytes_eq-Decides tag s.0).0 at ∙ sym ((bytes_eq-Decides q s.0).0 e))) ∙ h
      other at false e = refl

      at_other : (b : Bool) → b ≡ false → cond b (Some (Some fields)) (lookup (bytes_eq q) ss) ≡ cond b (Some s.1) (lookup (bytes_eq q) ss)
      at_other true e = absurd (true≢false e)
      at_other false e = refl

      by : (b : Bool) → bytes_eq tag s.0 ≡ b → lookup (bytes_eq q) (completed ss tag fields) ≡ lookup (bytes_eq q) ss
          → lookup (bytes_eq q) (cond b ((s.0, Some fields) ∷ ss) (s ∷ completed ss tag fields)) ≡ cond (bytes_eq q s.0) (Some s.1) (lookup (bytes_eq q) ss)
      by true at more = at_other (bytes_eq q s.0) (other at (bytes_eq q s.0) refl)
      by false at more = ap (cond (bytes_eq q s.0) (Some s.1)) more

  there_stays : (ss : Structs) (q : List ℕ) → has_tag (completed ss tag fields) q ≡ has_tag ss q
  there_stays [] q = refl
  there_stays (s ∷ ss) q = by (bytes_eq tag s.0) (bytes_eq q s.0) (there_stays ss q)
    where
      by : (b c : Bool) → has_tag (completed ss tag fields) q ≡ has_tag ss q
          → is_some (lookup (bytes_eq q) (cond b ((s.0, Some fields) ∷ ss) (s ∷ completed ss tag fields))) ≡ is_some (cond (bytes_eq q s.0) (Some s.1) (lookup (bytes_eq q) ss))
      by true c more = at (bytes_eq q s.0)
        where
          at : (c : Bool) → is_some (cond c (Some (Some fields)) (lookup (bytes_eq q) ss)) ≡ is_some (cond c (Some s.1) (lookup (bytes_eq q) ss))
          at true = refl
          at false = refl
      by false c more = at (bytes_eq q s.0)
        where
          at : (c : Bool) → is_some (cond c (Some s.1) (lookup (bytes_eq q) (completed ss tag fields))) ≡ is_some (cond c (Some s.1) (lookup (bytes_eq q) ss))
          at true = refl
          at false = more

  more_complete : (ss : Structs) → completes ss ≤ completes (completed ss tag fields)
  more_complete [] = omega arith
  more_complete (s ∷ ss) = by (bytes_eq tag s.0) (more_complete ss)
    where
      at : (o : Option (List Field)) → (let n : ℕ = if is_some o then 1 else 0 in n) ≤ 1
      at None = omega arith
      at (Some fs) = omega arith

      by : (b : Bool) → completes ss ≤ completes (completed ss tag fields) → (if is_some s.1 then 1 else 0) + completes ss ≤ completes (cond b ((s.0, Some fields) ∷ ss) (s ∷ completed ss tag fields))
      by true more = omega (arith, at s.1)
      by false more = omega arith

  pub later_completed : (ss : Structs) → is_complete ss tag ≡ false → Later ss (completed ss tag fields)
  later_completed ss open_yet = record {
    grows = record { fields = λ q fs e. by q fs e (bytes_eq tag q) refl; more = more_complete ss };
    there = λ q e. there_stays ss q ∙ e;
  }
    where
      by : (q : List ℕ) (fs : List Field) → fields_of ss q ≡ Some fs → (b : Bool) → bytes_eq tag q ≡ b → fields_of (completed ss tag fields) q ≡ Some fs
      by q fs e true h = absurd (true≢false (ap is_some (sym e) ∙ sym (ap (is_complete ss) ((bytes_eq-Decides tag q).0 h)) ∙ open_yet))
      by q fs e false h = ap (option_and_then (λ fs. fs)) (others_stay ss q h) ∙ e

-- What comes of going through a text.

abbrev pub Grown : {A : Type 0} → Tags → Result (A × Tags) Refusal → Type 0
Grown s (Ok r) = Later s.structs r.1.structs
Grown s (Err e) = Unit {0}

module _ {A : Type 0} where
  grown_from : (s t : Tags) → Later s.structs t.structs → (r : Result (A × Tags) Refusal) → Grown t r → Grown s r
  grown_from s t later (Ok r) g = later_then s.structs t.structs r.1.structs later g
  grown_from s t later (Err e) g = tt

  refused_grows : (refusal : Refusal) (o : Option A) (s : Tags) → Grown s (or_refuse refusal o s)
  refused_grows refusal None s = tt
  refused_grows refusal (Some a) s = later_same s.structs

module _ {A B : Type 0} where
  then_grown : (s : Tags) (r : Result (A × Tags) Refusal) (next : A → Tags → Result (B × Tags) Refusal) → Grown s r → ((a : A) (t : Tags) → Grown t (next a t)) → Grown s (and_then r next)
  then_grown s (Ok r) next g more = grown_from s r.1 g (next r.0 r.1) (more r.0 r.1)
  then_grown s (Err e) next g more = tt

unless_grows : (refusal : Refusal) (b : Bool) (s : Tags) → Grown s (unless refusal b s)
unless_grows refusal true s = later_same s.structs
unless_grows refusal false s = tt

begin_grows : (tag : Identifier) (s : Tags) → Grown s (begin_fields tag s)
begin_grows tag s =
    let t : Tags = record { structs = declared s.structs tag.name; completed = s.completed } in
    grown_from s t (later_declared tag.name s.structs) _ (unless_grows (redeclared tag) (not (is_complete t.structs tag.name)) t)

among_grows : (names : List (List ℕ)) (o : Option Identifier) (s : Tags) → Grown s (unless_among names o s)
among_grows names None s = later_same s.structs
among_grows names (Some i) s = unless_grows (redeclared i) (not (is_among i.name names)) s

complete_grows : (tag : Identifier) (fields : List Field) (s : Tags) → Grown s (complete tag fields s)
complete_grows tag fields s = by (may_have fields) (is_complete s.structs tag.name) refl
  where
    after : Tags → Tags
    after t = record { structs = completed t.structs tag.name fields; completed = t.completed ++ tag ∷ [] }

    by : (b c : Bool) → is_complete s.structs tag.name ≡ c
        → Grown s (and_then (unless (left_out (site_of tag)) b s) (λ u s1. and_then (unless (redeclared tag) (not c) s1) (λ v s2. modify after s2)))
    by true true e = tt
    by true false e = later_completed tag.name fields s.structs e
    by false c e = tt

parameter_grows : (site : Site) (names : List (List ℕ)) (d : d.Declarator) (t : CType) (s : Tags) → Grown s (new_parameter site names d t s)
parameter_grows site names d t s =
    then_grown s (unless (left_out (limit_site site d)) (is_object_within s.structs (decay t)) s) _ (unless_grows _ _ s)
    (λ u s1. then_grown s1 (unless (ill_typed (name_site site d).place) (has_sizes d && is_parameter_type s.structs t) s1) _ (unless_grows _ _ s1)
    (λ v s2. then_grown s2 (unless_among names (name_of d) s2) _ (among_grows names (name_of d) s2) (λ w s3. later_same s3.structs)))

-- Fields keep their sizes.

abbrev pub Fielded : Tags → Result (List Field × Tags) Refusal → Type 0
Fielded s (Ok r) = Later s.structs r.1.structs × AllStored r.1.structs r.0
Fielded s (Err e) = Unit {0}

forget : (s : Tags) (r : Result (List Field × Tags) Refusal) → Fielded s r → Grown s r
forget s (Ok r) f = f.0
forget s (Err e) f = tt

fielded_from : (s t : Tags) → Later s.structs t.structs → (r : Result (List Field × Tags) Refusal) → Fielded t r → Fielded s r
fielded_from s t later (Ok r) f = (later_then s.structs t.structs r.1.structs later f.0, f.1)
fielded_from s t later (Err e) f = tt

then_fielded : {A : Type 0} (s : Tags) (r : Result (A × Tags) Refusal) (next : A → Tags → Result (List Field × Tags) Refusal) → Grown s r
    → ((a : A) (t : Tags) → Later s.structs t.structs → Fielded t (next a t)) → Fielded s (and_then r next)
then_fielded s (Ok r) next g more = fielded_from s r.1 g (next r.0 r.1) (more r.0 r.1 g)
then_fielded s (Err e) next g more = tt

fielded_then : (s : Tags) (r : Result (List Field × Tags) Refusal) (next : List Field → Tags → Result (List Field × Tags) Refusal) → Fielded s r
    → ((fields : List Field) (t : Tags) → AllStored t.structs fields → Fielded t (next fields t)) → Fielded s (and_then r next)
fielded_then s (Ok r) next f more = fielded_from s r.1 f.0 (next r.0 r.1) (more r.0 r.1 f.1)
fielded_then s (Err e) next f more = tt

-- a declared field has a size, and changes nothing
abbrev OneStored : Tags → Result (Field × Tags) Refusal → Type 0
OneStored s (Ok r) = (r.1 ≡ s) × IsStored s.structs r.0.ty
OneStored s (Err e) = Unit {0}

one_stored : (site : Site) (names : List (List ℕ)) (d : d.Declarator) (t : CType) (s : Tags) → OneStored s (new_field site names d t s)
one_stored site names d t s = by (is_object_within s.structs t) (is_object_type s.structs t) refl refl
  where
    last : (name : List ℕ) (o : Option Identifier) → IsStored s.structs t → OneStored s (and_then (unless_among names o s) (λ u s1. Ok (record { name = name; ty = t }, s1)))
    last name None stored = (refl, stored)
    last name (Some i) stored = at (not (is_among i.name names))
      where
        at : (b : Bool) → OneStored s (and_then (unless (redeclared i) b s) (λ u s1. Ok (record { name = name; ty = t }, s1)))
        at true = (refl, stored)
        at false = tt

    by : (b c : Bool) → is_object_within s.structs t ≡ b → is_object_type s.structs t ≡ c
        → OneStored s (and_then (unless (left_out (limit_site site d)) b s) (λ u s1. and_then (unless (ill_typed (name_site site d).place) c s1) (λ v s2. and_then (unless_among names (name_of d) s2) (λ w s3. Ok (record { name = name_or_none (name_of d); ty = t }, s3)))))
    by true true e f = last (name_or_none (name_of d)) (name_of d) (stored_object s.structs t e f)
    by true false e f = tt
    by false c e f = tt

field_last : (s : Tags) (fields : List Field) (r : Result (Field × Tags) Refusal) → OneStored s r → AllStored s.structs fields → Fielded s (and_then r (λ field s1. Ok (fields ++ field ∷ [], s1)))
field_last s fields (Ok r) one all =
    subst (λ (t : Tags). Later s.structs t.structs × AllStored t.structs (fields ++ r.0 ∷ [])) (sym one.0) (later_same s.structs, one_more s.structs fields r.0 all one.1)
field_last s fields (Err e) one all = tt

module _ (scopes : Scopes) where
  mutual
    base_grows : (site : Site) (base : b.Base) (s : Tags) → Grown s (base_type scopes site base s)
    base_grows site b.Void s = later_same s.structs
    base_grows site (b.Int k) s = later_same s.structs
    base_grows site (b.Struct tag) s = later_declared tag.name s.structs
    base_grows site (b.StructWith' tag shape rows) s =
        then_grown s (begin_fields tag s) _ (begin_grows tag s)
        (λ begun t. then_grown t (in_turn (field_rows scopes site rows) [] t) _ (forget t (in_turn (field_rows scopes site rows) [] t) (fields_grow site rows [] t tt))
        (λ fields t1. then_grown t1 (complete tag fields t1) _ (complete_grows tag fields t1) (λ u t2. later_same t2.structs)))
    base_grows site (b.Typedef i) s = refused_grows (undeclared i) (typedef_type (meaning_of scopes i.name)) s

    made_grows : (site : Site) (d : d.Declarator) (s : Tags) → Grown s (made_by scopes site d s)
    made_grows site (d.Name i) s = later_same s.structs
    made_grows site d.Absent s = later_same s.structs
    made_grows site (d.Parenthesised' place p (d.more_of-Declarator inner d.end_of-Declarator)) s = made_grows site inner s
    made_grows site (d.Pointer' stars p (d.more_of-Declarator inner d.end_of-Declarator)) s =
        then_grown s (made_by scopes site inner s) _ (made_grows site inner s) (λ make t. later_same t.structs)
    made_grows site (d.Array' p (d.more_of-Declarator inner d.end_of-Declarator) place size) s =
        then_grown s (made_by scopes site inner s) _ (made_grows site inner s) (λ make t. later_same t.structs)
    made_grows site (d.Function' p (d.more_of-Declarator inner d.end_of-Declarator) place shape ps) s =
        then_grown s (made_by scopes site inner s) _ (made_grows site inner s)
        (λ make t. then_grown t (in_turn (parameter_rows scopes site ps) [] t) _ (parameters_grow site ps [] t) (λ parameters u. later_same u.structs))

    parameters_grow : {m : _} (site : Site) (row : d.Row_of-Parameter m) (ps : List Field) (s : Tags) → Grown s (in_turn (parameter_rows scopes site row) ps s)
    parameters_grow site d.end_of-Parameter ps s = later_same s.structs
    parameters_grow site (d.more_of-Parameter constant base d rest) ps s =
        then_grown s (parameter_after site d (base_type scopes site base) (made_by scopes (name_site site d) d) ps s) (in_turn (parameter_rows scopes site rest))
        (then_grown s (base_type scopes site base s) _ (base_grows site base s)
        (λ t s1. then_grown s1 (made_by scopes (name_site site d) d s1) _ (made_grows (name_site site d) d s1)
        (λ make s2. then_grown s2 (new_parameter site (field_names ps) d (make t) s2) _ (parameter_grows site (field_names ps) d (make t) s2) (λ p s3. later_same s3.structs))))
        (λ more s1. parameters_grow site rest more s1)

    fields_grow : {m : _} (site : Site) (row : b.Row_of-FieldDeclaration m) (fields : List Field) (s : Tags) → AllStored s.structs fields → Fielded s (in_turn (field_rows scopes site row) fields s)
    fields_grow site b.end_of-FieldDeclaration fields s all = (later_same s.structs, all)
    fields_grow site (b.more_of-FieldDeclaration constant base shape ds rest) fields s all =
        fielded_then s (fields_after (base_type scopes site base) (λ t. declarator_rows scopes site t ds) fields s) (in_turn (field_rows scopes site rest))
        (then_fielded s (base_type scopes site base s) (λ t. in_turn (declarator_rows scopes site t ds) fields) (base_grows site base s)
        (λ t s1 later. declarators_grow site t ds fields s1 (all_stay s.structs s1.structs later.grows fields all)))
        (λ more s1 all. fields_grow site rest more s1 all)

    declarators_grow : {m : _} (site : Site) (t : CType) (row : d.Row_of-Declarator m) (fields : List Field) (s : Tags) → AllStored s.structs fields → Fielded s (in_turn (declarator_rows scopes site t row) fields s)
    declarators_grow site t d.end_of-Declarator fields s all = (later_same s.structs, all)
    declarators_grow site t (d.more_of-Declarator d rest) fields s all =
        fielded_then s (field_after site d (made_by scopes (name_site site d) d) t fields s) (in_turn (declarator_rows scopes site t rest))
        (then_fielded s (made_by scopes (name_site site d) d s) _ (made_grows (name_site site d) d s)
        (λ make s1 later. field_last s1 fields (new_field site (field_names fields) d (make t) s1) (one_stored site (field_names fields) d (make t) s1)
        (all_stay s.structs s1.structs later.grows fields all)))
        (λ more s1 all. declarators_grow site t rest more s1 all)

  pub fields_ready : (site : Site) (rows : List FieldDeclaration) (s : Tags) (fields : List Field) (t : Tags) → in_turn (map (add_fields scopes site) rows) [] s ≡ Ok (fields, t)
      → Later s.structs t.structs × AllStored t.structs fields
  fields_ready site rows s fields t e =
      subst (Fielded s) (ap (λ steps. in_turn steps [] s) (rows_are scopes site rows) ∙ e) (fields_grow site (hidden-the_row-FieldDeclaration-1 rows) [] s tt)
