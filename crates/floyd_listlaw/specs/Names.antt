-- The names of the laws.
use Rattle.std.specs.Prelude.{ℕ, List, [], ◌∷◌, codes, bytes_eq, find, Option}
use Rattle.floyd_listlaw.specs.declared.list_law.ListLaw.{ListLaw}
use Rattle.floyd_listlaw.specs.declared.list_law.ListLaw.TheVariants as l

abbrev pub word : ListLaw → List ℕ
word l.SublistNone = codes "sublist_none"
word l.SublistAll = codes "sublist_all"
word l.SublistSnoc = codes "sublist_snoc"
word l.SublistApp = codes "sublist_app"
word l.SublistLen = codes "sublist_len"
word l.SublistVints = codes "sublist_vints"
word l.VintsApp = codes "vints_app"
word l.LenVints = codes "len_vints"
word l.SumNil = codes "sum_nil"
word l.SumApp = codes "sum_app"
word l.SumSnoc = codes "sum_snoc"
word l.LenApp = codes "len_app"
word l.LenRev = codes "len_rev"
word l.LenUpd = codes "len_upd"
word l.LenNonneg = codes "len_nonneg"
word l.AppNil = codes "app_nil"
word l.AppAssoc = codes "app_assoc"
word l.RevCons = codes "rev_cons"
word l.RevApp = codes "rev_app"
word l.RevRev = codes "rev_rev"
word l.NthSame = codes "nth_same"
word l.NthOther = codes "nth_other"
word l.LtOrEq = codes "lt_or_eq"
word l.LeTotal = codes "le_total"
word l.VintUnsigned = codes "vint_unsigned"
word l.VintSigned = codes "vint_signed"
word l.NullPtr = codes "null_ptr"

abbrev pub all_laws : List ListLaw
all_laws =
    l.SublistNone ∷ l.SublistAll ∷ l.SublistSnoc ∷ l.SublistApp ∷ l.SublistLen ∷ l.SublistVints ∷ l.VintsApp ∷ l.LenVints ∷ l.SumNil ∷ l.SumApp ∷ l.SumSnoc ∷ l.LenApp ∷ l.LenRev ∷ l.LenUpd ∷ l.LenNonneg ∷ l.AppNil ∷ l.AppAssoc ∷ l.RevCons ∷ l.RevApp ∷ l.RevRev ∷ l.NthSame ∷ l.NthOther ∷ l.LtOrEq ∷ l.LeTotal ∷ l.VintUnsigned ∷ l.VintSigned ∷ l.NullPtr ∷ []

-- the law of that name, among these and among all
abbrev pub named_among : List ListLaw → List ℕ → Option ListLaw
named_among laws name = find (λ law. bytes_eq name (word law)) laws

abbrev pub law_named : List ℕ → Option ListLaw
law_named = named_among all_laws
