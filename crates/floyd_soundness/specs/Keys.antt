-- What proofs are of.
use Rattle.std.specs.Prelude.{ℕ, ◌-◌, ◌/◌, ◌==◌, ◌&&◌, Bool, true, false, if◌then◌else◌, List, Option, Some, None, is_some, bytes_eq, slice_get}
use Rattle.std.specs.List.{list_any}
use Rattle.std.specs.Map.{lookup}
use Rattle.std.specs.Option.{option_map_or}
use Rattle.floyd_assert_trees.specs.declared.items.Lemma as l
use Rattle.floyd_goal_meaning.specs.declared.linked.Linked.{Linked}
use Rattle.floyd_goal_meaning.specs.declared.linked.Module.{Module}
use Rattle.floyd_linked.specs.Found.{import_in}
use Rattle.floyd_proved.specs.declared.claim.Claim.{Claim}
use Rattle.floyd_program_soundness.specs.Proofs as p
use Rattle.floyd_soundness.specs.declared.keys.Key.{Key}
use Rattle.floyd_soundness.specs.declared.keys.Kind.{Kind}
use Rattle.floyd_soundness.specs.declared.keys.Kind.TheVariants.{Lemma, Body, Import}

-- The number of the module whose script has this number: the project has 0, and each module a source, a specification and a
-- script.
abbrev pub script_module : ℕ → ℕ
script_module file = file / 3 - 1

-- a lemma of the module itself, and not of one that it imports
abbrev pub is_own_lemma : Module → List ℕ → Bool
is_own_lemma m name = option_map_or (λ (a : l.Lemma). a.«module» == m.defs.home) (lookup (bytes_eq name) m.defs.lemmas) false

-- A proof of that name in the module is of a lemma, of an import with a specification of its own, or else of a body.
abbrev pub kind_at : Linked → ℕ → List ℕ → Option Module → Kind
kind_at L number name None = Body
kind_at L number name (Some m) = if is_own_lemma m name then Lemma else if is_some (import_in L number name) then Import else Body

abbrev pub kind_in : Linked → ℕ → List ℕ → Kind
kind_in L number name = kind_at L number name (slice_get L.modules number)

-- lemmas and bodies have their names alone
abbrev pub key_for : Kind → ℕ → List ℕ → Key
key_for Lemma number name = record { kind = Lemma; number = 0; name = name }
key_for Body number name = record { kind = Body; number = 0; name = name }
key_for Import number name = record { kind = Import; number = number; name = name }

abbrev pub key_of : Linked → Claim → Key
key_of L c = key_for (kind_in L (script_module c.file) c.name) (script_module c.file) c.name

abbrev pub same_kind : Kind → Kind → Bool
same_kind Lemma Lemma = true
same_kind Body Body = true
same_kind Import Import = true
same_kind a b = false

abbrev pub is_key : Kind → ℕ → List ℕ → Key → Bool
is_key kind number name k = same_kind kind k.kind && (number == k.number && bytes_eq name k.name)

-- whether one of the proofs is of that
abbrev pub is_proved : List Key → Kind → ℕ → List ℕ → Bool
is_proved keys kind number name = list_any (is_key kind number name) keys

-- the same as it is said of proofs
abbrev pub as_kind : Kind → p.Kind
as_kind Lemma = p.OfLemma
as_kind Body = p.OfBody
as_kind Import = p.OfImport

abbrev pub proof_of : Linked → Claim → p.Proof
proof_of L c = record { kind = as_kind (kind_in L (script_module c.file) c.name); number = script_module c.file; name = c.name; before = c.before }
