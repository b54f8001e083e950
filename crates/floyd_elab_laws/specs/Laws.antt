-- Elaboration keeps the meaning of integer expressions.
use Rattle.std.specs.Prelude.{◌≡◌, ◌≢◌, ℕ, ◌<◌, ◌≤◌, ◌^◌, ◌==◌, Bool, true, false, ◌&&◌, ◌||◌, nat_le, ℤ, List, [], Some, option_map, option_and_then, if◌then◌else◌, Ok, bytes_eq}
use Rattle.std.specs.List.{list_any}
use Rattle.floyd_int.specs.declared.kinds.IntKind.{IntKind}
use Rattle.floyd_int.specs.declared.kinds.IntKind.TheVariants.{I32, I64}
use Rattle.floyd_int.specs.declared.kinds.Value.{Value}
use Rattle.floyd_int.specs.declared.kinds.Value.TheVariants.{Vint, Vlong}
use Rattle.floyd_int.specs.Kind.{width, InRange, repr_of}
use Rattle.floyd_ctypes.specs.declared.ctype.CType.{Int}
use Rattle.floyd_ctypes.specs.Structs.{Structs}
use Rattle.floyd_ctypes.specs.Has.{Has}
use Rattle.floyd_cparse_trees.specs.declared.expressions.CExpr as e
use Rattle.floyd_cparse_trees.specs.declared.expressions.BinaryOp.TheVariants as binary
use Rattle.floyd_elab_names.specs.declared.meaning.Meaning.TheVariants as m
use Rattle.floyd_elab_names.specs.declared.meaning.Storage.{Storage}
use Rattle.floyd_elab_names.specs.Scopes.{Scopes, meaning_of}
use Rattle.floyd_clight.specs.Types.{type_of}
use Rattle.floyd_clight_machine.specs.Evaluation.{Ident, Temps, Look, eval_by}
use Rattle.floyd_clight.specs.declared.syntax.Stmt.{Stmt, Skip}
use Rattle.floyd_clight_machine.specs.Machine.{Program, Act, Kont, Config, Run, Next, step, look}
use Rattle.floyd_clight_memory.specs.Memory.{Mem}
use Rattle.floyd_elab_expressions.specs.Clight.{Translated, pulled_name}
use Rattle.floyd_elab_expressions.specs.declared.progress.Progress.{Progress}
use Rattle.floyd_elab_expressions.specs.Expressions.{rvalue}
use Rattle.floyd_elab_statements.specs.Locals.{name_among}
use Rattle.floyd_elab_laws.specs.Numbers.{Number}
use Rattle.floyd_elab_laws.specs.CMeaning.{is_kept_apart, number}
use Rattle.floyd_elab_laws.specs.Running.{run, run_all}

-- a whole number as a value of Clight: modulo 2 ^ 32 as a Vint, or modulo 2 ^ 64 as a Vlong
abbrev pub value_as : IntKind → ℤ → Value
value_as k z = if nat_le (width k) 32 then Vint (repr_of I32 z) else Vlong (repr_of I64 z)

-- the value that a variable holds, as a value of its kind in its temporary
pub record HeldIn (v : Value) (k : IntKind) (z : ℤ) : Type 0 where
  pub in_range : InRange k z
  pub value : v ≡ value_as k z

-- a name stands in the expression, other than in a type
abbrev mutual
  pub occurs : List ℕ → e.CExpr → Bool
  occurs x (e.Name i) = bytes_eq x i.name
  occurs x (e.Literal l) = false
  occurs x (e.Parenthesised' p (e.more_of-CExpr inner e.end_of-CExpr)) = occurs x inner
  occurs x (e.Prefixed' prefixes p (e.more_of-CExpr operand e.end_of-CExpr)) = occurs x operand
  occurs x (e.SizeOf place n) = false
  occurs x (e.PostfixStep' p (e.more_of-CExpr operand e.end_of-CExpr) op place) = occurs x operand
  occurs x (e.Index' p (e.more_of-CExpr array e.end_of-CExpr) place q (e.more_of-CExpr index e.end_of-CExpr)) = occurs x array || occurs x index
  occurs x (e.Call' p (e.more_of-CExpr function e.end_of-CExpr) place shape arguments) = occurs x function || occurs_in x arguments
  occurs x (e.Member' p (e.more_of-CExpr operand e.end_of-CExpr) op place field) = occurs x operand
  occurs x (e.Binary' p (e.more_of-CExpr left e.end_of-CExpr) op place q (e.more_of-CExpr right e.end_of-CExpr)) = occurs x left || occurs x right
  occurs x (e.Conditional' p (e.more_of-CExpr test e.end_of-CExpr) place q (e.more_of-CExpr then_part e.end_of-CExpr) r (e.more_of-CExpr else_part e.end_of-CExpr)) =
      occurs x test || (occurs x then_part || occurs x else_part)
  occurs x (e.Assign' p (e.more_of-CExpr target e.end_of-CExpr) op place q (e.more_of-CExpr value e.end_of-CExpr)) = occurs x target || occurs x value

  pub occurs_in : {m : _} → List ℕ → e.Row_of-CExpr m → Bool
  occurs_in x e.end_of-CExpr = false
  occurs_in x (e.more_of-CExpr argument rest) = occurs x argument || occurs_in x rest

-- Each integer variable among these names that lies in no memory holds in its temporary what `variables` says.
abbrev pub Holds : (List ℕ → Bool) → Scopes → (List ℕ → ℤ) → Temps → Type 0
Holds among scopes variables temps =
    (x called : List ℕ) (k : IntKind) (storage : Storage) → among x ≡ true → meaning_of scopes x ≡ Some (m.Variable called (Int k) storage) → is_kept_apart storage ≡ true → HeldIn (temps called) k (variables x)

-- Each holds a value that its type allows.
abbrev pub AreAllowed : (List ℕ → Bool) → Scopes → Temps → Type 0
AreAllowed among scopes temps =
    (x called : List ℕ) (k : IntKind) (storage : Storage) → among x ≡ true → meaning_of scopes x ≡ Some (m.Variable called (Int k) storage) → is_kept_apart storage ≡ true → Has (Int k) (temps called)

-- no `&&`, `||` or `?:` stands in the expression
abbrev pub is_straight : e.CExpr → Bool
is_straight (e.Name i) = true
is_straight (e.Literal l) = true
is_straight (e.Parenthesised' p (e.more_of-CExpr inner e.end_of-CExpr)) = is_straight inner
is_straight (e.Prefixed' prefixes p (e.more_of-CExpr operand e.end_of-CExpr)) = is_straight operand
is_straight (e.SizeOf place n) = true
is_straight (e.PostfixStep' p (e.more_of-CExpr operand e.end_of-CExpr) op place) = is_straight operand
is_straight (e.Index' p (e.more_of-CExpr array e.end_of-CExpr) place q (e.more_of-CExpr index e.end_of-CExpr)) = is_straight array && is_straight index
is_straight (e.Call' p (e.more_of-CExpr function e.end_of-CExpr) place shape arguments) = is_straight function
is_straight (e.Member' p (e.more_of-CExpr operand e.end_of-CExpr) op place field) = is_straight operand
is_straight (e.Binary' p (e.more_of-CExpr left e.end_of-CExpr) (binary.Int op) place q (e.more_of-CExpr right e.end_of-CExpr)) = is_straight left && is_straight right
is_straight (e.Binary' p left binary.And place q right) = false
is_straight (e.Binary' p left binary.Or place q right) = false
is_straight (e.Conditional' p test place q then_part r else_part) = false
is_straight (e.Assign' p (e.more_of-CExpr target e.end_of-CExpr) op place q (e.more_of-CExpr value e.end_of-CExpr)) = is_straight target && is_straight value

-- nothing goes before it, its type is C's, and it has C's value where C gives one, and else none
pub record Keeps (structs : Structs) (look : Look) (temps : Temps) (n : Number) (t : Translated) : Type 0 where
  pub before : t.before ≡ []
  pub ctype : type_of t.expr ≡ Int n.kind
  pub value : eval_by structs look temps t.expr ≡ option_map (value_as n.kind) n.value

-- Behind the statements that go before it, the expression has C's value where C gives one; where C gives none, they are
-- stuck, or it has none. They change nothing but the temporaries drawn for it, those behind d up to e.
pub record RunsTo (structs : Structs) (look : Look) (temps : Temps) (n : Number) (d e : ℕ) (t : Translated) : Type 0 where
  pub ctype : type_of t.expr ≡ Int n.kind
  pub value : option_and_then (λ after. eval_by structs look after t.expr) (run_all structs look t.before temps) ≡ option_map (value_as n.kind) n.value
  pub rest : (after : Temps) → run_all structs look t.before temps ≡ Some after → (x : Ident) → ((k : ℕ) → d < k → k ≤ e → x ≢ pulled_name k) → after x ≡ temps x

-- No integer variable in sight that lies in no memory is called as one of the first 2 ^ 64 pulled reads is.
abbrev pub AreApart : Scopes → Type 0
AreApart scopes =
    (x called : List ℕ) (k : IntKind) (storage : Storage) → meaning_of scopes x ≡ Some (m.Variable called (Int k) storage) → is_kept_apart storage ≡ true → (j : ℕ) → j < 2 ^ 64 → called ≢ pulled_name j

-- no name of C has a mark in it
abbrev pub has_mark : List ℕ → Bool
has_mark x = list_any (λ b. b == 39) x

-- What an expression without `&&`, `||`, `?:` and reads of memory is turned into has C's value, where the variables that
-- stand in it hold numbers.
abbrev pub StraightExpressionsKeepTheirMeaning : Type 0
StraightExpressionsKeepTheirMeaning =
    (structs : Structs) (look : Look) (scopes : Scopes) (variables : List ℕ → ℤ) (temps : Temps) (e : e.CExpr) (n : Number) (p q : Progress) (t : Translated) →
    Holds (λ x. occurs x e) scopes variables temps → is_straight e ≡ true → number structs scopes variables e ≡ Some n → rvalue scopes e p ≡ Ok (t, q) → Keeps structs look temps n t

-- What an expression is turned into has C's value, also where a part of it is not evaluated. The variables that stand in
-- it hold numbers.
abbrev pub ExpressionsKeepTheirMeaning : Type 0
ExpressionsKeepTheirMeaning =
    (structs : Structs) (look : Look) (scopes : Scopes) (variables : List ℕ → ℤ) (temps : Temps) (e : e.CExpr) (n : Number) (p q : Progress) (t : Translated) →
    Holds (λ x. occurs x e) scopes variables temps → AreApart scopes → q.drawn < 2 ^ 64 → number structs scopes variables e ≡ Some n → rvalue scopes e p ≡ Ok (t, q) → RunsTo structs look temps n p.drawn q.drawn t

-- The machine comes from one configuration to another by steps that leave the memory as it is.
pub data Comes (P : Program) (m : Mem) : Config → Config → Type 0 where
  there : {c : Config} → Comes P m c c
  onward : {c d e : Config} → step P c m ≡ Next d m → Comes P m d e → Comes P m c e

-- What a run makes of the temporaries, the machine's steps make of them.
abbrev pub RunsAreSteps : Type 0
RunsAreSteps =
    (P : Program) (m : Mem) (s : Stmt) (k : Kont) (act : Act) (after : Temps) → run P.structs (look P act.blocks m) s act.temps ≡ Some after → Comes P m (Run s k act) (Run Skip k (record act { temps = after }))

-- The names of pulled reads differ from each other, and from what elaboration calls a variable.
abbrev pub PulledNamesDiffer : Type 0
PulledNamesDiffer = (j k : ℕ) → j < 2 ^ 64 → k < 2 ^ 64 → pulled_name j ≡ pulled_name k → j ≡ k

abbrev pub VariablesAreApart : Type 0
VariablesAreApart = (names : List (List ℕ)) (x : List ℕ) (j : ℕ) → has_mark x ≡ false → j < 2 ^ 64 → name_among names x ≢ pulled_name j

-- Temporaries that hold what their types allow hold whole numbers.
abbrev pub AllowedTemporariesHoldNumbers : Type 0
AllowedTemporariesHoldNumbers =
    (among : List ℕ → Bool) (scopes : Scopes) (temps : Temps) → AreAllowed among scopes temps → (variables : List ℕ → ℤ) × Holds among scopes variables temps
