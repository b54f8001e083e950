-- What a script reads as, both ways.
use Rattle.std.proofs.Common.{◌≡◌, ℕ, true, ◌&&◌, List, [], ◌∷◌, ◌++◌, refl, sym, ap, subst, ◌∙◌, inl, inr, Option, Some, None, bytes_eq, codes}
use Rattle.std.proofs.lemmas.Bool.{cases_Bool, and_parts}
use Rattle.std.proofs.lemmas.List.{append_assoc, append-nil}
use Rattle.floyd_text.specs.declared.rule.Rule.{Rule}
use Rattle.floyd_text.specs.declared.place.Place.{Place}
use Rattle.floyd_lex.specs.Token.{Token}
use Rattle.floyd_stub_goal.specs.declared.script.Command.{Command}
use Rattle.floyd_stub_goal.specs.declared.script.Proof.{Proof}
use Rattle.floyd_check_stub.specs.Forms.{ReadsAs, IsScript, AreCommands, rule_of}
use Rattle.floyd_check_stub.specs.LeftClauses.{Begins, IsPlaced}
use Rattle.floyd_check_stub.specs.ReadingClauses.{with_rule, command_of, commands_of, script_of}
use Rattle.floyd_check_stub.proofs.Texts.{same, itself}

script_is : (x y : Proof) → Some x ≡ Some y → x ≡ y
script_is x y e = cc

equal : (x y : List ℕ) → x ≡ y → bytes_eq x y ≡ true
equal x y e = ap (bytes_eq x) (sym e) ∙ itself x

-- a command and its `;`
command_read : (word semicolon : List ℕ) (rule : Rule) → command_of word semicolon ≡ Some rule → (rule_of word ≡ Some rule) × (semicolon ≡ codes ";")
command_read word semicolon rule e = elim (cases_Bool (bytes_eq semicolon (codes ";"))) [
  | inl k ↦ (rw k at e, same semicolon (codes ";") k)
  | inr k ↦
      let wrong : None ≡ Some rule = rw k at e in
      absurd cc
]

command_given : (word semicolon : List ℕ) (rule : Rule) → rule_of word ≡ Some rule → semicolon ≡ codes ";" → command_of word semicolon ≡ Some rule
command_given word semicolon rule e f = rw (equal semicolon (codes ";") f) e

abbrev entry : Rule → Token → Command
entry rule c = record { rule = rule; place = c.place }

-- a command before the others
one_command : (before : List Command) (c s : Token) (ts : List Token) (rule : Rule) → command_of c.text s.text ≡ Some rule
    → commands_of before (c ∷ s ∷ ts) ≡ commands_of (before ++ entry rule c ∷ []) ts
one_command before c s ts rule e = rw e refl

-- commands are read as they are
commands_given : (before : List Command) (ts : List Token) (es : List Command) (end : Place) → AreCommands ts es end
    → commands_of before ts ≡ Some (record { name = codes "main"; commands = before ++ es; end = end })
commands_given before [] es end h = absurd h
commands_given before (q ∷ []) [] end h =
    let at : q.place ≡ end = sym h.2 in
    let all : before ≡ before ++ [] = sym (append-nil before) in
    rw (equal q.text (codes "QED") h.1) cc
commands_given before (q ∷ s ∷ ts) [] end h = absurd (more h.0)
  where
    more : s ∷ ts ≡ [] → ⊥
    more e = cc
commands_given before (c ∷ []) (e ∷ es) end h = absurd h
commands_given before (c ∷ s ∷ ts) (e ∷ es) end h =
    let first = entry e.rule c in
    let is : first ≡ e = ap (λ (p : Place). record { rule = e.rule; place = p }) (sym h.1) in
    let all : (before ++ first ∷ []) ++ es ≡ before ++ e ∷ es = append_assoc before (first ∷ []) es ∙ ap (λ (x : Command). before ++ x ∷ es) is in
    rw (command_given c.text s.text e.rule h.0 h.2) (commands_given (before ++ first ∷ []) ts es end h.3 ∙ ap (λ (x : List Command). Some (record { name = codes "main"; commands = x; end = end })) all)

-- what is read are commands
commands_read : (before : List Command) (ts : List Token) (script : Proof) → commands_of before ts ≡ Some script
    → (es : List Command) × (script.name ≡ codes "main") × (script.commands ≡ before ++ es) × AreCommands ts es script.end
commands_read before [] script e = absurd cc
commands_read before (q ∷ []) script e = elim (cases_Bool (bytes_eq q.text (codes "QED"))) [
  | inl k ↦
      let is : record { name = codes "main"; commands = before; end = q.place } ≡ script = script_is _ script (rw k at e) in
      ([], sym (ap (λ (s : Proof). s.name) is), sym (ap (λ (s : Proof). s.commands) is) ∙ sym (append-nil before), (refl, same q.text (codes "QED") k, sym (ap (λ (s : Proof). s.end) is)))
  | inr k ↦
      let wrong : None ≡ Some script = rw k at e in
      absurd cc
]
commands_read before (c ∷ s ∷ ts) script e = by_rule (command_of c.text s.text) refl e (λ r. commands_read (before ++ entry r c ∷ []) ts script)
  where
    by_rule : (o : Option Rule) → command_of c.text s.text ≡ o
        → with_rule (λ r. commands_of (before ++ entry r c ∷ []) ts) o ≡ Some script
        → ((r : Rule) → commands_of (before ++ entry r c ∷ []) ts ≡ Some script
        → (es : List Command) × (script.name ≡ codes "main") × (script.commands ≡ (before ++ entry r c ∷ []) ++ es) × AreCommands ts es script.end)
        → (es : List Command) × (script.name ≡ codes "main") × (script.commands ≡ before ++ es) × AreCommands (c ∷ s ∷ ts) es script.end
    by_rule None is e on = absurd cc
    by_rule (Some r) is e on =
        let first = entry r c in
        let rest = on r e in
        let command = command_read c.text s.text r is in
        (first ∷ rest.0, rest.1, rest.2 ∙ append_assoc before (first ∷ []) rest.0, (command.0, refl, command.1, rest.3))

script_given : (ts : List Token) (script : Proof) → IsScript ts script → script_of ts ≡ Some script
script_given [] script h = absurd h
script_given (p ∷ []) script h = absurd h
script_given (p ∷ n ∷ ts) script h =
    rw (equal p.text (codes "PROOF") h.0, equal n.text (codes "main") h.1) (commands_given [] ts script.commands script.end h.3
    ∙ ap (λ (name : List ℕ). Some (record { name = name; commands = script.commands; end = script.end })) (sym h.2))

script_read : (ts : List Token) (script : Proof) → script_of ts ≡ Some script → IsScript ts script
script_read [] script e = absurd cc
script_read (p ∷ []) script e = absurd cc
script_read (p ∷ n ∷ ts) script e = elim (cases_Bool (bytes_eq p.text (codes "PROOF") && bytes_eq n.text (codes "main"))) [
  | inl k ↦
      let both = and_parts (bytes_eq p.text (codes "PROOF")) (bytes_eq n.text (codes "main")) k in
      let read = commands_read [] ts script (rw k at e) in
      (same p.text (codes "PROOF") both.0, same n.text (codes "main") both.1, read.1, subst (λ (es : List Command). AreCommands ts es script.end) (sym read.2) read.3)
  | inr k ↦
      let wrong : None ≡ Some script = rw k at e in
      absurd cc
]

pub script_reads : (ts : List Token) → ReadsAs (IsScript ts) (script_of ts)
script_reads ts = by_answer (script_of ts) refl
  where
    by_answer : (o : Option Proof) → script_of ts ≡ o → ReadsAs (IsScript ts) o
    by_answer None e = λ s h.
        let wrong : None ≡ Some s = sym e ∙ script_given ts s h in
        absurd cc
    by_answer (Some s) e = script_read ts s e

pub same_script : (ts : List Token) (s t : Proof) → IsScript ts s → IsScript ts t → s ≡ t
same_script ts s t h k = script_is s t (sym (script_given ts s h) ∙ script_given ts t k)

-- a command that is read, where its texts and its place were had
pub command_first : (before : List Command) (ts rest more : List Token) (word semicolon : List ℕ) (place : Place) (rule : Rule)
    → Begins ts word rest → IsPlaced ts place → Begins rest semicolon more → Some rule ≡ command_of word semicolon
    → commands_of (before ++ record { rule = rule; place = place } ∷ []) more ≡ commands_of before ts
command_first before [] rest more word semicolon place rule h p k e = absurd h
command_first before (c ∷ []) rest more word semicolon place rule h p k e = absurd (subst (λ (us : List Token). Begins us semicolon more) (sym h.1) k)
command_first before (c ∷ s ∷ ts) rest more word semicolon place rule h p k e =
    let next : Begins (s ∷ ts) semicolon more = subst (λ (us : List Token). Begins us semicolon more) (sym h.1) k in
    let read : command_of c.text s.text ≡ Some rule = ap (λ (w : List ℕ). command_of w s.text) h.0 ∙ ap (command_of word) next.0 ∙ sym e in
    ap (commands_of (before ++ record { rule = rule; place = place } ∷ [])) (sym next.1)
    ∙ ap (λ (p : Place). commands_of (before ++ record { rule = rule; place = p } ∷ []) ts) (sym p)
    ∙ sym (one_command before c s ts rule read)
