use Rattle.std.proofs.Common.{rules, arith, ◌≡◌, refl}
use Rattle.std.specs.Prelude.{codes}
use Rattle.std.proofs.lemmas.Slice.Eq.{text_from_reads}
use Rattle.floyd_termread_tokens.proofs.words.type_word.Goals as goal

pub returns-in-void : goal.returns-in-void
returns-in-void c = let same : c.args.text.now ≡ codes "void" = text_from_reads c.args.text.now (codes "void") (omega arith) (search rules) in rw same refl

pub returns-in-char : goal.returns-in-char
returns-in-char c = let same : c.args.text.now ≡ codes "char" = text_from_reads c.args.text.now (codes "char") (omega arith) (search rules) in rw same refl

pub returns-in-uchar : goal.returns-in-uchar
returns-in-uchar c = let same : c.args.text.now ≡ codes "uchar" = text_from_reads c.args.text.now (codes "uchar") (omega arith) (search rules) in rw same refl

pub returns-in-short : goal.returns-in-short
returns-in-short c = let same : c.args.text.now ≡ codes "short" = text_from_reads c.args.text.now (codes "short") (omega arith) (search rules) in rw same refl

pub returns-in-ushort : goal.returns-in-ushort
returns-in-ushort c = let same : c.args.text.now ≡ codes "ushort" = text_from_reads c.args.text.now (codes "ushort") (omega arith) (search rules) in rw same refl

pub returns-in-int : goal.returns-in-int
returns-in-int c = let same : c.args.text.now ≡ codes "int" = text_from_reads c.args.text.now (codes "int") (omega arith) (search rules) in rw same refl

pub returns-in-uint : goal.returns-in-uint
returns-in-uint c = let same : c.args.text.now ≡ codes "uint" = text_from_reads c.args.text.now (codes "uint") (omega arith) (search rules) in rw same refl

pub returns-in-long : goal.returns-in-long
returns-in-long c = let same : c.args.text.now ≡ codes "long" = text_from_reads c.args.text.now (codes "long") (omega arith) (search rules) in rw same refl

pub returns-in-ulong : goal.returns-in-ulong
returns-in-ulong c = let same : c.args.text.now ≡ codes "ulong" = text_from_reads c.args.text.now (codes "ulong") (omega arith) (search rules) in rw same refl

pub returns-in-ptr : goal.returns-in-ptr
returns-in-ptr c = let same : c.args.text.now ≡ codes "ptr" = text_from_reads c.args.text.now (codes "ptr") (omega arith) (search rules) in rw same refl

pub returns-in-struct : goal.returns-in-struct
returns-in-struct c = let same : c.args.text.now ≡ codes "struct" = text_from_reads c.args.text.now (codes "struct") (omega arith) (search rules) in rw same refl

pub returns-in-array : goal.returns-in-array
returns-in-array c = let same : c.args.text.now ≡ codes "array" = text_from_reads c.args.text.now (codes "array") (omega arith) (search rules) in rw same refl

pub returns-in-fn : goal.returns-in-fn
returns-in-fn c = let same : c.args.text.now ≡ codes "fn" = text_from_reads c.args.text.now (codes "fn") (omega arith) (search rules) in rw same refl
