use Rattle.std.proofs.Common.{rules, arith, ◌≡◌, refl}
use Rattle.std.specs.Prelude.{codes}
use Rattle.std.proofs.lemmas.Slice.Eq.{text_from_reads}
use Rattle.floyd_termread_tokens.proofs.words.value_word.Goals as goal

pub returns-in-Vundef : goal.returns-in-Vundef
returns-in-Vundef c = let same : c.args.text.now ≡ codes "Vundef" = text_from_reads c.args.text.now (codes "Vundef") (omega arith) (search rules) in rw same refl

pub returns-in-Vint : goal.returns-in-Vint
returns-in-Vint c = let same : c.args.text.now ≡ codes "Vint" = text_from_reads c.args.text.now (codes "Vint") (omega arith) (search rules) in rw same refl

pub returns-in-Vlong : goal.returns-in-Vlong
returns-in-Vlong c = let same : c.args.text.now ≡ codes "Vlong" = text_from_reads c.args.text.now (codes "Vlong") (omega arith) (search rules) in rw same refl

pub returns-in-nullval : goal.returns-in-nullval
returns-in-nullval c = let same : c.args.text.now ≡ codes "nullval" = text_from_reads c.args.text.now (codes "nullval") (omega arith) (search rules) in rw same refl

pub returns-in-112 : goal.returns-in-112
returns-in-112 c = let same : c.args.text.now ≡ codes "ptr_add" = text_from_reads c.args.text.now (codes "ptr_add") (omega arith) (search rules) in rw same refl

pub returns-in-vints : goal.returns-in-vints
returns-in-vints c = let same : c.args.text.now ≡ codes "vints" = text_from_reads c.args.text.now (codes "vints") (omega arith) (search rules) in rw same refl

pub returns-in-vlongs : goal.returns-in-vlongs
returns-in-vlongs c = let same : c.args.text.now ≡ codes "vlongs" = text_from_reads c.args.text.now (codes "vlongs") (omega arith) (search rules) in rw same refl

pub returns-in-fst : goal.returns-in-fst
returns-in-fst c = let same : c.args.text.now ≡ codes "fst" = text_from_reads c.args.text.now (codes "fst") (omega arith) (search rules) in rw same refl

pub returns-in-snd : goal.returns-in-snd
returns-in-snd c = let same : c.args.text.now ≡ codes "snd" = text_from_reads c.args.text.now (codes "snd") (omega arith) (search rules) in rw same refl

pub returns-in-len : goal.returns-in-len
returns-in-len c = let same : c.args.text.now ≡ codes "len" = text_from_reads c.args.text.now (codes "len") (omega arith) (search rules) in rw same refl

pub returns-in-nth : goal.returns-in-nth
returns-in-nth c = let same : c.args.text.now ≡ codes "nth" = text_from_reads c.args.text.now (codes "nth") (omega arith) (search rules) in rw same refl

pub returns-in-upd : goal.returns-in-upd
returns-in-upd c = let same : c.args.text.now ≡ codes "upd" = text_from_reads c.args.text.now (codes "upd") (omega arith) (search rules) in rw same refl

pub returns-in-rev : goal.returns-in-rev
returns-in-rev c = let same : c.args.text.now ≡ codes "rev" = text_from_reads c.args.text.now (codes "rev") (omega arith) (search rules) in rw same refl

pub returns-in-sum : goal.returns-in-sum
returns-in-sum c = let same : c.args.text.now ≡ codes "sum" = text_from_reads c.args.text.now (codes "sum") (omega arith) (search rules) in rw same refl

pub returns-in-sublist : goal.returns-in-sublist
returns-in-sublist c = let same : c.args.text.now ≡ codes "sublist" = text_from_reads c.args.text.now (codes "sublist") (omega arith) (search rules) in rw same refl

pub returns-in-repeat : goal.returns-in-repeat
returns-in-repeat c = let same : c.args.text.now ≡ codes "repeat" = text_from_reads c.args.text.now (codes "repeat") (omega arith) (search rules) in rw same refl

pub returns-in-Node : goal.returns-in-Node
returns-in-Node c = let same : c.args.text.now ≡ codes "Node" = text_from_reads c.args.text.now (codes "Node") (omega arith) (search rules) in rw same refl
