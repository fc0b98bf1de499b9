use Rattle.std.proofs.Common.{◌≡◌, ℕ, arith, refl, ap, ◌∙◌, List, [], ◌++◌, length, replicate, length-append}
use Rattle.std.proofs.Common.{append_assoc, append-nil}
use Rattle.abt_headers.specs.Field.{joined_fields}
use Rattle.abt_headers.specs.Entry.{entry_record, words_fields}
use Rattle.abt_headers.proofs.Fields.{put_more}
use Rattle.abt_headers.proofs.entry.entry_bytes.Goals as goal

regroup : (h a b : List ℕ) → ((h ++ a) ++ b) ++ [] ≡ h ++ (a ++ b)
regroup h a b = simp (append_assoc, append-nil)

pub returns : goal.returns
unfolding entry_record
returns c =
    let e = c.args.entry.now in
    let old : List ℕ = replicate 108 0 in
    let h = c.entry_head.result in
    let z = joined_fields (words_fields e.board_id) in
    let n : length h ≡ 12 = omega arith in
    let n32 : length e.name ≡ 32 = omega arith in
    let n64 : length c.words_bytes.result ≡ 64 = omega arith in
    let a1 = put_more [] old old c.put.new.out h 0 12 refl n refl c.put.ensures in
    let a2 = put_more h old c.put.new.out c.put-2.new.out e.name 12 32 n n32 a1 c.put-2.ensures in
    let a3 = put_more (h ++ e.name) old c.put-2.new.out c.put-3.new.out c.words_bytes.result 44 64
    (simp length-append (omega arith)) n64 a2 c.put-3.ensures in
    a3 ∙ regroup h e.name c.words_bytes.result
    ∙ ap (λ (l : List ℕ). h ++ (e.name ++ l)) c.words_bytes.ensures
    ∙ ap (λ (l : List ℕ). l ++ (e.name ++ z)) c.entry_head.ensures
