use Rattle.std.proofs.Common.{◌≡◌, ℕ, arith, refl, ap, ◌∙◌, List, [], ◌++◌, length, drop, length-append}
use Rattle.byteorder.specs.Endian.{little_bytes}
use Rattle.abt_headers.proofs.Fields.{put_more, regroup_4}
use Rattle.abt_headers.proofs.boot_writing.put_short.Goals as goal

pub returns-clause-long : goal.returns-clause-long
returns-clause-long c =
    let f = c.args.front.now in
    let n16 : length f.reserved ≡ 16 = omega arith in
    let n1536 : length f.cmdline ≡ 1536 = omega arith in
    simp length-append (omega arith)

pub returns-clause-bytes : goal.returns-clause-bytes
returns-clause-bytes c =
    let old = c.args.out.now in
    let f = c.args.front.now in
    let h = c.short_head.result in
    let n : length h ≡ 24 = omega arith in
    let n16 : length f.reserved ≡ 16 = omega arith in
    let n1536 : length f.cmdline ≡ 1536 = omega arith in
    let v = little_bytes 4 c.args.version in
    let a1 = put_more [] old old c.put.new.out h 0 24 refl n refl c.put.ensures in
    let a2 = put_more h old c.put.new.out c.put-2.new.out f.reserved 24 16 n n16 a1 c.put-2.ensures in
    let a3 = put_more (h ++ f.reserved) old c.put-2.new.out c.put-3.new.out v 40 4
    (simp length-append (omega arith)) refl a2 (rw c.to_le_bytes.ensures at c.put-3.ensures) in
    let a4 = put_more ((h ++ f.reserved) ++ v) old c.put-3.new.out c.put-4.new.out f.cmdline 44 1536
    (simp length-append (omega arith)) n1536 a3 c.put-4.ensures in
    a4 ∙ regroup_4 h f.reserved v f.cmdline (drop 1580 old)
    ∙ ap (λ (t : List ℕ). (t ++ (f.reserved ++ (v ++ (f.cmdline ++ [])))) ++ drop 1580 old) c.short_head.ensures
