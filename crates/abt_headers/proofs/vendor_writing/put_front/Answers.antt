use Rattle.std.proofs.Common.{◌≡◌, ℕ, arith, refl, ap, ◌∙◌, List, [], ◌++◌, length, drop, length-append}
use Rattle.byteorder.specs.Endian.{little_bytes}
use Rattle.abt_headers.specs.Field.{joined_fields}
use Rattle.abt_headers.specs.Vendor.{vendor_end}
use Rattle.abt_headers.proofs.Fields.{put_more, regroup_ends}
use Rattle.abt_headers.proofs.vendor_writing.put_front.Goals as goal

pub returns-clause-long : goal.returns-clause-long
returns-clause-long c =
    let f = c.args.front.now in
    let n16 : length f.name ≡ 16 = omega arith in
    let n2048 : length f.cmdline ≡ 2048 = omega arith in
    simp length-append (omega arith)

pub returns-clause-bytes : goal.returns-clause-bytes
returns-clause-bytes c =
    let old = c.args.out.now in
    let f = c.args.front.now in
    let h = c.front_head.result in
    let n : length h ≡ 28 = omega arith in
    let n16 : length f.name ≡ 16 = omega arith in
    let n2048 : length f.cmdline ≡ 2048 = omega arith in
    let t = little_bytes 4 f.tags_addr in
    let z = joined_fields (vendor_end f) in
    let a1 = put_more [] old old c.put.new.out h 0 28 refl n refl c.put.ensures in
    let a2 = put_more h old c.put.new.out c.put-2.new.out f.cmdline 28 2048 n n2048 a1 c.put-2.ensures in
    let a3 = put_more (h ++ f.cmdline) old c.put-2.new.out c.put-3.new.out t 2076 4
    (simp length-append (omega arith)) refl a2 (rw c.to_le_bytes.ensures at c.put-3.ensures) in
    let a4 = put_more ((h ++ f.cmdline) ++ t) old c.put-3.new.out c.put-4.new.out f.name 2080 16
    (simp length-append (omega arith)) n16 a3 c.put-4.ensures in
    let a5 = put_more (((h ++ f.cmdline) ++ t) ++ f.name) old c.put-4.new.out c.put-5.new.out z 2096 16
    (simp length-append (omega arith)) refl a4 (rw c.front_end.ensures at c.put-5.ensures) in
    a5 ∙ regroup_ends h f.cmdline t f.name z (drop 2112 old)
    ∙ ap (λ (u : List ℕ). (u ++ (f.cmdline ++ (t ++ (f.name ++ z)))) ++ drop 2112 old) c.front_head.ensures
