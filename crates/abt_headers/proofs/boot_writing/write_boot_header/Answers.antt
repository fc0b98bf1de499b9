use Rattle.std.proofs.Common.{◌≡◌, ℕ, ◌+◌, refl, sym, ap, ◌∙◌, List, [], ◌∷◌, ◌++◌, length, drop, length-append}
use Rattle.byteorder.specs.Endian.{little_bytes}
use Rattle.abt_headers.specs.Field.{joined_fields}
use Rattle.abt_headers.specs.Boot.{boot_record, front_fields, dtbo_fields, dtb_fields, short_fields}
use Rattle.abt_headers.proofs.Fields.{put_more, joined-append}
use Rattle.abt_headers.proofs.boot_writing.write_boot_header.Goals as goal

pub returns-in-V0-clause-bytes : goal.returns-in-V0-clause-bytes
unfolding boot_record
returns-in-V0-clause-bytes c = rw c.in-V0.is c.put_front.ensures.bytes

pub returns-in-V1-clause-bytes : goal.returns-in-V1-clause-bytes
unfolding boot_record
returns-in-V1-clause-bytes c =
    let f = c.put_front-in-V1.ensures in
    let fs = front_fields 1 c.in-V1.front in
    let a = put_more (joined_fields fs) c.args.out.now c.put_front-in-V1.new.out c.put.new.out
    (joined_fields (dtbo_fields c.in-V1.dtbo)) 1632 16 f.long refl f.bytes
    (rw c.dtbo_bytes.ensures at c.put.ensures) in
    rw c.in-V1.is (a ∙ ap (λ (t : List ℕ). t ++ drop 1648 c.args.out.now)
    (sym (joined-append fs (dtbo_fields c.in-V1.dtbo))))

pub returns-in-V2-clause-bytes : goal.returns-in-V2-clause-bytes
unfolding boot_record
returns-in-V2-clause-bytes c =
    let f = c.put_front-in-V2.ensures in
    let old = c.args.out.now in
    let fs = front_fields 2 c.in-V2.front in
    let ds = dtbo_fields c.in-V2.dtbo in
    let ts = dtb_fields c.in-V2.dtb in
    let a = put_more (joined_fields fs) old c.put_front-in-V2.new.out c.put-in-V2.new.out
    (joined_fields ds) 1632 16 f.long refl f.bytes (rw c.dtbo_bytes-in-V2.ensures at c.put-in-V2.ensures) in
    let long : length (joined_fields fs ++ joined_fields ds) ≡ 1648 =
    length-append (joined_fields fs) (joined_fields ds) ∙ ap (λ (n : ℕ). n + 16) f.long in
    let b = put_more (joined_fields fs ++ joined_fields ds) old c.put-in-V2.new.out c.put-in-V2-2.new.out
    (joined_fields ts) 1648 12 long refl a (rw c.dtb_bytes.ensures at c.put-in-V2-2.ensures) in
    rw c.in-V2.is (b ∙ ap (λ (t : List ℕ). (t ++ joined_fields ts) ++ drop 1660 old) (sym (joined-append fs ds))
    ∙ ap (λ (t : List ℕ). t ++ drop 1660 old) (sym (joined-append (fs ++ ds) ts)))

pub returns-in-V3-clause-bytes : goal.returns-in-V3-clause-bytes
unfolding boot_record
returns-in-V3-clause-bytes c = rw c.in-V3.is c.put_short.ensures.bytes

pub returns-in-V4-clause-bytes : goal.returns-in-V4-clause-bytes
unfolding boot_record
returns-in-V4-clause-bytes c =
    let f = c.put_short-in-V4.ensures in
    let fs = short_fields 4 c.in-V4.front in
    let ss = little_bytes 4 c.in-V4.signature_size ∷ [] in
    let a = put_more (joined_fields fs) c.args.out.now c.put_short-in-V4.new.out c.put-in-V4.new.out
    (joined_fields ss) 1580 4 f.long refl f.bytes (rw c.to_le_bytes.ensures at c.put-in-V4.ensures) in
    rw c.in-V4.is (a ∙ ap (λ (t : List ℕ). t ++ drop 1584 c.args.out.now) (sym (joined-append fs ss)))
