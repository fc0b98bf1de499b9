use Rattle.std.proofs.Common.{ℕ, refl, sym, ap, ◌∙◌, List, ◌++◌, drop}
use Rattle.abt_headers.specs.Field.{joined_fields}
use Rattle.abt_headers.specs.Vendor.{vendor_record, vendor_field_list, tail_fields, tail_view}
use Rattle.abt_headers.proofs.Fields.{put_more, joined-append}
use Rattle.abt_headers.proofs.vendor_writing.write_vendor_header.Goals as goal

pub returns-in-V3-clause-bytes : goal.returns-in-V3-clause-bytes
unfolding vendor_record
returns-in-V3-clause-bytes c = rw c.in-V3.is c.put_front.ensures.bytes

pub returns-in-V4-clause-bytes : goal.returns-in-V4-clause-bytes
unfolding vendor_record
returns-in-V4-clause-bytes c =
    let f = c.put_front-in-V4.ensures in
    let fs = vendor_field_list 4 c.in-V4.front in
    let ts = tail_fields (tail_view c.in-V4.tail) in
    let a = put_more (joined_fields fs) c.args.out.now c.put_front-in-V4.new.out c.put.new.out
    (joined_fields ts) 2112 16 f.long refl f.bytes (rw c.tail_bytes.ensures at c.put.ensures) in
    rw c.in-V4.is (a ∙ ap (λ (t : List ℕ). t ++ drop 2128 c.args.out.now) (sym (joined-append fs ts)))
