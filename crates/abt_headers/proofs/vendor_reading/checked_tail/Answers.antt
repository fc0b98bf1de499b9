use Rattle.abt_headers.proofs.VendorLaws.{tail_right, tail_wrong}
use Rattle.abt_headers.proofs.vendor_reading.checked_tail.Goals as goal

pub returns-then-entry_size-ne-ENTRY_SIZE : goal.returns-then-entry_size-ne-ENTRY_SIZE
returns-then-entry_size-ne-ENTRY_SIZE c =
    tail_wrong c.args.bytes.now _ _ _ _ c.u32_at-table_size.ensures c.u32_at-entry_num.ensures
    c.u32_at-entry_size.ensures c.u32_at-bootconfig_size.ensures (λ i j. c.if-entry_size-ne-ENTRY_SIZE.true i)

pub returns-then-table_size-entry_num : goal.returns-then-table_size-entry_num
returns-then-table_size-entry_num c =
    tail_wrong c.args.bytes.now _ _ _ _ c.u32_at-table_size.ensures c.u32_at-entry_num.ensures
    c.u32_at-entry_size.ensures c.u32_at-bootconfig_size.ensures (λ i j. c.if-table_size-entry_num.true j)

pub returns : goal.returns
returns c = tail_right c.args.bytes.now _ _ _ _ c.u32_at-table_size.ensures c.u32_at-entry_num.ensures
    c.u32_at-entry_size.ensures c.u32_at-bootconfig_size.ensures c.if-entry_size-ne-ENTRY_SIZE.false
    c.if-table_size-entry_num.false
