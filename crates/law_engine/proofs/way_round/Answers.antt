use Rattle.std.proofs.Common.{◌≡◌, ◌++◌, List, ℕ, length, drop, sym, subst}
use Rattle.abt_sections.specs.BootCanon.{boot_canon}
use Rattle.abt_sections.specs.Header.{OfVendor}
use Rattle.abt_sections.specs.Unpacked.{HoldsBoot, HoldsFragment, HoldsVendor}
use Rattle.abt_sections.specs.VendorCanon.{vendor_canon, vendor_header_of}
use Rattle.law_engine.proofs.WayRound.{carried, found_again}
use Rattle.law_engine.proofs.way_round.Goals as goal

pub returns-clause-boot : goal.returns-clause-boot
returns-clause-boot c s parts p q input way =
    let x = boot_canon s parts in
    let e = carried c.keeps_raw.ensures c.reads_back.ensures c.one_outcome.ensures x p q way in
    subst (λ (y : List ℕ). HoldsBoot y s parts) (sym e) (c.packed_holds_parts.ensures.boot s parts
    (drop (length x) q) input)

pub returns-clause-vendor : goal.returns-clause-vendor
returns-clause-vendor c s v p q input way =
    let x = vendor_canon s v in
    let e = carried c.keeps_raw.ensures c.reads_back.ensures c.one_outcome.ensures x p q way in
    subst (λ (y : List ℕ). HoldsVendor y s v) (sym e)
    (c.packed_holds_parts.ensures.vendor s v (drop (length x) q) input)

pub returns-clause-fragments : goal.returns-clause-fragments
returns-clause-fragments c s v p q k input four there way =
    let x = vendor_canon s v in
    let e = carried c.keeps_raw.ensures c.reads_back.ensures c.one_outcome.ensures x p q way in
    subst (λ (y : List ℕ). HoldsFragment y (OfVendor (vendor_header_of s v)) v.fragments v.ramdisks k) (sym e)
    (c.packed_holds_parts.ensures.fragments s v (drop (length x) q) k input four there)

pub returns-clause-found : goal.returns-clause-found
returns-clause-found c = found_again
