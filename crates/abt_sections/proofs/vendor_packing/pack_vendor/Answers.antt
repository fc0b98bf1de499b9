use Rattle.std.proofs.Common.{◌≡◌, ℕ, List, [], ◌∷◌, ◌+◌, ◌++◌, append-nil, arith, refl, ap, sym, ◌∙◌, length, map}
use Rattle.std.proofs.Common.{get_or, ◌*◌, None, Option, take, drop}
use Rattle.abt_sections.specs.declared.fault.SectionFault.{SectionFault}
use Rattle.std.specs.Prelude.{IsTrue}
use Rattle.std.specs.List.{concat}
use Rattle.std.proofs.Math.Nat.{le_refl}
use Rattle.abt_headers.specs.Page.{page_bytes}
use Rattle.abt_headers.specs.Vendor.{Vendor, vendor_view, vendor_page}
use Rattle.abt_sections.specs.Cause.{total}
use Rattle.abt_sections.specs.Fields.{vendor_fields}
use Rattle.abt_sections.specs.Layout.{laid}
use Rattle.abt_sections.specs.Refusal.{pack_vendor_refusal, or_else, size_refusal, vendor_names}
use Rattle.abt_sections.specs.VendorCanon.{vendor_parts, first_sections, first_size, vendor_header_for, vendor_canon}
use Rattle.abt_sections.specs.VendorCanon.{vendor_header_of, vendor_page_for, vendor_sizes_for, table_for, table_place}
use Rattle.std.proofs.Common.{Some, Err}
use Rattle.std.proofs.lemmas.Result.{err_from_is_err_and}
use Rattle.abt_io.proofs.Lent.{reads_err, reads_none, reads_ok, reads_then, writes_err, writes_ok, writes_then}
use Rattle.abt_sections.specs.Cause.{PackCause}
use Rattle.abt_sections.proofs.PackExits.{all_err, all_kept, all_ok, all_read, begins_none, beside_move, if_err}
use Rattle.abt_sections.proofs.PackExits.{if_refused, not_if_ok, not_ok, not_refused, one_err, refused_before}
use Rattle.abt_sections.proofs.PackExits.{wrote_err, wrote_nothing}
use Rattle.abt_sections.proofs.Causes.{third_move, pack_moves}
use Rattle.abt_sections.proofs.Growing.{begins_then, begins_stop, begins_is, then_all}
use Rattle.abt_sections.proofs.Sizing.{sizes_are}
use Rattle.abt_sections.proofs.VendorCanons.{header_is, concat_size, canon_is, rest_for, rest_3, rest_4, page_is}
use Rattle.abt_sections.proofs.VendorCanons.{first_fits, total_same, first_place}
use Rattle.abt_sections.proofs.vendor_packing.pack_vendor.Given.{Over}
use Rattle.abt_sections.proofs.vendor_packing.pack_vendor.Goals.{After-vendor_header_for-header}
use Rattle.abt_sections.proofs.vendor_packing.pack_vendor.Goals.{In_ok-write_first_sections}
use Rattle.abt_sections.proofs.vendor_packing.pack_vendor.Goals as goal

-- the first sections and the rest are the one image
canon : (g : Over) (c : After-vendor_header_for-header g) → IsTrue g.S.Source.models
    → (let s = g.S.Source in let fields = vendor_fields c.args.spec.now in
    let parts = vendor_parts c.args.fragments.now (map s.content c.args.ramdisks.now) (s.content c.args.dtb.now)
    (s.content c.args.bootconfig.now) in
    first_sections (vendor_view c.vendor_header_for-header.result) (concat (map s.content c.args.ramdisks.now))
    (s.content c.args.dtb.now) ++ rest_for fields parts ≡ vendor_canon fields parts)
canon g c models =
    let s = g.S.Source in
    let fields = vendor_fields c.args.spec.now in
    let parts = vendor_parts c.args.fragments.now (map s.content c.args.ramdisks.now) (s.content c.args.dtb.now)
    (s.content c.args.bootconfig.now) in
    let v = vendor_view c.vendor_header_for-header.result in
    canon_is fields parts v
    (header_is fields parts c.in_ok-page.page c.in_ok-sizes.sizes (length c.args.fragments.now)
    (total s.size c.args.ramdisks.now) (s.size c.args.dtb.now) (s.size c.args.bootconfig.now) v
    c.vendor_header_for-header.ensures c.in_ok-page.ensures.refused.value.1 c.in_ok-sizes.ensures.value.1
    (concat_size s.size s.content c.args.ramdisks.now (λ p. g.met.S.Source.sized p models))
    (g.met.S.Source.sized c.args.dtb.now models) refl (g.met.S.Source.sized c.args.bootconfig.now models))

-- the first sections have the size that the fields say
first_sized : (g : Over) (c : After-vendor_header_for-header g)
    → (let s = g.S.Source in let count = length c.args.fragments.now in
    let ramdisk = total s.size c.args.ramdisks.now in let dtb = s.size c.args.dtb.now in
    let zs = vendor_sizes_for ramdisk dtb count (s.size c.args.bootconfig.now) in let sizes = c.in_ok-sizes.sizes in
    first_size (vendor_view c.vendor_header_for-header.result) (get_or sizes 0 0) (get_or sizes 1 0)
    ≡ first_size (vendor_header_for (vendor_fields c.args.spec.now) c.in_ok-page.page zs count) ramdisk dtb)
first_sized g c =
    let fields = vendor_fields c.args.spec.now in
    let count = length c.args.fragments.now in
    let page = c.in_ok-page.page in
    let sizes = c.in_ok-sizes.sizes in
    let zs = vendor_sizes_for (total g.S.Source.size c.args.ramdisks.now) (g.S.Source.size c.args.dtb.now) count
    (g.S.Source.size c.args.bootconfig.now) in
    let z : sizes ≡ zs = c.in_ok-sizes.ensures.value.1 in
    ap (λ (u : Vendor). first_size u (get_or sizes 0 0) (get_or sizes 1 0)) (c.vendor_header_for-header.ensures
    ∙ ap (λ (l : List ℕ). vendor_header_for fields page l count) z)
    ∙ ap (λ (l : List ℕ). first_size (vendor_header_for fields page zs count) (get_or l 0 0) (get_or l 1 0)) z

-- after them comes the rest of version 4
rest_is : (g : Over) (c : In_ok-write_first_sections g) → IsTrue g.S.Source.models → (c.args.spec.now.version ≡ 3 → ⊥)
    → (let s = g.S.Source in
    let parts = vendor_parts c.args.fragments.now (map s.content c.args.ramdisks.now) (s.content c.args.dtb.now)
    (s.content c.args.bootconfig.now) in
    laid c.bytes-bytes.result (table_for c.args.fragments.now (map s.size c.write_first_sections.new.ramdisks) 0
    ∷ s.content c.args.bootconfig.now ∷ []) ≡ rest_for (vendor_fields c.args.spec.now) parts)
rest_is g c models other =
    let s = g.S.Source in
    let fields = vendor_fields c.args.spec.now in
    let fs = c.args.fragments.now in
    let config = s.content c.args.bootconfig.now in
    let parts = vendor_parts fs (map s.content c.args.ramdisks.now) (s.content c.args.dtb.now) config in
    let sizes = map s.size c.write_first_sections.new.ramdisks in
    let same : sizes ≡ map length (map s.content c.args.ramdisks.now) =
    c.in_ok-write_first_sections.ensures.moves.reads.size models
    ∙ sizes_are s.size s.content c.args.ramdisks.now (λ p. g.met.S.Source.sized p models) in
    let page : c.bytes-bytes.result ≡ vendor_page (vendor_header_of fields parts) =
    c.bytes-bytes.ensures.value ∙ ap page_bytes c.in_ok-page.ensures.refused.value.1
    ∙ sym (page_is fields (vendor_page_for fields) (vendor_sizes_for
    (length (concat (map s.content c.args.ramdisks.now))) (length (s.content c.args.dtb.now)) (length fs)
    (length config)) (length fs)) in
    ap (λ (q : ℕ). laid q (table_for fs sizes 0 ∷ config ∷ [])) page
    ∙ ap (λ (l : List ℕ). laid (vendor_page (vendor_header_of fields parts)) (table_for fs l 0 ∷ config ∷ [])) same
    ∙ sym (rest_4 fields parts other)

-- where the fields and the sizes are taken nothing is refused
taken : (g : Over) (c : After-vendor_header_for-header g)
    → pack_vendor_refusal (vendor_fields c.args.spec.now) (vendor_sizes_for (total g.S.Source.size c.args.ramdisks.now)
    (g.S.Source.size c.args.dtb.now) (length c.args.fragments.now) (g.S.Source.size c.args.bootconfig.now)) ≡ None
taken g c =
    let zs = vendor_sizes_for (total g.S.Source.size c.args.ramdisks.now) (g.S.Source.size c.args.dtb.now)
    (length c.args.fragments.now) (g.S.Source.size c.args.bootconfig.now) in
    ap (λ (r : Option SectionFault). or_else r (size_refusal vendor_names zs)) c.in_ok-page.ensures.refused.value.0
    ∙ c.in_ok-sizes.ensures.value.0

-- the fields are refused
pub returns-in_err-page : goal.returns-in_err-page
returns-in_err-page g c =
    let s = g.S.Source in
    let f = c.in_err-page.field-0.0 in
    let p = err_from_is_err_and c.from_residual.result c.from_residual.ensures.1 in
    let is = p.1 ∙ ap (λ (e : SectionFault). Err e) p.2 in
    let refused = c.in_err-page.ensures.refused in
    let zs = vendor_sizes_for (total s.size c.args.ramdisks.now) (s.size c.args.dtb.now) (length c.args.fragments.now)
    (s.size c.args.bootconfig.now) in
    let refusal = pack_vendor_refusal (vendor_fields c.args.spec.now) zs in
    let t = total s.read_faults c.args.ramdisks.now + s.read_faults c.args.dtb.now
    + s.read_faults c.args.bootconfig.now in
    let n = g.O.Output.write_faults c.args.output.now in
    let some : refusal ≡ Some f =
    ap (λ (r : Option SectionFault). or_else r (size_refusal vendor_names zs)) refused.value in
    record {
      reads = all_read _ s c.args.ramdisks.now;
      dtb = reads_none _ s c.args.dtb.now;
      bootconfig = reads_none _ s c.args.bootconfig.now;
      writes = wrote_nothing c.args.output.now is refused.failed;
      refused = if_refused _ some (is, refl);
      written = λ models. not_ok _ is;
      front = λ models. begins_none _ _;
      table = λ four. not_ok _ is;
      most = omega arith;
      packed = not_if_ok _ is;
      lasting = not_ok _ is;
      cause = if_err (λ e. PackCause refusal e t t n n (IsTrue s.models → ⊥)) is
          (refused_before refusal f t t n n (IsTrue s.models → ⊥) some);
    }

-- the sizes are refused
pub returns-in_err-sizes : goal.returns-in_err-sizes
returns-in_err-sizes g c =
    let s = g.S.Source in
    let f = c.in_err-sizes.field-0.0 in
    let r = c.from_residual-in_err-sizes in
    let p = err_from_is_err_and r.result r.ensures.1 in
    let is = p.1 ∙ ap (λ (e : SectionFault). Err e) p.2 in
    let refused = c.in_err-sizes.ensures in
    let zs = vendor_sizes_for (total s.size c.args.ramdisks.now) (s.size c.args.dtb.now) (length c.args.fragments.now)
    (s.size c.args.bootconfig.now) in
    let refusal = pack_vendor_refusal (vendor_fields c.args.spec.now) zs in
    let t = total s.read_faults c.args.ramdisks.now + s.read_faults c.args.dtb.now
    + s.read_faults c.args.bootconfig.now in
    let n = g.O.Output.write_faults c.args.output.now in
    let some : refusal ≡ Some f =
    ap (λ (o : Option SectionFault). or_else o (size_refusal vendor_names zs)) c.in_ok-page.ensures.refused.value.0
    ∙ refused.value in
    record {
      reads = all_read _ s c.args.ramdisks.now;
      dtb = reads_none _ s c.args.dtb.now;
      bootconfig = reads_none _ s c.args.bootconfig.now;
      writes = wrote_nothing c.args.output.now is refused.failed;
      refused = if_refused _ some (is, refl);
      written = λ models. not_ok _ is;
      front = λ models. begins_none _ _;
      table = λ four. not_ok _ is;
      most = omega arith;
      packed = not_if_ok _ is;
      lasting = not_ok _ is;
      cause = if_err (λ e. PackCause refusal e t t n n (IsTrue s.models → ⊥)) is
          (refused_before refusal f t t n n (IsTrue s.models → ⊥) some);
    }

-- the first sections are not all written
pub returns-in_err-write_first_sections : goal.returns-in_err-write_first_sections
returns-in_err-write_first_sections g c =
    let at = (goal.at.returns-in_err-write_first_sections g c).After-vendor_header_for-header in
    let s = g.S.Source in
    let w = g.O.Output.write_faults in
    let f = c.in_err-write_first_sections.field-0.0 in
    let r = c.from_residual-in_err-write_first_sections in
    let p = err_from_is_err_and r.result r.ensures.1 in
    let is = p.1 ∙ ap (λ (e : SectionFault). Err e) p.2 in
    let e = c.in_err-write_first_sections.ensures in
    let new = c.write_first_sections.new in
    let zs = vendor_sizes_for (total s.size c.args.ramdisks.now) (s.size c.args.dtb.now) (length c.args.fragments.now)
    (s.size c.args.bootconfig.now) in
    let z : c.in_ok-sizes.sizes ≡ zs = c.in_ok-sizes.ensures.value.1 in
    let none = taken g at in
    let refusal = pack_vendor_refusal (vendor_fields c.args.spec.now) zs in
    let t = total s.read_faults c.args.ramdisks.now + s.read_faults c.args.dtb.now in
    let t' = total s.read_faults new.ramdisks + s.read_faults new.dtb in
    let config = s.read_faults c.args.bootconfig.now in
    let count = length c.args.fragments.now in
    let fits = first_fits (vendor_fields c.args.spec.now) c.in_ok-page.page (total s.size c.args.ramdisks.now)
    (s.size c.args.dtb.now) (108 * count) (s.size c.args.bootconfig.now) count c.in_ok-page.ensures.refused.value.1 in
    let size = first_sized g at in
    record {
      reads = all_err is e.moves.reads;
      dtb = one_err is e.moves.more;
      bootconfig = reads_none _ s c.args.bootconfig.now;
      writes = wrote_err is e.moves.writes;
      refused = not_refused _ _ none;
      written = λ models. not_ok _ is;
      front = λ models. begins_is _ _ _ _ (canon g at models) (begins_stop _ _ _ _ (e.front models));
      table = λ four. not_ok _ is;
      most = omega (arith, e.bytes.most, size, fits);
      packed = not_if_ok _ is;
      lasting = not_ok _ is;
      cause = if_err (λ h. PackCause refusal h (t + config) (t' + config) (w c.args.output.now) (w new.output)
          (IsTrue s.models → ⊥)) is
          (pack_moves refusal f (t + config) (t' + config) (w c.args.output.now) (w new.output) (IsTrue s.models → ⊥)
          none (beside_move f t t' config (w c.args.output.now) (w new.output)
          (IsTrue s.models → s.size c.args.dtb.now ≡ get_or c.in_ok-sizes.sizes 1 0 → ⊥) (IsTrue s.models → ⊥)
          (λ changed models. changed models (sym (ap (λ (l : List ℕ). get_or l 1 0) z))) e.moves.cause));
    }

pub returns-then-spec-eq3-clause-reads : goal.returns-then-spec-eq3-clause-reads
returns-then-spec-eq3-clause-reads g c = all_ok _ c.in_ok-write_first_sections.ensures.moves.reads

pub returns-then-spec-eq3-clause-dtb : goal.returns-then-spec-eq3-clause-dtb
returns-then-spec-eq3-clause-dtb g c = reads_ok _ c.in_ok-write_first_sections.ensures.moves.more

pub returns-then-spec-eq3-clause-bootconfig : goal.returns-then-spec-eq3-clause-bootconfig
returns-then-spec-eq3-clause-bootconfig g c = reads_none _ g.S.Source c.args.bootconfig.now

pub returns-then-spec-eq3-clause-writes : goal.returns-then-spec-eq3-clause-writes
returns-then-spec-eq3-clause-writes g c = writes_ok _ c.in_ok-write_first_sections.ensures.moves.writes

pub returns-then-spec-eq3-clause-refused : goal.returns-then-spec-eq3-clause-refused
returns-then-spec-eq3-clause-refused g c =
    not_refused _ _ (taken g (goal.at.returns-then-spec-eq3-clause-refused g c).After-vendor_header_for-header)

pub returns-then-spec-eq3-clause-table : goal.returns-then-spec-eq3-clause-table
returns-then-spec-eq3-clause-table g c = λ four. absurd (omega (arith, four, c.if-spec-eq3.true))

pub returns-then-spec-eq3-clause-lasting : goal.returns-then-spec-eq3-clause-lasting
returns-then-spec-eq3-clause-lasting g c =
    let e = c.in_ok-write_first_sections.ensures.lasting in (e.0, e.2 ∙ sym e.1, refl)

pub returns-in-Err-clause-reads : goal.returns-in-Err-clause-reads
returns-in-Err-clause-reads g c = all_kept _ c.in_ok-write_first_sections.ensures.moves.reads

pub returns-in-Err-clause-dtb : goal.returns-in-Err-clause-dtb
returns-in-Err-clause-dtb g c = reads_then c.in_ok-write_first_sections.ensures.moves.more (reads_none _ _ _)

pub returns-in-Err-clause-bootconfig : goal.returns-in-Err-clause-bootconfig
returns-in-Err-clause-bootconfig g c = reads_err _ c.in-Err.ensures.moves.reads

pub returns-in-Err-clause-writes : goal.returns-in-Err-clause-writes
returns-in-Err-clause-writes g c =
    writes_then c.in_ok-write_first_sections.ensures.moves.writes (writes_err _ c.in-Err.ensures.moves.writes)

pub returns-in-Err-clause-refused : goal.returns-in-Err-clause-refused
returns-in-Err-clause-refused g c =
    not_refused _ _ (taken g (goal.at.returns-in-Err-clause-refused g c).After-vendor_header_for-header)

pub returns-clause-reads : goal.returns-clause-reads
returns-clause-reads g c = all_ok _ c.in_ok-write_first_sections.ensures.moves.reads

pub returns-clause-dtb : goal.returns-clause-dtb
returns-clause-dtb g c = reads_ok _ c.in_ok-write_first_sections.ensures.moves.more

pub returns-clause-bootconfig : goal.returns-clause-bootconfig
returns-clause-bootconfig g c = reads_ok _ c.in-Ok.ensures.moves.reads

pub returns-clause-writes : goal.returns-clause-writes
returns-clause-writes g c =
    writes_ok _ (writes_then c.in_ok-write_first_sections.ensures.moves.writes c.in-Ok.ensures.moves.writes)

pub returns-clause-refused : goal.returns-clause-refused
returns-clause-refused g c =
    not_refused _ _ (taken g (goal.at.returns-clause-refused g c).After-vendor_header_for-header)

pub returns-clause-lasting : goal.returns-clause-lasting
returns-clause-lasting g c =
    let e = c.in_ok-write_first_sections.ensures.lasting in
    let last = c.in-Ok.ensures.lasting in
    (e.0, e.2 ∙ sym e.1, last.1 ∙ sym last.0)

pub returns-then-spec-eq3-clause-written : goal.returns-then-spec-eq3-clause-written
returns-then-spec-eq3-clause-written g c = λ models.
    let s = g.S.Source in
    let fields = vendor_fields c.args.spec.now in
    let parts = vendor_parts c.args.fragments.now (map s.content c.args.ramdisks.now) (s.content c.args.dtb.now)
    (s.content c.args.bootconfig.now) in
    let first = first_sections (vendor_view c.vendor_header_for-header.result)
    (concat (map s.content c.args.ramdisks.now)) (s.content c.args.dtb.now) in
    let whole = canon g ((goal.at.returns-then-spec-eq3-clause-written g c).After-vendor_header_for-header) models in
    c.in_ok-write_first_sections.ensures.written models
    ∙ ap (λ (l : List ℕ). g.O.Output.written c.args.output.now ++ l)
    (sym (append-nil first) ∙ ap (λ (l : List ℕ). first ++ l) (sym (rest_3 fields parts c.if-spec-eq3.true)) ∙ whole)

pub returns-then-spec-eq3-clause-front : goal.returns-then-spec-eq3-clause-front
returns-then-spec-eq3-clause-front g c = λ models.
    begins_is _ _ _ _ (canon g ((goal.at.returns-then-spec-eq3-clause-front g c).After-vendor_header_for-header) models)
    (begins_stop _ _ _ _ (c.in_ok-write_first_sections.ensures.front models))

pub returns-in-Err-clause-front : goal.returns-in-Err-clause-front
returns-in-Err-clause-front g c = λ models.
    let at = goal.at.returns-in-Err-clause-front g c in
    begins_is _ _ _ _ (canon g at.After-vendor_header_for-header models)
    (begins_then _ _ _ _ _ (c.in_ok-write_first_sections.ensures.written models)
    (begins_is _ _ _ _ (rest_is g at.In_ok-write_first_sections models c.if-spec-eq3.false)
    (c.in-Err.ensures.front models))
    c.in-Err.ensures.moves.writes.least)

pub returns-in-Err-clause-cause : goal.returns-in-Err-clause-cause
returns-in-Err-clause-cause g c =
    let s = g.S.Source in
    let f = s.read_faults in
    let w = g.O.Output.write_faults in
    let first = c.write_first_sections.new in
    let last = c.write_table_and_bootconfig.new in
    let config = s.size c.args.bootconfig.now in
    let zs = vendor_sizes_for (total s.size c.args.ramdisks.now) (s.size c.args.dtb.now) (length c.args.fragments.now)
    config in
    let refusal = pack_vendor_refusal (vendor_fields c.args.spec.now) zs in
    let none : refusal ≡ None =
    ap (λ (r : Option SectionFault). or_else r (size_refusal vendor_names zs)) c.in_ok-page.ensures.refused.value.0
    ∙ c.in_ok-sizes.ensures.value.0 in
    let z : c.in_ok-sizes.sizes ≡ zs = c.in_ok-sizes.ensures.value.1 in
    let e = c.in_ok-write_first_sections.ensures in
    pack_moves refusal c.in-Err.fault _ _ _ _ (IsTrue s.models → ⊥) none
    (third_move c.in-Err.fault (total f c.args.ramdisks.now) (total f first.ramdisks) (f c.args.dtb.now) (f first.dtb)
    (f c.args.bootconfig.now) (f last.bootconfig) (w c.args.output.now) (w first.output) (w last.output)
    (w last.output) (IsTrue s.models → config ≡ get_or c.in_ok-sizes.sizes 3 0 → ⊥) (IsTrue s.models → ⊥)
    e.moves.reads.faults e.moves.more.faults e.moves.writes.faults (le_refl _)
    (λ changed models. changed models (sym (ap (λ (l : List ℕ). get_or l 3 0) z)))
    c.in-Err.ensures.moves.cause)

pub returns-clause-written : goal.returns-clause-written
returns-clause-written g c = λ models.
    let s = g.S.Source in
    let at = goal.at.returns-clause-written g c in
    let first = first_sections (vendor_view c.vendor_header_for-header.result)
    (concat (map s.content c.args.ramdisks.now)) (s.content c.args.dtb.now) in
    let rest = rest_is g at.In_ok-write_first_sections models c.if-spec-eq3.false in
    then_all _ _ _ first _ (c.in_ok-write_first_sections.ensures.written models) (c.in-Ok.ensures.written models)
    ∙ ap (λ (l : List ℕ). g.O.Output.written c.args.output.now ++ l)
    (ap (λ (l : List ℕ). first ++ l) rest ∙ canon g at.After-vendor_header_for-header models)

pub returns-clause-front : goal.returns-clause-front
returns-clause-front g c = λ models.
    let at = goal.at.returns-clause-front g c in
    begins_is _ _ _ _ (canon g at.After-vendor_header_for-header models)
    (begins_then _ _ _ _ _ (c.in_ok-write_first_sections.ensures.written models)
    (begins_is _ _ _ _ (rest_is g at.In_ok-write_first_sections models c.if-spec-eq3.false)
    (c.in-Ok.ensures.front models))
    c.in-Ok.ensures.moves.writes.least)

pub returns-clause-table : goal.returns-clause-table
returns-clause-table g c = λ four.
    let s = g.S.Source in
    let o = g.O.Output in
    let fields = vendor_fields c.args.spec.now in
    let count = length c.args.fragments.now in
    let ramdisk = total s.size c.args.ramdisks.now in
    let dtb = s.size c.args.dtb.now in
    let config = s.size c.args.bootconfig.now in
    let zs = vendor_sizes_for ramdisk dtb count config in
    let fs = c.args.fragments.now in
    let e = c.in_ok-write_first_sections.ensures in
    let page = c.in_ok-page.page in
    let size = first_sized g ((goal.at.returns-clause-table g c).After-vendor_header_for-header) in
    let place : length (o.written c.write_first_sections.new.output) ≡ length
    (o.written c.args.output.now) + table_place fields zs =
    e.bytes.all ∙ ap (λ (n : ℕ). length (o.written c.args.output.now) + n) (size ∙ first_place fields page ramdisk dtb
    (108 * count) config count c.in_ok-page.ensures.refused.value.1 c.if-spec-eq3.false) in
    ap (λ (n : ℕ). take (108 * count) (drop n (o.written c.write_table_and_bootconfig.new.output))) (sym place)
    ∙ c.in-Ok.ensures.table
    ∙ ap (λ (l : List ℕ). table_for fs l 0) e.lasting.0

pub write_table_and_bootconfig-requires-clause-ramdisk : goal.write_table_and_bootconfig-requires-clause-ramdisk
write_table_and_bootconfig-requires-clause-ramdisk g c =
    let s = g.S.Source in
    let ps = c.args.ramdisks.now in
    let zs = vendor_sizes_for (total s.size ps) (s.size c.args.dtb.now) (length c.args.fragments.now)
    (s.size c.args.bootconfig.now) in
    let z : c.in_ok-sizes.sizes ≡ zs = c.in_ok-sizes.ensures.value.1 in
    total_same s.size c.write_first_sections.new.ramdisks ps c.in_ok-write_first_sections.ensures.lasting.0
    ∙ sym (ap (λ (l : List ℕ). get_or l 0 0) z)
