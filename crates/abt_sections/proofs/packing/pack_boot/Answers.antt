use Rattle.std.proofs.Common.{◌≡◌, ◌++◌, ℕ, List, ap, sym, ◌∙◌, map, length, take, arith, Option, None, Err}
use Rattle.std.proofs.lemmas.Result.{err_from_is_err_and}
use Rattle.abt_io.proofs.Lent.{writes_ok}
use Rattle.abt_sections.specs.declared.fault.SectionFault.{SectionFault}
use Rattle.abt_sections.specs.Refusal.{boot_names, or_else, pack_boot_refusal, size_refusal}
use Rattle.abt_sections.proofs.PackExits.{all_after, begins_none, moves_behind, moves_nothing, not_refused}
use Rattle.abt_sections.proofs.PackExits.{packs_nothing, packs_refused}
use Rattle.std.proofs.lemmas.List.{length-map}
use Rattle.std.specs.Prelude.{IsTrue}
use Rattle.abt_sections.specs.Fields.{cmd_common_fields, filled}
use Rattle.abt_sections.specs.BootCanon.{boot_image, boot_image_size, boot_image_with, image_size}
use Rattle.abt_headers.specs.Boot.{boot_page, boot_size}
use Rattle.abt_sections.proofs.Sizing.{sizes_are}
use Rattle.abt_sections.proofs.Canons.{canon_is, size_is}
use Rattle.abt_sections.proofs.Growing.{begins_is}
use Rattle.abt_sections.proofs.Beginnings.{same_sizes}
use Rattle.abt_sections.proofs.packing.pack_boot.Given.{Over}
use Rattle.abt_sections.proofs.packing.pack_boot.Goals.{After-boot_header_for-header, In_ok-sizes}
use Rattle.abt_sections.proofs.packing.pack_boot.Goals as goal

-- the image of the header that was made is the one image
canon : (g : Over) (c : After-boot_header_for-header g) → IsTrue g.S.Source.models
    → (let s = g.S.Source in boot_image c.boot_header_for-header.result (map s.content c.id_for.new.parts)
    ≡ boot_image_with c.args.spec.now.is_front_ended (cmd_common_fields c.args.spec.now)
    (map s.content c.args.parts.now))
canon g c models =
    let s = g.S.Source in
    let sizes = c.in_ok-sizes.ensures.value.1
    ∙ ap (λ (l : List ℕ). filled 5 l)
    (sizes_are s.size s.content c.args.parts.now (λ p. g.met.S.Source.sized p models)) in
    canon_is c.args.spec.now.is_front_ended (cmd_common_fields c.args.spec.now) c.in_ok-page.page c.in_ok-sizes.sizes
    c.in_ok-id.id
    c.boot_header_for-header.result (map s.content c.args.parts.now) (map s.content c.id_for.new.parts)
    c.boot_header_for-header.ensures c.in_ok-page.ensures.refused.value.1 sizes (c.in_ok-id.ensures.id models)
    (c.in_ok-id.ensures.reads.only.content models)

-- and has its size, by so many reported sizes as there are parts
sized : (g : Over) (c : After-boot_header_for-header g) (n : ℕ) → n ≡ length (map g.S.Source.size c.args.parts.now)
    → (let h = c.boot_header_for-header.result in
    image_size (boot_page h) (boot_size h) (take n c.in_ok-sizes.sizes)
    ≡ boot_image_size (cmd_common_fields c.args.spec.now) (map g.S.Source.size c.args.parts.now))
sized g c n long =
    size_is c.args.spec.now.is_front_ended (cmd_common_fields c.args.spec.now) c.in_ok-page.page c.in_ok-sizes.sizes
    (map g.S.Source.size c.args.parts.now)
    c.in_ok-id.id c.boot_header_for-header.result n c.in_ok-page.ensures.version c.boot_header_for-header.ensures
    c.in_ok-page.ensures.refused.value.1 c.in_ok-sizes.ensures.value.1 long

-- where the fields and the sizes are taken nothing is refused
taken : (g : Over) (c : In_ok-sizes g)
    → pack_boot_refusal (cmd_common_fields c.args.spec.now) (map g.S.Source.size c.args.parts.now) ≡ None
taken g c =
    let names = boot_names c.args.spec.now.version in
    ap (λ (o : Option SectionFault). or_else o (size_refusal names (map g.S.Source.size c.args.parts.now)))
    c.in_ok-page.ensures.refused.value.0 ∙ c.in_ok-sizes.ensures.value.0

-- the fields are refused
pub returns-in_err-page : goal.returns-in_err-page
returns-in_err-page g c =
    let p = err_from_is_err_and c.from_residual.result c.from_residual.ensures.1 in
    let is = p.1 ∙ ap (λ (e : SectionFault). Err e) p.2 in
    let zs = map g.S.Source.size c.args.parts.now in
    let refused = c.in_err-page.ensures.refused in
    record {
      packs = packs_nothing g.S.Source c.args.parts.now g.O.Output c.args.output.now c.args.spec.now.is_front_ended
          (cmd_common_fields c.args.spec.now) c.from_residual.result is
          (ap (λ (o : Option SectionFault). or_else o (size_refusal (boot_names c.args.spec.now.version) zs))
          refused.value)
          refused.failed;
      front = λ models. begins_none _ _;
    }

-- the sizes are refused
pub returns-in_err-sizes : goal.returns-in_err-sizes
returns-in_err-sizes g c =
    let r = c.from_residual-in_err-sizes in
    let p = err_from_is_err_and r.result r.ensures.1 in
    let is = p.1 ∙ ap (λ (e : SectionFault). Err e) p.2 in
    let zs = map g.S.Source.size c.args.parts.now in
    let refused = c.in_err-sizes.ensures in
    record {
      packs = packs_nothing g.S.Source c.args.parts.now g.O.Output c.args.output.now c.args.spec.now.is_front_ended
          (cmd_common_fields c.args.spec.now) r.result is
          (ap (λ (o : Option SectionFault). or_else o (size_refusal (boot_names c.args.spec.now.version) zs))
          c.in_ok-page.ensures.refused.value.0 ∙ refused.value)
          refused.failed;
      front = λ models. begins_none _ _;
    }

-- the parts can't be hashed
pub returns-in_err-id : goal.returns-in_err-id
returns-in_err-id g c =
    let at = (goal.at.returns-in_err-id g c).In_ok-sizes in
    let r = c.from_residual-in_err-id in
    let p = err_from_is_err_and r.result r.ensures.1 in
    let is = p.1 ∙ ap (λ (e : SectionFault). Err e) p.2 in
    record {
      packs = packs_refused {X = Unit {0}} c.args.spec.now.is_front_ended (cmd_common_fields c.args.spec.now) r.result
          is (taken g at) (moves_nothing g.O.Output c.args.output.now c.in_err-id.ensures.reads)
          (λ changed models. changed models c.in_ok-sizes.ensures.value.1) (omega arith);
      front = λ models. begins_none _ _;
    }

pub returns-in_err-write_image-clause-front : goal.returns-in_err-write_image-clause-front
returns-in_err-write_image-clause-front g c = λ models.
    let at = goal.at.returns-in_err-write_image-clause-front g c in
    begins_is _ _ _ _ (canon g at.After-boot_header_for-header models) (c.in_err-write_image.ensures.front models)

pub returns-clause-front : goal.returns-clause-front
returns-clause-front g c = λ models.
    let at = goal.at.returns-clause-front g c in
    begins_is _ _ _ _ (canon g at.After-boot_header_for-header models) (c.in_ok-write_image.ensures.front models)

pub returns-in_err-write_image-clause-packs : goal.returns-in_err-write_image-clause-packs
returns-in_err-write_image-clause-packs g c =
    let at = goal.at.returns-in_err-write_image-clause-packs g c in
    let r = c.from_residual-in_err-write_image in
    let p = err_from_is_err_and r.result r.ensures.1 in
    let is = p.1 ∙ ap (λ (e : SectionFault). Err e) p.2 in
    let s = g.S.Source in
    let long = length-map c.args.parts.now s.size in
    let size = sized g at.After-boot_header_for-header (length c.id_for.new.parts) (omega (arith, long)) in
    let e = c.in_err-write_image.ensures in
    let k = c.in_ok-id.ensures.reads.only in
    packs_refused c.args.spec.now.is_front_ended (cmd_common_fields c.args.spec.now) r.result is
    (taken g at.In_ok-sizes)
    (moves_behind k e.parts.moves (λ changed models. changed models (c.in_ok-sizes.ensures.value.1
    ∙ ap (λ (l : List ℕ). filled 5 l) (sym (k.size models)))))
    (λ never. never) (omega (arith, size, e.bytes.most))

pub returns-clause-packs : goal.returns-clause-packs
returns-clause-packs g c =
    let s = g.S.Source in
    let at = (goal.at.returns-clause-packs g c).After-boot_header_for-header in
    let h = c.boot_header_for-header.result in
    let sizes = c.in_ok-sizes.sizes in
    let count = length c.write_image.new.parts in
    let long = length-map c.args.parts.now s.size in
    let bytes : c.image_bytes.result ≡ boot_image_size (cmd_common_fields c.args.spec.now)
    (map s.size c.args.parts.now) =
    c.image_bytes.ensures
    ∙ ap (λ (q : ℕ). image_size q c.size.result (take count sizes)) c.page_size.ensures.value
    ∙ ap (λ (q : ℕ). image_size (boot_page h) q (take count sizes)) c.size.ensures
    ∙ sized g at count (omega (arith, long)) in
    let size = sized g at (length c.id_for.new.parts) (omega (arith, long)) in
    let e = c.in_ok-write_image.ensures in
    record {
      reads = all_after _ c.in_ok-id.ensures.reads.only e.parts.moves.reads;
      writes = writes_ok _ e.parts.moves.writes;
      refused = not_refused _ _ (taken g (goal.at.returns-clause-packs g c).In_ok-sizes);
      written = λ models. e.parts.written models
          ∙ ap (λ (l : List ℕ). g.O.Output.written c.args.output.now ++ l) (canon g at models);
      most = omega (arith, size, e.bytes.most);
      packed = (bytes, omega (arith, bytes, size, e.bytes.all));
      lasting = same_sizes s.size c.args.parts.now c.write_image.new.parts sizes (length c.id_for.new.parts)
          c.in_ok-sizes.ensures.value.1 (omega arith) e.parts.lasting;
      cause = tt;
    }
