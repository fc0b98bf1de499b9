use Rattle.std.proofs.Common.{◌≡◌, ◌+◌, inl, inr, ℕ, List, ap, ◌∙◌, map, length, take, arith, refl, sum, Option, None}
use Rattle.std.proofs.Common.{Err}
use Rattle.std.proofs.lemmas.Result.{err_from_is_err_and}
use Rattle.abt_io.proofs.Lent.{writes_ok, writes_then}
use Rattle.abt_sections.specs.declared.fault.SectionFault.{SectionFault}
use Rattle.abt_sections.specs.Refusal.{boot_names, or_else, pack_boot_refusal, size_refusal}
use Rattle.abt_sections.proofs.PackExits.{all_ok, grows_none, moves_broken, not_refused, packs_nothing, packs_refused}
use Rattle.std.proofs.lemmas.List.{length-map}
use Rattle.abt_headers.specs.Boot.{boot_page}
use Rattle.abt_headers.specs.Page.{page_bytes}
use Rattle.abt_sections.specs.Fields.{cmd_common_fields, filled}
use Rattle.abt_sections.specs.Broken.{IsBrokenOff}
use Rattle.abt_sections.specs.BootCanon.{boot_image_size, image_size}
use Rattle.abt_sections.specs.Cause.{total}
use Rattle.abt_sections.specs.Layout.{laid_size}
use Rattle.abt_sections.proofs.Causes.{on_err}
use Rattle.abt_sections.proofs.Sizing.{sizes_are, sum_of_sizes}
use Rattle.abt_sections.proofs.Canons.{size_is, once_size, once_written}
use Rattle.abt_sections.proofs.Magic.{opens_as_nothing}
use Rattle.abt_sections.proofs.Placing.{page_stands}
use Rattle.abt_sections.proofs.Beginnings.{same_sizes}
use Rattle.abt_sections.proofs.packing_once.pack_boot_once.Given.{Over}
use Rattle.abt_sections.proofs.packing_once.pack_boot_once.Goals.{In_ok-sizes}
use Rattle.abt_sections.proofs.packing_once.pack_boot_once.Goals as goal

-- the sizes that were reported are those of all parts
told : (g : Over) (c : In_ok-sizes g)
    → (let ps = c.args.parts.now in sum (take (length ps) c.in_ok-sizes.sizes) ≡ total g.S.Source.size ps)
told g c =
    let ps = c.args.parts.now in
    sum_of_sizes g.S.Source.size ps c.in_ok-sizes.sizes (length ps) c.in_ok-sizes.ensures.value.1 refl

-- a page and the parts have the size of the image
sized : (g : Over) (c : In_ok-sizes g)
    → (let page = page_bytes c.in_ok-page.page in let ps = c.args.parts.now in
    page + laid_size page (take (length ps) c.in_ok-sizes.sizes)
    ≡ boot_image_size (cmd_common_fields c.args.spec.now) (map g.S.Source.size ps))
sized g c =
    let f = g.S.Source.size in
    let ps = c.args.parts.now in
    once_size (cmd_common_fields c.args.spec.now) c.in_ok-page.page c.in_ok-sizes.sizes (map f ps) (length ps)
    c.in_ok-page.ensures.version c.in_ok-page.ensures.refused.value.1 c.in_ok-sizes.ensures.value.1
    (omega (arith, length-map ps f))

pub lay_header-requires-clause-zeros : goal.lay_header-requires-clause-zeros
lay_header-requires-clause-zeros g c =
    let old = g.O.Output.written c.args.output.now in
    rw c.position-at.ensures (page_stands old _ c.bytes.result (omega arith) c.in_ok-id.ensures.zeros)

-- where the fields and the sizes are taken nothing is refused
taken : (g : Over) (c : In_ok-sizes g)
    → pack_boot_refusal (cmd_common_fields c.args.spec.now) (map g.S.Source.size c.args.parts.now) ≡ None
taken g c =
    let names = boot_names c.args.spec.now.version in
    ap (λ (o : Option SectionFault). or_else o (size_refusal names (map g.S.Source.size c.args.parts.now)))
    c.in_ok-page.ensures.refused.value.0 ∙ c.in_ok-sizes.ensures.value.0

pub lay_header-requires-clause-stands : goal.lay_header-requires-clause-stands
lay_header-requires-clause-stands g c =
    omega (arith, c.position-at.ensures, c.in_ok-id.ensures.bytes.all, c.bytes.ensures.low)

-- the fields are refused
pub returns-in_err-page : goal.returns-in_err-page
returns-in_err-page g c =
    let p = err_from_is_err_and c.from_residual.result c.from_residual.ensures.1 in
    let is = p.1 ∙ ap (λ (e : SectionFault). Err e) p.2 in
    let zs = map g.S.Source.size c.args.parts.now in
    let refused = c.in_err-page.ensures.refused in
    record {
      packs = packs_nothing g.S.Source c.args.parts.now g.O.Output c.args.output.now c.args.spec.now.is_front_ended
          (cmd_common_fields c.args.spec.now) c.from_residual.result is
          (ap (λ (o : Option SectionFault). or_else o (size_refusal (boot_names c.args.spec.now.version) zs))
          refused.value)
          refused.failed;
      once = omega arith;
      broken = on_err _ (inl refl);
      grown = grows_none (g.O.Output.written c.args.output.now);
    }

-- the sizes are refused
pub returns-in_err-sizes : goal.returns-in_err-sizes
returns-in_err-sizes g c =
    let r = c.from_residual-in_err-sizes in
    let p = err_from_is_err_and r.result r.ensures.1 in
    let is = p.1 ∙ ap (λ (e : SectionFault). Err e) p.2 in
    let zs = map g.S.Source.size c.args.parts.now in
    let refused = c.in_err-sizes.ensures in
    record {
      packs = packs_nothing g.S.Source c.args.parts.now g.O.Output c.args.output.now c.args.spec.now.is_front_ended
          (cmd_common_fields c.args.spec.now) r.result is
          (ap (λ (o : Option SectionFault). or_else o (size_refusal (boot_names c.args.spec.now.version) zs))
          c.in_ok-page.ensures.refused.value.0 ∙ refused.value)
          refused.failed;
      once = omega arith;
      broken = on_err _ (inl refl);
      grown = grows_none (g.O.Output.written c.args.output.now);
    }

-- the parts are not all moved
pub returns-in_err-id : goal.returns-in_err-id
returns-in_err-id g c =
    let at = (goal.at.returns-in_err-id g c).In_ok-sizes in
    let r = c.from_residual-in_err-id in
    let p = err_from_is_err_and r.result r.ensures.1 in
    let is = p.1 ∙ ap (λ (e : SectionFault). Err e) p.2 in
    let e = c.in_err-id.ensures in
    let size = sized g at in
    let most = rw c.bytes.ensures.value at e.bytes.most in
    record {
      packs = packs_refused c.args.spec.now.is_front_ended (cmd_common_fields c.args.spec.now) r.result is (taken g at)
          e.parts.moves (λ changed models. changed models c.in_ok-sizes.ensures.value.1) (omega (arith, size, most));
      once = omega (arith, e.once, told g at);
      broken = on_err _ e.broken;
      grown = e.bytes.grown;
    }

-- the header is not laid
pub returns-in_err-lay_header : goal.returns-in_err-lay_header
returns-in_err-lay_header g c =
    let at = (goal.at.returns-in_err-lay_header g c).In_ok-sizes in
    let r = c.from_residual-in_err-lay_header in
    let p = err_from_is_err_and r.result r.ensures.1 in
    let is = p.1 ∙ ap (λ (e : SectionFault). Err e) p.2 in
    let w = g.O.Output.written in
    let e = c.in_ok-id.ensures in
    let lays = c.in_err-lay_header.ensures.lays in
    let size = sized g at in
    let all = rw c.bytes.ensures.value at e.bytes.all in
    let off : IsBrokenOff (w c.args.output.now) (w c.lay_header.new.output) =
    inr (opens_as_nothing _ (rw c.position-at.ensures at lays.broken)) in
    record {
      packs = packs_refused c.args.spec.now.is_front_ended (cmd_common_fields c.args.spec.now) r.result is (taken g at)
          (moves_broken ⊥ e.parts.moves lays.writes) (λ never models. never) (omega (arith, size, all, lays.long));
      once = omega (arith, e.once, told g at);
      broken = on_err _ off;
      grown = rw c.position-at.ensures at lays.before ∙ e.bytes.grown;
    }

pub returns-clause-once : goal.returns-clause-once
returns-clause-once g c =
    omega (arith, c.in_ok-id.ensures.once, told g (goal.at.returns-clause-once g c).In_ok-sizes)

pub returns-clause-grown : goal.returns-clause-grown
returns-clause-grown g c = rw c.position-at.ensures at c.lay_header.ensures.lays.before ∙ c.in_ok-id.ensures.bytes.grown

pub returns-clause-packs : goal.returns-clause-packs
returns-clause-packs g c =
    let s = g.S.Source in
    let ps = c.args.parts.now in
    let zs = map s.size ps in
    let fields = cmd_common_fields c.args.spec.now in
    let h = c.boot_header_for-header.result in
    let sizes = c.in_ok-sizes.sizes in
    let told = c.in_ok-sizes.ensures.value.1 in
    let e = c.in_ok-id.ensures in
    let laid = c.lay_header.ensures in
    let count = length c.write_behind.new.parts in
    let long : count ≡ length zs = omega (arith, length-map ps s.size) in
    let bytes : c.image_bytes.result ≡ boot_image_size fields zs =
    c.image_bytes.ensures
    ∙ ap (λ (q : ℕ). image_size q c.size.result (take count sizes)) c.page_size.ensures.value
    ∙ ap (λ (q : ℕ). image_size (boot_page h) q (take count sizes)) c.size.ensures
    ∙ size_is c.args.spec.now.is_front_ended fields c.in_ok-page.page sizes zs c.in_ok-id.id h count
    c.in_ok-page.ensures.version
    c.boot_header_for-header.ensures c.in_ok-page.ensures.refused.value.1 told long in
    let at = (goal.at.returns-clause-packs g c).In_ok-sizes in
    let size = sized g at in
    let all = rw c.bytes.ensures.value at e.bytes.all in
    record {
      reads = all_ok _ e.parts.moves.reads;
      writes = writes_ok _ (writes_then e.parts.moves.writes c.in_ok-lay_header.ensures.lays.writes.only);
      refused = not_refused _ _ (taken g at);
      written = λ models.
          once_written c.args.spec.now.is_front_ended fields c.in_ok-page.page sizes c.in_ok-id.id h (map s.content ps)
          (g.O.Output.written c.args.output.now) _ _ c.position-at.result c.in_ok-page.ensures.version
          c.boot_header_for-header.ensures c.in_ok-page.ensures.refused.value.1
          (told ∙ ap (λ (l : List ℕ). filled 5 l)
          (sizes_are s.size s.content ps (λ p. g.met.S.Source.sized p models)))
          (e.id models) laid.size c.position-at.ensures (rw c.bytes.ensures.value at (e.parts.written models))
          c.in_ok-lay_header.ensures.lays.written;
      most = omega (arith, size, all, laid.lays.long);
      packed = (bytes, omega (arith, bytes, size, all, laid.lays.long));
      lasting = same_sizes s.size ps c.write_behind.new.parts sizes (length ps) told refl e.parts.lasting;
      cause = tt;
    }
