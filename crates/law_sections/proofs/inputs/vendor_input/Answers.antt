use Rattle.std.proofs.Common.{ℕ, ap, sym, ◌∙◌, length, map}
use Rattle.std.specs.List.{concat}
use Rattle.std.proofs.lemmas.List.{length-map}
use Rattle.abt_sections.specs.Fields.{vendor_fields}
use Rattle.abt_sections.specs.Refusal.{pack_vendor_refusal}
use Rattle.abt_sections.specs.VendorCanon.{vendor_sizes_for}
use Rattle.abt_sections.proofs.VendorCanons.{concat_size}
use Rattle.law_sections.proofs.inputs.vendor_input.Goals as goal

pub returns : goal.returns
returns g c = λ models none.
    let s = g.S.Source in
    let rs = c.args.ramdisks.now in
    let n = length c.args.fragments.now in
    let fields = vendor_fields c.args.spec.now in
    let ramdisk = concat_size s.size s.content rs (λ p. g.met.S.Source.sized p models) in
    let dtb = g.met.S.Source.sized c.args.dtb.now models in
    let config = g.met.S.Source.sized c.args.bootconfig.now models in
    record {
      numbers = c.vendor_numbers.ensures;
      fragments = c.fragments_fit.ensures;
      three = λ e. let t = c.requires.three e in (t.0, length-map rs s.content ∙ t.1, sym config ∙ t.2);
      four = λ e. c.requires.four e ∙ sym (length-map rs s.content);
      accepted =
          sym (
          ap (λ (k : ℕ). pack_vendor_refusal fields (vendor_sizes_for k (s.size c.args.dtb.now) n
          (s.size c.args.bootconfig.now))) ramdisk
          ∙ ap (λ (k : ℕ). pack_vendor_refusal fields (vendor_sizes_for (length (concat (map s.content rs))) k n
          (s.size c.args.bootconfig.now))) dtb
          ∙ ap (λ (k : ℕ). pack_vendor_refusal fields (vendor_sizes_for (length (concat (map s.content rs)))
          (length (s.content c.args.dtb.now)) n k)) config
          ) ∙ none;
    }
