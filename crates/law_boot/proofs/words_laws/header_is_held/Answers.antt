use Rattle.std.proofs.Common.{◌≡◌, ◌<◌, ◌^◌, ℕ, List, Some}
use Rattle.abt_io.specs.Bytes.{AreBytes}
use Rattle.abt_sections.specs.Header.{view_of}
use Rattle.cmd_common_fields.specs.Fields as fields
use Rattle.law_boot.proofs.WordsSay.{each_address, each_text}
use Rattle.law_boot.proofs.words_laws.header_is_held.Goals as goal

pub returns : goal.returns
returns c =
    let h = view_of c.args.header.now in
    record {
      addresses = each_address (λ a. (n : ℕ) → fields.address_of h a ≡ Some n
          → n < 2 ^ 64) c.address_fits.ensures c.address_fits-2.ensures c.address_fits-3.ensures
          c.address_fits-4.ensures c.address_fits-5.ensures;
      os = c.os_fits.ensures;
      texts = each_text (λ t. (field : List ℕ) → fields.field_of h t ≡ Some field
          → AreBytes field) c.text_is_bytes.ensures c.text_is_bytes-2.ensures c.text_is_bytes-3.ensures;
    }
