use Rattle.std.proofs.Common.{sym, ap}
use Rattle.cmd_common_listing.specs.Listing.{kind_text}
use Rattle.sys_text.proofs.Printing.{◌▸◌, as_text}
use Rattle.cmd_common_listing.proofs.lines.put_kind.Goals as goal

pub returns-in-Raw : goal.returns-in-Raw
returns-in-Raw g c = as_text (ap (λ k. kind_text k c.args.blocks c.args.word) (sym c.in-Raw.is))
    (c.word.ensures ▸ c.number.ensures)

pub returns-in-Fill : goal.returns-in-Fill
returns-in-Fill g c =
    as_text (ap (λ k. kind_text k c.args.blocks c.args.word) (sym c.in-Fill.is))
    (c.word-in-Fill.ensures ▸ c.number-in-Fill.ensures ▸ c.word-in-Fill-2.ensures ▸ as_text c.digits_of.ensures
    c.put.ensures)

pub returns-in-Skip : goal.returns-in-Skip
returns-in-Skip g c = as_text (ap (λ k. kind_text k c.args.blocks c.args.word) (sym c.in-Skip.is))
    (c.word-in-Skip.ensures ▸ c.number-in-Skip.ensures)

pub returns-in-Crc : goal.returns-in-Crc
returns-in-Crc g c =
    as_text (ap (λ k. kind_text k c.args.blocks c.args.word) (sym c.in-Crc.is))
    (c.word-in-Crc.ensures ▸ as_text c.digits_of-in-Crc.ensures c.put-in-Crc.ensures)
