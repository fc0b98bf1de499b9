use Rattle.std.proofs.Common.{ap, codes}
use Rattle.sys_text.proofs.Printing.{◌▸◌, as_text}
use Rattle.cmd_unpack_aosp_texts.specs.Words.{low_option}
use Rattle.cmd_unpack_aosp_texts.proofs.words.vendor_front_words.Goals as goal

pub returns : goal.returns
returns g c =
    c.put_first_word.ensures ▸ c.put_number_value.ensures
    ▸ as_text (ap (low_option c.args.ending (codes "--pagesize")) c.bytes.ensures.value) c.put_low_option.ensures
    ▸ c.put_low_option-2.ensures ▸ c.put_low_option-3.ensures ▸ c.put_low_option-4.ensures
    ▸ c.put_low_option-5.ensures
    ▸ c.put_high_option.ensures ▸ c.put_field_option.ensures ▸ c.put_field_option-2.ensures ▸ c.part_option.ensures
