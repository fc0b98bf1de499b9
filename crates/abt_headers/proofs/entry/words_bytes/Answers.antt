use Rattle.std.proofs.Common.{◌∙◌}
use Rattle.abt_headers.proofs.EntryLaws.{words_flat}
use Rattle.abt_headers.proofs.entry.words_bytes.Goals as goal

pub returns : goal.returns
returns c = c.write_u32_into.ensures ∙ words_flat c.args.words.now
