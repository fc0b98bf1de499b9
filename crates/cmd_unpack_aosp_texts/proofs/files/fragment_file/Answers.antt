use Rattle.std.proofs.Common.{◌∙◌, ℕ, List, Bor, ap}
use Rattle.cmd_unpack_aosp_texts.proofs.Listed.{listed_name}
use Rattle.cmd_unpack_aosp_texts.proofs.files.fragment_file.Goals as goal

pub returns-in-Some : goal.returns-in-Some
returns-in-Some c =
    let found = c.in-Some.ensures.lookup in
    ap (λ (r : Bor (List ℕ)). r.now) found.1
    ∙ listed_name (λ (r : Bor (List ℕ)). r.now) c.listed.result.now c.args.index _ c.listed.ensures.names found.3.0
