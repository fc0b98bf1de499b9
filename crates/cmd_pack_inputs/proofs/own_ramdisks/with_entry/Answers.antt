use Rattle.std.proofs.Common.{◌∙◌, ◌≡◌, ap, arith, ◌+◌, take, drop, ◌++◌, ◌∷◌, []}
use Rattle.cmd_pack_inputs.specs.Own.{no_path}
use Rattle.cmd_common_boot.specs.Sources.{content_of, faults_of}
use Rattle.cmd_pack_inputs.proofs.Openings.{only_counting, only_then, opens_none, stops_lacking, stops_once}
use Rattle.cmd_common_boot.proofs.Calls.{same_counting}
use Rattle.cmd_pack_inputs.proofs.Owns.{push_bytes, push_unread}
use Rattle.cmd_pack_inputs.proofs.own_ramdisks.with_entry.Goals as goal

pub returns-in-Err : goal.returns-in-Err
returns-in-Err g c = record {
  specs = tt;
  bytes = λ t. tt;
  opens = let fails = c.in-Err.ensures.opens.fails in
      record {
        unread = λ t. tt;
        held = λ t. tt;
        refused = λ t. stops_once no_path _ _ _ (fails.held t);
        keeps = only_counting fails;
      };
}

pub returns-in-Err-with : goal.returns-in-Err-with
returns-in-Err-with g c = record {
  specs = tt;
  bytes = λ t. tt;
  opens = let fails = c.in-Ok.ensures.opens.fails in
      record {
        unread = λ t. tt;
        held = λ t. tt;
        refused = λ t. stops_lacking no_path (g.D.Disk.world c.args.disk.now) _ _ _ c.memory.result.fault
            (opens_none no_path (g.D.Disk.world c.args.disk.now) _ _ (fails.held t ∙ same_counting _) (λ p is. is))
            c.memory.ensures (c.no_memory.ensures.held t);
        keeps = λ t. only_then (only_counting fails t) (only_counting c.no_memory.ensures t);
      };
}

pub returns-in-Ok-with : goal.returns-in-Ok-with
returns-in-Ok-with g c = record {
  specs = c.in-Ok-with.ensures.specs ∙ ap (λ s. c.args.ramdisks.specs.items ++ (s ∷ [])) c.spec_of.ensures;
  bytes = λ t.
      let at = g.D.At.Source in
      let here : c.saturating_add-at.result ≡ c.args.front + c.args.entry.now.ramdisk_offset = search (arith) in
      push_bytes (content_of at.content) (faults_of at.read_faults) _ _ _ _ c.in-Ok-with.ensures.sources
      (c.in-Ok.ensures.opens.part t
      ∙ ap (λ k. take c.args.entry.now.ramdisk_size (drop k (at.content c.args.own.now.source))) here);
  opens = let at = g.D.At.Source in
      let opens = c.in-Ok.ensures.opens in
      record {
        unread = λ t. push_unread (content_of at.content) (faults_of at.read_faults) _ _ _ c.in-Ok-with.ensures.sources
            (opens.unread t);
        held = λ t. opens.fails.held t ∙ same_counting _;
        refused = λ t. tt;
        keeps = only_counting opens.fails;
      };
}
