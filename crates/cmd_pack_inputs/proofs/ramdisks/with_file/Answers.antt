use Rattle.std.proofs.Common.{◌≡◌, ◌∙◌, sym}
use Rattle.std.specs.Prelude.{Ok}
use Rattle.cmd_common_boot.specs.Sources.{content_of, faults_of}
use Rattle.cmd_pack_inputs.proofs.Gathered.{fragment_added, fragment_unread}
use Rattle.cmd_pack_inputs.proofs.Openings.{only_counting, only_then, opens_file, stops_lacking, stops_more}
use Rattle.cmd_pack_inputs.proofs.ramdisks.with_file.Goals as goal

pub returns-in-Ok-with : goal.returns-in-Ok-with
returns-in-Ok-with g c = record {
  added = λ t.
      fragment_added {E = Unit {0}} (Ok c.in-Ok-with.more) (λ x. x.specs.items) (λ x. x.sources.items)
      (content_of g.D.At.Source.content) _ c.args.fragment.now c.in-Some.spec c.in-Ok.source
      c.as_slice-path.result.now _ _ c.args.ramdisks.specs.items c.args.ramdisks.sources.items c.in-Some.is
      c.as_slice-path.ensures.value (c.in-Ok.ensures.opens.opened t) c.in-Ok-with.ensures.specs
      c.in-Ok-with.ensures.sources;
  opens = let opens = c.in-Ok.ensures.opens in
      record {
        unread = λ t. fragment_unread {E = Unit {0}} (Ok c.in-Ok-with.more) (λ x. x.sources.items)
            (faults_of g.D.At.Source.read_faults) c.in-Ok.source c.args.ramdisks.sources.items (opens.unread t)
            c.in-Ok-with.ensures.sources;
        opened = λ t. opens_file (λ path. path ≡ c.args.fragment.now.path.items) _ c.as_slice-path.result.now
            (content_of g.D.At.Source.content c.in-Ok.source) _ _ (opens.opened t)
            (λ p is. is ∙ sym c.as_slice-path.ensures.value);
        refused = λ t. tt;
        keeps = opens.keeps;
      };
}

pub returns-in-Ok : goal.returns-in-Ok
returns-in-Ok g c = record {
  added = λ t. tt;
  opens = let opens = c.in-Ok.ensures.opens in
      record {
        unread = λ t. tt;
        opened = λ t. tt;
        refused = λ t. stops_lacking (λ path. path ≡ c.args.fragment.now.path.items) _ _ _ _ c.memory.result.fault
            (opens_file (λ path. path ≡ c.args.fragment.now.path.items) _ c.as_slice-path.result.now
            (content_of g.D.At.Source.content c.in-Ok.source) _ _ (opens.opened t)
            (λ p is. is ∙ sym c.as_slice-path.ensures.value)) c.memory.ensures (c.no_memory.ensures.held t);
        keeps = λ t. only_then (opens.keeps t) (only_counting c.no_memory.ensures t);
      };
}

pub returns : goal.returns
returns g c = record {
  added = λ t. tt;
  opens = record {
    unread = λ t. tt;
    opened = λ t. tt;
    refused = λ t.
        stops_more (λ path. path ≡ c.as_slice-path.result.now) (λ path. path ≡ c.args.fragment.now.path.items) _ _
        c.in-Err.refusal.fault (c.in-Err.ensures.refused t) (λ p is. is ∙ c.as_slice-path.ensures.value);
    keeps = c.in-Err.ensures.opens.keeps;
  };
}
