use Rattle.std.proofs.Common.{◌∙◌, ap, map}
use Rattle.abt_sections.specs.Cause.{total}
use Rattle.cmd_pack_outputs.specs.Contents.{packing_of}
use Rattle.cmd_common_boot.specs.Sources.{content_of, faults_of}
use Rattle.cmd_pack.proofs.Again.{asked_again, behind_stops, board_stops, boards_set, filling_stops, opens_given}
use Rattle.cmd_pack.proofs.Again.{none_unread, parts_stop}
use Rattle.cmd_pack_inputs.specs.Parts.{IsFragmentInput, of_fragment}
use Rattle.cmd_pack_inputs.proofs.Openings.{only_counting, only_then}
use Rattle.cmd_pack.proofs.repack.contents_of.Goals as goal

pub returns-in-Err : goal.returns-in-Err
returns-in-Err g c = record {
  asked = λ t. tt;
  behind = λ t. tt;
  fills = record {
    kind = tt;
    nothing = tt;
    unread = λ t. tt;
    opened = λ t. tt;
    keeps = c.in-Err.ensures.opens.keeps;
  };
  refused = λ t.
      filling_stops c.args.command.now _ _ _ (IsFragmentInput c.args.command.now.texts.fragments.items) _ _ _ _
      (λ path is. of_fragment is) (c.in-Err.ensures.opens.refused t) c.into.ensures;
}

pub returns-in-Err-open_parts : goal.returns-in-Err-open_parts
returns-in-Err-open_parts g c = record {
  asked = λ t. tt;
  behind = λ t. tt;
  fills = record {
    kind = tt;
    nothing = tt;
    unread = λ t. tt;
    opened = λ t. tt;
    keeps = λ t. only_then (c.in-Ok.ensures.opens.keeps t) (c.in-Err-open_parts.ensures.opens.keeps t);
  };
  refused = λ t.
      parts_stop c.args.command.now _ _ _ _ _ _ _ _ _ c.requires.own.kind (c.in-Ok.ensures.opens.opened t)
      (c.in-Err-open_parts.ensures.opens.refused t) c.into-in-Err-open_parts.ensures;
}

pub returns-in-Err-with_board_ids : goal.returns-in-Err-with_board_ids
returns-in-Err-with_board_ids g c = record {
  asked = λ t. tt;
  behind = λ t. tt;
  fills = record {
    kind = tt;
    nothing = tt;
    unread = λ t. tt;
    opened = λ t. tt;
    keeps = λ t. only_then (c.in-Ok.ensures.opens.keeps t) (c.in-Ok-open_parts.ensures.opens.keeps t);
  };
  refused = λ t.
      board_stops c.args.command.now _ _ _ _ _ _ _ _ (c.in-Ok.ensures.fragments t) c.as_slice.ensures.value
      c.in-Err-with_board_ids.ensures.refused;
}

pub returns-in-Ok-trailing_of : goal.returns-in-Ok-trailing_of
returns-in-Ok-trailing_of g c = record {
  asked = λ t.
      let content = content_of g.D.At.Source.content in
      asked_again c.args.command.now _ _ _ _ c.args.kind _ (packing_of content c.filled.result) _ _ _
      c.requires.own.kind (c.in-Ok.ensures.opens.keeps t).world (c.in-Ok-open_parts.ensures.parts t)
      (ap (map content) c.filled.ensures.parts) (c.in-Ok.ensures.fragments t)
      (ap (map content) (c.filled.ensures.sources ∙ c.in-Ok-with_board_ids.ensures.sources))
      (boards_set c.args.command.now _ _ _ _ c.as_slice.ensures.value c.in-Ok-with_board_ids.ensures.specs
      c.filled.ensures.specs)
      (c.filled.ensures.loaded (g.met.D.Disk.source_told t)) c.filled.ensures.front;
  behind = λ t.
      ap (content_of g.D.At.Source.content) c.filled.ensures.trailing ∙ c.in-Ok-trailing_of.ensures.opens.part t;
  fills = let faults = faults_of {S = g.row.D-At.Denot} {d = g.D.At.Source} g.D.At.Source.read_faults in
      let fragments = c.in-Ok.ensures.opens in
      let parts = c.in-Ok-open_parts.ensures.opens in
      let trailing = c.in-Ok-trailing_of.ensures.opens in
      record {
        kind = c.filled.ensures.kind;
        nothing = c.filled.ensures.nothing;
        unread = λ t.
            none_unread _ _ _ _ (ap (total faults) c.filled.ensures.parts ∙ parts.unread t)
            (ap (total faults) (c.filled.ensures.sources ∙ c.in-Ok-with_board_ids.ensures.sources) ∙ fragments.unread t)
            c.filled.ensures.unread (ap faults c.filled.ensures.trailing ∙ trailing.unread t);
        opened = λ t.
            opens_given c.args.command.now.texts c.args.kind _ _ _ _ _ _ (fragments.keeps t).world (fragments.opened t)
            (parts.opened t) (trailing.fails.held t);
        keeps = λ t. only_then (only_then (fragments.keeps t) (parts.keeps t)) (only_counting trailing.fails t);
      };
  refused = λ t. tt;
}

pub returns : goal.returns
returns g c = record {
  asked = λ t. tt;
  behind = λ t. tt;
  fills = let fragments = c.in-Ok.ensures.opens in
      let parts = c.in-Ok-open_parts.ensures.opens in
      let trailing = c.in-Err-trailing_of.ensures.opens in
      record {
        kind = tt;
        nothing = tt;
        unread = λ t. tt;
        opened = λ t. tt;
        keeps = λ t. only_then (only_then (fragments.keeps t) (parts.keeps t)) (only_counting trailing.fails t);
      };
  refused = λ t.
      behind_stops c.args.command.now _ _ _ c.args.kind _ _ _ _ _ _ _ (c.in-Ok.ensures.opens.opened t)
      (c.in-Ok-open_parts.ensures.opens.opened t) (c.in-Err-trailing_of.ensures.opens.fails.held t)
      c.into-in-Err-trailing_of.ensures;
}
