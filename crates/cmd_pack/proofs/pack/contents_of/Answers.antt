use Rattle.std.proofs.Common.{ℕ, List, ap, ◌∙◌}
use Rattle.std.specs.Borrow.{Bor}
use Rattle.std.specs.Prelude.{map, option_map}
use Rattle.abt_sections.specs.Fields.{cmd_common_fields}
use Rattle.cmd_common_boot.specs.Ranges.{count_in}
use Rattle.cmd_pack_inputs.specs.Parts.{of_part}
use Rattle.cmd_common_boot.specs.Sources.{content_of, faults_of}
use Rattle.cmd_pack_inputs.proofs.Openings.{only_then}
use Rattle.cmd_pack.proofs.Packs.{asks, board_stops, both_open, filling_stops, fragments_counted, fragments_stop}
use Rattle.cmd_pack.proofs.Packs.{unread}
use Rattle.cmd_pack.proofs.pack.contents_of.Goals as goal

-- a part is not opened

pub returns-in-Err : goal.returns-in-Err
returns-in-Err g c = record {
  asked = λ t. tt;
  alone = tt;
  fills = record {
    kind = tt;
    nothing = tt;
    unread = λ t. tt;
    opened = λ t. tt;
    keeps = c.in-Err.ensures.opens.keeps;
  };
  refused = λ t.
      filling_stops _ _ _ _ _ _ _ _ (c.in-Err.ensures.opens.refused t) c.into.ensures (λ p is. of_part is);
}

-- a fragment is not

pub returns-in-Err-open_fragments : goal.returns-in-Err-open_fragments
returns-in-Err-open_fragments g c = record {
  asked = λ t. tt;
  alone = tt;
  fills = record {
    kind = tt;
    nothing = tt;
    unread = λ t. tt;
    opened = λ t. tt;
    keeps = λ t. only_then (c.in-Ok.ensures.opens.keeps t) (c.in-Err-open_fragments.ensures.opens.keeps t);
  };
  refused = λ t.
      fragments_stop _ _ _ _ _ _ _ _ _ _ (c.in-Ok.ensures.opens.opened t)
      (c.in-Err-open_fragments.ensures.opens.refused t)
      c.into-in-Err-open_fragments.ensures;
}

-- a board id is wrong

pub returns : goal.returns
returns g c = record {
  asked = λ t. tt;
  alone = tt;
  fills = record {
    kind = tt;
    nothing = tt;
    unread = λ t. tt;
    opened = λ t. tt;
    keeps = λ t. only_then (c.in-Ok.ensures.opens.keeps t) (c.in-Ok-open_fragments.ensures.opens.keeps t);
  };
  refused = λ t.
      board_stops _ _ _ _ _ _ _ _ c.in-Err-with_board_ids.ensures.refused
      (ap (map (λ (word : Bor (List ℕ)). word.now)) c.as_slice.ensures.value)
      (fragments_counted _ _ _ _ (c.in-Ok-open_fragments.ensures.fragments t));
}

-- all is there

pub returns-in-Ok-with_board_ids-clause-asked : goal.returns-in-Ok-with_board_ids-clause-asked
returns-in-Ok-with_board_ids-clause-asked g c = λ t.
    asks (content_of g.D.At.Source.content) c.args.command.now (g.D.Disk.world c.args.disk.now)
    (g.D.Disk.world c.open_parts.new.disk) c.args.kind (cmd_common_fields c.args.fields) c.filled.result _ _ _ _ _
    (ap (map (λ (word : Bor (List ℕ)). word.now)) c.as_slice.ensures.value) c.requires.kind
    (c.in-Ok.ensures.opens.keeps t).world
    c.filled.ensures.parts (c.filled.ensures.sources ∙ c.in-Ok-with_board_ids.ensures.sources) c.filled.ensures.specs
    (c.in-Ok.ensures.parts t) (c.in-Ok-open_fragments.ensures.fragments t) c.in-Ok-with_board_ids.ensures.specs
    (c.filled.ensures.loaded (g.met.D.Disk.source_told t)) c.filled.ensures.front

pub returns-in-Ok-with_board_ids-clause-fills : goal.returns-in-Ok-with_board_ids-clause-fills
returns-in-Ok-with_board_ids-clause-fills g c =
    let parts = c.in-Ok.ensures.opens in
    let fragments = c.in-Ok-open_fragments.ensures.opens in
    record {
      kind = c.filled.ensures.kind;
      nothing = c.filled.ensures.nothing;
      unread = λ t.
          unread (faults_of g.D.At.Source.read_faults) c.filled.result _ _ c.empty.result c.filled.ensures.parts
          (c.filled.ensures.sources ∙ c.in-Ok-with_board_ids.ensures.sources) c.filled.ensures.trailing
          (parts.unread t) (fragments.unread t) c.filled.ensures.unread
          (ap (λ o. count_in (option_map g.D.At.Source.read_faults o)) c.empty.ensures.file);
      opened = λ t. both_open _ _ _ _ _ _ _ (parts.keeps t).world (parts.opened t) (fragments.opened t);
      keeps = λ t. only_then (parts.keeps t) (fragments.keeps t);
    }
