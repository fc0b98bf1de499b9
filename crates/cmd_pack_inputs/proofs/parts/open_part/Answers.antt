use Rattle.cmd_common_boot.specs.Sources.{content_of}
use Rattle.cmd_pack_inputs.proofs.Gathered.{option_opens, option_stops, own_opens}
use Rattle.cmd_pack_inputs.proofs.Openings.{only_counting, stops_call}
use Rattle.cmd_pack_inputs.proofs.parts.open_part.Goals as goal

pub returns-in-Some-clause-opens : goal.returns-in-Some-clause-opens
returns-in-Some-clause-opens g c =
    let opens = c.open_file.ensures.opens in
    record {
      unread = opens.unread;
      opened = λ t. option_opens _ (content_of g.D.At.Source.content) _ _ c.as_slice.result.now c.in-Some.option.now
          _ _ _ c.in-Some.ensures c.as_slice.ensures.value (opens.opened t);
      refused = λ t. option_stops _ (λ r. r.fault) _ _ c.as_slice.result.now c.in-Some.option.now _ _ c.in-Some.ensures
          c.as_slice.ensures.value (c.open_file.ensures.refused t);
      keeps = opens.keeps;
    }

pub returns-in-None-clause-opens : goal.returns-in-None-clause-opens
returns-in-None-clause-opens g c =
    let opens = c.own_part.ensures.opens in
    record {
      unread = opens.unread;
      opened = λ t. own_opens _ _ _ _ _ _ c.in-None.ensures (opens.fails.held t);
      refused = λ t. stops_call _ c.own_part.result _ _ (opens.fails.held t);
      keeps = only_counting opens.fails;
    }
