use Rattle.std.proofs.Common.{◌∙◌}
use Rattle.cmd_pack_outputs.proofs.Closes.{reads_all}
use Rattle.cmd_pack_outputs.proofs.letting_go.let_go.Goals as goal

pub returns : goal.returns
returns g c =
    let parts = c.let_go_parts.ensures.fails in
    let sources = c.let_go_parts-2.ensures.fails in
    let nothing = c.let_go_part.ensures.fails in
    let trailing = c.let_go_part-2.ensures.fails in
    record {
      fails = record {
        held = λ t. reads_all _ _ _ _ _ _ _ _ _ _ _ _ _ (parts.held t) (sources.held t) (nothing.held t)
            (trailing.held t);
        world = λ t. trailing.world t ∙ nothing.world t ∙ sources.world t ∙ parts.world t;
      };
    }
