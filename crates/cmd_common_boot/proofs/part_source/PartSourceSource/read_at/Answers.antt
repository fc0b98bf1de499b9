use Rattle.std.proofs.Common.{rules, option_map}
use Rattle.abt_io.specs.Count.{count_of}
use Rattle.cmd_common_boot.specs.RangesLaws.{part_sized}
use Rattle.cmd_common_boot.proofs.Ranging.{read_bytes}
use Rattle.cmd_common_boot.proofs.part_source.PartSourceSource.read_at.Goals as goal

pub returns-else-self-2 : goal.returns-else-self-2
returns-else-self-2 g c =
    let bytes = option_map g.S.Source.content c.args.self.now.file in
    let p = c.args.self.now in
    record {
      has_read = record {
        within = search rules;
        present = λ t. search (rules, part_sized bytes p.at p.size (p.lies t));
        bytes = λ t.
            read_bytes (option_map g.S.Source.content c.args.self.now.file) (count_of c.read_in-answer.result)
            c.min-room.result c.args.at c.args.self.now.at c.args.self.now.size c.saturating_add-from.result
            c.saturating_sub-left.result _ _ (c.args.self.now.lies t) (c.args.self.now.short t)
            c.read_in-answer.ensures.within (search rules) (search rules) (search rules) (search rules)
            (c.read_in-answer.ensures.bytes t);
        content = λ t. search rules;
        size = λ t. search rules;
        told = λ t. search (rules, part_sized bytes p.at p.size (p.lies t), p.lies t, p.short t);
        ended = λ t. search
            (rules, part_sized bytes p.at p.size (p.lies t), p.lies t, p.short t, c.read_in-answer.ensures.ended t);
        frame = search rules;
        calls = search rules;
        counted = search rules;
        faults = search rules;
        cause = search rules;
        clean = search rules;
        failed = search rules;
      };
    }
