use Rattle.std.proofs.Common.{rules, arith, length-take, ◌∙◌}
use Rattle.abt_sections.proofs.Placing.{put_two, zeros_kept, no_magic_yet, no_whole_magic}
use Rattle.abt_sections.proofs.Beginnings.{before_kept}
use Rattle.abt_sections.proofs.packing_once.lay_record.Goals as goal

pub returns-in-Err : goal.returns-in-Err
returns-in-Err g c =
    let first = c.write_over_all.ensures.before in
    let zeros = zeros_kept (g.O.Output.written c.args.output.now) _ c.args.at first c.requires.zeros in
    search (rules, no_magic_yet _ zeros, before_kept _ _ c.args.at 8 first)

pub returns-in-Ok-write_over_all : goal.returns-in-Ok-write_over_all
returns-in-Ok-write_over_all g c = search (
  rules,
  put_two (g.O.Output.written c.args.output.now) _ _ c.args.bytes.now c.args.at c.requires.some c.requires.stands
      c.in-Ok.ensures.ok c.in-Ok-write_over_all.ensures.ok,
  c.in-Ok-write_over_all.ensures.before ∙ before_kept _ _ c.args.at 8 c.write_over_all.ensures.before,
)

pub returns-in-Err-write_over_all : goal.returns-in-Err-write_over_all
returns-in-Err-write_over_all g c =
    let first = c.write_over_all.ensures.before in
    let zeros = zeros_kept (g.O.Output.written c.args.output.now) _ c.args.at first c.requires.zeros in
    let front = c.in-Err-write_over_all.ensures.front in
    search (
      rules,
      no_whole_magic _ _ c.args.bytes.now c.args.at front.count zeros front.written
          (omega (arith, front.short, length-take 8 c.args.bytes.now)) c.requires.some
          (λ i. omega (arith, c.type_inv.bytes i)),
      c.in-Err-write_over_all.ensures.before ∙ before_kept _ _ c.args.at 8 first,
    )
