use Rattle.std.proofs.Common.{arith}
use Rattle.cmd_sparse_dispatch.specs.Commands.{state}
use Rattle.cmd_sparse_dispatch.proofs.Inputs.{one_spared, several_done, several_refused, several_spared}
use Rattle.cmd_sparse_dispatch.proofs.commands.expand_files.Goals as goal

pub returns-clause-leaves : goal.returns-clause-leaves
returns-clause-leaves g c = λ t.
    let leaves = c.expand_one.ensures.leaves t in
    record {
      spares = one_spared c.args.inputs.now _ c.args.output.now _ _
          (state (g.D.Disk.world c.args.disk.now) (g.D.Disk.held c.args.disk.now) c.args.report.now)
          (state (g.D.Disk.world c.expand_one.new.disk) (g.D.Disk.held c.expand_one.new.disk) c.expand_one.new.report)
          (omega arith) c.place.ensures.read c.place-output.ensures.written leaves.others leaves.input
          leaves.in_use;
      clean = leaves.clean;
    }

pub returns-then-inputs-ne1-clause-done : goal.returns-then-inputs-ne1-clause-done
returns-then-inputs-ne1-clause-done g c = λ t. several_done g.D.Disk.on_output c.expand_several.result c.args.inputs.now
    c.args.output.now _ (state (g.D.Disk.world c.args.disk.now) (g.D.Disk.held c.args.disk.now) c.args.report.now)
    (state (g.D.Disk.world c.expand_several.new.disk) (g.D.Disk.held c.expand_several.new.disk)
    c.expand_several.new.report) (λ one. omega (arith, one)) c.place-output.ensures.at (c.expand_several.ensures.done t)
    (c.expand_several.ensures.synced t)

pub returns-then-inputs-ne1-clause-leaves : goal.returns-then-inputs-ne1-clause-leaves
returns-then-inputs-ne1-clause-leaves g c = λ t.
    let leaves = c.expand_several.ensures.leaves t in
    record {
      spares = several_spared c.args.inputs.now c.args.output.now _
          (state (g.D.Disk.world c.args.disk.now) (g.D.Disk.held c.args.disk.now) c.args.report.now)
          (state (g.D.Disk.world c.expand_several.new.disk) (g.D.Disk.held c.expand_several.new.disk)
          c.expand_several.new.report) (λ one. omega
          (arith, one)) c.place-output.ensures.at leaves.others leaves.inputs
          leaves.in_use;
      clean = leaves.clean;
    }

pub returns-then-inputs-ne1-clause-refused : goal.returns-then-inputs-ne1-clause-refused
returns-then-inputs-ne1-clause-refused g c = λ t. several_refused c.expand_several.result (λ e. e.fault)
    c.args.inputs.now
    c.args.output.now _ (state (g.D.Disk.world c.args.disk.now) (g.D.Disk.held c.args.disk.now) c.args.report.now)
    (state (g.D.Disk.world c.expand_several.new.disk) (g.D.Disk.held c.expand_several.new.disk)
    c.expand_several.new.report) (λ one. omega (arith, one)) c.place-output.ensures.at
    (c.expand_several.ensures.refused t)
