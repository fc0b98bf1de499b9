use Rattle.std.proofs.Common.{◌∙◌, ap}
use Rattle.sys_refusals.specs.Paths.{path_of}
use Rattle.sys_disk.specs.World.{HasFailed}
use Rattle.cmd_common_boot.proofs.Causes.{host_image, open_failed, opened, opened_as, opens_as, refuses_file}
use Rattle.cmd_common_boot.proofs.Causes.{section_refused}
use Rattle.cmd_common_boot.proofs.Causes.{source_failed}
use Rattle.cmd_pack_inputs.proofs.own.open_own.Goals as goal

pub returns-in-Err : goal.returns-in-Err
returns-in-Err g c = record {
  opens = record {
    opened = λ t. tt;
    unread = λ t. tt;
    keeps = λ t. record {
      world = c.in-Err.ensures.world t;
      output = ap (λ k. k.output) (c.in-Err.ensures.kept t);
    };
  };
  image = λ told. tt;
  refused = λ t.
      host_image (path_of c.args.place) (g.D.Disk.world c.args.disk.now)
      (λ cause. HasFailed cause (g.D.Disk.held c.args.disk.now) (g.D.Disk.held c.source.new.self)) ⊥ _ _ c.into.ensures
      (source_failed _ _ _ (c.in-Err.ensures.kept t));
}

pub returns-in-Err-open : goal.returns-in-Err-open
returns-in-Err-open g c = record {
  opens = record {
    opened = λ t. tt;
    unread = λ t. tt;
    keeps = λ t. record {
      world = c.let_go_source.ensures.world t ∙ c.in-Ok.ensures.world t;
      output = ap (λ k. k.output) (c.let_go_source.ensures.held t)
          ∙ ap (λ k. k.output) (c.in-Ok.ensures.opened t).taken;
    };
  };
  image = λ told. tt;
  refused = λ t.
      let told = g.met.D.Disk.source_told t in
      refuses_file _ _ _ _ _ _ _ _ _ _ (c.in-Ok.ensures.opened t)
      (section_refused _ _ ⊥ _ _ c.refuse.ensures.fault
      (opened c.in-Err-open.fault (g.D.At.Source.content c.in-Ok.source) _ _ _ c.in-Err-open.ensures.reads.cause
      (c.in-Err-open.ensures.opens told)))
      (λ cause failed. open_failed _ _ _ _ _ _ _ _ _ cause (c.in-Ok.ensures.opened t) (c.in-Ok.ensures.clean t)
      (c.let_go_source.ensures.held t) failed)
      (λ none. absurd none);
}

pub returns-in-Ok-open : goal.returns-in-Ok-open
returns-in-Ok-open g c = record {
  opens = let reads = c.in-Ok-open.ensures.reads.only in
      record {
        opened = λ t. opens_as _ _ _ _ _ _ (reads.content (g.met.D.Disk.source_told t)) (c.in-Ok.ensures.opened t);
        unread = λ t. reads.clean ∙ c.in-Ok.ensures.clean t;
        keeps = λ t. record {
          world = c.in-Ok.ensures.world t;
          output = ap (λ k. k.output) (c.in-Ok.ensures.opened t).taken;
        };
      };
  image = λ told.
      opened_as _ _ c.in-Ok-open.image (c.in-Ok-open.ensures.reads.only.content told) (c.in-Ok-open.ensures.opens told);
  refused = λ t. tt;
}
