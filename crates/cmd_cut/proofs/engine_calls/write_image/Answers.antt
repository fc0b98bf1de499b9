use Rattle.cmd_cut.proofs.Answered.{outside, written}
use Rattle.cmd_cut.proofs.engine_calls.write_image.Goals as goal

pub returns-in-Ok : goal.returns-in-Ok
returns-in-Ok g c = record {
  lays = record {
    written = λ t. written _ _ _ _ _ _ _ c.requires.ready.empty c.requires.ready.fits.most
        (c.in-Ok.ensures.told t).chunks
        c.in-Ok.ensures.sparse.long (c.in-Ok.ensures.told t).whole;
    fails = record {
      clean = (c.in-Ok.ensures.does.reads.clean, c.in-Ok.ensures.does.writes.clean);
      cause = λ t. tt;
    };
  };
  frame = c.in-Ok.ensures.does.writes.frame;
}

pub returns-in-Err : goal.returns-in-Err
returns-in-Err g c =
    let e = c.in-Err.ensures.does in
    let fits = c.requires.ready.fits in
    record {
      lays = record {
        written = λ t. tt;
        fails = record {
          clean = tt;
          cause = λ t. outside _ _ _ _ _ _ _ _ t fits.sized fits.few e.cause;
        };
      };
      frame = e.writes.frame;
    }
