use Rattle.cmd_cut.proofs.Answered.{broken, outside, written}
use Rattle.cmd_cut.proofs.engine_calls.lay_image.Goals as goal

pub returns-in-Err-clause-broken : goal.returns-in-Err-clause-broken
returns-in-Err-clause-broken g c = broken _ _ c.requires.ready.empty c.in-Err.ensures.grows.unfinished

pub returns-in-Ok-clause-lays : goal.returns-in-Ok-clause-lays
returns-in-Ok-clause-lays g c = record {
  written = λ t. written _ _ _ _ _ _ _ c.requires.ready.empty c.requires.ready.fits.most (c.in-Ok.ensures.chunks t)
      c.in-Ok.ensures.written.long (c.in-Ok.ensures.whole t);
  fails = record {
    clean = (c.in-Ok.ensures.does.reads.clean, c.in-Ok.ensures.does.writes.clean);
    cause = λ t. tt;
  };
}

pub returns-in-Err-clause-lays : goal.returns-in-Err-clause-lays
returns-in-Err-clause-lays g c =
    let e = c.in-Err.ensures.does in
    let fits = c.requires.ready.fits in
    record {
      written = λ t. tt;
      fails = record {
        clean = tt;
        cause = λ t. outside _ _ _ _ _ _ _ _ t fits.sized fits.few e.cause;
      };
    }
