use Rattle.abt_sections.proofs.Refusals.{reads_on}
use Rattle.abt_sections.proofs.checking.places_padded.Goals as goal

pub returns-in-Err : goal.returns-in-Err
returns-in-Err g c = record {
  found = record {
    reads = reads_on c.loop-i.invariant.reads c.in-Err.ensures.found.reads (λ changed. changed);
    value = λ models. tt;
  };
}
