-- Steps of a writer, of calls that are one of their own.
use Rattle.std.proofs.Common.{◌≡◌, ℕ, ◌+◌, ◌≤◌, arith, sym, subst, Result}
use Rattle.abt_io.specs.Lent.{OnlyWrites}
use Rattle.abt_io.specs.declared.device.Source as sources
use Rattle.abt_io.specs.declared.device.Output as outputs
use Rattle.abt_io.specs.declared.meter.Meter.{Meter}
use Rattle.abt_io.proofs.Lent.{writes_none}
use Rattle.abt_runs.specs.Found.{PartCosts}
use Rattle.abt_runs.specs.declared.part.RunFault.{RunFault}
use Rattle.abt_pieces.proofs.Fronts.{run_not_full}
use Rattle.abt_pieces.specs.Calls.{WordCosts}
use Rattle.abt_pieces.specs.Fault.{fault_of_run, full_cut, full_in_cut}
use Rattle.abt_pieces.specs.declared.fault.PieceFault.{PieceFault}

-- nothing was written, and nothing refused for an output that is full
pub none_written : {X : Type 0} (r : Result X PieceFault) {B : Type 0} (o : outputs.Ghosts B) (a : B) → full_cut r ≡ 0
    → OnlyWrites r (full_cut r) o a a
none_written r o a none = subst (λ (n : ℕ). OnlyWrites r n o a a) (sym none) (writes_none r o a)

pub run_never_full : (e : PieceFault) (f : RunFault) → e ≡ fault_of_run f → full_in_cut e ≡ 0
run_never_full e f is = rw is (run_not_full f)

-- what finding a part costs, where words are counted
pub part_words : {A : Type 0} {s : sources.Ghosts A} {source source' : A} {more words one : ℕ} {m m' : Meter}
    → PartCosts more (s.reads source) (s.given source) (s.reads source') (s.given source') m m' → more + words ≤ one
    → WordCosts words one s source source' m m'
part_words k top = record {
  given = k.given;
  received = k.received;
  calls = k.calls;
  turns = omega (arith, k.turns, top);
  one_step = k.one_step;
}
