-- All that a delivery does, where it was refused before its first piece, and after an image that was opened.
use Rattle.std.proofs.Common.{false, ◌≡◌, ℕ, Bool, Err, Ok, Result, refl, ◌∙◌}
use Rattle.std.specs.Prelude.{IsTrue}
use Rattle.abt_io.specs.Lent.{OnlyReads}
use Rattle.abt_io.specs.declared.device.Source as sources
use Rattle.abt_io.specs.declared.device.Input as inputs
use Rattle.abt_io.specs.declared.device.Output as outputs
use Rattle.abt_io.specs.declared.device.Spool as spools
use Rattle.abt_io.specs.declared.device.Partition as partitions
use Rattle.abt_io.specs.declared.meter.Meter.{Meter}
use Rattle.abt_io.proofs.Lent.{reads_then}
use Rattle.abt_flash.specs.Delivering.{CountsTo, DeliveryCosts, HasDelivered, ImageBlocks, pieces_in}
use Rattle.abt_flash.specs.Devices.{counts}
use Rattle.abt_flash.specs.declared.answer.Delivered.{Delivered}
use Rattle.abt_flash_faults.specs.declared.fault.FlashFault.{FlashFault}
use Rattle.abt_flash.proofs.Records.{IsEarly, counts_same, early_holds, gives_none, gives_same, lays_none, lays_same}
use Rattle.abt_flash.proofs.Records.{least_same, mendable_none, mendable_same, mends_none, mends_same}
use Rattle.abt_flash.proofs.Summing.{on_ok}

-- refused before its first piece
pub delivers_none : {A B C : Type 0} {forward : Bool} {i : ImageBlocks} {limit made words each : ℕ}
    {s : sources.Ghosts A} {f : inputs.Ghosts B} {o : outputs.Ghosts B} {l : spools.Ghosts B} {q : sources.Ghosts C}
    {p : partitions.Ghosts C} {a a' : A} {b : B} {c : C} {m m' : Meter} (e : FlashFault) → IsEarly e
    → (IsTrue s.models → CountsTo (Err e) made (pieces_in limit i)) → OnlyReads {X = Delivered} (Err e) s a a'
    → DeliveryCosts s.models i limit words each made (Err e) (counts s f o l p a b c) (counts s f o l p a' b c) m m'
    → HasDelivered forward i limit made words each s f o l q p (Err e) a a' b b c c m m'
delivers_none e early counted source costs = record {
  delivers = record {
    early = early_holds e _ (refl, refl);
    some = tt;
    counted = counted;
    least = λ models. tt;
    clean = tt;
  };
  spool = gives_none _ _ _ _ _ _ _ _;
  partition = lays_none _ _ _ _ _ _ _ _ early;
  mends = λ models spool partition. mends_none _ _ _ _ _ early;
  mendable = λ models spool partition first none. mendable_none _ _ _ none;
  source = source;
  costs = costs;
}

-- after an image that was opened, which is the same in other words
pub delivers_opened : {A B C X E : Type 0} {x : X} {forward : Bool} {i j : ImageBlocks} {limit made : ℕ}
    {words each words' each' : ℕ} {s : sources.Ghosts A} {f : inputs.Ghosts B} {o : outputs.Ghosts B}
    {l : spools.Ghosts B} {q : sources.Ghosts C} {p : partitions.Ghosts C} {r : Result Delivered FlashFault}
    {a a' z : A} {b b' : B} {c c' : C} {m m' n : Meter} → (IsTrue s.models → i ≡ j)
    → (forward ≡ false → i.size ≡ j.size)
    → OnlyReads {E = E} (Ok x) s a z
    → DeliveryCosts s.models j limit words' each' made r (counts s f o l p a b c) (counts s f o l p a' b' c') m m'
    → HasDelivered forward i limit made words each s f o l q p r z a' b b' c c' n m'
    → HasDelivered forward j limit made words' each' s f o l q p r a a' b b' c c' m m'
delivers_opened {r = r} same size opened costs d = record {
  delivers = record {
    early = d.delivers.early;
    some = d.delivers.some;
    counted = λ models. counts_same r _ _ _ _ (same models) (d.delivers.counted models);
    least = λ models. least_same r _ _ _ _ (same models) (d.delivers.least models);
    clean = on_ok r (λ e. record { read = e.read ∙ opened.clean; write = e.write; spool = e.spool; put = e.put })
        d.delivers.clean;
  };
  spool = gives_same _ _ _ _ _ _ _ r _ _ same size d.spool;
  partition = lays_same _ _ _ _ _ _ _ r _ _ same d.partition;
  mends = λ models spool partition. mends_same _ _ _ _ r _ _ (same models) (d.mends models spool partition);
  mendable = λ models spool partition first none. mendable_same _ _ _ _ _ (same models)
      (d.mendable models spool partition first none);
  source = reads_then opened d.source;
  costs = costs;
}
