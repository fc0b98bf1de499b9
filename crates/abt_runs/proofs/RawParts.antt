-- A part of a raw image that is known to be raw, which is told without a read.
use Rattle.std.proofs.Common.{arith, ◌≡◌, ◌+◌, ◌*◌, ◌≤◌, ◌<◌, ◌-◌, ℕ, Bool, Ok, refl, max, take, drop, mul-le-mul_right}
use Rattle.std.specs.Prelude.{IsTrue}
use Rattle.abt_io.proofs.Lent.{reads_none}
use Rattle.abt_io.specs.declared.device.Source as sources
use Rattle.abt_io.specs.declared.meter.Meter.{Meter}
use Rattle.abt_runs.specs.Part.{AllOf}
use Rattle.abt_runs.specs.Raw.{RawPlace}
use Rattle.abt_runs.specs.RawLaws.{own_size}
use Rattle.abt_runs.specs.Tail.{AsksRawPart, FindsRawPart, raw_list}
use Rattle.abt_runs.specs.TailLaws.{list_long}
use Rattle.abt_runs.specs.declared.part.Cursor.{Cursor}
use Rattle.abt_runs.specs.declared.part.Run.{Run}
use Rattle.abt_runs.specs.declared.part.RunKind.TheVariants.{Raw}
use Rattle.abt_runs.proofs.Charges.{charge_fresh, raw_takes, raw_copies, raw_onward, raw_first, no_more, nothing_read}

-- raw blocks of a raw image need no header
pub raw_found : (t : Bool) (long blocks size : ℕ) {A : Type 0} (source : sources.Ghosts A) (old : A) (from : Cursor)
    (n : ℕ) (m m' : Meter) → 4 ≤ size → long ≤ blocks * size → blocks * size < long + size → size ≤ 65536
    → AsksRawPart long blocks size source.models (source.content old) from n → from.block + n ≤ blocks
    → (IsTrue source.models → AllOf Raw (take n (drop from.block (raw_list t size (source.content old)))))
    → m'.turns.number ≡ m.turns.number → m'.steps.number ≡ m.steps.number + 1
    → m'.greatest.number ≡ max m.greatest.number 0
    → FindsRawPart t long blocks size (Ok (let r : Run = record {
      kind = Raw;
      blocks = n;
      here = record from { ask = 1 };
      next = record from { block = from.block + n; ask = 1 };
    } in r)) source old old from n m m'
raw_found t long blocks size source old from n m m' four covers last narrow asks inside raws turns steps greatest =
    let w = asks.within in
    let one : 1 * size ≤ from.ask * size = mul-le-mul_right size
    (let z : 1 ≤ from.ask = omega (arith, w.some) in z) in
    let here : RawPlace blocks size (record from { ask = 1 }) = record {
      within = w.within;
      some = omega arith;
      window = omega (arith, narrow);
      passed = omega arith;
      used = w.used;
    } in
    let next : RawPlace blocks size (record from { block = from.block + n; ask = 1 }) = record {
      within = inside;
      some = omega arith;
      window = omega (arith, narrow);
      passed = omega arith;
      used = w.used;
    } in
    let reach : n * size ≤ (blocks - from.block) * size = mul-le-mul_right size
    (let z : n ≤ blocks - from.block = omega (arith, inside) in z) in
    record {
      source = record { reads = reads_none _ source _; cause = tt };
      told = λ models. record {
        part =
            let whole = list_long t long blocks size _ four covers last (asks.told models).0 in
            record {
              within = omega (arith, whole, inside);
              next = refl;
              all = raws models;
              ended = λ end. absurd cc;
            };
        place = next;
        here_place = here;
        stands = λ kind. omega (arith, inside);
        first = λ some d is le. (
          raw_onward long size (from.block + n) d.block le,
          raw_first long blocks size (record from { block = from.block + n; ask = 1 }) d four covers last next le,
        );
        not_past = λ d within place past. own_size _;
      };
      found = record {
        within = next;
        here = (
          refl,
          here,
          charge_fresh long blocks size from (record from { ask = 1 }) (omega (arith, asks.some, inside)) w.some refl
              refl,
        );
        inside = own_size _;
        reached = λ kind. reach;
        nowhere = λ none. absurd (omega (arith, asks.some, none));
        anew = own_size _;
        moved = refl;
        capped = record { raw = λ kind. own_size _ };
        on = λ going. omega (arith, asks.some, inside);
        stops = λ used. (refl, refl);
        goes_on = λ used. absurd (omega (arith, w.used, used));
        at_end = λ end. absurd cc;
        charged = omega (
          arith,
          raw_first long blocks size from (record from { block = from.block + n; ask = 1 }) four covers last w
              (no_more _ _),
        );
        takes = raw_takes Raw size from.used from.block n (from.block + n) asks.some refl;
        copies = λ kind. raw_copies long size from.block n (from.block + n) refl;
        onward = (own_size _, raw_onward long size from.block (from.block + n) (no_more _ _));
        filled_up = λ some. asks.some;
      };
      costs = nothing_read _ _ _ _ _ turns steps greatest;
    }
