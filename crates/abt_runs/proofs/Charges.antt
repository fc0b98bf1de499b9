-- What a pass over a raw image reads.
use Rattle.std.proofs.Common.{◌≡◌, ℕ, ◌+◌, ◌-◌, ◌*◌, ◌<◌, ◌≤◌, true, false, ◌&&◌, ◌==◌, nat_lt, nat_le, min, max, ap}
use Rattle.std.proofs.Common.{◌∙◌, arith, inl, inr, ltb-true, ltb-false, mul-le-mul_right, if◌then◌else◌, eqb-true}
use Rattle.std.proofs.Common.{eq-eqb, leb-true, leb-false, ◌/◌, ◌%◌}
use Rattle.std.proofs.lemmas.Bool.{cases_Bool, lt-ltb, and_parts}
use Rattle.abt_runs.specs.Part.{next_ask, piece_bytes, afresh}
use Rattle.abt_runs.specs.declared.part.RunKind.{RunKind}
use Rattle.abt_runs.specs.declared.part.RunKind.TheVariants as kinds
use Rattle.abt_runs.specs.Raw.{raw_charge, RawPlace}
use Rattle.abt_runs.specs.RawLaws.{raw_passed, own_size}
use Rattle.abt_runs.specs.Found.{PartCosts, RunCosts}
use Rattle.abt_runs.specs.Loads.{Loads}
use Rattle.abt_runs.specs.declared.part.RunFault.{RunFault}
use Rattle.abt_io.specs.declared.device.Source as sources
use Rattle.std.specs.Prelude.{Option}
use Rattle.abt_io.specs.declared.meter.Meter.{Meter}
use Rattle.abt_runs.specs.declared.part.Cursor.{Cursor}

-- ---- what is not read costs nothing

pub no_more : (n k : ℕ) → n ≤ n + k
no_more n k = omega arith

pub no_more_than : (n j k : ℕ) → n ≤ n + j + k
no_more_than n j k = omega arith

pub none_added : (n : ℕ) → 0 + n ≤ n
none_added n = omega arith

pub none_behind : (n : ℕ) → n ≡ n + 0
none_behind n = omega arith

pub nothing_read : (more c g : ℕ) (m m' : Meter) → m'.turns.number ≡ m.turns.number
    → m'.steps.number ≡ m.steps.number + 1 → m'.greatest.number ≡ max m.greatest.number 0 → PartCosts more c g c g m m'
nothing_read more c g m m' turns steps greatest = record {
  given = own_size g;
  received = no_more _ _;
  calls = no_more_than _ _ _;
  turns = omega (arith, turns);
  one_step = record { steps = steps; greatest = omega (arith, greatest) };
}

-- ---- what was loaded, in a step that ends then

pub load_costs : {more n : ℕ} {f : Option RunFault} {A : Type 0} {s : sources.Ghosts A} {a b : A} {m m1 m2 : Meter}
    → Loads f n s a b m m1 → n ≤ 65536 → m2.turns.number ≡ m1.turns.number → m2.steps.number ≡ m1.steps.number + 1
    → m2.greatest.number ≡ max m1.greatest.number n
    → PartCosts more (s.reads a) (s.given a) (s.reads b) (s.given b) m m2
load_costs l few turns steps greatest = record {
  given = omega (arith, l.given);
  received = omega (arith, l.given, few);
  calls = omega (arith, l.calls, l.given);
  turns = omega (arith, l.turns, l.given, turns);
  one_step = record {
    steps = omega (arith, steps, l.no_step.steps);
    greatest = omega (arith, greatest, l.no_step.greatest, l.given);
  };
}

pub both_cost : {more n k : ℕ} {f h : Option RunFault} {A : Type 0} {s : sources.Ghosts A} {a b z : A}
    {m m1 m2 m3 : Meter} → Loads f n s a b m m1 → Loads h k s b z m1 m2 → n + k ≤ 65536
    → m3.turns.number ≡ m2.turns.number → m3.steps.number ≡ m2.steps.number + 1
    → m3.greatest.number ≡ max m2.greatest.number (n + k)
    → PartCosts more (s.reads a) (s.given a) (s.reads z) (s.given z) m m3
both_cost l d few turns steps greatest = record {
  given = omega (arith, l.given, d.given);
  received = omega (arith, l.given, d.given, few);
  calls = omega (arith, l.calls, d.calls, l.given, d.given);
  turns = omega (arith, l.turns, d.turns, l.given, d.given, turns);
  one_step = record {
    steps = omega (arith, steps, l.no_step.steps, d.no_step.steps);
    greatest = omega (arith, greatest, l.no_step.greatest, d.no_step.greatest, l.given, d.given);
  };
}

-- ---- what the steps of a run cost so far

pub record CostSoFar (one c g c' g' : ℕ) (m m' : Meter) : Type 0 where
  pub given : g ≤ g'
  pub received : g' + 65536 * m.steps.number ≤ g + 65536 * m'.steps.number
  pub calls : c' + 2 * m.steps.number ≤ c + (g' - g) + 2 * m'.steps.number
  pub turns : m'.turns.number + (3 + one) * m.steps.number
      ≤ m.turns.number + 2 * (g' - g) + (3 + one) * m'.steps.number
  pub greatest : m'.greatest.number ≤ max m.greatest.number 65536

-- a step more
pub costs_on : {one more c g c1 g1 c2 g2 : ℕ} {m m1 m2 m3 : Meter} → CostSoFar one c g c1 g1 m m1
    → m2.turns.number ≡ m1.turns.number + 1 → m2.steps.number ≡ m1.steps.number
    → m2.greatest.number ≡ m1.greatest.number → PartCosts more c1 g1 c2 g2 m2 m3 → 4 * more ≤ one
    → CostSoFar one c g c2 g2 m m3
costs_on {one = one} {m1 = m1} {m3 = m3} k turns same greatest d small =
    let steps : m3.steps.number ≡ m1.steps.number + 1 = omega (arith, d.one_step.steps, same) in
    let more : (3 + one) * (m1.steps.number + 1) ≡ (3 + one) * m1.steps.number + (3 + one) = omega arith in
    record {
      given = omega (arith, k.given, d.given);
      received = omega (arith, k.received, d.received, steps);
      calls = omega (arith, k.calls, d.calls, steps, k.given, d.given);
      turns = rw steps (omega (arith, more, k.turns, d.turns, turns, small, k.given, d.given));
      greatest = omega (arith, k.greatest, d.one_step.greatest, d.received, greatest);
    }

-- all of them, and perhaps a turn more
pub costs_end : {one c g c1 g1 : ℕ} {m m1 m2 : Meter} → CostSoFar one c g c1 g1 m m1
    → m2.turns.number ≤ m1.turns.number + 1 → m2.steps.number ≡ m1.steps.number
    → m2.greatest.number ≡ m1.greatest.number → RunCosts one c g c1 g1 m m2
costs_end k turns steps greatest = record {
  given = k.given;
  received = omega (arith, k.received, steps);
  calls = omega (arith, k.calls, steps);
  turns = rw steps (omega (arith, k.turns, turns));
  greatest = omega (arith, k.greatest, greatest);
}

-- ---- what is read of a raw image

-- the next ask is one, or what was asked again, or twice that where all of it was alike
data Asks (ask a q : ℕ) : ℕ → Type 0 where
  again : q ≡ a → Asks ask a q ask
  twice : q ≡ a → a ≡ ask → Asks ask a q (2 * ask)
  one : q < a → Asks ask a q 1

asks : (ask a q size : ℕ) → q ≤ a → Asks ask a q (next_ask ask a q size)
asks ask a q size le = elim (cases_Bool (nat_lt q a)) [
  | inl h ↦ rw h (one (ltb-true q a h))
  | inr h ↦ let same : q ≡ a = omega (arith, ltb-false q a h) in
      rw h (elim (cases_Bool ((a == ask) && nat_le (2 * ask * size) 65536)) [
        | inl k ↦ let p = and_parts (a == ask) (nat_le (2 * ask * size) 65536) k in
            rw k (twice same (eqb-true a ask p.0))
        | inr k ↦ rw k (again same)
      ])
]

numbers : (ask a q next block : ℕ) → Asks ask a q next → 0 < q → a ≤ ask → ask ≤ 2 * block + 1
    → a + (2 * block + 1 - ask) ≤ 2 * (block + q) + 1 - next
numbers ask a q next block (again e) some le passed = omega arith
numbers ask a q next block (twice e f) some le passed = omega arith
numbers ask a q next block (one h) some le passed = omega arith

pub raw_charged : (len blocks size : ℕ) (from next : Cursor) (a q want : ℕ) → 0 < q → q ≤ a → from.block < blocks
    → from.block + a ≤ blocks → a ≤ from.ask → 0 < from.ask → from.ask ≤ 2 * from.block + 1
    → len ≤ blocks * size → blocks * size < len + size → want ≡ min (a * size) (len - from.block * size)
    → next.block ≡ from.block + q → next.ask ≡ next_ask from.ask a q size
    → want + raw_charge len blocks size from ≤ raw_charge len blocks size next
raw_charged len blocks size from next a q want some le here within asked ask passed covers last e block asks' =
    let here' = lt-ltb from.block blocks here in
    elim (cases_Bool (nat_lt next.block blocks)) [
      | inl h ↦
          let n = numbers from.ask a q (next_ask from.ask a q size) from.block
          (asks from.ask a q size le) some asked passed in
          let m : (a + (2 * from.block + 1 - from.ask)) * size ≤
          (2 * (from.block + q) + 1 - next_ask from.ask a q size) * size = mul-le-mul_right size n in
          let d : (a + (2 * from.block + 1 - from.ask)) * size ≡ a * size + (2 * from.block + 1 - from.ask) * size =
          omega arith in
          rw (here', h, block, asks') (omega arith)
      | inr h ↦
          let over = ltb-false next.block blocks h in
          let m : (2 * from.block + 1 - from.ask) * size ≤ 2 * from.block * size =
          mul-le-mul_right size (let z : 2 * from.block + 1 - from.ask ≤ 2 * from.block = omega arith in z) in
          let k : (from.block + 1) * size ≤ blocks * size =
          mul-le-mul_right size (let z : from.block + 1 ≤ blocks = omega arith in z) in
          rw (here', h) (omega arith)
    ]

-- from a place where one block is asked for
pub charge_fresh : (len blocks size : ℕ) (from here : Cursor) → from.block < blocks → 0 < from.ask
    → here.block ≡ from.block → here.ask ≡ 1 → raw_charge len blocks size from ≤ raw_charge len blocks size here
charge_fresh len blocks size from here lt some same fresh =
    let lt' = lt-ltb from.block blocks lt in
    let m : (2 * from.block + 1 - from.ask) * size ≤ (2 * from.block + 1 - 1) * size =
    mul-le-mul_right size (let z : 2 * from.block + 1 - from.ask ≤ 2 * from.block + 1 - 1 = omega arith in z) in
    rw (same, fresh, lt') m

-- what is compared, against what was read
pub raw_turns : (len blocks size i a want t : ℕ) → 4 ≤ size → size % 4 ≡ 0 → 0 < a → i + a ≤ blocks → i < blocks
    → blocks * size < len + size → want ≡ min (a * size) (len - i * size) → i * size < len
    → 2 * t + size / 2 ≤ a * size → t ≤ want + (if i + 1 == blocks then size / 4 else 0)
raw_turns len blocks size i a want t some words asked within here last e inside few =
    elim (cases_Bool (nat_le (a * size) (len - i * size))) [
      | inl h ↦ let all = leb-true (a * size) (len - i * size) h in omega arith
      | inr h ↦
          let part = leb-false (a * size) (len - i * size) h in
          let w : want ≡ len - i * size = omega arith in
          elim (cases_Bool (i + 1 == blocks)) [
            | inl k ↦
                let one = eqb-true (i + 1) blocks k in
                let a1 : a ≡ 1 = omega arith in
                let f : 2 * t + size / 2 ≤ 1 * size = rw a1 at few in
                rw k (omega arith)
            | inr k ↦
                let many : 2 ≤ blocks - i = two i blocks here k in
                let m : (blocks - i - 1) * size < want = omega (arith, below i blocks size len here last inside) in
                let n : a * size ≤ (blocks - i) * size = mul-le-mul_right size (let z : a ≤ blocks - i = omega arith in
                z) in
                let o : (blocks - i) * size ≤ (2 * (blocks - i - 1)) * size =
                mul-le-mul_right size (let z : blocks - i ≤ 2 * (blocks - i - 1) = omega arith in z) in
                let d : (2 * (blocks - i - 1)) * size ≡ 2 * ((blocks - i - 1) * size) = omega arith in
                rw k (omega arith)
          ]
    ]
  where
    two : (i blocks : ℕ) → i < blocks → (i + 1 == blocks) ≡ false → 2 ≤ blocks - i
    two i blocks lt h = elim (cases_Bool (nat_le 2 (blocks - i))) [
      | inl e ↦ leb-true 2 (blocks - i) e
      | inr e ↦ let f = leb-false 2 (blocks - i) e in let g : i + 1 ≡ blocks = omega arith in
          let k : (i + 1 == blocks) ≡ true = eq-eqb (i + 1) blocks g in absurd cc
    ]

    below : (i blocks size len : ℕ) → i < blocks → blocks * size < len + size → i * size < len
        → (blocks - i - 1) * size + i * size < len
    below i blocks size len lt last inside =
        let e : (blocks - i - 1) * size + i * size ≡ (blocks - i - 1 + i) * size = omega arith in
        let f : (blocks - i - 1 + i + 1) * size ≡ blocks * size =
        ap (λ (k : ℕ). k * size) (let z : blocks - i - 1 + i + 1 ≡ blocks = omega arith in z) in
        let g : (blocks - i - 1 + i + 1) * size ≡ (blocks - i - 1 + i) * size + size = omega arith in
        omega arith

-- what a part takes in a piece
pub raw_takes : (k : RunKind) (size used i q next : ℕ) → 0 < q → next ≡ i + q
    → piece_bytes size used k q + i * (size + 16) ≤ next * (size + 16)
raw_takes k size used i q next some e =
    let d : (i + q) * (size + 16) ≡ i * (size + 16) + (q * size + q * 16) = omega arith in
    let n : piece_bytes size used k q ≤ q * size + q * 16 = parts k in
    rw e (omega arith)
  where
    parts : (k : RunKind) → piece_bytes size used k q ≤ q * size + q * 16
    parts kinds.Raw = elim (cases_Bool (used == 0)) [ inl h ↦ rw h (omega arith) | inr h ↦ rw h (omega arith) ]
    parts (kinds.Fill w) = omega arith
    parts kinds.Skip = omega arith
    parts kinds.End = omega arith

pub minus_zero : (n : ℕ) → n - 0 ≡ n
minus_zero n = omega arith

-- what copying may have read before a place: after raw blocks what of them is in the source more
pub raw_copies : (len size i q next : ℕ) → next ≡ i + q
    → min len (i * size) + min (q * size) (len - i * size) ≤ min len (next * size)
raw_copies len size i q next e =
    let d : (i + q) * size ≡ i * size + q * size = omega arith in
    rw e (omega arith)

pub raw_onward : (len size i next : ℕ) → i ≤ next → min len (i * size) ≤ min len (next * size)
raw_onward len size i next le = let m : i * size ≤ next * size = mul-le-mul_right size le in omega arith

-- a place has no more than a later one that is asked for anew
pub raw_first : (len blocks size : ℕ) (c d : Cursor) → 4 ≤ size → len ≤ blocks * size → blocks * size < len + size
    → RawPlace blocks size c → c.block ≤ d.block → raw_charge len blocks size c ≤ raw_charge len blocks size (afresh d)
raw_first len blocks size c d some covers last place le = elim (cases_Bool (nat_lt d.block blocks)) [
  | inl e ↦
      let lt = ltb-true d.block blocks e in
      let lt' = lt-ltb c.block blocks (omega arith) in
      let m : (2 * c.block + 1 - c.ask) * size ≤ (2 * d.block + 1 - 1) * size =
      mul-le-mul_right size (let z : 2 * c.block + 1 - c.ask ≤ 2 * d.block + 1 - 1 = omega (arith, place.some) in
      z) in
      rw (e, lt') m
  | inr e ↦ rw e (raw_passed len blocks size c some covers last place).0
]

-- after the last block a pass has read as much, whatever is asked for
pub charge_end : (len blocks size : ℕ) (c : Cursor) → c.block ≡ blocks
    → raw_charge len blocks size (afresh c) ≤ raw_charge len blocks size c
charge_end len blocks size c e = elim (cases_Bool (nat_lt c.block blocks)) [
  | inl h ↦ absurd (let lt = ltb-true c.block blocks h in omega (arith, lt, e))
  | inr h ↦ rw h (omega arith)
]

-- the place after q of a blocks that were asked for
pub raw_next : (blocks size : ℕ) (from next : Cursor) (a q : ℕ) → RawPlace blocks size from → 0 < q → q ≤ a
    → from.block + a ≤ blocks → size ≤ 65536 → next.block ≡ from.block + q → next.used ≡ from.used
    → next.ask ≡ next_ask from.ask a q size → RawPlace blocks size next
raw_next blocks size from next a q w some few room small at used ask = elim (cases_Bool (nat_lt q a)) [
  | inl h ↦
      let one : next.ask ≡ 1 = rw h at ask in
      record {
        within = omega (arith, at, few, room);
        some = omega (arith, one);
        window = rw one (omega (arith, small));
        passed = omega (arith, one);
        used = used ∙ w.used;
      }
  | inr h ↦
      let all = ltb-false q a h in
      elim (cases_Bool ((a == from.ask) && nat_le (2 * from.ask * size) 65536)) [
        | inl d ↦
            let p = and_parts _ _ d in
            let asked = eqb-true a from.ask p.0 in
            let fits = leb-true (2 * from.ask * size) 65536 p.1 in
            let twice : next.ask ≡ 2 * from.ask = rw (h, d) at ask in
            record {
              within = omega (arith, at, few, room);
              some = omega (arith, twice, w.some);
              window = rw twice fits;
              passed = omega (arith, twice, at, all, asked);
              used = used ∙ w.used;
            }
        | inr d ↦
            let same : next.ask ≡ from.ask = rw (h, d) at ask in
            record {
              within = omega (arith, at, few, room);
              some = omega (arith, same, w.some);
              window = rw same w.window;
              passed = omega (arith, same, at, w.passed);
              used = used ∙ w.used;
            }
      ]
]
