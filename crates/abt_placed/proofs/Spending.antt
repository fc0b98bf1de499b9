-- What a window of a source costs, in plain numbers.
use Rattle.std.proofs.Common.{◌≡◌, ℕ, ◌+◌, ◌-◌, ◌*◌, ◌<◌, ◌≤◌, min, arith, mul-le-mul_right, ◌/◌}
use Rattle.abt_placed.specs.Whole.{read_of, spare}
use Rattle.abt_placed.proofs.Costs.{window, half, spare_none, spare_most}

-- what is spent from block i on
pub record Spent (i b len given given' reads reads' writes writes' long long' t t' : ℕ) : Type 0 where
  pub more : given ≤ given'
  pub economy : given' + read_of len b i ≤ given + len
  pub calls : reads' + writes' + long + spare 14 len b i ≤ reads + writes + long' + 6 * (given' - given) + 14
  pub turns : t' + long + spare (b + 14) len b i ≤ t + long' + 7 * (given' - given) + b + 14

-- what is spent up to block j
pub record Going (i j b len given given' reads reads' writes writes' long long' t t' : ℕ) : Type 0 where
  pub once : given' + read_of len b i ≡ given + read_of len b j
  pub calls : reads' + writes' + long + spare 14 len b i ≤ reads + writes + long' + 6 * (given' - given)
      + spare 14 len b j
  pub turns : t' + 1 + long + spare (b + 14) len b i ≤ t + long' + 7 * (given' - given) + spare (b + 14) len b j

-- a window that is read, whole
pub record Read (i a b len n want got given given' reads reads' t t' : ℕ) : Type 0 where
  pub below : i * b < len
  pub some : 0 < a
  pub four : 4 ≤ b
  pub is : want ≡ min (len - i * b) (a * b)
  pub all : got ≡ want
  pub within : i + a ≤ n
  pub last : n * b < len + b
  pub gives : given' ≡ given + got
  pub calls : reads' ≤ reads + got + 1
  pub turns : t' ≤ t + got + 1

pub window_read : (i a b len n at want got given given' reads reads' t t' : ℕ) → at ≡ i * b → at < len → 0 < a → 4 ≤ b
    → want ≡ min (len - at) (a * b) → got ≡ want → i + a ≤ n → n * b < len + b → given' ≡ given + got
    → reads' ≤ reads + got + 1 → t' ≤ t + got + 1 → Read i a b len n want got given given' reads reads' t t'
window_read i a b len n at want got given given' reads reads' t t' place below some four is all within last gives
    calls turns =
    record {
      below = rw place at below;
      some = some;
      four = four;
      is = rw place at is;
      all = all;
      within = within;
      last = last;
      gives = gives;
      calls = calls;
      turns = turns;
    }

pub read_costs : (i a b len n want got given given' reads reads' writes writes' long long' t t1 t2 t' : ℕ)
    → Read i a b len n want got given given' reads reads' t t1 → t2 ≡ t1
    → writes' + long ≤ writes + long' + 14 * a → t' + long ≤ t2 + long' + a * (b / 2 + 17)
    → Spent i b len given given' reads reads' writes writes' long long' t t'
read_costs i a b len n want got given given' reads reads' writes writes' long long' t t1 t2 t' h same calls turns =
    let x = window i a b len n want h.below h.some h.four h.within h.last h.is in
    let all = h.all in
    let e = h.gives in
    let z = spare_none 14 len b i (omega (arith, h.below)) in
    let y = spare_none (b + 14) len b i (omega (arith, h.below)) in
    record {
      more = omega (arith, e);
      economy = omega (arith, e, all, x.within);
      calls = omega (arith, e, all, z, x.calls, spare_most 14 len b (i + a), h.calls, calls);
      turns = omega (arith, e, all, y, x.turns, spare_most (b + 14) len b (i + a), h.turns, same, turns, half a b);
    }

pub going_costs : (i j a b len n want got given given' reads reads' writes writes' long long' t t1 t2 t' : ℕ)
    → j ≡ i + a → Read i a b len n want got given given' reads reads' t t1 → t2 ≡ t1
    → writes' + long ≤ writes + long' + 14 * a → t' + long ≤ t2 + long' + a * (b / 2 + 17)
    → Going i j b len given given' reads reads' writes writes' long long' t t'
going_costs i j a b len n want got given given' reads reads' writes writes' long long' t t1 t2 t' passed h same calls
    turns =
    let x = window i a b len n want h.below h.some h.four h.within h.last h.is in
    let all = h.all in
    let e = h.gives in
    let z = spare_none 14 len b i (omega (arith, h.below)) in
    let y = spare_none (b + 14) len b i (omega (arith, h.below)) in
    rw passed (record {
      once = omega (arith, e, all, x.read);
      calls = omega (arith, e, all, z, x.calls, h.calls, calls);
      turns = omega (arith, e, all, y, x.turns, h.turns, same, turns, half a b);
    })

-- what was taken of it was read
pub taken_read : (i j a b len n want got given given' reads reads' t t' : ℕ) → j ≤ i + a
    → Read i a b len n want got given given' reads reads' t t' → given + read_of len b j ≤ given' + read_of len b i
taken_read i j a b len n want got given given' reads reads' t t' le h =
    let x = window i a b len n want h.below h.some h.four h.within h.last h.is in
    let m : j * b ≤ (i + a) * b = mul-le-mul_right b le in
    omega (arith, h.all, h.gives, x.read, m)

-- a window of which not all is read
pub broken_costs : (i b len at want room got given given' reads reads' writes long t t1 t2 : ℕ) → at ≡ i * b
    → at < len → want ≡ min (len - at) room → got ≤ want → given' ≡ given + got → reads' ≤ reads + got + 1
    → t1 ≤ t + got + 1 → t2 ≡ t1
    → Spent i b len given given' reads reads' writes writes long long t t2
broken_costs i b len at want room got given given' reads reads' writes long t t1 t2 place below is few e calls turns
    same =
    let within : got ≤ len - at = omega (arith, is, few) in
    let z = spare_none 14 len b i (omega (arith, place, below)) in
    let y = spare_none (b + 14) len b i (omega (arith, place, below)) in
    record {
      more = omega (arith, e);
      economy = omega (arith, e, place, below, within);
      calls = omega (arith, e, z, calls);
      turns = omega (arith, e, y, turns, same);
    }

pub few_got : (got want x room : ℕ) → got ≤ want → want ≡ min x room → room ≤ 65536 → got ≤ 65536
few_got got want x room few is fits = omega (arith, few, is, fits)

pub last_on : (x y given given' got : ℕ) → x ≤ y → given' ≡ given + got → got ≤ 65536 → given' + x ≤ given + y + 65536
last_on x y given given' got le e few = omega (arith, le, e, few)

-- where nothing is read
pub unread_costs : (i b len given reads writes long t t' : ℕ) → t' ≡ t
    → Spent i b len given given reads reads writes writes long long t t'
unread_costs i b len given reads writes long t t' same =
    record {
      more = omega arith;
      economy = omega arith;
      calls = omega (arith, spare_most 14 len b i);
      turns = omega (arith, spare_most (b + 14) len b i, same);
    }
