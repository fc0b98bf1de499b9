-- The three lists of a partition that can crash, and what tears a write.
use Rattle.std.proofs.Common.{◌≡◌, ℕ, ◌+◌, ◌-◌, ◌<◌, ◌≤◌, Bool, true, false, List, ◌∷◌, length, take, get_or, replicate}
use Rattle.std.proofs.Common.{sym, ap, ◌∙◌, arith, inl, inr, ◌||◌}
use Rattle.std.proofs.lemmas.Bool.{cases_Bool}
use Rattle.std.proofs.lemmas.Bool.Decides.{nat_tests}
use Rattle.std.proofs.lemmas.List.{get_or-replicate, length-replicate, take-replicate}
use Rattle.std.specs.Prelude.{Result, Ok, Err, IfOk, OnErr}
use Rattle.abt_io.specs.Moment.{in_range, is_pending, put_at}
use Rattle.abt_io.specs.Count.{count_of}
use Rattle.abt_io.specs.declared.device.DeviceFault.{DeviceFault}
use Rattle.mem_devices.proofs.Outside.{put_inside, put_long, put_outside}
use Rattle.mem_devices.specs.Crash.{IsTorn, IsTracked}

-- a byte that isn't marked is outside the range, and wasn't marked before
unmarked : (t : List ℕ) (at n i : ℕ) → at + n ≤ length t → get_or (put_at t at (replicate n 1)) i 0 ≡ 0
    → (in_range at n i ≡ false) × (get_or t i 0 ≡ 0)
unmarked t at n i fits z =
    let long = length-replicate {A = ℕ} n 1 in
    elim (cases_Bool (in_range at n i)) [
      | inl s ↦
          let ge : at ≤ i = grind (arith, nat_tests) in let lt : i < at + n = grind (arith, nat_tests) in
          let one : get_or (put_at t at (replicate n 1)) i 0 ≡ 1 =
          put_inside t (replicate n 1) at i (omega arith) ge (omega arith)
          ∙ get_or-replicate n (i - at) 1 0 (omega arith) in
          absurd (omega arith)
      | inr s ↦
          let out : in_range at (length (replicate n 1)) i ≡ false = ap (λ (k : ℕ). in_range at k i) long ∙ s in
          (s, sym (put_outside t (replicate n 1) at i (omega arith) out) ∙ z)
    ]

-- after a write
pub tracked_more : (x s t : List ℕ) (p : List (ℕ × ℕ)) (at : ℕ) (b : List ℕ) → IsTracked x s t p
    → at + length b ≤ length x
    → IsTracked (put_at x at b) s (put_at t at (replicate (length b) 1)) ((at, length b) ∷ p)
tracked_more x s t p at b h fits =
    let n = length b in
    let long = length-replicate {A = ℕ} n 1 in
    let x_long = put_long x b at fits in
    let t_long : length (put_at t at (replicate n 1)) ≡ length t =
    put_long t (replicate n 1) at (omega (arith, h.touched_long)) in
    let room : at + n ≤ length t = omega (arith, h.touched_long) in
    record {
      stable_long = h.stable_long ∙ sym x_long;
      touched_long = t_long ∙ h.touched_long ∙ sym x_long;
      agrees = λ i z. let u = unmarked t at n i room z in h.agrees i u.1 ∙ sym (put_outside x b at i (omega arith) u.0);
      untouched = λ i z. let u = unmarked t at n i room z in ap (λ (k : Bool). k || is_pending p i) u.0
          ∙ h.untouched i u.1;
      only = λ i lt f. elim (cases_Bool (in_range at n i)) [
        | inl e ↦ absurd (let w : true ≡ false = sym (ap (λ (k : Bool). k || is_pending p i) e) ∙ f in cc)
        | inr e ↦
            let rest : is_pending p i ≡ false = sym (ap (λ (k : Bool). k || is_pending p i) e) ∙ f in
            let out : in_range at (length (replicate n 1)) i ≡ false = ap (λ (k : ℕ). in_range at k i) long ∙ e in
            put_outside t (replicate n 1) at i (omega arith) out ∙ h.only i (omega arith) rest
      ];
    }

-- a write of one byte again and again tears its range, unless the partition fails too
pub torn_of : (mark at n f f' : ℕ) (r : Result ℕ DeviceFault) (fill old new : List ℕ) → fill ≡ replicate n mark
    → count_of r ≤ length fill
    → IfOk r (λ k. 0 < length fill → 0 < k) → IfOk r (λ k. new ≡ put_at old at (take k fill)) → OnErr r (f < f')
    → 0 < n → f' ≡ f → IsTorn mark at n old new
torn_of mark at n f f' (Ok k) fill old new e within progress written cause some same =
    let long : length fill ≡ n = ap length e ∙ length-replicate {A = ℕ} n mark in
    let least : k ≤ length fill = within in
    let few : k ≤ n = omega (arith, least, long) in
    record {
      count = k;
      some = progress (omega (arith, some, long));
      within = few;
      filled = written
          ∙ ap (λ (l : List ℕ). put_at old at l) (ap (take k) e ∙ take-replicate k n mark few);
    }
torn_of mark at n f f' (Err d) fill old new e within progress written cause some same = let rose : f < f' = cause in
    absurd (omega (arith, rose, same))
