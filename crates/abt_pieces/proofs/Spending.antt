-- What writing a piece reads, step by step.
use Rattle.std.proofs.Common.{◌≡◌, ◌==◌, ℕ, zero, suc, ◌+◌, ◌-◌, ◌*◌, ◌<◌, ◌≤◌, nat_lt, true, refl, sym, ap, subst, ◌∙◌}
use Rattle.std.proofs.Common.{arith, inl, inr, mul-le-mul_right, Some, None, Result, Ok, Err, IfOk}
use Rattle.std.proofs.lemmas.Bool.{cases_Bool, eqb-true, ltb-true, ltb-false, lt-ltb}
use Rattle.abt_runs.specs.Part.{Earliest, afresh, entry, is_end}
use Rattle.abt_runs.specs.declared.part.Cursor.{Cursor}
use Rattle.abt_runs.specs.declared.part.Run.{Run}
use Rattle.abt_runs.specs.declared.part.RunKind.{RunKind}
use Rattle.abt_runs.specs.declared.part.RunKind.TheVariants as kinds
use Rattle.abt_pieces.specs.Gather.{ClosedRun, SoundGatherer, gathered_on, gathered_to, first_gatherer}
use Rattle.abt_pieces.specs.Write.{begins, starts, begun_as, run_begun, chunk_opened, next_copying, copied_on}
use Rattle.abt_pieces.specs.Write.{IsCopying}
use Rattle.abt_pieces.specs.Spent.{charge_and_copied, Entered, SpentGathering, SpentPart, SpentCopying, Spent}
use Rattle.abt_pieces.specs.declared.gather.Gatherer.{Gatherer}
use Rattle.abt_pieces.specs.declared.write.Copying.{Copying}
use Rattle.abt_pieces.specs.declared.write.Writer.{Writer}
use Rattle.abt_pieces.proofs.Gathering.{still, begun, more, closes, on_case, same_at}
use Rattle.abt_pieces.proofs.Going.{void, raws, other, part_case, ended, goes, copy_case, some_of, mul_split, gathering}
use Rattle.abt_pieces.proofs.Going.{begun_keeps}
use Rattle.abt_pieces.proofs.Counts.{entry_most, entry_none, not_below}

pub same_afresh : (d : Cursor) → d.ask ≡ 1 → afresh d ≡ d
same_afresh d fresh = ap (λ (a : ℕ). record d { ask = a }) (sym fresh)

none_of : (n : ℕ) → (0 < n → ⊥) → n ≡ 0
none_of zero f = refl
none_of (suc n) f = absurd (f (omega arith))

entry_less : (a b : Cursor) → a.used ≤ b.used → entry a ≤ entry b
entry_less a b le = elim (cases_Bool (b.used == 0)) [
  | inl e ↦ let z = entry_none a (let y = eqb-true b.used 0 e in omega arith) in omega (arith, z)
  | inr e ↦ let m = entry_most a in rw e m
]

-- ---- gathering

-- what is known of a part that is gathered from a place
pub record SpentTo (charge copied : Cursor → ℕ) (past : ℕ) (d at : Cursor) (r : Run) : Type 0 where
  pub behind : gathered_to (charge_and_copied charge copied) past d at ≤ gathered_to
      (charge_and_copied charge copied) past d r.next
  pub next : r.next.block ≡ at.block + r.blocks
  pub unused : r.next.block < past → r.next.used ≡ 0
  pub raw : r.kind ≡ kinds.Raw → (r.next.block ≤ past) × (r.here.block ≡ at.block)
      × (charge_and_copied charge copied at ≤ charge_and_copied charge copied r.here)
      × (charge (afresh r.here) ≤ charge r.here) × (r.here.used ≤ at.used)

enters : (charge copied : Cursor → ℕ) (first past : ℕ) (d : Cursor) (s : ℕ) (g : Gatherer) (r : Run)
    → SpentGathering charge copied first past d s g → SpentTo charge copied past d g.at r → r.kind ≡ kinds.Raw
    → 0 < r.blocks → Entered charge copied first s r.here
enters charge copied first past d s g r h p k some =
    let z = p.raw k in
    let low : g.at.block < past = omega (arith, z.0, p.next, some) in
    let b : s ≤ charge_and_copied charge copied g.at + (16 - entry g.at) =
    rw (lt-ltb g.at.block past low) at h.behind in
    let e = entry_less r.here g.at z.4 in
    record {
      behind = omega (arith, b, e, z.2);
      anew = z.3;
      inside = λ u. z.1 ∙ h.inside low (omega (arith, u, z.4));
    }

pub spent_on : (charge copied : Cursor → ℕ) (first past : ℕ) (d : Cursor) (s : ℕ) (g : Gatherer) (r : Run)
    → SpentGathering charge copied first past d s g → SpentTo charge copied past d g.at r
    → SpentGathering charge copied first past d s (gathered_on g r).0
spent_on charge copied first past d s g r h p =
    let at = same_at g r in
    let behind : s ≤ gathered_to (charge_and_copied charge copied) past d r.next = omega (arith, h.behind, p.behind) in
    let inside : r.next.block < past → 0 < r.next.used → r.next.block ≡ first =
    λ low u. absurd (let z = p.unused low in omega arith) in
    elim (on_case g r) [
      | still none going e ↦ rw e (record { behind = behind; inside = inside; from = h.from })
      | begun some void' e ↦ rw e
          (record { behind = behind; inside = inside; from = λ k n. enters charge copied first past d s g r h p k n })
      | more some one alike e ↦ rw e (record { behind = behind; inside = inside; from = λ k n. h.from k one })
      | closes some one other' e ↦ rw e
          (record { behind = behind; inside = inside; from = λ k n. enters charge copied first past d s g r h p k n })
    ]

-- ---- a writer that looks on

-- a step of gathering that reads
pub record Looked (charge copied : Cursor → ℕ) (first past : ℕ) (d : Cursor) (s given given' : ℕ)
    (old new : Gatherer) : Type 0 where
  pub read : given' + gathered_to charge past d old.at ≤ given + gathered_to charge past d new.at
  pub grown : given ≤ given'
  pub gathering : SpentGathering charge copied first past d s new

still_copies : (Is : Cursor → Type 0) (charge copied : Cursor → ℕ) (held : Cursor → ℕ
    → ℕ) (first past s u v t t' e e' : ℕ) → u ≤ v → t' + e ≤ t + e'
    → SpentCopying Is charge copied held first past s u t e None
    → SpentCopying Is charge copied held first past s v t' e' None
still_copies Is charge copied held first past s u v t t' e e' le more' (inl h) = inl (omega (arith, h, more'))
still_copies Is charge copied held first past s u v t t' e e' le more' (inr h) =
    inr (omega (arith, h.0, le), λ c is low. let z = h.1 c is (omega (arith, low, le)) in omega (arith, z, more'))

pub spent_looks : (Is : Cursor → Type 0) (charge copied : Cursor → ℕ) (held : Cursor → ℕ → ℕ) (W : Cursor
    → Type 0) (n : ℕ) (d : Cursor) (s t given given' : ℕ) (w : Writer) (g : Gatherer) → w.copying ≡ None
    → SoundGatherer W n w.first w.past w.gatherer → SoundGatherer W n w.first w.past g
    → g.at.block + w.gatherer.count ≡ w.gatherer.at.block + g.count → Spent Is charge copied held d s t w
    → Looked charge copied w.first w.past d s given given' w.gatherer g
    → Spent Is charge copied held d s (t + (given' - given)) (gathering w g)
spent_looks Is charge copied held W n d s t given given' w g none old new grows h l =
    let c = rw none at h.copies in
    record {
      gathering = l.gathering;
      copies = rw none (still_copies Is charge copied held w.first w.past s (begins w.gatherer) (begins g) t
          (t + (given' - given)) (gathered_to charge w.past d w.gatherer.at) (gathered_to charge w.past d g.at)
          (omega (arith, grows, old.behind_it, new.behind_it)) (omega (arith, l.read, l.grown)) c);
    }

start_part : (Is : Cursor → Type 0) (charge copied : Cursor → ℕ) (held : Cursor → ℕ
    → ℕ) (first past s u v t t' e e' : ℕ) (c : Cursor) (q : ℕ) → held c 0 ≤ 0 → Entered charge copied first s c → Is c
    → c.block ≡ u → u < v → u ≤ past → t' + e ≤ t + e'
    → SpentCopying Is charge copied held first past s u t e None → SpentPart Is charge copied held v t' e' (starts c q)
start_part Is charge copied held first past s u v t t' e e' c q empty into is spot lt end more' (inl h) =
    let m = entry_most c in
    record {
      read = omega (arith, h, into.behind, m, more');
      going = λ low. omega (arith, h, into.behind, m, more');
      whole = omega (arith, empty);
      first = λ same. absurd (omega (arith, same, spot, lt));
    }
start_part Is charge copied held first past s u v t t' e e' c q empty into is spot lt end more' (inr h) =
    let z = h.1 c is (omega (arith, spot, end)) in
    let used : c.used ≡ 0 = none_of c.used (λ p. let y = into.inside p in omega (arith, y, spot, h.0)) in
    let none = entry_none c used in
    record {
      read = omega (arith, z, into.anew, more');
      going = λ low. omega (arith, z, into.anew, none, more');
      whole = omega (arith, empty);
      first = λ same. absurd (omega (arith, same, spot, lt));
    }

begins_spent : (Is : Cursor → Type 0) (charge copied : Cursor → ℕ) (held : Cursor → ℕ
    → ℕ) (s t t' e e' : ℕ) (w : Writer) (g : Gatherer) (r : Run) (k : RunKind)
    → (k ≡ kinds.Raw → (held r.here 0 ≤ 0) × Entered charge copied w.first s r.here × Is r.here
    × (r.here.block ≡ begins w.gatherer) × (begins w.gatherer ≤ w.past)) → w.copying ≡ None
    → begins w.gatherer < begins g → t' + e ≤ t + e'
    → SpentCopying Is charge copied held w.first w.past s (begins w.gatherer) t e None
    → SpentCopying Is charge copied held w.first w.past s (begins g) t' e' (begun_as k (gathering w g) r).copying
begins_spent Is charge copied held s t t' e e' w g r kinds.Raw raw none lt more' h = let z = raw refl in
    start_part Is charge copied held w.first w.past s (begins w.gatherer)
    (begins g) t t' e e' r.here r.blocks z.0 z.1 z.2 z.3 lt z.4 more' h
begins_spent Is charge copied held s t t' e e' w g r (kinds.Fill v) raw none lt more' h =
    rw none (still_copies Is charge copied held w.first w.past s (begins w.gatherer) (begins g) t t' e e'
    (omega (arith, lt)) more' h)
begins_spent Is charge copied held s t t' e e' w g r kinds.Skip raw none lt more' h =
    rw none (still_copies Is charge copied held w.first w.past s (begins w.gatherer) (begins g) t t' e e'
    (omega (arith, lt)) more' h)
begins_spent Is charge copied held s t t' e e' w g r kinds.End raw none lt more' h =
    rw none (still_copies Is charge copied held w.first w.past s (begins w.gatherer) (begins g) t t' e e'
    (omega (arith, lt)) more' h)

pub run_spent : (Is : Cursor → Type 0) (charge copied : Cursor → ℕ) (held : Cursor → ℕ → ℕ) (W : Cursor
    → Type 0) (n : ℕ) (d : Cursor) (s t given given' : ℕ) (w : Writer) (g : Gatherer) (r : Run)
    → ((c : Cursor) → held c 0 ≤ 0) → (w.gatherer.kind ≡ kinds.Raw → 0 < w.gatherer.count → Is w.gatherer.from)
    → w.copying ≡ None → SoundGatherer W n w.first w.past w.gatherer → ClosedRun w.gatherer g r
    → Spent Is charge copied held d s t w → Looked charge copied w.first w.past d s given given' w.gatherer g
    → Spent Is charge copied held d s (t + (given' - given)) (run_begun (gathering w g) r)
run_spent Is charge copied held W n d s t given given' w g r empty place none old run h l =
    let c = rw none at h.copies in
    let k = begun_keeps r.kind (gathering w g) r in
    let copies = begins_spent Is charge copied held s t (t + (given' - given))
    (gathered_to charge w.past d w.gatherer.at) (gathered_to charge w.past d g.at) w g r r.kind
    (λ k.
    let same = sym run.kind ∙ k in
    let z = old.raw same run.some in
    rw run.here (
      empty w.gatherer.from,
      h.gathering.from same run.some,
      place same run.some,
      (let y : w.gatherer.from.block ≡ w.gatherer.at.block - w.gatherer.count = omega (arith, z.whole) in y),
      omega (arith, z.past),
    ))
    none (omega (arith, run.start, run.some, old.behind_it)) (omega (arith, l.read, l.grown)) c in
    record {
      gathering = rw (k.2, k.0, k.1) l.gathering;
      copies = rw (k.2, k.0, k.1) copies;
    }

-- a chunk that is begun reads nothing
pub open_spent : (Is : Cursor → Type 0) (charge copied : Cursor → ℕ) (held : Cursor → ℕ
    → ℕ) (d : Cursor) (s t given b : ℕ) (w : Writer) (c : Copying) → w.copying ≡ Some c
    → Spent Is charge copied held d s t w → Spent Is charge copied held d s (t + (given - given)) (chunk_opened w c b)
open_spent Is charge copied held d s t given b w c is h =
    let z : t + (given - given) ≡ t = omega arith in
    let p = rw is at h.copies in
    rw z (record {
      gathering = h.gathering;
      copies = record {
        read = p.read;
        going = p.going;
        whole = p.whole;
        first = p.first;
      };
    })

-- ---- the next part of a raw run

-- what a part up to block u has read
pub record SpentNext (Is : Cursor → Type 0) (charge copied : Cursor → ℕ) (held : Cursor → ℕ
    → ℕ) (b u given given' : ℕ) (from : Cursor) (r : Run) : Type 0 where
  pub next : r.next.block ≡ from.block + r.blocks
  pub charged : given' + charge from ≤ given + charge r.next + entry from
  pub onward : (copied from ≤ copied r.here) × (copied r.here ≤ copied r.next)
  pub copies : r.kind ≡ kinds.Raw → copied r.here + held r.here (r.blocks * b) ≤ copied r.next
  pub stops : 0 < r.next.used → r.blocks ≡ u - from.block
  pub first : 0 < r.blocks → Earliest Is copied charge r.next
  pub grown : given ≤ given'

pub spent_next : (Is : Cursor → Type 0) (charge copied : Cursor → ℕ) (held : Cursor → ℕ
    → ℕ) (b u t e given given' : ℕ) (c c' : Copying) (r : Run) → c.next.block < u → c.done ≡ c.size
    → SpentNext Is charge copied held b u given given' c.next r → next_copying c r b ≡ Some c'
    → SpentPart Is charge copied held u t e c → SpentPart Is charge copied held u (t + (given' - given)) e c'
spent_next Is charge copied held b u t e given given' c c' r low whole p is h =
    let from = h.going low in
    let none : r.next.block < u → entry r.next ≡ 0 =
    λ less. entry_none r.next (none_of r.next.used (λ q. let z = p.stops q in
    omega (arith, z, p.next, less, low))) in
    elim (part_case c r b) [
      | void gone going same ↦
          let v : SpentPart Is charge copied held u (t + (given' - given)) e
          (record { here = c.here; next = r.next; size = c.size; done = c.done; left = c.left; after = c.after })
          = record {
            read = omega (arith, from, p.charged, p.grown);
            going = λ less. let z = none less in omega (arith, from, p.charged, p.grown, z);
            whole = omega (arith, h.whole, p.onward);
            first = λ there. absurd (omega (arith, there, p.next, gone, low));
          } in
          subst (λ (x : Copying). SpentPart Is charge copied held u (t + (given' - given)) e x)
          (some_of _ c' (sym same ∙ is)) v
      | raws k same ↦
          let full : held c.here c.done ≡ held c.here c.size = ap (λ (m : ℕ). held c.here m) whole in
          let v : SpentPart Is charge copied held u (t + (given' - given)) e
          (record { here = r.here; next = r.next; size = r.blocks * b; done = 0; left = c.left; after = c.after })
          = record {
            read = omega (arith, from, p.charged, p.grown, full, h.whole, p.onward);
            going = λ less. let z = none less in omega (arith, from, p.charged, p.grown, full, h.whole, p.onward, z);
            whole = p.copies k;
            first = λ there. p.first (omega (arith, there, p.next, low));
          } in
          subst (λ (x : Copying). SpentPart Is charge copied held u (t + (given' - given)) e x)
          (some_of _ c' (sym same ∙ is)) v
      | other nay some same ↦ absurd (let z : Some c' ≡ None = sym is ∙ same in cc)
    ]

-- ---- bytes of a raw run

-- where the last byte of a run is copied, its last part is whole, and ends before the block after it
run_ends : (W : Cursor → Type 0) (reach : Cursor → ℕ) (b s e u bytes n : ℕ) (c : Copying) → 0 < b
    → IsCopying W reach b s e u bytes c → c.done + n ≤ c.size → 0 < n → c.after ≡ 0 → c.left ≡ n → (c.next.block ≡ u)
    × (c.here.block < u)
run_ends W reach b s e u bytes n c some h fits any last all =
    let m = mul_split c.here.block c.next.block u b h.order h.until in
    let total : c.left + c.done ≡ (u - c.here.block) * b =
    h.total ∙ ap (λ (x : ℕ). x * b) (let z : u - c.after - c.here.block ≡ u - c.here.block = omega
    (arith, last) in z) in
    let end : c.next.block ≡ u = elim (cases_Bool (nat_lt c.next.block u)) [
      | inl l ↦
          let less = ltb-true c.next.block u l in
          let one : 1 * b ≤ (u - c.next.block) * b = mul-le-mul_right b (let z : 1 ≤ u - c.next.block = omega arith in
          z) in
          absurd (omega (arith, m, one, total, h.part, fits, all, some))
      | inr l ↦ let over = ltb-false c.next.block u l in omega (arith, over, h.until)
    ] in
    let behind : c.here.block < u = elim (cases_Bool (nat_lt c.here.block u)) [
      | inl l ↦ ltb-true c.here.block u l
      | inr l ↦
          let over = ltb-false c.here.block u l in
          let none : (u - c.here.block) * b ≡ 0 * b =
          ap (λ (x : ℕ). x * b) (let z : u - c.here.block ≡ 0 = omega (arith, over) in z) in
          absurd (omega (arith, none, total, all, any))
    ] in
    (end, behind)

pub spent_copies : (Is : Cursor → Type 0) (charge copied : Cursor → ℕ) (held : Cursor → ℕ → ℕ) (W : Cursor
    → Type 0) (reach : Cursor → ℕ) (b first past u bytes s t e given given' n : ℕ) (c : Copying) → 0 < b → 0 < n
    → IsCopying W reach b first past u bytes c → c.done + n ≤ c.size → given ≤ given'
    → held c.here (c.done + n) ≤ held c.here c.size → given' + held c.here c.done ≤ given + held c.here (c.done + n)
    → SpentPart Is charge copied held u t e c
    → SpentCopying Is charge copied held first past s u (t + (given' - given)) e (copied_on c n)
spent_copies Is charge copied held W reach b first past u bytes s t e given given' n c some any i fits le grows read h
    = elim (copy_case c n) [
      | ended y z same ↦
          let end = run_ends W reach b first past u bytes n c some i fits any y z in
          let last = h.first end.0 in
          rw same (inr (
            omega (arith, i.first, end.1),
            λ d is low.
                let far : c.next.block ≤ d.block = omega (arith, low, end.0, i.past) in
                let f = last d is far in
                omega (arith, h.read, h.whole, grows, read, le, f.0, f.1),
          ))
      | goes ne same ↦ rw same (record {
        read = omega (arith, h.read, read, le);
        going = λ low. let z = h.going low in omega (arith, z, read, le);
        whole = h.whole;
        first = h.first;
      })
    ]

-- ---- a step that reads nothing

pub spent_same : (Is : Cursor → Type 0) (charge copied : Cursor → ℕ) (held : Cursor → ℕ
    → ℕ) (d : Cursor) (s t given : ℕ) (w : Writer) → Spent Is charge copied held d s t w
    → Spent Is charge copied held d s (t + (given - given)) w
spent_same Is charge copied held d s t given w h = let z : t + (given - given) ≡ t = omega arith in rw z h

pub always_ok : {A E : Type 0} (r : Result A E) (P : A → Type 0) → ((x : A) → P x) → IfOk r P
always_ok (Ok x) P h = h x
always_ok (Err f) P h = tt

-- ---- the whole piece

spent_most : (Is : Cursor → Type 0) (charge copied : Cursor → ℕ) (held : Cursor → ℕ → ℕ) (first past s u t e : ℕ)
    (d : Cursor) → Is d → d.block ≡ past → d.ask ≡ 1 → past ≤ u → s ≤ charge d + copied d + 16 → e ≡ charge d + 16
    → SpentCopying Is charge copied held first past s u t e None → t ≤ 2 * charge d + copied d + 32
spent_most Is charge copied held first past s u t e d is there fresh end most all (inl h) = omega (arith, h, most, all)
spent_most Is charge copied held first past s u t e d is there fresh end most all (inr h) =
    let z = h.1 d is (omega (arith, there, end)) in
    let same : charge (afresh d) ≡ charge d = ap charge (same_afresh d fresh) in
    omega (arith, z, same, all)

pub spent_whole : (Is : Cursor → Type 0) (charge copied : Cursor → ℕ) (held : Cursor → ℕ → ℕ) (W : Cursor
    → Type 0) (n : ℕ) (d : Cursor) (s t : ℕ) (w : Writer) → Is d → d.block ≡ w.past → d.ask ≡ 1 → w.copying ≡ None
    → is_end w.gatherer.kind ≡ true → SoundGatherer W n w.first w.past w.gatherer
    → Spent Is charge copied held d s t w → t ≤ 2 * charge d + copied d + 32
spent_whole Is charge copied held W n d s t w is there fresh none done sound h =
    let z = sound.ended done in
    let over = not_below w.gatherer.at.block w.past (omega (arith, z.1, sound.past)) in
    let c = rw none at h.copies in
    spent_most Is charge copied held w.first w.past s (begins w.gatherer) t
    (gathered_to charge w.past d w.gatherer.at) d is there fresh (omega (arith, z.0, z.1, sound.past))
    (let b = h.gathering.behind in rw over at b) (rw over refl) c

-- nothing is read before the first chunk
pub spent_first : (Is : Cursor → Type 0) (charge copied : Cursor → ℕ) (held : Cursor → ℕ
    → ℕ) (start d : Cursor) (w : Writer) → w.gatherer ≡ first_gatherer start → w.copying ≡ None → w.first ≡ start.block
    → Spent Is charge copied held d (gathered_to (charge_and_copied charge copied) w.past d start)
    (gathered_to charge w.past d start + gathered_to (charge_and_copied charge copied) w.past d start) w
spent_first Is charge copied held start d w gathers none first = record {
  gathering = rw gathers (record { behind = omega arith; inside = λ low u. sym first; from = λ k. absurd cc });
  copies = rw (none, gathers) (inl (omega arith));
}
