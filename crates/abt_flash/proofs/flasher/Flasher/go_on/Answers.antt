use Rattle.std.proofs.Common.{◌≡◌, ◌+◌, ◌-◌, ◌≤◌, ◌<◌, ◌^◌, ◌++◌, ℕ, Bool, List, [], true, false, length, take, arith}
use Rattle.std.proofs.Common.{refl, sym, ap, ◌∙◌, length-take, take-append-drop, nat_lt, max, ◌&&◌, ltb-false}
use Rattle.std.proofs.lemmas.List.{length-take-le}
use Rattle.abt_chunks.specs.Cause.{wanted}
use Rattle.abt_chunks.specs.Parts.{ahead}
use Rattle.abt_chunks.specs.declared.walk.Walk.{Walk}
use Rattle.abt_chunks.proofs.Short.{short_of}
use Rattle.abt_flash.specs.Stepping.{is_short_of, need_of, passed}
use Rattle.abt_flash.proofs.FlashSteps.{answer_cause, laid_part, nothing_laid, refused_cause, refused_heads}
use Rattle.abt_flash.proofs.FlashSteps.{refused_laid, refused_leaves, refused_measures}
use Rattle.abt_flash.proofs.Places.{fresh_goes, room_for}
use Rattle.abt_flash.proofs.Answering.{on_more, never_short, answer_leaves, answer_done, answer_measures}
use Rattle.abt_flash.proofs.Answering.{answer_refused, answer_settles, begins_of, faults_rise, refused_none}
use Rattle.abt_flash.proofs.Answering.{refused_short}
use Rattle.abt_flash.proofs.Heads.{heads}
use Rattle.abt_flash.proofs.Come.{going_phase}
use Rattle.abt_flash.proofs.flasher.Flasher.go_on.Goals as goal
use Rattle.std.proofs.Common.{rules}

pub lay_part-done-requires-clause-fits : goal.lay_part-done-requires-clause-fits
lay_part-done-requires-clause-fits g c =
    let s = c.args.self.now.walk in
    let size = g.P.Source.size c.args.partition.now in
    let short : is_short_of s size ≡ false = ap (λ (k : ℕ). is_short_of s k) (sym c.length.ensures.size)
    ∙ sym c.is_short.ensures ∙ c.if-is_short.false in
    let small : need_of s < 2 ^ 64 = omega (arith, c.need-need.ensures) in
    rw c.place-at.ensures
    (room_for s c.part_within-taken.result.part size short c.part_within-taken.ensures.step.turn.inside small).0

not_short : (s : Walk) (size : ℕ) → is_short_of s size ≡ false → passed s ≡ true → need_of s ≤ size
not_short s size short q = ltb-false _ _ (ap (λ (b : Bool). b && nat_lt size (need_of s)) (sym q) ∙ short)

-- fewer bytes than a step read give no more than themselves
few_read : (s : Walk) (rem : List ℕ) (n : ℕ) → n ≤ length rem → n ≤ wanted s → (m : ℕ) → m < length (take n rem)
    → length (ahead s (take m (take n rem))).cells ≤ m
few_read s rem n there lacks m less = let long = length-take-le n rem there in
    short_of s (take n rem) n m (omega (arith, long)) lacks (omega (arith, long, less))

nothing_read : (n : ℕ) (x : List ℕ) → take (n - n) x ≡ []
nothing_read n x = ap (λ (k : ℕ). take k x) (let z : n - n ≡ 0 = omega arith in z)

closed : (m m1 m2 m3 r n n' : ℕ) → m1 ≡ m → m2 ≡ m1 → m3 ≡ max m2 r → n' ≡ n + r → m3 ≡ max m (n' - n)
closed m m1 m2 m3 r n n' a b e d = omega (arith, a, b, e, d)

pub returns-then-is_short : goal.returns-then-is_short
returns-then-is_short g c = record {
  stepped = record {
    read = search rules;
    unread = search rules;
    told = λ models. nothing_laid _ _ _ _ _ _ _ _ _ _ (nothing_read _ _) refl (λ goes. tt) tt;
    heads = search rules;
    syncs = search rules;
    measures = search rules;
    short = search rules;
    goes_on = search rules;
    laid = search rules;
    stage = search rules;
    leaves = search rules;
    cause = search rules;
    grows = search rules;
    fewer = search rules;
    costs = search rules;
    one_step = search rules;
  };
}

pub returns-in-Ok : goal.returns-in-Ok
returns-in-Ok g c = record {
  stepped = record {
    read =
        record {
          asked = search rules;
          present = λ models. let p = c.part_within-taken.ensures in p.step.input.input.present models;
          rest = search rules;
          frame = search rules;
        };
    unread = search rules;
    told = λ models.
        let p = c.part_within-taken.ensures in
        let e = c.in-Ok.ensures in
        let r = c.part_within-taken.result.received in
        let rem = g.I.Input.remaining c.args.input.now in
        let win = c.part_within-taken.new.w.bytes in
        let k : g.I.Input.given c.part_within-taken.new.input - g.I.Input.given c.args.input.now ≡ r = omega arith in
        let long : r ≤ length win =
        omega (
          arith,
          ap length (p.gives.window models),
          length-take r win,
          length-take r rem,
          p.step.input.input.present models,
        ) in
        rw (k, c.answer-answer.ensures)
        (laid_part g.P.Source.models c.args.self.now.stage c.args.self.now.walk c.part_within-taken.new.self
        (take r rem) (g.I.Input.remaining c.part_within-taken.new.input) win
        (g.P.Partition.past c.args.partition.now) (g.P.Partition.past c.lay_part-done.new.partition)
        (g.P.Source.content c.args.partition.now) (g.P.Source.content c.lay_part-done.new.partition)
        (g.P.Partition.taken c.args.partition.now) (g.P.Partition.taken c.lay_part-done.new.partition) r
        c.max-all.result (p.gives.window models) long
        (few_read c.args.self.now.walk rem r (rw k at (p.step.input.input.present models)) p.step.input.wanted)
        c.part_within-taken.result.part p.step.turn.moved p.gives.words.within p.step.turn.leaves
        (p.gives.told models).says p.step.turn.place e.all
        (λ t. rw c.place-at.ensures at ((e.laid t).all)) (λ t. rw c.place-at.ensures at (e.touches t).kept)
        (λ t. rw c.place-at.ensures at (e.touches t).moments));
    heads = λ models goes.
        let p = c.part_within-taken.ensures in
        let r = c.part_within-taken.result.received in
        let rem = g.I.Input.remaining c.args.input.now in
        let rest = g.I.Input.remaining c.part_within-taken.new.input in
        let k : g.I.Input.given c.part_within-taken.new.input - g.I.Input.given c.args.input.now ≡ r = omega arith in
        let joined : take r rem ++ rest ≡ rem =
        ap (λ (l : List ℕ). take r rem ++ l) (rw k at (p.step.input.input.rest models)) ∙ take-append-drop r rem in
        rw c.answer-answer.ensures
        (heads c.part_within-taken.result.part c.args.self.now.walk c.part_within-taken.new.self
        (take r rem) rest rem joined p.step.turn.leaves ((p.gives.told models).lists rest (λ z. refl)));
    syncs =
        record {
          settled = λ goes models. rw c.answer-answer.ensures (answer_settles c.part_within-taken.result.part _
              (c.in-Ok.ensures.settled models));
          synced =
              let done = answer_done c.part_within-taken.result.part in
              let synced = c.in-Ok.ensures.synced in
              rw (c.answer-answer.ensures, c.requires.going) (omega (arith, done, synced));
          refused = λ goes.
              let none = answer_refused c.part_within-taken.result.part in
              let syncs = c.in-Ok.ensures.refused_syncs in
              rw c.answer-answer.ensures (omega (arith, none, syncs));
        };
    measures = λ goes.
        let s = c.args.self.now.walk in
        let size = g.P.Source.size c.args.partition.now in
        let short : is_short_of s size ≡ false = ap (λ (k : ℕ). is_short_of s k) (sym c.length.ensures.size)
        ∙ sym c.is_short.ensures ∙ c.if-is_short.false in
        rw c.answer-answer.ensures (answer_measures c.part_within-taken.result.part s size
        (going_phase c.args.self.now.stage s.phase goes) c.part_within-taken.ensures.step.turn.closes
        (λ q. not_short s size short q));
    short = rw c.answer-answer.ensures (never_short c.part_within-taken.result.part _);
    goes_on =
        record {
          fresh = λ goes.
              let p = c.part_within-taken.ensures in
              rw c.answer-answer.ensures
              (fresh_goes c.part_within-taken.result.part c.args.self.now.walk c.part_within-taken.new.self
              c.part_within-taken.result.received c.max-all.result _
              (going_phase c.args.self.now.stage c.args.self.now.walk.phase goes) p.step.turn.numbers
              p.step.turn.leaves p.step.turn.moved p.gives.words.within p.step.turn.inside c.in-Ok.ensures.still);
          header =
              let p = c.part_within-taken.ensures in
              rw c.answer-answer.ensures (on_more c.part_within-taken.result.part _ (λ goes. p.step.turn.header));
          begins =
              let p = c.part_within-taken.ensures in
              rw c.answer-answer.ensures
              (begins_of c.part_within-taken.result.part c.args.self.now.walk c.part_within-taken.new.self
              c.part_within-taken.result.received p.step.turn.leaves p.step.turn.numbers
              (λ over. ap (λ (s : Walk). s.phase) (p.step.over over).0));
        };
    laid = search rules;
    stage = search rules;
    leaves = λ goes. rw c.answer-answer.ensures
        (answer_leaves c.part_within-taken.result.part _ c.part_within-taken.ensures.step.turn.leaves);
    cause = λ goes.
        let p = c.part_within-taken.ensures in
        let going = going_phase c.args.self.now.stage c.args.self.now.walk.phase goes in
        rw c.answer-answer.ensures
        (answer_cause c.part_within-taken.result.part _ _ _ _ _ going p.step.blame.cause p.step.blame.clean
        (p.step.blame.failed going) c.in-Ok.ensures.cause);
    grows = search rules;
    fewer =
        let p = c.part_within-taken.ensures in
        rw c.answer-answer.ensures (on_more c.part_within-taken.result.part _ p.step.turn.fewer);
    costs =
        record {
          reads = search rules;
          puts = search rules;
          turns = search rules;
          few =
              let p = c.part_within-taken.ensures in
              rw c.answer-answer.ensures (on_more c.part_within-taken.result.part _
              (λ goes. omega (
                arith,
                p.step.meter.turns,
                p.step.input.received,
                c.in-Ok.ensures.costs.few,
                c.close_step-2.ensures.turns,
              )));
          progress = search rules;
        };
    one_step =
        record {
          steps = search rules;
          greatest = closed _ _ _ _ _ _ _ c.part_within-taken.ensures.step.meter.greatest
              c.lay_part-done.ensures.costs.no_step.greatest c.close_step-2.ensures.greatest
              c.part_within-taken.ensures.step.input.received;
        };
  };
}

pub returns-in-Err : goal.returns-in-Err
returns-in-Err g c = record {
  stepped = record {
    read =
        record {
          asked = search rules;
          present = λ models. let p = c.part_within-taken.ensures in p.step.input.input.present models;
          rest = search rules;
          frame = search rules;
        };
    unread = search rules;
    told = λ models.
        let p = c.part_within-taken.ensures in
        let e = c.in-Err.ensures in
        let r = c.part_within-taken.result.received in
        let rem = g.I.Input.remaining c.args.input.now in
        let win = c.part_within-taken.new.w.bytes in
        let k : g.I.Input.given c.part_within-taken.new.input - g.I.Input.given c.args.input.now ≡ r = omega arith in
        let long : r ≤ length win =
        omega (
          arith,
          ap length (p.gives.window models),
          length-take r win,
          length-take r rem,
          p.step.input.input.present models,
        ) in
        rw k (refused_laid g.P.Source.models c.args.self.now.stage c.args.self.now.walk c.part_within-taken.new.self
        (take r rem) (g.I.Input.remaining c.part_within-taken.new.input) win
        (g.P.Partition.past c.args.partition.now) (g.P.Partition.past c.lay_part-done.new.partition)
        (g.P.Source.content c.args.partition.now) (g.P.Source.content c.lay_part-done.new.partition)
        (g.P.Partition.taken c.args.partition.now) (g.P.Partition.taken c.lay_part-done.new.partition) r
        c.max-all.result (p.gives.window models) long
        (few_read c.args.self.now.walk rem r (rw k at (p.step.input.input.present models)) p.step.input.wanted)
        c.part_within-taken.result.part c.in-Err.fault _ _ p.step.turn.moved p.gives.words.within p.step.turn.leaves
        (p.gives.told models).says e.cause e.ends e.all (λ t. rw c.place-at.ensures at ((e.laid t).all))
        (λ t. rw c.place-at.ensures at ((e.laid t).front)) (λ t. rw c.place-at.ensures at (e.touches t).kept)
        (λ t. rw c.place-at.ensures at (e.touches t).moments));
    heads = λ models goes.
        let p = c.part_within-taken.ensures in
        let e = c.in-Err.ensures in
        let r = c.part_within-taken.result.received in
        let rem = g.I.Input.remaining c.args.input.now in
        let rest = g.I.Input.remaining c.part_within-taken.new.input in
        let k : g.I.Input.given c.part_within-taken.new.input - g.I.Input.given c.args.input.now ≡ r = omega arith in
        let joined : take r rem ++ rest ≡ rem =
        ap (λ (l : List ℕ). take r rem ++ l) (rw k at (p.step.input.input.rest models)) ∙ take-append-drop r rem in
        refused_heads c.part_within-taken.result.part c.in-Err.fault c.args.self.now.walk c.part_within-taken.new.self
        rem rest _ _ e.cause e.ends
        (heads c.part_within-taken.result.part c.args.self.now.walk c.part_within-taken.new.self
        (take r rem) rest rem joined p.step.turn.leaves ((p.gives.told models).lists rest (λ z. refl)));
    syncs =
        record {
          settled = search rules;
          synced =
              let none = refused_none c.part_within-taken.result.part c.in-Err.fault in
              let synced = c.in-Err.ensures.synced in
              rw c.requires.going (omega (arith, none, synced));
          refused = λ goes. c.in-Err.ensures.refused_syncs;
        };
    measures = λ goes.
        let s = c.args.self.now.walk in
        let e = c.in-Err.ensures in
        let size = g.P.Source.size c.args.partition.now in
        let short : is_short_of s size ≡ false = ap (λ (k : ℕ). is_short_of s k) (sym c.length.ensures.size)
        ∙ sym c.is_short.ensures ∙ c.if-is_short.false in
        refused_measures c.part_within-taken.result.part c.in-Err.fault s size _ _ e.cause e.ends
        (going_phase c.args.self.now.stage s.phase goes) c.part_within-taken.ensures.step.turn.closes
        (λ q. not_short s size short q);
    short = refused_short c.in-Err.fault _ _ _ c.in-Err.ensures.cause;
    goes_on = search rules;
    laid = search rules;
    stage = search rules;
    leaves = λ goes. refused_leaves c.part_within-taken.result.part c.in-Err.fault _ _ _ c.in-Err.ensures.cause
        c.in-Err.ensures.ends c.part_within-taken.ensures.step.turn.leaves;
    cause = λ goes. refused_cause c.part_within-taken.result.part c.in-Err.fault _ _ _ _ c.in-Err.ensures.cause
        c.in-Err.ensures.sound c.part_within-taken.ensures.step.blame.clean;
    grows =
        record {
          given = search rules;
          taken = search rules;
          read_faults = search rules;
          put_faults = faults_rise c.in-Err.fault _ _ c.in-Err.ensures.cause;
        };
    fewer = search rules;
    costs = search rules;
    one_step =
        record {
          steps = search rules;
          greatest = closed _ _ _ _ _ _ _ c.part_within-taken.ensures.step.meter.greatest
              c.lay_part-done.ensures.costs.no_step.greatest c.close_step-2.ensures.greatest
              c.part_within-taken.ensures.step.input.received;
        };
  };
}

pub lay_part-done-requires-clause-below : goal.lay_part-done-requires-clause-below
lay_part-done-requires-clause-below g c =
    let s = c.args.self.now.walk in
    let size = g.P.Source.size c.args.partition.now in
    let short : is_short_of s size ≡ false = ap (λ (k : ℕ). is_short_of s k) (sym c.length.ensures.size)
    ∙ sym c.is_short.ensures ∙ c.if-is_short.false in
    let small : need_of s < 2 ^ 64 = omega (arith, c.need-need.ensures) in
    rw c.place-at.ensures
    (room_for s c.part_within-taken.result.part size short c.part_within-taken.ensures.step.turn.inside small).1

put_small : (at put : ℕ) → at + put < 2 ^ 64 → put < 2 ^ 64
put_small at put h = omega (arith, h)

pub bytes_put-requires : goal.bytes_put-requires
bytes_put-requires g c =
    let s = c.args.self.now.walk in
    let size = g.P.Source.size c.args.partition.now in
    let short : is_short_of s size ≡ false = ap (λ (k : ℕ). is_short_of s k) (sym c.length.ensures.size)
    ∙ sym c.is_short.ensures ∙ c.if-is_short.false in
    let small : need_of s < 2 ^ 64 = omega (arith, c.need-need.ensures) in
    put_small _ _ (room_for s c.part_within-taken.result.part size short c.part_within-taken.ensures.step.turn.inside
    small).1
