use Rattle.std.proofs.Common.{◌≡◌, ◌+◌, inl, inr, true, false, arith, ◌++◌, refl}
use Rattle.std.proofs.lemmas.Bool.{cases_Bool}
use Rattle.abt_placed.specs.Segment.{is_fresh}
use Rattle.abt_placed.specs.Placed.{skips}
use Rattle.abt_placed.specs.Whole.{taken}
use Rattle.abt_placed.proofs.Costs.{no_wider, sound_within}
use Rattle.abt_placed.proofs.Segments.{first_fits, sound_on, laid_on, reached_by}
use Rattle.abt_placed.proofs.Within.{taken_within}
use Rattle.abt_placed.proofs.Refusing.{keeps_same}
use Rattle.abt_placed.proofs.Onward.{still, fails, succeeds}
use Rattle.abt_placed.proofs.segment.Segment.take_part.Goals as goal

-- they don't fit
pub returns-then-gain-self : goal.returns-then-gain-self
returns-then-gain-self g c =
    let s = c.requires.can.sound in
    let over = c.if-gain-self.true in
    record {
      segment = record {
        kept = keeps_same _ _;
        sound = s;
        same = (refl, refl, refl, refl);
        within = no_wider (taken c.args.self.now.placer) (taken c.args.self.now.placer + c.args.blocks) c.args.size
            (c.args.self.now.placer.front + 28) _ (omega arith)
            (sound_within c.args.size _ c.args.self.now.placer s.placer);
        long = λ uncut. let fits = s.fits uncut in omega (arith, fits, s.room);
      };
      laid = λ f q all p d. absurd (let e : true ≡ false = d in cc);
      passed = λ d. absurd (let e : true ≡ false = d in cc);
      over = λ d. record {
        still = (refl, refl);
        some = elim (cases_Bool (is_fresh c.args.self.now.placer.kind)) [
          | inl e ↦
              let f = first_fits c.args.size c.args.blocks c.args.self.now _ c.args.kind c.requires.part.words s e
              c.requires.part.some c.requires.cap in
              absurd (omega (arith, f, c.gain-gain.ensures, over))
          | inr e ↦ s.some e
        ];
        over = rw c.gain-gain.ensures at over;
        reached = reached_by c.args.size c.args.blocks _ c.args.self.now c.args.kind s c.requires.part.some
            (rw c.gain-gain.ensures at over);
      };
      writes = still;
    }

-- they are not written
pub returns-in-Err : goal.returns-in-Err
returns-in-Err g c =
    let t = c.take.ensures in
    let e = c.in-Err.ensures in
    let fits = c.if-gain-self.false in
    record {
      segment = record {
        kept = t.goes.kept;
        sound = tt;
        same = (t.goes.same.0, t.goes.same.1, refl, refl);
        within = t.goes.within;
        long = λ uncut. taken_within c.args.size c.args.blocks c.gain-gain.result _ _ _ c.args.self.now c.args.kind
            c.requires.can.sound uncut c.requires.part.some c.requires.part.held c.gain-gain.ensures
            (omega (arith, fits)) e.adds;
      };
      laid = λ f q all p. tt;
      passed = tt;
      over = tt;
      writes = fails e.goes.writes (omega arith) (omega arith);
    }

-- they are taken
pub returns : goal.returns
returns g c =
    let t = c.take.ensures in
    let e = c.in-Ok.ensures in
    let fits = c.if-gain-self.false in
    let held = c.requires.part.held in
    record {
      segment = record {
        kept = t.goes.kept;
        sound = sound_on c.args.size c.args.blocks c.gain-gain.result _ _ c.args.self.now c.take.new.self c.args.kind
            c.requires.can.sound e.goes.sound c.requires.part.some held e.ok e.goes.passed t.goes.same.0 t.goes.same.1
            (omega (arith, e.adds)) c.gain-gain.ensures (omega (arith, fits));
        same = (t.goes.same.0, t.goes.same.1, refl, refl);
        within = t.goes.within;
        long = λ uncut. taken_within c.args.size c.args.blocks c.gain-gain.result _ _ 0 c.args.self.now c.args.kind
            c.requires.can.sound uncut c.requires.part.some held c.gain-gain.ensures (omega (arith, fits)) e.adds;
      };
      laid = λ f q all p d. laid_on c.args.size q c.args.blocks c.gain-gain.result f c.args.bytes.now _ _
          c.args.self.now c.take.new.self c.args.kind c.requires.part.some all e.ok c.gain-gain.ensures p
          (e.laid (skips c.args.self.now.first ++ f) q all p.placed);
      passed = λ d. e.goes.passed;
      over = λ d. absurd (let z : false ≡ true = d in cc);
      writes = succeeds e.goes.writes;
    }
