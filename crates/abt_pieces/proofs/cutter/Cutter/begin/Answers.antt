use Rattle.std.proofs.Common.{◌≡◌, ℕ, ◌+◌, ◌-◌, ◌*◌, ◌/◌, ◌%◌, ◌^◌, ◌<◌, ◌≤◌, ◌++◌, inl, inr, nat_lt, arith, refl}
use Rattle.std.proofs.Common.{ap, ◌∙◌, length, take}
use Rattle.std.proofs.lemmas.Bool.{cases_Bool, false≢true, ltb-true, ltb-false}
use Rattle.abt_io.proofs.Lent.{writes_ok}
use Rattle.abt_runs.specs.declared.part.Cursor.{Cursor}
use Rattle.abt_sparse.specs.Chunk.{header_record, plain_header}
use Rattle.abt_pieces.specs.Cutter.{SoundOutline, first_writer, most_raw}
use Rattle.abt_pieces.specs.Write.{SoundWriter}
use Rattle.abt_pieces.specs.declared.outline.Outline.{Outline}
use Rattle.abt_pieces.specs.declared.stage.CutterStage.TheVariants.{Write}
use Rattle.abt_pieces.specs.declared.write.Writer.{Writer}
use Rattle.abt_pieces.proofs.Fronts.{not_full}
use Rattle.abt_pieces.proofs.cutter.Cutter.begin.Goals as goal

-- the limit has room for some blocks, and a chunk of them is short
raw_room : (b limit : ℕ) → 0 < b → 64 + b ≤ limit → limit < 2 ^ 32
    → (0 < most_raw b limit) × (12 + most_raw b limit * b < 2 ^ 32)
raw_room b limit some room small =
    let q = (limit - 40) / b in
    let d : b * q + (limit - 40) % b ≡ limit - 40 = omega arith in
    let low : (limit - 40) % b < b = omega arith in (
      elim (cases_Bool (nat_lt 0 q)) [
        | inl e ↦ ltb-true 0 q e
        | inr e ↦
            let z : q ≡ 0 = let y = ltb-false 0 q e in omega (arith, y) in
            let none = rw z at d in
            absurd (omega (arith, none, low, room))
      ],
      omega (arith, d, room, small),
    )

first_sound : (W : Cursor → Type 0) (reach : Cursor → ℕ) (n b limit : ℕ) (c : Cursor) (o : Outline) → 0 < b
    → 64 + b ≤ limit → limit < 2 ^ 32 → W c → SoundOutline W n limit c.block o
    → SoundWriter W reach n b (first_writer c o (most_raw b limit))
first_sound W reach n b limit c o some room small within h =
    let r = raw_room b limit some room small in
    record {
      gathering = record {
        order = omega (arith, h.first);
        inner = h.order;
        past = h.end;
        room = omega (arith, h.first, h.order, h.end);
        behind_it = omega arith;
        within = λ low. within;
        behind = λ over. absurd (omega (arith, over, h.first, h.order));
        ended = λ e. absurd (false≢true e);
        raw = λ e. absurd cc;
      };
      copies = tt;
      most = r.0;
      small = r.1;
      fits = omega (arith, h.long, small);
    }

pub invariant_of-self : goal.invariant_of-self
invariant_of-self g c =
    let self = c.args.self.now in
    let s = self.sound in
    let r = g.R.BlockRuns in
    let size = g.met.R.BlockRuns.sized self.runs in
    let o : SoundOutline (r.within self.runs) (r.count self.runs) self.limit self.start.block c.args.outline =
    rw c.requires.at at s.stage in
    let taken = rw c.requires.at at s.taken in
    let left = rw c.requires.at at s.left in
    let first = c.begin.ensures
    ∙ ap (λ (n : ℕ). first_writer self.start c.args.outline ((self.limit - 40) / n)) c.block_size-size.ensures in
    record {
      sound = record {
        granted = s.granted;
        within = s.within;
        few = s.few;
        left = left;
        stage = rw first (record {
          outline = o;
          writer = first_sound (r.within self.runs) (r.reach self.runs) (r.count self.runs) (r.size self.runs)
              self.limit self.start c.args.outline (omega (arith, size)) s.granted (omega arith) s.within o;
          first = refl;
          past = refl;
          rest = omega arith;
        });
        taken = taken;
      };
    }

-- the header is written
pub returns-in-Ok : goal.returns-in-Ok
returns-in-Ok g c =
    let self = c.args.self.now in
    let e = c.in-Ok.ensures.put in
    let size = c.block_size-size.ensures in
    let w0 = g.O.Output.written c.args.output.now in
    let d = length (g.O.Output.written c.write_header-written.new.output) - length w0 in
    let chunks = c.args.outline.chunks in
    let shut = c.close_step.ensures in
    record {
      keeps = record { runs = refl; rest = (refl, refl, refl); refused = tt };
      small = omega arith;
      fits = (omega arith, omega arith, omega arith);
      stage = ap (λ (v : Writer). Write c.args.outline v) (c.begin.ensures
          ∙ ap (λ (n : ℕ). first_writer self.start c.args.outline ((self.limit - 40) / n)) size);
      writes = writes_ok _ e.writes;
      within = e.within;
      whole = e.put.whole;
      front = e.put.front
          ∙ ap (λ (n : ℕ). w0 ++ take d (header_record (plain_header n c.blocks-count.result chunks))) size
          ∙ ap (λ (n : ℕ). w0 ++ take d (header_record (plain_header (g.R.BlockRuns.size self.runs) n chunks)))
          c.blocks-count.ensures;
      costs = record { calls = e.costs.calls; turns = omega (arith, e.costs.turns, shut.turns) };
      one_step = record {
        steps = omega (arith, e.no_step.steps, shut.steps);
        greatest = omega (arith, e.no_step.greatest, shut.greatest);
      };
      full = λ says. absurd (not_full says);
      cause = tt;
    }
