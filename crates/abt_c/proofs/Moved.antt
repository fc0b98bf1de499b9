-- What a pull made of its bytes, in the numbers of the states.
use Rattle.std.proofs.Common.{◌≡◌, ℕ, ◌<◌, ◌≤◌, ◌+◌, ◌-◌, ◌*◌, ◌^◌, Bool, if◌then◌else◌, ◌==◌, ◌&&◌, refl, arith, ap}
use Rattle.std.proofs.Common.{sym, ◌∙◌}
use Rattle.std.specs.Prelude.{min}
use Rattle.abt_sparse.specs.declared.kind.ChunkKind.{ChunkKind}
use Rattle.abt_sparse.specs.Chunk.{Header}
use Rattle.abt_chunks.specs.ListingAhead.{at_end, is_spent}
use Rattle.abt_chunks.specs.Pulling.{PullFalls, PullLeaves, PullMoves}
use Rattle.abt_chunks.specs.Turns.{todo}
use Rattle.abt_chunks.specs.declared.feed.Pull.{Pull}
use Rattle.abt_chunks.specs.declared.feed.Pull.TheVariants as pulls
use Rattle.abt_chunks.specs.declared.feed.Puller.{Puller}
use Rattle.abt_chunks.specs.declared.walk.Part.TheVariants as parts
use Rattle.abt_chunks.specs.declared.walk.Phase.{Phase}
use Rattle.abt_chunks.specs.declared.walk.Phase.TheVariants as phases
use Rattle.abt_chunks.specs.declared.walk.Walk.{Walk}
use Rattle.abt_c.specs.declared.state.AbtPart.{AbtPart}
use Rattle.abt_c.specs.declared.state.AbtSparse.{AbtSparse}
use Rattle.abt_c.specs.Moving.{Moves, Nears, chunk_ended, left_to_do}
use Rattle.abt_c.specs.Standing.{StandsFor, kept_detail, kept_fault, state_kind, kind_or, phase_number}
use Rattle.abt_c.specs.Telling.{PartIs}
use Rattle.abt_c.proofs.Carried.{due_back}

-- ---- the numbers of a state are those of its machine

pub ended_is : (s : AbtSparse) (p : Puller) → StandsFor s p → chunk_ended s ≡ at_end p.walk
ended_is s p e =
    ap (λ (v : ℕ). (v == 0) && is_spent (state_kind s) (s.due == 1) s.raw s.words) e.extra
    ∙ ap (λ (v : ChunkKind). (p.walk.extra == 0) && is_spent v (s.due == 1) s.raw s.words) (ap kind_or e.kind)
    ∙ ap (λ (v : Bool). (p.walk.extra == 0) && is_spent p.walk.kind v s.raw s.words) (ap (λ (n : ℕ). n == 1) e.due
    ∙ due_back p.walk.due)
    ∙ ap (λ (v : ℕ). (p.walk.extra == 0) && is_spent p.walk.kind p.walk.due v s.words) e.raw
    ∙ ap (λ (v : ℕ). (p.walk.extra == 0) && is_spent p.walk.kind p.walk.due p.walk.raw v) e.words

abbrev todo_numbers : ℕ → ℕ → ℕ → ℕ → Bool → ℕ → ℕ → ℕ
todo_numbers phase extra raw words due total index =
    if phase == 0 then 2 ^ 102
    else if phase == 1 then 1 + (extra + raw + words + (if due then 1 else 0)) + (total - index) * 2 ^ 68
    else 0

todo_in_phase : (q : Phase) (w : Walk) → w.phase ≡ q
    → todo_numbers (phase_number q) w.extra w.raw w.words w.due w.header.total_chunks w.index ≡ todo w
todo_in_phase phases.Header w e = rw e refl
todo_in_phase phases.Body w e = rw e refl
todo_in_phase phases.Done w e = rw e refl
todo_in_phase (phases.Failed f) w e = rw e refl

pub todo_is : (s : AbtSparse) (p : Puller) → StandsFor s p → left_to_do s ≡ todo p.walk
todo_is s p e =
    ap (λ (v : ℕ). todo_numbers v s.extra s.raw s.words (s.due == 1) s.total_chunks s.index) e.phase
    ∙ ap (λ (v : ℕ). todo_numbers (phase_number p.walk.phase) v s.raw s.words (s.due == 1) s.total_chunks s.index)
    e.extra
    ∙ ap (λ (v : ℕ). todo_numbers (phase_number p.walk.phase) p.walk.extra v s.words
    (s.due == 1) s.total_chunks s.index) e.raw
    ∙ ap (λ (v : ℕ). todo_numbers (phase_number p.walk.phase) p.walk.extra p.walk.raw v
    (s.due == 1) s.total_chunks s.index) e.words
    ∙ ap (λ (v : Bool). todo_numbers (phase_number p.walk.phase) p.walk.extra p.walk.raw p.walk.words v s.total_chunks
    s.index) (ap (λ (n : ℕ). n == 1) e.due ∙ due_back p.walk.due)
    ∙ ap (λ (v : Header). todo_numbers (phase_number p.walk.phase) p.walk.extra p.walk.raw p.walk.words p.walk.due
    v.total_chunks s.index) e.header
    ∙ ap (λ (v : ℕ). todo_numbers (phase_number p.walk.phase) p.walk.extra p.walk.raw p.walk.words p.walk.due
    p.walk.header.total_chunks v) e.index
    ∙ todo_in_phase p.walk.phase p.walk refl

falls_in : (s s' : AbtSparse) (p p' : Puller) → StandsFor s p → StandsFor s' p' → todo p'.walk < todo p.walk
    → left_to_do s' < left_to_do s
falls_in s s' p p' e f h = let a = todo_is s p e in let b = todo_is s' p' f in omega (arith, a, b, h)

-- ---- a pull

going : (o : AbtPart) (s s' : AbtSparse) (k : ℕ) → o.kind ≡ k → k ≤ 4 → left_to_do s' < left_to_do s → Nears o s s'
going o s s' k is le h = record {
  falls = λ i j. h;
  end = λ j. absurd (omega (arith, is, le, j));
  fault = λ j. absurd (omega (arith, is, le, j));
}

-- what a pull leaves, where s' keeps the fault of its machine
pub nears : (q : Pull) (o : AbtPart) (s s' : AbtSparse) (p p' : Puller) → PartIs q o → StandsFor s p → StandsFor s' p'
    → s'.fault ≡ kept_fault p'.walk.phase → s'.detail ≡ kept_detail p'.walk.phase
    → PullFalls q p.walk p'.walk → PullLeaves q p' → Nears o s s'
nears pulls.Need o s s' p p' is e f n d l x = record {
  falls = λ i j. absurd (omega (arith, is.0, i));
  end = λ j. absurd (omega (arith, is.0, j));
  fault = λ j. absurd (omega (arith, is.0, j));
}
nears (pulls.Gives (parts.Raw k)) o s s' p p' is e f n d l x = going o s s' 1 is.0 (omega arith) (falls_in s s' p p' e f
    (l refl))
nears (pulls.Gives (parts.Words word k)) o s s' p p' is e f n d l x = going o s s' 2 is.0 (omega arith) (falls_in s s' p
    p' e f (l refl))
nears (pulls.Gives (parts.Skip k)) o s s' p p' is e f n d l x = going o s s' 3 is.0 (omega arith) (falls_in s s' p p' e
    f (l refl))
nears (pulls.Gives parts.Nothing) o s s' p p' is e f n d l x = going o s s' 4 is.0 (omega arith) (falls_in s s' p p' e f
    (l refl))
nears (pulls.Gives parts.End) o s s' p p' is e f n d l x = record {
  falls = λ i j. absurd (omega (arith, is.0, j));
  end = λ j. f.phase ∙ ap phase_number x;
  fault = λ j. absurd (omega (arith, is.0, j));
}
nears (pulls.Gives (parts.Fault y)) o s s' p p' is e f n d l x = record {
  falls = λ i j. absurd (omega (arith, is.0, j));
  end = λ j. absurd (omega (arith, is.0, j));
  fault = λ j. (f.phase ∙ ap phase_number x, n ∙ ap kept_fault x ∙ sym is.1, d ∙ ap kept_detail x ∙ sym is.2);
}

pub moved : (q : Pull) (o : AbtPart) (s s' : AbtSparse) (p p' : Puller) (used n : ℕ) → o.used ≡ used → PartIs q o
    → StandsFor s p → StandsFor s' p'
    → PullMoves q p.walk p'.walk used n → Nears o s s' → Moves o s s' n
moved pulls.Need o s s' p p' used n u is e f m near = record {
  raw = λ j. absurd (omega (arith, is.0, j));
  fill = λ j. absurd (omega (arith, is.0, j));
  skip = λ j. absurd (omega (arith, is.0, j));
  nothing = λ j. absurd (omega (arith, is.0, j));
  end = λ j. absurd (omega (arith, is.0, j));
  nears = near;
}
moved (pulls.Gives (parts.Raw k)) o s s' p p' used n u is e f m near = record {
  raw = λ j. (omega (arith, u, m.0), u ∙ m.1 ∙ ap (λ (v : ℕ). min v n) (sym e.raw));
  fill = λ j. absurd (omega (arith, is.0, j));
  skip = λ j. absurd (omega (arith, is.0, j));
  nothing = λ j. absurd (omega (arith, is.0, j));
  end = λ j. absurd (omega (arith, is.0, j));
  nears = near;
}
moved (pulls.Gives (parts.Words word k)) o s s' p p' used n u is e f m near = record {
  raw = λ j. absurd (omega (arith, is.0, j));
  fill = λ j. (u ∙ m.0, ended_is s' p' f ∙ m.1);
  skip = λ j. absurd (omega (arith, is.0, j));
  nothing = λ j. absurd (omega (arith, is.0, j));
  end = λ j. absurd (omega (arith, is.0, j));
  nears = near;
}
moved (pulls.Gives (parts.Skip k)) o s s' p p' used n u is e f m near = record {
  raw = λ j. absurd (omega (arith, is.0, j));
  fill = λ j. absurd (omega (arith, is.0, j));
  skip = λ j. (u ∙ m.0, ended_is s' p' f ∙ m.1);
  nothing = λ j. absurd (omega (arith, is.0, j));
  end = λ j. absurd (omega (arith, is.0, j));
  nears = near;
}
moved (pulls.Gives parts.Nothing) o s s' p p' used n u is e f m near = record {
  raw = λ j. absurd (omega (arith, is.0, j));
  fill = λ j. absurd (omega (arith, is.0, j));
  skip = λ j. absurd (omega (arith, is.0, j));
  nothing = λ j. omega (arith, u, m);
  end = λ j. absurd (omega (arith, is.0, j));
  nears = near;
}
moved (pulls.Gives parts.End) o s s' p p' used n u is e f m near = record {
  raw = λ j. absurd (omega (arith, is.0, j));
  fill = λ j. absurd (omega (arith, is.0, j));
  skip = λ j. absurd (omega (arith, is.0, j));
  nothing = λ j. absurd (omega (arith, is.0, j));
  end = λ j. u ∙ m;
  nears = near;
}
moved (pulls.Gives (parts.Fault y)) o s s' p p' used n u is e f m near = record {
  raw = λ j. absurd (omega (arith, is.0, j));
  fill = λ j. absurd (omega (arith, is.0, j));
  skip = λ j. absurd (omega (arith, is.0, j));
  nothing = λ j. absurd (omega (arith, is.0, j));
  end = λ j. absurd (omega (arith, is.0, j));
  nears = near;
}

-- ---- an image that has ended
