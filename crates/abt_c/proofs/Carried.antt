-- What a pull says of the machine, it says of the states with its numbers.
use Rattle.std.proofs.Common.{◌≡◌, ℕ, ◌++◌, List, [], take, length, Bool, true, false, if◌then◌else◌, ◌==◌, refl, arith}
use Rattle.std.proofs.Common.{ap, sym, ◌∙◌, subst, append_assoc}
use Rattle.std.proofs.lemmas.List.{append-nil}
use Rattle.abt_sparse.specs.View.{view}
use Rattle.abt_chunks.specs.Ahead.{before, somes, fills, gaps}
use Rattle.std.specs.Prelude.{Ok}
use Rattle.abt_chunks.specs.Parts.{PartLeaves, Says, ahead, ahead_in}
use Rattle.abt_chunks.specs.Places as places
use Rattle.abt_chunks.specs.Pulling as pulling
use Rattle.abt_chunks.specs.Pulling.{PullSays, PullLeaves, IsKept}
use Rattle.abt_chunks.specs.declared.walk.Phase.{Phase}
use Rattle.abt_chunks.specs.declared.walk.Phase.TheVariants as phases
use Rattle.abt_chunks.specs.declared.walk.Walk.{Walk}
use Rattle.abt_chunks.specs.declared.walk.Part.{Part}
use Rattle.abt_chunks.specs.declared.walk.Part.TheVariants as parts
use Rattle.abt_chunks.specs.declared.feed.Puller.{Puller}
use Rattle.abt_chunks.specs.declared.feed.Pull.{Pull}
use Rattle.abt_chunks.specs.declared.feed.Pull.TheVariants as pulls
use Rattle.abt_c.specs.declared.state.AbtSparse.{AbtSparse}
use Rattle.abt_c.specs.Standing.{StandsFor, StateSays, state_ahead, coming_of, phase_number, front_of, state_kind}
use Rattle.abt_c.specs.Standing.{kind_or}
use Rattle.abt_c.specs.Standing.{header_of, state_place_in, state_place}
use Rattle.abt_sparse.specs.Chunk.{Header}
use Rattle.abt_sparse.specs.declared.kind.ChunkKind.{ChunkKind}

pub due_back : (b : Bool) → ((if b then 1 else 0) == 1) ≡ b
due_back true = refl
due_back false = refl

pub phase_is : (q : Phase) (w : Walk) (y : List ℕ) → (phase_number q ≡ 3 → ⊥)
    → coming_of (phase_number q) w.kind w.due (view w.header) w.index w.have w.extra w.raw w.words w.word w.position y
    ≡ ahead_in q w y
phase_is phases.Header w y live = refl
phase_is phases.Body w y live = refl
phase_is phases.Done w y live = refl
phase_is (phases.Failed f) w y live = absurd (live refl)

pub fronts : (s : AbtSparse) (p : Puller) → StandsFor s p → front_of s ≡ pulling.pulled_front p
fronts s p e = ap (λ (n : ℕ). take n s.held) e.count ∙ ap (λ (l : List ℕ). take p.count l) e.held

pub coming_is : (s : AbtSparse) (p : Puller) → StandsFor s p → (phase_number p.walk.phase ≡ 3 → ⊥) → (y : List ℕ)
    → state_ahead s y ≡ ahead p.walk (pulling.pulled_front p ++ y)
coming_is s p e live y =
    ap (λ (v : ℕ). coming_of v (state_kind s) (s.due == 1) (header_of s) s.index s.have s.extra s.raw s.words s.word
    s.position (front_of s ++ y)) e.phase
    ∙ ap (λ (v : ChunkKind). coming_of (phase_number p.walk.phase) v (s.due == 1)
    (header_of s) s.index s.have s.extra s.raw s.words s.word s.position (front_of s ++ y)) (ap kind_or e.kind)
    ∙ ap (λ (v : Bool). coming_of (phase_number p.walk.phase) p.walk.kind v
    (header_of s) s.index s.have s.extra s.raw s.words s.word s.position (front_of s ++ y))
    (ap (λ (n : ℕ). n == 1) e.due ∙ due_back p.walk.due)
    ∙ ap (λ (v : Header). coming_of (phase_number p.walk.phase) p.walk.kind p.walk.due v s.index s.have s.extra s.raw
    s.words s.word s.position (front_of s ++ y)) e.header
    ∙ ap (λ (v : ℕ). coming_of (phase_number p.walk.phase) p.walk.kind p.walk.due
    (view p.walk.header) v s.have s.extra s.raw s.words s.word s.position (front_of s ++ y)) e.index
    ∙ ap (λ (v : ℕ). coming_of (phase_number p.walk.phase) p.walk.kind p.walk.due
    (view p.walk.header) p.walk.index v s.extra s.raw s.words s.word s.position (front_of s ++ y)) e.have
    ∙ ap (λ (v : ℕ). coming_of (phase_number p.walk.phase) p.walk.kind p.walk.due
    (view p.walk.header) p.walk.index p.walk.have v s.raw s.words s.word s.position (front_of s ++ y)) e.extra
    ∙ ap (λ (v : ℕ). coming_of (phase_number p.walk.phase) p.walk.kind p.walk.due
    (view p.walk.header) p.walk.index p.walk.have p.walk.extra v s.words s.word s.position (front_of s ++ y)) e.raw
    ∙ ap (λ (v : ℕ). coming_of (phase_number p.walk.phase) p.walk.kind p.walk.due
    (view p.walk.header) p.walk.index p.walk.have p.walk.extra p.walk.raw v s.word s.position (front_of s
    ++ y)) e.words
    ∙ ap (λ (v : List ℕ). coming_of (phase_number p.walk.phase) p.walk.kind p.walk.due
    (view p.walk.header) p.walk.index p.walk.have p.walk.extra p.walk.raw p.walk.words v s.position (front_of s
    ++ y)) e.word
    ∙ ap (λ (v : ℕ). coming_of (phase_number p.walk.phase) p.walk.kind p.walk.due
    (view p.walk.header) p.walk.index p.walk.have p.walk.extra p.walk.raw p.walk.words p.walk.word v (front_of s
    ++ y)) e.position
    ∙ ap (λ (v : List ℕ). coming_of (phase_number p.walk.phase) p.walk.kind p.walk.due
    (view p.walk.header) p.walk.index p.walk.have p.walk.extra p.walk.raw p.walk.words p.walk.word p.walk.position
    v) (ap (λ (l : List ℕ). l ++ y) (fronts s p e))
    ∙ phase_is p.walk.phase p.walk (pulling.pulled_front p ++ y) live

pub goes_on : (q : Phase) → q ≡ phases.Body → phase_number q ≡ 3 → ⊥
goes_on q e z = let r : 1 ≡ 3 = ap phase_number (sym e) ∙ z in omega (arith, r)

pub joined : (s : AbtSparse) (p : Puller) (c t : List ℕ) → StandsFor s p → (phase_number p.walk.phase ≡ 3 → ⊥)
    → state_ahead s (c ++ t) ≡ ahead p.walk ((pulling.pulled_front p ++ c) ++ t)
joined s p c t e live = coming_is s p e live (c ++ t)
    ∙ ap (λ (l : List ℕ). ahead p.walk l) (sym (append_assoc (pulling.pulled_front p) c t))

pub after : (s : AbtSparse) (p : Puller) (t : List ℕ) → StandsFor s p → p.walk.phase ≡ phases.Body → p.count ≡ 0
    → state_ahead s t ≡ ahead p.walk t
after s p t e b z = coming_is s p e (goes_on p.walk.phase b) t ∙ ap (λ (n : ℕ). ahead p.walk (take n p.held ++ t)) z

pub part_carried : (q : Part) (s s' : AbtSparse) (p p' : Puller) (c t : List ℕ) → StandsFor s p → StandsFor s' p'
    → (phase_number p.walk.phase ≡ 3 → ⊥) → Says q p.walk p'.walk (pulling.pulled_front p ++ c) t → p'.count ≡ 0
    → PartLeaves q p'.walk.phase → StateSays (pulls.Gives q) s s' c t
part_carried (parts.Raw n) s s' p p' c t e f live x k l =
    let fs : front_of s ≡ pulling.pulled_front p = fronts s p e in
    subst (λ (v : List ℕ). (length (v ++ c) ≡ n)
    × (state_ahead s (c ++ t) ≡ before (somes (v ++ c)) (state_ahead s' t))) (sym fs) (
      x.0,
      joined s p c t e live ∙ x.1 ∙ ap (λ a. before (somes (pulling.pulled_front p ++ c)) a) (sym (after s' p' t f l
          k)),
    )
part_carried (parts.Words word n) s s' p p' c t e f live x k l = joined s p c t e live ∙ x
    ∙ ap (λ a. before (fills n word) a) (sym (after s' p' t f l k))
part_carried (parts.Skip n) s s' p p' c t e f live x k l = joined s p c t e live ∙ x
    ∙ ap (λ a. before (gaps n) a) (sym (after s' p' t f l k))
part_carried parts.Nothing s s' p p' c t e f live x k l = joined s p c t e live ∙ x ∙ sym (after s' p' t f l k)
part_carried parts.End s s' p p' c t e f live x k l = subst (λ h. state_ahead s (c ++ t) ≡ record {
  cells = [];
  ending = Ok
      (h, t);
}) (sym f.header) (joined s p c t e live ∙ x)
part_carried (parts.Fault y) s s' p p' c t e f live x k l = joined s p c t e live ∙ x

pub carried : (q : Pull) (s s' : AbtSparse) (p p' : Puller) (c t : List ℕ) → StandsFor s p → StandsFor s' p'
    → (phase_number p.walk.phase ≡ 3 → ⊥) → PullSays q p p' c t → IsKept q p p' → PullLeaves q p' → StateSays q s s' c t
carried pulls.Need s s' p p' c t e f live x k l =
    joined s p c t e live
    ∙ ap (λ (v : List ℕ). ahead p.walk (v ++ t)) (sym x.1)
    ∙ ap (λ (w : Walk). ahead w (pulling.pulled_front p' ++ t)) (sym x.0)
    ∙ sym (coming_is s' p' f (λ z. live (ap (λ (w : Walk). phase_number w.phase) (sym x.0) ∙ z)) t)
carried (pulls.Gives q) s s' p p' c t e f live x k l = part_carried q s s' p p' c t e f live x k.0 l

-- where nothing follows
pub last_carried : (q : Part) (s s' : AbtSparse) (p p' : Puller) → StandsFor s p → StandsFor s' p'
    → (phase_number p.walk.phase ≡ 3 → ⊥) → Says q p.walk p'.walk (pulling.pulled_front p) [] → p'.count ≡ 0
    → PartLeaves q p'.walk.phase
    → StateSays (pulls.Gives q) s s' [] []
last_carried q s s' p p' e f live x k l = part_carried q s s' p p' [] [] e f live (subst (λ (v : List ℕ). Says q p.walk
    p'.walk v []) (sym (append-nil (pulling.pulled_front p))) x) k l

-- ---- where a state is in the expanded image

place_in_phase : (q : Phase) (w : Walk) → state_place_in (phase_number q) w.kind w.have w.header.blk_sz w.raw w.words ≡
    places.place_in q w
place_in_phase phases.Header w = refl
place_in_phase phases.Body w = refl
place_in_phase phases.Done w = refl
place_in_phase (phases.Failed f) w = refl

pub place_is : (s : AbtSparse) (p : Puller) → StandsFor s p → state_place s ≡ places.place_of p.walk
place_is s p e =
    ap (λ (v : ℕ). state_place_in v (state_kind s) s.have s.blk_sz s.raw s.words) e.phase
    ∙ ap (λ (v : ChunkKind). state_place_in (phase_number p.walk.phase) v s.have s.blk_sz s.raw s.words)
    (ap kind_or e.kind)
    ∙ ap (λ (v : ℕ). state_place_in (phase_number p.walk.phase) p.walk.kind v s.blk_sz s.raw s.words) e.have
    ∙ ap (λ (v : Header). state_place_in (phase_number p.walk.phase) p.walk.kind p.walk.have v.blk_sz s.raw s.words)
    e.header
    ∙ ap (λ (v : ℕ). state_place_in (phase_number p.walk.phase) p.walk.kind p.walk.have p.walk.header.blk_sz v
    s.words) e.raw
    ∙ ap (λ (v : ℕ). state_place_in (phase_number p.walk.phase) p.walk.kind p.walk.have p.walk.header.blk_sz
    p.walk.raw v)
    e.words
    ∙ place_in_phase p.walk.phase p.walk
