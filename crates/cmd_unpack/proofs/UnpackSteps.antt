-- One part after others, and what all of them leave.
use Rattle.std.proofs.Common.{◌≡◌, ◌+◌, ℕ, Bool, IsTrue, true, false, List, Ok, Err, None, refl, sym, ap, ◌∙◌, subst}
use Rattle.abt_io.specs.declared.device.Source as sources
use Rattle.sys_disk.specs.Counts.{Counts, no_counts, writes}
use Rattle.sys_disk.specs.World.{World, OpenFiles, Creates, KeepsBegun, OnlyAt, SparesRest, counting, ended}
use Rattle.sys_disk.specs.World.{MayWrite, SparesInUse}
use Rattle.sys_disk.specs.Among.{GoesAmong}
use Rattle.std.proofs.lemmas.Bool.{true≢false}
use Rattle.sys_disk.proofs.Amongs.{goes_more, goes_none, goes_refused, goes_still, goes_then, goes_written}
use Rattle.sys_disk.proofs.Amongs.{keeps_none, keeps_refused, keeps_then, keeps_written}
use Rattle.cmd_common_boot.proofs.Calls.{same_counting}
use Rattle.cmd_unpack.specs.Unpacking.{SyncsMore}
use Rattle.cmd_unpack.specs.Writing.{KeepsInUse, WritesParts}
use Rattle.cmd_unpack.proofs.Counts.{none_then, nothing_failed, part_clean, syncs_ended, syncs_none}
use Rattle.cmd_unpack.proofs.Counts.{syncs_then}

-- ---- devices in use

pub same_guards : (h : OpenFiles) → KeepsInUse h h
same_guards h = record { in_use = refl; allows = refl }

pub guards_then : (h h' h'' : OpenFiles) → KeepsInUse h h' → KeepsInUse h' h'' → KeepsInUse h h''
guards_then h h' h'' first next =
    record { in_use = next.in_use ∙ first.in_use; allows = next.allows ∙ first.allows }

pub guards_counted : (h h' : OpenFiles) (n : Counts) → h' ≡ counting n h → KeepsInUse h h'
guards_counted h h' n same = record { in_use = ap (λ k. k.in_use) same; allows = ap (λ k. k.allows_mounted) same }

may_as : (h h' : OpenFiles) → KeepsInUse h h' → (p : List ℕ) → MayWrite p h' → MayWrite p h
may_as h h' same p may = λ busy. subst IsTrue same.allows (may (subst (λ f. IsTrue (f p)) (sym same.in_use) busy))

-- of these paths, and such that may be written
abbrev pub Allowed : (List ℕ → Type 0) → OpenFiles → List ℕ → Type 0
Allowed P h p = P p × MayWrite p h

pub allowed_as : (P : List ℕ → Type 0) (h h' h'' : OpenFiles) (v w : World) → KeepsInUse h h'
    → GoesAmong (Allowed P h') h' h'' v w → GoesAmong (Allowed P h) h' h'' v w
allowed_as P h h' h'' v w same goes =
    goes_more (Allowed P h') (Allowed P h) h' h'' v w (λ p both. (both.0, may_as h h' same p both.1)) goes

pub allowed_more : (P Q : List ℕ → Type 0) (k h h' : OpenFiles) (u v : World) → ((p : List ℕ) → P p → Q p)
    → GoesAmong (Allowed P k) h h' u v → GoesAmong (Allowed Q k) h h' u v
allowed_more P Q k h h' u v wider goes =
    goes_more (Allowed P k) (Allowed Q k) h h' u v (λ p both. (wider p both.0, both.1)) goes

allowed_then : (P : List ℕ → Type 0) (h h' h'' : OpenFiles) (u v w : World) → KeepsInUse h h'
    → GoesAmong (Allowed P h) h h' u v → GoesAmong (Allowed P h') h' h'' v w → GoesAmong (Allowed P h) h h'' u w
allowed_then P h h' h'' u v w same first next =
    goes_then (Allowed P h) h h' h'' u v w first (allowed_as P h h' h'' v w same next)

-- the file was created, and closed
guards_written : (path : List ℕ) (b : Bool) (n : Counts) (h h' h'' : OpenFiles) (u v : World) → Creates path h h' u v
    → h'' ≡ ended b n h' → KeepsInUse h h''
guards_written path b n h h' h'' u v made closed = record {
  in_use = ap (λ k. k.in_use) closed ∙ ap (λ k. k.in_use) made.begins;
  allows = ap (λ k. k.allows_mounted) closed ∙ ap (λ k. k.allows_mounted) made.begins;
}

-- the file could not be created: a device in use was not changed
allowed_refused : (P : List ℕ → Type 0) (path : List ℕ) (m : Counts) (h h' : OpenFiles) (u v : World)
    (busy allows : Bool) → P path → h.in_use path ≡ busy → h.allows_mounted ≡ allows → h' ≡ counting m h
    → OnlyAt h.read path u v → SparesInUse path h u v → GoesAmong (Allowed P h) h h' u v
allowed_refused P path m h h' u v false allows named is may kept only spares =
    goes_refused (Allowed P h) path h h' u v m (named, λ busy. absurd (true≢false (sym busy ∙ is))) kept only
allowed_refused P path m h h' u v true true named is may kept only spares =
    goes_refused (Allowed P h) path h h' u v m (named, λ busy. may) kept only
allowed_refused P path m h h' u v true false named is may kept only spares =
    goes_none (Allowed P h) h h' u v m kept (spares is may)

-- n parts were written
abbrev pub Written : ℕ → (List ℕ → Type 0) → {A : Type 0} → sources.Ghosts A → A → A → OpenFiles → OpenFiles → World
    → World
    → Type 0
Written n P s a b h h' u v = WritesParts {X = Unit {0}} {E = Unit {0}} (Ok tt) n P s a b h h' u v

-- one failed
abbrev pub Stopped : (List ℕ → Type 0) → {A : Type 0} → sources.Ghosts A → A → A → OpenFiles → OpenFiles → World
    → World → Type 0
Stopped P s a b h h' u v = WritesParts {X = Unit {0}} {E = Unit {0}} (Err tt) 0 P s a b h h' u v

module _ {A : Type 0} {s : sources.Ghosts A} {a b : A} {h h' : OpenFiles} {u v : World} where
  -- of more names
  pub parts_more : {X E Y F : Type 0} {x : X} {y : Y} {m k : ℕ} {P Q : List ℕ → Type 0} → m ≡ k
      → ((p : List ℕ) → P p → Q p) → WritesParts {E = E} (Ok x) m P s a b h h' u v
      → WritesParts {E = F} (Ok y) k Q s a b h h' u v
  parts_more {P = P} {Q = Q} sum wider first = record {
    content = first.content;
    keeps = first.keeps;
    only = goes_more P Q h h' u v wider first.only;
    allowed = allowed_more P Q h h h' u v wider first.allowed;
    guards = first.guards;
    synced = subst (λ j. SyncsMore j h h') sum first.synced;
    clean = first.clean;
  }

  pub stop_more : {X E Y F : Type 0} {e : E} {f : F} {m k : ℕ} {P Q : List ℕ → Type 0} → ((p : List ℕ) → P p → Q p)
      → WritesParts {X = X} (Err e) m P s a b h h' u v → WritesParts {X = Y} (Err f) k Q s a b h h' u v
  stop_more {P = P} {Q = Q} wider first = record {
    content = tt;
    keeps = first.keeps;
    only = goes_more P Q h h' u v wider first.only;
    allowed = allowed_more P Q h h h' u v wider first.allowed;
    guards = first.guards;
    synced = tt;
    clean = tt;
  }

  -- one after another
  module _ {c : A} {h'' : OpenFiles} {w : World} where
    pub parts_then : {m n : ℕ} {P : List ℕ → Type 0} → Written m P s a b h h' u v → Written n P s b c h' h'' v w
        → Written (m + n) P s a c h h'' u w
    parts_then {m = m} {n = n} {P = P} first next = record {
      content = next.content ∙ first.content;
      keeps = keeps_then h h' h'' u v w first.keeps next.keeps;
      only = goes_then P h h' h'' u v w first.only next.only;
      allowed = allowed_then P h h' h'' u v w first.guards first.allowed next.allowed;
      guards = guards_then h h' h'' first.guards next.guards;
      synced = syncs_then m n h h' h'' first.synced next.synced;
      clean = none_then h h' h'' _ _ _ first.clean next.clean;
    }

    pub stop_then : {X E : Type 0} {e : E} {m k : ℕ} {P : List ℕ → Type 0} → Written m P s a b h h' u v
        → Stopped P s b c h' h'' v w → WritesParts {X = X} (Err e) k P s a c h h'' u w
    stop_then {P = P} first next = record {
      content = tt;
      keeps = keeps_then h h' h'' u v w first.keeps next.keeps;
      only = goes_then P h h' h'' u v w first.only next.only;
      allowed = allowed_then P h h' h'' u v w first.guards first.allowed next.allowed;
      guards = guards_then h h' h'' first.guards next.guards;
      synced = tt;
      clean = tt;
    }

-- none yet
pub parts_none : {A : Type 0} {s : sources.Ghosts A} {a : A} {h : OpenFiles} {u : World} {P : List ℕ → Type 0}
    → h.output ≡ None → Written 0 P s a a h h u u
parts_none {s = s} {a = a} {h = h} {u = u} {P = P} closed = record {
  content = refl;
  keeps = keeps_none h h u u no_counts closed (sym (same_counting h)) refl;
  only = goes_still P h u;
  allowed = goes_still (Allowed P h) h u;
  guards = same_guards h;
  synced = syncs_none h h no_counts (sym (same_counting h));
  clean = nothing_failed h (s.read_faults a);
}

-- ---- one part, in the file of this path

module _ {A : Type 0} {s : sources.Ghosts A} {a b : A} {P : List ℕ → Type 0} {path : List ℕ} (named : P path) where
  -- the file could not be created
  pub part_refused : {X E : Type 0} {e : E} {n : ℕ} (m : Counts) {h h' : OpenFiles} {u v : World} → h.output ≡ None
      → h' ≡ counting m h → OnlyAt h.read path u v → KeepsBegun h.begun u v
      → SparesInUse path h u v → WritesParts {X = X} (Err e) n P s a b h h' u v
  part_refused m {h = h} {h' = h'} {u = u} {v = v} closed kept only begun spares = record {
    content = tt;
    keeps = keeps_refused path h h' u v m closed kept only begun;
    only = goes_refused P path h h' u v m named kept only;
    allowed = allowed_refused P path m h h' u v (h.in_use path) h.allows_mounted named refl refl kept only spares;
    guards = guards_counted h h' m kept;
    synced = tt;
    clean = tt;
  }

  module _ {h h' h'' : OpenFiles} {u v w : World} (made : Creates path h h' u v) (rest : SparesRest h'.output v w) where
    -- it was written, and brought to its end
    pub part_written : {X E : Type 0} {x : X} (c c' : ℕ) → h'' ≡ ended true (writes c') h' → s.content b ≡ s.content a
        → c ≡ 0 → (s.read_faults b ≡ s.read_faults a) × (c' ≡ c) → WritesParts {E = E} (Ok x) 1 P s a b h h'' u w
    part_written c c' closed same empty clean = record {
      content = same;
      keeps = keeps_written path true (writes c') h h' h'' u v w made closed rest;
      only = goes_written P path true (writes c') h h' h'' u v w named made closed rest;
      allowed = goes_written (Allowed P h) path true (writes c') h h' h'' u v w (named, made.allowed) made closed rest;
      guards = guards_written path true (writes c') h h' h'' u v made closed;
      synced = syncs_ended path h h' h'' u v (writes c') made closed;
      clean = part_clean path h h' h'' u v (s.read_faults a) (s.read_faults b) c c' made empty clean.0 clean.1 closed;
    }

    -- or it was not
    pub part_broken : {X E : Type 0} {e : E} {n : ℕ} (ends : (d : Bool) × (c : Counts) × (h'' ≡ ended d c h'))
        → WritesParts {X = X} (Err e) n P s a b h h'' u w
    part_broken ends = record {
      content = tt;
      keeps = keeps_written path ends.0 ends.1 h h' h'' u v w made ends.2 rest;
      only = goes_written P path ends.0 ends.1 h h' h'' u v w named made ends.2 rest;
      allowed = goes_written (Allowed P h) path ends.0 ends.1 h h' h'' u v w (named, made.allowed) made ends.2 rest;
      guards = guards_written path ends.0 ends.1 h h' h'' u v made ends.2;
      synced = tt;
      clean = tt;
    }
