-- What opening, creating and ending leave together.
use Rattle.std.proofs.Common.{inl, inr, arith, ◌≡◌, ◌<◌, ℕ, ◌+◌, ◌-◌, Bool, true, false, List, [], ◌∷◌, ◌++◌}
use Rattle.std.proofs.Common.{refl, sym, ◌∙◌, ap, subst, None}
use Rattle.std.specs.Prelude.{Result, Ok, Err, IsOk, IfErr, OnOk, IsErrAnd, is_ok, if◌then◌else◌}
use Rattle.std.proofs.lemmas.Bool.{false≢true}
use Rattle.abt_sparse.specs.Block.{expansion, laid}
use Rattle.abt_sparse.specs.Chunk.{classed}
use Rattle.abt_sparse.specs.Fails.{Fails, Spells}
use Rattle.abt_chunks.specs.declared.progress.Expanded.{Expanded}
use Rattle.abt_sparse.specs.declared.fault.SparseFault.{SparseFault}
use Rattle.abt_sparse.specs.declared.fault.SparseFault.TheVariants as of_sparse
use Rattle.abt_chunks.specs.Cause.{Clean}
use Rattle.abt_chunks.specs.Expanding.{ExpandingRises, UnlessExpandingDevice}
use Rattle.abt_chunks.specs.Whole.{Expansion, Refusal}
use Rattle.sys_disk.specs.World.{World, OpenFiles, Spares, OpensFile, Creates, Ends, SparesRest, HasFailed}
use Rattle.sys_disk.specs.World.{EndsOutput, HasNotFailed, HoldsMost}
use Rattle.sys_disk.specs.Among.{FileHolds, FileHoldsMost}
use Rattle.sys_disk.specs.World.{OnlyAt, SparesInUse, counting, ended}
use Rattle.sys_disk.specs.Counts.{Cause, call, reading, writing, Counts, HasNone, added, call_of, calls, reads, writes}
use Rattle.sys_disk.specs.Counts.{of_reading, of_writing}
use Rattle.sys_disk.proofs.Failings.{counts_one}
use Rattle.sys_disk.proofs.Worlds.{apart, kept_behind, only_behind, spared_behind, spared_if_may, spares_trans}
use Rattle.sys_refusals.specs.declared.refusal.HostFault.{HostFault}
use Rattle.sys_refusals.specs.declared.refusal.HostFault.TheVariants as hosts
use Rattle.cmd_common_sparse.specs.declared.lines.Line.TheVariants as lines
use Rattle.cmd_common_sparse.specs.Lines.{line_text}
use Rattle.cmd_common_sparse.specs.declared.fault.SparseCommandFault.{SparseCommandFault}
use Rattle.cmd_common_sparse.specs.declared.fault.SparseCommandFault.TheVariants as faults
use Rattle.cmd_expand.specs.Expanding.{Blames, ExpandsFile, ExpandingSays, LeavesExpanded, RefusesFile, HasFault}
use Rattle.cmd_expand.specs.Expanding.{BlamesDevice, FromCall, HasFailedToReadOnce, LeavesFront, OfDevice}
use Rattle.cmd_expand.specs.Expanding.{HoldsBegun, WritesRead}

-- ---- what was read is closed before the output is completed

pub rest_behind : (n : Counts) (h h' : OpenFiles) (a b c : World) → h' ≡ counting n h → b ≡ a → SparesRest h'.output b c
    → SparesRest h.output a c
rest_behind n h h' a b c gone same rest =
    subst (λ w. SparesRest h.output w c) same (subst (λ k. SparesRest k.output b c) gone rest)

pub ends_behind : (bytes : List ℕ) (n : Counts) (h h' : OpenFiles) (a b c : World) → h' ≡ counting n h → b ≡ a
    → Ends h'.output bytes b c → Ends h.output bytes a c
ends_behind bytes n h h' a b c gone same ends =
    subst (λ w. Ends h.output bytes w c) same (subst (λ k. Ends k.output bytes b c) gone ends)

pub synced_once : (input path bytes : List ℕ) (h h1 h2 h3 h4 : OpenFiles) (w a b : World) (r n : Counts)
    → OpensFile w input bytes h h1 → Creates path h1 h2 a b → h3 ≡ counting r h2 → h4 ≡ ended true n h3
    → h4.syncs ≡ h.syncs + (if h.is_synced then 1 else 0)
synced_once input path bytes h h1 h2 h3 h4 w a b r n opened made gone closed =
    ap (λ k. k.syncs) closed ∙ ap (λ k. k.syncs + (if k.is_synced then 1 else 0)) gone
    ∙ ap (λ k. k.syncs + (if k.is_synced then 1 else 0)) made.begins
    ∙ ap (λ k. k.syncs + (if k.is_synced then 1 else 0)) opened.taken

-- an image that was read whole, and whose expansion an output holds that was brought to its end
pub expands : (input path bytes x y rest : List ℕ) (h h' h'' : OpenFiles) (a a' b c : World) (e : Expanded)
    (shows : List ℕ → Type 0) → OpensFile a input x h h' → a' ≡ a → Creates path h' h'' a' b
    → Ends h''.output bytes b c → y ≡ [] → Expansion e y bytes x rest
    → shows (line_text (lines.Expanded e.blocks e.bytes) ++ (10 ∷ [])) → ExpandsFile input path a c shows
expands input path bytes x y rest h h' h'' a a' b c e shows opened same made ends empty whole shown =
    let after : (c.holds made.file ≡ bytes) × Spares made.file b c
    = subst (λ k. Ends k.output bytes b c) made.begins ends in
    let spared : Spares made.file a b = subst (λ w. Spares made.file w b) same made.spares in
    record {
      from = opened.file;
      onto = made.file;
      there = opened.there;
      here = after.1.paths path made.file made.there;
      apart = apart h.read h'.read opened.file made.file (ap (λ k. k.read) opened.taken) made.free;
      header = whole.header;
      chunks = whole.chunks;
      rest = rest;
      spelled = subst (λ z. Spells z whole.header whole.chunks rest) opened.held whole.spelled;
      holds = after.0 ∙ whole.written ∙ ap (λ z. z ++ expansion whole.header.blk_sz (classed whole.chunks)) empty;
      spares = spares_trans made.file a b c spared after.1;
      shown = subst (λ n. shows (line_text (lines.Expanded whole.header.total_blks n) ++ (10 ∷ []))) whole.bytes
          (subst (λ n. shows (line_text (lines.Expanded n e.bytes) ++ (10 ∷ []))) whole.blocks shown);
    }

-- a path at which an output was created may be written
pub spared_created : (path : List ℕ) (h h' : OpenFiles) (a b u v : World) → Creates path h h' a b
    → SparesInUse path h u v
spared_created path h h' a b u v made = spared_if_may path h u v made.allowed

-- whatever the outcome
pub leaves_expanded : {X F : Type 0} (r : Result X F) (input path bytes : List ℕ) (h h1 k : OpenFiles) (a a1 c : World)
    → OpensFile a input bytes h h1 → a1 ≡ a → OnlyAt h1.read path a1 c → SparesInUse path h1 a1 c → k.output ≡ None
    → OnOk r (HasNotFailed h k) → LeavesExpanded r input path h k a c
leaves_expanded r input path bytes h h1 k a a1 c opened same only guarded closed clean = record {
  others = only_behind _ _ _ _ _ _ _ _ opened same only;
  in_use = spared_behind path input bytes h h1 a a1 c opened same guarded;
  input = kept_behind _ _ _ _ _ _ _ _ opened same only;
  closed = closed;
  clean = clean;
}

-- ---- what has failed

pub no_reading : (cause : Cause) → of_reading 0 cause ≡ 0
no_reading (call f) = refl
no_reading reading = refl
no_reading writing = refl

pub no_writing : (cause : Cause) → of_writing 0 cause ≡ 0
no_writing (call f) = refl
no_writing reading = refl
no_writing writing = refl

-- an input and an output were opened; then both were closed; this much has failed since
pub failed_behind : (input path bytes : List ℕ) (h h1 h2 h3 h4 : OpenFiles) (w a b : World) (r n : Counts) (done : Bool)
    → OpensFile w input bytes h h1 → Creates path h1 h2 a b → h3 ≡ counting r h2 → h4 ≡ ended done n h3
    → (cause : Cause) → h4.counts.failed cause ≡ h.counts.failed cause + (r.failed cause + n.failed cause)
failed_behind input path bytes h h1 h2 h3 h4 w a b r n done opened made gone closed cause =
    let first : h1.counts.failed cause ≡ h.counts.failed cause
    = ap (λ (k : OpenFiles). k.counts.failed cause) opened.taken in
    let second : h2.counts.failed cause ≡ h1.counts.failed cause
    = ap (λ (k : OpenFiles). k.counts.failed cause) made.begins in
    let third : h3.counts.failed cause ≡ h2.counts.failed cause + r.failed cause
    = ap (λ (k : OpenFiles). k.counts.failed cause) gone in
    let last : h4.counts.failed cause ≡ h3.counts.failed cause + n.failed cause
    = ap (λ (k : OpenFiles). k.counts.failed cause) closed in
    omega (arith, first, second, third, last)

-- and as many bytes were read as the input has given
given_behind : (input path bytes : List ℕ) (h h1 h2 h3 h4 : OpenFiles) (w a b : World) (given given' r n : ℕ)
    (more : Counts) (done : Bool) → OpensFile w input bytes h h1 → Creates path h1 h2 a b
    → h3 ≡ counting (reads given' r) h2 → h4 ≡ ended done (added more (writes n)) h3 → more.given ≡ 0 → given ≡ 0
    → h4.counts.given ≡ h.counts.given + (given' - given)
given_behind input path bytes h h1 h2 h3 h4 w a b given given' r n more done opened made gone closed unread fresh =
    let first : h1.counts.given ≡ h.counts.given = ap (λ (k : OpenFiles). k.counts.given) opened.taken in
    let second : h2.counts.given ≡ h1.counts.given = ap (λ (k : OpenFiles). k.counts.given) made.begins in
    let third : h3.counts.given ≡ h2.counts.given + given' = ap (λ (k : OpenFiles). k.counts.given) gone in
    let last : h4.counts.given ≡ h3.counts.given + (more.given + 0) = ap (λ (k : OpenFiles). k.counts.given) closed in
    omega (arith, first, second, third, last, unread, fresh)

-- a call has failed once the input was closed
failed_since : (input path bytes : List ℕ) (h h1 h2 h3 k : OpenFiles) (w a b : World) (given r : ℕ) (f : HostFault)
    → OpensFile w input bytes h h1 → Creates path h1 h2 a b → h3 ≡ counting (reads given r) h2
    → HasFailed (call f) h3 k → HasFailed (call f) h k
failed_since input path bytes h h1 h2 h3 k w a b given r f opened made gone failed =
    let first : h1.counts.failed (call f) ≡ h.counts.failed (call f)
    = ap (λ (q : OpenFiles). q.counts.failed (call f)) opened.taken in
    let second : h2.counts.failed (call f) ≡ h1.counts.failed (call f)
    = ap (λ (q : OpenFiles). q.counts.failed (call f)) made.begins in
    let third : h3.counts.failed (call f) ≡ h2.counts.failed (call f) + 0
    = ap (λ (q : OpenFiles). q.counts.failed (call f)) gone in
    omega (arith, first, second, third, failed)

-- a fault of what IN's file holds, or a device failed and its count rose
pub of_image : (f : SparseFault) (risen failed : Cause → Type 0) (P Q : Type 0)
    → ((cause : Cause) → risen cause → failed cause) → (P → Q) → OfDevice f risen (Unit {0})
    → UnlessExpandingDevice f P → OfDevice f failed Q
of_image (of_sparse.Read d) risen failed P Q up go rose is = up reading rose
of_image (of_sparse.Write d) risen failed P Q up go rose is = up writing rose
of_image f risen failed P Q up go rose is = go is

-- the devices' counts of this cause rose
abbrev pub HasRisen : ℕ → ℕ → ℕ → ℕ → Cause → Type 0
HasRisen r r' w w' cause = of_reading r cause + of_writing w cause < of_reading r' cause + of_writing w' cause

-- a device's count rose, and no other's
rose_of : (f : SparseFault) (r r' w w' : ℕ) → BlamesDevice f r r' w w' → OfDevice f (HasRisen r r' w w') (Unit {0})
rose_of (of_sparse.Read d) r r' w w' blames = let z : r + 0 < r' + 0 = omega (arith, blames.0) in z
rose_of (of_sparse.Write d) r r' w w' blames = let z : 0 + w < 0 + w' = omega (arith, blames.1) in z
rose_of f r r' w w' blames = tt

-- this much has failed in a run: what was read has so often, and more at its end than the output, which has so often
abbrev pub HasCounted : OpenFiles → OpenFiles → ℕ → Counts → ℕ → Type 0
HasCounted h k r more w = (cause : Cause) → k.counts.failed cause
    ≡ h.counts.failed cause + (of_reading r cause + (more.failed cause + of_writing w cause))

-- where one read has failed and nothing else has, the end of the output has not, and no write
only_read : (h k : OpenFiles) (r w : ℕ) (more : Counts) → 0 < r → HasFailedToReadOnce h k → HasCounted h k r more w
    → HasNone (added more (writes w))
only_read h k r w more some one count (call f) =
    let a : k.counts.failed (call f) ≡ h.counts.failed (call f) + 0 = one (call f) in
    let b : k.counts.failed (call f) ≡ h.counts.failed (call f) + (0 + (more.failed (call f) + 0)) = count (call f) in
    let z : more.failed (call f) + 0 ≡ 0 = omega (arith, a, b) in
    z
only_read h k r w more some one count reading =
    let a : k.counts.failed reading ≡ h.counts.failed reading + 1 = one reading in
    let b : k.counts.failed reading ≡ h.counts.failed reading + (r + (more.failed reading + 0)) = count reading in
    let z : more.failed reading + 0 ≡ 0 = omega (arith, a, b, some) in
    z
only_read h k r w more some one count writing =
    let a : k.counts.failed writing ≡ h.counts.failed writing + 0 = one writing in
    let b : k.counts.failed writing ≡ h.counts.failed writing + (0 + (more.failed writing + w)) = count writing in
    let z : more.failed writing + w ≡ 0 = omega (arith, a, b) in
    z

-- where nothing has failed, neither has
nothing_more : (h k : OpenFiles) (r w : ℕ) (more : Counts) → HasNotFailed h k → HasCounted h k r more w
    → HasNone (added more (writes w))
nothing_more h k r w more none count cause =
    let a : k.counts.failed cause ≡ h.counts.failed cause = none cause in
    let b : k.counts.failed cause
    ≡ h.counts.failed cause + (of_reading r cause + (more.failed cause + of_writing w cause)) = count cause in
    let z : more.failed cause + of_writing w cause ≡ 0 = omega (arith, a, b) in
    z

has_failed : (cause : Cause) (h k : OpenFiles) (r r' w w' : ℕ) (more : Counts) → HasCounted h k r' more w'
    → HasRisen r r' w w' cause → HasFailed cause h k
has_failed cause h k r r' w w' more count rose =
    let b : k.counts.failed cause
    ≡ h.counts.failed cause + (of_reading r' cause + (more.failed cause + of_writing w' cause)) = count cause in
    let u : of_reading r cause + of_writing w cause < of_reading r' cause + of_writing w' cause = rose in
    let z : h.counts.failed cause < k.counts.failed cause = omega (arith, b, u) in
    z

-- an output that was created, and holds these bytes
holds_left : (path bytes : List ℕ) (h h' : OpenFiles) (a b c : World) → Creates path h h' a b
    → Ends h'.output bytes b c → FileHolds c path bytes
holds_left path bytes h h' a b c made ends =
    let after : (c.holds made.file ≡ bytes) × Spares made.file b c
    = subst (λ k. Ends k.output bytes b c) made.begins ends in
    record { file = made.file; there = after.1.paths path made.file made.there; holds = after.0 }

-- an output that was created, and begins with most of these bytes
most_left : (path bytes : List ℕ) (n : Counts) (h h' h'' : OpenFiles) (a b b' c : World) → Creates path h h' a b
    → h'' ≡ counting n h' → b' ≡ b → SparesRest h''.output b' c → HoldsMost h''.output bytes c
    → FileHoldsMost c path bytes
most_left path bytes n h h' h'' a b b' c made gone same rest most =
    let after : Spares made.file b c
    = subst (λ k. SparesRest k.output b c) made.begins (rest_behind n h' h'' b b' c gone same rest) in
    record {
      file = made.file;
      there = after.paths path made.file made.there;
      holds = subst (λ k. HoldsMost k.output bytes c) made.begins (subst (λ k. HoldsMost k.output bytes c) gone most);
    }

-- what was read of IN is held so
begun_of : (Holds : List ℕ → Type 0) (input x old new : List ℕ) (h h1 k : OpenFiles) (a : World) (read : ℕ)
    → OpensFile a input x h h1 → old ≡ [] → WritesRead read x old new → k.counts.given ≡ h.counts.given + read
    → Holds new → HoldsBegun Holds input h k a
begun_of Holds input x old new h h1 k a read opened empty begun came held = record {
  from = opened.file;
  there = opened.there;
  read = read;
  counted = came;
  front = new;
  written = subst (λ z. WritesRead read (a.holds opened.file) z new) empty
      (subst (λ z. WritesRead read z old new) opened.held begun);
  holds = held;
}

-- what a fault of IN leaves of an output that was empty
front_of : (f : SparseFault) (input path x old new : List ℕ) (h h1 k : OpenFiles) (a c : World) (r0 r w w' : ℕ)
    (more : Counts) → OpensFile a input x h h1 → r0 ≡ 0 → HasCounted h k r more w'
    → UnlessExpandingDevice f (Refusal f old new x) → BlamesDevice f r0 r w w' → old ≡ []
    → HoldsBegun (FileHoldsMost c path) input h k a → (FileHolds c path new → HoldsBegun (FileHolds c path) input h k a)
    → (HasNone (added more (writes w')) → FileHolds c path new) → LeavesFront f input path a c h k
front_of (of_sparse.Read d) input path x old new h h1 k a c r0 r w w' more opened first count is blames empty most begun
    left = (most, λ one. begun (left (only_read h k r w' more (omega (arith, blames.0, first)) one count)))
front_of (of_sparse.Write d) input path x old new h h1 k a c r0 r w w' more opened first count is blames empty most
    begun left = most
front_of f input path x old new h h1 k a c r0 r w w' more opened first count is blames empty most begun left = (
  most,
  λ clean. record {
    from = opened.file;
    there = opened.there;
    given = is.given;
    fails = subst (λ z. Fails z f is.given) opened.held is.fails;
    holds = subst (λ z. FileHolds c path z) (is.written ∙ ap (λ z. z ++ laid is.given) empty)
        (left (nothing_more h k r w' more clean count));
  },
)

own : (untold : List ℕ → Type 0) (input path x old new : List ℕ) (h h1 k : OpenFiles) (a c : World)
    (f : SparseCommandFault) (r0 r w w' : ℕ) (more : Counts)
    → OpensFile a input x h h1 → r0 ≡ 0 → HasCounted h k r more w'
    → ExpandingSays (Err f) x old new → Blames (Err f) r0 r w w' → old ≡ []
    → HoldsBegun (FileHoldsMost c path) input h k a → (FileHolds c path new → HoldsBegun (FileHolds c path) input h k a)
    → (HasNone (added more (writes w')) → FileHolds c path new)
    → RefusesFile f input path a c h k untold
own untold input path x old new h h1 k a c (faults.Sparse f) r0 r w w' more opened first count says blames empty most
    begun left = (
      of_image f (HasRisen r0 r w w') (λ cause. HasFailed cause h k) (Refusal f old new x) (HasFault input a f)
          (λ cause rose. has_failed cause h k r0 r w w' more count rose)
          (λ refusal. record {
            file = opened.file;
            there = opened.there;
            given = refusal.given;
            fails = subst (λ z. Fails z f refusal.given) opened.held refusal.fails;
          }) (rose_of f r0 r w w' blames) says,
      front_of f input path x old new h h1 k a c r0 r w w' more opened first count says blames empty most begun left,
    )
own _ _ _ _ _ _ _ _ _ _ _ (faults.Run f) _ _ _ _ _ _ _ _ says _ _ _ _ _ = absurd says
own _ _ _ _ _ _ _ _ _ _ _ (faults.Piece f) _ _ _ _ _ _ _ _ says _ _ _ _ _ = absurd says
own _ _ _ _ _ _ _ _ _ _ _ (faults.Flash f) _ _ _ _ _ _ _ _ says _ _ _ _ _ = absurd says
own _ _ _ _ _ _ _ _ _ _ _ (faults.Verify f) _ _ _ _ _ _ _ _ says _ _ _ _ _ = absurd says
own _ _ _ _ _ _ _ _ _ _ _ (faults.OtherBlocks f) _ _ _ _ _ _ _ _ says _ _ _ _ _ = absurd says
own _ _ _ _ _ _ _ _ _ _ _ (faults.OtherCut f) _ _ _ _ _ _ _ _ says _ _ _ _ _ = absurd says
own _ _ _ _ _ _ _ _ _ _ _ (faults.Host f) _ _ _ _ _ _ _ _ says _ _ _ _ _ = absurd says

-- a fault of files, of a call that has failed
pub of_failed : (untold : List ℕ → Type 0) (input path : List ℕ) (a c : World) (h k : OpenFiles)
    (r : SparseCommandFault) → FromCall r h k → RefusesFile r input path a c h k untold
of_failed untold input path a c h k r made =
    subst (λ f. RefusesFile f input path a c h k untold) (sym made.1) (inl made.2)

-- or all was done, but the line could not be printed
pub of_unprinted : (untold : List ℕ → Type 0) (input path : List ℕ) (a c : World) (h k : OpenFiles)
    (r : SparseCommandFault) → r ≡ faults.Host hosts.Write
    → ExpandsFile input path a c untold → RefusesFile r input path a c h k untold
of_unprinted untold input path a c h k r made done =
    subst (λ f. RefusesFile f input path a c h k untold) (sym made) (inr (refl, done))

-- the call failed, or the end of the output did
pub refuses : (untold : List ℕ → Type 0) (input path x old new : List ℕ) (h h1 h2 h3 k : OpenFiles)
    (a a' b b' c : World) (answer : Result Expanded SparseCommandFault) (told : SparseCommandFault)
    (g0 g r0 r w w' : ℕ) → OpensFile a input x h h1 → g0 ≡ 0 → r0 ≡ 0 → Creates path h1 h2 a' b
    → h3 ≡ counting (reads g r) h2 → b' ≡ b → EndsOutput false new (writes w') h3 k b' c → SparesRest h3.output b' c
    → ExpandingSays answer x old new → Blames answer r0 r w w' → old ≡ [] → WritesRead (g - g0) x old new
    → (IsOk answer → FromCall told h3 k) → IfErr answer (λ f. told ≡ f) → RefusesFile told input path a c h k untold
refuses untold input path x old new h h1 h2 h3 k a a' b b' c (Ok e) told g0 g r0 r w w' opened fresh first made gone
    same end rest says blames empty begun files is =
    let failed = files refl in
    of_failed untold input path a c h k told
    (failed.0, failed.1, failed_since input path x h h1 h2 h3 k a a' b g r failed.0 opened made gone failed.2)
refuses untold input path x old new h h1 h2 h3 k a a' b b' c (Err f) told g0 g r0 r w w' opened fresh first made gone
    same end rest says blames empty begun files is =
    let count : HasCounted h k r end.more w' = failed_behind input path x h h1 h2 h3 k a a' b (reads g r)
    (added end.more (writes w')) false opened made gone end.closed in
    let came = given_behind input path x h h1 h2 h3 k a a' b g0 g r w' end.more false opened made gone end.closed
    end.unread fresh in
    subst (λ q. RefusesFile q input path a c h k untold) (sym is)
    (own untold input path x old new h h1 k a c f r0 r w w' end.more opened first count says blames empty
    (begun_of (FileHoldsMost c path) input x old new h h1 k a (g - g0) opened empty begun came
    (most_left path new (reads g r) h1 h2 h3 a' b b' c made gone same rest end.most))
    (begun_of (FileHolds c path) input x old new h h1 k a (g - g0) opened empty begun came)
    (λ none. holds_left path new h1 h2 a' b c made (ends_behind new (reads g r) h2 h3 b b' c gone same
    (end.left none))))

-- it was done, and then nothing has failed
pub clean_behind : (answer : Result Expanded SparseCommandFault) (e : Expanded) (h k : OpenFiles) (r0 r w w' : ℕ)
    (more : Counts) → answer ≡ Ok e → Blames answer r0 r w w' → r0 ≡ 0 → w ≡ 0 → HasNone more
    → HasCounted h k r more w' → HasNotFailed h k
clean_behind (Ok x) e h k r0 r w w' more is blames first none clean count cause =
    let a : of_reading r cause ≡ 0 = ap (λ n. of_reading n cause) (blames.0 ∙ first) ∙ no_reading cause in
    let b : of_writing w' cause ≡ 0 = ap (λ n. of_writing n cause) (blames.1 ∙ none) ∙ no_writing cause in
    let z : more.failed cause ≡ 0 = clean cause in
    let all : k.counts.failed cause
    ≡ h.counts.failed cause + (of_reading r cause + (more.failed cause + of_writing w' cause)) = count cause in
    omega (arith, a, b, z, all)
clean_behind (Err f) e h k r0 r w w' more is blames first none clean count cause = absurd (false≢true (ap is_ok is))

-- a call failed
pub failed_first : (f : HostFault) (h k : OpenFiles) → k ≡ counting (call_of f) h → HasFailed (call f) h k
failed_first f h k refused =
    let up : k.counts.failed (call f) ≡ h.counts.failed (call f) + calls f (call f)
    = ap (λ (q : OpenFiles). q.counts.failed (call f)) refused in
    let one = counts_one f in
    omega (arith, up, one)

pub failed_second : (input bytes : List ℕ) (w : World) (f : HostFault) (h h1 k : OpenFiles)
    → OpensFile w input bytes h h1 → k ≡ counting (call_of f) h1 → HasFailed (call f) h k
failed_second input bytes w f h h1 k opened refused =
    let first : h1.counts.failed (call f) ≡ h.counts.failed (call f)
    = ap (λ (q : OpenFiles). q.counts.failed (call f)) opened.taken in
    let up : h1.counts.failed (call f) < k.counts.failed (call f) = failed_first f h1 k refused in
    omega (arith, first, up)

-- what `?` returns is made of a fault of files
pub handed_on : {X R : Type 0} (answer : Result X R) (P Q : R → Type 0) → ((r : R) → P r → Q r) → IsErrAnd answer P
    → IfErr answer Q
handed_on (Ok x) P Q go is = tt
handed_on (Err r) P Q go is = go r is

-- the engine blames a device whose count rose
pub of_rising : (f : SparseFault) (r0 r r' w w' : ℕ) → r ≡ r0 → ExpandingRises {X = Expanded} (Err f) r r' w w'
    → Clean {X = Expanded} (Err f) r r' w w' → BlamesDevice f r0 r' w w'
of_rising (of_sparse.Read d) r0 r r' w w' same rise clean = (omega (arith, same, rise), clean)
of_rising (of_sparse.Write d) r0 r r' w w' same rise clean = (clean ∙ same, rise)
of_rising f r0 r r' w w' same rise clean = tt
