-- What a delivery that was counted says of the command.
use Rattle.std.proofs.Common.{◌≡◌, ◌<◌, ◌+◌, ℕ, List, [], ◌∷◌, ◌++◌, ◌≤◌, Option, refl, sym, ◌∙◌, ap, subst, arith}
use Rattle.std.proofs.Common.{inl, inr}
use Rattle.std.specs.Prelude.{None, Result, Ok, Err, IfOk, IfErr, IsOk, OnOk, is_some, true}
use Rattle.std.proofs.lemmas.Bool.{lt-ltb}
use Rattle.abt_io.specs.Moment.{Past, past_of_file}
use Rattle.sys_disk.specs.InPlace.{is_settled, is_settled_in}
use Rattle.sys_disk.specs.Counts as runs
use Rattle.sys_disk.specs.World.{World, OpenFiles, HasFailed, HasNotFailed, KeepsFile}
use Rattle.abt_flash.specs.declared.answer.Delivered.{Delivered}
use Rattle.abt_flash_faults.specs.declared.fault.FlashFault.{FlashFault}
use Rattle.cmd_common_sparse.specs.declared.fault.SparseCommandFault.{SparseCommandFault}
use Rattle.cmd_common_sparse.specs.declared.fault.SparseCommandFault.TheVariants as faults
use Rattle.cmd_flash.specs.Files.{OfFile}
use Rattle.sys_refusals.specs.declared.refusal.HostFault.{HostFault}
use Rattle.sys_refusals.specs.declared.refusal.HostFault.TheVariants as hosts
use Rattle.cmd_common_sparse.specs.declared.lines.Line.TheVariants as lines
use Rattle.cmd_common_sparse.specs.Lines.{line_text}
use Rattle.cmd_flash.specs.InPieces.{Across, DeliversPieces, FlashesPieces, IsDelivered}
use Rattle.cmd_flash.specs.InPieces.{IsDeliveredWhole, IsUncuttable, IsUndelivered, RefusesPieces}
use Rattle.cmd_flash.specs.Through.{HasFailedWith, HasNotFailedWith, count_delivered}
use Rattle.cmd_flash.proofs.Closed.{undelivered_for}
use Rattle.cmd_flash.proofs.Crossing.{Crossed}

abbrev IsCount : Result ℕ SparseCommandFault → Type 0
IsCount (Ok n) = Unit {0}
IsCount (Err f) = ⊥

abbrev IsFault : Result ℕ SparseCommandFault → Type 0
IsFault (Ok n) = ⊥
IsFault (Err f) = Unit {0}

abbrev count_or : ℕ → Result ℕ SparseCommandFault → ℕ
count_or d (Ok n) = n
count_or d (Err f) = d

abbrev fault_in : SparseCommandFault → Result ℕ SparseCommandFault → SparseCommandFault
fault_in d (Ok n) = d
fault_in d (Err f) = f

pub refuses_pieces : (untold : List ℕ → Type 0) (r : Result Delivered FlashFault) (f : SparseCommandFault)
    (G : runs.Cause → Type 0)
    (raw : Option ℕ) (limit
    before : ℕ)
    (input path spool x p p' : List ℕ) (a c : World) (h h' : OpenFiles) → count_delivered r ≡ Err f
    → h'.part ≡ None → ((cause : runs.Cause) → G cause → HasFailed cause h h')
    → ((P : List ℕ → List ℕ → List ℕ → Type 0) → P x p p' → Across input path spool a c P)
    → DeliversPieces G raw r limit before x p p' → RefusesPieces f raw limit before input path spool a c h h' untold
refuses_pieces untold (Ok d) f G raw limit before input path spool x p p' a c h h' is closed go across delivers =
    absurd (subst IsCount is tt)
refuses_pieces untold (Err fault) f G raw limit before input path spool x p p' a c h h' is closed go across delivers =
    subst (λ (e : SparseCommandFault). RefusesPieces e raw limit before input path spool a c h h' untold)
    (ap (fault_in (faults.Flash fault)) is) (
      closed,
      across (IsUndelivered (λ cause. HasFailed cause h h') raw fault limit before)
          (undelivered_for G (λ cause. HasFailed cause h h') raw fault limit before x p p' go delivers),
    )

pub pieces_done : (r : Result Delivered FlashFault) (n : ℕ) (G : runs.Cause → Type 0) (raw : Option ℕ)
    (limit before : ℕ) (x p p' : List ℕ) → count_delivered r ≡ Ok n → DeliversPieces G raw r limit before x p p'
    → IsDelivered raw limit before n x p p'
pieces_done (Ok d) n G raw limit before x p p' is delivers =
    subst (λ (k : ℕ). IsDelivered raw limit before k x p p') (ap (count_or d.pieces) is) delivers
pieces_done (Err fault) n G raw limit before x p p' is delivers = absurd (subst IsFault is tt)

pub when_done : (r : Result Delivered FlashFault) (n : ℕ) (P : Type 0) → count_delivered r ≡ Ok n → OnOk r P → P
when_done (Ok d) n P is so = so
when_done (Err fault) n P is so = absurd (subst IsFault is tt)

-- at least one sync, after the last byte
settled_by : {file : ℕ} (past past' : Past) (n : ℕ) → past ≡ past_of_file file → past'.synced ≡ past.synced + n → 0 < n
    → past'.pending ≡ [] → is_settled past' ≡ true
settled_by past past' n fresh more one none =
    let was : past.synced ≡ 0 = ap (λ (q : Past). q.synced) fresh in
    ap (λ (l : List (ℕ × ℕ)). is_settled_in l past'.synced) none
    ∙ lt-ltb 0 past'.synced (omega (arith, more, one, was))

pub settled_pieces : {file : ℕ} (r : Result Delivered FlashFault) (n : ℕ) (past past' : Past)
    → count_delivered r ≡ Ok n → past ≡ past_of_file file
    → IfOk r (λ d. 0 < d.pieces) → IfOk r (λ d. past'.synced ≡ past.synced + d.pieces) → OnOk r (past'.pending ≡ [])
    → is_settled past' ≡ true
settled_pieces (Ok d) n past past' is fresh some synced none = settled_by past past' d.pieces fresh synced some none
settled_pieces (Err fault) n past past' is fresh some synced none = absurd (subst IsFault is tt)

-- a raw image that can't be cut so
pub refuses_uncuttable : (untold : List ℕ → Type 0) (f : SparseCommandFault) (raw : Option ℕ) (limit before : ℕ)
    (input path spool x : List ℕ) (a
    c : World)
    (h h' : OpenFiles) → c ≡ a → ((P : List ℕ → Type 0) → P x → OfFile input a P) → IsUncuttable raw f limit x
    → RefusesPieces f raw limit before input path spool a c h h' untold
refuses_uncuttable untold (faults.Run f) raw limit before input path spool x a c h h' same file is =
    (file (IsUncuttable raw (faults.Run f) limit) is, same)
refuses_uncuttable untold (faults.Piece f) raw limit before input path spool x a c h h' same file is =
    (file (IsUncuttable raw (faults.Piece f) limit) is, same)
refuses_uncuttable untold (faults.Flash f) raw limit before input path spool x a c h h' same file is = absurd is.2
refuses_uncuttable untold (faults.Sparse f) raw limit before input path spool x a c h h' same file is = absurd is.2
refuses_uncuttable untold (faults.Verify f) raw limit before input path spool x a c h h' same file is = absurd is.2
refuses_uncuttable untold (faults.OtherBlocks i) raw limit before input path spool x a c h h' same file is = absurd is.2
refuses_uncuttable untold (faults.OtherCut i) raw limit before input path spool x a c h h' same file is = absurd is.2
refuses_uncuttable untold (faults.Host f) raw limit before input path spool x a c h h' same file is = absurd is.2

-- ---- what has failed

pub none_of : (r p w : ℕ) → r ≡ 0 → p ≡ 0 → w ≡ 0 → r + p + w ≡ 0
none_of r p w one two three = omega (arith, one, two, three)

-- a device of these two had failed, or a call before, and then it was counted
has_failed_across : (h h3 h4 h' : OpenFiles) (g s t : ℕ) (m : runs.Counts) (cause : runs.Cause)
    → h3.counts.failed cause ≡ h.counts.failed cause
    → h'.counts.failed cause ≡ h4.counts.failed cause
    + ((runs.reads g s).failed cause + (runs.writes t).failed cause + m.failed cause)
    → HasFailedWith s t h3 h4 cause → HasFailed cause h h'
has_failed_across h h3 h4 h' g s t m cause began ended more = omega (arith, began, ended, more)

unclosed_across : (h h3 h4 h5 h' : OpenFiles) (n : runs.Counts) (cause : runs.Cause)
    → h3.counts.failed cause ≡ h.counts.failed cause → h3.counts.failed cause ≤ h4.counts.failed cause
    → h5.counts.failed cause ≡ h4.counts.failed cause + n.failed cause → HasFailed cause h5 h' → HasFailed cause h h'
unclosed_across h h3 h4 h5 h' n cause began grew ended more = omega (arith, began, grew, ended, more)

none_failed_across : (h h3 h4 h' : OpenFiles) (g s t : ℕ) (m : runs.Counts) (cause : runs.Cause)
    → h3.counts.failed cause ≡ h.counts.failed cause
    → h'.counts.failed cause ≡ h4.counts.failed cause
    + ((runs.reads g s).failed cause + (runs.writes t).failed cause + m.failed cause)
    → HasNotFailedWith s t h3 h4 → m.failed cause ≡ 0 → h'.counts.failed cause ≡ h.counts.failed cause
none_failed_across h h3 h4 h' g s t m cause began ended same clean =
    let one = same cause in omega (arith, began, ended, one, clean)

pub clean_across : (r : Result Delivered FlashFault) (n none g s t : ℕ) (m : runs.Counts)
    (input path spool x p p' : List ℕ) (a c : World) (h h3 h4 h5 h' : OpenFiles) (past : Past)
    → Crossed input path spool x p p' a c h h3 h4 h5 h' (runs.reads g s) (runs.writes t) m past
    → count_delivered r ≡ Ok n
    → none ≡ 0 → OnOk r (none ≡ 0 → HasNotFailedWith s t h3 h4) → runs.HasNone m → HasNotFailed h h'
clean_across r n none g s t m input path spool x p p' a c h h3 h4 h5 h' past all is clean same closed =
    λ cause. none_failed_across h h3 h4 h' g s t m cause (all.began cause) (all.failed cause)
    (when_done r n (none ≡ 0 → HasNotFailedWith s t h3 h4) is same clean) (closed cause)

-- the fault of the call is reported; or it had none, and closing failed
refuses_ended : (untold : List ℕ → Type 0) (q : Result ℕ SparseCommandFault) (r : Result Delivered FlashFault)
    (e : SparseCommandFault)
    (G : runs.Cause → Type 0)
    (raw : Option ℕ) (limit before : ℕ) (input path spool x p p' : List ℕ) (a c : World) (h h' : OpenFiles)
    → q ≡ count_delivered r → IfErr q (λ f. e ≡ f)
    → (IsOk q → (host : HostFault) × (e ≡ faults.Host host) × HasFailed (runs.call host) h h')
    → h'.part ≡ None → ((cause : runs.Cause) → G cause → HasFailed cause h h')
    → ((P : List ℕ → List ℕ → List ℕ → Type 0) → P x p p' → Across input path spool a c P)
    → DeliversPieces G raw r limit before x p p' → RefusesPieces e raw limit before input path spool a c h h' untold
refuses_ended untold (Ok n) r e G raw limit before input path spool x p p' a c h h' is told host closed go across
    delivers =
    subst (λ (z : SparseCommandFault). RefusesPieces z raw limit before input path spool a c h h' untold) (sym
    (host refl).1)
    (inl (
      (host refl).2,
      inr (
        closed,
        across (IsDeliveredWhole raw limit before)
            (n, pieces_done r n G raw limit before x p p' (sym is) delivers),
      ),
    ))
refuses_ended untold (Err f) r e G raw limit before input path spool x p p' a c h h' is told host closed go across
    delivers =
    subst (λ (z : SparseCommandFault). RefusesPieces z raw limit before input path spool a c h h' untold) (sym told)
    (refuses_pieces untold r f G raw limit before input path spool x p p' a c h h' (sym is) closed go across delivers)

pub refuses_across : (untold : List ℕ → Type 0) (q : Result ℕ SparseCommandFault) (r : Result Delivered FlashFault)
    (e : SparseCommandFault) (M : Type 0)
    (none g s t : ℕ) (m : runs.Counts) (raw : Option ℕ)
    (limit before before' : ℕ) (input path spool x p p' : List ℕ) (a c : World) (h h3 h4 h5 h' : OpenFiles)
    (past : Past)
    → Crossed input path spool x p p' a c h h3 h4 h5 h' (runs.reads g s) (runs.writes t) m past
    → q ≡ count_delivered r → IfErr q (λ f. e ≡ f) → M
    → (IsOk q → (host : HostFault) × (e ≡ faults.Host host) × (M → HasFailed (runs.call host) h5 h')) → none ≡ 0
    → before' ≡ before → DeliversPieces (λ k. none ≡ 0 → HasFailedWith s t h3 h4 k) raw r limit before' x p p'
    → RefusesPieces e raw limit before input path spool a c h h' untold
refuses_across untold q r e M none g s t m raw limit before before' input path spool x p p' a c h h3 h4 h5 h' past all
    is told models host clean same delivers =
    let G : runs.Cause → Type 0 = λ k. none ≡ 0 → HasFailedWith s t h3 h4 k in
    let go : (cause : runs.Cause) → G cause → HasFailed cause h h' =
    λ cause more. has_failed_across h h3 h4 h' g s t m cause (all.began cause) (all.failed cause) (more clean) in
    let late : IsOk q → (host : HostFault) × (e ≡ faults.Host host) × HasFailed (runs.call host) h h' = λ ok.
    let one = host ok in
    let cause : runs.Cause = runs.call one.0 in (
      one.0,
      one.1,
      unclosed_across h h3 h4 h5 h' (runs.reads g s) cause (all.began cause) (all.grew cause) (all.behind cause)
          (one.2 models),
    ) in
    refuses_ended untold q r e G raw limit before input path spool x p p' a c h h' is told late all.closed go
    all.across (subst (λ (k : ℕ). DeliversPieces G raw r limit k x p p') same delivers)

pub done_across : {file : ℕ} (r : Result Delivered FlashFault) (n none s t : ℕ) (raw : Option ℕ)
    (limit before before' : ℕ)
    (input path spool x p p' : List ℕ) (a c : World) (h h3 h4 h5 h' : OpenFiles)
    (o k m : runs.Counts) (past past' : Past) (shows : List ℕ → Type 0)
    → Crossed input path spool x p p' a c h h3 h4 h5 h' o k m past' → count_delivered r ≡ Ok n
    → past ≡ past_of_file file → IfOk r (λ d. 0 < d.pieces) → IfOk r (λ d. past'.synced ≡ past.synced + d.pieces)
    → OnOk r (past'.pending ≡ []) → before' ≡ before
    → DeliversPieces (λ k. none ≡ 0 → HasFailedWith s t h3 h4 k) raw r limit before' x p p'
    → h3.keeps ≡ is_some raw → shows (line_text (lines.Pieces n) ++ (10 ∷ []))
    → FlashesPieces raw limit before input path spool a c h h' shows
done_across r n none s t raw limit before before' input path spool x p p' a c h h3 h4 h5 h' o k m past past' shows all
    is fresh some synced settled same delivers keeps shown =
    record {
      pieces = n;
      delivered = all.across (IsDelivered raw limit before n) (pieces_done r n
          (λ k. none ≡ 0 → HasFailedWith s t h3 h4 k) raw limit before x p p' is
          (subst (λ (z : ℕ). DeliversPieces (λ k. none ≡ 0 → HasFailedWith s t h3 h4 k) raw r limit z x p p') same
          delivers));
      synced = all.synced (settled_pieces r n past past' is fresh some synced settled);
      kept = all.keeps ∙ keeps;
      shown = shown;
    }

-- one of the files was not opened, and the partition not written
pub pieces_unopened : (untold : List ℕ → Type 0) (e : SparseCommandFault) (host : HostFault) (raw : Option ℕ)
    (limit before : ℕ)
    (input path spool : List ℕ) (a c : World) (h h' : OpenFiles) → e ≡ faults.Host host
    → HasFailed (runs.call host) h h'
    → KeepsFile path a c
    → RefusesPieces e raw limit before input path spool a c h h' untold
pieces_unopened untold e host raw limit before input path spool a c h h' is failed kept =
    subst (λ (z : SparseCommandFault). RefusesPieces z raw limit before input path spool a c h h' untold) (sym is)
    (inl (failed, inl kept))

-- all was done, but the line
pub pieces_untold : (untold : List ℕ → Type 0) (e : SparseCommandFault) (raw : Option ℕ)
    (limit before : ℕ)
    (input path spool : List ℕ) (a c : World) (h h' : OpenFiles) → e ≡ faults.Host hosts.Write → h'.part ≡ None
    → FlashesPieces raw limit before input path spool a c h h' untold
    → RefusesPieces e raw limit before input path spool a c h h' untold
pieces_untold untold e raw limit before input path spool a c h h' is closed done =
    subst (λ (z : SparseCommandFault). RefusesPieces z raw limit before input path spool a c h h' untold) (sym is)
    (inr (refl, (closed, done)))
