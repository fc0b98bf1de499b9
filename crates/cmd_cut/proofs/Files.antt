-- What opening, creating and ending leave together.
use Rattle.std.proofs.Common.{inl, inr, arith, ◌⊎◌, ◌+◌, ◌≡◌, ◌<◌, ℕ, List, [], ◌∷◌, ◌++◌, length, Option, Some}
use Rattle.std.proofs.Common.{None, Bool, true, sym, ◌∙◌, ap, subst}
use Rattle.std.specs.Prelude.{unwrap_or, if◌then◌else◌, OnOk, Result, Err}
use Rattle.abt_runs.specs.declared.part.RunFault.{RunFault}
use Rattle.abt_runs.specs.Raw.{RefusedRaw}
use Rattle.abt_sparsify.specs.declared.count.Written.{Written}
use Rattle.sys_disk.specs.Counts.{call}
use Rattle.sys_disk.specs.Images.{EmptiesAt}
use Rattle.sys_disk.specs.World.{World, OpenFiles, Spares, OpensFile, Creates, untouched, SparesRest}
use Rattle.sys_disk.specs.World.{ClosesOutput, HasFailed, HasNotFailed, SparesInUse}
use Rattle.sys_disk.proofs.Worlds.{apart, kept_behind, may_behind, only_behind, only_written, spared_if_may}
use Rattle.sys_disk.proofs.Worlds.{spares_trans}
use Rattle.sys_refusals.specs.declared.refusal.HostFault.{HostFault}
use Rattle.sys_refusals.specs.declared.refusal.HostFault.TheVariants as hosts
use Rattle.cmd_common_sparse.specs.Blocks.{IsRawBlockSize}
use Rattle.cmd_common_sparse.specs.Lines.{line_text}
use Rattle.cmd_common_sparse.specs.declared.lines.Line.TheVariants as lines
use Rattle.cmd_common_sparse.specs.declared.fault.SparseCommandFault.{SparseCommandFault}
use Rattle.cmd_common_sparse.specs.declared.fault.SparseCommandFault.TheVariants as faults
use Rattle.cmd_cut.specs.Sparsing.{SparsifiesFile, HoldsNoPartOfSparse, IsOutsideSparse, RefusesRaw}
use Rattle.cmd_cut.specs.Sparsing.{IsWritten, HoldsWritten, LeavesNoneOrSparse, HoldsNoSparse, image_of_raw}
use Rattle.cmd_cut.specs.Sparsing.{blocks_of_raw}
use Rattle.cmd_cut.specs.Sparsing.{LeavesImage, chunks_of_raw}

one : (o : Option ℕ) (f g : ℕ) → o ≡ Some f → o ≡ Some g → f ≡ g
one o f g a b = ap (λ p. unwrap_or p 0) (sym a ∙ b)

-- an output that was created, and then completed or given up
after : (path : List ℕ) (h h' : OpenFiles) (a b c : World) (made : Creates path h h' a b) → SparesRest h'.output b c
    → Spares made.file b c
after path h h' a b c made rest = subst (λ k. SparesRest k.output b c) made.begins rest

-- the output may be opened
pub none_open : (input bytes : List ℕ) (h h' : OpenFiles) (a : World) → OpensFile a input bytes h h' → h.output ≡ None
    → h'.output ≡ None
none_open input bytes h h' a opened none = ap (λ k. k.output) opened.taken ∙ none

-- ---- what OUT holds

pub part_same : (input output : List ℕ) (u : Bool) (size : ℕ) (a c : World) → c ≡ a
    → HoldsNoPartOfSparse input output u size a c
part_same input output u size a c same = λ file _. inl (ap (λ w. w.holds file) same)

nothing : (x : List ℕ) → x ≡ [] → HoldsNoSparse x
nothing x e = inl (subst (λ l. length l < 4) (sym e) (omega arith))

-- the output could not be opened
pub part_emptied : (input output : List ℕ) (u : Bool) (size : ℕ) (a b c : World) → b ≡ a → EmptiesAt output b c
    → HoldsNoPartOfSparse input output u size a c
part_emptied input output u size a b c same empties = λ file at. elim (empties file at) [
  | inl kept ↦ inl (kept ∙ ap (λ w. w.holds file) same)
  | inr none ↦ inr (inl (nothing _ none))
]

-- it was begun, and could not be brought to its end
pub part_left : (input output bytes : List ℕ) (u : Bool) (size n : ℕ) (h h' h'' : OpenFiles) (a b c d : World) → n
    ≡ size
    → OpensFile a input bytes h h' → Creates output h' h'' b c → SparesRest h''.output c d
    → LeavesNoneOrSparse u n bytes h''.output d → HoldsNoPartOfSparse input output u size a d
part_left input output bytes u size n h h' h'' a b c d sized opened made rest left = λ file at.
    let t : Spares made.file c d = after output h' h'' b c d made rest in
    let is : made.file ≡ file = one (d.at output) made.file file (t.paths output made.file made.there) at in
    let so : LeavesNoneOrSparse u size bytes h''.output d
    = subst (λ k. LeavesNoneOrSparse u k bytes h''.output d) sized left in
    let it : HoldsNoSparse (d.holds made.file) ⊎ (d.holds made.file ≡ image_of_raw u size bytes)
    = subst (λ k. LeavesNoneOrSparse u size bytes k.output d) made.begins so in
    inr (elim (subst (λ f. HoldsNoSparse (d.holds f) ⊎ (d.holds f ≡ image_of_raw u size bytes)) is it) [
      | inl broken ↦ inl broken
      | inr whole ↦ inr (record {
        from = opened.file;
        there = opened.there;
        holds = whole ∙ ap (image_of_raw u size) opened.held;
      })
    ])

-- it was brought to its end
pub part_whole : (input output bytes : List ℕ) (u : Bool) (size n : ℕ) (x : Written) (h h' h'' : OpenFiles)
    (a b c d : World)
    → n ≡ size → OpensFile a input bytes h h' → Creates output h' h'' b c → HoldsWritten u n bytes x h''.output c d
    → HoldsNoPartOfSparse input output u size a d
part_whole input output bytes u size n x h h' h'' a b c d sized opened made has = λ file at.
    let so : HoldsWritten u size bytes x h''.output c d = subst (λ k. HoldsWritten u k bytes x h''.output c d) sized
    has in
    let it : IsWritten u size bytes x (d.holds made.file) × Spares made.file c d
    = subst (λ k. HoldsWritten u size bytes x k.output c d) made.begins so in
    let is : made.file ≡ file = one (d.at output) made.file file (it.1.paths output made.file made.there) at in
    inr (inr (record {
      from = opened.file;
      there = opened.there;
      holds = ap (λ f. d.holds f) (sym is) ∙ it.0.holds ∙ ap (image_of_raw u size) opened.held;
    }))

-- ---- what OUT is left as

-- it was not begun
pub left_unbegun : {X F : Type 0} (e : F) (input output : List ℕ) (u : Bool) (size : ℕ) (over : Bool) (h h' : OpenFiles)
    (a c : World)
    → h'.output ≡ None → c ≡ a → LeavesImage {X = X} (Err e) input output u size over h h' a c
left_unbegun e input output u size over h h' a c none same = record {
  synced = tt;
  others = untouched same;
  guarded = λ used refused. same;
  input = λ f there. ap (λ w. w.holds f) same;
  closed = none;
  whole = λ o. part_same input output u size a c same;
  clean = tt;
}

-- a path at which an output was created may be written
pub spared_created : (path input bytes : List ℕ) (h h' h'' : OpenFiles) (a b c u v : World)
    → OpensFile a input bytes h h' → Creates path h' h'' b c → SparesInUse path h u v
spared_created path input bytes h h' h'' a b c u v opened made =
    spared_if_may path h u v (may_behind path input bytes h h' a opened made.allowed)

-- it was written, whatever was printed of it then
pub left_whole : {X F : Type 0} (r : Result X F) (input output bytes : List ℕ) (u : Bool) (size n : ℕ) (x : Written)
    (over : Bool)
    (h h' h'' h''' : OpenFiles) (a b c d : World) → n ≡ size → OpensFile a input bytes h h' → b ≡ a
    → Creates output h' h'' b c → HoldsWritten u n bytes x h''.output c d → SparesRest h''.output c d
    → ClosesOutput true h'' h''' → OnOk r (h'''.syncs ≡ h.syncs + (if h.is_synced then 1 else 0))
    → OnOk r (HasNotFailed h h''') → LeavesImage r input output u size over h h''' a d
left_whole r input output bytes u size n x over h h' h'' h''' a b c d sized opened same made has rest closes synced
    clean =
    record {
      synced = synced;
      others = only_behind _ _ _ _ _ _ _ _ opened same (only_written _ _ _ _ _ _ made rest);
      guarded = spared_created output input bytes h h' h'' a b c a d opened made;
      input = kept_behind _ _ _ _ _ _ _ _ opened same (only_written _ _ _ _ _ _ made rest);
      closed = ap (λ k. k.output) closes.closed;
      whole = λ o. part_whole input output bytes u size n x h h' h'' a b c d sized opened made has;
      clean = clean;
    }

-- ---- why it fails

pub no_blocks : (path bytes : List ℕ) (size long : ℕ) (h h' k k' : OpenFiles) (a b : World) (f : RunFault)
    (told : SparseCommandFault) (Done : Type 0) → OpensFile a path bytes h h' → b ≡ a → long ≡ length bytes
    → RefusedRaw f size long → told ≡ faults.Run f → RefusesRaw path size a b k k' Done told
no_blocks path bytes size long h h' k k' a b f told Done opened same is refused told_is =
    subst (λ e. RefusesRaw path size a b k k' Done e) (sym told_is) (record {
      file = opened.file;
      there = opened.there;
      fails = subst (λ n. RefusedRaw f size n) (is ∙ ap length opened.held) refused;
      untouched = same;
    })

pub refuses : (path : List ℕ) (size : ℕ) (a b : World) (h h' : OpenFiles) (Done : Type 0) (f : SparseCommandFault)
    → IsOutsideSparse (λ cause. HasFailed cause h h') f → RefusesRaw path size a b h h' Done f
refuses path size a b h h' Done (faults.Sparse f) is = absurd is
refuses path size a b h h' Done (faults.Run f) is = absurd is
refuses path size a b h h' Done (faults.Piece f) is = is
refuses path size a b h h' Done (faults.Flash f) is = absurd is
refuses path size a b h h' Done (faults.Verify f) is = absurd is
refuses path size a b h h' Done (faults.OtherBlocks image) is = absurd is
refuses path size a b h h' Done (faults.OtherCut image) is = absurd is
refuses path size a b h h' Done (faults.Host f) is = inl is

-- a call of the disk returned the fault, or it is `Write` and only the line could not be printed
pub refuses_host : (path : List ℕ) (size : ℕ) (a b : World) (h h' : OpenFiles) (Done : Type 0) (f : SparseCommandFault)
    (k : HostFault) → f ≡ faults.Host k → HasFailed (call k) h h' ⊎ ((k ≡ hosts.Write) × Done)
    → RefusesRaw path size a b h h' Done f
refuses_host path size a b h h' Done f k told why =
    subst (λ e. RefusesRaw path size a b h h' Done e) (sym told) why

-- ---- all is done

pub sparsifies : (input output bytes : List ℕ) (u : Bool) (size n : ℕ) (x : Written) (h h' h'' : OpenFiles)
    (a b c d : World)
    (shows : List ℕ → Type 0) → n ≡ size → IsRawBlockSize size → OpensFile a input bytes h h' → b ≡ a
    → Creates output h' h'' b c → HoldsWritten u n bytes x h''.output c d
    → shows (line_text (lines.Sparse x.blocks x.chunks x.bytes) ++ (10 ∷ []))
    → SparsifiesFile input output u size a d shows
sparsifies input output bytes u size n x h h' h'' a b c d shows sized_as good opened same made has shown =
    let so : HoldsWritten u size bytes x h''.output c d = subst (λ k. HoldsWritten u k bytes x h''.output c d)
    sized_as has
    in
    let it : IsWritten u size bytes x (d.holds made.file) × Spares made.file c d
    = subst (λ k. HoldsWritten u size bytes x k.output c d) made.begins so in
    let spared : Spares made.file a c = subst (λ w. Spares made.file w c) same made.spares in
    let one_ : shows (line_text (lines.Sparse (blocks_of_raw u size bytes) x.chunks x.bytes) ++ (10 ∷ []))
    = subst (λ n. shows (line_text (lines.Sparse n x.chunks x.bytes) ++ (10 ∷ []))) it.0.blocks shown in
    let two : shows (line_text (lines.Sparse (blocks_of_raw u size bytes) (chunks_of_raw u size bytes) x.bytes)
    ++ (10 ∷ []))
    = subst (λ n. shows (line_text (lines.Sparse (blocks_of_raw u size bytes) n x.bytes) ++ (10 ∷ [])))
    it.0.chunks one_ in
    let three : shows (line_text (lines.Sparse (blocks_of_raw u size bytes) (chunks_of_raw u size bytes)
    (length (d.holds
    made.file)))
    ++ (10 ∷ []))
    = subst (λ n. shows (line_text (lines.Sparse (blocks_of_raw u size bytes) (chunks_of_raw u size bytes) n)
    ++ (10 ∷ [])))
    it.0.long two in
    record {
      from = opened.file;
      onto = made.file;
      there = opened.there;
      here = it.1.paths output made.file made.there;
      apart = apart h.read h'.read opened.file made.file (ap (λ k. k.read) opened.taken) made.free;
      sized = good;
      holds = it.0.holds ∙ ap (image_of_raw u size) opened.held;
      spares = spares_trans made.file a c d spared it.1;
      shown = subst (λ y. shows (line_text (lines.Sparse (blocks_of_raw u size y) (chunks_of_raw u size y)
          (length (d.holds made.file))) ++ (10 ∷ []))) opened.held three;
    }
