-- The command `repack` from the opening of IN to the end.
use Rattle.std.proofs.Common.{◌≡◌, ◌<◌, ◌+◌, ◌⊎◌, inl, inr, ℕ, List, [], ◌∷◌, ◌++◌, Some, Bool, length, sym, ap}
use Rattle.std.proofs.Common.{◌∙◌, subst, arith}
use Rattle.std.specs.Prelude.{Contains, OnOk, Result, Ok, Err, if◌then◌else◌, unwrap_or}
use Rattle.std.proofs.lemmas.List.Elements.{Contains-append_left, Contains-push}
use Rattle.sys_refusals.specs.Paths.{output_path}
use Rattle.sys_disk.specs.World.{World, OpenFiles, HasFailed, HasNotFailed, KeepsFile, OnlyAt, OpensFile, Spares}
use Rattle.sys_disk.specs.World.{SparesInUse, counting}
use Rattle.sys_disk.specs.Counts.{Cause, Counts, of_reading, reads}
use Rattle.cmd_pack_outputs.proofs.Closes.{no_reading}
use Rattle.sys_disk.specs.World.{untouched, in_output}
use Rattle.std.proofs.Common.{append_assoc}
use Rattle.abt_sections.specs.Header.{Header, image_header_at, view_of}
use Rattle.abt_sections.specs.Open.{IsOpened}
use Rattle.abt_sections.specs.declared.image.Image.{Image}
use Rattle.cmd_common_boot.specs.ImageFaults.{NoMoreFailed, SomeFailed}
use Rattle.cmd_common_boot.specs.declared.fault.BootCommandFault.{BootCommandFault}
use Rattle.cmd_common_boot.specs.declared.pack_command.PackCommand.{PackCommand}
use Rattle.cmd_pack_outputs.specs.Lines.{counted_in_u64, image_line}
use Rattle.cmd_pack_outputs.specs.Magic.{HoldsNone}
use Rattle.cmd_pack.specs.RefusingAgain.{RefusesAgain, RefusesRepack, not_again}
use Rattle.cmd_pack.specs.Repacking.{BeginsWith, HoldsNoPartAgain, IsPackedAgain, IsRepackedOf}
use Rattle.cmd_pack.specs.Repacking.{KeepsGivenAgain}
use Rattle.cmd_pack.specs.Repacking.{KeepsRead, PacksAgain, RepacksFile}
use Rattle.cmd_pack_outputs.specs.Writing.{HoldsNoPartOf, LeavesOut}
use Rattle.cmd_pack.proofs.Again.{again_more}
use Rattle.cmd_pack.proofs.Left.{on_ok_by}

-- ---- what has failed

pub nothing_more : (h h' : OpenFiles) (r r' : ℕ) → HasNotFailed h h' → r' ≡ r → NoMoreFailed h r h' r'
nothing_more h h' r r' clean same = record {
  stays = λ cause.
      let e : h'.counts.failed cause ≡ h.counts.failed cause = clean cause in
      let d : of_reading r' cause ≡ of_reading r cause = ap (λ n. of_reading n cause) same in
      omega (arith, e, d);
}

pub calls_failed : (h h' : OpenFiles) (r r' : ℕ) (cause : Cause) → r' ≡ r → HasFailed cause h h'
    → SomeFailed h r h' r' cause
calls_failed h h' r r' cause same more =
    let rises : h.counts.failed cause < h'.counts.failed cause = more in
    let d : of_reading r' cause ≡ of_reading r cause = ap (λ n. of_reading n cause) same in
    record { rises = omega (arith, rises, d) }

-- ---- what IN begins with

pub begins : (input x : List ℕ) (w : World) (h h' : OpenFiles) (image : Image) → OpensFile w input x h h'
    → IsOpened x image
    → BeginsWith input w x (view_of image.header)
begins input x w h h' image o opened = record {
  file = record { file = o.file; there = o.there; holds = sym o.held };
  has = opened.has;
}

ok_or : {X E : Type 0} → X → Result X E → X
ok_or d (Ok y) = y
ok_or d (Err e) = d

same_ok : {X E : Type 0} (a b : X) (r : Result X E) → r ≡ Ok a → r ≡ Ok b → a ≡ b
unfolding ok_or
same_ok a b r e f = ap (ok_or a) (sym e ∙ f)

-- it begins with one header alone
one_header : (input x y : List ℕ) (w : World) (h k : Header) → BeginsWith input w x h → BeginsWith input w y k → h ≡ k
one_header input x y w h k a b =
    let one : a.file.file ≡ b.file.file = ap (λ o. unwrap_or o 0) (sym a.file.there ∙ b.file.there) in
    let same : x ≡ y = sym a.file.holds ∙ ap w.holds one ∙ b.file.holds in
    same_ok h k (image_header_at x) a.has.header (ap image_header_at same ∙ b.has.header)

-- ---- from its opening to the end

module _ (input : List ℕ) (command : PackCommand) (x : List ℕ) (image : Image) (w w1 w2 w3 : World) (h h1 : OpenFiles)
    (o : OpensFile w input x h h1) (opened : IsOpened x image) (first : w1 ≡ w) (last : w3 ≡ w2) where
  begin : BeginsWith input w x (view_of image.header)
  begin = begins input x w h h1 image o opened

  listed : Contains h1.read o.file
  listed = subst (λ (k : OpenFiles). Contains k.read o.file) (sym o.taken) (Contains-push h.read o.file)

  fewer : (file : ℕ) → ¬ Contains h1.read file → ¬ Contains h.read file
  fewer file free is = free (subst (λ (k : OpenFiles). Contains k.read file) (sym o.taken)
      (Contains-append_left h.read (o.file ∷ []) file is))

  -- IN's file is not the one that this path leads to
  not_input : (file : ℕ) → ¬ Contains h1.read file → w.at input ≡ Some file → ⊥
  not_input file free there =
      let one : o.file ≡ file = ap (λ q. unwrap_or q 0) (sym o.there ∙ there) in
      free (subst (Contains h1.read) one listed)

  only_all : OnlyAt h1.read (output_path command.output.now) w1 w2
      → OnlyAt h.read (output_path command.output.now) w w3
  only_all (untouched same) = untouched (last ∙ same ∙ first)
  only_all (in_output file there free s) = in_output file (ap (λ v. v.at (output_path command.output.now)) last ∙ there)
      (fewer file free) (subst (λ v. Spares file w v) (sym last) (subst (λ v. Spares file v w2) first s))

  guarded_all : SparesInUse (output_path command.output.now) h1 w1 w2
      → SparesInUse (output_path command.output.now) h w w3
  guarded_all spared used refused = last
      ∙ subst (λ (q : OpenFiles). SparesInUse (output_path command.output.now) q w1 w2) o.taken spared used refused
      ∙ first

  input_only : OnlyAt h1.read (output_path command.output.now) w1 w2 → KeepsFile input w w3
  input_only (untouched same) file there = ap (λ v. v.holds file) (last ∙ same ∙ first)
  input_only (in_output onto here free s) file there = ap (λ v. v.holds file) last
      ∙ s.files file (λ one. not_input onto free (there ∙ ap (λ f. Some f) one)) ∙ ap (λ v. v.holds file) first

  given_all : KeepsGivenAgain command (view_of image.header) w1 w2 → KeepsGivenAgain command (view_of image.header) w w3
  given_all kept path given file there = ap (λ v. v.holds file) last
      ∙ kept path given file (ap (λ v. v.at path) first ∙ there) ∙ ap (λ v. v.holds file) first

  pub keeps_all : OnlyAt h1.read (output_path command.output.now) w1 w2 → KeepsGivenAgain command
      (view_of image.header) w1 w2
      → KeepsRead input command w w3
  keeps_all only kept = record {
    input_kept = input_only only;
    given = λ y k other. subst (λ q. KeepsGivenAgain command q w w3)
        (one_header input x y w (view_of image.header) k begin other) (given_all kept);
  }

  packed_first : (y : List ℕ) → IsPackedAgain command x (view_of image.header) w1 y → IsPackedAgain command x
      (view_of image.header) w y
  packed_first y p = subst (λ v. IsPackedAgain command x (view_of image.header) v y) first p

  pub repacks : (shows shows' : List ℕ → Type 0) → ((line : List ℕ) → shows line → shows' line)
      → PacksAgain command x (view_of image.header) h1.read w1 w2 shows → RepacksFile input command w w3 shows'
  repacks shows shows' more p = record {
    own = x;
    header = view_of image.header;
    begins = begin;
    onto = p.onto;
    here = ap (λ v. v.at (output_path command.output.now)) last ∙ p.here;
    apart = λ path is there. elim is [
      | inl one ↦ not_input p.onto p.free (ap w.at (sym one) ∙ there)
      | inr given ↦ p.apart path given (ap (λ v. v.at path) first ∙ there)
    ];
    image = subst (λ v. IsPackedAgain command x (view_of image.header) w (v.holds p.onto)) (sym last)
        (packed_first (w2.holds p.onto) p.image);
    spares = subst (λ v. Spares p.onto w v) (sym last) (subst (λ v. Spares p.onto v w2) first p.spares);
    shown = subst (λ v. shows' (image_line (counted_in_u64 (length (v.holds p.onto))) ++ (10 ∷ []))) (sym last)
        (more (image_line (counted_in_u64 (length (w2.holds p.onto))) ++ (10 ∷ [])) p.shown);
  }

  whole_all : HoldsNoPartOf (output_path command.output.now) (IsPackedAgain command x (view_of image.header) w1)
      w1 w2
      → HoldsNoPartAgain input command w w3
  whole_all whole file there =
      elim (whole file (sym (ap (λ v. v.at (output_path command.output.now)) last) ∙ there)) [
        | inl kept ↦ inl (ap (λ v. v.holds file) last ∙ kept ∙ ap (λ v. v.holds file) first)
        | inr more ↦ inr (subst (λ v. HoldsNone (v.holds file) ⊎ IsRepackedOf input command w (v.holds file)) (sym last)
            (elim more [
              | inl none ↦ inl none
              | inr all ↦ inr (record {
                own = x;
                header = view_of image.header;
                begins = begin;
                image = packed_first
                    (w2.holds file) all;
              })
            ]))
      ]

  pub left_all : {X Y F : Type 0} (r : Result X F) (q : Result Y F) (over : Bool) (h2 h3 : OpenFiles) (n : Counts)
      → (OnOk q (h3.syncs ≡ h1.syncs + (if h1.is_synced then 1 else 0))
      → OnOk r (h3.syncs ≡ h1.syncs + (if h1.is_synced then 1 else 0)))
      → h3 ≡ counting n h2 → OnOk r (HasNotFailed h h3)
      → LeavesOut q (output_path command.output.now) over (IsPackedAgain command x (view_of image.header) w1) h1 h2 w1
      w2
      → LeavesOut r (output_path command.output.now) over (IsRepackedOf input command w) h h3 w w3
  left_all r q over h2 h3 n told let_go clean left = record {
    others = only_all left.others;
    guarded = guarded_all left.guarded;
    closed = ap (λ (k : OpenFiles). k.output) let_go ∙ left.closed;
    whole = λ o. whole_all (left.whole o);
    clean = clean;
    synced = on_ok_by r (λ e. e ∙ ap (λ (k : OpenFiles). k.syncs + (if k.is_synced then 1 else 0)) o.taken)
        (told (on_ok_by q (λ e. ap (λ (k : OpenFiles). k.syncs) let_go ∙ e) left.synced));
  }

  pub refuses_all : (P : Cause → Type 0) (Done Done' : Type 0) (fault : BootCommandFault) (h3 : OpenFiles)
      → RefusesAgain command x (view_of image.header) w1 w2 P Done fault
      → ((cause : Cause) → P cause → HasFailed cause h h3) → (Done → Done')
      → RefusesRepack input command w w3 h h3 Done' fault
  refuses_all P Done Done' fault h3 why more done = not_again x (view_of image.header) begin
      (subst (λ v. RefusesAgain command x (view_of image.header) w v (λ cause. HasFailed cause h h3) Done' fault)
      (sym last)
      (subst (λ v. RefusesAgain command x (view_of image.header) v w2 (λ cause. HasFailed cause h h3) Done' fault) first
      (again_more command x (view_of image.header) w1 w2 P (λ cause. HasFailed cause h h3) Done Done' fault why more
      done)))

-- all that has failed is counted where the image is closed
pub failed_all : (path bytes : List ℕ) (w : World) (h h1 h2 h3 : OpenFiles) (g r r' : ℕ) (cause : Cause)
    → OpensFile w path bytes h h1 → SomeFailed h1 r h2 r' cause → h3 ≡ counting (reads g r') h2 → HasFailed cause h h3
failed_all path bytes w h h1 h2 h3 g r r' cause o more let_go =
    let e : h1.counts.failed cause ≡ h.counts.failed cause = ap (λ k. k.counts.failed cause) o.taken in
    let d : h3.counts.failed cause ≡ h2.counts.failed cause + of_reading r' cause
    = ap (λ k. k.counts.failed cause) let_go in
    let m = more.rises in
    omega (arith, e, d, m)

pub clean_all : (path bytes : List ℕ) (w : World) (h h1 h2 h3 : OpenFiles) (g r r' : ℕ) → OpensFile w path bytes h h1
    → r ≡ 0 → NoMoreFailed h1 r h2 r' → h3 ≡ counting (reads g r') h2 → HasNotFailed h h3
clean_all path bytes w h h1 h2 h3 g r r' o none same let_go = λ cause.
    let e : h1.counts.failed cause ≡ h.counts.failed cause = ap (λ k. k.counts.failed cause) o.taken in
    let d : h3.counts.failed cause ≡ h2.counts.failed cause + of_reading r' cause
    = ap (λ k. k.counts.failed cause) let_go in
    let z : of_reading r cause ≡ 0 = ap (λ n. of_reading n cause) none ∙ no_reading cause in
    let m = same.stays cause in
    omega (arith, e, d, m, z)

-- nothing was changed
pub keeps_read : (input : List ℕ) (command : PackCommand) (w w' : World) → w' ≡ w → KeepsRead input command w w'
keeps_read input command w w' same = record {
  input_kept = λ file there. ap (λ v. v.holds file) same;
  given = λ x h b path given file there. ap (λ v. v.holds file) same;
}

-- ---- a note after the line

pub grown_thrice : (z a b c d m n o : List ℕ) → a ≡ z → b ≡ a ++ m → c ≡ b ++ n → d ≡ c ++ o → d ≡ z ++ (m ++ (n ++ o))
grown_thrice z a b c d m n o start first next last = last ∙ ap (λ x. x ++ o) (next ∙ ap (λ x. x ++ n) (first
    ∙ ap (λ x. x ++ m) start)) ∙ append_assoc (z ++ m) n o ∙ append_assoc z m (n ++ o)
