use Rattle.std.proofs.Common.{subst, arith, inl, inr, ◌≡◌, ◌⊎◌, ◌<◌, ◌≤◌, ◌+◌, ◌∙◌, ℕ, ap, sym}
use Rattle.sys_refusals.specs.declared.refusal.HostFault.TheVariants as hosts
use Rattle.sys_disk.specs.Counts.{call, of_reading, reads}
use Rattle.sys_disk.specs.World.{OpenFiles, HasNotFailed, counting}
use Rattle.cmd_common_sparse.specs.PieceNames.{naming_of}
use Rattle.cmd_cut.specs.Cutting.{MayWritePiece, NoneFailsBeside, ShowsCount, untold}
use Rattle.cmd_cut.proofs.Counted.{none_read}
use Rattle.cmd_cut.proofs.Wholes.{cuts_between, counting_more, left_between, left_failed, stops_between, stops_host}
use Rattle.cmd_cut.specs.Leaving.{looked, unlooked}
use Rattle.cmd_cut.proofs.Leavings.{no_part_between, no_part_same}
use Rattle.sys_refusals.proofs.Blames.{reads_of_input}
use Rattle.cmd_cut.proofs.Told.{host_output, reads_host, told_between}
use Rattle.cmd_cut.proofs.cut_loop.cut_pieces.Goals as goal

-- counts that rose after others have risen since they began
later : (a b c p q r : ℕ) (W M : Type 0) → a ≤ b → p ≡ q → (W × (b < c)) ⊎ (M × (q < r))
    → (W × (a < c)) ⊎ (M × (p < r))
later a b c p q r W M first same (inl why) = inl (why.0, omega (arith, first, why.1))
later a b c p q r W M first same (inr why) = inr (why.0, omega (arith, same, why.1))

-- nothing has failed, once what was read is closed
unfailed : (g r r' : ℕ) (h h1 h2 h3 : OpenFiles) → h1 ≡ h → NoneFailsBeside r r' h1 h2 → r ≡ 0
    → h3 ≡ counting (reads g r') h2 → HasNotFailed h h3
unfailed g r r' h h1 h2 h3 held clean none closed cause =
    let first : h1.counts.failed cause ≡ h.counts.failed cause = ap (λ k. k.counts.failed cause) held in
    let last : h3.counts.failed cause ≡ h2.counts.failed cause + of_reading r' cause
    = ap (λ k. k.counts.failed cause) closed in
    let still = clean cause in
    let unread = none_read r none cause in
    omega (arith, first, last, still, unread)

pub returns-in-Err-clause-refused : goal.returns-in-Err-clause-refused
returns-in-Err-clause-refused g c = λ t.
    stops_host _ _ c.in-Err.refusal.fault (naming_of c.args.names) _ _ _ _ _ (c.requires.fresh t).one
    (c.refuse_image_as_piece.ensures.keeps t).fails (c.refuse_image_as_piece.ensures.keeps t).world c.into.ensures
    (c.in-Err.ensures.refused t)

pub returns-in-Err-clause-leaves : goal.returns-in-Err-clause-leaves
returns-in-Err-clause-leaves g c = λ t. record {
  left = left_failed _ _ _ _ _ (c.requires.fresh t).one (c.refuse_image_as_piece.ensures.keeps t).fails
      (c.refuse_image_as_piece.ensures.keeps t).world;
  clean = tt;
}

pub returns-in-Err-answer-clause-leaves : goal.returns-in-Err-answer-clause-leaves
returns-in-Err-answer-clause-leaves g c = λ t. record {
  left = left_between (MayWritePiece c.args.names.prefix.now) _ _ _ _ _ _ _ _ _ (c.in-Ok.ensures.held t)
      (c.refuse_image_as_piece.ensures.keeps t).world (c.write_pieces-source.ensures.left t)
      (c.let_go_source.ensures.held t) (c.let_go_source.ensures.world t);
  clean = tt;
}

pub returns-in-Ok-tell_all-clause-leaves : goal.returns-in-Ok-tell_all-clause-leaves
returns-in-Ok-tell_all-clause-leaves g c = λ t. record {
  left = left_between (MayWritePiece c.args.names.prefix.now) _ _ _ _ _ _ _ _ _ (c.in-Ok.ensures.held t)
      (c.refuse_image_as_piece.ensures.keeps t).world (c.write_pieces-source.ensures.left t)
      (c.in-Ok-tell_all.ensures.held t ∙ c.let_go_source.ensures.held t)
      ((c.tell_all.ensures.keeps t).world ∙ c.let_go_source.ensures.world t);
  clean = λ cause. ap (λ k. k.counts.failed cause) (c.in-Ok-tell_all.ensures.held t)
      ∙ unfailed _ _ _ _ _ _ _ (c.in-Ok.ensures.held t)
      (rw c.in-Ok-answer.is at (c.write_pieces-source.ensures.clean t)) (c.requires.fresh t).clean
      (c.let_go_source.ensures.held t) cause;
}

pub returns-in-Err-tell_all-clause-leaves : goal.returns-in-Err-tell_all-clause-leaves
returns-in-Err-tell_all-clause-leaves g c = λ t. record {
  left = left_between (MayWritePiece c.args.names.prefix.now) _ _ _ _ _ _ _ _ _ (c.in-Ok.ensures.held t)
      (c.refuse_image_as_piece.ensures.keeps t).world (c.write_pieces-source.ensures.left t)
      (counting_more _ _ _ _ _ (c.let_go_source.ensures.held t) (c.tell_all.ensures.keeps t).fails.same)
      ((c.tell_all.ensures.keeps t).world ∙ c.let_go_source.ensures.world t);
  clean = tt;
}

pub returns-in-Err-answer-clause-refused : goal.returns-in-Err-answer-clause-refused
returns-in-Err-answer-clause-refused g c = λ t.
    stops_between _ c.in-Err-answer.refusal.fault (naming_of c.args.names) _ _ _ _ _ _ _ _ _ _ _ _
    (c.in-Ok.ensures.held t)
    (c.refuse_image_as_piece.ensures.keeps t).world (c.requires.fresh t).clean
    (rw c.in-Err-answer.is at (c.write_pieces-source.ensures.refused t)) (c.let_go_source.ensures.held t)
    (c.let_go_source.ensures.world t)

pub returns-in-Ok-tell_all-clause-done : goal.returns-in-Ok-tell_all-clause-done
returns-in-Ok-tell_all-clause-done g c = λ t. record {
  count = c.in-Ok-answer.files.count;
  all = rw c.in-Ok-answer.is at (c.write_pieces-source.ensures.all t);
  cuts = (cuts_between (naming_of c.args.names) _ c.in-Ok-answer.files.count c.in-Ok-answer.files.count _ _ _ _ _ _ _
      _ _ (c.in-Ok.ensures.held t) (c.refuse_image_as_piece.ensures.keeps t).world
      (rw c.in-Ok-answer.is at (c.write_pieces-source.ensures.done t))
      (c.in-Ok-tell_all.ensures.held t ∙ c.let_go_source.ensures.held t)
      ((c.tell_all.ensures.keeps t).world ∙ c.let_go_source.ensures.world t));
  shown = record {
    count = c.in-Ok-answer.files.count;
    all = rw c.in-Ok-answer.is at (c.write_pieces-source.ensures.all t);
    between = c.write_pieces-source.new.report;
    pieces_told = rw c.in-Ok-answer.is at (c.write_pieces-source.ensures.told t);
    count_told = subst (λ w. ShowsCount (naming_of c.args.names) c.in-Ok-answer.files.count w
        c.write_pieces-source.new.report c.tell_all.new.report) (sym (c.tell_all.ensures.keeps t).world)
        (subst (λ k. ShowsCount (naming_of k) c.in-Ok-answer.files.count
        (g.D.Disk.world c.let_go_source.new.self) c.write_pieces-source.new.report c.tell_all.new.report)
        (rw c.in-Ok-answer.is at c.write_pieces-source.ensures.named) (c.in-Ok-tell_all.ensures.shown t));
  };
}

pub returns-in-Err-tell_all-clause-refused : goal.returns-in-Err-tell_all-clause-refused
returns-in-Err-tell_all-clause-refused g c = λ t.
    untold c.in-Err-tell_all.refusal.fault c.into-in-Err-tell_all.ensures
    (later _ _ _ _ _ _ _ _ c.write_pieces-source.ensures.rises (sym (unfailed _ _ _ _ _ _ _ (c.in-Ok.ensures.held t)
    (rw c.in-Ok-answer.is at (c.write_pieces-source.ensures.clean t)) (c.requires.fresh t).clean
    (c.let_go_source.ensures.held t) (call hosts.Memory))) (c.in-Err-tell_all.ensures.refused t))
    c.in-Ok-answer.files.count (rw c.in-Ok-answer.is at c.write_pieces-source.ensures.some)
    (cuts_between (naming_of c.args.names) _ c.in-Ok-answer.files.count c.in-Ok-answer.files.count _ _ _ _ _ _ _ _ _
    (c.in-Ok.ensures.held t)
    (c.refuse_image_as_piece.ensures.keeps t).world (rw c.in-Ok-answer.is at (c.write_pieces-source.ensures.done t))
    (counting_more _ _ _ _ _ (c.let_go_source.ensures.held t) (c.tell_all.ensures.keeps t).fails.same)
    ((c.tell_all.ensures.keeps t).world ∙ c.let_go_source.ensures.world t))

-- no part of a piece is left, and the names were looked at

pub returns-in-Err-clause-spares : goal.returns-in-Err-clause-spares
returns-in-Err-clause-spares g c = λ t.
    let same = (c.refuse_image_as_piece.ensures.keeps t).world in
    (unlooked same, no_part_same g.D.Disk.is_over _ _ _ _ same)

pub returns-in-Err-answer-clause-spares : goal.returns-in-Err-answer-clause-spares
returns-in-Err-answer-clause-spares g c = λ t. (
  looked (c.in-Ok.ensures.free t) (c.in-Ok.ensures.named t),
  no_part_between g.D.Disk.is_over _ _ _ _ _ _ (c.refuse_image_as_piece.ensures.keeps t).world
      (c.let_go_source.ensures.world t) (c.write_pieces-source.ensures.whole t),
)

pub returns-in-Ok-tell_all-clause-spares : goal.returns-in-Ok-tell_all-clause-spares
returns-in-Ok-tell_all-clause-spares g c = λ t. (
  looked (c.in-Ok.ensures.free t) (c.in-Ok.ensures.named t),
  no_part_between g.D.Disk.is_over _ _ _ _ _ _ (c.refuse_image_as_piece.ensures.keeps t).world
      ((c.tell_all.ensures.keeps t).world ∙ c.let_go_source.ensures.world t) (c.write_pieces-source.ensures.whole t),
)

pub returns-in-Err-tell_all-clause-spares : goal.returns-in-Err-tell_all-clause-spares
returns-in-Err-tell_all-clause-spares g c = λ t. (
  looked (c.in-Ok.ensures.free t) (c.in-Ok.ensures.named t),
  no_part_between g.D.Disk.is_over _ _ _ _ _ _ (c.refuse_image_as_piece.ensures.keeps t).world
      ((c.tell_all.ensures.keeps t).world ∙ c.let_go_source.ensures.world t) (c.write_pieces-source.ensures.whole t),
)

-- the file that a refusal is told of

pub returns-in-Err-clause-told_of : goal.returns-in-Err-clause-told_of
returns-in-Err-clause-told_of g c = reads_host _ c.in-Err.refusal.fault _ _ c.into.ensures

pub returns-in-Err-clause-told_of_piece : goal.returns-in-Err-clause-told_of_piece
returns-in-Err-clause-told_of_piece g c = λ t on.
    absurd (host_output _ c.in-Err.refusal.fault c.into.ensures on)

pub returns-in-Err-answer-clause-told_of : goal.returns-in-Err-answer-clause-told_of
returns-in-Err-answer-clause-told_of g c =
    reads_of_input _ _ _ _ c.reading-sides.ensures.place
    (rw c.in-Err-answer.is at c.write_pieces-source.ensures.told_of)

pub returns-in-Err-answer-clause-told_of_piece : goal.returns-in-Err-answer-clause-told_of_piece
returns-in-Err-answer-clause-told_of_piece g c = λ t on.
    told_between (naming_of c.args.names) _ _ _ _ _ _ _ _ _ _ _ (c.in-Ok.ensures.held t)
    (c.refuse_image_as_piece.ensures.keeps t).world (c.let_go_source.ensures.held t) (c.let_go_source.ensures.world t)
    ((rw c.in-Err-answer.is at (c.write_pieces-source.ensures.told_of_piece t)) on)

pub returns-in-Err-tell_all-clause-told_of : goal.returns-in-Err-tell_all-clause-told_of
returns-in-Err-tell_all-clause-told_of g c =
    reads_host _ c.in-Err-tell_all.refusal.fault _ _ c.into-in-Err-tell_all.ensures

pub returns-in-Err-tell_all-clause-told_of_piece : goal.returns-in-Err-tell_all-clause-told_of_piece
returns-in-Err-tell_all-clause-told_of_piece g c = λ t on.
    absurd (host_output _ c.in-Err-tell_all.refusal.fault c.into-in-Err-tell_all.ensures on)
