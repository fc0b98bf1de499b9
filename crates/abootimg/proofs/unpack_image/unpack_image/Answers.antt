use Rattle.abootimg.proofs.Unpacks.{ends_at_last, ends_before, ends_behind, ends_within, step_then}
use Rattle.abootimg.proofs.unpack_image.unpack_image.Goals as goal

-- the image is refused
pub returns-then-looked-ne-DONE : goal.returns-then-looked-ne-DONE
returns-then-looked-ne-DONE g c = λ t.
    ends_before c.args.image _ _ _ _ _ (c.look_at-looked.ensures t) c.if-looked-ne-DONE.true

-- or its folder
pub returns-then-made-ne-DONE : goal.returns-then-made-ne-DONE
returns-then-made-ne-DONE g c = λ t.
    ends_before c.args.image _ _ _ _ _ (step_then _ _ _ _ _ _ _ _ (c.look_at-looked.ensures t)
    c.if-looked-ne-DONE.false (c.make_folder-made.ensures.stays t)) c.if-made-ne-DONE.true

-- or its parts
pub returns-then-written-ne-DONE : goal.returns-then-written-ne-DONE
returns-then-written-ne-DONE g c = λ t.
    ends_within c.args.image _ _ _ _ _ _ _ _ (step_then _ _ _ _ _ _ _ _ (c.look_at-looked.ensures t)
    c.if-looked-ne-DONE.false (c.make_folder-made.ensures.stays t)) (c.write_parts-written.ensures.parts t)
    c.if-written-ne-DONE.true

-- or a link
pub returns-then-linked-ne-DONE : goal.returns-then-linked-ne-DONE
returns-then-linked-ne-DONE g c = λ t.
    ends_behind c.args.image _ _ _ _ _ _ _ _ _ _ _ _ (step_then _ _ _ _ _ _ _ _ (c.look_at-looked.ensures t)
    c.if-looked-ne-DONE.false (c.make_folder-made.ensures.stays t)) (c.write_parts-written.ensures.parts t)
    c.if-written-ne-DONE.false (c.make_links-linked.ensures.stays t)
    (c.make_links-linked.ensures.refused t c.if-linked-ne-DONE.true) c.if-linked-ne-DONE.true

pub returns : goal.returns
returns g c = λ t.
    ends_at_last c.args.image _ _ _ _ _ _ _ _ _ _ _ _ _ _ (step_then _ _ _ _ _ _ _ _ (c.look_at-looked.ensures t)
    c.if-looked-ne-DONE.false (c.make_folder-made.ensures.stays t)) c.if-made-ne-DONE.false
    (c.write_parts-written.ensures.parts t) c.if-written-ne-DONE.false
    (c.write_parts-written.ensures.quiet c.if-written-ne-DONE.false)
    (c.write_parts-written.ensures.clean t c.if-written-ne-DONE.false) (c.make_links-linked.ensures.stays t)
    c.if-linked-ne-DONE.false (c.print_text.ensures t)
