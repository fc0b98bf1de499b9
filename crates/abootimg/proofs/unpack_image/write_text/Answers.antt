use Rattle.std.proofs.Common.{refl}
use Rattle.abootimg.proofs.Unpacks.{cause_of_opening, cause_of_printing, prints_text}
use Rattle.abootimg.proofs.unpack_image.write_text.Goals as goal

pub returns-in-Ok-write_aosp_text-clause-printed : goal.returns-in-Ok-write_aosp_text-clause-printed
returns-in-Ok-write_aosp_text-clause-printed g c = λ t.
    prints_text c.args.image.now _ _ _ _ _ _ (c.in-Ok.ensures.reads.only.content t) c.text_wanted-which.ensures
    (c.in-Ok.ensures.opens t).has (c.in-Ok-write_aosp_text.ensures.written t)

pub returns-in-Err-clause-refused : goal.returns-in-Err-clause-refused
returns-in-Err-clause-refused g c = λ t.
    cause_of_opening c.in-Err.fault _ _ _ _ _ _ c.in-Err.ensures.reads.cause (c.in-Err.ensures.opens t)
