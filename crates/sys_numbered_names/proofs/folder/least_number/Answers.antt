use Rattle.sys_numbered_names.proofs.Numbering.{has_no_number, has_numbers}
use Rattle.sys_numbered_names.proofs.folder.least_number.Goals as goal

pub returns-in-Err-clause-none : goal.returns-in-Err-clause-none
returns-in-Err-clause-none g c = λ t other.
    has_no_number (λ p. g.S.System.at c.args.system.now p) _ _ c.args.prefix.now c.folder_and_name.ensures
    (c.in-Err.ensures.none t other)

pub least_of-requires : goal.least_of-requires
least_of-requires g c = λ t.
    has_numbers (λ p. g.S.System.at c.args.system.now p) _ _ c.args.prefix.now _ c.folder_and_name.ensures
    (c.in-Ok.ensures.lists t)
