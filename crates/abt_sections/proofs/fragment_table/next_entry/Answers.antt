use Rattle.std.proofs.Common.{rules, ap, ◌∙◌}
use Rattle.abt_headers.specs.Entry.{entry_at}
use Rattle.abt_sections.proofs.Entries.{held_entry}
use Rattle.abt_sections.proofs.fragment_table.next_entry.Goals as goal

pub returns-clause-found : goal.returns-clause-found
returns-clause-found g c =
    let e = c.in-Ok.ensures in
    record {
      reads = search rules;
      value = λ models. c.entry_in.ensures ∙ ap entry_at
          (held_entry _ _ c.args.table.now.at _ _ c.args.i e.held.from e.held.to (e.stand models));
    }
