use Rattle.std.proofs.Common.{◌≡◌, ℕ, List, [], ap, ◌∙◌, rules}
use Rattle.sys_text.specs.Shown.{text_in}
use Rattle.sys_text.specs.declared.text_output.Text.{Text}
use Rattle.cmd_common_listing.proofs.Listed.{reads_rise, refused_written}
use Rattle.sys_text.proofs.Printing.{front_begins}
use Rattle.cmd_common_listing.proofs.listing.report_list.Goals as goal

-- when lines are sent changes neither what is held nor what was written

still_empty : {O : Type 0} (s t : Text O) → t ≡ record s { enough = t.enough } → text_in s.held.bytes s.held.used ≡ []
    → text_in t.held.bytes t.held.used ≡ []
still_empty s t same none = ap (λ (x : Text _). text_in x.held.bytes x.held.used) same ∙ none

still_written : {O : Type 0} (written : O → List ℕ) (old : List ℕ) (s t : Text O) → t ≡ record s { enough = t.enough }
    → written s.output.now ≡ old → written t.output.now ≡ old
still_written written old s t same is = ap (λ (x : Text _). written x.output.now) same ∙ is

pub returns-in-Ok-clause-begun : goal.returns-in-Ok-clause-begun
returns-in-Ok-clause-begun g c = λ models.
    front_begins g.O.Output.written g.O.Output.write_faults _ _ _ _ _ _ (c.lines-listed.ensures.begun models)
    c.finish.ensures.prints
    (still_empty c.new-text.result _ c.send_each_line_if.ensures c.new-text.ensures.nothing_held)
    (still_written g.O.Output.written _ c.new-text.result _ c.send_each_line_if.ensures c.new-text.ensures.written)
    (search rules)

pub returns-in-Err-clause-begun : goal.returns-in-Err-clause-begun
returns-in-Err-clause-begun g c = λ models.
    front_begins g.O.Output.written g.O.Output.write_faults _ _ _ _ _ _ (c.lines-listed.ensures.begun models)
    c.finish.ensures.prints
    (still_empty c.new-text.result _ c.send_each_line_if.ensures c.new-text.ensures.nothing_held)
    (still_written g.O.Output.written _ c.new-text.result _ c.send_each_line_if.ensures c.new-text.ensures.written)
    (search rules)

pub returns-in-Ok-clause-refused : goal.returns-in-Ok-clause-refused
returns-in-Ok-clause-refused g c = λ models.
    refused_written g.O.Output.written g.O.Output.write_faults c.lines-listed.result _ _ _ _ _ _
    (c.lines-listed.ensures.refused models)
    c.finish.ensures.prints (search rules) c.finish.ensures.emptied
    (still_empty c.new-text.result _ c.send_each_line_if.ensures c.new-text.ensures.nothing_held)
    (still_written g.O.Output.written _ c.new-text.result _ c.send_each_line_if.ensures c.new-text.ensures.written)
    (search rules)

pub returns-in-Err-clause-reads : goal.returns-in-Err-clause-reads
returns-in-Err-clause-reads g c = reads_rise c.lines-listed.result _ _ c.lines-listed.ensures.reads
