use Rattle.std.proofs.Common.{◌≡◌, ℕ, List, [], ◌*◌, ◌++◌, append_assoc, append-nil, arith, ap, sym, ◌∙◌, subst, length}
use Rattle.std.proofs.Common.{length-append, map, get_or, take}
use Rattle.std.specs.Prelude.{IsTrue, OnOk, slice_index}
use Rattle.abt_sections.specs.Layout.{padded, zeros_behind}
use Rattle.abt_sections.specs.VendorCanon.{table_for}
use Rattle.abt_io.proofs.Lent.{writes_then}
use Rattle.abt_headers.proofs.Places.{enough_pages}
use Rattle.abt_sections.proofs.Causes.{on_ok, on_ok_then}
use Rattle.abt_sections.proofs.Layouts.{last_two}
use Rattle.abt_sections.proofs.MoreExits.{moves_after, writes_alone}
use Rattle.abt_sections.proofs.Growing.{begins_then, begins_stop, begins_is, then_all, still_stands}
use Rattle.abt_sections.proofs.vendor_packing.write_table_and_bootconfig.Goals as goal

-- the table is not written
pub returns-in-Err : goal.returns-in-Err
returns-in-Err g c =
    let s = g.S.Source in
    let e = c.in-Err.ensures in
    let page = c.args.page in
    let t = table_for c.args.fragments.now (map s.size c.args.ramdisks.now) 0 in
    let rest = padded page (s.content c.args.bootconfig.now) ++ [] in
    let fits = enough_pages (get_or c.args.sizes.now 2 0) page c.requires.some in
    let two = last_two page c.args.sizes.now (omega arith) in
    record {
      moves = writes_alone s c.args.bootconfig.now
          (IsTrue s.models → s.size c.args.bootconfig.now ≡ slice_index c.args.sizes.now 3 → ⊥) e.appends.writes;
      lasting = tt;
      written = λ models. tt;
      front = λ models. begins_is _ _ _ _ (sym (append_assoc t (zeros_behind (length t) page) rest))
          (begins_stop _ _ t (zeros_behind (length t) page ++ rest) e.appends.front);
      table = tt;
      bytes = record { most = omega (arith, e.bytes.most, c.requires.table, fits, two); all = tt };
    }

pub returns-in-Err-write_padding-clause-moves : goal.returns-in-Err-write_padding-clause-moves
returns-in-Err-write_padding-clause-moves g c =
    let s = g.S.Source in
    let D = IsTrue s.models → s.size c.args.bootconfig.now ≡ slice_index c.args.sizes.now 3 → ⊥ in
    moves_after {C = D} c.in-Ok.ensures.appends.writes.only
    (writes_alone s c.args.bootconfig.now D c.in-Err-write_padding.ensures.appends.writes) (λ changed. changed)

pub returns-in-Err-write_padding-clause-bytes : goal.returns-in-Err-write_padding-clause-bytes
returns-in-Err-write_padding-clause-bytes g c =
    let two = last_two c.args.page c.args.sizes.now (omega arith) in
    record {
      most = omega
          (arith, c.in-Ok.ensures.bytes.all, c.in-Err-write_padding.ensures.most, c.requires.table, two);
      all = tt;
    }

pub returns-clause-moves : goal.returns-clause-moves
returns-clause-moves g c =
    moves_after (writes_then c.in-Ok.ensures.appends.writes.only c.in-Ok-write_padding.ensures.appends.writes.only)
    c.write_part.ensures.part.moves (λ changed. changed)

pub returns-clause-bytes : goal.returns-clause-bytes
returns-clause-bytes g c =
    let two = last_two c.args.page c.args.sizes.now (omega arith) in
    let e = c.in-Ok.ensures in
    let p = c.in-Ok-write_padding.ensures in
    let b = c.write_part.ensures.part.bytes in
    record {
      most = omega (arith, e.bytes.all, p.all, b.most, c.requires.table, two);
      all = on_ok_then c.write_part.result (λ all. omega (arith, e.bytes.all, p.all, c.requires.table, two, all)) b.all;
    }

pub returns-in-Err-write_padding-clause-front : goal.returns-in-Err-write_padding-clause-front
returns-in-Err-write_padding-clause-front g c = λ models.
    let page = c.args.page in
    let t = table_for c.args.fragments.now (map g.S.Source.size c.args.ramdisks.now) 0 in
    let w0 = g.O.Output.written c.args.output.now in
    let e = c.in-Ok.ensures in
    let long : get_or c.args.sizes.now 2 0 ≡ length t =
    omega (arith, ap length e.appends.written, length-append w0 t, e.bytes.all, c.requires.table) in
    begins_stop _ _ (padded page t) (padded page (g.S.Source.content c.args.bootconfig.now) ++ [])
    (begins_is _ _ _ _ (ap (λ (k : ℕ). t ++ zeros_behind k page) long)
    (begins_then _ _ _ t _ e.appends.written c.in-Err-write_padding.ensures.appends.front
    c.in-Err-write_padding.ensures.appends.writes.only.least))

pub returns-clause-written : goal.returns-clause-written
returns-clause-written g c = λ models.
    let page = c.args.page in
    let t = table_for c.args.fragments.now (map g.S.Source.size c.args.ramdisks.now) 0 in
    let b = padded page (g.S.Source.content c.args.bootconfig.now) in
    let w0 = g.O.Output.written c.args.output.now in
    let e = c.in-Ok.ensures in
    let p = c.in-Ok-write_padding.ensures in
    let long : get_or c.args.sizes.now 2 0 ≡ length t =
    omega (arith, ap length e.appends.written, length-append w0 t, e.bytes.all, c.requires.table) in
    let first : g.O.Output.written c.write_padding.new.output ≡ w0 ++ padded page t =
    then_all _ _ _ t _ e.appends.written p.appends.written ∙ ap (λ (k : ℕ). w0 ++ (t ++ zeros_behind k page)) long in
    let whole : g.O.Output.written c.write_padding.new.output ++ b ≡ w0 ++ (padded page t ++ (b ++ [])) =
    ap (λ (l : List ℕ). l ++ b) first ∙ append_assoc w0 (padded page t) b
    ∙ ap (λ (l : List ℕ). w0 ++ (padded page t ++ l)) (sym (append-nil b)) in
    subst (λ (l : List ℕ). OnOk c.write_part.result (g.O.Output.written c.write_part.new.output ≡ l)) whole
    (c.write_part.ensures.part.written models)

pub returns-clause-front : goal.returns-clause-front
returns-clause-front g c = λ models.
    let page = c.args.page in
    let t = table_for c.args.fragments.now (map g.S.Source.size c.args.ramdisks.now) 0 in
    let b = padded page (g.S.Source.content c.args.bootconfig.now) in
    let w0 = g.O.Output.written c.args.output.now in
    let e = c.in-Ok.ensures in
    let p = c.in-Ok-write_padding.ensures in
    let long : get_or c.args.sizes.now 2 0 ≡ length t =
    omega (arith, ap length e.appends.written, length-append w0 t, e.bytes.all, c.requires.table) in
    let first : g.O.Output.written c.write_padding.new.output ≡ w0 ++ padded page t =
    then_all _ _ _ t _ e.appends.written p.appends.written ∙ ap (λ (k : ℕ). w0 ++ (t ++ zeros_behind k page)) long in
    begins_then _ _ _ (padded page t) (b ++ []) first (begins_is _ _ _ _ (sym (append-nil b))
    (c.write_part.ensures.front models)) c.write_part.ensures.part.moves.writes.least

pub returns-clause-table : goal.returns-clause-table
returns-clause-table g c =
    let page = c.args.page in
    let t = table_for c.args.fragments.now (map g.S.Source.size c.args.ramdisks.now) 0 in
    let w0 = g.O.Output.written c.args.output.now in
    let e = c.in-Ok.ensures in
    let p = c.in-Ok-write_padding.ensures in
    let long : length t ≡ 108 * length c.args.fragments.now =
    omega (arith, ap length e.appends.written, length-append w0 t, e.bytes.all) in
    let whole : g.O.Output.written c.write_padding.new.output ≡ w0 ++ (t ++ zeros_behind (get_or c.args.sizes.now 2 0)
    page) = then_all _ _ _ t _ e.appends.written p.appends.written in
    on_ok c.write_part.result (still_stands w0 t (zeros_behind (get_or c.args.sizes.now 2 0) page) _ _ long
    (subst (λ (l : List ℕ). take (length l) (g.O.Output.written c.write_part.new.output) ≡ l) whole
    c.write_part.ensures.part.bytes.grown))
