use Rattle.std.proofs.Common.{ℕ, List, length, ap, sym, refl, ◌∙◌, Ok}
use Rattle.abt_io.proofs.Lent.{reads_none, reads_ok, reads_then}
use Rattle.abt_sections.specs.Header.{view_of, places_of}
use Rattle.abt_sections.specs.Open.{beyond}
use Rattle.abt_sections.proofs.Refusals.{reads_on}
use Rattle.abt_sections.proofs.Verdicts.{verdict_is}
use Rattle.abt_sections.proofs.checking.compare.Goals as goal

-- the source isn't as long as the image was
pub returns-then-not-is_as_long : goal.returns-then-not-is_as_long
returns-then-not-is_as_long g c =
    let s = g.S.Source in
    let source = c.args.source.now in
    record {
      found = record {
        reads = record {
          only = reads_none _ s source;
          cause = λ models opened. c.if-not-is_as_long.ensures (g.met.S.Source.sized source models ∙ sym opened.length);
          failed = refl;
        };
        value = λ models. tt;
      };
      offset = tt;
      changed = λ other. (refl, refl);
    }

pub returns-in-Err : goal.returns-in-Err
returns-in-Err g c = record {
  found = record {
    reads = reads_on (reads_none {X = Unit {0}} {E = Unit {0}} (Ok tt) g.S.Source c.args.source.now)
        c.in-Err.ensures.found.reads (λ changed models. absurd (changed models));
    value = λ models. tt;
  };
  offset = tt;
  changed = λ other. absurd (other c.if-not-is_as_long.ensures);
}

pub returns-in-Err-id_holds : goal.returns-in-Err-id_holds
returns-in-Err-id_holds g c =
    let ps = places_of (view_of c.args.image.now.header) in
    let e = c.in-Ok.ensures.found.reads.only in
    record {
      found = record {
        reads = reads_on e c.in-Err-id_holds.ensures.reads (λ changed models opened. changed models
            (ap (λ (l : List ℕ). beyond ps (length l)) (e.content models) ∙ opened.has.there));
        value = λ models. tt;
      };
      offset = tt;
      changed = λ other. absurd (other c.if-not-is_as_long.ensures);
    }

pub returns-in-Err-fragments_fill-clause-found : goal.returns-in-Err-fragments_fill-clause-found
returns-in-Err-fragments_fill-clause-found g c =
    let ps = places_of (view_of c.args.image.now.header) in
    let e = reads_then c.in-Ok.ensures.found.reads.only c.in-Ok-id_holds.ensures.reads.only in
    record {
      reads = reads_on e c.in-Err-fragments_fill.ensures.reads (λ changed models opened. changed models
          (ap (λ (l : List ℕ). beyond ps (length l)) (e.content models) ∙ opened.has.there));
      value = λ models. tt;
    }

pub returns-clause-found : goal.returns-clause-found
returns-clause-found g c = record {
  reads = record {
    only = reads_ok _ (reads_then (reads_then c.in-Ok.ensures.found.reads.only c.in-Ok-id_holds.ensures.reads.only)
        c.in-Ok-fragments_fill.ensures.reads.only);
    cause = tt;
    failed = refl;
  };
  value = λ models.
      let same = c.in-Ok.ensures.found.reads.only.content models in
      let then = c.in-Ok-id_holds.ensures.reads.only.content models in
      let h = view_of c.args.image.now.header in
      let told = c.verdict_of.ensures in
      let padding = c.in-Ok.ensures.found.value models in
      let id = rw same at (c.in-Ok-id_holds.ensures.value models) in
      record {
        padding = told.padding ∙ padding;
        id = rw told.id id;
        offset = told.offset ∙ c.offset_holds.ensures;
        canonical = verdict_is (g.S.Source.content c.args.source.now) h c.verdict_of.result.canonical c.in-Ok.value
            c.in-Ok-id_holds.value c.offset_holds.result c.texts_hold.result c.in-Ok-fragments_fill.value
            told.canonical padding id c.offset_holds.ensures c.texts_hold.ensures
            (rw (then, same) at (c.in-Ok-fragments_fill.ensures.value models));
      };
}
