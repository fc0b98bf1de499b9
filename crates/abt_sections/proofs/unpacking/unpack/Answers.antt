use Rattle.std.proofs.Common.{◌≡◌, ◌∙◌, length, Ok, sym, refl, arith}
use Rattle.std.specs.Prelude.{slice_index_or}
use Rattle.std.proofs.lemmas.List.{get_or_default}
use Rattle.abt_headers.specs.declared.sections.SectionPlace.{SectionPlace}
use Rattle.abt_sections.proofs.PackExits.{begins_none}
use Rattle.abt_sections.proofs.unpacking.unpack.Given.{Over}
use Rattle.abt_sections.proofs.unpacking.unpack.Goals.{After-copy_part}
use Rattle.abt_io.proofs.Lent.{reads_none, writes_none}
use Rattle.abt_sections.specs.Header.{view_of, places_of}
use Rattle.abt_sections.proofs.Refusals.{moves_on}
use Rattle.abt_sections.proofs.Tables.{place_there}
use Rattle.abt_sections.proofs.unpacking.unpack.Goals as goal

pub returns-clause-moves : goal.returns-clause-moves
returns-clause-moves g c =
    let x = g.S.Source.content c.args.source.now in
    let ps = places_of (view_of c.args.image.now.header) in
    let before = reads_none {X = Unit {0}} {E = Unit {0}} (Ok tt) g.S.Source c.args.source.now in
    moves_on before c.copy_part.ensures.moves (λ changed models opened. changed models
    (λ some. place_there ps (length x) c.args.i c.section-place.result opened.has.there c.requires
    c.section-place.ensures.value some))

-- the place that is asked for is the section's
place_is : (g : Over) (c : After-copy_part g) (p : SectionPlace)
    → (let ps = places_of (view_of c.args.image.now.header) in p ≡ slice_index_or ps c.args.i p)
    → p ≡ c.section-place.result
place_is g c p is =
    let ps = places_of (view_of c.args.image.now.header) in
    is ∙ get_or_default ps c.args.i p c.section-place.result c.requires ∙ sym c.section-place.ensures.value

pub returns-clause-written : goal.returns-clause-written
returns-clause-written g c = λ p is models. rw (place_is g c p is) (c.copy_part.ensures.written models)

pub returns-clause-front : goal.returns-clause-front
returns-clause-front g c = λ p is models. rw (place_is g c p is) (c.copy_part.ensures.front models)

pub returns-clause-bytes : goal.returns-clause-bytes
returns-clause-bytes g c = λ p is. rw (place_is g c p is) c.copy_part.ensures.bytes

pub returns-clause-changed : goal.returns-clause-changed
returns-clause-changed g c = λ other. absurd (other c.if-not-is_as_long.ensures)

-- the source isn't as long as the image was
pub returns-then-not-is_as_long : goal.returns-then-not-is_as_long
returns-then-not-is_as_long g c =
    let s = g.S.Source in
    let source = c.args.source.now in
    record {
      moves = record {
        reads = reads_none _ s source;
        writes = writes_none _ g.O.Output c.args.output.now;
        cause = λ models opened. c.if-not-is_as_long.ensures (g.met.S.Source.sized source models ∙ sym opened.length);
      };
      written = λ p is models. tt;
      front = λ p is models. begins_none _ _;
      bytes = λ p is. record { most = omega arith; all = tt };
      changed = λ other. (refl, refl, refl);
    }
