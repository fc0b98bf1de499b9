use Rattle.std.proofs.Common.{rules, ℕ, length, ◌+◌, ◌*◌, ◌++◌, ◌<◌, cond, arith, ◌≡◌, ◌≤◌, ap, sym, ◌∙◌}
use Rattle.std.proofs.Common.{length-append, true}
use Rattle.abt_sparse.specs.Reading.{number_at, counted, data_len}
use Rattle.abt_sparse.specs.View.{view}
use Rattle.abt_chunks.specs.Ahead.{left_of}
use Rattle.abt_chunks.specs.Listing.{listing_from}
use Rattle.abt_chunks.proofs.Onward.{spent, bad_length, bad_room, past_head, GoodHead, left_new, left_spent, data_parts}
use Rattle.abt_chunks.proofs.Onward.{bad_length_at, bad_room_at}
use Rattle.abt_chunks.proofs.Listed.{upcoming_body, bad_listing, ended, chunk_begun}
use Rattle.abt_chunks.proofs.walk.Walk.take_known.Goals as goal

pub returns-then-from-length : goal.returns-then-from-length
returns-then-from-length c =
    let s = c.args.self.now in let h = c.requires.here in let got = c.args.got.now in let k = c.args.kind in
    let same : c.from-2.result + c.data_length-length.result
    ≡ s.header.chunk_hdr_sz + data_len s.header.blk_sz k (number_at 4 4 got) =
    ap (λ (n : ℕ). n + c.data_length-length.result) c.from-2.ensures
    ∙ ap (λ (n : ℕ). s.header.chunk_hdr_sz + n)
    (c.data_length-length.ensures.value ∙ ap (λ (n : ℕ). data_len s.header.blk_sz k n) c.u32_at-blocks.ensures) in
    let wrong = λ (q : number_at 8 4 got ≡ s.header.chunk_hdr_sz + data_len s.header.blk_sz k (number_at 4 4 got)).
    c.if-from-length.true (c.from.ensures ∙ c.u32_at-total.ensures ∙ q ∙ sym same) in
    record {
      head = record {
        read = search rules;
        told = record {
          says = λ t e. let size = s.position + length (got ++ t) in
              rw (c.fail.ensures.part, h.0, h.1)
              (spent s.kind s.due (view s.header) s.index s.have s.raw s.words s.word size (got ++ t) h.2
              ∙ bad_length (view s.header) size s.index s.have got t k h.3 c.requires.whole c.requires.known wrong);
          lists = λ t e. let size = s.position + length (got ++ t) in
              rw c.fail.ensures.part (bad_listing s (got ++ t) _ _ h.0 (ended s h.1 h.2) h.3
              (bad_length_at (view s.header) size s.index s.have got t k h.3 c.requires.whole c.requires.known wrong));
          short = search rules;
        };
        turn = search rules;
      };
    }

pub returns-then-from : goal.returns-then-from
returns-then-from c =
    let s = c.args.self.now in let h = c.requires.here in let got = c.args.got.now in let k = c.args.kind in
    let same : c.from-2.result + c.data_length-length.result
    ≡ s.header.chunk_hdr_sz + data_len s.header.blk_sz k (number_at 4 4 got) =
    ap (λ (n : ℕ). n + c.data_length-length.result) c.from-2.ensures
    ∙ ap (λ (n : ℕ). s.header.chunk_hdr_sz + n)
    (c.data_length-length.ensures.value ∙ ap (λ (n : ℕ). data_len s.header.blk_sz k n) c.u32_at-blocks.ensures) in
    let right : number_at 8 4 got ≡ s.header.chunk_hdr_sz + data_len s.header.blk_sz k (number_at 4 4 got) =
    sym c.u32_at-total.ensures ∙ sym c.from.ensures ∙ c.if-from-length.false ∙ same in
    let cnt : c.counted_blocks-counts.result ≡ counted k (number_at 4 4 got) =
    c.counted_blocks-counts.ensures ∙ ap (λ (n : ℕ). counted k n) c.u32_at-blocks.ensures in
    let many : s.header.total_blks < s.have + counted k (number_at 4 4 got) = omega
    (arith, cnt, c.if-from.true, c.from-3.ensures, c.from-4.ensures, c.from-5.ensures) in
    record {
      head = record {
        read = search rules;
        told = record {
          says = λ t e. let size = s.position + length (got ++ t) in
              rw (c.fail-then-from.ensures.part, h.0, h.1)
              (spent s.kind s.due (view s.header) s.index s.have s.raw s.words s.word size (got ++ t) h.2
              ∙ bad_room (view s.header) size s.index s.have got t k h.3 c.requires.whole c.requires.known right many);
          lists = λ t e. let size = s.position + length (got ++ t) in
              rw c.fail-then-from.ensures.part (bad_listing s (got ++ t) _ _ h.0 (ended s h.1 h.2) h.3
              (bad_room_at (view s.header) size s.index s.have got t k h.3 c.requires.whole c.requires.known right
              many));
          short = search rules;
        };
        turn = search rules;
      };
    }

pub returns : goal.returns
returns c =
    let s = c.args.self.now in let h = c.requires.here in let got = c.args.got.now in let k = c.args.kind in
    let n = c.u32_at-blocks.result in
    let total = c.u32_at-total.result in
    let room : s.have + counted k n ≤ s.header.total_blks = omega
    (arith, c.counted_blocks-counts.ensures, c.if-from.false, c.from-3.ensures, c.from-4.ensures, c.from-5.ensures) in
    let good : GoodHead (view s.header) s.have got k n total = record {
      long = c.requires.whole;
      kind_is = c.requires.known;
      blocks_is = sym c.u32_at-blocks.ensures;
      total_is = sym c.u32_at-total.ensures;
      total_right = sym c.from.ensures ∙ c.if-from-length.false
          ∙ ap (λ (n : ℕ). n + c.data_length-length.result) c.from-2.ensures
          ∙ ap (λ (n : ℕ). s.header.chunk_hdr_sz + n) c.data_length-length.ensures.value;
      room = room;
    } in
    let left : left_of k c.raw_bytes.result c.laid_words.result ≡ counted k n * s.header.blk_sz = rw
    (c.raw_bytes.ensures, c.laid_words.ensures) (left_new k n s.header.blk_sz s.header.words) in
    let more : (s.have + c.counted_blocks-counts.result) * s.header.blk_sz
    ≡ s.have * s.header.blk_sz + counted k n * s.header.blk_sz =
    ap (λ (j : ℕ). (s.have + j) * s.header.blk_sz) c.counted_blocks-counts.ensures ∙ omega arith in
    let none : left_of s.kind s.raw s.words ≡ 0 = left_spent s.kind s.due s.raw s.words h.2 in
    record {
      head = record {
        read = search rules;
        told = record {
          says = λ t e.
              let sz : s.position + length (got ++ t) ≡ s.position + 12 + length t = omega
              (arith, length-append got t, c.requires.whole) in
              let size = s.position + 12 + length t in
              rw (
                h.0,
                h.1,
                sz,
                c.has_word.ensures,
                c.counted_blocks-counts.ensures,
                c.from-6.ensures,
                c.raw_bytes.ensures,
                c.laid_words.ensures,
              )
              (spent s.kind s.due (view s.header) s.index s.have s.raw s.words s.word size (got ++ t) h.2
              ∙ past_head (view s.header) size s.index s.have s.word got t k n total s.header.words
              s.header.chunk_header
              h.3 good);
          lists = λ t e.
              let sz : s.position + length (got ++ t) ≡ s.position + 12 + length t = omega
              (arith, length-append got t, c.requires.whole) in
              let size = s.position + 12 + length t in
              upcoming_body s true (got ++ t) h.0 (ended s h.1 h.2)
              ∙ ap (λ (n : ℕ). listing_from (view s.header) n s.index s.have (got ++ t)) sz
              ∙ rw (c.has_word.ensures, c.counted_blocks-counts.ensures, c.from-6.ensures, c.raw_bytes.ensures)
              (chunk_begun (view s.header) size s.index s.have s.word got t k n total s.header.chunk_header h.3 good);
          short = search rules;
        };
        turn = record {
          turn = record {
            leaves = search rules;
            moved = search rules;
            inside = search rules;
            header = search rules;
            fewer = search rules;
            numbers = search rules;
            place = λ u. rw (h.0, left, more, none) (omega arith);
            closes = search rules;
          };
          words = search rules;
          cause = search rules;
        };
      };
    }

pub invariant_of-self : goal.invariant_of-self
invariant_of-self c =
    let s = c.args.self.now in
    let n = c.u32_at-blocks.result in
    let left : left_of c.args.kind c.raw_bytes.result c.laid_words.result ≡ counted c.args.kind n * s.header.blk_sz = rw
    (c.raw_bytes.ensures, c.laid_words.ensures) (left_new c.args.kind n s.header.blk_sz s.header.words) in
    let cnt : c.counted_blocks-counts.result ≡ counted c.args.kind n = c.counted_blocks-counts.ensures in
    let more : (s.have + c.counted_blocks-counts.result) * s.header.blk_sz
    ≡ s.have * s.header.blk_sz + counted c.args.kind n * s.header.blk_sz =
    ap (λ (k : ℕ). (s.have + k) * s.header.blk_sz) cnt ∙ omega arith in
    let payload : c.raw_bytes.result + cond c.has_word.result 4 0 ≡ c.data_length-length.result = rw
    (c.raw_bytes.ensures, c.has_word.ensures, c.data_length-length.ensures.value)
    (data_parts c.args.kind n s.header.blk_sz) in
    record {
      counted = omega arith;
      room = omega arith;
      begun = omega (arith, s.begun);
      laid = omega arith;
      placed = omega (arith, s.placed);
    }
