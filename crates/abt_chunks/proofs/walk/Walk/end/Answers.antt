use Rattle.std.proofs.Common.{rules, ◌∙◌, length, ◌+◌, true}
use Rattle.abt_sparse.specs.View.{view}
use Rattle.abt_chunks.proofs.Onward.{spent, ahead_few, ahead_done}
use Rattle.abt_chunks.proofs.Listed.{upcoming_body, breaking_body, ended, listing_few, listing_done}
use Rattle.abt_chunks.proofs.walk.Walk.end.Goals as goal

pub returns-then-self-clause-told : goal.returns-then-self-clause-told
returns-then-self-clause-told c =
    let s = c.args.self.now in let h = c.requires.here in
    record {
      says = λ t e. rw (c.fail.ensures.part, h.0, h.1)
          (spent s.kind s.due (view s.header) s.index s.have s.raw s.words s.word (s.position + length t) t h.2
          ∙ ahead_few (view s.header) (s.position + length t) s.index s.have t h.3 c.if-self.true);
      lists = λ t e. rw c.fail.ensures.part (upcoming_body s true t h.0 (ended s h.1 h.2)
          ∙ listing_few (view s.header) (s.position + length t) s.index s.have t h.3 c.if-self.true
          ∙ breaking_body s true _ h.0 (ended s h.1 h.2));
      short = search rules;
    }

pub returns-clause-told : goal.returns-clause-told
returns-clause-told c =
    let s = c.args.self.now in let h = c.requires.here in
    record {
      says = λ t e. rw (h.0, h.1)
          (spent s.kind s.due (view s.header) s.index s.have s.raw s.words s.word (s.position + length t) t h.2
          ∙ ahead_done (view s.header) (s.position + length t) s.index s.have t h.3 c.if-self.false);
      lists = λ t e. upcoming_body s true t h.0 (ended s h.1 h.2)
          ∙ listing_done (view s.header) (s.position + length t) s.index s.have t h.3 c.if-self.false;
      short = search rules;
    }
