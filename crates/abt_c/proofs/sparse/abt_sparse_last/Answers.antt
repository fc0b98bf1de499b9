use Rattle.std.proofs.Common.{rules, ◌≡◌, sym, arith, ◌∙◌}
use Rattle.abt_chunks.specs.Pulling as pulling
use Rattle.abt_chunks.specs.declared.feed.Pull.TheVariants as pulls
use Rattle.abt_c.specs.Standing.{phase_number}
use Rattle.abt_c.proofs.Carried.{last_carried, place_is}
use Rattle.abt_c.proofs.Moved.{nears}
use Rattle.abt_c.proofs.Owned.{part_own}
use Rattle.abt_c.proofs.Tellings.{not_spoiled}
use Rattle.abt_c.proofs.sparse.abt_sparse_last.Goals as goal

pub returns-in-Some-clause-answers : goal.returns-in-Some-clause-answers
returns-in-Some-clause-answers c = record {
  fault = search rules;
  kind = search rules;
  place = λ live x. c.part_of.ensures.place ∙ c.place-place.ensures
      ∙ sym (place_is c.args.state.now c.in-Some.puller c.in-Some.ensures.some.stands);
  left =
      let h = c.last-part in
      let o = c.state_of.ensures in
      let live : phase_number c.in-Some.puller.walk.phase ≡ 3 → ⊥ = (λ z. let e = c.in-Some.ensures.some.stands.phase in
      let lt = c.if-state-ge3.false in absurd (omega (arith, lt, e, z))) in (
        (
          λ l. not_spoiled (pulls.Gives h.result) _ c.part_of.ensures.is,
          λ x. record { puller = c.in-Some.puller; keeps = c.in-Some.ensures.some },
        ),
        λ l. record {
          puller = h.new.self;
          keeps = record {
            stands = o.stands;
            fault = o.fault;
            detail = o.detail;
            own = let e = o.fault in omega (
              arith,
              e,
              part_own h.result c.in-Some.puller.walk h.new.self.walk
                  (pulling.pulled_front c.in-Some.puller) live h.ensures.says h.ensures.leaves,
            );
            bits = o.bits;
          };
        },
      );
  spoiled = search rules;
  bare = search rules;
  again = search rules;
  same = search rules;
}

pub returns-in-Some-clause-nears : goal.returns-in-Some-clause-nears
returns-in-Some-clause-nears c live x =
    let h = c.last-part in
    let o = c.state_of.ensures in
    nears (pulls.Gives h.result) _ c.args.state.now c.state_of.result c.in-Some.puller h.new.self
    c.part_of.ensures.is c.in-Some.ensures.some.stands o.stands o.fault o.detail h.ensures.falls h.ensures.leaves

pub returns-in-Some-clause-told : goal.returns-in-Some-clause-told
returns-in-Some-clause-told c live x =
    let h = c.last-part in
    let e = c.in-Some.ensures.some.stands in
    record {
      part = h.result;
      is = c.part_of.ensures.is;
      says = last_carried h.result c.args.state.now c.state_of.result c.in-Some.puller h.new.self e
          c.state_of.ensures.stands (λ z. absurd (omega (arith, live, e.phase, z))) h.ensures.says h.ensures.empty
          h.ensures.leaves;
    }
