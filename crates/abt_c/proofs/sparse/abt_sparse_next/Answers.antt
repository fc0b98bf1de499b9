use Rattle.std.proofs.Common.{rules, ◌≡◌, ℕ, [], take, sym, subst, arith, ◌∙◌}
use Rattle.abt_c.specs.Standing.{phase_number}
use Rattle.abt_c.specs.Standing.{StateSays}
use Rattle.abt_c.proofs.Carried.{carried, place_is}
use Rattle.abt_c.proofs.Moved.{moved, nears}
use Rattle.abt_c.proofs.Owned.{pull_own}
use Rattle.abt_c.proofs.Tellings.{not_spoiled}
use Rattle.abt_c.proofs.sparse.abt_sparse_next.Goals as goal

pub returns-in-Some-clause-answers : goal.returns-in-Some-clause-answers
returns-in-Some-clause-answers c = record {
  fault = search rules;
  kind = search rules;
  place = λ live x. c.part_of.ensures.place ∙ c.place-place.ensures
      ∙ sym (place_is c.args.state.now c.in-Some.puller c.in-Some.ensures.some.stands);
  left =
      let h = c.pull-pulled in
      let o = c.state_of.ensures in
      let live : phase_number c.in-Some.puller.walk.phase ≡ 3 → ⊥ = (λ z. let e = c.in-Some.ensures.some.stands.phase in
      let lt = c.if-state-ge3.false in absurd (omega (arith, lt, e, z))) in (
        (
          λ l. not_spoiled h.result.pull c.part_of.result c.part_of.ensures.is,
          λ x. record { puller = c.in-Some.puller; keeps = c.in-Some.ensures.some },
        ),
        λ l. record {
          puller = h.new.self;
          keeps = record {
            stands = o.stands;
            fault = o.fault;
            detail = o.detail;
            own = let e = o.fault in omega (
              arith,
              e,
              pull_own h.result.pull c.in-Some.puller h.new.self (take
                  h.result.used c.args.input.now) live (h.ensures.pulls.says []) h.ensures.pulls.leaves,
            );
            bits = o.bits;
          };
        },
      );
  spoiled = search rules;
  bare = search rules;
  again = search rules;
  same = search rules;
}

pub returns-in-Some-clause-told : goal.returns-in-Some-clause-told
returns-in-Some-clause-told c live x =
    let e = c.in-Some.ensures.some.stands in
    let h = c.pull-pulled in
    record {
      pull = h.result.pull;
      is = c.part_of.ensures.is;
      says = λ t. let p = h.ensures.pulls in
          subst (λ (n : ℕ). StateSays h.result.pull c.args.state.now c.state_of.result (take n c.args.input.now) t)
          (sym c.part_of.ensures.used) (carried h.result.pull c.args.state.now c.state_of.result c.in-Some.puller
          h.new.self (take h.result.used c.args.input.now) t e c.state_of.ensures.stands
          (λ z. absurd (omega (arith, live, e.phase, z))) (p.says t) p.kept p.leaves);
    }

pub returns-in-Some-clause-moves : goal.returns-in-Some-clause-moves
returns-in-Some-clause-moves c live x =
    let h = c.pull-pulled in
    let e = c.in-Some.ensures.some.stands in
    let o = c.state_of.ensures in
    moved h.result.pull c.part_of.result c.args.state.now c.state_of.result c.in-Some.puller h.new.self h.result.used _
    c.part_of.ensures.used c.part_of.ensures.is e o.stands h.ensures.pulls.moves
    (nears h.result.pull c.part_of.result c.args.state.now c.state_of.result c.in-Some.puller h.new.self
    c.part_of.ensures.is e o.stands o.fault o.detail h.ensures.pulls.falls h.ensures.pulls.leaves)
