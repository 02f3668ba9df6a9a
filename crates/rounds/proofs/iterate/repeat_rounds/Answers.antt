use Rattle.std.proofs.Common.{◌<◌, None, sym, ◌∙◌, arith}
use Rattle.rule.specs.Rule.{count}
use Rattle.rig.specs.Rigs.{contents}
use Rattle.rounds.proofs.Going.{count_small, round_broken, hung_both, counted, rounds_made, below_count, copy_broken, going_on, nothing_counted}
use Rattle.rounds.proofs.iterate.repeat_rounds.Goals as goal

pub overflow_add-round : goal.overflow_add-round
overflow_add-round g c = omega (arith, c.loop-round.invariant.going.few, count_small c.args.rig.now.lawful)

pub overflow_add-changed : goal.overflow_add-changed
overflow_add-changed g c = omega (arith, c.loop-round.invariant.going.few, count_small c.args.rig.now.lawful)

pub returns-in_err-one_round : goal.returns-in_err-one_round
returns-in_err-one_round g c =
    record {
      followed = record {
        made = round_broken c.loop-round.invariant.going c.slots.ensures c.in_err-one_round.field-0.0 c.from_residual.result c.from_residual.ensures.1 c.in_err-one_round.ensures.stepped.made;
        counted = nothing_counted (contents c.args.rig.now) _ c.from_residual.result c.from_residual.ensures.1;
        shelf = c.one_round.ensures.stepped.shelf ∙ c.loop-round.invariant.same_shelf;
      };
    }

pub settled-requires-clause-first : goal.settled-requires-clause-first
settled-requires-clause-first g c = (hung_both c.loop-round.invariant.going c.slots.ensures c.in_ok-one_round.ensures.stepped.made).0

pub settled-requires-clause-second : goal.settled-requires-clause-second
settled-requires-clause-second g c = (hung_both c.loop-round.invariant.going c.slots.ensures c.in_ok-one_round.ensures.stepped.made).1

pub returns-then-settled : goal.returns-then-settled
returns-then-settled g c =
    let same = sym c.if-settled.ensures.value in
    record {
      followed = record {
        made = rounds_made c.loop-round.invariant.going c.slots.ensures c.in_ok-one_round.ensures.stepped.made same;
        counted = counted c.loop-round.invariant.going c.slots.ensures c.in_ok-one_round.ensures.stepped.made same;
        shelf = c.one_round.ensures.stepped.shelf ∙ c.loop-round.invariant.same_shelf;
      };
    }

pub loop-round-smaller : goal.loop-round-smaller
loop-round-smaller g c =
    let below : c.loop-round.changed < count (contents c.args.rig.now) = below_count c.loop-round.invariant.going c.slots.ensures c.in_ok-one_round.ensures.stepped.made (sym c.if-settled.ensures.value) in
    omega arith

pub loop-round-preserved : goal.loop-round-preserved
loop-round-preserved g c =
    let copied = rw c.one_round.ensures.stepped.number at (c.in_ok-cheaper.ensures.took.ended None) in
    record {
      going = going_on c.loop-round.invariant.going c.slots.ensures c.in_ok-one_round.ensures.stepped.made (sym c.if-settled.ensures.value) (g.met.S.Shelf.sound c.one_round.new.round.shelf.now).eight (g.met.S.Shelf.sound c.cheaper.new.self.shelf.now).eight copied;
      same_shelf = c.cheaper.ensures.took.shelf ∙ c.one_round.ensures.stepped.shelf ∙ c.loop-round.invariant.same_shelf;
    }

pub returns-in_err-cheaper : goal.returns-in_err-cheaper
returns-in_err-cheaper g c =
    let copied = rw c.one_round.ensures.stepped.number at (c.in_err-cheaper.ensures.took.ended None) in
    record {
      followed = record {
        made = copy_broken c.loop-round.invariant.going c.slots.ensures c.in_ok-one_round.ensures.stepped.made (sym c.if-settled.ensures.value) c.in_err-cheaper.field-0.0 c.from_residual-in_err-cheaper.result c.from_residual-in_err-cheaper.ensures.1 copied;
        counted = nothing_counted (contents c.args.rig.now) _ c.from_residual-in_err-cheaper.result c.from_residual-in_err-cheaper.ensures.1;
        shelf = c.cheaper.ensures.took.shelf ∙ c.one_round.ensures.stepped.shelf ∙ c.loop-round.invariant.same_shelf;
      };
    }
