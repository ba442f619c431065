use Rattle.std.proofs.Common.{◌<◌, ◌≤◌, ap, arith, length, subst, sym, vec_capacity, ◌∙◌}
use Rattle.std.proofs.lemmas.Iterator.Adapters.{YieldsList-from_vec}
use Rattle.std.proofs.lemmas.Iterator.Consumers.{YieldsList-end, YieldsList-turn}
use Rattle.fedi_worlds.specs.Promises.{IsSetUp}
use Rattle.fedi_world.proofs.Spots.{index_is, map_length}
use Rattle.fedi_world.proofs.Started.{AreOpened, map_id, none_opened, one_opened, opened, started_ends, started_servers, whole_started}
use Rattle.fedi_world.proofs.world.World.start.Goals as goal

pub servers-init : goal.servers-init
servers-init g c =
    record {
      opened = none_opened {P = g.row.P.Denot} c.in_ok-seats.seats.items c.in_ok-seats.ensures.items;
      room = let e = c.in_ok-seats.ensures.capacity in let l = c.len.ensures in let k = c.args.cores.ok.0 in omega (arith, e, l, k);
    }

pub of-seat-requires-clause-unclaimed : goal.of-seat-requires-clause-unclaimed
of-seat-requires-clause-unclaimed g c =
    let turn = YieldsList-turn (YieldsList-from_vec c.args.cores.items c.into_iter-core-iterator.ensures.into_iter_gives.0 (c.into_iter-core-iterator.ensures.into_iter_gives.1 ∙ c.args.cores.ok.0))
    c.servers.yielded c.servers.core-iterator c.servers.yielded_by c.next.result c.next.new.self c.in-Some.core c.in-Some.is c.next.ensures.steps in
    let new = c.requires.each (length c.servers.yielded) c.in-Some.core (index_is c.args.cores.items (length c.servers.yielded) c.in-Some.core turn.0 turn.1) in
    new.unclaimed

pub of-seat-requires-clause-hosted : goal.of-seat-requires-clause-hosted
of-seat-requires-clause-hosted g c =
    let turn = YieldsList-turn (YieldsList-from_vec c.args.cores.items c.into_iter-core-iterator.ensures.into_iter_gives.0 (c.into_iter-core-iterator.ensures.into_iter_gives.1 ∙ c.args.cores.ok.0))
    c.servers.yielded c.servers.core-iterator c.servers.yielded_by c.next.result c.next.new.self c.in-Some.core c.in-Some.is c.next.ensures.steps in
    let new = c.requires.each (length c.servers.yielded) c.in-Some.core (index_is c.args.cores.items (length c.servers.yielded) c.in-Some.core turn.0 turn.1) in
    new.hosted

pub show_new-requires : goal.show_new-requires
show_new-requires g c =
    let turn = YieldsList-turn (YieldsList-from_vec c.args.cores.items c.into_iter-core-iterator.ensures.into_iter_gives.0 (c.into_iter-core-iterator.ensures.into_iter_gives.1 ∙ c.args.cores.ok.0))
    c.servers.yielded c.servers.core-iterator c.servers.yielded_by c.next.result c.next.new.self c.in-Some.core c.in-Some.is c.next.ensures.steps in
    let new = c.requires.each (length c.servers.yielded) c.in-Some.core (index_is c.args.cores.items (length c.servers.yielded) c.in-Some.core turn.0 turn.1) in
    subst (λ x. IsSetUp x.history) (sym c.of-seat.ensures.core) new.set_up

pub push_reserved-requires : goal.push_reserved-requires
push_reserved-requires g c =
    let turn = YieldsList-turn (YieldsList-from_vec c.args.cores.items c.into_iter-core-iterator.ensures.into_iter_gives.0 (c.into_iter-core-iterator.ensures.into_iter_gives.1 ∙ c.args.cores.ok.0))
    c.servers.yielded c.servers.core-iterator c.servers.yielded_by c.next.result c.next.new.self c.in-Some.core c.in-Some.is c.next.ensures.steps in
    let new = c.requires.each (length c.servers.yielded) c.in-Some.core (index_is c.args.cores.items (length c.servers.yielded) c.in-Some.core turn.0 turn.1) in
    let few = turn.0 in
    let room = c.servers.invariant.room in
    let same = ap (λ xs. length xs) c.servers.invariant.opened.are ∙ map_length (opened {P = g.row.P.Denot}) c.servers.yielded in
    let k = c.servers.seats.ok.0 in
    omega (arith, few, room, same, k)

pub servers-preserved : goal.servers-preserved
servers-preserved g c =
    record {
      opened = one_opened {P = g.row.P.Denot} c.servers.seats.items c.push_reserved.new.self.items c.servers.yielded c.in-Some.core c.of-seat.result c.servers.invariant.opened
          c.of-seat.ensures.core c.of-seat.ensures.log c.show_new.ensures.fit c.show_new.ensures.new c.push_reserved.ensures.items;
      room = let e = c.push_reserved.ensures.capacity in let r = c.servers.invariant.room in omega (arith, e, r);
    }

pub invariant_of-result : goal.invariant_of-result
invariant_of-result g c =
    let last = YieldsList-end (YieldsList-from_vec c.args.cores.items c.into_iter-core-iterator.ensures.into_iter_gives.0 (c.into_iter-core-iterator.ensures.into_iter_gives.1 ∙ c.args.cores.ok.0))
    c.servers.yielded c.servers.core-iterator c.servers.yielded_by c.next.result c.next.new.self c.in-None.is c.next.ensures.steps in
    let all = subst (λ ms. AreOpened {P = g.row.P.Denot} c.servers.seats.items ms) (sym (map_id c.servers.yielded) ∙ last.0) c.servers.invariant.opened in
    rw (c.new-2.ensures.items, c.new-3.ensures.items, c.new-4.ensures.items)
    (whole_started {P = g.row.P.Denot} c.args.moment c.servers.seats.items c.args.cores.items (subst (λ n. n < 253402300800) c.seconds-now.ensures.value c.seconds-now.ensures.bound) c.requires all)

pub returns-clause-servers : goal.returns-clause-servers
returns-clause-servers g c =
    let last = YieldsList-end (YieldsList-from_vec c.args.cores.items c.into_iter-core-iterator.ensures.into_iter_gives.0 (c.into_iter-core-iterator.ensures.into_iter_gives.1 ∙ c.args.cores.ok.0))
    c.servers.yielded c.servers.core-iterator c.servers.yielded_by c.next.result c.next.new.self c.in-None.is c.next.ensures.steps in
    let all = subst (λ ms. AreOpened {P = g.row.P.Denot} c.servers.seats.items ms) (sym (map_id c.servers.yielded) ∙ last.0) c.servers.invariant.opened in
    started_servers {P = g.row.P.Denot} c.servers.seats.items c.args.cores.items all

pub returns-clause-ends : goal.returns-clause-ends
returns-clause-ends g c =
    let last = YieldsList-end (YieldsList-from_vec c.args.cores.items c.into_iter-core-iterator.ensures.into_iter_gives.0 (c.into_iter-core-iterator.ensures.into_iter_gives.1 ∙ c.args.cores.ok.0))
    c.servers.yielded c.servers.core-iterator c.servers.yielded_by c.next.result c.next.new.self c.in-None.is c.next.ensures.steps in
    let all = subst (λ ms. AreOpened {P = g.row.P.Denot} c.servers.seats.items ms) (sym (map_id c.servers.yielded) ∙ last.0) c.servers.invariant.opened in
    started_ends {P = g.row.P.Denot} g.P.Keeper.shown c.servers.seats.items c.args.cores.items all
