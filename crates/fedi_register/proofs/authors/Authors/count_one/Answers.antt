use Rattle.std.proofs.Common.{◌<◌, ◌∙◌, sym, ap, subst, ℕ}
use Rattle.fedi_register.specs.declared.authors.Author.{Author}
use Rattle.fedi_register.specs.Authors.{count_in}
use Rattle.fedi_register.proofs.Counts.{first_count, ids_stay, marks_stay, not_known, one_counted, one_more, the_first}
use Rattle.fedi_register.proofs.authors.Authors.count_one.Goals as goal

pub count_more-requires : goal.count_more-requires
count_more-requires c =
    let id = c.args.id.now in
    let list = c.self.inside.list.items in
    let place = c.in-Some.place in
    let at = rw (← c.self.view_is) at c.in-Some.ensures in
    let few : count_in list id < 9223372036854775808 = rw (← c.self.view_is) at c.requires.few in
    subst (λ (n : ℕ). n < 9223372036854775808)
    (sym (ap (λ (a : Author). a.count) c.index_mut.ensures.value ∙ first_count id list place _ (the_first id list place at))) few

pub unreachable-requires : goal.unreachable-requires
unreachable-requires c = not_known c.args.id.now c.args.self.now c.in-None.ensures c.requires.known

pub invariant_of-self : goal.invariant_of-self
invariant_of-self c =
    c.self.invariant
    ∙ sym (marks_stay c.self.inside.seed c.self.inside.list.items c.in-Some.place _ _ (c.count_more.ensures ∙ ap (λ (a : Author). one_more a) c.index_mut.ensures.value))

pub returns-clause-known : goal.returns-clause-known
returns-clause-known c =
    rw (← c.self.view_is) (ids_stay c.self.inside.list.items c.in-Some.place _ _ (c.count_more.ensures ∙ ap (λ (a : Author). one_more a) c.index_mut.ensures.value))

pub returns-clause-counts : goal.returns-clause-counts
returns-clause-counts c =
    let id = c.args.id.now in
    let list = c.self.inside.list.items in
    let place = c.in-Some.place in
    let at = rw (← c.self.view_is) at c.in-Some.ensures in
    rw (← c.self.view_is)
    (one_counted id list place _ _ (the_first id list place at) (c.count_more.ensures ∙ ap (λ (a : Author). one_more a) c.index_mut.ensures.value))
