use Rattle.std.proofs.Common.{refl, sym, subst, ◌∙◌, arith}
use Rattle.std.proofs.lemmas.List.{get_or_read, length-set}
use Rattle.bx_board.specs.declared.books.stands.Stand.TheVariants.{Waiting}
use Rattle.bx_board.specs.Jobs.{chain_end}
use Rattle.bx_board.specs.Stands.{Keeps, left_on}
use Rattle.bx_board.specs.Tended.{kept_view}
use Rattle.bx_board.proofs.Holding.{low, seen_same}
use Rattle.bx_board.proofs.Keeping.{view_taken}
use Rattle.bx_board.proofs.books.Book.take_told.Goals as goal

pub index_mut-requires : goal.index_mut-requires
index_mut-requires c = omega (arith, c.self.inside.stands.ok.0, low c.self.invariant.2 refl c.self.invariant.0.kept c.self.view_is c.args.chain c.requires)

pub invariant_of-self : goal.invariant_of-self
invariant_of-self c =
    let i = c.self.inside in
    let b = kept_view i.image.now i.start i.plan.now i.chains i.stands.items i.stopped in
    let within = low c.self.invariant.2 refl c.self.invariant.0.kept c.self.view_is c.args.chain c.requires in
    let keeps = subst (Keeps (chain_end b.job c.args.chain) (left_on b c.args.chain)) (sym (get_or_read i.stands.items c.args.chain c.index_mut.result.now within c.index_mut.ensures.value Waiting)) (c.self.invariant.2.each c.args.chain) in
    let both =
    view_taken c.self.invariant.0 c.self.invariant.2 refl c.args.chain c.pop.new.self c.index_mut.result.now within c.index_mut.ensures.value
    (c.pop.ensures.slot (chain_end b.job c.args.chain)) (c.pop.ensures.keeps (chain_end b.job c.args.chain) (left_on b c.args.chain) keeps).0 in
    let long = length-set i.stands.items c.args.chain c.pop.new.self in
    (both.0, omega (arith, c.self.invariant.1), both.1, omega (arith, c.self.invariant.3))

pub returns-clause-told : goal.returns-clause-told
returns-clause-told c =
    let i = c.self.inside in
    let b = kept_view i.image.now i.start i.plan.now i.chains i.stands.items i.stopped in
    let within = low c.self.invariant.2 refl c.self.invariant.0.kept c.self.view_is c.args.chain c.requires in
    let keeps = subst (Keeps (chain_end b.job c.args.chain) (left_on b c.args.chain)) (sym (get_or_read i.stands.items c.args.chain c.index_mut.result.now within c.index_mut.ensures.value Waiting)) (c.self.invariant.2.each c.args.chain) in
    rw (← c.self.view_is) (c.pop.ensures.keeps (chain_end b.job c.args.chain) (left_on b c.args.chain) keeps).1

pub returns-clause-same : goal.returns-clause-same
returns-clause-same c =
    let i = c.self.inside in
    let within = low c.self.invariant.2 refl c.self.invariant.0.kept c.self.view_is c.args.chain c.requires in
    seen_same c.self.invariant.2 refl c.args.chain c.pop.new.self c.index_mut.result.now within c.index_mut.ensures.value (c.pop.ensures.slot (chain_end (kept_view i.image.now i.start i.plan.now i.chains i.stands.items i.stopped).job c.args.chain)) ∙ c.self.view_is
