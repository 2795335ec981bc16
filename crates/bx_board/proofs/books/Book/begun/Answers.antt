use Rattle.std.proofs.Common.{◌≡◌, ◌-◌, length, refl, sym, ap, subst, ◌∙◌, arith}
use Rattle.std.specs.Prelude.{IsOk}
use Rattle.std.specs.List.{All}
use Rattle.std.proofs.lemmas.List.{length-replicate}
use Rattle.bx_world.specs.Running.{Ended}
use Rattle.bx_board.specs.declared.books.stands.Stand.{Stand, TheVariants.Waiting}
use Rattle.bx_board.specs.Jobs.{Job, chain_end}
use Rattle.bx_board.specs.Reported.{IsShown}
use Rattle.bx_board.specs.Stands.{kept_for}
use Rattle.bx_board.proofs.Beginning.{begins_so, kids_low, opened, root_end}
use Rattle.bx_board.proofs.books.Book.begun.Goals as goal

pub ready_of-requires : goal.ready_of-requires
ready_of-requires c =
    let job : Job = record { image = c.args.image.now; start = c.args.start; plan = c.args.plan.now; chains = c.in_ok-chains.chains } in
    omega (arith, kids_low job c.in_ok-chains.ensures, ap length c.kids-2.ensures, c.len-count.ensures)

pub invariant_of-result : goal.invariant_of-result
invariant_of-result c =
    let job : Job = record { image = c.args.image.now; start = c.args.start; plan = c.args.plan.now; chains = c.in_ok-chains.chains } in
    let are = c.in_ok-chains.ensures in
    let root = root_end c.args.image.now c.args.start c.args.plan.now c.in_ok-chains.chains c.args.world are c.requires in
    let told = subst (λ (e : Ended). All (IsShown e) c.in_ok-told.told.items) root c.in_ok-told.ensures in
    let way = c.kept_for-way.ensures ∙ ap (λ (e : Ended). kept_for e (length c.kids.result.now)) (c.in-Ok.ensures.ok ∙ root) ∙ ap (λ row. kept_for (chain_end job 0) (length row)) c.kids.ensures in
    let both = opened job are c.in_ok-stands.stands.items c.in_ok-told.told c.kept_for-way.result.0 c.len-count.result c.in_ok-ready.ready.items c.new.result c.new.ensures.empty (subst IsOk (sym c.requires) refl) told way c.in_ok-stands.ensures c.len-count.ensures (c.in_ok-ready.ensures.items ∙ c.kids-2.ensures) in
    let long : length c.in_ok-stands.stands.items ≡ c.len-count.result = omega (arith, ap length c.in_ok-stands.ensures, length-replicate {A = Stand} (c.len-count.result - 1) Waiting, c.len-count.ensures, are.forest.some) in
    (both.0, omega (arith, long, c.in_ok-ready.ensures.capacity), both.1, omega (arith, long, c.in_ok-endings.ensures, c.len-count.ensures))

pub returns : goal.returns
returns c =
    let job : Job = record { image = c.args.image.now; start = c.args.start; plan = c.args.plan.now; chains = c.in_ok-chains.chains } in
    record {
      exported = subst IsOk (sym c.requires) refl;
      chains = c.in_ok-chains.ensures;
      begun = begins_so job c.in_ok-stands.stands.items c.in_ok-told.told c.kept_for-way.result.0 c.len-count.result c.in_ok-stands.ensures c.len-count.ensures;
    }
