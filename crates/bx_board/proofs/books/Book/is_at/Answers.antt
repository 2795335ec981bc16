use Rattle.std.proofs.Common.{◌≡◌, ◌<◌, length, take, sym, ap, subst, ◌∙◌, arith}
use Rattle.std.proofs.lemmas.List.{length-take-le}
use Rattle.bx_plan.specs.declared.chains.Head.{Head}
use Rattle.bx_plan.specs.Chains.{chain_path}
use Rattle.bx_plan.specs.Planned.{choices_at}
use Rattle.bx_plan.proofs.Growing.{path_long}
use Rattle.bx_board.specs.Jobs.{Work}
use Rattle.bx_board.specs.Kept.{Kept}
use Rattle.bx_board.proofs.Places.{some_chain}
use Rattle.bx_board.proofs.books.Book.is_at.Goals as goal

pub same_front-requires-clause-there : goal.same_front-requires-clause-there
same_front-requires-clause-there c =
    let i = c.self.inside in
    let forest = c.self.invariant.0.kept.chains.forest in
    let there : c.args.chain < length i.chains.heads = subst (λ (k : Kept). c.args.chain < length k.job.chains.heads) (sym c.self.view_is) c.requires in
    let past = ap (λ (h : Head). h.past) c.head-head.ensures in
    let line = ap (λ (h : Head). h.line) c.head-head.ensures in
    omega (arith, line, (some_chain i.plan.now i.chains forest c.args.chain there (omega (arith, past, c.piece.invariant.0.some))).line)

pub returns-then-head-span : goal.returns-then-head-span
returns-then-head-span c =
    let i = c.self.inside in
    let p = c.piece.inside in
    let forest = c.self.invariant.0.kept.chains.forest in
    let there : c.args.chain < length i.chains.heads = subst (λ (k : Kept). c.args.chain < length k.job.chains.heads) (sym c.self.view_is) c.requires in
    let path : take p.span.past (choices_at p.plan.now p.span.line) ≡ c.args.piece.now.path = ap (λ (w : Work). w.path) c.piece.view_is in
    let own : chain_path i.plan.now i.chains c.args.chain ≡ chain_path c.args.self.now.job.plan c.args.self.now.job.chains c.args.chain = ap (λ (k : Kept). chain_path k.job.plan k.job.chains c.args.chain) c.self.view_is in (
      λ t. cc,
      λ e. absurd (c.if-head-span.true (ap (λ (h : Head). h.past) c.head-head.ensures ∙ sym (path_long i.plan.now i.chains forest c.args.chain there) ∙ ap length (own ∙ e ∙ sym path)
          ∙ length-take-le p.span.past (choices_at p.plan.now p.span.line) c.piece.invariant.0.within)),
    )
