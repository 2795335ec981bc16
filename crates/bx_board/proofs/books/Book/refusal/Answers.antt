use Rattle.std.proofs.Common.{◌≡◌, inl, inr, refl, ap, ◌∙◌, arith}
use Rattle.bx_board.specs.Machine.{Leased, is_done}
use Rattle.bx_board.specs.Stands.{slot_of}
use Rattle.bx_board.proofs.Holding.{low, seen_read}
use Rattle.bx_board.proofs.books.Book.refusal.Goals as goal
use Rattle.bx_board.proofs.books.Book.refusal.Goals.{in_default-via-in-Leased+else-holder-worker, in_default-via-in_default}

pub index-requires : goal.index-requires
index-requires c = omega (arith, c.self.inside.stands.ok.0, low c.self.invariant.2 refl c.self.invariant.0.kept c.self.view_is c.args.chain c.requires)

pub returns-in-Done : goal.returns-in-Done
returns-in-Done c =
    let within = low c.self.invariant.2 refl c.self.invariant.0.kept c.self.view_is c.args.chain c.requires in
    let stands = seen_read c.self.invariant.2 refl c.args.chain c.index.result.now within c.index.ensures in
    rw (← c.self.view_is) (inl (refl, ap is_done (stands ∙ ap (slot_of _) c.in-Done.is)))

pub returns-in-Leased : goal.returns-in-Leased
returns-in-Leased c =
    let within = low c.self.invariant.2 refl c.self.invariant.0.kept c.self.view_is c.args.chain c.requires in
    let stands = seen_read c.self.invariant.2 refl c.args.chain c.index.result.now within c.index.ensures in
    rw (← c.self.view_is) (stands ∙ ap (slot_of _) c.in-Leased.is ∙ ap (λ k. Leased k) c.if-holder-worker.true)

pub returns-in_default : goal.returns-in_default
returns-in_default c =
    let within = low c.self.invariant.2 refl c.self.invariant.0.kept c.self.view_is c.args.chain c.requires in
    let stands = seen_read c.self.invariant.2 refl c.args.chain c.index.result.now within c.index.ensures in
    elim c.in_default.branch [
      | in_default-via-in-Leased+else-holder-worker w ↦
          let leased = stands ∙ ap (slot_of _) w.in-Leased.is in
          rw (← c.self.view_is) (inr (refl, ap is_done leased, λ h. let same : w.in-Leased.holder ≡ c.args.worker = cc in w.if-holder-worker.false same))
      | in_default-via-in_default w ↦
          let waits = stands ∙ ap (slot_of _) w.in_default.is in
          rw (← c.self.view_is) (inr (refl, ap is_done waits, λ h. cc))
    ]
