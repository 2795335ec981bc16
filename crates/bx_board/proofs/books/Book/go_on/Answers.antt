use Rattle.std.proofs.Common.{◌≡◌, ℕ, Option, sym, ap, subst, ◌∙◌}
use Rattle.bx_board.specs.declared.slots.Event.TheVariants.{Lease, Submit}
use Rattle.bx_board.specs.Alone.{GoesOn}
use Rattle.bx_board.specs.Jobs.{Work, end_of, work_of}
use Rattle.bx_board.specs.Kept.{Kept, Leases, then}
use Rattle.bx_board.specs.Machine.{Leased, standing}
use Rattle.bx_board.proofs.Idle.{gone_on, held_alone, held_there, idle_done}
use Rattle.bx_board.proofs.Steps.{is_true}
use Rattle.bx_board.proofs.books.Book.go_on.Goals as goal

pub returns-in_default-clause-ok : goal.returns-in_default-clause-ok
returns-in_default-clause-ok c =
    let none = subst (λ (o : Option Work). Leases c.args.self.now 0 o c.lease.new.self) c.in_default.is c.in_ok-lease.ensures.ok in
    (none.0, idle_done c.args.self.now c.known.ensures c.requires none.1)

pub returns-clause-ok : goal.returns-clause-ok
returns-clause-ok c =
    let old = c.args.self.now in
    let got = subst (λ (o : Option Work). Leases old 0 o c.lease.new.self) c.in-Some.is c.in_ok-lease.ensures.ok in
    let free = is_true _ got.1.0.0 in
    let same = held_alone old c.requires got.0 free c.in-Some-held_by.chain (subst (λ (b : Kept). standing b.state c.in-Some-held_by.chain ≡ Leased 0) got.1.1 c.in-Some-held_by.ensures) in
    let whole = c.hand_in.ensures.1 ∙ ap (λ (m : Kept). then m (Submit 0 c.in-Some-held_by.chain)) got.1.1 ∙ ap (λ (k : ℕ). then (then old (Lease 0 got.0)) (Submit 0 k)) same in
    subst (GoesOn old) (sym whole) (gone_on old c.requires got.0 free)

pub unreachable-requires : goal.unreachable-requires
unreachable-requires c =
    let old = c.args.self.now in
    let got = subst (λ (o : Option Work). Leases old 0 o c.lease.new.self) c.in-Some.is c.in_ok-lease.ensures.ok in
    let free = is_true _ got.1.0.0 in
    c.in_default-held_by.ensures (got.0, subst (λ (b : Kept). standing b.state got.0 ≡ Leased 0) (sym got.1.1) (held_there old c.requires got.0 free))

pub hand_in-requires-clause-end : goal.hand_in-requires-clause-end
hand_in-requires-clause-end c =
    let old = c.args.self.now in
    let got = subst (λ (o : Option Work). Leases old 0 o c.lease.new.self) c.in-Some.is c.in_ok-lease.ensures.ok in
    let free = is_true _ got.1.0.0 in
    let same = held_alone old c.requires got.0 free c.in-Some-held_by.chain (subst (λ (b : Kept). standing b.state c.in-Some-held_by.chain ≡ Leased 0) got.1.1 c.in-Some-held_by.ensures) in
    ap end_of (c.in-Ok.ensures.ok ∙ got.2 ∙ ap (work_of old.job) (sym same) ∙ ap (λ (b : Kept). work_of b.job c.in-Some-held_by.chain) (sym got.1.1))
