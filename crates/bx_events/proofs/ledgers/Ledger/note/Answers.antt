use Rattle.std.proofs.Common.{ℕ, [], ◌∷◌, ◌++◌, refl, take}
use Rattle.std.specs.Prelude.{if◌then◌else◌}
use Rattle.bx_world.specs.Posting.{same_pair}
use Rattle.bx_events.specs.Pairing.{by_puts}
use Rattle.bx_events.proofs.Noting.{along, put_next}
use Rattle.bx_events.proofs.ledgers.Ledger.note.Goals as goal

pub loop-put-preserved : goal.loop-put-preserved
loop-put-preserved c = λ put heard k.
    let at = c.loop-put in
    let i = at.put-index in
    let xs = c.as_slice-put-items.result.now in
    let x = c.put-item.result in
    let p = c.args.event.now.actor in
    let mid = λ (q : ℕ × ℕ). put q ++ by_puts q p c.args.at (take i xs) in
    along (λ (q : ℕ × ℕ). if same_pair q (p, x.to) then mid q ++ c.args.at ∷ [] else mid q) _ heard heard _ (c.in_ok-note_put.ensures mid heard (at.invariant put heard k))
    (λ (q : ℕ × ℕ). put_next (put q) q p c.args.at xs i x c.loop-put-test.true c.put-item.is) (λ (q : ℕ × ℕ). refl)
