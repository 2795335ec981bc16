use Rattle.std.proofs.Common.{ap, cond, ◌∙◌}
use Rattle.std.specs.Prelude.{Some}
use Rattle.std.specs.Ordering.{is_eq}
use Rattle.bx_world.specs.Posting.{same_pair}
use Rattle.bx_events.specs.Ledgers.{by_number, counted}
use Rattle.bx_events.proofs.Noting.{count_more, sender_more}
use Rattle.bx_events.proofs.ledgers.Ledger.note_put.Goals as goal

pub returns : goal.returns
returns c = λ put heard k.
    let pair = c.args.pair in
    let at = c.args.at in
    let count = c.count.result in
    record {
      puts = λ q. c.in_ok-add.ensures q ∙ count_more (same_pair q pair) (put q) at (counted c.args.self.now.puts q) (k.puts q);
      arrivals = k.arrivals;
      senders = λ q n.
          c.in_ok-insert.ensures.updates.0 (q, n) ∙ ap (λ o. cond (is_eq (by_number (pair, count) (q, n))) (Some at) o) (k.senders q n)
          ∙ sender_more put pair q at count n (c.count.ensures ∙ k.puts pair);
    }
