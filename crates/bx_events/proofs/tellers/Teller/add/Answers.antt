use Rattle.std.proofs.Common.{◌≡◌, ◌<◌, ◌+◌, ℕ, List, ◌++◌, true, false, length, refl, sym, ap, subst, ◌∙◌, arith}
use Rattle.bx_events.specs.declared.events.Event.{Event}
use Rattle.bx_events.specs.Ledgers.{Knows}
use Rattle.bx_events.specs.Pairing.{arrival, arrivals, by_puts, senders}
use Rattle.bx_events.specs.Telling.{joins_last, last_of, with_joined}
use Rattle.bx_events.proofs.Going.{apart_stands, joined_stands}
use Rattle.bx_events.proofs.tellers.Teller.add.Goals as goal

pub returns-then-joins_last : goal.returns-then-joins_last
returns-then-joins_last c =
    let old = c.args.self.now in
    let event = c.args.event in
    let joins : joins_last (last_of old.events.items) event ≡ true =
    ap (λ (xs : List Event). joins_last (last_of xs) event) (sym c.deref.ensures.value) ∙ sym c.joins_last.ensures ∙ c.if-joins_last.true in
    joined_stands event old (record { end = old.end; events = c.join_last.new.events; ledger = old.ledger }) c.requires joins refl refl
    c.join_last.ensures

pub returns : goal.returns
returns c =
    let old = c.args.self.now in
    let event = c.args.event in
    let events = old.events.items in
    let apart : joins_last (last_of events) event ≡ false =
    ap (λ (xs : List Event). joins_last (last_of xs) event) (sym c.deref.ensures.value) ∙ sym c.joins_last.ensures ∙ c.if-joins_last.false in
    let few : length events < 20000 = grind (arith, c.requires.few, c.len-count.ensures, c.if-count-eq-MOST.false) in
    let count : old.events.len ≡ length events = omega (arith, old.events.ok.0) in
    let knows = c.in_ok-note.ensures (λ (q : ℕ × ℕ). senders q events) (λ (q : ℕ × ℕ). arrivals q events) c.requires.keeps in
    apart_stands event old (record { end = old.end; events = c.push.new.self; ledger = c.note.new.self }) c.requires apart few refl c.in_ok-push.ensures.items
    (subst (λ n. Knows (λ (q : ℕ × ℕ). senders q events ++ by_puts q event.actor n event.puts) (λ (q : ℕ × ℕ). arrivals q events + arrival q event.what) c.note.new.self) (c.len-count.ensures ∙ count) knows)
