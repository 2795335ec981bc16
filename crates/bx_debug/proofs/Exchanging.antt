-- Exchanges of a session that are told by a test.
use Rattle.bx_debug.proofs.Words.{◌≡◌, ℕ, ◌-◌, true, ◌&&◌, nat_lt, History, course_of, may_swap}
use Rattle.std.proofs.lemmas.Bool.{and_from, and_parts, lt-ltb, ltb-true}
use Rattle.bx_swaps.specs.Telling.{may_exchange}
use Rattle.bx_swaps.proofs.Telling as telling
use Rattle.bx_debug.specs.Swapping.{MaySwap}

pub may_so : (k : ℕ) (s : History) → may_swap k s ≡ true → MaySwap k s
may_so k s e =
    let some = and_parts (nat_lt 0 k) (nat_lt k s.at && may_exchange (k - 1) (course_of s)) e in
    let within = and_parts (nat_lt k s.at) (may_exchange (k - 1) (course_of s)) some.1 in
    (ltb-true 0 k some.0, ltb-true k s.at within.0, telling.may_so (k - 1) (course_of s) within.1)

pub so_may : (k : ℕ) (s : History) → MaySwap k s → may_swap k s ≡ true
so_may k s h = and_from (nat_lt 0 k) _ (lt-ltb 0 k h.0) (and_from (nat_lt k s.at) _ (lt-ltb k s.at h.1) (telling.so_may (k - 1) (course_of s) h.2))
