-- Whether two choices of a session that are next to each other may be exchanged, by a test.
use Rattle.std.specs.Prelude.{ℕ, ◌-◌, Bool, true, false, ◌&&◌, nat_lt, Result, Ok, Err}
use Rattle.bx_terms.specs.declared.faults.Fault.{Fault, TheVariants.NotIndependent}
use Rattle.bx_swaps.specs.Telling.{may_exchange}
use Rattle.bx_debug.specs.Sessions.{History}
use Rattle.bx_debug.specs.Swapping.{course_of, swapped}

-- the choices k and k + 1 stand before the position, and are independent where they stand
abbrev pub may_swap : ℕ → History → Bool
may_swap k s = nat_lt 0 k && (nat_lt k s.at && may_exchange (k - 1) (course_of s))

-- they are exchanged where they may be
abbrev pub swap_by : Bool → ℕ → History → Result (History × Unit {0}) Fault
swap_by true k s = Ok (swapped k s, tt)
swap_by false k s = Err (NotIndependent k)

abbrev pub swap_of : ℕ → History → Result (History × Unit {0}) Fault
swap_of k s = swap_by (may_swap k s) k s
