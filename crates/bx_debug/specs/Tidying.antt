-- The choices before the position of a session, tidied; and one of them set aside. Choices are counted from 1.
use Rattle.std.specs.Prelude.{ℕ, ◌-◌, ◌==◌, ◌||◌, nat_lt, if◌then◌else◌, Result, Ok, Err}
use Rattle.bx_terms.specs.declared.faults.Fault.{Fault, TheVariants.NotIndependent}
use Rattle.bx_swaps.specs.Tidying.{tidied_of, undone_of}
use Rattle.bx_debug.specs.Sessions.{History}
use Rattle.bx_debug.specs.Swapping.{course_of}

-- those of one process together
abbrev pub tidy_of : History → History
tidy_of s = record s { choices = (tidied_of s.at (course_of s)).choices }

-- the choice k and those that depend on it behind the others, where the position is before them
abbrev pub undone : ℕ → History → History
undone k s =
    let aside = undone_of s.at (k - 1) (course_of s) in
    record s { choices = aside.0.choices; at = aside.1 }

-- where it stands before the position
abbrev pub undo_of : ℕ → History → Result (History × Unit {0}) Fault
undo_of k s = if k == 0 || nat_lt s.at k then Err (NotIndependent k) else Ok (undone k s, tt)
