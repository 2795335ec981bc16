use Rattle.bx_board_tests.proofs.refused_calls.a_worker_who_lacks_memory_keeps_no_lease.Given as goal

-- the campaign of the book that was just opened
abbrev pub ghosts-served_by_two : goal.ghosts-served_by_two
ghosts-served_by_two g a = record { job = a.book.job }
