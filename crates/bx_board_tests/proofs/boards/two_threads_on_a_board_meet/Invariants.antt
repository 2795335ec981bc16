use Rattle.bx_board_tests.proofs.boards.two_threads_on_a_board_meet.Given as goal

-- the campaign of the book that was just opened
abbrev pub ghosts-served_by_two : goal.ghosts-served_by_two
ghosts-served_by_two g a = record { job = a.book.job }
