use Rattle.bx_board.proofs.campaigns.campaign.Given as goal

-- the campaign of the book that was just opened
abbrev pub ghosts-served : goal.ghosts-served
ghosts-served g a = record { job = a.book.job }
