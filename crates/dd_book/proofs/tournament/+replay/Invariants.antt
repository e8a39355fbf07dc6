use Rattle.dd_book.proofs.tournament.+replay.Given as goal

abbrev pub decreases-replay : goal.decreases-replay
decreases-replay l = l.place
