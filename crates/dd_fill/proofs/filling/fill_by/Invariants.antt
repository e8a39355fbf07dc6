use Rattle.dd_fill.proofs.filling.fill_by.Given as goal

-- the limit of the searches has the budget's number
abbrev pub ghosts-fill_within : goal.ghosts-fill_within
ghosts-fill_within g a = record { positions = a.budget }
