use Rattle.paged_opening.proofs.opening.open.Given as goal

-- the rows begin faithful where the disk tells of its pages
abbrev pub ghosts-page_in : goal.ghosts-page_in
ghosts-page_in g a = record { faithful = (g.D.Disk.story a.disk.now).tells 1 }
