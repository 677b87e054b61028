use Rattle.cy_recording.proofs.same.compared_at.Given as goal

abbrev pub ghosts-compared_with : goal.ghosts-compared_with
ghosts-compared_with g a = record { name = a.lent.name.now; start = g.S.Store.shows a.lent.store.now; lender = a.lent.store.ghost_name }
