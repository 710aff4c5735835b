use Rattle.reuse_folder.proofs.noted_listing.note_listing.Given as goal

abbrev pub ghost-note_list : goal.ghost-note_list
ghost-note_list g a = g.pruned
