use Rattle.text.proofs.put.Page.+spell.Given as goal

abbrev pub decreases-spell : goal.decreases-spell
decreases-spell l = l.places
