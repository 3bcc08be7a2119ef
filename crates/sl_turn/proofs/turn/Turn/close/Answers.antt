use Rattle.sl_turn.proofs.turn.Turn.close.Goals as goal

pub end-requires-clause-all : goal.end-requires-clause-all
end-requires-clause-all g c = rw (← c.pass.view_is) at c.requires.all
