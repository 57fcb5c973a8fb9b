use Rattle.flow_expand.proofs.meaning.+meant.Given as goal

abbrev pub decreases-meant : goal.decreases-meant
decreases-meant l = l.levels
