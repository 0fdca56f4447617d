-- `take` is right: where the words were surely taken, their goal is attained.
use Rattle.commands.proofs.take.Goals as goal

pub returns-in-Some-clause-attained : goal.returns-in-Some-clause-attained
returns-in-Some-clause-attained c = c.goal_of.ensures.attained _ _ _ c.in-Some.ensures.reaches
