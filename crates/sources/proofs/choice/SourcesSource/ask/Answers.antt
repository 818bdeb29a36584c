use Rattle.sources.proofs.choice.SourcesSource.ask.Goals as goal

pub returns-in-Both-clause-same : goal.returns-in-Both-clause-same
returns-in-Both-clause-same c = rw c.in-Both.is c.ask-in-Both.ensures.same

pub returns-in-Listed-clause-same : goal.returns-in-Listed-clause-same
returns-in-Listed-clause-same c = rw c.in-Listed.is c.ask.ensures.same
