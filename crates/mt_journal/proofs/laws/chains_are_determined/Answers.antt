use Rattle.mt_journal.proofs.Chains.{chain_unique, damaged_none}
use Rattle.mt_journal.proofs.Replaying.{replays_unique}
use Rattle.mt_journal.proofs.laws.chains_are_determined.Goals as goal

pub returns-clause-chain : goal.returns-clause-chain
returns-clause-chain c log groups other tail end one two = chain_unique log groups other tail end one two

pub returns-clause-damaged : goal.returns-clause-damaged
returns-clause-damaged c log groups tail damaged chain = damaged_none log groups tail damaged chain

pub returns-clause-replay : goal.returns-clause-replay
returns-clause-replay c disk pages other one two = replays_unique disk pages other one two
