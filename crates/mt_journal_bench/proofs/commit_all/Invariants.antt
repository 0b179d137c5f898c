-- The journal stands for the machine.
use Rattle.mt_journal.specs.Commits.{StandsFor}
use Rattle.mt_journal_bench.proofs.commit_all.Given as goal

abbrev pub invariant-loop : goal.invariant-loop
invariant-loop g l = StandsFor l.journal (g.M.Machine.meaning l.m)
