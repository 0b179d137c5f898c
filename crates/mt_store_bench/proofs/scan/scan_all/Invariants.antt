-- The tables can be scanned again.
use Rattle.mt_store_bench.proofs.scan.scan_all.Given as goal

abbrev pub invariant-loop-tenant : goal.invariant-loop-tenant
invariant-loop-tenant g l = g.P.Phys.ready l.phys
