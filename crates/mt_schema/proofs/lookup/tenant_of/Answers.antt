-- No tenant has a greater number.
use Rattle.std.proofs.Common.{sym, arith}
use Rattle.mt_schema.proofs.TenantNumbers.{number_past}
use Rattle.mt_schema.proofs.lookup.tenant_of.Goals as goal

pub returns-then-tenant-from : goal.returns-then-tenant-from
returns-then-tenant-from c = sym (number_past c.args.catalog.now c.requires c.args.tenant (omega (arith, c.if-tenant-from.true, c.from.ensures)))
