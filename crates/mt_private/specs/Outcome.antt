-- What a request comes to.
use Rattle.std.specs.Prelude.{◌⊎◌}
use Rattle.mt_tree.specs.declared.reply.Reply.{Reply}
use Rattle.mt_catalog.specs.State.{State}
use Rattle.mt_model.specs.Isolation.{service_rules}
use Rattle.mt_model.specs.Request.{Request}
use Rattle.mt_model.specs.Run.{IsStepped, IsForgone}
use Rattle.mt_model.specs.Service.{Service}
use Rattle.mt_private.specs.Kept.{AreKept, TableRows}

-- the request is answered, or forgone for want of memory
abbrev pub ComesTo : Service → Request → Reply → Service → Type 0
ComesTo service request reply next = IsStepped (service_rules.step service request) reply next ⊎ IsForgone service (service_rules.step service request) reply next

-- Whatever service is kept, the request is answered of it, and what is kept then stands for the next one.
abbrev pub IsAnswered : State → State → TableRows → TableRows → Request → Reply → Type 0
IsAnswered state after entries left request reply = (service : Service) → AreKept state entries service → (next : Service) × ComesTo service request reply next × AreKept after left next
