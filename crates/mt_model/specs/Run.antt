-- A run: lines, what they say, the replies to them, and the service from line to line.
use Rattle.std.specs.Prelude.{◌≡◌, ◌⊎◌, ℕ, List, [], ◌∷◌, flat_map}
use Rattle.mt_tree.specs.declared.code.Code.TheVariants.{LineTooLong, LineNotReadable, UnknownTenant}
use Rattle.mt_tree.specs.declared.reply.Reply.{Reply}
use Rattle.mt_tree.specs.declared.reply.Reply.TheVariants.{Refused, Memory}
use Rattle.mt_tree.specs.Replies.{reply_bytes}
use Rattle.mt_script.specs.Lines.{Line}
use Rattle.mt_model.specs.Request.{Request}
use Rattle.mt_model.specs.Service.{Service}
use Rattle.mt_model.specs.Step.{Stepped}

-- Want of memory may be answered in the place of this reply: not of the three refusals that only
-- look at the bytes of a line and at its tag.
abbrev pub YieldsToMemory : Reply → Type 0
YieldsToMemory (Refused LineTooLong) = ⊥
YieldsToMemory (Refused LineNotReadable) = ⊥
YieldsToMemory (Refused UnknownTenant) = ⊥
YieldsToMemory reply = Unit {0}

-- the reply is that of the step, and the step is made
pub record IsStepped (stepped : Stepped) (reply : Reply) (next : Service) : Type 0 where
  pub reply_is : reply ≡ stepped.reply
  pub next_is : next ≡ stepped.next

-- the line is answered for want of memory, as if it had not been sent
pub record IsForgone (service : Service) (stepped : Stepped) (reply : Reply) (next : Service) : Type 0 where
  pub reply_is : reply ≡ Memory
  pub next_is : next ≡ service
  pub yields : YieldsToMemory stepped.reply

-- which lines say what, and what a request does
pub record Rules : Type 1 where
  pub says : Line → Request → Type 0
  pub step : Service → Request → Stepped

-- the line says the request; the reply to it, and the service after it
pub record Answers (rules : Rules) (service : Service) (line : Line) (request : Request) (reply : Reply) (next : Service) : Type 0 where
  pub said : rules.says line request
  pub outcome : IsStepped (rules.step service request) reply next ⊎ IsForgone service (rules.step service request) reply next

-- the lines say the requests; the replies to them, in order, and the service after them
abbrev pub IsRun : Rules → Service → List Line → List Request → List Reply → Service → Type 0
IsRun rules first [] [] [] last = last ≡ first
IsRun rules first (line ∷ lines) (request ∷ requests) (reply ∷ replies) last = (next : Service) × Answers rules first line request reply next × IsRun rules next lines requests replies last
IsRun rules first lines requests replies last = ⊥

-- what replies print, one after another
abbrev pub replies_bytes : List Reply → List ℕ
replies_bytes replies = flat_map reply_bytes replies
