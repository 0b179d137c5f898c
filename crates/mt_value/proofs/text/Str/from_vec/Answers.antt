-- A String is UTF-8.
use Rattle.std.proofs.Common.{subst}
use Rattle.std.specs.Str.{IsUtf8}
use Rattle.std.proofs.lemmas.Str.{IsUtf8-string_bytes}
use Rattle.mt_value.proofs.text.Str.from_vec.Goals as goal

pub returns-in-Ok-clause-utf8 : goal.returns-in-Ok-clause-utf8
returns-in-Ok-clause-utf8 c = subst (λ v. IsUtf8 v.items) c.in-Ok.ensures.ok (IsUtf8-string_bytes c.in-Ok.text)
