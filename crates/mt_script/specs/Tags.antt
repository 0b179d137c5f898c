-- The tag in front of a line: who sent it.
use Rattle.std.specs.Prelude.{◌≡◌, ℕ, ◌^◌, ◌<◌, ◌≤◌, true, List, [], ◌∷◌, ◌++◌, codes, decimal}
use Rattle.std.specs.Str.{IsUtf8}
use Rattle.mt_tree.specs.declared.who.Who.{Who}
use Rattle.mt_tree.specs.declared.who.Who.TheVariants.{Admin, Tenant}
use Rattle.mt_script.specs.Lines.{is_blank}

-- how a tag is written
abbrev pub tag_bytes : Who → List ℕ
tag_bytes Admin = codes "@admin"
tag_bytes (Tenant tenant) = 64 ∷ decimal tenant

-- a tenant's number is from 1 to 4,294,967,295
abbrev pub CanSend : Who → Type 0
CanSend Admin = Unit {0}
CanSend (Tenant tenant) = (1 ≤ tenant) × (tenant < 2 ^ 32)

-- a tag ends at a space, a tab or the line's end
abbrev pub EndsTag : List ℕ → Type 0
EndsTag [] = Unit {0}
EndsTag (b ∷ bs) = is_blank b ≡ true

-- The line is UTF-8, has this tag in front, and this text behind it.
pub record HasTag (bytes : List ℕ) (who : Who) (text : List ℕ) : Type 0 where
  pub utf8 : IsUtf8 bytes
  pub spelling : bytes ≡ tag_bytes who ++ text
  pub sender : CanSend who
  pub ends : EndsTag text
